-- Effects are known from their row, and one effect more is one field more.
use Rattle.std.proofs.Common.{◌≡◌, Bool, true, false, ⊎_elim, List, [], ◌∷◌, map, Option, Some, None, refl, sym, ◌∙◌, ap, ◌||◌}
use Rattle.std.specs.Cmp.Lexicographic.{bytes_decides}
use Rattle.std.specs.FinMap as fin
use Rattle.std.specs.Option.{option_map}
use Rattle.std.specs.Prelude.{is_some, if◌then◌else◌}
use Rattle.std.specs.Str.{bytes_eq}
use Rattle.lk_types.specs.Grounding.{before_effects}
use Rattle.lk_types.specs.Rows.{EffectSet, with_effect, same_effect}
use Rattle.lk_types.specs.TypeText.{effect_word}
use Rattle.lk_types.specs.declared.ty.Effect.{Effect}
use Rattle.lk_types.specs.declared.ty.Effect.TheVariants.{Local, Move, Print, Rec, Scan, Trap, Write}
use Rattle.lk_types.specs.declared.ty.RowTail.{RowTail}
use Rattle.lk_unify.proofs.EffectRows.{IsEffectRow-insert, set_in, its_effects}
use Rattle.lk_unify.proofs.EffectSets.{IsEffectRow-effect_row, set_in-effect_row}
use Rattle.lk_arena.proofs.RowAlgebra.{one_more, label_cases}
use Rattle.lk_unify.proofs.RowsBefore.{hit, miss}
use Rattle.lk_arena.specs.Openings.{OpenEffects, Opened, unit_type, with_opened, before_open, before_open_effects}
use Rattle.lk_arena.specs.Values.{effect_row}

-- ---- the names of effects

same_words : (e x : Effect) → same_effect e x ≡ bytes_eq (effect_word x) (effect_word e)
same_words Local Local = refl
same_words Local Move = refl
same_words Local Print = refl
same_words Local Rec = refl
same_words Local Scan = refl
same_words Local Trap = refl
same_words Local Write = refl
same_words Move Local = refl
same_words Move Move = refl
same_words Move Print = refl
same_words Move Rec = refl
same_words Move Scan = refl
same_words Move Trap = refl
same_words Move Write = refl
same_words Print Local = refl
same_words Print Move = refl
same_words Print Print = refl
same_words Print Rec = refl
same_words Print Scan = refl
same_words Print Trap = refl
same_words Print Write = refl
same_words Rec Local = refl
same_words Rec Move = refl
same_words Rec Print = refl
same_words Rec Rec = refl
same_words Rec Scan = refl
same_words Rec Trap = refl
same_words Rec Write = refl
same_words Scan Local = refl
same_words Scan Move = refl
same_words Scan Print = refl
same_words Scan Rec = refl
same_words Scan Scan = refl
same_words Scan Trap = refl
same_words Scan Write = refl
same_words Trap Local = refl
same_words Trap Move = refl
same_words Trap Print = refl
same_words Trap Rec = refl
same_words Trap Scan = refl
same_words Trap Trap = refl
same_words Trap Write = refl
same_words Write Local = refl
same_words Write Move = refl
same_words Write Print = refl
same_words Write Rec = refl
same_words Write Scan = refl
same_words Write Trap = refl
same_words Write Write = refl

-- ---- one effect more

with_one : (e : Effect) (s : OpenEffects) (x : Effect) → set_in (one_more (effect_row s) (effect_word e) unit_type) x ≡ (same_effect e x || s.labels x)
with_one e s x =
    ⊎_elim
    (λ (h : (bytes_eq (effect_word x) (effect_word e) ≡ true) × (effect_word x ≡ effect_word e)).
    ap is_some (hit (effect_row s).fields (effect_word e) unit_type (effect_word x) h.1) ∙ sym (ap (λ b. b || s.labels x) (same_words e x ∙ h.0)))
    (λ (h : bytes_eq (effect_word x) (effect_word e) ≡ false).
    ap is_some (miss (effect_row s).fields (effect_word e) unit_type (effect_word x)
    (λ same. (let t : false ≡ true = sym h ∙ (bytes_decides (effect_word x) (effect_word e)).1 same in cc)))
    ∙ set_in-effect_row s x ∙ sym (ap (λ b. b || s.labels x) (same_words e x ∙ h)))
    (label_cases (effect_word x) (effect_word e))

-- the effects with this end
abbrev ended : RowTail → EffectSet → OpenEffects
ended tail labels = record { labels = labels; tail = tail }

insert_effect : (e : Effect) (s : OpenEffects) → one_more (effect_row s) (effect_word e) unit_type ≡ effect_row (ended s.tail (λ x. same_effect e x || s.labels x))
insert_effect e s =
    its_effects (one_more (effect_row s) (effect_word e) unit_type) (IsEffectRow-insert (effect_row s) (effect_word e) (e, refl) (IsEffectRow-effect_row s))
    ∙ (λ i. effect_row (ended s.tail (λ x. with_one e s x i)))

-- an effect as a field whose type is known
abbrev pub known_effect : Effect → Opened
known_effect e = (effect_word e, Some unit_type)

one_effect : (e : Effect) (tail : RowTail) (o : Option EffectSet) → with_opened (effect_word e) (Some unit_type) (option_map effect_row (option_map (ended tail) o))
    ≡ option_map effect_row (option_map (ended tail) (with_effect e o))
one_effect e tail None = refl
one_effect e tail (Some s) = by_test (s e) (set_in-effect_row (ended tail s) e)
  where
    by_test : (b : Bool) → fin.contains_key (effect_row (ended tail s)).fields (effect_word e) ≡ b
        → with_opened (effect_word e) (Some unit_type) (Some (effect_row (ended tail s)))
        ≡ option_map effect_row (option_map (ended tail) (if b then None else Some (λ x. same_effect e x || s x)))
    by_test true is = ap (λ b. if b then None else Some (one_more (effect_row (ended tail s)) (effect_word e) unit_type)) is
    by_test false is =
        ap (λ b. if b then None else Some (one_more (effect_row (ended tail s)) (effect_word e) unit_type)) is ∙ ap Some (insert_effect e (ended tail s))

-- the row of effects with more of them before it
pub before_effect_row : (es : List Effect) (s : OpenEffects) → before_open (map known_effect es) (effect_row s) ≡ option_map effect_row (before_open_effects es s)
before_effect_row [] s = refl
before_effect_row (e ∷ es) s =
    ap (with_opened (effect_word e) (Some unit_type)) (before_effect_row es s) ∙ one_effect e s.tail (before_effects es s.labels)
