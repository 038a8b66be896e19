-- Ground types that are the same have the same parts, and what the types of small schemes become.
use Rattle.std.proofs.Common.{◌≡◌, Bool, true, false, List, [], ◌∷◌, map, refl, sym, ap, ◌∙◌, Some, None, is_some, if◌then◌else◌}
use Rattle.std.specs.FinMap as fin
use Rattle.std.specs.List.{list_any}
use Rattle.lk_types.specs.Grounding.{Grounding, under, effects_under}
use Rattle.lk_types.specs.Rows.{Label, Row, EffectSet, label_order, no_fields, has_label, with_field, fields_of, effects_of, same_effect}
use Rattle.lk_types.specs.declared.ground.Ground.{Ground, out-Ground}
use Rattle.lk_types.specs.declared.ground.Ground.TheOpen.{Ground-F}
use Rattle.lk_types.specs.declared.ground.Ground.TheVariants as known
use Rattle.lk_types.specs.declared.ground.GroundField.{GroundField}
use Rattle.lk_types.specs.declared.ty.Effect.{Effect}
use Rattle.lk_types.specs.declared.ty.Effects.{Effects}
use Rattle.lk_types.specs.declared.ty.Ty.{Ty}
use Rattle.lk_types.specs.declared.ty.Ty.TheVariants as ty
use Rattle.lk_typing.proofs.EffectRows.{in_list}
use Rattle.lk_typing.proofs.Inverses.{function_was}
use Rattle.lk_typing.proofs.Operators.{known_first, known_none}
use Rattle.lk_typing.proofs.Values.{function_is}
use Rattle.lk_typing.specs.Types.{record_of, function_of}

-- ---- the same parts

fields_back : (es : List (Label × Ground)) → map (λ (f : GroundField). (f.label, f.ty)) (map (λ (e : Label × Ground). record { label = e.0; ty = e.1 }) es) ≡ es
fields_back [] = refl
fields_back (e ∷ es) = ap (λ rest. e ∷ rest) (fields_back es)

abbrev fields_in : Ground-F Ground GroundField → List GroundField
fields_in (Ground-F.Fields fs) = fs
fields_in other = []

pub same_row : (r s : Row) → record_of r ≡ record_of s → r ≡ s
same_row r s is =
    let fields : fields_of r ≡ fields_of s = sym (ap fields_in (known.outs-Fields (fields_of r))) ∙ ap (λ t. fields_in (out-Ground t)) is ∙ ap fields_in (known.outs-Fields (fields_of s)) in
    fin.same_entries_map r s (sym (fields_back (fin.entries r)) ∙ ap (map (λ (f : GroundField). (f.label, f.ty))) fields ∙ fields_back (fin.entries s))

abbrev params_in : Ground-F Ground GroundField → List Ground
params_in (Ground-F.Fun params es answer) = params
params_in other = []

abbrev effects_in : Ground-F Ground GroundField → List Effect
effects_in (Ground-F.Fun params es answer) = es
effects_in other = []

abbrev answer_in : Ground → Ground-F Ground GroundField → Ground
answer_in t (Ground-F.Fun params es answer) = answer
answer_in t other = t

module _ (ps qs : List Ground) (r s : EffectSet) (a b : Ground) (is : function_of ps r a ≡ function_of qs s b) where
  part : {A : Type 0} (f : Ground-F Ground GroundField → A) → f (Ground-F.Fun ps (effects_of r) a) ≡ f (Ground-F.Fun qs (effects_of s) b)
  part f = sym (ap f (known.outs-Fun ps (effects_of r) a)) ∙ ap (λ t. f (out-Ground t)) is ∙ ap f (known.outs-Fun qs (effects_of s) b)

  pub same_params : ps ≡ qs
  same_params = part params_in

  pub same_answer : a ≡ b
  same_answer = part (answer_in a)

  pub same_effects : r ≡ s
  same_effects i e = (sym (in_list r e) ∙ ap (list_any (same_effect e)) (part effects_in) ∙ in_list s e) i

-- ---- one field

pub added : (l : Label) (t : Ground) (row : Row) → has_label row l ≡ false → with_field l (Some t) (Some row) ≡ Some (fin.insert row l t)
added l t row lacks = ap (λ b. if b then None else Some (fin.insert row l t)) lacks

-- no fields have no label
pub bare : (l : Label) → has_label no_fields l ≡ false
bare l = ap is_some (fin.get-empty label_order l)

pub was_lacking : (l : Label) (t : Ground) (row longer : Row) → with_field l (Some t) (Some row) ≡ Some longer → has_label row l ≡ false
was_lacking l t row longer is = by_test (has_label row l) is
  where
    by_test : (b : Bool) → (if b then None else Some (fin.insert row l t)) ≡ Some longer → b ≡ false
    by_test true wrong = absurd cc
    by_test false right = refl

-- ---- functions with one parameter

-- these stand for all variables
abbrev pub standing : Ground → Row → EffectSet → Grounding
standing t row s = record { plain = λ n. t; rows = λ n. row; effects = λ n. s }

module _ (σ : Grounding) (t u : Ty) (es : Effects) where
  pub one_to_is : {p a : Ground} {s : EffectSet} → under σ t ≡ Some p → effects_under σ es ≡ Some s → under σ u ≡ Some a → under σ (ty.Fun (t ∷ []) es u) ≡ Some (function_of (p ∷ []) s a)
  one_to_is {p} {a} {s} param effects answer = function_is σ (t ∷ []) (p ∷ []) es s u a (ap (λ o. o ∷ []) param) (record { same = effects }) answer

  pub record OneTo (g : Ground) : Type 0 where
    pub p : Ground
    pub s : EffectSet
    pub a : Ground
    pub param : under σ t ≡ Some p
    pub effects : effects_under σ es ≡ Some s
    pub answer : under σ u ≡ Some a
    pub is : g ≡ function_of (p ∷ []) s a

  pub one_to_was : (g : Ground) → under σ (ty.Fun (t ∷ []) es u) ≡ Some g → OneTo g
  one_to_was g is =
      let f = function_was σ (t ∷ []) es u g is in
      known_first σ (λ ts. g ≡ function_of ts f.s f.a → OneTo g) t [] f.ts f.params
      (λ p ps param rest whole. record { p = p; s = f.s; a = f.a; param = param; effects = f.same.same; answer = f.answer; is = whole ∙ ap (λ qs. function_of (p ∷ qs) f.s f.a) (known_none σ ps rest) }) f.is
