-- Where the rows of effects in a type are even, an effect may stand before a tail that has it too: what the type becomes is
-- the same as where what stands for the tail is taken without it.
use Rattle.std.proofs.Common.{◌≡◌, ℕ, Bool, true, false, ◌||◌, List, [], ◌∷◌, map, flat_map, refl, sym, ap, ap₂, subst, ◌∙◌, Option, Some, None, if◌then◌else◌}
use Rattle.std.specs.List.{list_any}
use Rattle.std.specs.Option.{option_map}
use Rattle.lk_types.proofs.Agreement.{under_rolled, under_rolled_row, under_rolled_field}
use Rattle.lk_types.proofs.Members.{each_front, each_back}
use Rattle.lk_types.proofs.Parts.{same_some}
use Rattle.lk_types.proofs.SameEffect.{effects_turned, effect_self}
use Rattle.lk_types.specs.Each.{Each}
use Rattle.lk_types.specs.Grounding.{Grounding, Known, under, row_under, field_under, ty_level, row_level, field_level, before_row, row_tail, effect_tail, before_effects, all_of, function_of}
use Rattle.lk_types.specs.Rows.{Row, EffectSet, no_effects, same_effect, with_effect, fields_of}
use Rattle.lk_types.specs.declared.ground.Ground.{Ground}
use Rattle.lk_types.specs.declared.ground.Ground.TheVariants as known
use Rattle.lk_types.specs.declared.ty.Effect.{Effect}
use Rattle.lk_types.specs.declared.ty.Effects.{Effects}
use Rattle.lk_types.specs.declared.ty.RowTail.{RowTail}
use Rattle.lk_types.specs.declared.ty.RowTail.TheVariants.{Closed, Var}
use Rattle.lk_types.specs.declared.ty.Ty.{Ty, roll-Ty}
use Rattle.lk_types.specs.declared.ty.Ty.TheFolds.{the_lemmas, ind-Ty, map-Ty, fold-roll-Ty, fold-roll-TyRow, fold-roll-TyField}
use Rattle.lk_types.specs.declared.ty.Ty.TheOpen.{Ty-F, TyField-F, TyRow-F}
use Rattle.lk_types.specs.declared.ty.Ty.TheVariants as ty
use Rattle.lk_types.specs.declared.ty.TyField.{TyField, roll-TyField, fold-TyField}
use Rattle.lk_types.specs.declared.ty.TyRow.{TyRow, roll-TyRow, fold-TyRow}
use Rattle.lk_typing.proofs.Nodes.{there_is}
use Rattle.lk_typing.specs.EffectRows.{ty_rows, row_rows, field_rows, rows_of, HasBefore, IsEven, IsEvenSaid, AreEven, union, loose_level, loosely, HoldsLoosely, MeetsLoosely, apart}
use Rattle.lk_typing.specs.Steps.{Holds, Meets}
use Rattle.lk_typing.specs.declared.step.Said.{Said}
use Rattle.lk_typing.specs.declared.step.Said.TheVariants.{Same, Typed}
use Rattle.lk_typing.specs.declared.step.Step.{Step}

-- ---- sets of effects

-- the set without those
abbrev minus : EffectSet → EffectSet → EffectSet
minus p s e = if p e then false else s e

-- one effect more before others
one_before : (l : Effect) (ls : List Effect) (s : EffectSet) (x : Effect) → (same_effect l x || union ls s x) ≡ union (l ∷ ls) s x
one_before l ls s x = by_test (same_effect l x) (list_any (same_effect x) ls) (s x) (same_effect x l) (effects_turned l x)
  where
    by_test : (a b c d : Bool) → a ≡ d → (a || (b || c)) ≡ ((d || b) || c)
    by_test true b c true is = refl
    by_test true b c false is = cc
    by_test false b c true is = cc
    by_test false b c false is = refl

-- what an effect is before
record Before (l : Effect) (o : Option EffectSet) (p : EffectSet) : Type 0 where
  others : EffectSet
  are : o ≡ Some others
  lack : others l ≡ false
  with : p ≡ (λ x. same_effect l x || others x)

was_before : (l : Effect) (o : Option EffectSet) (p : EffectSet) → with_effect l o ≡ Some p → Before l o p
was_before l None p is = cc
was_before l (Some q) p is = by_test (q l) refl
  where
    by_test : (b : Bool) → q l ≡ b → Before l (Some q) p
    by_test true has = let none : None ≡ Some p = sym (ap (λ b. if b then None else Some (λ x. same_effect l x || q x)) has) ∙ is in cc
    by_test false lacks =
        let some : Some p ≡ Some (λ x. same_effect l x || q x) = sym is ∙ ap (λ b. if b then None else Some (λ x. same_effect l x || q x)) lacks in
        record { others = q; are = refl; lack = lacks; with = same_some some }

-- effects with none of them twice are their union
pub is_union : (ls : List Effect) (s p : EffectSet) → before_effects ls s ≡ Some p → p ≡ union ls s
is_union [] s p is = sym (same_some is)
is_union (l ∷ ls) s p is =
    let b : Before l (before_effects ls s) p = was_before l (before_effects ls s) p is in
    let q : b.others ≡ union ls s = is_union ls s b.others b.are in
    b.with ∙ ap (λ u x. same_effect l x || u x) q ∙ (λ i x. one_before l ls s x i)

-- taken away and put before again, they are the union
pub put_before : (ls : List Effect) (p s : EffectSet) → before_effects ls no_effects ≡ Some p → before_effects ls (minus p s) ≡ Some (union ls s)
put_before [] p s is = ap (λ q. Some (minus q s)) (sym (same_some is))
put_before (l ∷ ls) p s is =
    let b : Before l (before_effects ls no_effects) p = was_before l (before_effects ls no_effects) p is in
    let q : EffectSet = b.others in
    let rest : EffectSet = minus (same_effect l) s in
    let known : q ≡ union ls no_effects = is_union ls no_effects q b.are in
    let apart_is : minus p s ≡ minus q rest = ap (λ u. minus u s) b.with ∙ (λ i x. both_gone (same_effect l x) (q x) (s x) i) in
    let others : before_effects ls (minus p s) ≡ Some (union ls rest) = ap (before_effects ls) apart_is ∙ put_before ls q rest b.are in
    let none : union ls rest l ≡ false = lacking (list_any (same_effect l) ls) (same_effect l l) (s l) (sym (ap (λ u. u l) known) ∙ b.lack) (effect_self l) in
    ap (with_effect l) others ∙ ap (λ c. if c then None else Some (λ x. same_effect l x || union ls rest x)) none
    ∙ ap (λ u. Some u) (λ i x. (back (same_effect l x) (list_any (same_effect x) ls) (s x) ∙ one_before l ls s x) i)
  where
    both_gone : (a b c : Bool) → (if a || b then false else c) ≡ (if b then false else (if a then false else c))
    both_gone true true c = refl
    both_gone true false c = refl
    both_gone false b c = refl

    lacking : (a b c : Bool) → (a || false) ≡ false → b ≡ true → (a || (if b then false else c)) ≡ false
    lacking true b c is there_is = cc
    lacking false true c is there_is = refl
    lacking false false c is there_is = cc

    back : (a b c : Bool) → (a || (b || (if a then false else c))) ≡ (a || (b || c))
    back true b c = refl
    back false b c = refl

none_apart : (p : EffectSet) → minus p no_effects ≡ no_effects
none_apart p = λ i x. by_test (p x) i
  where
    by_test : (b : Bool) → (if b then false else false) ≡ false
    by_test true = refl
    by_test false = refl

-- ---- one level

unfoldable pub rows_of_row : TyRow → List Effects
rows_of_row = fold-TyRow (List Effects) (List Effects) (List Effects) ty_rows field_rows row_rows

unfoldable pub rows_of_field : TyField → List Effects
rows_of_field = fold-TyField (List Effects) (List Effects) (List Effects) ty_rows field_rows row_rows

unfoldable loosely_row : Grounding → TyRow → Option Row
loosely_row σ = fold-TyRow (Option Ground) Known (Option Row) (loose_level σ) (field_level σ) (row_level σ)

unfoldable loosely_field : Grounding → TyField → Known
loosely_field σ = fold-TyField (Option Ground) Known (Option Row) (loose_level σ) (field_level σ) (row_level σ)

loosely_rolled : (σ : Grounding) (x : Ty-F Ty TyField TyRow) → loosely σ (roll-Ty x) ≡ loose_level σ (map-Ty Ty TyField TyRow (Option Ground) Known (Option Row) (loosely σ) (loosely_field σ) (loosely_row σ) x)
unfolding loosely loosely_field loosely_row
loosely_rolled σ x = fold-roll-Ty (Option Ground) Known (Option Row) (loose_level σ) (field_level σ) (row_level σ) x

loosely_rolled_row : (σ : Grounding) (x : TyRow-F Ty TyField TyRow) → loosely_row σ (roll-TyRow x) ≡ before_row (map (loosely_field σ) x.fields) (row_tail σ x.tail)
unfolding loosely loosely_field loosely_row
loosely_rolled_row σ x = fold-roll-TyRow (Option Ground) Known (Option Row) (loose_level σ) (field_level σ) (row_level σ) x

loosely_rolled_field : (σ : Grounding) (x : TyField-F Ty TyField TyRow) → loosely_field σ (roll-TyField x) ≡ (x.label, loosely σ x.ty)
unfolding loosely loosely_field loosely_row
loosely_rolled_field σ x = fold-roll-TyField (Option Ground) Known (Option Row) (loose_level σ) (field_level σ) (row_level σ) x

pub rows_rolled : (x : Ty-F Ty TyField TyRow) → rows_of (roll-Ty x) ≡ ty_rows (map-Ty Ty TyField TyRow (List Effects) (List Effects) (List Effects) rows_of rows_of_field rows_of_row x)
unfolding rows_of rows_of_field rows_of_row
rows_rolled x = fold-roll-Ty (List Effects) (List Effects) (List Effects) ty_rows field_rows row_rows x

pub rows_variable : (n : ℕ) → rows_of (ty.Var n) ≡ []
unfolding rows_of
rows_variable n = search the_lemmas

pub rows_rolled_row : (x : TyRow-F Ty TyField TyRow) → rows_of_row (roll-TyRow x) ≡ flat_map (λ rows. rows) (map rows_of_field x.fields)
unfolding rows_of rows_of_field rows_of_row
rows_rolled_row x = fold-roll-TyRow (List Effects) (List Effects) (List Effects) ty_rows field_rows row_rows x

pub rows_rolled_field : (x : TyField-F Ty TyField TyRow) → rows_of_field (roll-TyField x) ≡ rows_of x.ty
unfolding rows_of rows_of_field rows_of_row
rows_rolled_field x = fold-roll-TyField (List Effects) (List Effects) (List Effects) ty_rows field_rows row_rows x

-- ---- types

module _ (before : ℕ → EffectSet) (σ : Grounding) where
  effects_same : (es : Effects) → HasBefore before es.labels es.tail → before_effects es.labels (effect_tail (apart before σ) es.tail) ≡ Some (union es.labels (effect_tail σ es.tail))
  effects_same es has = by_tail es.tail has
    where
      by_tail : (tail : RowTail) → HasBefore before es.labels tail → before_effects es.labels (effect_tail (apart before σ) tail) ≡ Some (union es.labels (effect_tail σ tail))
      by_tail Closed some =
          let found : (p : EffectSet) × (before_effects es.labels no_effects ≡ Some p) = there_is (before_effects es.labels no_effects) some in
          ap (before_effects es.labels) (sym (none_apart found.0)) ∙ put_before es.labels found.0 no_effects found.1
      by_tail (Var n) is = put_before es.labels (before n) (σ.effects n) is

  abbrev Even : List Effects → Type 0
  Even rows = Each (λ es. HasBefore before es.labels es.tail) rows

  abbrev TySame : Ty → Type 0
  TySame t = Even (rows_of t) → under (apart before σ) t ≡ loosely σ t

  abbrev RowSame : TyRow → Type 0
  RowSame r = Even (rows_of_row r) → row_under (apart before σ) r ≡ loosely_row σ r

  abbrev FieldSame : TyField → Type 0
  FieldSame f = Even (rows_of_field f) → field_under (apart before σ) f ≡ loosely_field σ f

  abbrev Such : Type 0
  Such = (t : Ty) × TySame t

  abbrev SuchRow : Type 0
  SuchRow = (r : TyRow) × RowSame r

  abbrev SuchField : Type 0
  SuchField = (f : TyField) × FieldSame f

  tail_same : (tail : RowTail) → row_tail (apart before σ) tail ≡ row_tail σ tail
  tail_same Closed = refl
  tail_same (Var n) = refl

  types_same : (ts : List Such) → Even (flat_map (λ rows. rows) (map rows_of (map (λ t. t.0) ts))) → map (under (apart before σ)) (map (λ t. t.0) ts) ≡ map (loosely σ) (map (λ t. t.0) ts)
  types_same [] all = refl
  types_same (t ∷ ts) all = ap₂ (λ a more. a ∷ more) (t.1 (each_front (λ es. HasBefore before es.labels es.tail) (rows_of t.0) _ all)) (types_same ts (each_back (λ es. HasBefore before es.labels es.tail) (rows_of t.0) _ all))

  fields_same : (fs : List SuchField) → Even (flat_map (λ rows. rows) (map rows_of_field (map (λ f. f.0) fs))) → map (field_under (apart before σ)) (map (λ f. f.0) fs) ≡ map (loosely_field σ) (map (λ f. f.0) fs)
  fields_same [] all = refl
  fields_same (f ∷ fs) all = ap₂ (λ a more. a ∷ more) (f.1 (each_front (λ es. HasBefore before es.labels es.tail) (rows_of_field f.0) _ all)) (fields_same fs (each_back (λ es. HasBefore before es.labels es.tail) (rows_of_field f.0) _ all))

  abbrev plain_level : Ty-F Such SuchField SuchRow → Ty-F Ty TyField TyRow
  plain_level = map-Ty Such SuchField SuchRow Ty TyField TyRow (λ t. t.0) (λ f. f.0) (λ r. r.0)

  abbrev LevelSame : Ty-F Ty TyField TyRow → Type 0
  LevelSame x = Even (ty_rows (map-Ty Ty TyField TyRow (List Effects) (List Effects) (List Effects) rows_of rows_of_field rows_of_row x))
      → ty_level (apart before σ) (map-Ty Ty TyField TyRow (Option Ground) Known (Option Row) (under (apart before σ)) (field_under (apart before σ)) (row_under (apart before σ)) x)
      ≡ loose_level σ (map-Ty Ty TyField TyRow (Option Ground) Known (Option Row) (loosely σ) (loosely_field σ) (loosely_row σ) x)

  level_same : (y : Ty-F Such SuchField SuchRow) → LevelSame (plain_level y)
  level_same Ty-F.Int all = refl
  level_same Ty-F.Bool all = refl
  level_same Ty-F.Text all = refl
  level_same (Ty-F.List t) all = ap (option_map known.List) (t.1 all)
  level_same (Ty-F.Fields r) all = ap (option_map (λ m. known.Fields (fields_of m))) (r.1 all)
  level_same (Ty-F.Tags r) all = ap (option_map (λ m. known.Tags (fields_of m))) (r.1 all)
  level_same (Ty-F.Fun ps es t) all =
      let params : List Effects = flat_map (λ rows. rows) (map rows_of (map (λ p. p.0) ps)) in
      let last : Even (es ∷ rows_of t.0) = each_back (λ es. HasBefore before es.labels es.tail) params (es ∷ rows_of t.0) all in
      let front : Even params = each_front (λ es. HasBefore before es.labels es.tail) params (es ∷ rows_of t.0) all in
      λ i. function_of (all_of (types_same ps front i)) (effects_same es last.0 i) (t.1 last.1 i)
  level_same (Ty-F.Var n) all = refl

  ty_same : (y : Ty-F Such SuchField SuchRow) → TySame (roll-Ty (plain_level y))
  ty_same y all = under_rolled (apart before σ) _ ∙ level_same y (subst Even (rows_rolled (plain_level y)) all) ∙ sym (loosely_rolled σ (plain_level y))

  row_same : (y : TyRow-F Such SuchField SuchRow) → RowSame (roll-TyRow (record { fields = map (λ f. f.0) y.fields; tail = y.tail }))
  row_same y all =
      under_rolled_row (apart before σ) _
      ∙ ap₂ before_row (fields_same y.fields (subst Even (rows_rolled_row _) all)) (tail_same y.tail)
      ∙ sym (loosely_rolled_row σ _)

  field_same : (y : TyField-F Such SuchField SuchRow) → FieldSame (roll-TyField (record { label = y.label; ty = y.ty.0 }))
  field_same y all = under_rolled_field (apart before σ) _ ∙ ap (λ t. (y.label, t)) (y.ty.1 (subst Even (rows_rolled_field _) all)) ∙ sym (loosely_rolled_field σ _)

  -- where the rows are even, the type becomes the same
  pub same_loosely : (t : Ty) → IsEven before t → under (apart before σ) t ≡ loosely σ t
  same_loosely = ind-Ty TySame FieldSame RowSame
      (λ x y is. subst (λ z. TySame (roll-Ty z)) is (ty_same y))
      (λ x y is. subst (λ z. FieldSame (roll-TyField z)) is (field_same y))
      (λ x y is. subst (λ z. RowSame (roll-TyRow z)) is (row_same y))

  said_holds : (said : Said) → IsEvenSaid before said → HoldsLoosely σ said → Holds (apart before σ) said
  said_holds (Same equation) even holds = (holds.0, same_loosely equation.left even.0 ∙ holds.1, same_loosely equation.right even.1 ∙ holds.2)
  said_holds (Typed n t) even holds = (holds.0, same_loosely (ty.Var n) (subst Even (sym (rows_variable n)) tt) ∙ holds.1, same_loosely t even ∙ holds.2)

  -- where the rows are even, all holds that holds of unions
  pub holds_loosely : (steps : List Step) → AreEven before steps → MeetsLoosely σ steps → Meets (apart before σ) steps
  holds_loosely [] even holds = tt
  holds_loosely (step ∷ steps) even holds = (said_holds step.said even.0 holds.0, holds_loosely steps even.1 holds.1)
