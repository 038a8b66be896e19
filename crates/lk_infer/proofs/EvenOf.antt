-- A type that becomes the same where each tail of effects stands for all seven, loosely, and elsewhere strictly is even: before
-- each tail stand just the effects that aren't among what stands for it elsewhere.
use Rattle.std.proofs.Common.{◌≡◌, ℕ, Bool, true, false, ◌||◌, not, ⊎_elim, List, [], ◌∷◌, ◌++◌, map, refl, sym, subst, ◌∙◌, ap, Some, None, is_some}
use Rattle.std.specs.FinMap as fin
use Rattle.std.specs.List.{list_any}
use Rattle.std.specs.Prelude.{flat_map}
use Rattle.lk_types.proofs.Members.{each_both}
use Rattle.lk_types.proofs.Parts.{same_some, mapped, all_some, function_some, row_rolled, with_one}
use Rattle.lk_types.proofs.Unfold.{under_fields, under_function, under_list, under_tags}
use Rattle.lk_types.specs.Each.{Each}
use Rattle.lk_types.specs.Grounding.{Grounding, all_of, before_effects, before_row, effect_tail, effects_under, row_tail, row_under, under}
use Rattle.lk_types.specs.Rows.{EffectSet, Label, Row, fields_of, no_effects, same_effect}
use Rattle.lk_types.specs.declared.ground.Ground.{Ground}
use Rattle.lk_types.specs.declared.ground.Ground.TheVariants as known
use Rattle.lk_types.specs.declared.ty.Effect.{Effect}
use Rattle.lk_types.specs.declared.ty.Effects.{Effects}
use Rattle.lk_types.specs.declared.ty.RowTail.{RowTail}
use Rattle.lk_types.specs.declared.ty.RowTail.TheVariants.{Closed, Var}
use Rattle.lk_types.specs.declared.ty.Ty.{Ty}
use Rattle.lk_types.specs.declared.ty.Ty.TheVariants as ty
use Rattle.lk_types.specs.declared.ty.TyField.{TyField}
use Rattle.lk_types.specs.declared.ty.TyRow.{TyRow, roll-TyRow}
use Rattle.lk_typing.proofs.Even.Loose.{is_union, rows_variable}
use Rattle.lk_typing.specs.EffectRows.{HasBefore, IsEven, loosely, rows_of, union}
use Rattle.lk_typing.proofs.Sound.Queries.{list_same}
use Rattle.lk_types.proofs.LabelMaps.{Differ, Tied, get_here, get_there, tie_cases}
use Rattle.lk_types.proofs.TypeInduction.{Hereditary, every_type}
use Rattle.lk_infer.proofs.GroundParts.{same_answer, same_fields, same_params, same_set, same_tags}
use Rattle.lk_infer.proofs.LooseUnfold.{field_loosely, loosely_fields, loosely_function, loosely_list, loosely_row, loosely_tags, row_loosely, rows_bool}
use Rattle.lk_infer.proofs.LooseUnfold.{rows_fields, rows_function, rows_int, rows_list, rows_of_row, rows_row, rows_tags, rows_text}
use Rattle.lk_infer.proofs.Unions.{alone_too, none_behind}

-- ---- the same fields

-- where both rows have a field, it is the same
abbrev Together : Row → Row → Type 0
Together m n = (l : Label) (g h : Ground) → fin.get m l ≡ Some g → fin.get n l ≡ Some h → g ≡ h

none_some : {A B : Type 0} (x : A) → None ≡ Some x → B
none_some x e = cc

module _ (l : Label) (t u : Ground) (m n below other : Row) (none : fin.get below l ≡ None) (is : m ≡ fin.insert below l t) (other_is : n ≡ fin.insert other l u)
    (together : Together m n) where
  first_together : t ≡ u
  first_together = together l t u (ap (λ r. fin.get r l) is ∙ get_here below l t l refl) (ap (λ r. fin.get r l) other_is ∙ get_here other l u l refl)

  rest_together : Together below other
  rest_together k g h a b =
      ⊎_elim
      (λ (same : Tied k l). none_some g (sym none ∙ ap (fin.get below) (sym same.1) ∙ a))
      (λ (apart : Differ k l).
      together k g h (ap (λ r. fin.get r k) is ∙ get_there below l t k apart.1 ∙ a) (ap (λ r. fin.get r k) other_is ∙ get_there other l u k apart.1 ∙ b))
      (tie_cases k l)

-- ---- types and rows

module _ (τ τ₂ : Grounding) (whole : (n : ℕ) (e : Effect) → τ.effects n e ≡ true) where
  abbrev rest_of : ℕ → EffectSet
  rest_of n e = not (τ₂.effects n e)

  abbrev HasRest : Effects → Type 0
  HasRest es = HasBefore rest_of es.labels es.tail

  abbrev Evens : Ty → Type 0
  Evens t = (g : Ground) → under τ₂ t ≡ Some g → loosely τ t ≡ Some g → Each HasRest (rows_of t)

  abbrev RowEvens : TyRow → Type 0
  RowEvens r = (m : Row) → row_under τ₂ r ≡ Some m → row_loosely τ r ≡ Some m → Each HasRest (rows_of_row r)

  by_rows : (t : Ty) (rows : List Effects) → rows_of t ≡ rows → Each HasRest rows → Each HasRest (rows_of t)
  by_rows t rows is each = subst (λ rows. Each HasRest rows) (sym is) each

  has_rest : (es : Effects) (s u : EffectSet) → effects_under τ₂ es ≡ Some s → union es.labels (effect_tail τ es.tail) ≡ u → ((e : Effect) → s e ≡ u e) → HasRest es
  has_rest es s u is loose same = by_tail es.tail is loose
    where
      by_tests : (b c : Bool) → (b ≡ true → c ≡ false) → (b || c) ≡ true → (b || false) ≡ not c
      by_tests true c apart all = sym (ap not (apart refl))
      by_tests false c apart all = sym (ap not all)

      all_there : (b c : Bool) → c ≡ true → (b || c) ≡ true
      all_there true c is = refl
      all_there false c is = is

      by_tail : (tail : RowTail) → before_effects es.labels (effect_tail τ₂ tail) ≡ Some s → union es.labels (effect_tail τ tail) ≡ u → HasBefore rest_of es.labels tail
      by_tail Closed is loose = ap is_some is
      by_tail (Var n) is loose =
          let all : (e : Effect) → (list_any (same_effect e) es.labels || τ₂.effects n e) ≡ true =
          λ e. ap (λ (s : EffectSet). s e) (sym (is_union es.labels (τ₂.effects n) s is)) ∙ same e ∙ ap (λ (u : EffectSet). u e) (sym loose)
          ∙ all_there (list_any (same_effect e) es.labels) (τ.effects n e) (whole n e) in
          let at : (e : Effect) → union es.labels no_effects e ≡ rest_of n e =
          λ e. by_tests (list_any (same_effect e) es.labels) (τ₂.effects n e) (none_behind es.labels (τ₂.effects n) s is e) (all e) in
          alone_too es.labels (τ₂.effects n) s is ∙ ap Some (λ i e. at e i)

  types_even : (ts : List Ty) → Each Evens ts → (gs : List Ground) → all_of (map (under τ₂) ts) ≡ Some gs → all_of (map (loosely τ) ts) ≡ Some gs → Each HasRest (flat_map rows_of ts)
  types_even [] each gs a b = tt
  types_even (t ∷ ts) each gs a b =
      let x = all_some (under τ₂ t) (map (under τ₂) ts) gs a in
      let y = all_some (loosely τ t) (map (loosely τ) ts) gs b in
      let same : y.0 ∷ y.1 ≡ x.0 ∷ x.1 = sym y.4 ∙ x.4 in
      each_both HasRest (rows_of t) (flat_map rows_of ts)
      (each.0 x.0 x.2 (y.2 ∙ ap Some (ap (first_or x.0) same)))
      (types_even ts each.1 x.1 x.3 (y.3 ∙ ap Some (ap later same)))
    where
      first_or : Ground → List Ground → Ground
      first_or d [] = d
      first_or d (g ∷ gs) = g

      later : List Ground → List Ground
      later [] = []
      later (g ∷ gs) = gs

  fields_even : (row row₂ : Row) (fs : List TyField) → Each (λ f. Evens f.ty) fs → (m n : Row) → Together m n
      → before_row (map (λ f. (f.label, under τ₂ f.ty)) fs) row₂ ≡ Some m → before_row (map (field_loosely τ) fs) row ≡ Some n → Each HasRest (flat_map (λ f. rows_of f.ty) fs)
  fields_even row row₂ [] each m n together a b = tt
  fields_even row row₂ (f ∷ fs) each m n together a b =
      let x = with_one f.label (under τ₂ f.ty) (before_row (map (λ f. (f.label, under τ₂ f.ty)) fs) row₂) m a in
      let y = with_one f.label (loosely τ f.ty) (before_row (map (field_loosely τ) fs) row) n b in
      let same = first_together f.label x.0 y.0 m n x.1 y.1 x.4 x.5 y.5 together in
      each_both HasRest (rows_of f.ty) (flat_map (λ f. rows_of f.ty) fs)
      (each.0 x.0 x.2 (y.2 ∙ ap Some (sym same)))
      (fields_even row row₂ fs each.1 x.1 y.1 (rest_together f.label x.0 y.0 m n x.1 y.1 x.4 x.5 y.5 together) x.3 y.3)

  at_row : (fs : List TyField) (tail : RowTail) → Each (λ f. Evens f.ty) fs → RowEvens (roll-TyRow (record { fields = fs; tail = tail }))
  at_row fs tail each m a b =
      subst (λ rows. Each HasRest rows) (sym (rows_row fs tail))
      (fields_even (row_tail τ tail) (row_tail τ₂ tail) fs each m m (λ l g h p q. same_some (sym p ∙ q)) (sym (row_rolled τ₂ fs tail) ∙ a) (sym (loosely_row τ fs tail) ∙ b))

  at_list : (t : Ty) → Evens t → Evens (ty.List t)
  at_list t evens g a b =
      let x = mapped known.List (under τ₂ t) g (sym (under_list τ₂ t) ∙ a) in
      let y = mapped known.List (loosely τ t) g (sym (loosely_list τ t) ∙ b) in
      by_rows (ty.List t) (rows_of t) (rows_list t) (evens x.0 x.1 (y.1 ∙ ap Some (list_same y.0 x.0 (sym y.2 ∙ x.2))))

  at_fields : (r : TyRow) → RowEvens r → Evens (ty.Fields r)
  at_fields r evens g a b =
      let x = mapped (λ (m : Row). known.Fields (fields_of m)) (row_under τ₂ r) g (sym (under_fields τ₂ r) ∙ a) in
      let y = mapped (λ (m : Row). known.Fields (fields_of m)) (row_loosely τ r) g (sym (loosely_fields τ r) ∙ b) in
      by_rows (ty.Fields r) (rows_of_row r) (rows_fields r) (evens x.0 x.1 (y.1 ∙ ap Some (same_fields y.0 x.0 (sym y.2 ∙ x.2))))

  at_tags : (r : TyRow) → RowEvens r → Evens (ty.Tags r)
  at_tags r evens g a b =
      let x = mapped (λ (m : Row). known.Tags (fields_of m)) (row_under τ₂ r) g (sym (under_tags τ₂ r) ∙ a) in
      let y = mapped (λ (m : Row). known.Tags (fields_of m)) (row_loosely τ r) g (sym (loosely_tags τ r) ∙ b) in
      by_rows (ty.Tags r) (rows_of_row r) (rows_tags r) (evens x.0 x.1 (y.1 ∙ ap Some (same_tags y.0 x.0 (sym y.2 ∙ x.2))))

  at_function : (params : List Ty) (es : Effects) (answer : Ty) → Each Evens params → Evens answer → Evens (ty.Fun params es answer)
  at_function params es answer each last g a b =
      let x = function_some (all_of (map (under τ₂) params)) (effects_under τ₂ es) (under τ₂ answer) g (sym (under_function τ₂ params es answer) ∙ a) in
      let y = function_some (all_of (map (loosely τ) params)) (Some (union es.labels (effect_tail τ es.tail))) (loosely τ answer) g (sym (loosely_function τ params es answer) ∙ b) in
      let same = sym x.6 ∙ y.6 in
      by_rows (ty.Fun params es answer) (flat_map rows_of params ++ (es ∷ rows_of answer)) (rows_function params es answer)
      (each_both HasRest (flat_map rows_of params) (es ∷ rows_of answer)
      (types_even params each x.0 x.3 (y.3 ∙ ap Some (sym (same_params x.0 y.0 x.1 y.1 x.2 y.2 same)))) (
        has_rest es x.1 y.1 x.4 (same_some y.4) (same_set x.0 y.0 x.1 y.1 x.2 y.2 same),
        last x.2 x.5 (y.5 ∙ ap Some (sym (same_answer x.0 y.0 x.1 y.1 x.2 y.2 same))),
      ))

  steps : Hereditary Evens RowEvens
  steps = record {
    at_int = λ g a b. by_rows ty.Int [] rows_int tt;
    at_bool = λ g a b. by_rows ty.Bool [] rows_bool tt;
    at_text = λ g a b. by_rows ty.Text [] rows_text tt;
    at_list = at_list;
    at_fields = at_fields;
    at_tags = at_tags;
    at_function = at_function;
    at_variable = λ n g a b. by_rows (ty.Var n) [] (rows_variable n) tt;
    at_row = at_row;
  }

pub even_of : (τ τ₂ : Grounding) (t : Ty) (g : Ground) → ((n : ℕ) (e : Effect) → τ.effects n e ≡ true) → under τ₂ t ≡ Some g → loosely τ t ≡ Some g
    → IsEven (λ n e. not (τ₂.effects n e)) t
even_of τ τ₂ t g whole = every_type (Evens τ τ₂ whole) (RowEvens τ τ₂ whole) (steps τ τ₂ whole) t g
