-- Groundings under which a type becomes the same say the same of its variables.
use Rattle.lk_infer.proofs.GroundParts.{same_row}
use Rattle.std.proofs.Common.{◌≡◌, ℕ, List, [], ◌∷◌, ◌++◌, map, Option, Some, refl, sym, ap, subst, ◌∙◌}
use Rattle.std.specs.List.{cons_option}
use Rattle.std.specs.Prelude.{flat_map}
use Rattle.lk_typing.proofs.Sound.Queries.{list_same}
use Rattle.lk_ground_types.proofs.Arms.{rest_is}
use Rattle.lk_ground_types.proofs.EffectLists.{left_of}
use Rattle.lk_types.proofs.Agreement.{variables_rolled_row}
use Rattle.lk_types.proofs.Members.{each_both}
use Rattle.lk_types.proofs.Parts.{all_some, function_some, mapped, row_rolled, same_some, with_one}
use Rattle.lk_types.proofs.TypeInduction.{Hereditary, every_type}
use Rattle.lk_ground_types.proofs.Variables.{among_each}
use Rattle.lk_ground_types.specs.Forms.{fields_in, fields_level, function_in, function_level, tags_in, tags_level}
use Rattle.lk_ground_types.specs.Least.{AreSameAt}
use Rattle.lk_ground_types.specs.Matching.{IsSameAt}
use Rattle.lk_types.proofs.Unfold.{under_fields, under_function, under_list, under_tags, under_variable, variables_bool, variables_field, variables_fields, variables_function, variables_int, variables_list, variables_tags, variables_text, variables_variable}
use Rattle.lk_types.specs.Each.{Each}
use Rattle.lk_types.specs.Grounding.{Grounding, all_of, before_effects, before_row, effect_tail, effects_under, row_tail, row_under, under}
use Rattle.lk_types.specs.Rows.{EffectSet, Label, Row, effects_of, fields_of}
use Rattle.lk_types.specs.Variables.{joined, tail_variable, variables_of, variables_of_field, variables_of_row}
use Rattle.lk_types.specs.declared.ground.Ground.{Ground}
use Rattle.lk_types.specs.declared.ground.Ground.TheVariants as known
use Rattle.lk_types.specs.declared.ground.GroundField.{GroundField}
use Rattle.lk_types.specs.declared.ty.Effect.{Effect}
use Rattle.lk_types.specs.declared.ty.Effects.{Effects}
use Rattle.lk_types.specs.declared.ty.RowTail.{RowTail}
use Rattle.lk_types.specs.declared.ty.RowTail.TheVariants.{Closed, Var}
use Rattle.lk_types.specs.declared.ty.Ty.{Ty}
use Rattle.lk_types.specs.declared.ty.Ty.TheVariants as ty
use Rattle.lk_types.specs.declared.ty.TyField.{TyField}
use Rattle.lk_types.specs.declared.ty.TyRow.{TyRow, roll-TyRow}
use Rattle.lk_types.specs.declared.ty.Variable.{Variable}
use Rattle.lk_types.specs.declared.ty.Variable.TheVariants as variable

-- ---- parts of ground types

fields_same : (a b : List GroundField) → known.Fields a ≡ known.Fields b → a ≡ b
fields_same a b e = same_some (sym (ap fields_level (known.outs-Fields a)) ∙ ap fields_in e ∙ ap fields_level (known.outs-Fields b))

tags_same : (a b : List GroundField) → known.Tags a ≡ known.Tags b → a ≡ b
tags_same a b e = same_some (sym (ap tags_level (known.outs-Tags a)) ∙ ap tags_in e ∙ ap tags_level (known.outs-Tags b))

abbrev Three : Type 0
Three = List Ground × List Effect × Ground

function_same : (ps qs : List Ground) (es fs : List Effect) (a b : Ground) → known.Fun ps es a ≡ known.Fun qs fs b → ◌≡◌ {A = Three} (ps, es, a) (qs, fs, b)
function_same ps qs es fs a b e = same_some (sym (ap function_level (known.outs-Fun ps es a)) ∙ ap function_in e ∙ ap function_level (known.outs-Fun qs fs b))

-- what stands behind the same effects
below_same : (labels : List Effect) (a b s r : EffectSet) → before_effects labels a ≡ Some s → before_effects labels b ≡ Some r → effects_of s ≡ effects_of r → a ≡ b
below_same labels a b s r e f same = sym (left_of labels (effects_of r) a s e same) ∙ left_of labels (effects_of r) b r f refl

-- ---- types

module _ (τ σ : Grounding) where
  abbrev Same : List Variable → Type 0
  Same xs = Each (IsSameAt τ σ) xs

  abbrev SameType : Ty → Type 0
  SameType t = (g : Ground) → under τ t ≡ Some g → under σ t ≡ Some g → Same (variables_of t)

  abbrev SameRow : TyRow → Type 0
  SameRow r = (m : Row) → row_under τ r ≡ Some m → row_under σ r ≡ Some m → Same (variables_of_row r)

  at_list : (t : Ty) → SameType t → SameType (ty.List t)
  at_list t same g e f =
      let x = mapped known.List (under τ t) g (sym (under_list τ t) ∙ e) in
      let y = mapped known.List (under σ t) g (sym (under_list σ t) ∙ f) in
      let item : y.0 ≡ x.0 = list_same y.0 x.0 (sym y.2 ∙ x.2) in
      subst Same (sym (variables_list t)) (same x.0 x.1 (y.1 ∙ ap (λ k. Some k) item))

  at_fields : (r : TyRow) → SameRow r → SameType (ty.Fields r)
  at_fields r same g e f =
      let x = mapped (λ (m : Row). known.Fields (fields_of m)) (row_under τ r) g (sym (under_fields τ r) ∙ e) in
      let y = mapped (λ (m : Row). known.Fields (fields_of m)) (row_under σ r) g (sym (under_fields σ r) ∙ f) in
      let row : y.0 ≡ x.0 = same_row y.0 x.0 (fields_same (fields_of y.0) (fields_of x.0) (sym y.2 ∙ x.2)) in
      subst Same (sym (variables_fields r)) (same x.0 x.1 (y.1 ∙ ap (λ k. Some k) row))

  at_tags : (r : TyRow) → SameRow r → SameType (ty.Tags r)
  at_tags r same g e f =
      let x = mapped (λ (m : Row). known.Tags (fields_of m)) (row_under τ r) g (sym (under_tags τ r) ∙ e) in
      let y = mapped (λ (m : Row). known.Tags (fields_of m)) (row_under σ r) g (sym (under_tags σ r) ∙ f) in
      let row : y.0 ≡ x.0 = same_row y.0 x.0 (tags_same (fields_of y.0) (fields_of x.0) (sym y.2 ∙ x.2)) in
      subst Same (sym (variables_tags r)) (same x.0 x.1 (y.1 ∙ ap (λ k. Some k) row))

  all_same : (ts : List Ty) → Each SameType ts → (gs : List Ground) → all_of (map (under τ) ts) ≡ Some gs → all_of (map (under σ) ts) ≡ Some gs → Same (flat_map variables_of ts)
  all_same [] each gs e f = tt
  all_same (t ∷ ts) each gs e f =
      let x = all_some (under τ t) (map (under τ) ts) gs e in
      let y = all_some (under σ t) (map (under σ) ts) gs f in
      let both : y.0 ∷ y.1 ≡ x.0 ∷ x.1 = sym y.4 ∙ x.4 in
      let one : y.0 ≡ x.0 = cc in
      let others : y.1 ≡ x.1 = cc in
      each_both (IsSameAt τ σ) (variables_of t) (flat_map variables_of ts) (each.0 x.0 x.2 (y.2 ∙ ap (λ k. Some k) one)) (all_same ts each.1 x.1 x.3 (y.3 ∙ ap (λ k. Some k) others))

  effect_tail_same : (tail : RowTail) → effect_tail τ tail ≡ effect_tail σ tail → Same (cons_option (tail_variable variable.Effects tail) [])
  effect_tail_same Closed is = tt
  effect_tail_same (Var n) is = (is, tt)

  row_tail_same : (tail : RowTail) → row_tail τ tail ≡ row_tail σ tail → Same (cons_option (tail_variable variable.Row tail) [])
  row_tail_same Closed is = tt
  row_tail_same (Var n) is = (is, tt)

  at_function : (params : List Ty) (es : Effects) (answer : Ty) → Each SameType params → SameType answer → SameType (ty.Fun params es answer)
  at_function params es answer each last g e f =
      let x = function_some (all_of (map (under τ) params)) (effects_under τ es) (under τ answer) g (sym (under_function τ params es answer) ∙ e) in
      let y = function_some (all_of (map (under σ) params)) (effects_under σ es) (under σ answer) g (sym (under_function σ params es answer) ∙ f) in
      let same : ◌≡◌ {A = Three} (y.0, effects_of y.1, y.2) (x.0, effects_of x.1, x.2) = function_same y.0 x.0 (effects_of y.1) (effects_of x.1) y.2 x.2 (sym y.6 ∙ x.6) in
      let tail : effect_tail τ es.tail ≡ effect_tail σ es.tail = below_same es.labels (effect_tail τ es.tail) (effect_tail σ es.tail) x.1 y.1 x.4 y.4 (sym (ap (λ p. p.1) same)) in
      subst Same (sym (variables_function params es answer))
      (each_both (IsSameAt τ σ) (flat_map variables_of params ++ cons_option (tail_variable variable.Effects es.tail) []) (variables_of answer)
      (each_both (IsSameAt τ σ) (flat_map variables_of params) (cons_option (tail_variable variable.Effects es.tail) [])
      (all_same params each x.0 x.3 (y.3 ∙ ap (λ p. Some p.0) same))
      (effect_tail_same es.tail tail))
      (last x.2 x.5 (y.5 ∙ ap (λ p. Some p.2) same)))

  abbrev under_fields_of : Grounding → List TyField → List (Label × Option Ground)
  under_fields_of ρ fs = map (λ f. (f.label, under ρ f.ty)) fs

  rows_same : (a b : Row) (fs : List TyField) → Each (λ f. SameType f.ty) fs → (m : Row) → before_row (under_fields_of τ fs) a ≡ Some m → before_row (under_fields_of σ fs) b ≡ Some m
      → (a ≡ b) × Same (joined (map variables_of_field fs))
  rows_same a b [] each m e f = (same_some e ∙ sym (same_some f), tt)
  rows_same a b (field ∷ fs) each m e f =
      let x = with_one field.label (under τ field.ty) (before_row (under_fields_of τ fs) a) m e in
      let y = with_one field.label (under σ field.ty) (before_row (under_fields_of σ fs) b) m f in
      let left = rest_is m x.1 field.label x.0 x.4 x.5 in
      let right = rest_is m y.1 field.label y.0 y.4 y.5 in
      let one : y.0 ≡ x.0 = same_some (sym right.0 ∙ left.0) in
      let rest : y.1 ≡ x.1 = sym right.1 ∙ left.1 in
      let more = rows_same a b fs each.1 x.1 x.3 (y.3 ∙ ap (λ k. Some k) rest) in (
        more.0,
        each_both (IsSameAt τ σ) (variables_of_field field) (joined (map variables_of_field fs)) (subst Same (sym (variables_field field)) (each.0 x.0 x.2 (y.2 ∙ ap (λ k. Some k) one))) more.1,
      )

  at_row : (fs : List TyField) (tail : RowTail) → Each (λ f. SameType f.ty) fs → SameRow (roll-TyRow (record { fields = fs; tail = tail }))
  at_row fs tail each m e f =
      let same = rows_same (row_tail τ tail) (row_tail σ tail) fs each m (sym (row_rolled τ fs tail) ∙ e) (sym (row_rolled σ fs tail) ∙ f) in
      subst Same (sym (variables_rolled_row (record { fields = fs; tail = tail })))
      (each_both (IsSameAt τ σ) (joined (map variables_of_field fs)) (cons_option (tail_variable variable.Row tail) []) same.1 (row_tail_same tail same.0))

  at_variable : (n : ℕ) → SameType (ty.Var n)
  at_variable n g e f = subst Same (sym (variables_variable n)) (same_some (sym (under_variable τ n) ∙ e ∙ sym f ∙ under_variable σ n), tt)

  steps : Hereditary SameType SameRow
  steps = record {
    at_int = λ g e f. subst Same (sym variables_int) tt;
    at_bool = λ g e f. subst Same (sym variables_bool) tt;
    at_text = λ g e f. subst Same (sym variables_text) tt;
    at_list = at_list;
    at_fields = at_fields;
    at_tags = at_tags;
    at_function = at_function;
    at_variable = at_variable;
    at_row = at_row;
  }

  pub same_groundings : (t : Ty) (g : Ground) → under τ t ≡ Some g → under σ t ≡ Some g → AreSameAt (variables_of t) τ σ
  same_groundings t g e f =
      let all = every_type SameType SameRow steps t g e f in
      record {
        plain = λ n. among_each (IsSameAt τ σ) (variables_of t) all (variable.Plain n);
        rows = λ n. among_each (IsSameAt τ σ) (variables_of t) all (variable.Row n);
        effects = λ n. among_each (IsSameAt τ σ) (variables_of t) all (variable.Effects n);
      }
