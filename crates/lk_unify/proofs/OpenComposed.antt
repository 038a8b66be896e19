-- What a type becomes first by an opening and then by a grounding is what it becomes under the grounding that is both.
use Rattle.std.proofs.Common.{◌≡◌, List, [], ◌∷◌, ◌++◌, map, refl, sym, ◌∙◌, ap, subst, Option, Some, None}
use Rattle.std.specs.FinMap as fin
use Rattle.std.specs.List.{cons_option}
use Rattle.std.specs.Option.{option_map}
use Rattle.std.specs.Prelude.{flat_map, is_some, if◌then◌else◌}
use Rattle.lk_types.proofs.Members.{each_front, each_back}
use Rattle.lk_types.proofs.Parts.{same_some, mapped, all_some, function_some, row_rolled, with_one}
use Rattle.lk_types.proofs.Unfold.{under_int, under_bool, under_text, under_list, under_fields, under_tags, under_function}
use Rattle.lk_types.proofs.Unfold.{under_variable, variables_list, variables_fields, variables_tags, variables_function, variables_variable, variables_field}
use Rattle.lk_types.specs.Each.{Each}
use Rattle.lk_types.specs.Grounding.{Grounding, under, row_under, before_row, row_tail, effect_tail, effects_under, before_effects, all_of, function_of}
use Rattle.lk_types.specs.Rows.{Label, Row, EffectSet, with_field, with_effect, fields_of}
use Rattle.lk_types.specs.Variables.{joined, before_tail, tail_variable, effects_variables, variables_of, variables_of_row, variables_of_field}
use Rattle.lk_types.specs.declared.ground.Ground.{Ground}
use Rattle.lk_types.specs.declared.ground.Ground.TheVariants as known
use Rattle.lk_types.specs.declared.ty.Effect.{Effect}
use Rattle.lk_types.specs.declared.ty.Effects.{Effects}
use Rattle.lk_types.specs.declared.ty.RowTail.{RowTail}
use Rattle.lk_types.specs.declared.ty.RowTail.TheVariants.{Closed, Var}
use Rattle.lk_types.specs.declared.ty.Ty.{Ty}
use Rattle.lk_types.specs.declared.ty.Ty.TheFolds.{the_lemmas}
use Rattle.lk_types.specs.declared.ty.Ty.TheVariants as ty
use Rattle.lk_types.specs.declared.ty.TyField.{TyField}
use Rattle.lk_types.specs.declared.ty.TyRow.{TyRow, roll-TyRow}
use Rattle.lk_types.specs.declared.ty.Variable.{Variable}
use Rattle.lk_types.specs.declared.ty.Variable.TheVariants as variable
use Rattle.lk_unify.proofs.OpenEffectSets as sets
use Rattle.lk_unify.proofs.OpenEffectSets.{effect-under, only_effects-under}
use Rattle.lk_unify.proofs.OpenRows.{only_tail-under, insert-under}
use Rattle.lk_unify.proofs.OpenUnfold.{opened_int, opened_bool, opened_text, opened_list, opened_fields, opened_tags, opened_function, opened_variable, opened_rolled}
use Rattle.lk_types.proofs.TypeInduction.{Hereditary, every_type}
use Rattle.lk_arena.specs.Openings.{Opening, OpenRow, OpenEffects, row_type, effects_type, opened, row_opened, effects_opened}
use Rattle.lk_arena.specs.Openings.{effects_tail_opened, tail_opened, with_opened, before_open, open_function, OpensTo}

-- ---- what is there by a choice

pub open_one : (l : Label) (o : Option Ty) (p : Option OpenRow) (x : OpenRow) → with_opened l o p ≡ Some x
    → (t : Ty) × (m : OpenRow) × (o ≡ Some t) × (p ≡ Some m) × (fin.get m.fields l ≡ None) × (x ≡ record { fields = fin.insert m.fields l t; tail = m.tail })
open_one l None p x e = cc
open_one l (Some t) None x e = cc
open_one l (Some t) (Some m) x e = by_test (fin.get m.fields l) refl e
  where
    by_test : (o : Option Ty) → fin.get m.fields l ≡ o → (if is_some o then None else Some (record { fields = fin.insert m.fields l t; tail = m.tail })) ≡ Some x
        → (u : Ty) × (n : OpenRow) × (Some t ≡ Some u) × (Some m ≡ Some n) × (fin.get n.fields l ≡ None) × (x ≡ record { fields = fin.insert n.fields l u; tail = n.tail })
    by_test (Some g) is e = cc
    by_test None is e = (t, m, refl, refl, is, sym (same_some e))

pub open_some : (o : Option (List Ty)) (p : Option OpenEffects) (q : Option Ty) (u : Ty) → open_function o p q ≡ Some u
    → (ts : List Ty) × (s : OpenEffects) × (t : Ty) × (o ≡ Some ts) × (p ≡ Some s) × (q ≡ Some t) × (u ≡ ty.Fun ts (effects_type s) t)
open_some None p q u e = cc
open_some (Some ts) None q u e = cc
open_some (Some ts) (Some s) None u e = cc
open_some (Some ts) (Some s) (Some t) u e = (ts, s, t, refl, refl, refl, sym (same_some e))

rolled_variables : (fs : List TyField) (tail : RowTail) → variables_of_row (roll-TyRow (record { fields = fs; tail = tail })) ≡ before_tail (joined (map variables_of_field fs)) variable.Row tail
unfolding variables_of_row variables_of_field
rolled_variables fs tail = search the_lemmas

module _ (τ : Grounding) (ρ : Opening) (σ : Grounding) where
  abbrev Fits : List Variable → Type 0
  Fits xs = Each (OpensTo τ ρ σ) xs

  -- ---- effects

  effects_tail : (tail : RowTail) → Fits (cons_option (tail_variable variable.Effects tail) []) → effects_under τ (effects_type (effects_tail_opened ρ tail)) ≡ Some (effect_tail σ tail)
  effects_tail Closed fits = only_effects-under τ Closed
  effects_tail (Var n) fits = fits.0

  labels : (tail : RowTail) → Fits (cons_option (tail_variable variable.Effects tail) []) → (es : List Effect) (s t : EffectSet)
      → before_effects es (effects_tail_opened ρ tail).labels ≡ Some s → before_effects es (effect_tail σ tail) ≡ Some t
      → effects_under τ (effects_type (record { labels = s; tail = (effects_tail_opened ρ tail).tail })) ≡ Some t
  labels tail fits [] s t a b =
      ap (λ s. effects_under τ (effects_type (record { labels = s; tail = (effects_tail_opened ρ tail).tail }))) (sym (same_some a))
      ∙ effects_tail tail fits ∙ b
  labels tail fits (e ∷ es) s t a b =
      let x = sets.with_one e (before_effects es (effects_tail_opened ρ tail).labels) s a in
      let y = sets.with_one e (before_effects es (effect_tail σ tail)) t b in
      ap (λ s. effects_under τ (effects_type (record { labels = s; tail = (effects_tail_opened ρ tail).tail }))) x.3
      ∙ effect-under τ (record { labels = x.0; tail = (effects_tail_opened ρ tail).tail }) e x.2
      ∙ ap (with_effect e) (labels tail fits es x.0 y.0 x.1 y.1)
      ∙ sets.with_new e y.0 y.2 ∙ ap Some (sym y.3)

  pub effects_composed : (es : Effects) (s : OpenEffects) (t : EffectSet) → Each (OpensTo τ ρ σ) (effects_variables es) → effects_opened ρ es ≡ Some s → effects_under σ es ≡ Some t
      → effects_under τ (effects_type s) ≡ Some t
  effects_composed es s t fits a b =
      let x = mapped (λ (labels : EffectSet). record { labels = labels; tail = (effects_tail_opened ρ es.tail).tail }) (before_effects es.labels (effects_tail_opened ρ es.tail).labels) s a in
      ap (λ s. effects_under τ (effects_type s)) x.2 ∙ labels es.tail fits es.labels x.0 t x.1 b

  -- ---- types and rows

  abbrev Composed : Ty → Type 0
  Composed t = (u : Ty) (g : Ground) → Fits (variables_of t) → opened ρ t ≡ Some u → under σ t ≡ Some g → under τ u ≡ Some g

  abbrev RowComposed : TyRow → Type 0
  RowComposed r = (m : OpenRow) (n : Row) → Fits (variables_of_row r) → row_opened ρ r ≡ Some m → row_under σ r ≡ Some n → row_under τ (row_type m) ≡ Some n

  tail_composed : (tail : RowTail) → Fits (cons_option (tail_variable variable.Row tail) []) → row_under τ (row_type (tail_opened ρ tail)) ≡ Some (row_tail σ tail)
  tail_composed Closed fits = only_tail-under τ Closed
  tail_composed (Var n) fits = fits.0

  fields_composed : (tail : RowTail) → Fits (cons_option (tail_variable variable.Row tail) []) → (fs : List TyField) → Each (λ f. Composed f.ty) fs → Fits (joined (map variables_of_field fs))
      → (m : OpenRow) (n : Row) → before_open (map (λ f. (f.label, opened ρ f.ty)) fs) (tail_opened ρ tail) ≡ Some m → before_row (map (λ f. (f.label, under σ f.ty)) fs) (row_tail σ tail) ≡ Some n
      → row_under τ (row_type m) ≡ Some n
  fields_composed tail ends [] each fits m n a b = ap (λ m. row_under τ (row_type m)) (sym (same_some a)) ∙ tail_composed tail ends ∙ b
  fields_composed tail ends (f ∷ fs) each fits m n a b =
      let x = open_one f.label (opened ρ f.ty) (before_open (map (λ f. (f.label, opened ρ f.ty)) fs) (tail_opened ρ tail)) m a in
      let y = with_one f.label (under σ f.ty) (before_row (map (λ f. (f.label, under σ f.ty)) fs) (row_tail σ tail)) n b in
      let own : Fits (variables_of f.ty) = subst Fits (variables_field f) (each_front (OpensTo τ ρ σ) (variables_of_field f) (joined (map variables_of_field fs)) fits) in
      let rest = fields_composed tail ends fs each.1 (each_back (OpensTo τ ρ σ) (variables_of_field f) (joined (map variables_of_field fs)) fits) x.1 y.1 x.3 y.3 in
      ap (λ m. row_under τ (row_type m)) x.5
      ∙ insert-under τ x.1 f.label x.0 x.4
      ∙ (λ i. with_field f.label (each.0 x.0 y.0 own x.2 y.2 i) (rest i))
      ∙ (λ i. with_field f.label (sym y.2 i) (sym y.3 i)) ∙ b

  types_composed : (ts : List Ty) → Each Composed ts → Fits (flat_map variables_of ts) → (us : List Ty) (gs : List Ground) → all_of (map (opened ρ) ts) ≡ Some us → all_of (map (under σ) ts) ≡ Some gs
      → all_of (map (under τ) us) ≡ Some gs
  types_composed [] each fits us gs a b = ap (λ us. all_of (map (under τ) us)) (sym (same_some a)) ∙ b
  types_composed (t ∷ ts) each fits us gs a b =
      let x = all_some (opened ρ t) (map (opened ρ) ts) us a in
      let y = all_some (under σ t) (map (under σ) ts) gs b in
      let first = each.0 x.0 y.0 (each_front (OpensTo τ ρ σ) (variables_of t) (flat_map variables_of ts) fits) x.2 y.2 in
      let rest = types_composed ts each.1 (each_back (OpensTo τ ρ σ) (variables_of t) (flat_map variables_of ts) fits) x.1 y.1 x.3 y.3 in
      ap (λ us. all_of (map (under τ) us)) x.4
      ∙ ap (λ o. all_of (o ∷ map (under τ) x.1)) first
      ∙ ap (option_map (λ more. y.0 ∷ more)) rest ∙ ap Some (sym y.4)

  function_composed : (params : List Ty) (es : Effects) (answer : Ty) → Each Composed params → Composed answer → Composed (ty.Fun params es answer)
  function_composed params es answer each last u g fits a b =
      let x = open_some (all_of (map (opened ρ) params)) (effects_opened ρ es) (opened ρ answer) u (sym (opened_function ρ params es answer) ∙ a) in
      let y = function_some (all_of (map (under σ) params)) (effects_under σ es) (under σ answer) g (sym (under_function σ params es answer) ∙ b) in
      let tail : List Variable = cons_option (tail_variable variable.Effects es.tail) [] in
      let whole : Fits ((flat_map variables_of params ++ tail) ++ variables_of answer) = subst Fits (variables_function params es answer) fits in
      let front : Fits (flat_map variables_of params ++ tail) = each_front (OpensTo τ ρ σ) (flat_map variables_of params ++ tail) (variables_of answer) whole in
      let ps = types_composed params each (each_front (OpensTo τ ρ σ) (flat_map variables_of params) tail front) x.0 y.0 x.3 y.3 in
      let effects = effects_composed es x.1 y.1 (each_back (OpensTo τ ρ σ) (flat_map variables_of params) tail front) x.4 y.4 in
      let ans = last x.2 y.2 (each_back (OpensTo τ ρ σ) (flat_map variables_of params ++ tail) (variables_of answer) whole) x.5 y.5 in
      ap (under τ) x.6 ∙ under_function τ x.0 (effects_type x.1) x.2
      ∙ (λ i. function_of (ps i) (effects i) (ans i)) ∙ ap Some (sym y.6)

  steps : Hereditary Composed RowComposed
  steps = record {
    at_int = λ u g fits a b. ap (under τ) (sym (same_some (sym (opened_int ρ) ∙ a))) ∙ under_int τ ∙ sym (under_int σ) ∙ b;
    at_bool = λ u g fits a b. ap (under τ) (sym (same_some (sym (opened_bool ρ) ∙ a))) ∙ under_bool τ ∙ sym (under_bool σ) ∙ b;
    at_text = λ u g fits a b. ap (under τ) (sym (same_some (sym (opened_text ρ) ∙ a))) ∙ under_text τ ∙ sym (under_text σ) ∙ b;
    at_list = λ t is u g fits a b.
        let x = mapped ty.List (opened ρ t) u (sym (opened_list ρ t) ∙ a) in
        let y = mapped known.List (under σ t) g (sym (under_list σ t) ∙ b) in
        ap (under τ) x.2 ∙ under_list τ x.0 ∙ ap (option_map known.List) (is x.0 y.0 (subst Fits (variables_list t) fits) x.1 y.1) ∙ ap Some (sym y.2);
    at_fields = λ r is u g fits a b.
        let x = mapped (λ m. ty.Fields (row_type m)) (row_opened ρ r) u (sym (opened_fields ρ r) ∙ a) in
        let y = mapped (λ m. known.Fields (fields_of m)) (row_under σ r) g (sym (under_fields σ r) ∙ b) in
        ap (under τ) x.2 ∙ under_fields τ (row_type x.0) ∙ ap (option_map (λ m. known.Fields (fields_of m))) (is x.0 y.0 (subst Fits (variables_fields r) fits) x.1 y.1) ∙ ap Some (sym y.2);
    at_tags = λ r is u g fits a b.
        let x = mapped (λ m. ty.Tags (row_type m)) (row_opened ρ r) u (sym (opened_tags ρ r) ∙ a) in
        let y = mapped (λ m. known.Tags (fields_of m)) (row_under σ r) g (sym (under_tags σ r) ∙ b) in
        ap (under τ) x.2 ∙ under_tags τ (row_type x.0) ∙ ap (option_map (λ m. known.Tags (fields_of m))) (is x.0 y.0 (subst Fits (variables_tags r) fits) x.1 y.1) ∙ ap Some (sym y.2);
    at_function = function_composed;
    at_variable = λ n u g fits a b.
        let at : under τ (ρ.plain n) ≡ Some (σ.plain n) = (subst Fits (variables_variable n) fits).0 in
        ap (under τ) (sym (same_some (sym (opened_variable ρ n) ∙ a))) ∙ at ∙ sym (under_variable σ n) ∙ b;
    at_row = λ fs tail each m n fits a b.
        let all : Fits (joined (map variables_of_field fs) ++ cons_option (tail_variable variable.Row tail) []) = subst Fits (rolled_variables fs tail) fits in
        fields_composed tail (each_back (OpensTo τ ρ σ) (joined (map variables_of_field fs)) (cons_option (tail_variable variable.Row tail) []) all) fs each
        (each_front (OpensTo τ ρ σ) (joined (map variables_of_field fs)) (cons_option (tail_variable variable.Row tail) []) all) m n (sym (opened_rolled ρ fs tail) ∙ a) (sym (row_rolled σ fs tail) ∙ b);
  }

  pub type_composed : (t : Ty) (u : Ty) (g : Ground) → Each (OpensTo τ ρ σ) (variables_of t) → opened ρ t ≡ Some u → under σ t ≡ Some g → under τ u ≡ Some g
  type_composed = every_type Composed RowComposed steps
