-- What a type becomes loosely rests on what stands for its own variables alone.
use Rattle.std.proofs.Common.{◌≡◌, ℕ, List, [], ◌∷◌, ◌++◌, map, refl, sym, subst, ◌∙◌, ap, Some}
use Rattle.std.specs.List.{cons_option}
use Rattle.std.specs.Option.{option_map}
use Rattle.std.specs.Prelude.{flat_map}
use Rattle.lk_types.proofs.Agreement.{AgreeAt}
use Rattle.lk_types.proofs.Members.{each_front, each_back}
use Rattle.lk_types.proofs.Unfold.{variables_fields, variables_function, variables_list, variables_tags, variables_variable}
use Rattle.lk_types.specs.Each.{Each}
use Rattle.lk_types.specs.Grounding.{Grounding, all_of, before_row, effect_tail, function_of, row_tail}
use Rattle.lk_types.specs.Rows.{fields_of}
use Rattle.lk_types.specs.Variables.{tail_variable, variables_of, variables_of_row}
use Rattle.lk_types.specs.declared.ground.Ground.TheVariants as known
use Rattle.lk_types.specs.declared.ty.Effects.{Effects}
use Rattle.lk_types.specs.declared.ty.RowTail.{RowTail}
use Rattle.lk_types.specs.declared.ty.RowTail.TheVariants.{Closed, Var}
use Rattle.lk_types.specs.declared.ty.Ty.{Ty}
use Rattle.lk_types.specs.declared.ty.Ty.TheVariants as ty
use Rattle.lk_types.specs.declared.ty.TyField.{TyField}
use Rattle.lk_types.specs.declared.ty.TyRow.{TyRow, roll-TyRow}
use Rattle.lk_types.specs.declared.ty.Variable.{Variable}
use Rattle.lk_types.specs.declared.ty.Variable.TheVariants as variable
use Rattle.lk_typing.specs.EffectRows.{loosely, union}
use Rattle.lk_types.proofs.TypeInduction.{Hereditary, every_type}
use Rattle.lk_infer.proofs.LooseUnfold.{field_loosely, loosely_bool, loosely_fields, loosely_function, loosely_int}
use Rattle.lk_infer.proofs.LooseUnfold.{loosely_list, loosely_row, loosely_tags, loosely_text, loosely_variable, row_loosely}
use Rattle.lk_infer.proofs.ShownUnfold.{variables_rolled}

module _ (σ τ : Grounding) where
  abbrev Agree : List Variable → Type 0
  Agree xs = Each (AgreeAt σ τ) xs

  abbrev Agrees : Ty → Type 0
  Agrees t = Agree (variables_of t) → loosely σ t ≡ loosely τ t

  abbrev RowAgrees : TyRow → Type 0
  RowAgrees r = Agree (variables_of_row r) → row_loosely σ r ≡ row_loosely τ r

  row_tail_agrees : (tail : RowTail) → Agree (cons_option (tail_variable variable.Row tail) []) → row_tail σ tail ≡ row_tail τ tail
  row_tail_agrees Closed all = refl
  row_tail_agrees (Var n) all = all.0

  effect_tail_agrees : (tail : RowTail) → Agree (cons_option (tail_variable variable.Effects tail) []) → effect_tail σ tail ≡ effect_tail τ tail
  effect_tail_agrees Closed all = refl
  effect_tail_agrees (Var n) all = all.0

  types_agree : (ts : List Ty) → Each Agrees ts → Agree (flat_map variables_of ts) → map (loosely σ) ts ≡ map (loosely τ) ts
  types_agree [] each all = refl
  types_agree (t ∷ ts) each all = λ i.
      each.0 (each_front (AgreeAt σ τ) (variables_of t) (flat_map variables_of ts) all) i
      ∷ types_agree ts each.1 (each_back (AgreeAt σ τ) (variables_of t) (flat_map variables_of ts) all) i

  fields_agree : (fs : List TyField) → Each (λ f. Agrees f.ty) fs → Agree (flat_map (λ f. variables_of f.ty) fs) → map (field_loosely σ) fs ≡ map (field_loosely τ) fs
  fields_agree [] each all = refl
  fields_agree (f ∷ fs) each all =
      let first = each.0 (each_front (AgreeAt σ τ) (variables_of f.ty) (flat_map (λ f. variables_of f.ty) fs) all) in
      let rest = fields_agree fs each.1 (each_back (AgreeAt σ τ) (variables_of f.ty) (flat_map (λ f. variables_of f.ty) fs) all) in
      λ i. (f.label, first i) ∷ rest i

  at_row : (fs : List TyField) (tail : RowTail) → Each (λ f. Agrees f.ty) fs → RowAgrees (roll-TyRow (record { fields = fs; tail = tail }))
  at_row fs tail each all =
      let inside : List Variable = flat_map (λ f. variables_of f.ty) fs in
      let end : List Variable = cons_option (tail_variable variable.Row tail) [] in
      let both : Agree (inside ++ end) = subst Agree (variables_rolled fs tail) all in
      loosely_row σ fs tail
      ∙ (λ i. before_row (fields_agree fs each (each_front (AgreeAt σ τ) inside end both) i) (row_tail_agrees tail (each_back (AgreeAt σ τ) inside end both) i))
      ∙ sym (loosely_row τ fs tail)

  at_list : (t : Ty) → Agrees t → Agrees (ty.List t)
  at_list t agrees all = loosely_list σ t ∙ ap (option_map known.List) (agrees (subst Agree (variables_list t) all)) ∙ sym (loosely_list τ t)

  at_fields : (r : TyRow) → RowAgrees r → Agrees (ty.Fields r)
  at_fields r agrees all = loosely_fields σ r ∙ ap (option_map (λ m. known.Fields (fields_of m))) (agrees (subst Agree (variables_fields r) all)) ∙ sym (loosely_fields τ r)

  at_tags : (r : TyRow) → RowAgrees r → Agrees (ty.Tags r)
  at_tags r agrees all = loosely_tags σ r ∙ ap (option_map (λ m. known.Tags (fields_of m))) (agrees (subst Agree (variables_tags r) all)) ∙ sym (loosely_tags τ r)

  at_function : (params : List Ty) (es : Effects) (answer : Ty) → Each Agrees params → Agrees answer → Agrees (ty.Fun params es answer)
  at_function params es answer each last all =
      let inside : List Variable = flat_map variables_of params in
      let end : List Variable = cons_option (tail_variable variable.Effects es.tail) [] in
      let whole : Agree ((inside ++ end) ++ variables_of answer) = subst Agree (variables_function params es answer) all in
      let both : Agree (inside ++ end) = each_front (AgreeAt σ τ) (inside ++ end) (variables_of answer) whole in
      let types = types_agree params each (each_front (AgreeAt σ τ) inside end both) in
      let tails = effect_tail_agrees es.tail (each_back (AgreeAt σ τ) inside end both) in
      let answers = last (each_back (AgreeAt σ τ) (inside ++ end) (variables_of answer) whole) in
      loosely_function σ params es answer
      ∙ (λ i. function_of (all_of (types i)) (Some (union es.labels (tails i))) (answers i))
      ∙ sym (loosely_function τ params es answer)

  at_variable : (n : ℕ) → Agrees (ty.Var n)
  at_variable n all =
      let both : Agree (variable.Plain n ∷ []) = subst Agree (variables_variable n) all in
      loosely_variable σ n ∙ ap Some both.0 ∙ sym (loosely_variable τ n)

  steps : Hereditary Agrees RowAgrees
  steps = record {
    at_int = λ all. loosely_int σ ∙ sym (loosely_int τ);
    at_bool = λ all. loosely_bool σ ∙ sym (loosely_bool τ);
    at_text = λ all. loosely_text σ ∙ sym (loosely_text τ);
    at_list = at_list;
    at_fields = at_fields;
    at_tags = at_tags;
    at_function = at_function;
    at_variable = at_variable;
    at_row = at_row;
  }

pub loosely_agree : (σ τ : Grounding) (t : Ty) → Each (AgreeAt σ τ) (variables_of t) → loosely σ t ≡ loosely τ t
loosely_agree σ τ t = every_type (Agrees σ τ) (RowAgrees σ τ) (steps σ τ) t
