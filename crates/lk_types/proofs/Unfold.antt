-- The definitions by folds, on each form of type.
use Rattle.std.proofs.Common.{◌≡◌, ◌⊎◌, inl, inr, ℕ, ◌+◌, List, [], ◌∷◌, ◌++◌, map, ◌∙◌, ap, Some, None}
use Rattle.std.specs.List.{join_by}
use Rattle.std.specs.Option.{option_map}
use Rattle.std.specs.Prelude.{codes, flat_map, sum}
use Rattle.lk_types.proofs.Lists.{joined_map, separated_map}
use Rattle.lk_types.specs.Grounding.{Grounding, under, row_under, field_under, before_row, function_of, all_of, effects_under, row_tail}
use Rattle.lk_types.specs.Rows.{fields_of}
use Rattle.lk_types.specs.Sizes.{nodes_with, row_nodes_with, field_nodes_with, effects_nodes, tail_nodes}
use Rattle.lk_types.specs.TypeText.{separated, row_text, field_text, list_text, record_text, variant_text, effects_text, function_text, written, written_row, written_field, ground_text, ground_field_text}
use Rattle.lk_types.specs.Variables.{joined, before_tail, tail_variable, variables_of, variables_of_row, variables_of_field}
use Rattle.lk_types.specs.declared.ground.Ground.{Ground}
use Rattle.lk_types.specs.declared.ground.Ground.TheFolds as ground_folds
use Rattle.lk_types.specs.declared.ground.Ground.TheVariants as known
use Rattle.lk_types.specs.declared.ground.GroundField.{GroundField}
use Rattle.lk_types.specs.declared.ty.Effect.{Effect}
use Rattle.lk_types.specs.declared.ty.Effects.{Effects}
use Rattle.lk_types.specs.declared.ty.Ty.{Ty}
use Rattle.lk_types.specs.declared.ty.Ty.TheFolds.{the_lemmas}
use Rattle.lk_types.specs.declared.ty.Ty.TheVariants as ty
use Rattle.lk_types.specs.declared.ty.TyField.{TyField}
use Rattle.lk_types.specs.declared.ty.TyRow.{TyRow, out-TyRow}
use Rattle.lk_types.specs.declared.ty.Variable.{Variable}
use Rattle.lk_types.specs.declared.ty.Variable.TheVariants as variable

-- ---- what a type becomes

module _ (σ : Grounding) where
  pub under_int : under σ ty.Int ≡ Some known.Int
  unfolding under
  under_int = search the_lemmas

  pub under_bool : under σ ty.Bool ≡ Some known.Bool
  unfolding under
  under_bool = search the_lemmas

  pub under_text : under σ ty.Text ≡ Some known.Text
  unfolding under
  under_text = search the_lemmas

  pub under_list : (t : Ty) → under σ (ty.List t) ≡ option_map known.List (under σ t)
  unfolding under
  under_list t = search the_lemmas

  pub under_fields : (r : TyRow) → under σ (ty.Fields r) ≡ option_map (λ m. known.Fields (fields_of m)) (row_under σ r)
  unfolding under row_under
  under_fields r = search the_lemmas

  pub under_tags : (r : TyRow) → under σ (ty.Tags r) ≡ option_map (λ m. known.Tags (fields_of m)) (row_under σ r)
  unfolding under row_under
  under_tags r = search the_lemmas

  pub under_function : (params : List Ty) (es : Effects) (answer : Ty) → under σ (ty.Fun params es answer) ≡ function_of (all_of (map (under σ) params)) (effects_under σ es) (under σ answer)
  unfolding under
  under_function params es answer = search the_lemmas

  pub under_variable : (n : ℕ) → under σ (ty.Var n) ≡ Some (σ.plain n)
  unfolding under
  under_variable n = search the_lemmas

  pub under_row : (r : TyRow) → row_under σ r ≡ before_row (map (field_under σ) (out-TyRow r).fields) (row_tail σ (out-TyRow r).tail)
  unfolding row_under field_under
  under_row r = search the_lemmas

  pub under_field : (f : TyField) → field_under σ f ≡ (f.label, under σ f.ty)
  unfolding under field_under
  under_field f = search the_lemmas

-- ---- the variables of a type

pub variables_int : variables_of ty.Int ≡ []
unfolding variables_of
variables_int = search the_lemmas

pub variables_bool : variables_of ty.Bool ≡ []
unfolding variables_of
variables_bool = search the_lemmas

pub variables_text : variables_of ty.Text ≡ []
unfolding variables_of
variables_text = search the_lemmas

pub variables_base : (t : Ty) → (t ≡ ty.Int) ⊎ ((t ≡ ty.Bool) ⊎ (t ≡ ty.Text)) → variables_of t ≡ []
variables_base t (inl is) = ap variables_of is ∙ variables_int
variables_base t (inr (inl is)) = ap variables_of is ∙ variables_bool
variables_base t (inr (inr is)) = ap variables_of is ∙ variables_text

pub variables_list : (t : Ty) → variables_of (ty.List t) ≡ variables_of t
unfolding variables_of
variables_list t = search the_lemmas

pub variables_fields : (r : TyRow) → variables_of (ty.Fields r) ≡ variables_of_row r
unfolding variables_of variables_of_row
variables_fields r = search the_lemmas

pub variables_tags : (r : TyRow) → variables_of (ty.Tags r) ≡ variables_of_row r
unfolding variables_of variables_of_row
variables_tags r = search the_lemmas

of_function : (params : List Ty) (es : Effects) (answer : Ty) → variables_of (ty.Fun params es answer) ≡ before_tail (joined (map variables_of params)) variable.Effects es.tail ++ variables_of answer
unfolding variables_of
of_function params es answer = search the_lemmas

pub variables_function : (params : List Ty) (es : Effects) (answer : Ty) → variables_of (ty.Fun params es answer) ≡ before_tail (flat_map variables_of params) variable.Effects es.tail ++ variables_of answer
variables_function params es answer = of_function params es answer ∙ ap (λ z. before_tail z variable.Effects es.tail ++ variables_of answer) (joined_map variables_of params)

pub variables_variable : (n : ℕ) → variables_of (ty.Var n) ≡ variable.Plain n ∷ []
unfolding variables_of
variables_variable n = search the_lemmas

of_row : (r : TyRow) → variables_of_row r ≡ before_tail (joined (map variables_of_field (out-TyRow r).fields)) variable.Row (out-TyRow r).tail
unfolding variables_of_row variables_of_field
of_row r = search the_lemmas

pub variables_row : (r : TyRow) → variables_of_row r ≡ before_tail (flat_map variables_of_field (out-TyRow r).fields) variable.Row (out-TyRow r).tail
variables_row r = of_row r ∙ ap (λ z. before_tail z variable.Row (out-TyRow r).tail) (joined_map variables_of_field (out-TyRow r).fields)

pub variables_field : (f : TyField) → variables_of_field f ≡ variables_of f.ty
unfolding variables_of variables_of_field
variables_field f = search the_lemmas

-- ---- the nodes of a type

module _ (of : Variable → ℕ) where
  pub nodes_int : nodes_with of ty.Int ≡ 1
  unfolding nodes_with
  nodes_int = search the_lemmas

  pub nodes_bool : nodes_with of ty.Bool ≡ 1
  unfolding nodes_with
  nodes_bool = search the_lemmas

  pub nodes_text : nodes_with of ty.Text ≡ 1
  unfolding nodes_with
  nodes_text = search the_lemmas

  pub nodes_list : (t : Ty) → nodes_with of (ty.List t) ≡ 1 + nodes_with of t
  unfolding nodes_with
  nodes_list t = search the_lemmas

  pub nodes_fields : (r : TyRow) → nodes_with of (ty.Fields r) ≡ 1 + row_nodes_with of r
  unfolding nodes_with row_nodes_with
  nodes_fields r = search the_lemmas

  pub nodes_tags : (r : TyRow) → nodes_with of (ty.Tags r) ≡ 1 + row_nodes_with of r
  unfolding nodes_with row_nodes_with
  nodes_tags r = search the_lemmas

  pub nodes_function : (params : List Ty) (es : Effects) (answer : Ty) → nodes_with of (ty.Fun params es answer) ≡ 1 + (sum (map (nodes_with of) params) + (effects_nodes of es + nodes_with of answer))
  unfolding nodes_with
  nodes_function params es answer = search the_lemmas

  pub nodes_variable : (n : ℕ) → nodes_with of (ty.Var n) ≡ of (variable.Plain n)
  unfolding nodes_with
  nodes_variable n = search the_lemmas

  pub nodes_row : (r : TyRow) → row_nodes_with of r ≡ sum (map (field_nodes_with of) (out-TyRow r).fields) + tail_nodes of variable.Row (out-TyRow r).tail
  unfolding row_nodes_with field_nodes_with
  nodes_row r = search the_lemmas

  pub nodes_field : (f : TyField) → field_nodes_with of f ≡ 1 + nodes_with of f.ty
  unfolding nodes_with field_nodes_with
  nodes_field f = search the_lemmas

-- ---- the text of a type

module _ (name : Variable → List ℕ) where
  pub written_int : written name ty.Int ≡ codes "Int"
  unfolding written
  written_int = search the_lemmas

  pub written_bool : written name ty.Bool ≡ codes "Bool"
  unfolding written
  written_bool = search the_lemmas

  pub written_string : written name ty.Text ≡ codes "String"
  unfolding written
  written_string = search the_lemmas

  pub written_list : (t : Ty) → written name (ty.List t) ≡ list_text (written name t)
  unfolding written
  written_list t = search the_lemmas

  pub written_record : (r : TyRow) → written name (ty.Fields r) ≡ record_text (written_row name r)
  unfolding written written_row
  written_record r = search the_lemmas

  pub written_variant : (r : TyRow) → written name (ty.Tags r) ≡ variant_text (written_row name r)
  unfolding written written_row
  written_variant r = search the_lemmas

  by_function : (params : List Ty) (es : Effects) (answer : Ty)
      → written name (ty.Fun params es answer) ≡ function_text (separated (map (written name) params)) (effects_text es.labels (option_map name (tail_variable variable.Effects es.tail))) (written name answer)
  unfolding written
  by_function params es answer = search the_lemmas

  pub written_function : (params : List Ty) (es : Effects) (answer : Ty)
      → written name (ty.Fun params es answer) ≡ function_text (join_by (written name) (codes ",") params) (effects_text es.labels (option_map name (tail_variable variable.Effects es.tail))) (written name answer)
  written_function params es answer =
      by_function params es answer ∙ ap (λ z. function_text z (effects_text es.labels (option_map name (tail_variable variable.Effects es.tail))) (written name answer)) (separated_map (written name) params)

  pub written_variable : (n : ℕ) → written name (ty.Var n) ≡ name (variable.Plain n)
  unfolding written
  written_variable n = search the_lemmas

  by_row : (r : TyRow) → written_row name r ≡ row_text (separated (map (written_field name) (out-TyRow r).fields)) (option_map name (tail_variable variable.Row (out-TyRow r).tail))
  unfolding written_row written_field
  by_row r = search the_lemmas

  pub written_of_row : (r : TyRow) → written_row name r ≡ row_text (join_by (written_field name) (codes ",") (out-TyRow r).fields) (option_map name (tail_variable variable.Row (out-TyRow r).tail))
  written_of_row r = by_row r ∙ ap (λ z. row_text z (option_map name (tail_variable variable.Row (out-TyRow r).tail))) (separated_map (written_field name) (out-TyRow r).fields)

  pub written_of_field : (f : TyField) → written_field name f ≡ field_text f.label (written name f.ty)
  unfolding written written_field
  written_of_field f = search the_lemmas

-- ---- the text of a ground type

pub ground_int : ground_text known.Int ≡ codes "Int"
unfolding ground_text
ground_int = search ground_folds.the_lemmas

pub ground_bool : ground_text known.Bool ≡ codes "Bool"
unfolding ground_text
ground_bool = search ground_folds.the_lemmas

pub ground_string : ground_text known.Text ≡ codes "String"
unfolding ground_text
ground_string = search ground_folds.the_lemmas

pub ground_list : (t : Ground) → ground_text (known.List t) ≡ list_text (ground_text t)
unfolding ground_text
ground_list t = search ground_folds.the_lemmas

by_fields : (fs : List GroundField) → ground_text (known.Fields fs) ≡ record_text (separated (map ground_field_text fs))
unfolding ground_text ground_field_text
by_fields fs = search ground_folds.the_lemmas

pub ground_record : (fs : List GroundField) → ground_text (known.Fields fs) ≡ record_text (join_by ground_field_text (codes ",") fs)
ground_record fs = by_fields fs ∙ ap record_text (separated_map ground_field_text fs)

by_tags : (fs : List GroundField) → ground_text (known.Tags fs) ≡ variant_text (separated (map ground_field_text fs))
unfolding ground_text ground_field_text
by_tags fs = search ground_folds.the_lemmas

pub ground_variant : (fs : List GroundField) → ground_text (known.Tags fs) ≡ variant_text (join_by ground_field_text (codes ",") fs)
ground_variant fs = by_tags fs ∙ ap variant_text (separated_map ground_field_text fs)

by_params : (params : List Ground) (labels : List Effect) (answer : Ground) → ground_text (known.Fun params labels answer) ≡ function_text (separated (map ground_text params)) (effects_text labels None) (ground_text answer)
unfolding ground_text
by_params params labels answer = search ground_folds.the_lemmas

pub ground_function : (params : List Ground) (labels : List Effect) (answer : Ground) → ground_text (known.Fun params labels answer) ≡ function_text (join_by ground_text (codes ",") params) (effects_text labels None) (ground_text answer)
ground_function params labels answer = by_params params labels answer ∙ ap (λ z. function_text z (effects_text labels None) (ground_text answer)) (separated_map ground_text params)

pub ground_field : (f : GroundField) → ground_field_text f ≡ field_text f.label (ground_text f.ty)
unfolding ground_text ground_field_text
ground_field f = search ground_folds.the_lemmas
