-- What a type becomes rests on what stands for its own variables alone.
use Rattle.std.proofs.Common.{◌≡◌, List, [], ◌∷◌, ◌++◌, map, refl, ap, ap₂, sym, subst, ◌∙◌, Option}
use Rattle.std.specs.List.{cons_option}
use Rattle.std.specs.Option.{option_map}
use Rattle.lk_types.proofs.Members.{each_front, each_back}
use Rattle.lk_types.specs.Each.{Each}
use Rattle.lk_types.specs.Grounding.{Grounding, Known, under, row_under, field_under, ty_level, row_level, field_level, before_row, row_tail, effect_tail, before_effects, all_of, function_of}
use Rattle.lk_types.specs.Rows.{Row, fields_of}
use Rattle.lk_types.specs.Variables.{joined, before_tail, tail_variable, variables_of, variables_of_row, variables_of_field, ty_variables, row_variables, field_variables}
use Rattle.lk_types.specs.declared.ground.Ground.{Ground}
use Rattle.lk_types.specs.declared.ground.Ground.TheVariants as known
use Rattle.lk_types.specs.declared.ty.RowTail.{RowTail}
use Rattle.lk_types.specs.declared.ty.RowTail.TheVariants.{Closed, Var}
use Rattle.lk_types.specs.declared.ty.Ty.{Ty, roll-Ty}
use Rattle.lk_types.specs.declared.ty.Ty.TheFolds.{ind-Ty, map-Ty, fold-roll-Ty, fold-roll-TyRow, fold-roll-TyField}
use Rattle.lk_types.specs.declared.ty.Ty.TheOpen.{Ty-F, TyField-F, TyRow-F}
use Rattle.lk_types.specs.declared.ty.TyField.{TyField, roll-TyField}
use Rattle.lk_types.specs.declared.ty.TyRow.{TyRow, roll-TyRow}
use Rattle.lk_types.specs.declared.ty.Variable.{Variable}
use Rattle.lk_types.specs.declared.ty.Variable.TheVariants as variable

-- the same stands for a variable
abbrev pub AgreeAt : Grounding → Grounding → Variable → Type 0
AgreeAt σ τ (variable.Plain n) = σ.plain n ≡ τ.plain n
AgreeAt σ τ (variable.Row n) = σ.rows n ≡ τ.rows n
AgreeAt σ τ (variable.Effects n) = σ.effects n ≡ τ.effects n

-- ---- one level

pub under_rolled : (σ : Grounding) (x : Ty-F Ty TyField TyRow) → under σ (roll-Ty x) ≡ ty_level σ (map-Ty Ty TyField TyRow (Option Ground) Known (Option Row) (under σ) (field_under σ) (row_under σ) x)
unfolding under field_under row_under
under_rolled σ x = fold-roll-Ty (Option Ground) Known (Option Row) (ty_level σ) (field_level σ) (row_level σ) x

pub under_rolled_row : (σ : Grounding) (x : TyRow-F Ty TyField TyRow) → row_under σ (roll-TyRow x) ≡ before_row (map (field_under σ) x.fields) (row_tail σ x.tail)
unfolding under field_under row_under
under_rolled_row σ x = fold-roll-TyRow (Option Ground) Known (Option Row) (ty_level σ) (field_level σ) (row_level σ) x

pub under_rolled_field : (σ : Grounding) (x : TyField-F Ty TyField TyRow) → field_under σ (roll-TyField x) ≡ (x.label, under σ x.ty)
unfolding under field_under row_under
under_rolled_field σ x = fold-roll-TyField (Option Ground) Known (Option Row) (ty_level σ) (field_level σ) (row_level σ) x

pub variables_rolled : (x : Ty-F Ty TyField TyRow) → variables_of (roll-Ty x) ≡ ty_variables (map-Ty Ty TyField TyRow (List Variable) (List Variable) (List Variable) variables_of variables_of_field variables_of_row x)
unfolding variables_of variables_of_field variables_of_row
variables_rolled x = fold-roll-Ty (List Variable) (List Variable) (List Variable) ty_variables field_variables row_variables x

pub variables_rolled_row : (x : TyRow-F Ty TyField TyRow) → variables_of_row (roll-TyRow x) ≡ before_tail (joined (map variables_of_field x.fields)) variable.Row x.tail
unfolding variables_of variables_of_field variables_of_row
variables_rolled_row x = fold-roll-TyRow (List Variable) (List Variable) (List Variable) ty_variables field_variables row_variables x

pub variables_rolled_field : (x : TyField-F Ty TyField TyRow) → variables_of_field (roll-TyField x) ≡ variables_of x.ty
unfolding variables_of variables_of_field variables_of_row
variables_rolled_field x = fold-roll-TyField (List Variable) (List Variable) (List Variable) ty_variables field_variables row_variables x

module _ (σ τ : Grounding) where
  abbrev Agree : List Variable → Type 0
  Agree xs = Each (AgreeAt σ τ) xs

  abbrev TyAgrees : Ty → Type 0
  TyAgrees t = Agree (variables_of t) → under σ t ≡ under τ t

  abbrev RowAgrees : TyRow → Type 0
  RowAgrees r = Agree (variables_of_row r) → row_under σ r ≡ row_under τ r

  abbrev FieldAgrees : TyField → Type 0
  FieldAgrees f = Agree (variables_of_field f) → field_under σ f ≡ field_under τ f

  abbrev Such : Type 0
  Such = (t : Ty) × TyAgrees t

  abbrev SuchRow : Type 0
  SuchRow = (r : TyRow) × RowAgrees r

  abbrev SuchField : Type 0
  SuchField = (f : TyField) × FieldAgrees f

  row_tail_agrees : (tail : RowTail) → Agree (cons_option (tail_variable variable.Row tail) []) → row_tail σ tail ≡ row_tail τ tail
  row_tail_agrees Closed all = refl
  row_tail_agrees (Var n) all = all.0

  effect_tail_agrees : (tail : RowTail) → Agree (cons_option (tail_variable variable.Effects tail) []) → effect_tail σ tail ≡ effect_tail τ tail
  effect_tail_agrees Closed all = refl
  effect_tail_agrees (Var n) all = all.0

  types_agree : (ts : List Such) → Agree (joined (map variables_of (map (λ t. t.0) ts))) → map (under σ) (map (λ t. t.0) ts) ≡ map (under τ) (map (λ t. t.0) ts)
  types_agree [] all = refl
  types_agree (t ∷ ts) all = ap₂ (λ a as'. a ∷ as') (t.1 (each_front (AgreeAt σ τ) (variables_of t.0) _ all)) (types_agree ts (each_back (AgreeAt σ τ) (variables_of t.0) _ all))

  fields_agree : (fs : List SuchField) → Agree (joined (map variables_of_field (map (λ f. f.0) fs))) → map (field_under σ) (map (λ f. f.0) fs) ≡ map (field_under τ) (map (λ f. f.0) fs)
  fields_agree [] all = refl
  fields_agree (f ∷ fs) all = ap₂ (λ a more. a ∷ more) (f.1 (each_front (AgreeAt σ τ) (variables_of_field f.0) _ all)) (fields_agree fs (each_back (AgreeAt σ τ) (variables_of_field f.0) _ all))

  abbrev plain_level : Ty-F Such SuchField SuchRow → Ty-F Ty TyField TyRow
  plain_level = map-Ty Such SuchField SuchRow Ty TyField TyRow (λ t. t.0) (λ f. f.0) (λ r. r.0)

  abbrev LevelAgrees : Ty-F Ty TyField TyRow → Type 0
  LevelAgrees x = Agree (ty_variables (map-Ty Ty TyField TyRow (List Variable) (List Variable) (List Variable) variables_of variables_of_field variables_of_row x))
      → ty_level σ (map-Ty Ty TyField TyRow (Option Ground) Known (Option Row) (under σ) (field_under σ) (row_under σ) x)
      ≡ ty_level τ (map-Ty Ty TyField TyRow (Option Ground) Known (Option Row) (under τ) (field_under τ) (row_under τ) x)

  level_agrees : (y : Ty-F Such SuchField SuchRow) → LevelAgrees (plain_level y)
  level_agrees Ty-F.Int all = refl
  level_agrees Ty-F.Bool all = refl
  level_agrees Ty-F.Text all = refl
  level_agrees (Ty-F.List t) all = ap (option_map known.List) (t.1 all)
  level_agrees (Ty-F.Fields r) all = ap (option_map (λ m. known.Fields (fields_of m))) (r.1 all)
  level_agrees (Ty-F.Tags r) all = ap (option_map (λ m. known.Tags (fields_of m))) (r.1 all)
  level_agrees (Ty-F.Fun ps es t) all =
      let params : List Variable = joined (map variables_of (map (λ p. p.0) ps)) in
      let tail : List Variable = cons_option (tail_variable variable.Effects es.tail) [] in
      let front : Agree (params ++ tail) = each_front (AgreeAt σ τ) (params ++ tail) (variables_of t.0) all in
      λ i. function_of (all_of (types_agree ps (each_front (AgreeAt σ τ) params tail front) i)) (before_effects es.labels (effect_tail_agrees es.tail (each_back (AgreeAt σ τ) params tail front) i)) (t.1 (each_back (AgreeAt σ τ) (params ++ tail) (variables_of t.0) all) i)
  level_agrees (Ty-F.Var n) all = ap (λ t. Option.Some t) all.0

  ty_agrees : (y : Ty-F Such SuchField SuchRow) → TyAgrees (roll-Ty (plain_level y))
  ty_agrees y all = under_rolled σ _ ∙ level_agrees y (subst Agree (variables_rolled (plain_level y)) all) ∙ sym (under_rolled τ (plain_level y))

  row_agrees : (y : TyRow-F Such SuchField SuchRow) → RowAgrees (roll-TyRow (record { fields = map (λ f. f.0) y.fields; tail = y.tail }))
  row_agrees y all =
      let fields : List Variable = joined (map variables_of_field (map (λ f. f.0) y.fields)) in
      let tail : List Variable = cons_option (tail_variable variable.Row y.tail) [] in
      let both : Agree (fields ++ tail) = subst Agree (variables_rolled_row _) all in
      under_rolled_row σ _
      ∙ ap₂ before_row (fields_agree y.fields (each_front (AgreeAt σ τ) fields tail both)) (row_tail_agrees y.tail (each_back (AgreeAt σ τ) fields tail both))
      ∙ sym (under_rolled_row τ _)

  field_agrees : (y : TyField-F Such SuchField SuchRow) → FieldAgrees (roll-TyField (record { label = y.label; ty = y.ty.0 }))
  field_agrees y all = under_rolled_field σ _ ∙ ap (λ t. (y.label, t)) (y.ty.1 (subst Agree (variables_rolled_field _) all)) ∙ sym (under_rolled_field τ _)

  pub agrees : (t : Ty) → Agree (variables_of t) → under σ t ≡ under τ t
  agrees = ind-Ty TyAgrees FieldAgrees RowAgrees
      (λ x y is. subst (λ z. TyAgrees (roll-Ty z)) is (ty_agrees y))
      (λ x y is. subst (λ z. FieldAgrees (roll-TyField z)) is (field_agrees y))
      (λ x y is. subst (λ z. RowAgrees (roll-TyRow z)) is (row_agrees y))
