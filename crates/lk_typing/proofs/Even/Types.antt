-- Rows of effects in the types that the equations are made of.
use Rattle.std.proofs.Common.{◌≡◌, ℕ, Bool, true, false, ◌||◌, List, [], ◌∷◌, ◌++◌, map, flat_map, refl, sym, ap, subst, ◌∙◌, Some}
use Rattle.lk_ast.specs.declared.declaration.ColumnDecl.{ColumnDecl}
use Rattle.lk_ast.specs.declared.declaration.TableDecl.{TableDecl}
use Rattle.lk_ast.specs.declared.table.BaseKind.{BaseKind}
use Rattle.lk_ast.specs.declared.table.BaseKind.TheVariants as kind
use Rattle.lk_types.proofs.Members.{each_both}
use Rattle.lk_types.specs.Each.{Each}
use Rattle.lk_types.specs.Rows.{EffectSet, no_effects, same_effect}
use Rattle.lk_types.specs.declared.equation.Equation.{Equation}
use Rattle.lk_types.specs.declared.ty.Effect.{Effect}
use Rattle.lk_types.specs.declared.ty.Effects.{Effects}
use Rattle.lk_types.specs.declared.ty.RowTail.{RowTail}
use Rattle.lk_types.specs.declared.ty.RowTail.TheVariants.{Closed, Var}
use Rattle.lk_types.specs.declared.ty.Ty.{Ty}
use Rattle.lk_types.specs.declared.ty.Ty.TheFolds.{the_lemmas}
use Rattle.lk_types.specs.declared.ty.Ty.TheVariants as ty
use Rattle.lk_types.specs.declared.ty.TyField.{TyField}
use Rattle.lk_types.specs.declared.ty.TyRow.{TyRow}
use Rattle.lk_typing.proofs.Even.Loose.{rows_of_row, rows_of_field, rows_rolled_row, rows_variable}
use Rattle.lk_typing.specs.EffectRows.{rows_of, HasBefore, IsEven}
use Rattle.lk_typing.specs.Names.{Named}
use Rattle.lk_typing.specs.Unknowns.{base, field, row, record_of, variant_of, unit, effects_of, row_of, has}

-- ---- the rows of each form of type

rows_int : rows_of ty.Int ≡ []
unfolding rows_of
rows_int = search the_lemmas

rows_bool : rows_of ty.Bool ≡ []
unfolding rows_of
rows_bool = search the_lemmas

rows_text : rows_of ty.Text ≡ []
unfolding rows_of
rows_text = search the_lemmas

rows_list : (t : Ty) → rows_of (ty.List t) ≡ rows_of t
unfolding rows_of
rows_list t = search the_lemmas

rows_fields : (r : TyRow) → rows_of (ty.Fields r) ≡ rows_of_row r
unfolding rows_of rows_of_row
rows_fields r = search the_lemmas

rows_tags : (r : TyRow) → rows_of (ty.Tags r) ≡ rows_of_row r
unfolding rows_of rows_of_row
rows_tags r = search the_lemmas

rows_field : (f : TyField) → rows_of_field f ≡ rows_of f.ty
unfolding rows_of rows_of_field
rows_field f = search the_lemmas

rows_function : (params : List Ty) (es : Effects) (answer : Ty) → rows_of (ty.Fun params es answer) ≡ flat_map (λ rows. rows) (map rows_of params) ++ (es ∷ rows_of answer)
unfolding rows_of
rows_function params es answer = search the_lemmas

-- ---- even types

module _ (c : ℕ → EffectSet) where
  -- the effects before the tail of a row are those that go with it
  abbrev pub HasRow : Effects → Type 0
  HasRow es = HasBefore c es.labels es.tail

  abbrev pub AreEvenTypes : List Ty → Type 0
  AreEvenTypes ts = Each (IsEven c) ts

  abbrev pub AreEvenNames : Named Ty → Type 0
  AreEvenNames names = Each (λ entry. IsEven c entry.1) names

  abbrev pub IsEvenEquation : Equation → Type 0
  IsEvenEquation equation = IsEven c equation.left × IsEven c equation.right

  by_rows : (t : Ty) (rows : List Effects) → rows_of t ≡ rows → Each HasRow rows → IsEven c t
  by_rows t rows is even = subst (λ r. Each HasRow r) (sym is) even

  pub even_int : IsEven c ty.Int
  even_int = by_rows ty.Int [] rows_int tt

  pub even_bool : IsEven c ty.Bool
  even_bool = by_rows ty.Bool [] rows_bool tt

  pub even_text : IsEven c ty.Text
  even_text = by_rows ty.Text [] rows_text tt

  pub even_variable : (n : ℕ) → IsEven c (ty.Var n)
  even_variable n = by_rows (ty.Var n) [] (rows_variable n) tt

  pub even_list : (t : Ty) → IsEven c t → IsEven c (ty.List t)
  even_list t even = by_rows (ty.List t) (rows_of t) (rows_list t) even

  pub even_base : (k : BaseKind) → IsEven c (base k)
  even_base kind.Int = even_int
  even_base kind.Bool = even_bool
  even_base kind.Text = even_text

  fields_even : (fields : Named Ty) → AreEvenNames fields → Each HasRow (flat_map (λ rows. rows) (map rows_of_field (map field fields)))
  fields_even [] even = tt
  fields_even (f ∷ fs) even =
      each_both HasRow (rows_of_field (field f)) (flat_map (λ rows. rows) (map rows_of_field (map field fs))) (subst (λ r. Each HasRow r) (sym (rows_field (field f))) even.0) (fields_even fs even.1)

  row_even : (fields : Named Ty) (tail : RowTail) → AreEvenNames fields → Each HasRow (rows_of_row (row fields tail))
  row_even fields tail even = subst (λ r. Each HasRow r) (sym (rows_rolled_row (record { fields = map field fields; tail = tail }))) (fields_even fields even)

  pub even_fields : (r : TyRow) → Each HasRow (rows_of_row r) → IsEven c (ty.Fields r)
  even_fields r even = by_rows (ty.Fields r) (rows_of_row r) (rows_fields r) even

  pub even_tags : (r : TyRow) → Each HasRow (rows_of_row r) → IsEven c (ty.Tags r)
  even_tags r even = by_rows (ty.Tags r) (rows_of_row r) (rows_tags r) even

  pub even_record : (fields : Named Ty) (tail : RowTail) → AreEvenNames fields → IsEven c (record_of fields tail)
  even_record fields tail even = even_fields (row fields tail) (row_even fields tail even)

  pub even_variant : (fields : Named Ty) (tail : RowTail) → AreEvenNames fields → IsEven c (variant_of fields tail)
  even_variant fields tail even = even_tags (row fields tail) (row_even fields tail even)

  pub even_unit : IsEven c unit
  even_unit = even_record [] Closed tt

  pub even_row_of : (table : TableDecl) → IsEven c (row_of table)
  even_row_of table = even_record (map (λ column. (column.label.text, base column.kind)) table.columns) Closed (columns_even table.columns)
    where
      columns_even : (columns : List ColumnDecl) → AreEvenNames (map (λ column. (column.label.text, base column.kind)) columns)
      columns_even [] = tt
      columns_even (column ∷ columns) = (even_base column.kind, columns_even columns)

  pub even_function_rows : (params : List Ty) (es : Effects) (answer : Ty) → Each HasRow (flat_map (λ rows. rows) (map rows_of params)) → HasRow es → IsEven c answer → IsEven c (ty.Fun params es answer)
  even_function_rows params es answer even has even_answer =
      by_rows (ty.Fun params es answer) (flat_map (λ rows. rows) (map rows_of params) ++ (es ∷ rows_of answer)) (rows_function params es answer)
      (each_both HasRow (flat_map (λ rows. rows) (map rows_of params)) (es ∷ rows_of answer) even (has, even_answer))

  pub even_function : (params : List Ty) (es : Effects) (answer : Ty) → AreEvenTypes params → HasRow es → IsEven c answer → IsEven c (ty.Fun params es answer)
  even_function params es answer even has even_answer = even_function_rows params es answer (params_even params even) has even_answer
    where
      params_even : (params : List Ty) → AreEvenTypes params → Each HasRow (flat_map (λ rows. rows) (map rows_of params))
      params_even [] even = tt
      params_even (p ∷ ps) even = each_both HasRow (rows_of p) (flat_map (λ rows. rows) (map rows_of ps)) even.0 (params_even ps even.1)

  -- ---- new rows

  -- no effect stands before a variable that goes with none
  pub alone : (n : ℕ) → c n ≡ no_effects → HasRow (effects_of [] (Var n))
  alone n is = ap (λ s. Some s) (sym is)

  -- one effect before a variable that goes with it
  pub one_effect : (e : Effect) (n : ℕ) → c n ≡ same_effect e → HasRow (effects_of (e ∷ []) (Var n))
  one_effect e n is = ap (λ s. Some s) ((λ i x. or_none (same_effect e x) i) ∙ sym is)
    where
      or_none : (b : Bool) → (b || false) ≡ b
      or_none true = refl
      or_none false = refl

  -- effects that have one more
  pub even_has : (es : Effects) (e : Effect) (n : ℕ) → HasRow es → c n ≡ same_effect e → IsEvenEquation (has es e n)
  even_has es e n row is = (even_function [] es unit tt row even_unit, even_function [] (effects_of (e ∷ []) (Var n)) unit tt (one_effect e n is) even_unit)
