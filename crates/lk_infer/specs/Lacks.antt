-- What variables of rows lack because of the rows that they end: labels that stand before them (Gaster and Jones, A polymorphic
-- type system for extensible records and variants, 1996).
use Rattle.std.specs.Prelude.{ℕ, List, [], ◌++◌, map, flat_map}
use Rattle.lk_types.specs.Rows.{Label}
use Rattle.lk_types.specs.Variables.{joined}
use Rattle.lk_types.specs.declared.scheme.Lack.{Lack}
use Rattle.lk_types.specs.declared.ty.RowTail.{RowTail}
use Rattle.lk_types.specs.declared.ty.RowTail.TheVariants.{Closed, Var}
use Rattle.lk_types.specs.declared.ty.Ty.{Ty, fold-Ty}
use Rattle.lk_types.specs.declared.ty.Ty.TheOpen.{Ty-F, TyField-F, TyRow-F}
use Rattle.lk_types.specs.declared.ty.TyField.{TyField, fold-TyField}
use Rattle.lk_types.specs.declared.ty.TyRow.{TyRow, fold-TyRow}

-- a field's label, and what is shown in its type
pub record ShownField : Type 0 where
  pub label : Label
  pub inside : List Lack

-- the labels before a tail
abbrev pub tail_lacks : List Label → RowTail → List Lack
tail_lacks labels Closed = []
tail_lacks labels (Var n) = map (λ l. record { var = n; label = l }) labels

abbrev pub ty_shown : Ty-F (List Lack) ShownField (List Lack) → List Lack
ty_shown (Ty-F.List t) = t
ty_shown (Ty-F.Fields row) = row
ty_shown (Ty-F.Tags row) = row
ty_shown (Ty-F.Fun params es answer) = joined params ++ answer
ty_shown _ = []

abbrev pub row_shown : TyRow-F (List Lack) ShownField (List Lack) → List Lack
row_shown row = flat_map (λ f. f.inside) row.fields ++ tail_lacks (map (λ f. f.label) row.fields) row.tail

abbrev pub field_shown : TyField-F (List Lack) ShownField (List Lack) → ShownField
field_shown f = record { label = f.label; inside = f.ty }

-- each label that stands before a variable of a row somewhere in the type
unfoldable pub shown : Ty → List Lack
shown = fold-Ty (List Lack) ShownField (List Lack) ty_shown field_shown row_shown

unfoldable pub shown_in_row : TyRow → List Lack
shown_in_row = fold-TyRow (List Lack) ShownField (List Lack) ty_shown field_shown row_shown

unfoldable pub shown_in_field : TyField → ShownField
shown_in_field = fold-TyField (List Lack) ShownField (List Lack) ty_shown field_shown row_shown
