-- An instance of a scheme with new variables: its variables, in the order in which they come first, get the next numbers. So it takes
-- as many numbers as the scheme has variables, whichever numbers these have.
use Rattle.std.specs.Prelude.{ℕ, ◌+◌, List, ◌++◌, length, map}
use Rattle.std.specs.List.{position_or_len}
use Rattle.lk_types.specs.Variables.{firsts, same_variable, variables_of}
use Rattle.lk_types.specs.declared.scheme.Scheme.{Scheme}
use Rattle.lk_types.specs.declared.ty.Effects.{Effects}
use Rattle.lk_types.specs.declared.ty.RowTail.{RowTail}
use Rattle.lk_types.specs.declared.ty.RowTail.TheVariants.{Closed, Var}
use Rattle.lk_types.specs.declared.ty.Ty.{Ty, fold-Ty}
use Rattle.lk_types.specs.declared.ty.Ty.TheOpen.{Ty-F, TyField-F, TyRow-F}
use Rattle.lk_types.specs.declared.ty.Ty.TheVariants as ty
use Rattle.lk_types.specs.declared.ty.TyField.{TyField, fold-TyField}
use Rattle.lk_types.specs.declared.ty.TyRow.{TyRow, roll-TyRow, fold-TyRow}
use Rattle.lk_types.specs.declared.ty.Variable.{Variable}
use Rattle.lk_types.specs.declared.ty.Variable.TheVariants as variable

-- the number that each variable gets
module _ (place : Variable → ℕ) where
  abbrev pub tail_renamed : (ℕ → Variable) → RowTail → RowTail
  tail_renamed kind Closed = Closed
  tail_renamed kind (Var v) = Var (place (kind v))

  abbrev pub effects_renamed : Effects → Effects
  effects_renamed es = record { labels = es.labels; tail = tail_renamed variable.Effects es.tail }

  abbrev pub ty_renamed : Ty-F Ty TyField TyRow → Ty
  ty_renamed Ty-F.Int = ty.Int
  ty_renamed Ty-F.Bool = ty.Bool
  ty_renamed Ty-F.Text = ty.Text
  ty_renamed (Ty-F.List t) = ty.List t
  ty_renamed (Ty-F.Fields row) = ty.Fields row
  ty_renamed (Ty-F.Tags row) = ty.Tags row
  ty_renamed (Ty-F.Fun params es answer) = ty.Fun params (effects_renamed es) answer
  ty_renamed (Ty-F.Var v) = ty.Var (place (variable.Plain v))

  abbrev pub row_renamed : TyRow-F Ty TyField TyRow → TyRow
  row_renamed row = roll-TyRow (record { fields = row.fields; tail = tail_renamed variable.Row row.tail })

  abbrev pub field_renamed : TyField-F Ty TyField TyRow → TyField
  field_renamed f = record { label = f.label; ty = f.ty }

unfoldable pub renamed : (Variable → ℕ) → Ty → Ty
renamed place = fold-Ty Ty TyField TyRow (ty_renamed place) (field_renamed place) (row_renamed place)

unfoldable pub renamed_row : (Variable → ℕ) → TyRow → TyRow
renamed_row place = fold-TyRow Ty TyField TyRow (ty_renamed place) (field_renamed place) (row_renamed place)

unfoldable pub renamed_field : (Variable → ℕ) → TyField → TyField
renamed_field place = fold-TyField Ty TyField TyRow (ty_renamed place) (field_renamed place) (row_renamed place)

-- each variable of the scheme where it stands, and those that lack a label
abbrev pub scheme_variables : Scheme → List Variable
scheme_variables scheme = variables_of scheme.body ++ map (λ lack. variable.Row lack.var) scheme.lacks

-- how many numbers an instance takes
abbrev pub width : Scheme → ℕ
width scheme = length (firsts (scheme_variables scheme))

-- the place of a variable among others, from n on
abbrev pub place_among : ℕ → List Variable → Variable → ℕ
place_among n xs x = n + position_or_len (same_variable x) xs

-- the number of a variable of the scheme in an instance whose first number is n
abbrev pub place_from : ℕ → Scheme → Variable → ℕ
place_from n scheme = place_among n (firsts (scheme_variables scheme))
