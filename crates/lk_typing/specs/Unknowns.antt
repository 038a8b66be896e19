-- Types with variables, in the words of the equations. Variables of all three kinds are numbered together.
use Rattle.std.specs.Prelude.{ℕ, List, [], ◌∷◌, map}
use Rattle.lk_ast.specs.declared.declaration.TableDecl.{TableDecl}
use Rattle.lk_ast.specs.declared.table.BaseKind.{BaseKind}
use Rattle.lk_ast.specs.declared.table.BaseKind.TheVariants as kind
use Rattle.lk_types.specs.Rows.{Label}
use Rattle.lk_types.specs.declared.equation.Equation.{Equation}
use Rattle.lk_types.specs.declared.ty.Effect.{Effect}
use Rattle.lk_types.specs.declared.ty.Effects.{Effects}
use Rattle.lk_types.specs.declared.ty.RowTail.{RowTail}
use Rattle.lk_types.specs.declared.ty.RowTail.TheVariants.{Closed, Var}
use Rattle.lk_types.specs.declared.ty.Ty.{Ty}
use Rattle.lk_types.specs.declared.ty.Ty.TheVariants as ty
use Rattle.lk_types.specs.declared.ty.TyField.{TyField}
use Rattle.lk_types.specs.declared.ty.TyRow.{TyRow, roll-TyRow}

abbrev pub base : BaseKind → Ty
base kind.Int = ty.Int
base kind.Bool = ty.Bool
base kind.Text = ty.Text

abbrev pub field : Label × Ty → TyField
field f = record { label = f.0; ty = f.1 }

abbrev pub row : List (Label × Ty) → RowTail → TyRow
row fields tail = roll-TyRow (record { fields = map field fields; tail = tail })

abbrev pub record_of : List (Label × Ty) → RowTail → Ty
record_of fields tail = ty.Fields (row fields tail)

abbrev pub variant_of : List (Label × Ty) → RowTail → Ty
variant_of fields tail = ty.Tags (row fields tail)

-- the type of `()`
abbrev pub unit : Ty
unit = record_of [] Closed

abbrev pub effects_of : List Effect → RowTail → Effects
effects_of labels tail = record { labels = labels; tail = tail }

-- the type of a table's rows
abbrev pub row_of : TableDecl → Ty
row_of table = record_of (map (λ c. (c.label.text, base c.kind)) table.columns) Closed

abbrev pub same : Ty → Ty → Equation
same left right = record { left = left; right = right }

-- an equation of effects, as one of functions without parameters
abbrev pub same_effects : Effects → Effects → Equation
same_effects left right = same (ty.Fun [] left unit) (ty.Fun [] right unit)

-- these effects have that one: they are it and others, which are a new variable
abbrev pub has : Effects → Effect → ℕ → Equation
has effects e n = same_effects effects (effects_of (e ∷ []) (Var n))
