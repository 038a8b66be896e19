-- How large types are, and equations under their most general solution.
use Rattle.std.specs.Prelude.{ℕ, ◌+◌, ◌<◌, ◌≤◌, ◌⊎◌, List, Option, Some, None, length, sum, take}
use Rattle.lk_types.specs.Each.{Each, OneOf}
use Rattle.lk_types.specs.Solutions.{HasSolution, IsMostGeneral, IsSolvedForm, plain_image, row_image, effects_image}
use Rattle.lk_types.specs.declared.equation.Equation.{Equation}
use Rattle.lk_types.specs.declared.equation.Subst.{Subst}
use Rattle.lk_types.specs.declared.ty.Effects.{Effects}
use Rattle.lk_types.specs.declared.ty.RowTail.{RowTail}
use Rattle.lk_types.specs.declared.ty.RowTail.TheVariants.{Closed, Var}
use Rattle.lk_types.specs.declared.ty.Ty.{Ty, fold-Ty}
use Rattle.lk_types.specs.declared.ty.Ty.TheOpen.{Ty-F, TyField-F, TyRow-F}
use Rattle.lk_types.specs.declared.ty.TyField.{TyField, fold-TyField}
use Rattle.lk_types.specs.declared.ty.TyRow.{TyRow, fold-TyRow}
use Rattle.lk_types.specs.declared.ty.Variable.{Variable}
use Rattle.lk_types.specs.declared.ty.Variable.TheVariants as variable

-- ---- the nodes of a type: a base, list, record, variant, function, label or effect each counts one, and a variable what
-- `of` says

module _ (of : Variable → ℕ) where
  abbrev pub tail_nodes : (ℕ → Variable) → RowTail → ℕ
  tail_nodes kind Closed = 0
  tail_nodes kind (Var n) = of (kind n)

  abbrev pub effects_nodes : Effects → ℕ
  effects_nodes es = length es.labels + tail_nodes variable.Effects es.tail

  abbrev pub ty_nodes : Ty-F ℕ ℕ ℕ → ℕ
  ty_nodes (Ty-F.List t) = 1 + t
  ty_nodes (Ty-F.Fields row) = 1 + row
  ty_nodes (Ty-F.Tags row) = 1 + row
  ty_nodes (Ty-F.Fun params es answer) = 1 + (sum params + (effects_nodes es + answer))
  ty_nodes (Ty-F.Var n) = of (variable.Plain n)
  ty_nodes _ = 1

  abbrev pub row_nodes : TyRow-F ℕ ℕ ℕ → ℕ
  row_nodes row = sum row.fields + tail_nodes variable.Row row.tail

  abbrev pub field_nodes : TyField-F ℕ ℕ ℕ → ℕ
  field_nodes f = 1 + f.ty

unfoldable pub nodes_with : (Variable → ℕ) → Ty → ℕ
nodes_with of = fold-Ty ℕ ℕ ℕ (ty_nodes of) (field_nodes of) (row_nodes of)

unfoldable pub row_nodes_with : (Variable → ℕ) → TyRow → ℕ
row_nodes_with of = fold-TyRow ℕ ℕ ℕ (ty_nodes of) (field_nodes of) (row_nodes of)

unfoldable pub field_nodes_with : (Variable → ℕ) → TyField → ℕ
field_nodes_with of = fold-TyField ℕ ℕ ℕ (ty_nodes of) (field_nodes of) (row_nodes of)

abbrev pub one : Variable → ℕ
one x = 1

abbrev pub nodes : Ty → ℕ
nodes t = nodes_with one t

-- ---- under a substitution, a variable counts as much as what is put for it

abbrev pub size_of_image : {A : Type 0} → (A → ℕ) → Option A → ℕ
size_of_image size None = 1
size_of_image size (Some image) = size image

abbrev pub image_size : Subst → Variable → ℕ
image_size s (variable.Plain n) = size_of_image nodes (plain_image s n)
image_size s (variable.Row n) = size_of_image (row_nodes_with one) (row_image s n)
image_size s (variable.Effects n) = size_of_image (effects_nodes one) (effects_image s n)

abbrev pub size_under : Subst → Ty → ℕ
size_under s t = nodes_with (image_size s) t

-- ---- small lists of equations

-- the most nodes that a type may have
abbrev pub most_nodes : ℕ
most_nodes = 4096

abbrev pub IsWithin : Subst → Equation → Type 0
IsWithin s e = (size_under s e.left ≤ most_nodes) × (size_under s e.right ≤ most_nodes)

abbrev pub IsBeyond : Subst → Equation → Type 0
IsBeyond s e = (most_nodes < size_under s e.left) ⊎ (most_nodes < size_under s e.right)

-- A most general solution in solved form. There is one but for the names of variables, and but for tails of rows with all
-- seven effects, which only the empty row can stand for: such a tail may be left open or be closed.
abbrev pub IsSolution : Subst → List Equation → Type 0
IsSolution s equations = HasSolution equations × IsMostGeneral s equations × IsSolvedForm s

-- they have a solution, and under the most general one each side has at most that many nodes
abbrev pub IsFine : List Equation → Type 0
IsFine equations = (s : Subst) × IsSolution s equations × Each (IsWithin s) equations

-- they have a solution, and under the most general one some side has more
abbrev pub IsTooLarge : List Equation → Type 0
IsTooLarge equations = (s : Subst) × IsSolution s equations × OneOf (IsBeyond s) equations

-- Each first part of the list is fine. That the whole is fine doesn't say so: a tail counts one, and none once it is closed.
abbrev pub AreSmall : List Equation → Type 0
AreSmall equations = (k : ℕ) → k ≤ length equations → IsFine (take k equations)

-- the equations before number k are small, and with it there is no solution
pub record IsFirstUnsolvable (equations : List Equation) (k : ℕ) : Type 0 where
  pub within : k < length equations
  pub small : AreSmall (take k equations)
  pub none : HasSolution (take (k + 1) equations) → ⊥

-- the equations before number k are small, and with it some side is too large
pub record IsFirstTooLarge (equations : List Equation) (k : ℕ) : Type 0 where
  pub within : k < length equations
  pub small : AreSmall (take k equations)
  pub large : IsTooLarge (take (k + 1) equations)
