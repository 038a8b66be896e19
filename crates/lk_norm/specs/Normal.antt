-- The normal form of a query: branches, each of which has generators over tables, a condition, and a row of scalars (Cooper, The
-- script-writer's dream, DBPL 2009; Cheney, Lindley and Wadler, A practical theory of language-integrated query, ICFP 2013). What
-- a name is bound to stands in its place, a loop over branches becomes a branch for each choice, and conditions come together.
use Rattle.std.specs.Prelude.{ℕ, pos, ◌+◌, Bool, true, false, List, [], ◌∷◌, ◌++◌, map, length, if◌then◌else◌, bytes_eq}
use Rattle.std.specs.List.{flat_map}
use Rattle.lk_ast.specs.declared.table.Base.{Base}
use Rattle.lk_ast.specs.declared.table.Base.TheVariants as base
use Rattle.lk_ast.specs.declared.table.BaseKind.{BaseKind}
use Rattle.lk_ast.specs.declared.table.BaseKind.TheVariants as kind
use Rattle.lk_ast.specs.declared.table.Column.{Column}
use Rattle.lk_sql.specs.Operations.{zero_base}
use Rattle.lk_sql.specs.declared.tree.FromItem.{FromItem}
use Rattle.lk_sql.specs.declared.tree.Out.{Out}
use Rattle.lk_sql.specs.declared.tree.Scalar.{Scalar, out-Scalar}
use Rattle.lk_sql.specs.declared.tree.Scalar.TheOpen.{Scalar-F}
use Rattle.lk_sql.specs.declared.tree.Scalar.TheVariants as scalar
use Rattle.lk_sql.specs.declared.tree.Select.{Select, roll-Select}
use Rattle.lk_sql.specs.declared.tree.SqlOp.TheVariants as op
use Rattle.lk_query.specs.Order.{bind, filled}
use Rattle.lk_query.specs.declared.part.Labelled.{Labelled}
use Rattle.lk_query.specs.declared.part.Part.{Part}
use Rattle.lk_query.specs.declared.part.Part.TheVariants as part

-- a row for each choice of rows of the generators for which the condition holds
pub record Branch : Type 0 where
  pub froms : List FromItem
  pub cond : Scalar
  pub outs : List Out

abbrev pub branch : List FromItem → Scalar → List Out → Branch
branch froms cond outs = record { froms = froms; cond = cond; outs = outs }

-- What a part stands for: the scalar of a base, or the outputs of a record, where so many generators are in scope; or the branches of
-- a list, where so many generators are in scope outside of its select, these stand before its own, and this condition holds before
-- its own. The two that it isn't are empty.
pub record Stands : Type 0 where
  pub base : ℕ → Scalar
  pub row : ℕ → List Out
  pub list : ℕ → List FromItem → Scalar → List Branch

abbrev pub no_scalar : Scalar
no_scalar = scalar.Lit zero_base

abbrev pub nothing : Stands
nothing = record { base = λ n. no_scalar; row = λ n. []; list = λ outer froms cond. [] }

abbrev pub as_base : (ℕ → Scalar) → Stands
as_base f = record { base = f; row = λ n. []; list = λ outer froms cond. [] }

abbrev pub as_row : (ℕ → List Out) → Stands
as_row f = record { base = λ n. no_scalar; row = f; list = λ outer froms cond. [] }

abbrev pub as_list : (ℕ → List FromItem → Scalar → List Branch) → Stands
as_list f = record { base = λ n. no_scalar; row = λ n. []; list = f }

-- ---- conditions

-- TRUE and FALSE
abbrev pub always : Scalar
always = scalar.Lit (base.Bool true)

abbrev pub never : Scalar
never = scalar.Lit (base.Bool false)

abbrev pub always_level : Scalar-F Scalar Out Select → Bool
always_level (Scalar-F.Lit (base.Bool b)) = b
always_level other = false

abbrev pub is_always : Scalar → Bool
is_always cond = always_level (out-Scalar cond)

abbrev pub negation : Scalar → Scalar
negation cond = scalar.Op op.Not (cond ∷ [])

abbrev pub both : Scalar → Scalar → Scalar
both cond other = scalar.Op op.And (cond ∷ other ∷ [])

-- both, without TRUE
abbrev pub conjunction : Scalar → Scalar → Scalar
conjunction cond other = if is_always cond then other else (if is_always other then cond else both cond other)

-- ---- generators and outputs

abbrev pub generator : ℕ → List ℕ → FromItem
generator n table = record { var = n; table = table }

-- the number of the next generator
abbrev pub next : ℕ → List FromItem → ℕ
next outer froms = outer + length froms + 1

abbrev pub output : List ℕ → Scalar → Out
output label s = record { label = label; scalar = s }

-- the columns of a generator
abbrev pub columns_of : ℕ → List (List ℕ) → List Out
columns_of n labels = map (λ label. output label (scalar.Column n label)) labels

-- the scalar of the first output with that label
abbrev pub scalar_in : List Out → List ℕ → Scalar
scalar_in [] label = no_scalar
scalar_in (out ∷ outs) label = if bytes_eq out.label label then out.scalar else scalar_in outs label

-- where none has it, that of the rest
abbrev pub scalar_or : List Out → List Out → List ℕ → Scalar
scalar_or [] rest label = scalar_in rest label
scalar_or (out ∷ outs) rest label = if bytes_eq out.label label then out.scalar else scalar_or outs rest label

abbrev pub equal_at : List Out → List Out → List ℕ → Scalar
equal_at outs others label = scalar.Op op.Eq (scalar_in outs label ∷ scalar_in others label ∷ [])

-- also equal at these labels
abbrev pub equal_from : Scalar → List Out → List Out → List (List ℕ) → Scalar
equal_from so_far outs others [] = so_far
equal_from so_far outs others (label ∷ labels) = equal_from (both so_far (equal_at outs others label)) outs others labels

abbrev pub equal_rows : List (List ℕ) → List Out → List Out → Scalar
equal_rows [] outs others = always
equal_rows (label ∷ labels) outs others = equal_from (equal_at outs others label) outs others labels

-- ---- selects

abbrev pub select : Branch → Select
select b = roll-Select (record { froms = b.froms; cond = b.cond; outs = b.outs })

abbrev pub zero_of : BaseKind → Base
zero_of kind.Int = base.Int (pos 0)
zero_of kind.Bool = base.Bool false
zero_of kind.Text = base.Text []

abbrev pub no_output : Column → Out
no_output column = output column.label (scalar.Lit (zero_of column.kind))

-- a select that gives no row, of these columns
abbrev pub no_select : List Column → Select
no_select columns = select (branch [] never (map no_output columns))

-- one for each branch, and one where there is none
abbrev pub selects : List Column → List Branch → List Select
selects columns [] = no_select columns ∷ []
selects columns (b ∷ branches) = map select (b ∷ branches)

-- ---- parts

-- what the names in scope stand for, by their numbers
abbrev pub Names : Type 0
Names = ℕ → Stands

abbrev pub StandsFor : Type 0
StandsFor = Names → Stands

module _ (own : ℕ → StandsFor) where
  -- the outputs of the parts of a record
  abbrev pub outputs : List Labelled → Names → ℕ → List Out
  outputs items names n = map (λ item. output item.label ((own item.part names).base n)) items

  -- the condition of a part behind these generators
  abbrev pub test : ℕ → Names → ℕ → List FromItem → Scalar
  test c names outer froms = (own c names).base (outer + length froms)

  -- the part of that number, by what its own parts stand for
  abbrev pub norm_level : ℕ → Part → StandsFor
  norm_level n (part.Lit b) names = as_base (λ scope. scalar.Lit b)
  norm_level n part.Bound names = names n
  norm_level n (part.Case c a b) names = as_base (λ scope. scalar.Case ((own c names).base scope) ((own a names).base scope) ((own b names).base scope))
  norm_level n (part.If c a b) names =
      as_list (λ outer froms cond.
      (own a names).list outer froms (conjunction cond (test c names outer froms)) ++ (own b names).list outer froms (conjunction cond (negation (test c names outer froms))))
  norm_level n (part.IfRow labels c a b) names =
      as_row (λ scope. map (λ label. output label (scalar.Case ((own c names).base scope) (scalar_in ((own a names).row scope) label) (scalar_in ((own b names).row scope) label))) labels)
  norm_level n (part.One o a) names = as_base (λ scope. scalar.Op o ((own a names).base scope ∷ []))
  norm_level n (part.Two o a b) names = as_base (λ scope. scalar.Op o ((own a names).base scope ∷ (own b names).base scope ∷ []))
  norm_level n (part.EqRows labels a b) names = as_base (λ scope. equal_rows labels ((own a names).row scope) ((own b names).row scope))
  norm_level n (part.Empty columns list) names = as_base (λ scope. negation (scalar.Exists (selects columns ((own list names).list scope [] always))))
  norm_level n (part.Record items) names = as_row (outputs items names)
  norm_level n (part.Extend labels items rest) names = as_row (λ scope. map (λ label. output label (scalar_or (outputs items names scope) ((own rest names).row scope) label)) labels)
  norm_level n (part.Project a label) names = as_base (λ scope. scalar_in ((own a names).row scope) label)
  norm_level n (part.Items items) names = as_list (λ outer froms cond. map (λ item. branch froms cond ((own item names).row (outer + length froms))) items)
  norm_level n (part.Append a b) names = as_list (λ outer froms cond. (own a names).list outer froms cond ++ (own b names).list outer froms cond)
  norm_level n (part.ForList list x body) names =
      as_list (λ outer froms cond. flat_map (λ b. (own body (bind x (as_row (λ scope. b.outs)) names)).list outer b.froms b.cond) ((own list names).list outer froms cond))
  norm_level n (part.Table table labels) names =
      as_list (λ outer froms cond. branch (froms ++ generator (next outer froms) table ∷ []) cond (columns_of (next outer froms) labels) ∷ [])
  norm_level n (part.Where c list) names = as_list (λ outer froms cond. (own list names).list outer froms (conjunction cond (test c names outer froms)))

-- what the part of each number stands for
unfoldable pub norms : List Part → ℕ → StandsFor
norms parts = filled norm_level (λ names. nothing) parts
