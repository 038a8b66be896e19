-- What acts on tables inside a node, by what does so in each of its parts; and a map of such blocks by their places.
use Rattle.std.specs.Prelude.{◌≡◌, ℕ, Bool, true, false, List, [], ◌∷◌, ◌++◌, find, map}
use Rattle.std.specs.Borrow.{Bor}
use Rattle.std.specs.BTreeMap.{BTreeMap, get}
use Rattle.std.specs.List.{flat_map}
use Rattle.std.specs.Option.{option_copied}
use Rattle.std.specs.Ordering.{nat_cmp}
use Rattle.lk_ast.specs.Children.{children}
use Rattle.lk_ast.specs.Layers.{Layer}
use Rattle.lk_ast.specs.declared.declaration.FunDef.{FunDef}
use Rattle.lk_ast.specs.declared.expression.Case.{Case}
use Rattle.lk_ast.specs.declared.expression.ChangeExpr.{ChangeExpr, out-ChangeExpr}
use Rattle.lk_ast.specs.declared.expression.Expr.{Expr}
use Rattle.lk_ast.specs.declared.expression.LambdaExpr.{LambdaExpr}
use Rattle.lk_ast.specs.declared.expression.LastCase.{LastCase}
use Rattle.lk_ast.specs.declared.expression.PartExpr.{PartExpr}
use Rattle.lk_bag.specs.Blocks.{begins, blocks_in}

-- ---- in parts

abbrev pub in_part : PartExpr → List Expr
in_part part = blocks_in part.expr

abbrev pub in_lambda : LambdaExpr → List Expr
in_lambda lambda = blocks_in lambda.body

abbrev pub in_case : Case → List Expr
in_case case = blocks_in case.body

abbrev pub in_last : LastCase → List Expr
in_last last = blocks_in last.body

abbrev pub in_change : ChangeExpr → List Expr
in_change change = blocks_in (out-ChangeExpr change).cond ++ flat_map in_part (out-ChangeExpr change).sets

-- in a node
abbrev pub inside : Layer → List Expr
inside l = children blocks_in in_case in_change in_lambda in_last in_part l

-- the expression, where it acts on tables itself
abbrev pub itself : Bool → Expr → List Expr
itself true e = e ∷ []
itself false e = []

abbrev pub in_function : FunDef → List Expr
in_function f = blocks_in f.body

-- ---- behind references

abbrev pub shown : List (Bor Expr) → List Expr
shown blocks = map (λ block. block.now) blocks

-- the first block that begins at each place
abbrev pub FindsBlocks : BTreeMap ℕ (Bor Expr) → List Expr → Type 0
FindsBlocks placed blocks = (site : ℕ) → option_copied (get nat_cmp placed site) ≡ find (begins site) blocks
