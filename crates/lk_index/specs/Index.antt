-- Maps that answer as the definitions do.
use Rattle.std.specs.Prelude.{◌≡◌, ℕ, List, find}
use Rattle.std.specs.Borrow.{Bor}
use Rattle.std.specs.BTreeMap.{BTreeMap, get}
use Rattle.std.specs.Option.{option_copied, option_map}
use Rattle.std.specs.Ordering.{nat_cmp}
use Rattle.lk_ast.specs.Functions.{is_named}
use Rattle.lk_ast.specs.declared.declaration.FunDef.{FunDef}
use Rattle.lk_ast.specs.declared.expression.LambdaExpr.{LambdaExpr}
use Rattle.lk_index.specs.Free.{texts, byte_order, captured}
use Rattle.lk_index.specs.Places.{Lambdas, PlacedLambda, lambda_begins, name_begins}
use Rattle.lk_index.specs.declared.index.IndexedLambda.{IndexedLambda}

-- the first function of each name
abbrev pub FindsNamed : BTreeMap (Bor (List ℕ)) (Bor FunDef) → List FunDef → Type 0
FindsNamed map functions = (name : Bor (List ℕ)) → option_copied (get byte_order map name) ≡ find (is_named name.now) functions

-- the first function whose name begins at each place
abbrev pub FindsPlaced : BTreeMap ℕ (Bor FunDef) → List FunDef → Type 0
FindsPlaced map functions = (site : ℕ) → option_copied (get nat_cmp map site) ≡ find (name_begins site) functions

-- a lambda and its names
abbrev pub lambda_shown : IndexedLambda → LambdaExpr × List (List ℕ)
lambda_shown indexed = (indexed.lambda.now, texts indexed.names)

abbrev pub with_captured : PlacedLambda → LambdaExpr × List (List ℕ)
with_captured placed = (placed.lambda, captured placed.lambda)

-- the first lambda that begins at each place, with the names that it captures
abbrev pub FindsLambdas : BTreeMap ℕ IndexedLambda → Lambdas → Type 0
FindsLambdas map found = (site : ℕ) → option_map lambda_shown (get nat_cmp map site) ≡ option_map with_captured (find (lambda_begins site) found)
