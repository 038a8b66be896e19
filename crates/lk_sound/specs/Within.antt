-- What stands in a program: its functions, its lambdas, and expressions all of whose lambdas are lambdas of the program.
use Rattle.std.specs.Prelude.{◌≡◌, []}
use Rattle.lk_ast.specs.Functions.{functions_of}
use Rattle.lk_ast.specs.declared.declaration.FunDef.{FunDef}
use Rattle.lk_ast.specs.declared.declaration.Program.{Program}
use Rattle.lk_ast.specs.declared.expression.Expr.{Expr}
use Rattle.lk_index.specs.Places.{PlacedLambda, gather, lambdas_of}
use Rattle.lk_types.specs.Each.{Each, OneOf}

abbrev pub IsFunctionOf : Program → FunDef → Type 0
IsFunctionOf p f = OneOf (λ other. other ≡ f) (functions_of p)

abbrev pub IsLambdaOf : Program → PlacedLambda → Type 0
IsLambdaOf p placed = OneOf (λ other. other ≡ placed) (lambdas_of (functions_of p))

abbrev pub IsWithin : Program → Expr → Type 0
IsWithin p e = Each (IsLambdaOf p) (gather e [])
