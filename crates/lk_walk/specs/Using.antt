-- Whether functions are used, part by part.
use Rattle.std.specs.Prelude.{Bool, ◌||◌, List, [], ◌∷◌, ◌++◌, map, bytes_eq}
use Rattle.std.specs.List.{list_any}
use Rattle.lk_ast.specs.Layers.{Layer}
use Rattle.lk_ast.specs.declared.expression.Case.{Case}
use Rattle.lk_ast.specs.declared.expression.ChangeExpr.{ChangeExpr, out-ChangeExpr}
use Rattle.lk_ast.specs.declared.expression.Expr.{Expr}
use Rattle.lk_ast.specs.declared.expression.LambdaExpr.{LambdaExpr}
use Rattle.lk_ast.specs.declared.expression.LastCase.{LastCase}
use Rattle.lk_ast.specs.declared.expression.Node.{Node}
use Rattle.lk_ast.specs.declared.expression.Node.TheFolds.{map-Node}
use Rattle.lk_ast.specs.declared.expression.Node.TheOpen.{Node-F}
use Rattle.lk_ast.specs.declared.expression.PartExpr.{PartExpr}
use Rattle.lk_types.specs.Rows.{Label}
use Rattle.lk_typing.specs.Heads.{head}
use Rattle.lk_typing.specs.Uses.{Uses, all, functions_used, inner, own_use}

-- a use of the function of that name
abbrev pub is_use : Label → Label → Bool
is_use name g = bytes_eq g name

abbrev pub uses_case : Case → Uses
uses_case c = functions_used c.body

abbrev pub uses_part : PartExpr → Uses
uses_part part = functions_used part.expr

abbrev pub uses_lambda : LambdaExpr → Uses
uses_lambda l = functions_used l.body

abbrev pub uses_last : LastCase → Uses
uses_last last = functions_used last.body

abbrev pub uses_change : ChangeExpr → Uses
uses_change c = functions_used (out-ChangeExpr c).cond ++ all (map uses_part (out-ChangeExpr c).sets)

-- a level with the uses of its parts
abbrev pub with_uses : Layer → Node-F Uses Uses Uses Uses Uses Uses Uses
with_uses l = map-Node Node Case ChangeExpr Expr LambdaExpr LastCase PartExpr Uses Uses Uses Uses Uses Uses Uses (λ n. []) uses_case uses_change functions_used uses_lambda uses_last uses_part l

-- whether it was found before or is found in one of these
abbrev pub found_after : Label → List Uses → Bool → Bool
found_after name [] found = found
found_after name (uses ∷ more) found = found_after name more (found || list_any (is_use name) uses)

-- the same of single uses
abbrev pub found_own : Label → Uses → Bool → Bool
found_own name [] found = found
found_own name (g ∷ gs) found = found_own name gs (found || is_use name g)

-- the same of a node
abbrev pub found_in : Label → Layer → Bool → Bool
found_in name l found = found_after name (inner (with_uses l)) (found_own name (own_use (head (λ uses. []) (λ uses. uses) (with_uses l))) found)
