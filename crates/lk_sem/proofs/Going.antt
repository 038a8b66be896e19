-- A call of a function with as many arguments as parameters.
use Rattle.std.proofs.Common.{◌≡◌, List, sym, ap}
use Rattle.std.specs.Prelude.{Option, Some}
use Rattle.lk_ast.specs.declared.expression.Expr.{Expr}
use Rattle.lk_ast.specs.declared.place.Loc.{Loc}
use Rattle.lk_ast.specs.declared.place.Span.{Span}
use Rattle.lk_ast.specs.declared.value.FunValue.{FunValue}
use Rattle.lk_ast.specs.declared.value.Value.{Value}
use Rattle.lk_locals.specs.Names.{Names}
use Rattle.lk_evaluation.specs.Evaluation.{Goto}
use Rattle.lk_evaluation.specs.Source.{goto, under}

pub went : (at : Span) (mark : Loc) (f : FunValue) (args : List Value) (body : Expr) (bound : Option Names) (scope : Names) → Some scope ≡ bound
    → goto at mark f args body bound ≡ Goto mark f args (under scope body)
went at mark f args body bound scope some = ap (goto at mark f args body) (sym some)
