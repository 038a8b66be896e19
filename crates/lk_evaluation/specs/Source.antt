-- The language of programs.
use Rattle.std.specs.Prelude.{ℕ, Bool, true, false, List, [], ◌∷◌, Option, Some, None, map, find, bytes_eq}
use Rattle.lk_ast.specs.Functions.{function_named}
use Rattle.lk_ast.specs.Layers.{Layer, layer}
use Rattle.lk_ast.specs.declared.declaration.FunDef.{FunDef}
use Rattle.lk_ast.specs.declared.declaration.Program.{Program}
use Rattle.lk_ast.specs.declared.expression.Case.{Case}
use Rattle.lk_ast.specs.declared.expression.Expr.{Expr}
use Rattle.lk_ast.specs.declared.expression.LambdaExpr.{LambdaExpr}
use Rattle.lk_ast.specs.declared.expression.LastCase.{LastCase}
use Rattle.lk_ast.specs.declared.expression.Node.TheOpen.{Node-F}
use Rattle.lk_ast.specs.declared.place.Loc.{Loc}
use Rattle.lk_ast.specs.declared.place.Loc.TheVariants.{Client, Server}
use Rattle.lk_ast.specs.declared.place.Span.{Span}
use Rattle.lk_ast.specs.declared.place.Word.{Word}
use Rattle.lk_ast.specs.declared.value.FunValue.{FunValue}
use Rattle.lk_ast.specs.declared.value.Value.{Value}
use Rattle.lk_ast.specs.declared.value.Value.TheVariants as value
use Rattle.lk_index.specs.Free.{captured, captured_change, captured_query}
use Rattle.lk_index.specs.Places.{function_at, lambda_at}
use Rattle.lk_locals.specs.Names.{Names, no_names, bind, lookup, lookup_all, bind_each, bind_all}
use Rattle.lk_operators.specs.Operators.{operated}
use Rattle.lk_operators.specs.Values.{text, truth, text_in, bool_in, list_in, tag_in, fun_in, is_unit}
use Rattle.lk_operators.specs.declared.outcome.Outcome.{Outcome}
use Rattle.lk_operators.specs.declared.outcome.Outcome.TheVariants as outcome
use Rattle.lk_evaluation.specs.Evaluation.{Printing, Reading, Writing, Act, Give, Tail, Goto, Uses, Each, Fails, Lacks, Language, eval}
use Rattle.lk_evaluation.specs.Run.{Run, Out}
use Rattle.lk_evaluation.specs.Syntax.{parts_of, is_plain}

-- an expression under the values of its local names
pub record Point : Type 0 where
  pub expr : Expr
  pub names : Names

abbrev pub under : Names → Expr → Point
under names e = record { expr = e; names = names }

-- what an operation on values comes to
abbrev pub done : Span → Outcome → Act Point
done at (outcome.Value v) = Give v
done at (outcome.Trap trap) = Fails trap
done at outcome.NoRule = Lacks at

abbrev pub given : Span → Option Value → Act Point
given at None = Lacks at
given at (Some v) = Give v

-- ---- functions

-- the value of a function of the program: the place of its name in the text
abbrev pub function_value : Span → Option FunDef → Act Point
function_value at None = Lacks at
function_value at (Some f) = Give (value.Fun (record { site = f.name.at.start; env = [] }))

-- the value of a lambda that begins at that place: with the values of the local names that it captures, in byte order
abbrev pub closure : Span → Option (List Value) → Act Point
closure at None = Lacks at
closure at (Some values) = Give (value.Fun (record { site = at.start; env = values }))

-- a call of a function with that mark, where there are as many arguments as parameters
abbrev pub goto : Span → Loc → FunValue → List Value → Expr → Option Names → Act Point
goto at mark f args body None = Lacks at
goto at mark f args body (Some names) = Goto mark f args (under names body)

-- a call of a function of the program by its name; in the log it is the place of that name in the text, nothing captured
abbrev pub call : Span → List Value → Option FunDef → Act Point
call at args None = Lacks at
call at args (Some f) = goto at f.place (record { site = f.name.at.start; env = [] }) args f.body (bind_all no_names f.params args)

-- a call of a lambda: the names that it captured stand for the values that were kept
abbrev pub enter_lambda : Span → FunValue → List Value → Option LambdaExpr → Act Point
enter_lambda at f args None = Lacks at
enter_lambda at f args (Some lambda) = goto at lambda.place f args lambda.body (bind_all (bind_each no_names (captured lambda) f.env) lambda.params args)

-- a call of the function that was made at a place in the text: one of the program, else a lambda
abbrev pub enter_made : Span → FunValue → List Value → Option FunDef → Option LambdaExpr → Act Point
enter_made at f args (Some g) lambda = goto at g.place f args g.body (bind_all no_names g.params args)
enter_made at f args None lambda = enter_lambda at f args lambda

-- a call of a value
abbrev pub apply : Program → Span → Option FunValue → List Value → Act Point
apply p at None args = Lacks at
apply p at (Some f) args = enter_made at f args (function_at p f.site) (lambda_at p f.site)

-- a call of the first of these values with the others
abbrev pub apply_first : Program → Span → List Value → Act Point
apply_first p at [] = Lacks at
apply_first p at (v ∷ args) = apply p at (fun_in v) args

-- ---- forms

-- one or the other by a truth value
abbrev pub choose : Span → Option Bool → Act Point → Act Point → Act Point
choose at None d e = Lacks at
choose at (Some true) d e = d
choose at (Some false) d e = e

-- what follows where this is the unit value
abbrev pub after_unit : Span → Bool → Act Point → Act Point
after_unit at true rest = rest
after_unit at false rest = Lacks at

-- `print(e)` is a call at the client
abbrev pub print : Span → Option (List ℕ) → Act Point
print at None = Lacks at
print at (Some bytes) = Uses Client (Printing bytes)

-- `for (x <- e) body`: the body once for each element
abbrev pub over : Span → List ℕ → Option (List Value) → Expr → Names → Act Point
over at x None body names = Lacks at
over at x (Some values) body names = Each at (map (λ v. under (bind x v names) body) values)

-- the first case with that tag
abbrev pub case_of : List ℕ → List Case → Option Case
case_of t cases = find (λ case. bytes_eq case.tag.text t) cases

-- `case T(x) -> body` binds what the tag holds; `case T -> body` is for a tag that holds the unit value
abbrev pub in_case : Span → Option Word → Expr → Value → Names → Act Point
in_case at None body held names = after_unit at (is_unit held) (Tail (under names body))
in_case at (Some x) body held names = Tail (under (bind x.text held names) body)

-- `case x -> body` is for all other tags, and binds the whole value
abbrev pub in_last : Span → Option LastCase → Value → Names → Act Point
in_last at None v names = Lacks at
in_last at (Some last) v names = Tail (under (bind last.name.text v names) last.body)

abbrev pub in_cases : Span → Option Case → Option LastCase → Value → Value → Names → Act Point
in_cases at (Some case) last v held names = in_case at case.name case.body held names
in_cases at None last v held names = in_last at last v names

-- `switch (e) {..}` of a value with a tag
abbrev pub switch : Span → Value → Option (List ℕ × Value) → List Case → Option LastCase → Names → Act Point
switch at v None cases last names = Lacks at
switch at v (Some (t, held)) cases last names = in_cases at (case_of t cases) last v held names

-- ---- nodes

-- What a choice does with its truth value. The last line is for the operations, which say what they come to on the values
-- of their parts, and for numbers of values that never occur.
abbrev pub choice : Span → Layer → Names → List Value → Act Point
choice at (Node-F.If c d e) names (v ∷ []) = choose at (bool_in v) (Tail (under names d)) (Tail (under names e))
choice at (Node-F.And a b) names (v ∷ []) = choose at (bool_in v) (Tail (under names b)) (Give (truth false))
choice at (Node-F.Or a b) names (v ∷ []) = choose at (bool_in v) (Give (truth true)) (Tail (under names b))
choice at (Node-F.Where c e) names (v ∷ []) = choose at (bool_in v) (Tail (under names e)) (Give (value.List []))
choice at other names values = done at (operated other values)

-- what a form does with the value of its first part
abbrev pub form : Span → Layer → Names → List Value → Act Point
form at (Node-F.Var x e rest) names (v ∷ []) = Tail (under (bind x.text v names) rest)
form at (Node-F.Seq e rest) names (v ∷ []) = after_unit at (is_unit v) (Tail (under names rest))
form at (Node-F.Print e) names (v ∷ []) = print at (text_in v)
form at (Node-F.Switch e cases last) names (v ∷ []) = switch at v (tag_in v) cases last names
form at (Node-F.ForList x e body) names (v ∷ []) = over at x.text (list_in v) body names
form at (Node-F.ForTable x table body) names (v ∷ []) = over at x.text (list_in v) body names
form at other names values = choice at other names values

-- ---- tables

-- a query that begins here, with the values that it captured
abbrev pub reads : Span → Option (List Value) → Act Point
reads at None = Lacks at
reads at (Some args) = Uses Server (Reading at.start args)

-- an update or a deletion that begins here, with the values that it captured
abbrev pub writes : Span → Option (List Value) → Act Point
writes at None = Lacks at
writes at (Some args) = Uses Server (Writing at.start args)

-- what a node does with the values of its parts
abbrev pub act : Program → Span → Layer → Names → List Value → Act Point
act p at (Node-F.Name x) names values = given at (lookup names x)
act p at (Node-F.Function g) names values = function_value at (function_named p g)
act p at (Node-F.Lambda lambda) names values = closure at (lookup_all names (captured lambda))
act p at (Node-F.Call function args) names values = call at values (function_named p function.text)
act p at (Node-F.Apply f args) names values = apply_first p at values
act p at (Node-F.Table t) names values = Uses Server (Reading at.start [])
act p at (Node-F.Query keys e) names values = reads at (lookup_all names (captured_query e))
act p at (Node-F.Insert t e) names values = Uses Server (Writing at.start values)
act p at (Node-F.Update change) names values = writes at (lookup_all names (captured_change change))
act p at (Node-F.Delete change) names values = writes at (lookup_all names (captured_change change))
act p at other names values = form at other names values

abbrev pub source : Program → Language
source p = record {
  Point = Point;
  parts = λ point. map (under point.names) (parts_of (layer point.expr));
  plain = λ point. is_plain (layer point.expr);
  act = λ point values. act p point.expr.span (layer point.expr) point.names values;
}

-- A session is the evaluation of the body of `main` at the client, its parameter bound to the session's argument.
abbrev pub session : Program → FunDef → List ℕ → Run → Out Value
session p main arg r = eval (source p) (under (bind_each no_names (map (λ x. x.text) main.params) (text arg ∷ [])) main.body) Client r
