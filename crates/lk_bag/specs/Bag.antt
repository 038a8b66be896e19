-- What a query gives over tables: its rows, with repeats, by recursion on its text (comprehensions: Wadler, Comprehending monads,
-- 1992; Buneman, Libkin, Suciu, Tannen and Wong, Comprehension syntax, 1994). Operators give what they come to in evaluation.
use Rattle.std.specs.Prelude.{ℕ, zero, suc, Bool, true, false, List, [], ◌∷◌, Option, Some, None, length, map, unwrap_or}
use Rattle.std.specs.List.{flat_map}
use Rattle.lk_ast.specs.Children.{children}
use Rattle.lk_ast.specs.Functions.{functions_of, function_named}
use Rattle.lk_ast.specs.Layers.{Layer}
use Rattle.lk_ast.specs.Rows.{rows_value}
use Rattle.lk_ast.specs.Tables.{Tables}
use Rattle.lk_ast.specs.declared.declaration.FunDef.{FunDef}
use Rattle.lk_ast.specs.declared.declaration.Program.{Program}
use Rattle.lk_ast.specs.declared.expression.Case.{Case}
use Rattle.lk_ast.specs.declared.expression.ChangeExpr.{ChangeExpr}
use Rattle.lk_ast.specs.declared.expression.Expr.{Expr, Expr-F, para-Expr}
use Rattle.lk_ast.specs.declared.expression.LambdaExpr.{LambdaExpr}
use Rattle.lk_ast.specs.declared.expression.LastCase.{LastCase}
use Rattle.lk_ast.specs.declared.expression.Node.{Node, out-Node}
use Rattle.lk_ast.specs.declared.expression.Node.TheOpen.{Node-F, PartExpr-F}
use Rattle.lk_ast.specs.declared.expression.PartExpr.{PartExpr}
use Rattle.lk_ast.specs.declared.value.Value.{Value}
use Rattle.lk_ast.specs.declared.value.Value.TheVariants as value
use Rattle.lk_locals.specs.Names.{Names, bind, bind_all, lookup, no_names}
use Rattle.lk_operators.specs.Operators.{operated}
use Rattle.lk_operators.specs.Values.{bool_in, list_in, truth, unit}
use Rattle.lk_operators.specs.declared.outcome.Outcome.{Outcome}
use Rattle.lk_operators.specs.declared.outcome.Outcome.TheVariants as outcome

-- ---- values; what has no value in a query of a well typed program never stands in one, and gives the unit value here

abbrev pub value_of : Outcome → Value
value_of (outcome.Value v) = v
value_of other = unit

abbrev pub items : Value → List Value
items v = unwrap_or (list_in v) []

-- the first where it is true, else the second
abbrev pub chosen : Option Bool → Value → Value → Value
chosen (Some true) v w = v
chosen other v w = w

-- ---- one level of an expression, its parts waiting for what the local names stand for

-- what an expression gives
abbrev pub Gives : Type 0
Gives = Names → Value

-- one level of a tree, beside each part what it gives; what a node gives depends on what it is, too
abbrev pub Level : Type 0
Level = Node-F (Node × (Layer → Gives)) (Case × (Unit {0})) (ChangeExpr × (Unit {0})) (Expr × Gives) (LambdaExpr × (Unit {0})) (LastCase × (Unit {0})) (PartExpr × Gives)

-- what the parts of an operator give, in text order
abbrev pub parts_given : Level → Names → List Value
parts_given node names = map (λ gives. gives names) (children (λ (part : Expr × Gives). part.1 ∷ []) (λ case. []) (λ change. []) (λ lambda. []) (λ last. []) (λ (part : PartExpr × Gives). part.1 ∷ []) node)

-- the lists that a body gives for each of these elements in turn, one behind the other
abbrev pub for_each : List ℕ → List Value → Gives → Names → Value
for_each x elements body names = value.List (flat_map (λ v. items (body (bind x v names))) elements)

module _ (tables : Tables) (calls : List ℕ → List Value → Value) where
  abbrev pub level : Level → Layer → Gives
  level (Node-F.Name x) layer names = unwrap_or (lookup names x) unit
  level (Node-F.Call g args) layer names = calls g.text (map (λ (arg : Expr × Gives). arg.1 names) args)
  level (Node-F.Var x e rest) layer names = rest.1 (bind x.text (e.1 names) names)
  level (Node-F.Seq e rest) layer names = rest.1 names
  level (Node-F.If c d e) layer names = chosen (bool_in (c.1 names)) (d.1 names) (e.1 names)
  level (Node-F.And a b) layer names = chosen (bool_in (a.1 names)) (b.1 names) (truth false)
  level (Node-F.Or a b) layer names = chosen (bool_in (a.1 names)) (truth true) (b.1 names)
  level (Node-F.Where c e) layer names = chosen (bool_in (c.1 names)) (e.1 names) (value.List [])
  level (Node-F.ForList x e body) layer names = for_each x.text (items (e.1 names)) body.1 names
  level (Node-F.ForTable x rows body) layer names = for_each x.text (items (rows.1 names)) body.1 names
  level (Node-F.Table t) layer names = rows_value (tables t.text)
  level (Node-F.Query keys e) layer names = e.1 names
  level other layer names = value_of (operated layer (parts_given other names))

  abbrev expr_level : Expr-F (Node × (Layer → Gives)) (Case × (Unit {0})) (ChangeExpr × (Unit {0})) (Expr × Gives) (LambdaExpr × (Unit {0})) (LastCase × (Unit {0})) (PartExpr × Gives) → Gives
  expr_level e = e.node.1 (out-Node e.node.0)

  abbrev part_level : PartExpr-F (Node × (Layer → Gives)) (Case × (Unit {0})) (ChangeExpr × (Unit {0})) (Expr × Gives) (LambdaExpr × (Unit {0})) (LastCase × (Unit {0})) (PartExpr × Gives) → Gives
  part_level part = part.expr.1

  -- what an expression gives over tables, where calls give what is said
  unfoldable pub given : Expr → Gives
  given = para-Expr (Layer → Gives) (Unit {0}) (Unit {0}) Gives (Unit {0}) (Unit {0}) Gives level (λ case. tt) (λ change. tt) expr_level (λ lambda. tt) (λ last. tt) part_level

-- what a body gives with the names of its parameters, where there are as many arguments
abbrev pub entered : Gives → Option Names → Value
entered body (Some names) = body names
entered body None = value.List []

module _ (p : Program) (tables : Tables) where
  abbrev pub called_function : (List ℕ → List Value → Value) → Option FunDef → List Value → Value
  called_function calls (Some f) args = entered (given tables calls f.body) (bind_all no_names f.params args)
  called_function calls None args = value.List []

  -- What a call of the function of that name gives, where so many calls may stand one in the other: what its body gives.
  unfoldable pub called : ℕ → List ℕ → List Value → Value
  called zero g args = value.List []
  called (suc n) g args = called_function (called n) (function_named p g) args

  -- What an expression gives in a query. A function that one calls doesn't call itself, so that no more calls stand one in the
  -- other than the program has functions.
  abbrev pub gives : Expr → Gives
  gives e = given tables (called (length (functions_of p))) e
