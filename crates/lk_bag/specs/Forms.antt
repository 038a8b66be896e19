-- What each form of a query gives, by what its parts give.
use Rattle.std.specs.Prelude.{ℕ, true, false, List, [], ◌∷◌, ◌++◌, map, unwrap_or}
use Rattle.lk_ast.specs.Children.{children, exprs_of}
use Rattle.lk_ast.specs.Layers.{Layer}
use Rattle.lk_ast.specs.Rows.{rows_value}
use Rattle.lk_ast.specs.Tables.{Tables}
use Rattle.lk_ast.specs.declared.expression.Expr.{Expr}
use Rattle.lk_ast.specs.declared.expression.Node.TheOpen.{Node-F}
use Rattle.lk_ast.specs.declared.expression.PartExpr.{PartExpr}
use Rattle.lk_ast.specs.declared.value.Value.{Value}
use Rattle.lk_ast.specs.declared.value.Value.TheVariants as value
use Rattle.lk_bag.specs.Bag.{chosen, for_each, given, items, value_of}
use Rattle.lk_locals.specs.Names.{Names, bind, lookup}
use Rattle.lk_operators.specs.Operators.{operated}
use Rattle.lk_operators.specs.Values.{bool_in, truth, unit}

-- the parts of an operation, in text order
abbrev pub operands : Layer → List Expr
operands (Node-F.List es) = es
operands (Node-F.Record parts) = exprs_of parts
operands (Node-F.Extend parts e) = exprs_of parts ++ e ∷ []
operands other = children (λ e. e ∷ []) (λ case. []) (λ change. []) (λ lambda. []) (λ last. []) (λ (part : PartExpr). part.expr ∷ []) other

module _ (tables : Tables) (calls : List ℕ → List Value → Value) where
  abbrev pub all_given : List Expr → Names → List Value
  all_given es names = map (λ e. given tables calls e names) es

  abbrev pub operation_given : Layer → Names → Value
  operation_given l names = value_of (operated l (all_given (operands l) names))

  abbrev pub choice_given : Layer → Names → Value
  choice_given (Node-F.If c d e) names = chosen (bool_in (given tables calls c names)) (given tables calls d names) (given tables calls e names)
  choice_given (Node-F.And a b) names = chosen (bool_in (given tables calls a names)) (given tables calls b names) (truth false)
  choice_given (Node-F.Or a b) names = chosen (bool_in (given tables calls a names)) (truth true) (given tables calls b names)
  choice_given (Node-F.Where c e) names = chosen (bool_in (given tables calls c names)) (given tables calls e names) (value.List [])
  choice_given other names = operation_given other names

  abbrev pub form_given : Layer → Names → Value
  form_given (Node-F.Name x) names = unwrap_or (lookup names x) unit
  form_given (Node-F.Call g args) names = calls g.text (all_given args names)
  form_given (Node-F.Var x e rest) names = given tables calls rest (bind x.text (given tables calls e names) names)
  form_given (Node-F.Seq e rest) names = given tables calls rest names
  form_given (Node-F.ForList x e body) names = for_each x.text (items (given tables calls e names)) (given tables calls body) names
  form_given (Node-F.ForTable x rows body) names = for_each x.text (items (given tables calls rows names)) (given tables calls body) names
  form_given (Node-F.Table t) names = rows_value (tables t.text)
  form_given (Node-F.Query keys e) names = given tables calls e names
  form_given other names = choice_given other names
