-- How many nodes stand inside each form of node, by those of its parts.
use Rattle.std.specs.Prelude.{ℕ, ◌+◌, List, [], ◌∷◌, Option, Some, None, map}
use Rattle.lk_ast.specs.Children.{children}
use Rattle.lk_ast.specs.Layers.{Layer}
use Rattle.lk_ast.specs.declared.expression.Case.{Case}
use Rattle.lk_ast.specs.declared.expression.ChangeExpr.{ChangeExpr, out-ChangeExpr}
use Rattle.lk_ast.specs.declared.expression.Expr.{Expr}
use Rattle.lk_ast.specs.declared.expression.LastCase.{LastCase}
use Rattle.lk_ast.specs.declared.expression.Node.TheOpen.{Node-F}
use Rattle.lk_ast.specs.declared.expression.PartExpr.{PartExpr}
use Rattle.lk_bodies.specs.Nodes.{nodes, total, spent}
use Rattle.lk_types.specs.Rows.{Label}

-- what is left of what was left
abbrev pub spent_more : Option ℕ → ℕ → Option ℕ
spent_more None n = None
spent_more (Some most) n = spent most n

module _ (calls : Label → ℕ) where
  -- those of several
  abbrev pub all_nodes : List Expr → ℕ
  all_nodes es = total (map (nodes calls) es)

  abbrev pub parts_nodes : List PartExpr → ℕ
  parts_nodes parts = total (map (λ (part : PartExpr). nodes calls part.expr) parts)

  abbrev pub cases_nodes : List Case → ℕ
  cases_nodes cases = total (map (λ (case : Case). nodes calls case.body) cases)

  abbrev pub some_nodes : Option LastCase → ℕ
  some_nodes None = 0
  some_nodes (Some last) = nodes calls last.body

  abbrev pub changed_nodes : ChangeExpr → ℕ
  changed_nodes change = nodes calls (out-ChangeExpr change).cond + parts_nodes (out-ChangeExpr change).sets

  abbrev pub inside : Layer → ℕ
  inside (Node-F.Lambda lambda) = nodes calls lambda.body
  inside (Node-F.Call g args) = calls g.text + all_nodes args
  inside (Node-F.Apply f args) = nodes calls f + all_nodes args
  inside (Node-F.If c d e) = nodes calls c + (nodes calls d + nodes calls e)
  inside (Node-F.Record parts) = parts_nodes parts
  inside (Node-F.Extend parts e) = parts_nodes parts + nodes calls e
  inside (Node-F.List es) = all_nodes es
  inside (Node-F.Switch e cases last) = nodes calls e + (cases_nodes cases + some_nodes last)
  inside (Node-F.Update change) = changed_nodes change
  inside (Node-F.Delete change) = changed_nodes change
  inside other = total (children (λ e. nodes calls e ∷ []) (λ case. []) (λ change. []) (λ lambda. []) (λ last. []) (λ part. []) other)
