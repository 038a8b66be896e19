-- The visit inside each form of node, by that to its parts; and what a visit in code has come to, in the words of its definition.
use Rattle.std.specs.Prelude.{ℕ, List, [], ◌∷◌, Option, Some, None, map}
use Rattle.lk_ast.specs.Children.{children}
use Rattle.lk_ast.specs.Layers.{Layer}
use Rattle.lk_ast.specs.declared.expression.Case.{Case}
use Rattle.lk_ast.specs.declared.expression.ChangeExpr.{ChangeExpr, out-ChangeExpr}
use Rattle.lk_ast.specs.declared.expression.Expr.{Expr}
use Rattle.lk_ast.specs.declared.expression.LastCase.{LastCase}
use Rattle.lk_ast.specs.declared.expression.Node.TheOpen.{Node-F}
use Rattle.lk_ast.specs.declared.expression.PartExpr.{PartExpr}
use Rattle.lk_sites.specs.SiteSeen.{shown}
use Rattle.lk_sites.specs.Sites as sites
use Rattle.lk_sites.specs.Sites.{Visit, all, visit}
use Rattle.lk_sites.specs.declared.sites.Tour.{Tour}

-- ---- in the parts of a node

abbrev pub both : Visit → Visit → Visit
both first second inside t = second inside (first inside t)

module _ (fun : ℕ) where
  abbrev pub in_exprs : List Expr → Visit
  in_exprs es = all (map (visit fun) es)

  abbrev pub in_parts : List PartExpr → Visit
  in_parts parts = all (map (λ (part : PartExpr). visit fun part.expr) parts)

  abbrev pub in_cases : List Case → Visit
  in_cases cases = all (map (λ (case : Case). visit fun case.body) cases)

  abbrev pub in_some : Option LastCase → Visit
  in_some None inside t = t
  in_some (Some last) inside t = visit fun last.body inside t

  abbrev pub in_change : ChangeExpr → Visit
  in_change change = both (visit fun (out-ChangeExpr change).cond) (in_parts (out-ChangeExpr change).sets)

  abbrev pub within : Layer → Visit
  within (Node-F.Lambda lambda) = visit fun lambda.body
  within (Node-F.Call g args) = in_exprs args
  within (Node-F.Apply f args) = both (visit fun f) (in_exprs args)
  within (Node-F.Record parts) = in_parts parts
  within (Node-F.Extend parts e) = both (in_parts parts) (visit fun e)
  within (Node-F.List es) = in_exprs es
  within (Node-F.Switch e cases last) = both (visit fun e) (both (in_cases cases) (in_some last))
  within (Node-F.Update change) = in_change change
  within (Node-F.Delete change) = in_change change
  within other = all (children (λ e. visit fun e ∷ []) (λ case. []) (λ change. []) (λ lambda. []) (λ last. []) (λ part. []) other)

-- ---- in code

abbrev pub tour_of : Tour → sites.Tour
tour_of t = record { label = t.label; types = t.types.now; calls = t.calls.now; found = map shown t.found }
