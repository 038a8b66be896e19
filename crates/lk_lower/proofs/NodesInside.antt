-- The nodes of an expression are its own and those of the expressions right inside it.
use Rattle.std.proofs.Common.{◌≡◌, refl, sym, ap, ap₂, ◌∙◌, ℕ, ◌+◌, List, [], ◌∷◌, ◌++◌, map, Option, Some, None, arith}
use Rattle.lk_ast.specs.Children.{exprs_of}
use Rattle.lk_ast.specs.Layers.{Layer, layer}
use Rattle.lk_ast.specs.declared.expression.Case.{Case}
use Rattle.lk_ast.specs.declared.expression.ChangeExpr.{out-ChangeExpr}
use Rattle.lk_ast.specs.declared.expression.Expr.{Expr}
use Rattle.lk_ast.specs.declared.expression.LastCase.{LastCase}
use Rattle.lk_ast.specs.declared.expression.Node.TheOpen.{Node-F}
use Rattle.lk_ast.specs.declared.expression.PartExpr.{PartExpr}
use Rattle.lk_bodies.proofs.NodeCounts.{nodes_level}
use Rattle.lk_bodies.specs.Nodes.{total}
use Rattle.lk_bodies.specs.NodesInside.{cases_nodes, inside, parts_nodes, some_nodes}
use Rattle.lk_sound.proofs.Inside.{insides, bodies_of, last_body}
use Rattle.lk_lower.specs.Lowering.{nodes_in}

pub total_both : {A : Type 0} (count : A → ℕ) (xs ys : List A) → total (map count (xs ++ ys)) ≡ total (map count xs) + total (map count ys)
total_both count [] ys = let e : total (map count ys) ≡ 0 + total (map count ys) = omega arith in e
total_both count (x ∷ xs) ys = let later : total (map count (xs ++ ys)) ≡ total (map count xs) + total (map count ys) = total_both count xs ys in omega arith

in_fields : (parts : List PartExpr) → parts_nodes (λ g. 0) parts ≡ total (map nodes_in (exprs_of parts))
in_fields [] = refl
in_fields (part ∷ parts) = ap (λ n. nodes_in part.expr + n) (in_fields parts)

in_cases : (cases : List Case) → cases_nodes (λ g. 0) cases ≡ total (map nodes_in (bodies_of cases))
in_cases [] = refl
in_cases (case ∷ cases) = ap (λ n. nodes_in case.body + n) (in_cases cases)

in_last : (last : Option LastCase) → some_nodes (λ g. 0) last ≡ total (map nodes_in (last_body last))
in_last None = refl
in_last (Some last) = let e : nodes_in last.body ≡ nodes_in last.body + 0 = omega arith in e

by_insides : (l : Layer) → inside (λ g. 0) l ≡ total (map nodes_in (insides l))
by_insides (Node-F.Lambda l) = let e : nodes_in l.body ≡ nodes_in l.body + 0 = omega arith in e
by_insides (Node-F.Call g args) = let e : 0 + total (map nodes_in args) ≡ total (map nodes_in args) = omega arith in e
by_insides (Node-F.If c d e) = let it : nodes_in c + (nodes_in d + nodes_in e) ≡ nodes_in c + (nodes_in d + (nodes_in e + 0)) = omega arith in it
by_insides (Node-F.Record parts) = in_fields parts
by_insides (Node-F.Extend parts e) =
    let first = in_fields parts in
    let both = total_both nodes_in (exprs_of parts) (e ∷ []) in
    let it : parts_nodes (λ g. 0) parts + nodes_in e ≡ total (map nodes_in (exprs_of parts ++ e ∷ [])) = omega arith in
    it
by_insides (Node-F.Switch e cases last) =
    ap (λ n. nodes_in e + n) (ap₂ (λ m n. m + n) (in_cases cases) (in_last last) ∙ sym (total_both nodes_in (bodies_of cases) (last_body last)))
by_insides (Node-F.Update change) = ap (λ n. nodes_in (out-ChangeExpr change).cond + n) (in_fields (out-ChangeExpr change).sets)
by_insides (Node-F.Delete change) = ap (λ n. nodes_in (out-ChangeExpr change).cond + n) (in_fields (out-ChangeExpr change).sets)
by_insides other = refl

pub nodes_insides : (e : Expr) → nodes_in e ≡ 1 + total (map nodes_in (insides (layer e)))
nodes_insides e = nodes_level (λ g. 0) e ∙ ap (λ n. 1 + n) (by_insides (layer e))
