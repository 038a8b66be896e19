-- The tree of a block, statement by statement from the end.
use Rattle.std.proofs.Common.{◌≡◌, ℕ, List, [], ◌∷◌, ◌++◌, refl, ap, ◌∙◌}
use Rattle.lk_ast.specs.Layers.{statement_node}
use Rattle.lk_ast.specs.declared.expression.Expr.{Expr}
use Rattle.lk_parts.specs.Parts.{expr_of, chain}
use Rattle.lk_parts.specs.declared.part.Statement.{Statement}

chain-push : (ss : List Statement) (s : Statement) (to : ℕ) (e : Expr) → chain (ss ++ s ∷ []) to e ≡ chain ss to (expr_of s.from to (statement_node s.name s.expr e))
chain-push [] s to e = refl
chain-push (t ∷ ss) s to e = ap (λ (rest : Expr). expr_of t.from to (statement_node t.name t.expr rest)) (chain-push ss s to e)

pub chain_back : (all rest : List Statement) (s : Statement) (to : ℕ) (e : Expr) → all ≡ rest ++ s ∷ [] → chain all to e ≡ chain rest to (expr_of s.from to (statement_node s.name s.expr e))
chain_back all rest s to e h = ap (λ (z : List Statement). chain z to e) h ∙ chain-push rest s to e
