-- The tree of a block, statement by statement from the end.
use Rattle.std.proofs.Common.{◌≡◌, List, [], ◌∷◌, ◌++◌, Option, refl, sym, ap, ◌∙◌}
use Rattle.lk_ast.specs.Layers.{before, chain}
use Rattle.lk_ast.specs.declared.expression.Expr.{Expr}
use Rattle.lk_ast.specs.declared.place.Span.{Span}
use Rattle.lk_ast.specs.declared.place.Word.{Word}
use Rattle.lk_ast.specs.declared.statements.Statement.{Statement}

pub chain_push : (ss : List Statement) (s : Statement) (e : Expr) → chain (ss ++ s ∷ []) e ≡ chain ss (before s e)
chain_push [] s e = refl
chain_push (t ∷ ss) s e = ap (before t) (chain_push ss s e)

pub chain_last : (all rest : List Statement) (s : Statement) (e : Expr) → all ≡ rest ++ s ∷ [] → chain all e ≡ chain rest (before s e)
chain_last all rest s e h = ap (λ (z : List Statement). chain z e) h ∙ chain_push rest s e

-- one more statement is copied, and what is left is what follows it
pub copied_step : (all ss : List Statement) (span : Span) (copy name : Option Word) (made bound next rest whole : Expr)
    → all ≡ ss ++ record { span = span; name = copy; expr = made } ∷ [] → copy ≡ name → made ≡ bound
    → rest ≡ before (record { span = span; name = name; expr = bound }) next → chain ss rest ≡ whole → chain all next ≡ whole
copied_step all ss span copy name made bound next rest whole pushed copied equal is was =
    chain_last all ss _ _ pushed
    ∙ (λ i. chain ss (before (record { span = span; name = copied i; expr = equal i }) next))
    ∙ ap (chain ss) (sym is)
    ∙ was
