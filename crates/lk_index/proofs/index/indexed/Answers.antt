use Rattle.std.proofs.Common.{◌∙◌, ℕ}
use Rattle.std.specs.Borrow.{Bor}
use Rattle.std.specs.Cmp.{unsigned_tied}
use Rattle.lk_ast.specs.declared.expression.LambdaExpr.{LambdaExpr}
use Rattle.lk_index.specs.Index.{lambda_shown, with_captured}
use Rattle.lk_index.specs.Places.{PlacedLambda, lambda_begins}
use Rattle.lk_index.proofs.Firsts.{first_or-insert, shown_take}
use Rattle.lk_index.proofs.index.indexed.Goals as goal

abbrev placed : ℕ × Bor LambdaExpr → PlacedLambda
placed p = record { site = p.0; lambda = p.1.now }

pub loop-i-preserved : goal.loop-i-preserved
loop-i-preserved c = λ site.
    first_or-insert _ lambda_begins with_captured lambda_shown _ _ (placed c.index-found-i.result) c.loop-i.map c.insert.new.self _ _
    (shown_take placed c.args.found.now c.loop-i.i c.index-found-i.result c.loop-i-test.true c.loop-i.auto.i c.index-found-i.is)
    c.in_ok-insert.ensures.updates (λ q. unsigned_tied _ q) (λ i. (c.index-found-i.result.1.now, c.in_ok-names.ensures i)) site
    ∙ c.loop-i.invariant site
