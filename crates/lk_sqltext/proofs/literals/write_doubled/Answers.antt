use Rattle.std.proofs.Common.{rules}
use Rattle.std.proofs.lemmas.Result.{on_ok_weaker}
use Rattle.lk_sqltext.proofs.Doubled.{cut_at, no_cut, one_more, the_last}
use Rattle.lk_sqltext.proofs.literals.write_doubled.Goals as goal

pub loop-before-smaller : goal.loop-before-smaller
loop-before-smaller c =
    let cut = cut_at c.loop-before.rest.now c.in-Some.before c.in-Some.behind c.in-Some.ensures.cases in
    cut.smaller

pub loop-before-preserved : goal.loop-before-preserved
loop-before-preserved c =
    let cut = cut_at c.loop-before.rest.now c.in-Some.before c.in-Some.behind c.in-Some.ensures.cases in
    (search rules, one_more _ _ _ _ _ _ _ cut c.in_ok-push.ensures.ok c.in_ok-push-2.ensures.ok c.loop-before.invariant.1)

pub returns : goal.returns
returns c = on_ok_weaker c.push-2.result (λ is. the_last _ _ _ _ (no_cut c.loop-before.rest.now c.in_default.ensures.cases) is c.loop-before.invariant.1) c.push-2.ensures.ok
