use Rattle.std.proofs.Common.{subst, sym, ◌∙◌}
use Rattle.lk_cps.proofs.Entries.{Joining, joining_first, joining_last, joining_more}
use Rattle.lk_cps.proofs.live.put_all.Goals as goal
use Rattle.lk_cps.specs.Live.{Live, Rises}

pub loop-name-init : goal.loop-name-init
loop-name-init c =
    let is = c.into_iter-name-iterator.ensures.into_iter_gives.0 ∙ c.more.view_is in
    subst (λ (es : Live). Joining c.args.names c.args.more c.args.names es) (sym is)
    (joining_first c.args.names c.args.more (subst Rises c.more.view_is c.into_iter-name-iterator.ensures.into_iter_gives.5))

pub loop-name-preserved : goal.loop-name-preserved
loop-name-preserved c =
    joining_more c.args.names c.args.more c.loop-name.names c.next.new.self c.put.new.self (c.in-Some.name, c.in-Some.ty)
    (subst (λ (es : Live). Joining c.args.names c.args.more c.loop-name.names es) c.in-Some.ensures.steps c.loop-name.invariant) c.in_ok-put.ensures

pub returns : goal.returns
returns c = joining_last c.args.names c.args.more c.loop-name.names c.loop-name.name-iterator c.in-None.ensures.steps.0 c.loop-name.invariant
