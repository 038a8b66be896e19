use Rattle.std.proofs.Common.{◌+◌, drop, sym, subst}
use Rattle.std.proofs.lemmas.List.{drop_all}
use Rattle.lk_mono.proofs.CallLists.{AllAhead, all_begin, all_end, all_go}
use Rattle.lk_mono.proofs.Calling.{left_first}
use Rattle.lk_mono.specs.Held.{AreSited}
use Rattle.lk_mono.specs.Looks.{as_uses}
use Rattle.lk_mono.specs.Queues.{as_list}
use Rattle.lk_mono.proofs.calls.all_calls.Goals as goal

pub loop-body-init : goal.loop-body-init
loop-body-init c source bodies are listed =
    subst (λ all. AllAhead (as_list c.args.mains.now) (as_list c.args.helpers.now) c.args.in_helper source bodies all c.args.bodies.now) (sym c.new-all.ensures) (all_begin _ _ _ source bodies c.args.bodies.now are listed)

pub loop-body-preserved : goal.loop-body-preserved
loop-body-preserved c source bodies are listed =
    subst (λ all. AllAhead (as_list c.args.mains.now) (as_list c.args.helpers.now) c.args.in_helper source bodies all (drop (c.loop-body.body-index + 1) c.args.bodies.now)) (sym c.in_ok-push.ensures.ok)
    (all_go _ _ _ source bodies c.loop-body.all c.body-item.result _ _ (λ nodes sited each. c.in_ok-calls.ensures nodes (subst (λ uses. AreSited nodes (as_uses uses)) (sym c.as_slice.ensures) sited) each)
    (subst (AllAhead (as_list c.args.mains.now) (as_list c.args.helpers.now) c.args.in_helper source bodies c.loop-body.all) (left_first c.args.bodies.now c.loop-body.body-index c.body-item.result c.loop-body-test.true c.body-item.is) (c.loop-body.invariant source bodies are listed)))

pub returns : goal.returns
returns c source bodies are listed =
    all_end _ _ _ source bodies c.loop-body.all (subst (AllAhead (as_list c.args.mains.now) (as_list c.args.helpers.now) c.args.in_helper source bodies c.loop-body.all) (drop_all c.loop-body.body-index c.args.bodies.now c.loop-body-test.false) (c.loop-body.invariant source bodies are listed))
