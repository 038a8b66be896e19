use Rattle.std.proofs.Common.{◌+◌, drop, sym, subst}
use Rattle.std.proofs.lemmas.List.{drop_all}
use Rattle.lk_mono.proofs.Calling.{left_first}
use Rattle.lk_mono.proofs.CallLists.{Ahead, begins, ends, goes}
use Rattle.lk_mono.specs.Looks.{as_uses}
use Rattle.lk_mono.specs.Queues.{as_list}
use Rattle.lk_mono.proofs.calls.calls.Goals as goal

pub loop-found-init : goal.loop-found-init
loop-found-init c nodes sited listed = subst (λ places. Ahead (as_list c.args.mains.now) (as_list c.args.helpers.now) c.args.in_helper nodes places (as_uses c.args.uses.now)) (sym c.new-places.ensures) (begins _ _ _ nodes (as_uses c.args.uses.now) sited listed)

pub loop-found-preserved : goal.loop-found-preserved
loop-found-preserved c nodes sited listed =
    subst (λ places. Ahead (as_list c.args.mains.now) (as_list c.args.helpers.now) c.args.in_helper nodes places (as_uses (drop (c.loop-found.found-index + 1) c.args.uses.now))) (sym c.in_ok-push.ensures.ok)
    (goes _ _ _ nodes c.loop-found.places _ _ c.place_in-place.result c.place_in-place.ensures.place
    (subst (λ found. Ahead (as_list c.args.mains.now) (as_list c.args.helpers.now) c.args.in_helper nodes c.loop-found.places (as_uses found)) (left_first c.args.uses.now c.loop-found.found-index c.found-item.result c.loop-found-test.true c.found-item.is) (c.loop-found.invariant nodes sited listed)))

pub returns : goal.returns
returns c nodes sited listed =
    ends _ _ _ nodes c.loop-found.places (subst (λ found. Ahead (as_list c.args.mains.now) (as_list c.args.helpers.now) c.args.in_helper nodes c.loop-found.places (as_uses found)) (drop_all c.loop-found.found-index c.args.uses.now c.loop-found-test.false) (c.loop-found.invariant nodes sited listed))
