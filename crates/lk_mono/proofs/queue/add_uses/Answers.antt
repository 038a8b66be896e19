use Rattle.std.proofs.Common.{◌≡◌, sym, subst, ◌∙◌, ap, ◌∷◌, ◌+◌, drop}
use native.Mathlib.Omega.{arith}
use Rattle.std.proofs.Math.ListN.{drop_of_length-le}
use Rattle.std.proofs.lemmas.List.{drop_more}
use Rattle.lk_mono.proofs.NumbersGrown.{found_numbered}
use Rattle.lk_mono.proofs.Queueing.{AddsOne, Goes, ends, passes, starts, stops, takes}
use Rattle.lk_mono.specs.Queues.{AreUsesNumbered, as_wanted}
use Rattle.lk_mono.specs.Looks.{as_found, as_uses}
use Rattle.lk_mono.specs.declared.look.Found.{Found}
use Rattle.lk_mono.specs.declared.queue.Queue.{Queue}
use Rattle.lk_mono.proofs.queue.add_uses.Goals as goal
use Rattle.lk_mono.proofs.queue.add_uses.Goals.{else-holds-via-then-holds+in_ok-add_use+else-not-branch, else-holds-via-else-holds}

pub loop-found-init : goal.loop-found-init
loop-found-init c = (starts (as_wanted c.args.wanted) (as_uses c.args.uses.now) c.args.queue.now, c.requires.listed)

pub add_use-requires-clause-listed : goal.add_use-requires-clause-listed
add_use-requires-clause-listed c = c.loop-found.invariant.1

pub add_use-requires-clause-found : goal.add_use-requires-clause-found
add_use-requires-clause-found c = found_numbered c.args.grounds.now c.args.uses.now c.loop-found.found-index _ c.found-item.result c.requires.uses c.loop-found-test.true c.found-item.is

pub returns-then-not-branch-clause-added : goal.returns-then-not-branch-clause-added
returns-then-not-branch-clause-added c =
    let uses = c.args.uses.now in
    let i = c.loop-found.found-index in
    let f = c.found-item.result in
    let next : drop i uses ≡ f ∷ drop (i + 1) uses = drop_more uses i f c.loop-found-test.true ∙ ap (λ (x : Found). x ∷ drop (i + 1) uses) (sym c.found-item.is) in
    let goes : Goes (as_wanted c.args.wanted) (as_uses uses) c.args.queue.now (as_found f ∷ as_uses (drop (i + 1) uses)) c.loop-found.queue = subst (λ left. Goes (as_wanted c.args.wanted) (as_uses uses) c.args.queue.now (as_uses left) c.loop-found.queue) next c.loop-found.invariant.0 in
    stops (as_wanted c.args.wanted) (as_uses uses) c.args.queue.now (as_found f) (as_uses (drop (i + 1) uses)) c.loop-found.queue goes (sym c.holds.ensures ∙ c.if-holds.true) c.add_use.new.queue
    (subst (AddsOne (as_found f) c.loop-found.queue c.add_use.new.queue) c.if-not-branch.true c.in_ok-add_use.ensures.added)

pub returns-then-not-branch-clause-numbered : goal.returns-then-not-branch-clause-numbered
returns-then-not-branch-clause-numbered c = c.in_ok-add_use.ensures.numbered

pub loop-found-preserved : goal.loop-found-preserved
loop-found-preserved c =
    let uses = c.args.uses.now in
    let i = c.loop-found.found-index in
    let f = c.found-item.result in
    let next : drop i uses ≡ f ∷ drop (i + 1) uses = drop_more uses i f c.loop-found-test.true ∙ ap (λ (x : Found). x ∷ drop (i + 1) uses) (sym c.found-item.is) in
    let goes : Goes (as_wanted c.args.wanted) (as_uses uses) c.args.queue.now (as_found f ∷ as_uses (drop (i + 1) uses)) c.loop-found.queue = subst (λ left. Goes (as_wanted c.args.wanted) (as_uses uses) c.args.queue.now (as_uses left) c.loop-found.queue) next c.loop-found.invariant.0 in
    elim c.else-holds.branch [
      | else-holds-via-then-holds+in_ok-add_use+else-not-branch w ↦ subst
          (λ (queue : Queue). Goes (as_wanted c.args.wanted) (as_uses uses) c.args.queue.now (as_uses (drop (i + 1) uses)) queue × AreUsesNumbered c.args.grounds.now queue.listed) (sym w.queue-is) (
            takes (as_wanted c.args.wanted) (as_uses uses) c.args.queue.now (as_found f) (as_uses (drop (i + 1) uses)) c.loop-found.queue goes (sym c.holds.ensures ∙ w.if-holds.true) w.add_use.new.queue
                (subst (AddsOne (as_found f) c.loop-found.queue w.add_use.new.queue) w.if-not-branch.false w.in_ok-add_use.ensures.added),
            w.in_ok-add_use.ensures.numbered,
          )
      | else-holds-via-else-holds w ↦ subst
          (λ (queue : Queue). Goes (as_wanted c.args.wanted) (as_uses uses) c.args.queue.now (as_uses (drop (i + 1) uses)) queue × AreUsesNumbered c.args.grounds.now queue.listed) (sym w.queue-is)
          (passes (as_wanted c.args.wanted) (as_uses uses) c.args.queue.now (as_found f) (as_uses (drop (i + 1) uses)) c.loop-found.queue goes (sym c.holds.ensures ∙ w.if-holds.false), c.loop-found.invariant.1)
    ]

pub returns-clause-added : goal.returns-clause-added
returns-clause-added c = ends (as_wanted c.args.wanted) (as_uses c.args.uses.now) c.args.queue.now c.loop-found.queue
    (subst (λ left. Goes (as_wanted c.args.wanted) (as_uses c.args.uses.now) c.args.queue.now (as_uses left) c.loop-found.queue) (drop_of_length-le c.args.uses.now (omega (arith, c.loop-found-test.false))) c.loop-found.invariant.0)

pub returns-clause-numbered : goal.returns-clause-numbered
returns-clause-numbered c = c.loop-found.invariant.1
