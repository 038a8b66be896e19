use Rattle.std.proofs.Common.{refl, sym, subst, ◌∙◌, true, [], ◌∷◌, ◌-◌}
use Rattle.lk_mono.proofs.Queueing.{each_last, full_added, lacking_not_listed, listed_added, made_added, there_is_listed}
use Rattle.lk_mono.specs.Looks.{IsNumbered}
use Rattle.lk_mono.specs.Queues.{AreUsesNumbered, IsAdded}
use Rattle.lk_mono.proofs.queue.add_use.Goals as goal

pub returns-then-is_listed-clause-added : goal.returns-then-is_listed-clause-added
returns-then-is_listed-clause-added c others list u named typed q =
    listed_added others list _ q u (there_is_listed others list _ q u c.args.found.now.name.now c.args.found.now.ty named typed (c.if-is_listed.ensures.yes refl))

pub returns-then-queue-eq0-clause-added : goal.returns-then-queue-eq0-clause-added
returns-then-queue-eq0-clause-added c others list u named typed q =
    full_added others list _ q u (lacking_not_listed others list _ q u c.args.found.now.name.now c.args.found.now.ty named typed (c.if-is_listed.ensures.no refl)) c.if-queue-eq0.true

pub push-requires : goal.push-requires
push-requires c = c.if-is_listed.ensures.lacking refl

pub returns-clause-added : goal.returns-clause-added
returns-clause-added c others list u named typed q =
    subst (λ listed. IsAdded others list (u ∷ []) (record { listed = listed; room = c.args.queue.now.room - 1 }) true) (sym c.in_ok-push.ensures)
    (made_added others list _ q u (lacking_not_listed others list _ q u c.args.found.now.name.now c.args.found.now.ty named typed (c.if-is_listed.ensures.no refl))
    c.if-queue-eq0.false (record { name = c.args.found.now.name; ty = c.in_ok-ty.ty; number = c.args.found.now.number }) (c.in_ok-ty.ensures ∙ typed) named)

pub returns-clause-numbered : goal.returns-clause-numbered
returns-clause-numbered c =
    subst (AreUsesNumbered c.args.grounds.now) (sym c.in_ok-push.ensures)
    (each_last _ c.args.queue.now.listed _ c.requires.listed (subst (IsNumbered c.args.grounds.now c.args.found.now.number) (sym c.in_ok-ty.ensures) c.requires.found))
