use Rattle.std.proofs.Common.{ap, sym, ◌∙◌}
use Rattle.std.specs.Option.{is_some}
use Rattle.lk_mono.proofs.Lookups.{none_from_is_some}
use Rattle.lk_mono.proofs.Queueing.{none_listed, some_listed}
use Rattle.lk_mono.proofs.queue.is_listed.Goals as goal

pub returns-clause-yes : goal.returns-clause-yes
returns-clause-yes c found =
    some_listed c.args.grounds.now c.distinct.ensures _ _ _ c.requires.found c.args.listed.now c.requires.listed (ap is_some (sym c.place.ensures) ∙ sym c.is_some.ensures ∙ found)

pub returns-clause-no : goal.returns-clause-no
returns-clause-no c none =
    none_listed c.args.grounds.now c.distinct.ensures _ _ _ c.requires.found c.args.listed.now c.requires.listed (ap is_some (sym c.place.ensures) ∙ sym c.is_some.ensures ∙ none)

pub returns-clause-lacking : goal.returns-clause-lacking
returns-clause-lacking c none = none_from_is_some _ (ap is_some (sym c.place.ensures) ∙ sym c.is_some.ensures ∙ none)
