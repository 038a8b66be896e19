use Rattle.std.proofs.Common.{sym, ap, ◌∙◌, is_some}
use Rattle.lk_bodies.proofs.UsesLevels.{bound_found, some_copied}
use Rattle.lk_bodies.specs.Uses.{is_bound}
use Rattle.lk_typing.specs.Names.{names_of}
use Rattle.lk_bodies.proofs.uses.is_bound.Goals as goal

pub returns : goal.returns
returns c = c.is_some.ensures ∙ sym (some_copied c.get.result) ∙ ap is_some c.get.ensures ∙ bound_found c.args.bound.now _ ∙ ap (is_bound (names_of c.args.bound.now)) c.as_str.ensures
