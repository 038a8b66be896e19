use Rattle.std.proofs.Common.{◌∙◌, ap, sym}
use Rattle.std.proofs.lemmas.List.{drop_all}
use Rattle.lk_machine.proofs.Scopes.{moved, moved_only}
use Rattle.lk_machine.proofs.scope.Scope.only.Goals as goal

pub returns : goal.returns
returns c = sym (ap (moved c.loop-name.kept c.loop-name.left) (drop_all c.loop-name.name-index c.args.names.now c.loop-name-test.false)) ∙ c.loop-name.invariant ∙ moved_only c.args.names.now c.args.self
