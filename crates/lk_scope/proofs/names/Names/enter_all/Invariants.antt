use Rattle.std.proofs.Common.{◌≡◌, drop}
use Rattle.lk_scope.specs.Leaving.{without}
use Rattle.lk_scope.specs.Names.{bind_all}
use Rattle.lk_scope.proofs.names.Names.enter_all.Given as goal

abbrev pub invariant-loop-word : goal.invariant-loop-word
invariant-loop-word l = (bind_all (drop l.word-index l.words) l.self ≡ bind_all l.words l.initial.self) × (without l.noted l.self ≡ without l.initial.noted l.initial.self)
