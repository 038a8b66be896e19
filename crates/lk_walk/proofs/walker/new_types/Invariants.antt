use Rattle.std.proofs.Common.{◌≡◌, ◌++◌, drop}
use Rattle.lk_typing.specs.Names.{types_of}
use Rattle.lk_typing.specs.Walk.{params_from}
use Rattle.lk_walk.proofs.walker.new_types.Given as goal

abbrev pub invariant-loop-param : goal.invariant-loop-param
invariant-loop-param l = l.types ++ types_of (params_from l.number (drop l._param-index l.params)) ≡ types_of (params_from l.initial.number l.params)
