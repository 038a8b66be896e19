use Rattle.lk_machine.specs.Typed.{MaySteps}
use Rattle.lk_types.specs.declared.ground.Ground.{Ground}
use Rattle.cases.proofs.steps.steps_from.Given as goal

abbrev pub invariant-loop : goal.invariant-loop
invariant-loop l = (u : Ground) × MaySteps l.code.tables l.machine u
