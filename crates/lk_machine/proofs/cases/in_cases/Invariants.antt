use Rattle.std.proofs.Common.{◌≡◌, drop}
use Rattle.lk_ir.specs.LetNormal.{in_cases}
use Rattle.lk_operators.specs.Values.{tagged}
use Rattle.lk_machine.proofs.cases.in_cases.Given as goal

abbrev pub invariant-loop-case : goal.invariant-loop-case
invariant-loop-case l =
    in_cases l.node.form.now.at (tagged l.tag l.held) l.tag l.held (drop l.case-index l.cases) l.last l.left l.scope
    ≡ in_cases l.node.form.now.at (tagged l.tag l.held) l.tag l.held l.cases l.last l.tails l.fn.scope
