use Rattle.std.proofs.Common.{◌≡◌, take}
use Rattle.std.specs.Prelude.{flat_map}
use Rattle.lk_print.specs.Printed.{declaration}
use Rattle.lk_print.specs.Written.{line_of}
use Rattle.lk_print.proofs.program.print.Given as goal

abbrev pub invariant-loop-decl : goal.invariant-loop-decl
invariant-loop-decl l = l.text ≡ flat_map (λ d. line_of (declaration d)) (take l.decl-index l.decl-items)
