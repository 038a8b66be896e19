use Rattle.std.proofs.Common.{◌≡◌, map, take}
use Rattle.lk_typing.specs.Unknowns.{base, field}
use Rattle.lk_equations.proofs.unknowns.row_of.Given as goal

abbrev pub invariant-loop-column : goal.invariant-loop-column
invariant-loop-column l = l.fields ≡ map field (map (λ c. (c.label.text, base c.kind)) (take l.column-index l.column-items))
