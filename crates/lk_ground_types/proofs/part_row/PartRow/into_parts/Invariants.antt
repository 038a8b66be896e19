use Rattle.std.proofs.Common.{◌≡◌, ◌++◌, map, string_bytes}
use Rattle.lk_ground_types.proofs.StringRows.{part}
use Rattle.lk_ground_types.proofs.part_row.PartRow.into_parts.Given as goal

abbrev pub invariant-loop-label : goal.invariant-loop-label
invariant-loop-label l = l.parts ++ map (λ e. part (string_bytes e.0) e.1) l.label-iterator ≡ map (λ e. part (string_bytes e.0) e.1) l.initial.label-iterator
