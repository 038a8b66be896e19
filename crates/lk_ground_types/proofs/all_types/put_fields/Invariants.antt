use Rattle.std.proofs.Common.{◌≡◌, drop}
use Rattle.lk_ground_types.specs.Becoming.{fields_put}
use Rattle.lk_ground_types.proofs.all_types.put_fields.Given as goal

abbrev pub invariant-loop-i : goal.invariant-loop-i
invariant-loop-i l = l.row ≡ fields_put l.numbers (drop l.i l.fields) l.initial.row
