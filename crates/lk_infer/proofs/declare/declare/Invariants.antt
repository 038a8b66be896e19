use Rattle.std.specs.Prelude.{◌≡◌, ◌≤◌, ◌++◌, drop, length}
use Rattle.lk_typing.specs.Programs.{entries}
use Rattle.lk_infer.proofs.declare.declare.Given as goal

abbrev pub invariant-last_first : goal.invariant-last_first
invariant-last_first l = (l.count ≤ length l.functions) × (l.count ≤ length l.schemes) × (l.earlier ≡ entries (drop l.count l.functions) (drop l.count l.schemes) ++ l.fn.earlier)

abbrev pub decreases-last_first : goal.decreases-last_first
decreases-last_first l = l.count
