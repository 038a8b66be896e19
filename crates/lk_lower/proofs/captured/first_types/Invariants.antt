use Rattle.std.proofs.Common.{◌≡◌, drop}
use Rattle.lk_bodies.specs.CapturedSeen.{typed}
use Rattle.lk_bodies.specs.UsesSeen.{seen_uses}
use Rattle.lk_lower.proofs.captured.first_types.Given as goal

abbrev pub invariant-loop-i : goal.invariant-loop-i
invariant-loop-i l = typed l.types ≡ seen_uses (drop l.i l.uses)
