use Rattle.std.proofs.Common.{◌≡◌, drop}
use Rattle.lk_mono.specs.Flatness.{first_fault}
use Rattle.lk_mono.proofs.shapes.first_fault.Given as goal
use Rattle.lk_outline.specs.Shown.{shown}

abbrev pub invariant-loop-site : goal.invariant-loop-site
invariant-loop-site l = first_fault l.types (shown l.sites) l.odd (shown (drop l.site-index l.sites)) ≡ first_fault l.types (shown l.sites) l.odd (shown l.sites)
