use Rattle.std.proofs.Common.{◌≡◌, ◌++◌, drop}
use Rattle.lk_mono.specs.Flatness.{odd_nodes}
use Rattle.lk_mono.proofs.shapes.odd_nodes.Given as goal
use Rattle.lk_outline.specs.Shown.{shown}

abbrev pub invariant-loop-site : goal.invariant-loop-site
invariant-loop-site l = l.odd.items ++ odd_nodes l.types l.marks (shown (drop l.site-index l.sites)) l.left ≡ odd_nodes l.types l.marks (shown l.sites) l.calls
