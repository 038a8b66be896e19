use Rattle.std.proofs.Common.{◌≡◌, drop}
use Rattle.lk_sites.proofs.sites.query_sites.Given as goal
use Rattle.lk_sites.specs.Sites.{in_instances, start}
use Rattle.lk_sites.specs.SitesInside.{tour_of}

abbrev pub invariant-loop-function : goal.invariant-loop-function
invariant-loop-function l = in_instances l.place (drop l.function-index l.function-items) (tour_of l.tour) ≡ in_instances 0 l.program.funs start
