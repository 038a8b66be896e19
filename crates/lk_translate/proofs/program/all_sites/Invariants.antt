use Rattle.std.proofs.Common.{map, take}
use Rattle.lk_sites.specs.SiteSeen.{shown}
use Rattle.lk_translate.specs.Tried.{AreMade}
use Rattle.lk_translate.proofs.program.all_sites.Given as goal

abbrev pub invariant-loop-site : goal.invariant-loop-site
invariant-loop-site l = AreMade l.inliner (map shown (take l.site-index l.sites)) l.all
