use Rattle.std.proofs.Common.{◌≡◌, ◌++◌, drop}
use Rattle.lk_listing.specs.Listing.{fun_lines}
use Rattle.lk_listing.proofs.listing.write_funs.Given as goal

abbrev pub invariant-loop-info : goal.invariant-loop-info
invariant-loop-info l = l.text ++ fun_lines l.number (drop l.info-index l.funs) ≡ l.fn.text ++ fun_lines 0 l.funs
