use Rattle.std.proofs.Common.{◌≡◌, ℕ, take}
use Rattle.std.specs.Ordering.{nat_cmp}
use Rattle.lk_index.specs.Index.{lambda_shown, with_captured}
use Rattle.lk_index.specs.Places.{lambda_begins, seen}
use Rattle.lk_index.proofs.Firsts.{first_or}
use Rattle.lk_index.proofs.index.indexed.Given as goal

abbrev pub invariant-loop-i : goal.invariant-loop-i
invariant-loop-i l = (site : ℕ) → first_or nat_cmp lambda_begins with_captured lambda_shown (seen (take l.i l.found)) l.map site ≡ first_or nat_cmp lambda_begins with_captured lambda_shown (seen l.found) l.initial.map site
