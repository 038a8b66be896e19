use Rattle.std.proofs.Common.{◌≡◌, ℕ, take}
use Rattle.std.specs.Ordering.{nat_cmp}
use Rattle.lk_index.specs.Places.{name_begins, shown}
use Rattle.lk_index.proofs.Firsts.{first_or}
use Rattle.lk_index.proofs.index.by_place.Given as goal

abbrev pub invariant-loop-i : goal.invariant-loop-i
invariant-loop-i l = (site : ℕ) → first_or nat_cmp name_begins (λ f. f) (λ f. f.now) (shown (take l.i l.functions)) l.map site ≡ first_or nat_cmp name_begins (λ f. f) (λ f. f.now) (shown l.functions) l.initial.map site
