use Rattle.std.proofs.Common.{◌≡◌, ℕ, take}
use Rattle.std.specs.Ordering.{nat_cmp}
use Rattle.lk_bag.specs.Blocks.{begins}
use Rattle.lk_bag.specs.Inside.{shown}
use Rattle.lk_index.proofs.Firsts.{first_or}
use Rattle.lk_bag.proofs.blocks.by_place.Given as goal

abbrev pub invariant-loop-i : goal.invariant-loop-i
invariant-loop-i l = (site : ℕ) → first_or nat_cmp begins (λ e. e) (λ e. e.now) (shown (take l.i l.blocks)) l.map site ≡ first_or nat_cmp begins (λ e. e) (λ e. e.now) (shown l.blocks) l.initial.map site
