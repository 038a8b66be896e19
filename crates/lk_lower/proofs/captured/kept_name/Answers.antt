use Rattle.std.proofs.Common.{ap, sym, ◌∙◌, slice_get, List, ℕ}
use Rattle.lk_lower.proofs.captured.kept_name.Goals as goal
use Rattle.lk_lower.specs.Growing.{State}

pub returns-in_ok-ty-in-Some-clause-kept : goal.returns-in_ok-ty-in-Some-clause-kept
returns-in_ok-ty-in-Some-clause-kept c = record {
  place = ap (λ (ls : List (List ℕ)). slice_get ls c.in_ok-place.place) (ap (λ (s : State). s.locals) c.in_ok-ty-in-Some.ensures.state.1) ∙ c.in_ok-place.ensures;
  type = c.in-Some.ty.now;
  first = sym c.in-Some.ensures;
  number = c.in_ok-ty-in-Some.ensures.is;
}
