use Rattle.std.proofs.Common.{ap₂, ◌∙◌}
use Rattle.std.specs.List.{position}
use Rattle.lk_mono.specs.Places.{is_use}
use Rattle.lk_mono.proofs.listed.Listed.place.Goals as goal

pub returns : goal.returns
returns c =
    c.copied.ensures ∙ c.get.ensures.value ∙ c.self.invariant (c.as_str.result, c.args.number)
    ∙ ap₂ (λ name uses. position (is_use name c.args.number) uses) c.as_str.ensures c.self.view_is
