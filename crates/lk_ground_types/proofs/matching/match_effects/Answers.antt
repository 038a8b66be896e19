use Rattle.std.proofs.Common.{length, ◌∙◌, ap}
use Rattle.lk_ground_types.specs.Bound.{grounding_in, without}
use Rattle.lk_ground_types.proofs.Arms.{at_effects, no_effects_bound}
use Rattle.lk_ground_types.proofs.Results.{on_both}
use Rattle.lk_ground_types.proofs.matching.match_effects.Goals as goal

pub returns-in-Closed : goal.returns-in-Closed
returns-in-Closed c = record { binds = no_effects_bound c.args.effects.now c.args.labels.now (grounding_in c.args.grounds.now c.args.found.now) c.in-Closed.is; within = λ p w. w }

pub returns-in_ok-left-in-Var : goal.returns-in_ok-left-in-Var
returns-in_ok-left-in-Var c =
    on_both c.bind_effects.result
    (λ bound within. record {
      binds = at_effects _ _ _ _ _ _ c.in-Var.is (c.in_ok-left-in-Var.ensures ∙ ap (without c.args.labels.now) c.as_slice.ensures) (bound c.args.grounds.now);
      within = λ p w. within (length c.args.grounds.now) w;
    })
    c.bind_effects.ensures.bound c.bind_effects.ensures.within
