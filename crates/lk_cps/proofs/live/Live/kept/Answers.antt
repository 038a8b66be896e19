use Rattle.std.proofs.Common.{◌∙◌, append-nil, ap, map, subst, sym, ◌++◌}
use Rattle.lk_cps.proofs.live.Live.kept.Goals as goal
use Rattle.lk_cps.specs.Live.{Rises, kept_of}

pub returns : goal.returns
returns c = record {
  is =
      sym (append-nil c.loop-name.kept)
      ∙ ap (λ es. c.loop-name.kept ++ map kept_of es) (sym c.in-None.ensures.steps.0)
      ∙ c.loop-name.invariant
      ∙ ap (map kept_of) (c.into_iter-name-iterator.ensures.into_iter_gives.0 ∙ c.self.view_is);
  rises = subst Rises c.self.view_is c.into_iter-name-iterator.ensures.into_iter_gives.5;
}
