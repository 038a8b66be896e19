use Rattle.std.proofs.Common.{ap, ◌∙◌}
use Rattle.std.proofs.lemmas.Result.{IfOk-weaker}
use Rattle.lk_types.specs.Grounding.{under}
use Rattle.lk_ground_types.specs.Least.{least}
use Rattle.lk_mono.proofs.listing.main_type.Goals as goal

pub returns-clause-made : goal.returns-clause-made
returns-clause-made c = IfOk-weaker c.ground_one.result _ _ (λ number made t is. made t (ap (λ σ. under σ c.in_ok-tree.tree) (c.none-bindings.ensures.least c.args.grounds.now) ∙ ap (under least) c.in_ok-tree.ensures ∙ is)) c.ground_one.ensures.made
