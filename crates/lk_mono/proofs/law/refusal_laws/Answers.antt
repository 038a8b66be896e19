use Rattle.lk_mono.proofs.OneAnswer.{grounded_law, refused_law}
use Rattle.lk_mono.proofs.law.refusal_laws.Goals as goal

pub returns : goal.returns
returns c = record { refused = refused_law c.outline_laws.ensures.outlined; grounded = grounded_law c.outline_laws.ensures.outlined }
