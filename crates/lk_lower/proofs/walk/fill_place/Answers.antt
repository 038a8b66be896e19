use Rattle.std.proofs.Common.{refl}
use Rattle.lk_lower.proofs.Shaping.{form_filled}
use Rattle.lk_lower.proofs.walk.fill_place.Goals as goal
use Rattle.lk_lower.specs.Walked.{state_of}

pub returns : goal.returns
returns c = form_filled (state_of c.args.walk.now) _ c.args.number c.args.form refl refl
