use Rattle.std.proofs.Common.{◌≤◌, length, sym, arith}
use Rattle.std.proofs.lemmas.Option.{slice_get_past}
use Rattle.lk_mono.proofs.Nothing.{no_function}
use Rattle.lk_mono.proofs.shapes.has_function_at.Goals as goal

pub returns-in-None : goal.returns-in-None
returns-in-None c = let past : length c.args.types.now ≤ c.args.number = omega (arith, c.in-None.ensures.lookup) in sym (no_function c.args.types.now c.args.number (slice_get_past c.args.types.now c.args.number past))
