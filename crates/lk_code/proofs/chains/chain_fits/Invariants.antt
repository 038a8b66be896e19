use Rattle.std.proofs.Common.{◌↔◌, drop}
use Rattle.std.specs.Option.{option_copied}
use Rattle.lk_code.specs.Chains.{ChainFits}
use Rattle.lk_code.proofs.chains.chain_fits.Given as goal

abbrev pub invariant-loop-i : goal.invariant-loop-i
invariant-loop-i l = ChainFits l.c.tables (drop l.i l.frames) (option_copied l.wanted) ↔ ChainFits l.c.tables l.frames (option_copied l.fn.hole)
