use Rattle.std.proofs.Common.{refl, sym, arith}
use Rattle.std.specs.Option.{option_copied}
use Rattle.lk_code.proofs.Deciding.{chain_last, chain_more, not_true}
use Rattle.lk_code.proofs.chains.chain_fits.Goals as goal

pub returns-then-i-frames : goal.returns-then-i-frames
returns-then-i-frames c =
    chain_last c.args.c.now.tables c.args.frames.now c.loop-i.i (option_copied c.loop-i.wanted) c.loop-i.invariant c.index-frames-i.result c.loop-i-test.true c.index-frames-i.is
    c.in-Some.info.now (sym c.in-Some.ensures) (c.if-not-is_wanted.ensures.0 refl) c.is_return.result (omega (arith, c.if-i-frames.true)) c.is_return.ensures

pub loop-i-preserved : goal.loop-i-preserved
loop-i-preserved c =
    chain_more c.args.c.now.tables c.args.frames.now c.loop-i.i (option_copied c.loop-i.wanted) c.loop-i.invariant c.index-frames-i.result c.loop-i-test.true c.index-frames-i.is
    c.in-Some.info.now (sym c.in-Some.ensures) (c.if-not-is_wanted.ensures.0 refl) c.if-i-frames.false (λ return. not_true (c.if-is_return.ensures.1 return))
