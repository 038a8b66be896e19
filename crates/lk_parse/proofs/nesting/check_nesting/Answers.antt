use Rattle.std.proofs.Common.{refl}
use Rattle.lk_parse.proofs.Weights.{nothing_read, more_read, all_light, too_nested}
use Rattle.lk_parse.proofs.Refused.{heavy_not_light}
use Rattle.lk_parse.proofs.nesting.check_nesting.Goals as goal

pub loop-token-init : goal.loop-token-init
loop-token-init c = nothing_read c.args.tokens.now c.new-load.result c.new-load.ensures

pub read-requires : goal.read-requires
read-requires c = c.loop-token.invariant.small

pub returns-then-not-is_light-clause-refused : goal.returns-then-not-is_light-clause-refused
returns-then-not-is_light-clause-refused c = too_nested _ _ _ _ _ c.loop-token-test.true c.token-item.is c.loop-token.invariant c.in_ok-read.ensures (λ light. let bad = c.if-not-is_light.ensures.1 light in absurd cc)

pub returns-then-not-is_light-clause-complete : goal.returns-then-not-is_light-clause-complete
returns-then-not-is_light-clause-complete c = λ all_are. heavy_not_light _ _ (too_nested _ _ _ _ _ c.loop-token-test.true c.token-item.is c.loop-token.invariant c.in_ok-read.ensures (λ light. let bad = c.if-not-is_light.ensures.1 light in absurd cc)) all_are

pub loop-token-preserved : goal.loop-token-preserved
loop-token-preserved c = more_read _ _ _ _ _ c.loop-token-test.true c.token-item.is c.loop-token.invariant c.in_ok-read.ensures (c.if-not-is_light.ensures.0 refl)

pub returns-clause-light : goal.returns-clause-light
returns-clause-light c = all_light c.args.tokens.now c.loop-token.load c.loop-token.token-index c.loop-token-test.false c.loop-token.invariant
