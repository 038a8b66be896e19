use Rattle.lk_parse.proofs.Weights.{HasRead}
use Rattle.lk_parse.proofs.nesting.check_nesting.Given as goal

abbrev pub invariant-loop-token : goal.invariant-loop-token
invariant-loop-token l = HasRead l.tokens l.load l.token-index
