use Rattle.std.proofs.Common.{rules}
use Rattle.lk_parse.proofs.Refused.{err_has_none}
use Rattle.lk_parse.proofs.program.parse.Goals as goal

pub returns-in_err-tokens-clause-complete : goal.returns-in_err-tokens-clause-complete
returns-in_err-tokens-clause-complete c program = err_has_none _ _ program (search rules)

pub returns-in_err-check_nesting-clause-complete : goal.returns-in_err-check_nesting-clause-complete
returns-in_err-check_nesting-clause-complete c program = err_has_none _ _ program (search rules)
