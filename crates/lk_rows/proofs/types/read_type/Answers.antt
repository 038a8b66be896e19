use Rattle.lk_rows.proofs.Contract.{fronts, roomy}
use Rattle.lk_rows.proofs.types.read_type.Goals as goal

pub returns-clause-found : goal.returns-clause-found
returns-clause-found c = fronts c.args.room c.args.tokens.now _ c.read_any.ensures

pub returns-clause-lasts : goal.returns-clause-lasts
returns-clause-lasts c = roomy c.args.room c.args.tokens.now _ c.read_any.ensures
