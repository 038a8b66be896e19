use Rattle.std.proofs.lemmas.Result.{IfOk-weaker}
use Rattle.lk_unify.proofs.FineFirsts.{all_fine, first_large, if_none, if_some}
use Rattle.lk_unify.proofs.side_sizes.first_large.Goals as goal

pub returns-clause-fine : goal.returns-clause-fine
returns-clause-fine c = IfOk-weaker c.first_beyond.result _ _ (if_none (all_fine c.args.equations.now c.args.sizings.now c.requires.sizings c.requires.nodes.solution)) c.first_beyond.ensures.few

pub returns-clause-first : goal.returns-clause-first
returns-clause-first c = IfOk-weaker c.first_beyond.result _ _ (if_some (first_large c.args.equations.now c.args.sizings.now c.requires.sizings c.requires.nodes.solution)) c.first_beyond.ensures.first
