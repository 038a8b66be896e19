use Rattle.lk_exec.proofs.Scanned.{answer_of}
use Rattle.lk_exec.proofs.queries.answer.Goals as goal

pub returns : goal.returns
returns c = answer_of _ _ c.args.s.now _ _ _ _ c.as_slice.ensures c.as_slice-2.ensures c.in_ok-rows.ensures c.sorted.ensures.moved c.sorted.ensures.sorted
