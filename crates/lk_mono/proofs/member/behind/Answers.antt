use Rattle.lk_mono.proofs.FindingMembers.{behind_all, behind_some}
use Rattle.lk_mono.proofs.member.behind.Goals as goal

pub returns-in-Some : goal.returns-in-Some
returns-in-Some c = behind_some c.args.types.now c.args.from c.args.size c.in-Some.place c.in-Some.ensures.1

pub returns-in-None : goal.returns-in-None
returns-in-None c = behind_all c.args.types.now c.args.from c.args.size c.len.result c.len.ensures c.len.type_inv c.in-None.ensures
