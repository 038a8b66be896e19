use Rattle.std.proofs.Common.{sym}
use Rattle.lk_lower.proofs.walk.own_type.Goals as goal

pub returns-clause-is : goal.returns-clause-is
returns-clause-is c = record { type = c.in-Some.ty.now; there = c.in_ok-type_number.ensures.is; next = sym c.in-Some.ensures.value }
