use Rattle.std.proofs.Common.{◌+◌, length}
use Rattle.lk_grammar.proofs.Contract.{only_program, left_within, refused_at, room_lasts}
use Rattle.lk_grammar.proofs.program.read_program.Goals as goal

pub overflow_sub-result : goal.overflow_sub-result
overflow_sub-result c = left_within (length c.args.tokens.now + 1) c.in-Err-At.left c.args.tokens.now (rw c.in-Err-At.field-0-is at c.in-Err-At.ensures)

pub unreachable-requires : goal.unreachable-requires
unreachable-requires c = room_lasts c.args.tokens.now (rw c.in-Err-Spent.field-0-is at c.in-Err-Spent.ensures)

pub returns-in-Ok-clause-found : goal.returns-in-Ok-clause-found
returns-in-Ok-clause-found c = only_program (length c.args.tokens.now + 1) c.args.tokens.now c.in-Ok.program c.in-Ok.ensures

pub returns-in-Err-At-clause-refused : goal.returns-in-Err-At-clause-refused
returns-in-Err-At-clause-refused c = refused_at (length c.args.tokens.now + 1) c.in-Err-At.left c.args.tokens.now (rw c.in-Err-At.field-0-is at c.in-Err-At.ensures)
