use Rattle.std.proofs.Common.{◌≡◌, ◌-◌}
use Rattle.lk_read.specs.Reader.{many}
use Rattle.lk_grammar.specs.ReadingPrograms.{fun_next, funs_turn}
use Rattle.lk_grammar.proofs.program.more_funs.Given as goal

abbrev pub invariant-loop-turn : goal.invariant-loop-turn
invariant-loop-turn l = many fun_next (funs_turn l.fn.room) (l.fn.room - l._turn) l.funs l.rest ≡ many fun_next (funs_turn l.fn.room) l.fn.room l.fn.first l.fn.tokens
