use Rattle.std.proofs.Common.{◌≡◌, ◌-◌}
use Rattle.lk_read.specs.Reader.{many}
use Rattle.lk_rows.specs.Reading.{comma}
use Rattle.lk_grammar.specs.ReadingPrograms.{columns_turn}
use Rattle.lk_grammar.proofs.program.more_columns.Given as goal

abbrev pub invariant-loop-turn : goal.invariant-loop-turn
invariant-loop-turn l = many comma columns_turn (l.fn.room - l._turn) l.columns l.rest ≡ many comma columns_turn l.fn.room l.fn.first l.fn.tokens
