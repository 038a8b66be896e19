use Rattle.std.proofs.Common.{◌≡◌, ◌-◌}
use Rattle.lk_read.specs.Reader.{many}
use Rattle.lk_rows.specs.Reading.{comma}
use Rattle.lk_grammar.specs.Reading.{names_turn}
use Rattle.lk_grammar.proofs.names.more_names.Given as goal

abbrev pub invariant-loop-turn : goal.invariant-loop-turn
invariant-loop-turn l = many comma names_turn (l.fn.room - l._turn) l.names l.rest ≡ many comma names_turn l.fn.room l.fn.first l.fn.tokens
