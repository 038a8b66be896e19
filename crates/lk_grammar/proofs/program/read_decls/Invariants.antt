use Rattle.std.proofs.Common.{◌≡◌, ◌-◌, []}
use Rattle.lk_read.specs.Reader.{many}
use Rattle.lk_grammar.specs.ReadingPrograms.{decl_next, decls_turn}
use Rattle.lk_grammar.proofs.program.read_decls.Given as goal

abbrev pub invariant-loop-turn : goal.invariant-loop-turn
invariant-loop-turn l = many decl_next (decls_turn l.fn.room) (l.fn.room - l._turn) l.decls l.rest ≡ many decl_next (decls_turn l.fn.room) l.fn.room [] l.fn.tokens
