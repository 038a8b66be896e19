use Rattle.lk_evaluation.specs.Source.{source}
use Rattle.lk_moves.proofs.Courses.{frames_law, takes_then, whole_then}
use Rattle.lk_moves.proofs.Equal.{outs_same}
use Rattle.lk_moves.proofs.Framed.{moves_law}
use Rattle.lk_moves.proofs.Rising.{later_law}
use Rattle.lk_moves.proofs.law.moves_laws.Goals as goal

pub returns : goal.returns
returns c = record {
  equal = outs_same;
  followed = takes_then;
  whole_followed = whole_then;
  framed = λ p. frames_law (source p);
  moves = λ p. moves_law (source p);
  later = λ p. later_law (source p);
}
