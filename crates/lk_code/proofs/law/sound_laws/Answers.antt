use Rattle.lk_ast.specs.declared.place.Loc.TheVariants.{Any}
use Rattle.lk_code.proofs.Chaining.{chains_law}
use Rattle.lk_code.proofs.Crossing.{calls_law}
use Rattle.lk_code.proofs.Holding.{holds_law}
use Rattle.lk_code.proofs.Reaching.{reaches_law}
use Rattle.lk_code.proofs.Soundness.{acts_law, points_law}
use Rattle.lk_code.proofs.Staying.{stays_law}
use Rattle.lk_code.proofs.Waiting.{frame_goes, node_there}
use Rattle.lk_code.proofs.Whole.{whole_law}
use Rattle.lk_code.proofs.law.sound_laws.Goals as goal

pub returns : goal.returns
returns c = record {
  whole = λ code sound client server. whole_law code sound client server;
  acts = λ code whole. acts_law code whole;
  reaches = λ code whole n form b label kept there is context ts asked t rule names fit values fits. reaches_law code whole n form b label kept there is context ts asked t rule names fit values fits;
  calls = λ code label i b is function there env args long place r. calls_law code label i b is function there env args long place r;
  points = λ code whole. points_law code whole;
  frames = λ code whole h form cont i there is info_is env fit place. frame_goes code whole h form cont i there is info_is env place fit;
  holds = λ code whole h form cont i there is info_is context t has names fit done held held_are fits. holds_law code whole h form cont i there is info_is context t has names fit done held held_are fits;
  chains = λ code whole frames t chained held place. chains_law code whole place frames t chained held;
  nodes = λ code whole h form cont i there is info_is before env fit. node_there code whole h form cont i there is info_is env Any before fit;
  stays = λ f at k tails names values. stays_law f at k tails names values;
}
