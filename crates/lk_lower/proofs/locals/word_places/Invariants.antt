use Rattle.std.proofs.Common.{map, take}
use Rattle.lk_lower.specs.Lowering.{text_of}
use Rattle.lk_lower.specs.Steps.{AreNamed}
use Rattle.lk_lower.proofs.locals.word_places.Given as goal

abbrev pub invariant-loop-word : goal.invariant-loop-word
invariant-loop-word l = AreNamed l.locals l.places (map text_of (take l.word-index l.words))
