use Rattle.std.proofs.Common.{◌≡◌, map, drop}
use Rattle.lk_names.specs.Repeats.{items_fault, alone, words_fault}
use Rattle.lk_names.proofs.repeats.words.Given as goal

abbrev pub invariant-loop-word : goal.invariant-loop-word
invariant-loop-word l = items_fault l.met (map alone (drop l.word-index l.list)) ≡ words_fault l.list
