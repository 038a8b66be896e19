use Rattle.std.proofs.Common.{◌≡◌, ◌++◌, take}
use Rattle.lk_types.specs.TypeText.{effect_word}
use Rattle.lk_types.proofs.Lists.{front, behind}
use Rattle.lk_listing.proofs.types.write_words.Given as goal

abbrev pub invariant-loop-effect : goal.invariant-loop-effect
invariant-loop-effect l = l.text ≡ (l.fn.text ++ front effect_word l.fn.effects) ++ behind effect_word (take l.effect-index l.rest)
