use Rattle.std.proofs.Common.{◌≡◌, ◌++◌, take}
use Rattle.lk_types.specs.TypeText.{effect_word}
use Rattle.lk_types.proofs.Lists.{front, behind}
use Rattle.lk_types.proofs.type_text.write_labels.Given as goal

abbrev pub invariant-loop-label : goal.invariant-loop-label
invariant-loop-label l = l.text ≡ (l.fn.text ++ front effect_word l.fn.labels) ++ behind effect_word (take l.label-index l.rest)
