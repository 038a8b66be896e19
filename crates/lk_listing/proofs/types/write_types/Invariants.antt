use Rattle.std.proofs.Common.{◌≡◌, ◌++◌, take}
use Rattle.lk_types.specs.TypeText.{ground_text}
use Rattle.lk_types.proofs.Lists.{front, behind}
use Rattle.lk_listing.proofs.types.write_types.Given as goal

abbrev pub invariant-loop-ty : goal.invariant-loop-ty
invariant-loop-ty l = l.text ≡ (l.fn.text ++ front ground_text l.fn.types) ++ behind ground_text (take l.ty-index l.rest)
