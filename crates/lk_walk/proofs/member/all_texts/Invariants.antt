use Rattle.std.proofs.Common.{◌≡◌, ◌++◌, map}
use Rattle.std.specs.Vec.Iter.{into_iter_items}
use Rattle.lk_types.specs.declared.ty.Ty.TheVariants as ty
use Rattle.lk_typing.specs.Unknowns.{same}
use Rattle.lk_walk.proofs.member.all_texts.Given as goal

abbrev pub invariant-loop-ty : goal.invariant-loop-ty
invariant-loop-ty l = l.equations ++ map (λ p. same p ty.Text) (into_iter_items l.ty-iterator) ≡ map (λ p. same p ty.Text) (into_iter_items l.initial.ty-iterator)
