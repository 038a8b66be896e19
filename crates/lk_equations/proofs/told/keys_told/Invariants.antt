use Rattle.std.proofs.Common.{◌≡◌, ◌++◌, drop}
use Rattle.lk_types.specs.declared.ty.Ty.TheVariants as ty
use Rattle.lk_typing.specs.Walk.{keys_told}
use Rattle.lk_equations.proofs.told.keys_told.Given as goal

abbrev pub invariant-loop-key : goal.invariant-loop-key
invariant-loop-key l =
    (l.equations ++ (keys_told (ty.Var l.body) (drop l.key-index l.keys) l.next).equations ≡ (keys_told (ty.Var l.body) l.keys l.initial.next).equations)
    × ((keys_told (ty.Var l.body) (drop l.key-index l.keys) l.next).next ≡ (keys_told (ty.Var l.body) l.keys l.initial.next).next)
