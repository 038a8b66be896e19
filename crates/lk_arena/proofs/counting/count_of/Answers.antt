use Rattle.lk_types.proofs.Members.{each_from_map}
use Rattle.std.proofs.Common.{◌<◌, length, subst}
use Rattle.lk_arena.proofs.counting.count_of.Goals as goal
use Rattle.lk_arena.specs.Shapes.{AllBelow, parts_of}
use Rattle.lk_arena.specs.declared.node.Field.{Field}

pub add_fields-requires-clause-fields : goal.add_fields-requires-clause-fields
add_fields-requires-clause-fields c =
    rw c.as_slice-in-Row.ensures
    (each_from_map (λ p. p < length c.args.classes.now) (λ (f : Field). f.node) c.in-Row.fields (subst (λ s. AllBelow (length c.args.classes.now) (parts_of s)) c.in-Row.is c.requires.parts).1)
