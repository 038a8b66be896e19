use Rattle.lk_types.proofs.Members.{each_from_map}
use Rattle.std.proofs.Common.{◌<◌, ◌-◌, ◌≤◌, subst, arith, length}
use Rattle.lk_arena.proofs.EachLemmas.{Each-get_or}
use Rattle.lk_arena.proofs.depth.part_at.Goals as goal
use Rattle.lk_arena.specs.Shapes.{AllBelow, parts_of}
use Rattle.lk_arena.specs.declared.node.Field.{Field}

pub returns-else-k-fields-clause-part : goal.returns-else-k-fields-clause-part
returns-else-k-fields-clause-part c n below =
    let below_length : c.args.k - 1 < length c.in-Row.fields =
    let l : c.args.k ≤ length c.in-Row.fields = rw c.as_slice-fields.ensures at c.if-k-fields.false in let z = c.if-k-eq0.false in omega arith in
    rw c.as_slice-fields.ensures
    (Each-get_or (λ (f : Field). f.node < n) c.in-Row.fields (c.args.k - 1) c.index-fields-k.result below_length
    (each_from_map (λ i. i < n) (λ (f : Field). f.node) c.in-Row.fields (subst (λ s. AllBelow n (parts_of s)) c.in-Row.is below).1))
