use Rattle.std.proofs.Common.{◌≡◌, ◌<◌, None, inr, length, refl, subst}
use Rattle.std.specs.Prelude.{IsSome}
use Rattle.lk_types.proofs.Members.{each_from_map, each_to_map}
use Rattle.lk_types.specs.Each.{Each}
use Rattle.lk_arena.proofs.EachLemmas.{OneOf-to_map}
use Rattle.lk_arena.proofs.order.all_known.Goals as goal
use Rattle.lk_arena.specs.Order.{rank_at}
use Rattle.lk_classes.specs.Classes.{class_at}
use Rattle.lk_arena.specs.Shapes.{parts_of}
use Rattle.lk_arena.specs.declared.node.Field.{Field}

pub fields_known-requires-clause-fields : goal.fields_known-requires-clause-fields
fields_known-requires-clause-fields c =
    rw c.as_slice-in-Row.ensures
    (each_from_map (λ p. p < length c.args.classes.now) (λ (f : Field). f.node) c.in-Row.fields (subst (λ s. Each (λ p. p < length c.args.classes.now) (parts_of s)) c.in-Row.is c.requires.parts).1)

pub returns-else-not-is_known-clause-known : goal.returns-else-not-is_known-clause-known
returns-else-not-is_known-clause-known c y =
    rw c.in-Row.is (
      c.if-not-is_known.ensures.known refl,
      each_to_map (λ p. IsSome (rank_at c.args.ranks.now (class_at c.args.classes.now p))) (λ (f : Field). f.node) c.in-Row.fields
          (rw c.as_slice-in-Row.ensures at (c.fields_known.ensures.known y)),
    )

pub returns-else-not-is_known-clause-unknown : goal.returns-else-not-is_known-clause-unknown
returns-else-not-is_known-clause-unknown c n =
    rw c.in-Row.is
    (inr (OneOf-to_map (λ p. rank_at c.args.ranks.now (class_at c.args.classes.now p) ≡ None) (λ (f : Field). f.node) c.in-Row.fields
    (rw c.as_slice-in-Row.ensures at (c.fields_known.ensures.unknown n))))
