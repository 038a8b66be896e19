use Rattle.std.proofs.Common.{◌≡◌, None, refl, subst}
use Rattle.lk_arena.proofs.EachLemmas.{OneOf-get_or}
use Rattle.lk_arena.proofs.order.fields_known.Goals as goal
use Rattle.lk_arena.specs.Order.{rank_at}
use Rattle.lk_classes.specs.Classes.{class_at}
use Rattle.lk_arena.specs.declared.node.Field.{Field}

pub returns-then-not-is_known-clause-unknown : goal.returns-then-not-is_known-clause-unknown
returns-then-not-is_known-clause-unknown c _ =
    OneOf-get_or (λ f. rank_at c.args.ranks.now (class_at c.args.classes.now f.node) ≡ None) c.args.fields.now c.loop-field.field-index c.field-item.result c.loop-field-test.true
    (subst (λ (f : Field). rank_at c.args.ranks.now (class_at c.args.classes.now f.node) ≡ None) c.field-item.is (c.if-not-is_known.ensures.unknown refl))
