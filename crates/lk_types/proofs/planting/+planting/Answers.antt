use Rattle.std.proofs.Common.{ap, refl, sym, ◌∙◌}
use Rattle.lk_types.proofs.Growing.{fields_more, planted_base, planted_fields, planted_function, planted_list, planted_tags, trees_more}
use Rattle.lk_types.proofs.planting.+planting.Goals as goal
use Rattle.lk_types.specs.declared.levels.Level.TheVariants as level
use Rattle.lk_types.specs.declared.ty.Ty.TheVariants as ty

pub push_tree-returns-in-Int : goal.push_tree-returns-in-Int
push_tree-returns-in-Int t c = planted_base _ _ _ _ level.Int refl (sym c.in-Int.is) c.push_level.ensures

pub push_tree-returns-in-Bool : goal.push_tree-returns-in-Bool
push_tree-returns-in-Bool t c = planted_base _ _ _ _ level.Bool refl (sym c.in-Bool.is) c.push_level-in-Bool.ensures

pub push_tree-returns-in-Text : goal.push_tree-returns-in-Text
push_tree-returns-in-Text t c = planted_base _ _ _ _ level.Text refl (sym c.in-Text.is) c.push_level-in-Text.ensures

pub push_tree-returns-in-Var : goal.push_tree-returns-in-Var
push_tree-returns-in-Var t c = planted_base _ _ _ _ (level.Var c.in-Var.number) refl (sym c.in-Var.is) c.push_level-in-Var.ensures

pub push_tree-returns-in_ok-part-in-List : goal.push_tree-returns-in_ok-part-in-List
push_tree-returns-in_ok-part-in-List t c = planted_list _ _ _ _ _ _ _ c.in_ok-part-in-List.ensures (ap ty.List c.get.ensures ∙ sym c.in-List.is) c.push_level-in-List.ensures

pub push_tree-returns-in_ok-row-in-Fields : goal.push_tree-returns-in_ok-row-in-Fields
push_tree-returns-in_ok-row-in-Fields t c = planted_fields _ _ _ _ _ _ c.in-Fields.row c.in_ok-row-in-Fields.ensures (sym c.in-Fields.is) c.push_level-in-Fields.ensures

pub push_tree-returns-in_ok-row-in-Tags : goal.push_tree-returns-in_ok-row-in-Tags
push_tree-returns-in_ok-row-in-Tags t c = planted_tags _ _ _ _ _ _ c.in-Tags.row c.in_ok-row-in-Tags.ensures (sym c.in-Tags.is) c.push_level-in-Tags.ensures

pub push_tree-returns-in_ok-effects-in-Fun : goal.push_tree-returns-in_ok-effects-in-Fun
push_tree-returns-in_ok-effects-in-Fun t c =
    planted_function _ _ _ _ _ _ _ _ c.in-Fun.effects _ _ _ c.in_ok-params-in-Fun.ensures c.in_ok-part-in-Fun.ensures c.in_ok-effects-in-Fun.ensures
    (ap (λ ts. ty.Fun ts c.in-Fun.effects c.get-in-Fun.result.now) c.as_slice.ensures ∙ ap (ty.Fun c.in-Fun.params c.in-Fun.effects) c.get-in-Fun.ensures ∙ sym c.in-Fun.is)
    c.push_level-in-Fun.ensures

pub push_trees-loop-ty-preserved : goal.push_trees-loop-ty-preserved
push_trees-loop-ty-preserved t c = trees_more _ _ _ _ _ _ _ _ c.ty-item.result c.loop-ty.invariant c.in_ok-push_tree.ensures c.in_ok-push.ensures.ok c.loop-ty-test.true c.ty-item.is

pub push_fields-loop-field-preserved : goal.push_fields-loop-field-preserved
push_fields-loop-field-preserved t c =
    fields_more _ _ _ c.loop-field.made _ c.args.fields.now c.loop-field.field-index (record { label = c.in_ok-label.label; part = c.in_ok-part.part }) c.field-item.result c.loop-field.invariant c.in_ok-part.ensures c.in_ok-label.ensures c.in_ok-push.ensures.ok c.loop-field-test.true c.field-item.is
