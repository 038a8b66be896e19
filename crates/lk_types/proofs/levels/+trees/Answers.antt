use Rattle.std.proofs.Common.{◌<◌, sym, ap, subst, ◌∙◌, arith}
use Rattle.lk_types.proofs.Built.{field_below, made_there, parts_below}
use Rattle.lk_types.specs.Each.{Each}
use Rattle.lk_types.specs.Levels.{types_at}
use Rattle.lk_types.specs.declared.ty.Ty.TheVariants as ty
use Rattle.lk_types.proofs.levels.+trees.Goals as goal

pub tree_at-tree_at-requires : goal.tree_at-tree_at-requires
tree_at-tree_at-requires t c =
    let d = c.decreases in
    let less = c.requires.1 in
    let part = (parts_below c.args.levels.now c.args.place _ _ c.requires.0 less c.index-levels-place.is c.in-List.is).0 in
    (omega arith, (c.requires.0, omega arith))

pub tree_at-row_at-requires : goal.tree_at-row_at-requires
tree_at-row_at-requires t c =
    let d = c.decreases in
    (omega arith, (c.requires.0, c.requires.1, parts_below c.args.levels.now c.args.place _ _ c.requires.0 c.requires.1 c.index-levels-place.is c.in-Fields.is))

pub tree_at-row_at-requires-in-Tags : goal.tree_at-row_at-requires-in-Tags
tree_at-row_at-requires-in-Tags t c =
    let d = c.decreases in
    (omega arith, (c.requires.0, c.requires.1, parts_below c.args.levels.now c.args.place _ _ c.requires.0 c.requires.1 c.index-levels-place.is c.in-Tags.is))

pub tree_at-trees_at-requires : goal.tree_at-trees_at-requires
tree_at-trees_at-requires t c =
    let d = c.decreases in
    let parts = parts_below c.args.levels.now c.args.place _ _ c.requires.0 c.requires.1 c.index-levels-place.is c.in-Fun.is in
    (omega arith, (c.requires.0, c.requires.1, subst (Each (λ n. n < c.args.place)) (sym c.as_slice.ensures) parts.1))

pub tree_at-tree_at-requires-in-Fun : goal.tree_at-tree_at-requires-in-Fun
tree_at-tree_at-requires-in-Fun t c =
    let d = c.decreases in
    let less = c.requires.1 in
    let part = (parts_below c.args.levels.now c.args.place _ _ c.requires.0 less c.index-levels-place.is c.in-Fun.is).0 in
    (omega arith, (c.requires.0, omega arith))

pub tree_at-returns-in-Int : goal.tree_at-returns-in-Int
tree_at-returns-in-Int t c = made_there c.args.levels.now c.args.place _ _ c.requires.0 c.requires.1 c.index-levels-place.is c.in-Int.is

pub tree_at-returns-in-Bool : goal.tree_at-returns-in-Bool
tree_at-returns-in-Bool t c = made_there c.args.levels.now c.args.place _ _ c.requires.0 c.requires.1 c.index-levels-place.is c.in-Bool.is

pub tree_at-returns-in-Text : goal.tree_at-returns-in-Text
tree_at-returns-in-Text t c = made_there c.args.levels.now c.args.place _ _ c.requires.0 c.requires.1 c.index-levels-place.is c.in-Text.is

pub tree_at-returns-in_ok-new-in-List : goal.tree_at-returns-in_ok-new-in-List
tree_at-returns-in_ok-new-in-List t c =
    ap ty.List (c.in_ok-new-in-List.ensures ∙ c.in_ok-item-in-List.ensures)
    ∙ made_there c.args.levels.now c.args.place _ _ c.requires.0 c.requires.1 c.index-levels-place.is c.in-List.is

pub tree_at-returns-in_ok-row_at-in-Fields : goal.tree_at-returns-in_ok-row_at-in-Fields
tree_at-returns-in_ok-row_at-in-Fields t c =
    ap ty.Fields c.in_ok-row_at-in-Fields.ensures
    ∙ made_there c.args.levels.now c.args.place _ _ c.requires.0 c.requires.1 c.index-levels-place.is c.in-Fields.is

pub tree_at-returns-in_ok-row_at-in-Tags : goal.tree_at-returns-in_ok-row_at-in-Tags
tree_at-returns-in_ok-row_at-in-Tags t c =
    ap ty.Tags c.in_ok-row_at-in-Tags.ensures
    ∙ made_there c.args.levels.now c.args.place _ _ c.requires.0 c.requires.1 c.index-levels-place.is c.in-Tags.is

pub tree_at-returns-in_ok-new-in-Fun : goal.tree_at-returns-in_ok-new-in-Fun
tree_at-returns-in_ok-new-in-Fun t c =
    ap (λ xs. ty.Fun xs c.in_ok-effects-in-Fun.effects c.in_ok-new-in-Fun.field-0) (c.in_ok-params-in-Fun.ensures ∙ ap (types_at c.args.levels.now) c.as_slice.ensures)
    ∙ ap (λ es. ty.Fun (types_at c.args.levels.now c.in-Fun.params) es c.in_ok-new-in-Fun.field-0) c.in_ok-effects-in-Fun.ensures
    ∙ ap (λ x. ty.Fun (types_at c.args.levels.now c.in-Fun.params) c.in-Fun.effects x) (c.in_ok-new-in-Fun.ensures ∙ c.in_ok-answer-in-Fun.ensures)
    ∙ made_there c.args.levels.now c.args.place _ _ c.requires.0 c.requires.1 c.index-levels-place.is c.in-Fun.is

pub tree_at-returns-in-Var : goal.tree_at-returns-in-Var
tree_at-returns-in-Var t c = made_there c.args.levels.now c.args.place _ _ c.requires.0 c.requires.1 c.index-levels-place.is c.in-Var.is

pub row_at-tree_at-requires : goal.row_at-tree_at-requires
row_at-tree_at-requires t c =
    let d = c.decreases in
    let less = c.requires.1 in
    let part = field_below c.args.row.now c.as_slice-field-items.result.now c.args.below c.loop-field.field-index c.field-item.result c.as_slice-field-items.ensures c.requires.2 c.loop-field-test.true c.field-item.is in
    (omega arith, (c.requires.0, omega arith))
