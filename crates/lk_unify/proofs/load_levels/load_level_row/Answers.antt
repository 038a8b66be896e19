use Rattle.std.proofs.Common.{◌≡◌, ◌<◌, true, false, length, map, refl, sym, ◌∙◌, ap, subst, arith}
use Rattle.std.proofs.lemmas.Result.{IfOk-weaker}
use Rattle.lk_types.proofs.Members.{each_weaker}
use Rattle.lk_types.specs.Each.{Each}
use Rattle.lk_types.specs.Levels.{row_parts}
use Rattle.lk_unify.proofs.LoadLevelParts.{any_long, any_types, fields_below, level_row, level_row_end}
use Rattle.lk_unify.proofs.LoadRows.{row_end_as, some_fields}
use Rattle.lk_unify.proofs.load_levels.load_level_row.Goals as goal
use Rattle.lk_unify.specs.LevelLoading.{level_field}

pub level_fields-requires : goal.level_fields-requires
level_fields-requires c = subst (λ fs. Each (λ p. p < length c.args.nodes.now) (map (λ f. f.part) fs)) (sym c.as_slice.ensures) c.requires.parts

pub add_row-requires : goal.add_row-requires
add_row-requires c =
    let ns = c.args.nodes.now in
    let tail = row_end_as c.args.loader.now c.load_end.new.loader c.in_ok-tail.tail c.of_row.result c.args.row.now.tail c.of_row.ensures c.in_ok-tail.ensures in
    let fields = c.in_ok-fields.ensures ∙ ap (map (level_field ns)) c.as_slice.ensures in
    let parts = subst (λ n. Each (λ p. p < n) (row_parts c.args.row.now)) (any_long ns) c.requires.parts in
    record {
      whole = tail.to.whole;
      tail_below = tail.below;
      below = each_weaker (λ f. f.node < length c.args.loader.now.arena.shapes) (λ f. f.node < length c.load_end.new.loader.arena.shapes) (λ f below. (let longer = tail.to.longer in omega arith)) c.in_ok-fields.fields
          (fields_below (any_types ns) ns (any_long ns) c.args.loader.now c.requires.nodes c.args.row.now parts c.in_ok-fields.fields fields);
      some = some_fields c.in_ok-fields.fields (λ e. (let h : false ≡ true = c.if-is_empty.ensures.1 e in cc));
    }

pub returns-then-is_empty : goal.returns-then-is_empty
returns-then-is_empty c ts same =
    let ns = c.args.nodes.now in
    let tail = row_end_as c.args.loader.now c.load_end.new.loader c.in_ok-tail.tail c.of_row.result c.args.row.now.tail c.of_row.ensures c.in_ok-tail.ensures in
    let fields = c.in_ok-fields.ensures ∙ ap (map (level_field ns)) c.as_slice.ensures in
    level_row_end ts ns same c.args.loader.now c.requires.nodes c.args.row.now (subst (λ n. Each (λ p. p < n) (row_parts c.args.row.now)) same c.requires.parts) c.in_ok-fields.fields fields c.load_end.new.loader c.in_ok-tail.tail
    c.requires.whole (c.if-is_empty.ensures.0 refl) tail

pub returns : goal.returns
returns c =
    IfOk-weaker c.add_row.result _ _
    (λ answer adds ts same.
    let ns = c.args.nodes.now in
    let tail = row_end_as c.args.loader.now c.load_end.new.loader c.in_ok-tail.tail c.of_row.result c.args.row.now.tail c.of_row.ensures c.in_ok-tail.ensures in
    let fields = c.in_ok-fields.ensures ∙ ap (map (level_field ns)) c.as_slice.ensures in
    level_row ts ns same c.args.loader.now c.requires.nodes c.args.row.now (subst (λ n. Each (λ p. p < n) (row_parts c.args.row.now)) same c.requires.parts) c.in_ok-fields.fields fields c.load_end.new.loader c.add_row.new.loader
    c.in_ok-tail.tail answer tail adds)
    c.add_row.ensures
