use Rattle.std.proofs.Common.{◌≡◌, ◌<◌, true, false, length, refl, sym, ◌∙◌, ap, subst, arith}
use Rattle.std.proofs.lemmas.Result.{IfOk-weaker}
use Rattle.lk_types.specs.Each.{Each}
use Rattle.lk_unify.proofs.LoadRows.{effects_below, effects_end_as, loads_effects_end, loaded_effects, some_effects}
use Rattle.lk_unify.proofs.load.load_effects.Goals as goal
use Rattle.lk_unify.specs.Loading.{effect_fields}

pub load_unit-requires : goal.load_unit-requires
load_unit-requires c =
    (effects_end_as c.args.loader.now c.load_end.new.loader c.in_ok-tail.tail c.of_effects.result c.args.effects.now.tail c.of_effects.ensures c.in_ok-tail.ensures).to.whole

pub add_row-requires : goal.add_row-requires
add_row-requires c =
    let tail = effects_end_as c.args.loader.now c.load_end.new.loader c.in_ok-tail.tail c.of_effects.result c.args.effects.now.tail c.of_effects.ensures c.in_ok-tail.ensures in
    let fields = c.in_ok-fields.ensures ∙ ap (effect_fields c.in_ok-unit.unit) c.as_slice.ensures in
    record {
      whole = c.in_ok-unit.ensures.to.whole;
      tail_below = (let below = tail.below in let longer = c.in_ok-unit.ensures.to.longer in omega arith);
      below =
          subst (Each (λ f. f.node < length c.load_unit.new.loader.arena.shapes)) (sym fields)
          (effects_below (length c.load_unit.new.loader.arena.shapes) c.in_ok-unit.unit c.args.effects.now.labels c.in_ok-unit.ensures.below);
      some = some_effects c.in_ok-unit.unit c.args.effects.now.labels c.in_ok-fields.fields fields (λ e. (let h : false ≡ true = c.if-is_empty.ensures.1 e in cc));
    }

pub returns-then-is_empty : goal.returns-then-is_empty
returns-then-is_empty c =
    loads_effects_end c.args.effects.now c.args.loader.now c.load_end.new.loader c.in_ok-tail.tail (c.if-is_empty.ensures.0 refl)
    (effects_end_as c.args.loader.now c.load_end.new.loader c.in_ok-tail.tail c.of_effects.result c.args.effects.now.tail c.of_effects.ensures c.in_ok-tail.ensures)

pub returns : goal.returns
returns c =
    IfOk-weaker c.add_row.result _ _
    (λ answer. loaded_effects c.args.effects.now c.args.loader.now c.load_end.new.loader c.load_unit.new.loader c.add_row.new.loader c.in_ok-tail.tail c.in_ok-unit.unit c.in_ok-fields.fields
    answer
    (effects_end_as c.args.loader.now c.load_end.new.loader c.in_ok-tail.tail c.of_effects.result c.args.effects.now.tail c.of_effects.ensures c.in_ok-tail.ensures)
    c.in_ok-unit.ensures
    (c.in_ok-fields.ensures ∙ ap (effect_fields c.in_ok-unit.unit) c.as_slice.ensures))
    c.add_row.ensures
