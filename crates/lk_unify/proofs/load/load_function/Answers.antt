use Rattle.std.proofs.Common.{◌<◌, Some, length, refl, sym, subst, arith}
use Rattle.lk_types.proofs.Members.{each_weaker}
use Rattle.lk_arena.specs.Kinds.{OfEffects, OfTypes}
use Rattle.lk_arena.specs.Shapes.{AllBelow}
use Rattle.lk_arena.specs.declared.node.Head.TheVariants as head
use Rattle.lk_arena.specs.declared.node.Shape.TheVariants.{Made}
use Rattle.lk_unify.proofs.LoadSteps.{if_mapped, loaded_some}
use Rattle.lk_unify.proofs.load.load_function.Goals as goal
use Rattle.lk_unify.specs.Loading.{effects_meaning, Makes}

pub make_node-requires : goal.make_node-requires
make_node-requires c =
    let effects = loaded_some c.args.loader.now c.load_effects.new.loader OfEffects (effects_meaning c.args.effects.now) c.in_ok-first.field-0 c.in-Some.first c.in-Some.is c.in_ok-first.ensures in
    record {
      whole = effects.to.whole;
      parts =
          subst (AllBelow (length c.load_effects.new.loader.arena.shapes)) (sym c.in_ok-parts.ensures) (
            effects.below,
            (
              (let below = c.requires.answer in let longer = effects.to.longer in omega arith),
              each_weaker (λ i. i < length c.args.loader.now.arena.shapes) (λ i. i < length c.load_effects.new.loader.arena.shapes)
                  (λ i below. (let longer = effects.to.longer in omega arith)) c.args.params.now c.requires.params,
            ),
          );
      distinct = tt;
      filled = tt;
      known = refl;
    }

pub returns : goal.returns
returns c =
    if_mapped Some c.make_node.result c.map.result _ _ c.map.ensures.cases
    (λ n made. (
      c.load_effects.new.loader,
      c.in-Some.first,
      loaded_some c.args.loader.now c.load_effects.new.loader OfEffects (effects_meaning c.args.effects.now) c.in_ok-first.field-0 c.in-Some.first c.in-Some.is c.in_ok-first.ensures,
      subst (λ ps. Makes c.load_effects.new.loader c.make_node.new.loader OfTypes (Made head.Fun ps) n) c.in_ok-parts.ensures made,
    ))
    c.make_node.ensures
