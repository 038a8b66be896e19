use Rattle.std.proofs.Common.{◌++◌, [], ◌∷◌, map, refl, sym, ap, ◌∙◌, append_assoc}
use Rattle.std.proofs.lemmas.List.{append-nil, take_all}
use Rattle.std.proofs.lemmas.Result.{on_ok_weaker}
use Rattle.lk_ground_types.proofs.EntriesMade.{mapped_more}
use Rattle.lk_types.specs.declared.ty.Effect.TheVariants.{Local}
use Rattle.lk_ground_types.specs.Grounds.{effect_number}
use Rattle.lk_ground_types.proofs.ground_level.push_effects.Goals as goal

pub loop-effect-init : goal.loop-effect-init
loop-effect-init c = sym (append-nil (c.args.key.now))

pub loop-effect-preserved : goal.loop-effect-preserved
loop-effect-preserved c =
    mapped_more effect_number _ _ _ c.args.effects.now c.loop-effect.effect-index _ Local c.loop-effect-test.true refl c.loop-effect.invariant (c.in_ok-push.ensures.ok ∙ ap (λ n. c.loop-effect.key ++ n ∷ []) c.effect_number.ensures)

pub returns : goal.returns
returns c =
    on_ok_weaker c.push-2.result
    (λ is. is ∙ ap (λ key. key ++ 7 ∷ []) (c.loop-effect.invariant ∙ ap (λ es. c.args.key.now ++ map effect_number es) (take_all _ c.args.effects.now c.loop-effect-test.false))
    ∙ append_assoc c.args.key.now (map effect_number c.args.effects.now) (7 ∷ []))
    c.push-2.ensures.ok
