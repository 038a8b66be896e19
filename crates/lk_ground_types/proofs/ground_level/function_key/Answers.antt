use Rattle.std.proofs.Common.{◌++◌, [], ◌∷◌, map, refl, sym, ap, ◌∙◌, append_assoc}
use Rattle.std.proofs.lemmas.List.{append-nil, take_all}
use Rattle.lk_ground_types.proofs.EntriesMade.{taken_more}
use Rattle.lk_ground_types.specs.Grounds.{effect_number}
use Rattle.lk_ground_types.proofs.ground_level.function_key.Goals as goal

pub loop-param-init : goal.loop-param-init
loop-param-init c = sym (append-nil (c.push_effects.new.key))

pub loop-param-preserved : goal.loop-param-preserved
loop-param-preserved c = taken_more _ _ _ c.args.params.now c.loop-param.param-index _ 0 c.loop-param-test.true refl c.loop-param.invariant c.in_ok-push.ensures.ok

pub returns : goal.returns
returns c =
    c.loop-param.invariant
    ∙ (λ i. (c.in_ok-push_effects.ensures ∙ ap (λ key. key ++ (map effect_number c.args.effects.now ++ 7 ∷ [])) c.in_ok-key.ensures) i ++ take_all c.loop-param.param-index c.args.params.now c.loop-param-test.false i)
    ∙ ap (λ key. 6 ∷ c.args.answer ∷ key) (append_assoc (map effect_number c.args.effects.now) (7 ∷ []) c.args.params.now)
