use Rattle.std.proofs.Common.{◌+◌, ◌++◌, [], ◌∷◌, map, refl, sym, ap, ◌∙◌, append_assoc}
use Rattle.std.proofs.lemmas.List.{append-nil, take_all}
use Rattle.std.proofs.lemmas.Result.{on_ok_weaker}
use Rattle.lk_ground_types.proofs.EntriesMade.{mapped_more}
use Rattle.lk_ground_types.proofs.ground_level.push_label.Goals as goal

pub loop-byte-init : goal.loop-byte-init
loop-byte-init c = sym (append-nil (c.args.key.now))

pub loop-byte-preserved : goal.loop-byte-preserved
loop-byte-preserved c = mapped_more (λ b. b + 1) _ _ _ c.args.label.now c.loop-byte.byte-index _ 0 c.loop-byte-test.true refl c.loop-byte.invariant c.in_ok-push.ensures.ok

pub returns : goal.returns
returns c =
    on_ok_weaker c.push-2.result
    (λ is. is ∙ ap (λ key. key ++ 0 ∷ []) (c.loop-byte.invariant ∙ ap (λ bs. c.args.key.now ++ map (λ b. b + 1) bs) (take_all _ c.args.label.now c.loop-byte-test.false))
    ∙ append_assoc c.args.key.now (map (λ b. b + 1) c.args.label.now) (0 ∷ []))
    c.push-2.ensures.ok
