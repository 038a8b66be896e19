use Rattle.std.proofs.Common.{◌++◌, [], ◌∷◌, ◌∙◌, append_assoc}
use Rattle.std.proofs.lemmas.Result.{on_ok_weaker}
use Rattle.lk_ground_types.specs.Grounds.{label_key}
use Rattle.lk_ground_types.proofs.ground_level.push_part.Goals as goal

pub returns : goal.returns
returns c =
    on_ok_weaker c.push_label.result
    (λ is. is ∙ (λ i. c.in_ok-push.ensures.ok i ++ label_key ((c.as_bytes.ensures.value ∙ c.as_str.ensures) i)) ∙ append_assoc c.args.key.now (c.args.part.now.part ∷ []) (label_key c.args.part.now.label))
    c.push_label.ensures
