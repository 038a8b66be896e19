use Rattle.std.proofs.Common.{◌≡◌, ◌==◌, IfOk, map, rules, subst, tests}
use Rattle.std.proofs.lemmas.Iterator.Consumers.{map_from_collect}
use Rattle.std.proofs.lemmas.Iterator.Splits.{YieldsList-from_slice_split}
use Rattle.std.specs.List.{slice_split}
use Rattle.lk_join.proofs.schedule.cut_words.Goals as goal

pub returns : goal.returns
returns c =
    subst (λ r. IfOk r (λ v. map (λ x. x.now) v.items ≡ slice_split (λ byte. byte == 32) c.args.text.now)) c.in_ok-collect.was
    (map_from_collect _ c.collect.ensures.ran (YieldsList-from_slice_split _ _ c.args.text.now c.split.ensures.rest c.split.ensures.done c.split.ensures.closure (λ x r q k. search (rules, tests))))
