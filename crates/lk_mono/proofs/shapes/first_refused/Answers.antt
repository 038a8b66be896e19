use Rattle.std.proofs.Common.{map, sym, subst}
use Rattle.std.proofs.lemmas.Result.{IfOk-weaker}
use Rattle.lk_mono.specs.Flatness.{Answers, AreMarked, has_odd}
use Rattle.lk_mono.specs.Instances.{uses_of}
use Rattle.lk_mono.proofs.Faults.{all_right}
use Rattle.lk_mono.proofs.Reaching.{marked_odd, odd_marked}
use Rattle.lk_mono.proofs.shapes.first_refused.Goals as goal

pub returns : goal.returns
returns c = IfOk-weaker c.first_in.result _ _ (λ found is source ms hs mains helpers main_calls helper_calls distinct.
    let marks = c.deref.result.now in
    let calls = c.args.helper_calls.now in
    let marked : AreMarked (map has_odd c.args.helpers.now) calls marks = subst (AreMarked (map has_odd c.args.helpers.now) calls) (sym c.deref.ensures.value) c.in_ok-marks.ensures in
    subst (Answers hs ms) (sym is) (all_right source hs (uses_of ms) marks (record {
      sound = marked_odd source c.args.helpers.now hs helpers (uses_of ms) calls helper_calls marks marked distinct;
      complete = odd_marked source c.args.helpers.now hs helpers (uses_of ms) calls helper_calls marks marked distinct;
    }) mains main_calls))
    c.first_in.ensures
