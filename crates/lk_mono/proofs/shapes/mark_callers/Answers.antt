use Rattle.std.proofs.Common.{◌≡◌, ◌+◌, ◌-◌, ◌<◌, length, Some, slice_get, refl, sym, ap, ◌∙◌, subst, arith}
use Rattle.std.proofs.lemmas.Option.{slice_get_read}
use Rattle.lk_mono.proofs.Marks.{pass_on}
use Rattle.lk_mono.specs.Flatness.{IsPass}
use Rattle.lk_mono.proofs.shapes.mark_callers.Goals as goal

pub loop-place-preserved : goal.loop-place-preserved
loop-place-preserved c =
    let calls = c.args.calls.now in
    let before = c.loop-place.place - 1 in
    let e : c.loop-place.place ≡ 1 + (c.loop-place.place - 1) = omega (arith, c.loop-place-test.true) in
    let within : c.loop-place.place - 1 < length c.args.calls.now = omega (arith, c.loop-place-test.true, c.loop-place.auto.place) in
    let is : slice_get calls before ≡ Some c.as_slice.result.now = slice_get_read calls (length calls) before c.index-calls-place.result refl within c.index-calls-place.is ∙ ap Some (sym c.as_slice.ensures) in
    pass_on calls before c.as_slice.result.now is c.args.marks.now.items c.loop-place.marks.items c.loop-place.changed c.mark_caller-changed.result c.mark_caller-changed.new.marks.items
    (subst (λ k. IsPass calls k c.args.marks.now.items c.loop-place.marks.items c.loop-place.changed) e c.loop-place.invariant)
    c.mark_caller-changed.ensures.left c.mark_caller-changed.ensures.marking
