use Rattle.std.proofs.Common.{arith, get_or, length, refl, rules, subst, sym, ◌+◌, ◌-◌, ◌<◌, ◌≡◌, ◌∙◌, false, true}
use Rattle.std.proofs.lemmas.List.{get_or_read}
use Rattle.std.proofs.lemmas.Option.{slice_get_read}
use Rattle.lk_types.proofs.Marking.{marking_all, marking_first, marking_more, parts_within, IsMarking}
use Rattle.lk_types.proofs.marks.marked.Goals as goal

pub loop-place-init : goal.loop-place-init
loop-place-init c = marking_first c.args.levels.now c.args.roots.now c.requires (length c.args.levels.now) c.in_ok-marks.marks.items c.mark_all.new.marks.items refl (c.in_ok-marks.ensures.items_if_clones_equal (λ y h. search rules)) c.mark_all.ensures

pub mark_parts-requires : goal.mark_parts-requires
mark_parts-requires c =
    let place = c.loop-place.place in
    let next_up : place - 1 + 1 ≡ place = omega arith in
    let less : place - 1 < length c.args.levels.now = omega arith in
    parts_within c.args.levels.now c.args.roots.now c.requires (place - 1) place c.loop-place.marks.items next_up c.loop-place.invariant c.index-levels-place.result less c.index-levels-place.is

pub loop-place-preserved-then-index : goal.loop-place-preserved-then-index
loop-place-preserved-then-index c =
    let place = c.loop-place.place in
    let next_up : place - 1 + 1 ≡ place = omega arith in
    let less : place - 1 < length c.args.levels.now = omega arith in
    let long = c.loop-place.invariant.long in
    let small : place - 1 < length c.loop-place.marks.items = omega arith in
    let on : get_or c.loop-place.marks.items (place - 1) false ≡ true = sym (get_or_read c.loop-place.marks.items (place - 1) c.index.result.now small c.index.ensures false) ∙ c.if-index.true in
    marking_more c.args.levels.now c.args.roots.now c.requires (place - 1) place c.loop-place.marks.items next_up c.loop-place.invariant c.index-levels-place.result c.mark_parts.new.marks.items
    (slice_get_read c.args.levels.now (length c.args.levels.now) (place - 1) c.index-levels-place.result refl less c.index-levels-place.is) on c.mark_parts.ensures

pub returns : goal.returns
returns c =
    let done : c.loop-place.place ≡ 0 = omega arith in
    marking_all c.args.levels.now c.args.roots.now c.requires c.loop-place.marks.items (subst (λ n. IsMarking c.args.levels.now c.args.roots.now n c.loop-place.marks.items) done c.loop-place.invariant)
