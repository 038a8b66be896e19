use Rattle.std.proofs.Common.{ap, get_or, sym, ◌∙◌}
use Rattle.std.proofs.lemmas.List.Sums.{fold_more}
use Rattle.std.specs.BTreeSet.{insert_key}
use Rattle.std.specs.Ordering.{nat_cmp}
use Rattle.lk_types.proofs.places.add_all.Goals as goal

pub loop-place-preserved : goal.loop-place-preserved
loop-place-preserved c =
    let place = get_or c.args.places.now c.loop-place.place-index 0 in
    c.in_ok-insert.ensures.keys ∙ ap (λ keys. insert_key nat_cmp keys place) c.loop-place.invariant ∙ sym (fold_more (insert_key nat_cmp) c.args.wanted.now.keys c.args.places.now c.loop-place.place-index 0 c.loop-place-test.true)
