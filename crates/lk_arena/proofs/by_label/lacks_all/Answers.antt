use Rattle.std.proofs.Common.{◌≡◌, sym, ◌∙◌, ap, true, false, subst}
use Rattle.std.proofs.lemmas.List.{take_all}
use Rattle.lk_types.specs.Each.{Each}
use Rattle.lk_arena.proofs.EachLemmas.{OneOf-get_or}
use Rattle.lk_arena.proofs.Noted.{each_taken}
use Rattle.lk_arena.proofs.by_label.lacks_all.Goals as goal
use Rattle.lk_arena.specs.Lookups.{is_noted}

pub returns-then-contains_key-clause-has : goal.returns-then-contains_key-clause-has
returns-then-contains_key-clause-has c = λ _.
    OneOf-get_or (λ f. is_noted c.args.labels.now f.label ≡ true) c.args.others.now c.loop-other.other-index c.other-item.result c.loop-other-test.true
    (ap (λ f. is_noted c.args.labels.now f.label) (sym c.other-item.is) ∙ ap (is_noted c.args.labels.now) (sym c.as_str.ensures) ∙ sym c.if-contains_key.ensures)

pub loop-other-preserved : goal.loop-other-preserved
loop-other-preserved c =
    each_taken (λ f. is_noted c.args.labels.now f.label ≡ false) c.args.others.now c.loop-other.other-index c.other-item.result c.loop-other-test.true c.other-item.is c.loop-other.invariant
    (ap (is_noted c.args.labels.now) (sym c.as_str.ensures) ∙ sym c.if-contains_key.ensures)

pub returns-clause-lacks : goal.returns-clause-lacks
returns-clause-lacks c = λ _.
    subst (Each (λ f. is_noted c.args.labels.now f.label ≡ false)) (take_all c.loop-other.other-index c.args.others.now c.loop-other-test.false) c.loop-other.invariant
