use Rattle.std.proofs.Common.{refl, ◌∙◌}
use Rattle.std.specs.Cmp.{unsigned_tied}
use Rattle.lk_index.specs.Places.{name_begins}
use Rattle.lk_index.proofs.Firsts.{first_or-insert, shown_take}
use Rattle.lk_index.proofs.index.by_place.Goals as goal

pub loop-i-preserved : goal.loop-i-preserved
loop-i-preserved c = λ site.
    first_or-insert _ name_begins (λ f. f) (λ f. f.now) _ _ c.index-functions-i.result.now c.loop-i.map c.insert.new.self _ _
    (shown_take (λ f. f.now) c.args.functions.now c.loop-i.i c.index-functions-i.result c.loop-i-test.true c.loop-i.auto.i c.index-functions-i.is)
    c.in_ok-insert.ensures.updates (λ q. unsigned_tied _ q) refl site
    ∙ c.loop-i.invariant site
