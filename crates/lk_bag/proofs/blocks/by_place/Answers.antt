use Rattle.std.proofs.Common.{refl, ◌∙◌}
use Rattle.std.specs.Cmp.{unsigned_tied}
use Rattle.lk_bag.specs.Blocks.{begins}
use Rattle.lk_index.proofs.Firsts.{first_or-insert, shown_take}
use Rattle.lk_bag.proofs.blocks.by_place.Goals as goal

pub loop-i-preserved : goal.loop-i-preserved
loop-i-preserved c = λ site.
    first_or-insert _ begins (λ e. e) (λ e. e.now) _ _ c.index-blocks-i.result.now c.loop-i.map c.insert.new.self _ _
    (shown_take (λ e. e.now) c.args.blocks.now c.loop-i.i c.index-blocks-i.result c.loop-i-test.true c.loop-i.auto.i c.index-blocks-i.is)
    c.in_ok-insert.ensures.updates (λ q. unsigned_tied _ q) refl site
    ∙ c.loop-i.invariant site
