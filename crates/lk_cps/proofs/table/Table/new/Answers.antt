use Rattle.std.proofs.Common.{List, Option, subst, sym}
use Rattle.lk_cps.proofs.Slots.{live_pushed, none_live}
use Rattle.lk_cps.proofs.table.Table.new.Goals as goal
use Rattle.lk_cps.specs.Live.{AreLive, Live}

pub loop-node-init : goal.loop-node-init
loop-node-init c = subst (λ (slots : List (Option Live)). AreLive c.args.forms.now slots) (sym c.new-live.ensures.items) (none_live c.args.forms.now)

pub loop-node-preserved : goal.loop-node-preserved
loop-node-preserved c = live_pushed c.args.forms.now c.loop-node.live.items c.push.new.self.items c.in_ok-push.ensures.items c.loop-node.invariant
