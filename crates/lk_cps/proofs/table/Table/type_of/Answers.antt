use Rattle.std.proofs.Common.{subst}
use Rattle.lk_cps.proofs.Slots.{slot_type}
use Rattle.lk_cps.proofs.table.Table.type_of.Goals as goal
use Rattle.lk_cps.specs.Live.{AreLive}
use Rattle.lk_ir.specs.declared.nodes.Forms.{Forms}

pub returns-in-Some-slot : goal.returns-in-Some-slot
returns-in-Some-slot c =
    slot_type c.args.self.now c.self.inside.live.items c.deref.result.now c.args.node c.args.name c.in-Some.slot.now c.in-Some-slot.live c.get-in-Some-slot.result c.unwrap_or.result
    (subst (λ (f : Forms). AreLive f c.self.inside.live.items) c.self.view_is c.self.invariant) c.deref.ensures.value c.in-Some.ensures.lookup.3.0 c.in-Some.ensures.lookup.1 c.in-Some-slot.is c.get-in-Some-slot.ensures c.unwrap_or.ensures
