use Rattle.std.proofs.Common.{Option, arith, length, slice_set, subst, sym, ◌<◌}
use Rattle.lk_cps.proofs.Slots.{live_taken, slot_taken}
use Rattle.lk_cps.proofs.table.Table.take.Goals as goal
use Rattle.lk_cps.specs.Live.{AreLive, Live}
use Rattle.lk_ir.specs.declared.nodes.Forms.{Forms}

pub invariant_of-self : goal.invariant_of-self
invariant_of-self c =
    subst (λ (o : Option Live). AreLive c.self.inside.forms.now (slice_set c.self.inside.live.items c.args.node o)) (sym c.take.ensures.after)
    (live_taken c.self.inside.forms.now c.self.inside.live.items c.args.node c.self.invariant)

pub returns-then-place-len-clause-live : goal.returns-then-place-len-clause-live
returns-then-place-len-clause-live c =
    let less : c.args.node < length c.self.inside.live.items = omega (arith, c.if-place-len.true, c.len.ensures, c.self.inside.live.ok.0) in
    slot_taken c.args.self.now c.self.inside.live.items c.args.node c.index_mut.result.now c.take.result c.ok_or.result (subst (λ (f : Forms). AreLive f c.self.inside.live.items) c.self.view_is c.self.invariant) less
    c.index_mut.ensures.value c.take.ensures.value c.ok_or.ensures.ok_part
