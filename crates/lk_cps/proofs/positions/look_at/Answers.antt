use Rattle.std.proofs.Common.{subst}
use Rattle.lk_cps.proofs.positions.look_at.Goals as goal
use Rattle.lk_cps.specs.Live.{IsContOf}
use Rattle.lk_ir.specs.declared.nodes.Forms.{Forms}

pub returns-clause-step : goal.returns-clause-step
returns-clause-step c = record {
  cont = c.in_ok-cont.cont;
  of = c.in_ok-push.ensures.ok;
  is = subst (λ (f : Forms). IsContOf f c.args.node c.args.looked.live c.in_ok-cont.cont) c.forms.ensures c.in_ok-cont.ensures;
  own = c.in_ok-names.names;
  own_is = c.in_ok-names.ensures.live;
  both = c.in_ok-both.ensures;
}
