use Rattle.std.proofs.Common.{sym, subst}
use Rattle.lk_lower.proofs.Covers.{pre_ordered}
use Rattle.lk_lower.proofs.Following.{forms_made}
use Rattle.lk_lower.proofs.Instances.{have_bodies}
use Rattle.lk_lower.proofs.lowering.lower.Goals as goal
use Rattle.lk_ir.specs.declared.nodes.Forms.{Forms}
use Rattle.lk_lower.specs.Lowering.{AreForms}
use Rattle.lk_lower.specs.Once.{StandOnce}

pub table-requires : goal.table-requires
table-requires c =
    have_bodies c.args.p.now _ c.in_ok-made.ensures.few
    (forms_made c.args.p.now _ _ c.in_ok-locals.locals c.in_ok-made.made c.as_slice-2.ensures c.as_slice-3.ensures c.in_ok-locals.ensures c.in_ok-made.ensures)

pub returns : goal.returns
returns c =
    let forms = subst (AreForms c.args.p.now) (sym c.in_ok-table.ensures)
    (forms_made c.args.p.now _ _ c.in_ok-locals.locals c.in_ok-made.made c.as_slice-2.ensures c.as_slice-3.ensures c.in_ok-locals.ensures c.in_ok-made.ensures) in
    record {
      lowered = forms;
      ordered = pre_ordered c.args.p.now _ forms;
      distinct = subst (λ (forms : Forms). StandOnce forms.types forms.tables) (sym c.in_ok-table.ensures) c.in_ok-made.ensures.distinct;
    }
