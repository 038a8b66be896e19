use Rattle.std.proofs.Common.{refl, ap, ap₂, ◌∙◌, List, ℕ}
use Rattle.lk_lower.proofs.Following.{fun_opened, started}
use Rattle.lk_lower.proofs.lowering.begin_fun.Goals as goal
use Rattle.lk_lower.specs.Walked.{state_of}
use Rattle.lk_types.specs.declared.ground.Ground.{Ground}

pub returns : goal.returns
returns c =
    let labelled = state_of c.push_label.new.walk in
    fun_opened c.args.number c.args.fun.now c.in_ok-label.label c.in_ok-ty.ty c.in_ok-body.body (state_of c.args.walk.now) (state_of c.type_number.new.walk) _ refl c.in_ok-label.ensures c.in_ok-ty.ensures.is c.in_ok-ty.ensures.state c.in_ok-body.ensures
    (ap₂ (λ (ts : List Ground) (cs : List ℕ). record labelled { pending = record labelled.pending { types = ts; calls = cs } }) c.as_slice-walk.ensures c.as_slice-walk-2.ensures ∙ ap (started c.args.fun.now) c.in_ok-push_label.ensures)
