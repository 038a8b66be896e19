use Rattle.std.proofs.Common.{Option, subst, sym}
use Rattle.std.proofs.lemmas.Result.{IfOk-weaker}
use Rattle.lk_cps.proofs.envs.env_of.Goals as goal
use Rattle.lk_cps.specs.Conts.{IsEnv, IsTypeOf}
use Rattle.lk_evaluation.specs.Laws.{Both}
use Rattle.lk_ir.specs.declared.nodes.Body.{Body}

pub returns-in-Some : goal.returns-in-Some
returns-in-Some c =
    IfOk-weaker c.types_of.result _ _
    (λ types is. subst (λ (body : Option Body). IsEnv c.args.table.now body types) (sym c.in-Some.is) (subst (λ names. Both (IsTypeOf c.args.table.now c.in-Some.body.root) names types) c.as_slice.ensures is))
    c.types_of.ensures

pub returns-in-None : goal.returns-in-None
returns-in-None c = subst (λ (body : Option Body). IsEnv c.args.table.now body c.new.result) (sym c.in-None.is) c.new.ensures
