use Rattle.std.proofs.Common.{List, [], arith, length, subst, sym, take_all, ◌<◌, ℕ}
use Rattle.std.proofs.lemmas.Option.{slice_get-get_or}
use Rattle.lk_cps.proofs.Pairs.{both_more}
use Rattle.lk_cps.proofs.envs.types_of.Goals as goal
use Rattle.lk_cps.specs.Conts.{IsTypeOf}
use Rattle.lk_evaluation.specs.Laws.{Both}

pub loop-name-init : goal.loop-name-init
loop-name-init c = subst (λ (types : List ℕ). Both (IsTypeOf c.args.table.now c.args.node) [] types) (sym c.new-types.ensures) tt

pub loop-name-preserved : goal.loop-name-preserved
loop-name-preserved c =
    let less : c.loop-name.name-index < length c.args.names.now = omega arith in
    both_more (IsTypeOf c.args.table.now c.args.node) c.args.names.now c.loop-name.name-index c.loop-name.types c.push.new.self _ c.in_ok-ty.ty
    (slice_get-get_or c.args.names.now c.loop-name.name-index _ less) c.in_ok-push.ensures.ok c.loop-name.invariant c.in_ok-ty.ensures

pub returns : goal.returns
returns c = subst (λ names. Both (IsTypeOf c.args.table.now c.args.node) names c.loop-name.types) (take_all c.loop-name.name-index c.args.names.now c.loop-name-test.false) c.loop-name.invariant
