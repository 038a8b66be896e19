use Rattle.std.proofs.Common.{List, [], arith, length, refl, subst, sym, take_all, ◌<◌, ℕ}
use Rattle.std.proofs.lemmas.Option.{slice_get_read}
use Rattle.lk_cps.proofs.Pairs.{both_more}
use Rattle.lk_cps.proofs.envs.envs_at.Goals as goal
use Rattle.lk_cps.specs.Conts.{IsEnvOf}
use Rattle.lk_evaluation.specs.Laws.{Both}

pub loop-label-init : goal.loop-label-init
loop-label-init c = subst (λ (envs : List (List ℕ)). Both (IsEnvOf c.args.table.now) [] envs) (sym c.new-envs.ensures) tt

pub loop-label-preserved : goal.loop-label-preserved
loop-label-preserved c =
    let less : c.loop-label.label-index < length c.args.labels.now = omega arith in
    both_more (IsEnvOf c.args.table.now) c.args.labels.now c.loop-label.label-index c.loop-label.envs c.push.new.self c.label-item.result c.in_ok-env.env
    (slice_get_read c.args.labels.now (length c.args.labels.now) c.loop-label.label-index c.label-item.result refl less c.label-item.is) c.in_ok-push.ensures.ok c.loop-label.invariant c.in_ok-env.ensures

pub returns : goal.returns
returns c = subst (λ labels. Both (IsEnvOf c.args.table.now) labels c.loop-label.envs) (take_all c.loop-label.label-index c.args.labels.now c.loop-label-test.false) c.loop-label.invariant
