use Rattle.std.proofs.Common.{true, false, refl, sym, subst}
use Rattle.std.proofs.lemmas.Result.{err_from_is_err_and}
use Rattle.lk_mono.proofs.Judging.{helpers_called, mains_called, same_shape}
use Rattle.lk_mono.proofs.Walking.{handed_on}
use Rattle.lk_mono.specs.Grounded.{AreAllCalled}
use Rattle.lk_mono.specs.Instances.{uses_of}
use Rattle.lk_mono.specs.Judged.{Judged}
use Rattle.lk_mono.specs.Shapes.{IsMisshapen}
use Rattle.lk_mono.specs.Looks.{AreNumbered}
use Rattle.lk_mono.specs.declared.body.Body.{Body}
use Rattle.lk_types.specs.Each.{Each}
use Rattle.lk_mono.proofs.program.ground_source.Goals as goal

pub returns-in_err-instances-clause-too_many : goal.returns-in_err-instances-clause-too_many
returns-in_err-instances-clause-too_many c is = c.in_err-instances.ensures.too_many (handed_on _ _ _ (err_from_is_err_and c.from_residual.result c.from_residual.ensures.1) is)

pub returns-in_err-instances-clause-too_large : goal.returns-in_err-instances-clause-too_large
returns-in_err-instances-clause-too_large c at is = c.in_err-instances.ensures.large at (handed_on _ _ _ (err_from_is_err_and c.from_residual.result c.from_residual.ensures.1) is)

pub all_calls-requires-clause-mains : goal.all_calls-requires-clause-mains
all_calls-requires-clause-mains c = (c.in_ok-instances.ensures.found.few_mains, c.in_ok-instances.ensures.mains.0)

pub all_calls-requires-clause-helpers : goal.all_calls-requires-clause-helpers
all_calls-requires-clause-helpers c = (c.in_ok-instances.ensures.found.few_helpers, c.in_ok-instances.ensures.helpers.0)

pub all_calls-requires-2-clause-mains : goal.all_calls-requires-2-clause-mains
all_calls-requires-2-clause-mains c = (c.in_ok-instances.ensures.found.few_mains, c.in_ok-instances.ensures.mains.0)

pub all_calls-requires-2-clause-helpers : goal.all_calls-requires-2-clause-helpers
all_calls-requires-2-clause-helpers c = (c.in_ok-instances.ensures.found.few_helpers, c.in_ok-instances.ensures.helpers.0)

pub all_calls-requires-clause-bodies : goal.all_calls-requires-clause-bodies
all_calls-requires-clause-bodies c = subst (Each (λ (b : Body). AreNumbered c.list_instances.new.grounds b.uses)) (sym c.as_slice.ensures) c.in_ok-instances.ensures.mains.1

pub all_calls-requires-2-clause-bodies : goal.all_calls-requires-2-clause-bodies
all_calls-requires-2-clause-bodies c = subst (Each (λ (b : Body). AreNumbered c.list_instances.new.grounds b.uses)) (sym c.as_slice-2.ensures) c.in_ok-instances.ensures.helpers.1

pub returns-in-Some-fault-clause-shape : goal.returns-in-Some-fault-clause-shape
returns-in-Some-fault-clause-shape c kind at is =
    let found = c.in_ok-instances.ensures.found in
    let mains = mains_called c.args.source c.in_ok-instances.instances found c.as_slice.result.now c.in_ok-main_calls.main_calls c.as_slice.ensures c.in_ok-main_calls.ensures in
    let helpers = helpers_called c.args.source c.in_ok-instances.instances found c.as_slice-2.result.now c.in_ok-helper_calls.helper_calls c.as_slice-2.ensures c.in_ok-helper_calls.ensures in
    let judged : Judged c.in-Some.main.now.name.at found.mains found.helpers c.in_ok-fault.fault = c.in_ok-fault.ensures c.args.source found
    (subst (AreAllCalled (uses_of found.mains) (uses_of found.helpers) false found.mains) (sym c.as_slice-3.ensures) mains)
    (subst (AreAllCalled (uses_of found.mains) (uses_of found.helpers) true found.helpers) (sym c.as_slice-4.ensures) helpers) in
    let (same_kind, same_at) = same_shape c.in-Some-fault.kind kind c.in-Some-fault.at at is in
    record {
      main = c.in-Some.main.now;
      is = sym c.in-Some.ensures;
      mains = found.mains;
      helpers = found.helpers;
      instances = found.instances;
      fault = subst (λ k. IsMisshapen c.in-Some.main.now.name.at found.mains found.helpers k at) same_kind
          (subst (IsMisshapen c.in-Some.main.now.name.at found.mains found.helpers c.in-Some-fault.kind) same_at
          (subst (Judged c.in-Some.main.now.name.at found.mains found.helpers) c.in-Some-fault.is judged));
    }

pub returns-clause-grounded : goal.returns-clause-grounded
returns-clause-grounded c =
    let found = c.in_ok-instances.ensures.found in
    let mains = mains_called c.args.source c.in_ok-instances.instances found c.as_slice.result.now c.in_ok-main_calls.main_calls c.as_slice.ensures c.in_ok-main_calls.ensures in
    let helpers = helpers_called c.args.source c.in_ok-instances.instances found c.as_slice-2.result.now c.in_ok-helper_calls.helper_calls c.as_slice-2.ensures c.in_ok-helper_calls.ensures in
    let judged : Judged c.in-Some.main.now.name.at found.mains found.helpers c.in_ok-fault.fault = c.in_ok-fault.ensures c.args.source found
    (subst (AreAllCalled (uses_of found.mains) (uses_of found.helpers) false found.mains) (sym c.as_slice-3.ensures) mains)
    (subst (AreAllCalled (uses_of found.mains) (uses_of found.helpers) true found.helpers) (sym c.as_slice-4.ensures) helpers) in
    record {
      mains = found.mains;
      helpers = found.helpers;
      program = refl;
      instances = found.instances;
      shaped = subst (Judged c.in-Some.main.now.name.at found.mains found.helpers) c.in_default-fault.is judged;
      funs = c.in_ok-functions.ensures c.args.source (uses_of found.mains) (uses_of found.helpers) false found.mains found.mains_held found.main_uses mains;
      others = c.in_ok-functions-2.ensures c.args.source (uses_of found.mains) (uses_of found.helpers) true found.helpers found.helpers_held found.helper_uses helpers;
    }
