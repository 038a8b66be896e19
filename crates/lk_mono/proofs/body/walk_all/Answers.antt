use Rattle.std.proofs.Common.{arith, sym, subst}
use Rattle.lk_mono.proofs.NumbersGrown.{bodies_still, grows_on, one_more_body, same_table}
use Rattle.lk_mono.specs.Looks.{AreNumbered}
use Rattle.lk_mono.specs.declared.body.Body.{Body}
use Rattle.lk_types.specs.Each.{Each}
use Rattle.std.proofs.lemmas.Result.{err_from_is_err_and}
use Rattle.lk_mono.proofs.Walking.{ends, goes_on, handed_on, is_smaller, starts, stops_full, stops_large}
use Rattle.lk_mono.proofs.body.walk_all.Goals as goal

pub loop-alloc-init : goal.loop-alloc-init
loop-alloc-init c = ((λ others sound. starts _ _ _ _ _ c.new-bodies.ensures sound), c.requires.numbered, subst (Each (λ (b : Body). AreNumbered c.args.grounds.now b.uses)) (sym c.new-bodies.ensures) tt, same_table c.args.grounds.now)

pub walk-requires-clause-sound : goal.walk-requires-clause-sound
walk-requires-clause-sound c = (c.requires.sound.0, (c.loop-alloc.invariant.0 c.requires.sound.0 c.requires.sound.1).sound)

pub returns-in_err-body-clause-full : goal.returns-in_err-body-clause-full
returns-in_err-body-clause-full c same others sound =
    stops_full _ _ _ _ _ _ (c.loop-alloc.invariant.0 others sound) _ c.len-in-loop-alloc-2.ensures
    (c.in_err-body.ensures.full (handed_on _ _ _ (err_from_is_err_and c.from_residual.result c.from_residual.ensures.1) same) others)

pub returns-in_err-body-clause-large : goal.returns-in_err-body-clause-large
returns-in_err-body-clause-large c at same others sound =
    stops_large _ _ _ _ _ _ (c.loop-alloc.invariant.0 others sound) _ c.len-in-loop-alloc-2.ensures at
    (c.in_err-body.ensures.large at (handed_on _ _ _ (err_from_is_err_and c.from_residual.result c.from_residual.ensures.1) same) others)

pub loop-alloc-smaller : goal.loop-alloc-smaller
loop-alloc-smaller c =
    is_smaller _ _ _ _ _ _ (c.loop-alloc.invariant.0 c.requires.sound.0 c.requires.sound.1) _ _ c.in_ok-push.ensures.ok (omega (arith, c.loop-alloc-test.true, c.len.ensures, c.len-in-loop-alloc.ensures))

pub loop-alloc-preserved : goal.loop-alloc-preserved
loop-alloc-preserved c = (
  λ others sound. goes_on _ _ _ _ _ _ (c.loop-alloc.invariant.0 others sound) _ c.len-in-loop-alloc-2.ensures _ _ _ c.in_ok-push.ensures.ok (c.in_ok-body.ensures.walked others),
  c.in_ok-body.ensures.listed,
  subst (Each (λ (b : Body). AreNumbered c.walk.new.grounds b.uses)) (sym c.in_ok-push.ensures.ok)
      (one_more_body c.walk.new.grounds c.loop-alloc.bodies c.in_ok-body.body (bodies_still c.loop-alloc.grounds c.walk.new.grounds c.walk.ensures.more c.loop-alloc.bodies c.loop-alloc.invariant.2) c.in_ok-body.ensures.uses),
  grows_on c.args.grounds.now c.loop-alloc.grounds c.walk.new.grounds c.loop-alloc.invariant.3 c.walk.ensures.more,
)

pub returns-clause-walked : goal.returns-clause-walked
returns-clause-walked c others sound = ends _ _ _ _ _ _ (c.loop-alloc.invariant.0 others sound) (omega (arith, c.loop-alloc-test.false, c.len.ensures, c.len-in-loop-alloc.ensures))

pub walk-requires-clause-numbered : goal.walk-requires-clause-numbered
walk-requires-clause-numbered c = c.loop-alloc.invariant.1

pub returns-clause-listed : goal.returns-clause-listed
returns-clause-listed c = c.loop-alloc.invariant.1

pub returns-clause-uses : goal.returns-clause-uses
returns-clause-uses c = c.loop-alloc.invariant.2

pub returns-clause-more : goal.returns-clause-more
returns-clause-more c = c.loop-alloc.invariant.3
