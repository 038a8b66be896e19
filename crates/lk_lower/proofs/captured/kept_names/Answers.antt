use Rattle.std.proofs.Common.{sym, subst, [], take, take_all}
use Rattle.lk_bodies.specs.CapturedSeen.{typed}
use Rattle.lk_index.specs.Free.{texts}
use Rattle.lk_lower.proofs.Naming.{captures_more, captures_none, texts_more}
use Rattle.lk_lower.proofs.Shaping.{learns_itself, learns_then}
use Rattle.lk_lower.proofs.captured.kept_names.Goals as goal
use Rattle.lk_lower.specs.Steps.{Captures}
use Rattle.lk_lower.specs.Walked.{state_of}

pub loop-name-init : goal.loop-name-init
loop-name-init c = (subst (Captures [] (typed c.args.types.now) (state_of c.args.walk.now)) (sym c.new-kept.ensures) (captures_none (typed c.args.types.now) (state_of c.args.walk.now)), learns_itself (state_of c.args.walk.now))

pub loop-name-preserved : goal.loop-name-preserved
loop-name-preserved c = (
  captures_more (typed c.args.types.now) (state_of c.loop-name.walk) (state_of c.kept_name.new.walk) (texts (take c.loop-name.name-index c.args.names.now)) _ c.loop-name.kept c.push.new.self _ _ c.loop-name.invariant.0 c.in_ok-kept_name.ensures.state c.in_ok-kept_name.ensures.kept
      (texts_more c.args.names.now c.loop-name.name-index _ c.loop-name-test.true) c.in_ok-push.ensures.ok,
  learns_then (state_of c.args.walk.now) (state_of c.loop-name.walk) (state_of c.kept_name.new.walk) c.loop-name.invariant.1 c.in_ok-kept_name.ensures.state,
)

pub returns-clause-kept : goal.returns-clause-kept
returns-clause-kept c = subst (λ names. Captures (texts names) (typed c.args.types.now) (state_of c.loop-name.walk) c.loop-name.kept) (take_all c.loop-name.name-index c.args.names.now c.loop-name-test.false) c.loop-name.invariant.0
