use Rattle.std.proofs.Common.{arith, refl, sym, ap, subst, ◌∙◌, ◌≡◌, ◌+◌, List, ℕ, [], ◌∷◌, drop}
use Rattle.std.proofs.lemmas.List.{drop_all}
use Rattle.lk_lower.proofs.Following.{all_made, next_fun, none_followed, one_followed}
use Rattle.lk_lower.proofs.lowering.instances.Goals as goal
use Rattle.lk_lower.specs.Growing.{State}
use Rattle.lk_lower.specs.Instances.{FollowFuns, IsMade, beginning, made_of}
use Rattle.lk_lower.specs.Once.{StandOnce}
use Rattle.lk_lower.specs.Walked.{state_of}
use Rattle.lk_lower.specs.declared.lowering.Made.{Made}

pub loop-fun-init : goal.loop-fun-init
loop-fun-init c = (
  subst (λ (s : State). FollowFuns c.args.funs.now 0 s c.new-wholes.result c.new-titles.result) (sym c.in_ok-walk.ensures)
      (subst (λ ws. FollowFuns c.args.funs.now 0 (beginning c.args.locals.now) ws c.new-titles.result) (sym c.new-wholes.ensures)
      (subst (λ ts. FollowFuns c.args.funs.now 0 (beginning c.args.locals.now) [] ts) (sym c.new-titles.ensures) (none_followed c.args.funs.now c.args.locals.now))),
  ap (λ (s : State). s.locals) c.in_ok-walk.ensures,
  refl,
  omega arith,
)

pub loop-fun-preserved : goal.loop-fun-preserved
loop-fun-preserved c = (
  subst (λ (k : ℕ). FollowFuns c.args.funs.now k (state_of c.lower_fun.new.walk) c.note_fun.new.wholes c.note_fun.new.titles) (sym c.in_ok-number.ensures.next)
      (one_followed c.args.funs.now c.loop-fun.number (state_of c.loop-fun.walk) (state_of c.lower_fun.new.walk) c.loop-fun.wholes c.note_fun.new.wholes c.loop-fun.titles c.note_fun.new.titles c.fun-item.result (state_of c.loop-fun.walk).pending.label c.loop-fun.invariant.0
      (subst (λ (k : ℕ). drop k c.args.funs.now ≡ c.fun-item.result ∷ drop (k + 1) c.args.funs.now) (sym c.loop-fun.invariant.2) (next_fun c.args.funs.now c.loop-fun.fun-index c.fun-item.result c.loop-fun-test.true c.fun-item.is))
      c.in_ok-lower_fun.ensures refl c.in_ok-note_fun.ensures.wholes c.in_ok-note_fun.ensures.titles),
  c.in_ok-lower_fun.ensures.grows.locals ∙ c.loop-fun.invariant.1,
  c.in_ok-number.ensures.next ∙ ap (λ (k : ℕ). k + 1) c.loop-fun.invariant.2,
  c.in_ok-number.ensures.few,
)

pub returns : goal.returns
returns c =
    let s = state_of c.loop-fun.walk in
    subst (IsMade c.args.funs.now c.args.locals.now) (sym c.finish.ensures.are)
    (subst (λ (ls : List (List ℕ)). IsMade c.args.funs.now ls (made_of s c.loop-fun.wholes c.loop-fun.titles)) c.loop-fun.invariant.1
    (all_made c.args.funs.now c.loop-fun.number s c.loop-fun.wholes c.loop-fun.titles c.loop-fun.invariant.0
    (ap (λ (k : ℕ). drop k c.args.funs.now) c.loop-fun.invariant.2 ∙ drop_all c.loop-fun.fun-index c.args.funs.now c.loop-fun-test.false)
    c.loop-fun.invariant.3 refl refl (subst (λ (made : Made). StandOnce made.types made.tables) c.finish.ensures.are c.finish.ensures.distinct)))
