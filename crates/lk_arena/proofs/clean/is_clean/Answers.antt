use Rattle.std.proofs.Common.{◌≡◌, ◌<◌, ⊎_elim, false, sym, ◌∙◌, subst, arith}
use Rattle.std.proofs.lemmas.Bool.{cases_eq}
use Rattle.std.proofs.lemmas.List.{get_or_read}
use Rattle.lk_arena.proofs.Ways.{distinct_clean}
use Rattle.lk_arena.proofs.clean.is_clean.Goals as goal
use Rattle.lk_arena.proofs.clean.is_clean.Goals.{else-not-index-via-then-not-index+in_ok-is_clean_at+else-not-branch, else-not-index-via-else-not-index}
use Rattle.lk_arena.specs.Shapes.{IsCleanAt}

pub returns-then-not-branch-clause-never : goal.returns-then-not-branch-clause-never
returns-then-not-branch-clause-never c _ = c.in_ok-is_clean_at.ensures.never c.if-not-branch.true

pub loop-i-preserved : goal.loop-i-preserved
loop-i-preserved c k below =
    ⊎_elim (λ (is : k ≡ c.loop-i.i). subst (IsCleanAt c.args.arena.now.shapes c.args.arena.now.classes) (sym is)
    (elim c.else-not-index.branch [
      | else-not-index-via-then-not-index+in_ok-is_clean_at+else-not-branch w ↦ w.in_ok-is_clean_at.ensures.clean w.if-not-branch.false
      | else-not-index-via-else-not-index w ↦ distinct_clean c.args.arena.now.shapes c.args.arena.now.classes c.requires c.loop-i.i (c.in_ok-marks.ensures.ways c.loop-i.i (sym (get_or_read c.in_ok-marks.marks.items c.loop-i.i c.index.result.now (let n = c.in_ok-marks.ensures.count in let l = c.loop-i-test.true in let e = c.len-i-end.ensures in omega arith) c.index.ensures false) ∙ w.if-not-index.false))
    ]))
    (λ (ne : k ≡ c.loop-i.i → ⊥). c.loop-i.invariant k (omega arith)) (cases_eq k c.loop-i.i)
