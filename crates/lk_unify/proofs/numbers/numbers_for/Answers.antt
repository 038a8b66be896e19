use Rattle.std.proofs.Common.{◌≡◌, ◌+◌, ◌∷◌, ◌++◌, [], sym, ◌∙◌, ap, arith}
use Rattle.lk_unify.proofs.Numbering.{numbered_other, numbered_more, its_naming}
use Rattle.lk_unify.proofs.numbers.numbers_for.Goals as goal
use Rattle.lk_unify.proofs.numbers.numbers_for.Goals.{then-is_own+in_ok-number+in-Some+in_ok-push, else-is_own+in_ok-push-2}

pub loop-node-preserved : goal.loop-node-preserved
loop-node-preserved c =
    elim c.if-is_own.branch [
      | then-is_own+in_ok-number+in-Some+in_ok-push w ↦
          let items : c.if-is_own.numbers.items ≡ c.loop-node.numbers.items ++ w.in_ok-number.number ∷ [] = ap (λ v. v.items) w.numbers-is ∙ w.in_ok-push.ensures.items in
          let next : c.if-is_own.next ≡ w.in_ok-number.number + 1 = w.next-is ∙ w.in-Some.ensures.1 in
          rw (items, next)
          (numbered_more c.args.loader.now c.loop-node.numbers.items c.loop-node.node c.loop-node.next c.loop-node.invariant w.in_ok-number.number
          w.in_ok-number.ensures.from w.in_ok-number.ensures.unused)
      | else-is_own+in_ok-push-2 w ↦
          let items : c.if-is_own.numbers.items ≡ c.loop-node.numbers.items ++ 0 ∷ [] = ap (λ v. v.items) w.numbers-is ∙ w.in_ok-push-2.ensures.items in
          rw (items, w.next-is)
          (numbered_other c.args.loader.now c.loop-node.numbers.items c.loop-node.node c.loop-node.next c.loop-node.invariant 0 (sym c.is_own.ensures ∙ w.if-is_own.false))
    ]

pub returns-clause-naming : goal.returns-clause-naming
returns-clause-naming c kind kinded =
    let a = c.loop-node-test.false in
    let b = c.loop-node.auto.node-end in
    let e = c.len-node-end.ensures in
    its_naming c.args.loader.now c.loop-node.numbers.items c.loop-node.node c.loop-node.next c.loop-node.invariant (omega arith) kind
