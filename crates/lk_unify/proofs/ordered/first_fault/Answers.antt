use Rattle.std.proofs.Common.{◌-◌, ◌≤◌, length, arith}
use Rattle.lk_unify.proofs.Decided.{first_by, some_unsolved}
use Rattle.lk_unify.proofs.Faults.{fewer_unsolved}
use Rattle.lk_unify.proofs.ordered.first_fault.Goals as goal

pub overflow_sub-number : goal.overflow_sub-number
overflow_sub-number c =
    let some = some_unsolved c.args.equations.now c.args.count c.requires.never in
    omega (arith, some)

pub returns-in-Solved : goal.returns-in-Solved
returns-in-Solved c =
    let some = some_unsolved c.args.equations.now c.args.count c.requires.never in
    let before = rw c.in-Solved.is at c.in_ok-before.ensures in
    record {
      first = first_by c.args.equations.now (c.args.count - 1) c.args.count (omega (arith, some)) (omega (arith, some)) c.requires.within before.solution c.requires.never;
      before = before;
    }

pub search_fault-requires-clause-within : goal.search_fault-requires-clause-within
search_fault-requires-clause-within c =
    let within = c.requires.within in
    let few = (fewer_unsolved c.args.equations.now (c.args.count - 1) c.in-Unsolved.fewer (omega arith) (rw c.in-Unsolved.is at c.in_ok-before.ensures)).0 in
    omega arith

pub search_fault-requires-clause-never : goal.search_fault-requires-clause-never
search_fault-requires-clause-never c =
    let within = c.requires.within in
    (fewer_unsolved c.args.equations.now (c.args.count - 1) c.in-Unsolved.fewer (omega arith) (rw c.in-Unsolved.is at c.in_ok-before.ensures)).1
