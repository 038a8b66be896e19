use Rattle.std.proofs.Common.{◌+◌, ◌-◌, ◌/◌, ◌≤◌, length, arith}
use Rattle.lk_unify.proofs.Decided.{first_by, none_solved, some_unsolved}
use Rattle.lk_unify.proofs.Faults.{fewer_unsolved, more_unsolved}
use Rattle.lk_unify.proofs.ordered.search_fault.Goals as goal

pub halving-init : goal.halving-init
halving-init c = record {
  ordered = some_unsolved c.args.equations.now c.args.count c.requires.never;
  within = c.requires.within;
  solvable = none_solved c.args.equations.now;
  never = c.requires.never;
}

pub halving-preserved-in-None : goal.halving-preserved-in-None
halving-preserved-in-None c = record {
  ordered = omega (arith, c.halving.invariant.ordered, c.halving-test.true);
  within = c.halving.invariant.within;
  solvable = rw c.in-None.is at c.in_ok-found.ensures.solvable;
  never = c.halving.invariant.never;
}

pub halving-preserved : goal.halving-preserved
halving-preserved c =
    let within = c.halving.invariant.within in
    let apart = c.halving-test.true in
    let unsolved =
    fewer_unsolved c.args.equations.now (c.halving.low + (c.halving.high - c.halving.low) / 2) c.in-Some.fewer (omega arith)
    (rw c.in-Some.is at c.in_ok-found.ensures.within, rw c.in-Some.is at c.in_ok-found.ensures.never) in
    let few = unsolved.0 in
    record {
      ordered = more_unsolved c.args.equations.now c.halving.low c.in-Some.fewer c.halving.invariant.solvable unsolved.1;
      within = omega arith;
      solvable = c.halving.invariant.solvable;
      never = unsolved.1;
    }

pub halving-smaller : goal.halving-smaller
halving-smaller c =
    let within = c.halving.invariant.within in
    let apart = c.halving-test.true in
    let few =
    (fewer_unsolved c.args.equations.now (c.halving.low + (c.halving.high - c.halving.low) / 2) c.in-Some.fewer (omega arith)
    (rw c.in-Some.is at c.in_ok-found.ensures.within, rw c.in-Some.is at c.in_ok-found.ensures.never)).0 in
    omega arith

pub load_ordered-requires : goal.load_ordered-requires
load_ordered-requires c = c.halving.invariant.solvable

pub returns : goal.returns
returns c = record {
  first = first_by c.args.equations.now c.halving.low c.halving.high c.halving.invariant.ordered c.halving-test.false c.halving.invariant.within c.halving.invariant.solvable c.halving.invariant.never;
  before = c.in_ok-before.ensures;
}
