use Rattle.std.proofs.Common.{◌+◌, sym, ◌∙◌, arith}
use Rattle.std.proofs.lemmas.List.{length-take-le}
use Rattle.lk_unify.proofs.FineFirsts.{all_are_few, first_many, one_more_few}
use Rattle.lk_unify.proofs.Loadeds.{loaded_never, loaded_side}
use Rattle.lk_unify.proofs.SideTypes.{sides_so_many}
use Rattle.lk_unify.proofs.Within.{loaded_values, side_nodes}
use Rattle.lk_unify.proofs.side_sizes.search_beyond.Goals as goal
use Rattle.lk_unify.specs.Solving.{AreLoaded}
use Rattle.lk_unify.specs.declared.constraint.Sizing.TheVariants.{Always}

pub loop-k-init : goal.loop-k-init
loop-k-init c = record { few = c.in_ok-start.ensures.few; loaded = c.in_ok-all.ensures }

pub unreachable-requires : goal.unreachable-requires
unreachable-requires c =
    loaded_never c.loop-k.all.loader c.loop-k.all.sides c.args.equations.now c.loop-k.k c.index-equations-k.result c.loop-k-test.true c.index-equations-k.is c.loop-k.invariant.loaded
    (c.in_ok-load_next.ensures.never c.if-not-branch.true) c.requires.solution

-- the equation is loaded
next : (c : goal.After-all-in-loop-k-2-1) → AreLoaded c.load_next.new.all.loader c.load_next.new.all.sides c.args.equations.now (c.loop-k.k + 1)
next c =
    loaded_side c.loop-k.all c.load_next.new.all c.args.equations.now c.loop-k.k c.index-equations-k.result c.loop-k-test.true c.index-equations-k.is c.loop-k.invariant.loaded
    (c.in_ok-load_next.ensures.added c.if-not-branch.false)

pub are_within-requires-clause-whole : goal.are_within-requires-clause-whole
are_within-requires-clause-whole c = (next c).says.whole

pub are_within-requires-clause-values : goal.are_within-requires-clause-values
are_within-requires-clause-values c = loaded_values c.load_next.new.all.loader c.load_next.new.all.sides c.args.equations.now (c.loop-k.k + 1) (next c) c.requires.solution

pub are_within-requires-clause-sides : goal.are_within-requires-clause-sides
are_within-requires-clause-sides c =
    let below = c.loop-k-test.true in
    side_nodes c.load_next.new.all.loader c.load_next.new.all.sides c.args.equations.now (c.loop-k.k + 1) (omega arith) (next c)

pub are_within-requires-clause-sizings : goal.are_within-requires-clause-sizings
are_within-requires-clause-sizings c =
    let below = c.loop-k-test.true in
    let many = c.requires.sizings in
    length-take-le (c.loop-k.k + 1) c.args.sizings.now (omega arith) ∙
    sym (sides_so_many c.load_next.new.all.loader c.load_next.new.all.sides c.args.equations.now (c.loop-k.k + 1) (omega arith) (next c))

pub returns-then-not-branch-2-clause-first : goal.returns-then-not-branch-2-clause-first
returns-then-not-branch-2-clause-first c =
    let loaded =
    loaded_side c.loop-k.all c.load_next.new.all c.args.equations.now c.loop-k.k c.index-equations-k.result c.loop-k-test.true c.index-equations-k.is c.loop-k.invariant.loaded
    (c.in_ok-load_next.ensures.added c.if-not-branch.false) in
    first_many c.args.equations.now c.args.sizings.now c.requires.sizings c.loop-k.k c.loop-k-test.true c.requires.solution c.loop-k.invariant.few Always c.load_next.new.all loaded
    (rw c.is_late-late.ensures at (c.in_ok-are_within.ensures.beyond c.if-not-branch-2.true))

pub loop-k-preserved : goal.loop-k-preserved
loop-k-preserved c =
    let loaded =
    loaded_side c.loop-k.all c.load_next.new.all c.args.equations.now c.loop-k.k c.index-equations-k.result c.loop-k-test.true c.index-equations-k.is c.loop-k.invariant.loaded
    (c.in_ok-load_next.ensures.added c.if-not-branch.false) in
    record {
      few =
          one_more_few c.args.equations.now c.args.sizings.now c.requires.sizings c.loop-k.k c.loop-k-test.true c.requires.solution c.loop-k.invariant.few Always c.load_next.new.all loaded
          (rw c.is_late-late.ensures at (c.in_ok-are_within.ensures.within c.if-not-branch-2.false));
      loaded = loaded;
    }

pub returns-clause-few : goal.returns-clause-few
returns-clause-few c = all_are_few c.args.equations.now c.args.sizings.now c.requires.sizings c.loop-k.k c.loop-k-test.false c.loop-k.invariant.few
