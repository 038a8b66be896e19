use Rattle.std.proofs.Common.{refl, subst}
use Rattle.lk_unify.proofs.Solving.{adds_equation, never_same}
use Rattle.lk_unify.proofs.solvable.add_equation.Goals as goal
use Rattle.lk_unify.specs.Loading.{LoadedEquation}

pub returns-in_default-clause-never : goal.returns-in_default-clause-never
returns-in_default-clause-never c v ρ fits agrees met =
    (subst (λ o. LoadedEquation c.args.loader.now c.load_equation.new.loader c.args.equation.now o) c.in_default.is c.in_ok-pair.ensures) ρ met

pub returns-then-branch-clause-added : goal.returns-then-branch-clause-added
returns-then-branch-clause-added c =
    adds_equation c.args.loader.now c.load_equation.new.loader c.args.equation.now c.in-Some.pair
    (subst (λ o. LoadedEquation c.args.loader.now c.load_equation.new.loader c.args.equation.now o) c.in-Some.is c.in_ok-pair.ensures)
    (record { arena = c.merge_nodes.new.arena; names = c.load_equation.new.loader.names; made = c.load_equation.new.loader.made; closed = c.load_equation.new.loader.closed }) refl refl (c.in_ok-merge_nodes.ensures.merged c.if-branch.true)

pub returns-clause-never : goal.returns-clause-never
returns-clause-never c =
    never_same c.args.loader.now c.load_equation.new.loader c.args.equation.now c.in-Some.pair
    (subst (λ o. LoadedEquation c.args.loader.now c.load_equation.new.loader c.args.equation.now o) c.in-Some.is c.in_ok-pair.ensures)
    (c.in_ok-merge_nodes.ensures.never c.if-branch.false)
