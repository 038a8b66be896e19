use Rattle.std.proofs.lemmas.Result.{IfOk-weaker}
use Rattle.lk_arena.proofs.Placed.{places}
use Rattle.lk_unify.proofs.ReadSolution.{read_in_order, read_only, read_solution}
use Rattle.lk_unify.proofs.unifying.solution.Goals as goal
use Rattle.lk_unify.specs.Reading.{name_in}

pub read_all-requires-clause-ranks : goal.read_all-requires-clause-ranks
read_all-requires-clause-ranks c =
    rw (c.len.ensures, c.args.nodes.now.order.ok.0)
    (places c.args.nodes.now.all.loader.arena.shapes c.args.nodes.now.all.loader.arena.classes c.args.nodes.now.order.items c.requires.loaded.says.whole.arena
    c.requires.order)

pub returns-clause-solution : goal.returns-clause-solution
returns-clause-solution c =
    IfOk-weaker c.read_all.result _ _
    (λ s is. read_solution c.args.nodes.now.all.loader c.args.nodes.now.all.sides c.args.equations.now (name_in c.in_ok-numbers.numbers.items) c.in_ok-variables.variables s
    c.requires.loaded c.requires.solution c.in_ok-numbers.ensures.naming is c.in_ok-variables.ensures.all)
    (rw (c.as_slice.ensures, c.as_slice-2.ensures.value) at c.read_all.ensures)

pub returns-clause-only : goal.returns-clause-only
returns-clause-only c =
    IfOk-weaker c.read_all.result _ _
    (λ s is. read_only c.args.nodes.now.all.loader c.args.nodes.now.all.sides c.args.equations.now (name_in c.in_ok-numbers.numbers.items) c.in_ok-variables.variables s
    c.requires.loaded c.requires.solution c.in_ok-numbers.ensures.naming is c.in_ok-variables.ensures.only)
    (rw (c.as_slice.ensures, c.as_slice-2.ensures.value) at c.read_all.ensures)

pub returns-clause-in_order : goal.returns-clause-in_order
returns-clause-in_order c =
    IfOk-weaker c.read_all.result _ _
    (λ s. read_in_order c.args.nodes.now.all.loader c.args.nodes.now.all.sides c.args.equations.now (name_in c.in_ok-numbers.numbers.items) c.in_ok-variables.variables s
    c.requires.loaded c.requires.solution c.in_ok-numbers.ensures.naming)
    (rw (c.as_slice.ensures, c.as_slice-2.ensures.value) at c.read_all.ensures)
