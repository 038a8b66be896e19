use Rattle.std.proofs.Common.{sym, ◌∙◌, arith}
use Rattle.lk_unify.proofs.SideTypes.{sides_as_many}
use Rattle.lk_unify.proofs.side_sizes.first_beyond.Goals as goal

pub first_unsure-requires-clause-nodes : goal.first_unsure-requires-clause-nodes
first_unsure-requires-clause-nodes c = (c.args.equations.now, c.requires.nodes)

pub first_unsure-requires-clause-sizings : goal.first_unsure-requires-clause-sizings
first_unsure-requires-clause-sizings c =
    c.requires.sizings ∙ sym (sides_as_many c.args.nodes.now.all.loader c.args.nodes.now.all.sides c.args.equations.now c.requires.nodes.loaded)

pub returns-in-None-clause-few : goal.returns-in-None-clause-few
returns-in-None-clause-few c = (rw c.in-None.is at c.in_ok-first_unsure.ensures.few) c.args.equations.now c.requires.nodes

pub search_beyond-requires-clause-bound : goal.search_beyond-requires-clause-bound
search_beyond-requires-clause-bound c =
    let bound = rw c.in-Some.is at c.in_ok-first_unsure.ensures.bound in
    let many = sides_as_many c.args.nodes.now.all.loader c.args.nodes.now.all.sides c.args.equations.now c.requires.nodes.loaded in
    omega arith

pub search_beyond-requires-clause-few : goal.search_beyond-requires-clause-few
search_beyond-requires-clause-few c = (rw c.in-Some.is at c.in_ok-first_unsure.ensures.before) c.args.equations.now c.requires.nodes
