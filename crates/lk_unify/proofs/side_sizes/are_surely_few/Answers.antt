use Rattle.std.proofs.Common.{sym, ◌∙◌}
use Rattle.lk_unify.proofs.FineFirsts.{where_none}
use Rattle.lk_unify.proofs.SideTypes.{sides_as_many}
use Rattle.lk_unify.proofs.side_sizes.are_surely_few.Goals as goal

pub first_unsure-requires-clause-nodes : goal.first_unsure-requires-clause-nodes
first_unsure-requires-clause-nodes c = (c.args.equations.now, c.in_ok-nodes.ensures)

pub first_unsure-requires-clause-sizings : goal.first_unsure-requires-clause-sizings
first_unsure-requires-clause-sizings c =
    c.requires.sizings ∙ sym (sides_as_many c.in_ok-nodes.nodes.all.loader c.in_ok-nodes.nodes.all.sides c.args.equations.now c.in_ok-nodes.ensures.loaded)

pub returns : goal.returns
returns c is = where_none c.in_ok-found.found c.is_none.result c.is_none.ensures is c.in_ok-found.ensures.few c.args.equations.now c.in_ok-nodes.ensures
