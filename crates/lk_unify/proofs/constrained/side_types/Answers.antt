use Rattle.std.proofs.Common.{sym, arith}
use Rattle.std.proofs.Common.{◌≡◌, length, ap}
use Rattle.std.proofs.lemmas.List.{length-take-le}
use Rattle.std.proofs.lemmas.Result.{IfOk-weaker}
use Rattle.lk_unify.proofs.SideTypes.{first_can, first_in_order, read_first}
use Rattle.lk_unify.proofs.constrained.side_types.Goals as goal
use Rattle.lk_unify.specs.Reading.{name_in}

pub numbers_for-requires : goal.numbers_for-requires
numbers_for-requires c = c.requires.nodes.1.loaded.says.whole

pub read_levels-requires : goal.read_levels-requires
read_levels-requires c =
    let nodes = c.args.nodes.now in
    let are = c.requires.nodes.1 in
    rw (c.as_slice.ensures.value, c.as_slice-2.ensures.value, c.as_slice-sides.ensures)
    (first_can nodes.all.loader nodes.all.sides c.requires.nodes.0 are.loaded c.args.count c.in_ok-numbers.numbers.items nodes.order.items c.in_ok-numbers.ensures.count are.order)

pub slice_bounds-read_levels-end : goal.slice_bounds-read_levels-end
slice_bounds-read_levels-end c =
    let same : length c.as_slice-sides.result.now ≡ length c.args.nodes.now.all.sides = ap length c.as_slice-sides.ensures in
    let within = c.requires.count in
    sym (length-take-le c.args.count c.as_slice-sides.result.now (omega arith))

pub returns-clause-sides : goal.returns-clause-sides
returns-clause-sides c =
    let nodes = c.args.nodes.now in
    IfOk-weaker c.read_levels.result _ _
    (λ types is es are. read_first nodes.all.loader nodes.all.sides es are.loaded c.args.count (name_in c.in_ok-numbers.numbers.items) types are.solution c.in_ok-numbers.ensures.naming is)
    (rw (c.as_slice.ensures.value, c.as_slice-sides.ensures) at c.read_levels.ensures)

pub returns-clause-in_order : goal.returns-clause-in_order
returns-clause-in_order c =
    let nodes = c.args.nodes.now in
    let are = c.requires.nodes.1 in
    IfOk-weaker c.read_levels.result _ _
    (λ types. first_in_order nodes.all.loader nodes.all.sides c.requires.nodes.0 are.loaded c.args.count (name_in c.in_ok-numbers.numbers.items) types are.solution c.in_ok-numbers.ensures.naming)
    (rw (c.as_slice.ensures.value, c.as_slice-sides.ensures) at c.read_levels.ensures)
