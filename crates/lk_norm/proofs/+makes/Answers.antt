use Rattle.std.proofs.Common.{ℕ, ◌+◌, length, ap, subst, sym, ◌∙◌}
use Rattle.std.proofs.lemmas.Result.{err_from_is_err_and}
use Rattle.lk_query.specs.Order.{bind}
use Rattle.lk_norm.specs.Made.{Makes}
use Rattle.lk_norm.specs.Normal.{Branch, as_row, branch, norm_level, norms, outputs, scalar_in}
use Rattle.lk_norm.specs.Scopes.{base_in, names_in, row_in}
use Rattle.lk_norm.proofs.Making.{choice_in, extended_in}
use Rattle.std.specs.List.{flat_map}
use Rattle.lk_norm.specs.Walks.{Adds, branches_at, froms_in, items_at, tests_in, then_at, then_in}
use Rattle.lk_norm.proofs.Walking.{adds_nothing, adds_stopped, flat_flat, items_kept, items_stop, none_there}
use Rattle.lk_norm.proofs.+makes.Goals as goal

pub scalars::cell_of-returns-in-IfRow : goal.scalars::cell_of-returns-in-IfRow
scalars::cell_of-returns-in-IfRow t c =
    let parts = c.args.here.now.over.now in
    subst (λ s. Makes c.choice_cell.result c.choice_cell.new.left s c.args.left.now)
    (sym (ap (λ x. scalar_in ((norm_level (norms parts) c.args.at x (names_in parts c.args.here.now.scope.now)).row c.args.here.now.count) c.args.label.now) c.in-IfRow.is
    ∙ choice_in (base_in parts c.in-IfRow.c c.args.here.now.count c.args.here.now.scope.now) (row_in parts c.in-IfRow.a c.args.here.now.count c.args.here.now.scope.now) (row_in parts c.in-IfRow.b c.args.here.now.count c.args.here.now.scope.now) c.in-IfRow.labels c.args.label.now))
    c.choice_cell.ensures

pub scalars::cell_of-returns-in-Extend : goal.scalars::cell_of-returns-in-Extend
scalars::cell_of-returns-in-Extend t c =
    let parts = c.args.here.now.over.now in
    subst (λ s. Makes c.labelled_cell.result c.labelled_cell.new.left s c.args.left.now)
    (sym (ap (λ x. scalar_in ((norm_level (norms parts) c.args.at x (names_in parts c.args.here.now.scope.now)).row c.args.here.now.count) c.args.label.now) c.in-Extend.is
    ∙ extended_in (outputs (norms parts) c.in-Extend.items (names_in parts c.args.here.now.scope.now) c.args.here.now.count) (row_in parts c.in-Extend.rest c.args.here.now.count c.args.here.now.scope.now) c.in-Extend.labels c.args.label.now))
    c.labelled_cell.ensures

pub walk::walk-returns-then-count-eq0 : goal.walk::walk-returns-then-count-eq0
walk::walk-returns-then-count-eq0 t c =
    let parts = c.args.over.now in
    let place = c.args.place.now in
    adds_nothing (then_at parts place) (branches_at parts c.args.at place c.args.scope.now) c.args.selects.now c.args.left.now
    (none_there parts c.args.at c.args.scope.now place.outer (froms_in place.froms.now) (tests_in parts place.tests.now) (sym c.count.ensures ∙ c.if-count-eq0.true))

pub walk::add_items-returns-in_err-add : goal.walk::add_items-returns-in_err-add
walk::add_items-returns-in_err-add t c =
    let parts = c.args.over.now in
    let place = c.args.place.now in
    let items = c.args.items.now in
    let h : ℕ → ℕ → Branch = λ count item. branch (froms_in place.froms.now) (tests_in parts place.tests.now) (row_in parts item count c.args.scope.now) in
    adds_stopped c.from_residual-in_err-add.result c.in_err-add.field-0.0 c.args.selects.now c.add.new.selects (flat_map (then_at parts place) (items_at parts items place c.args.scope.now)) c.add.new.left c.args.left.now
    (err_from_is_err_and c.from_residual-in_err-add.result c.from_residual-in_err-add.ensures.1)
    (items_stop (then_at parts place) h c.in_ok-count.count (place.outer + length (froms_in place.froms.now)) items c.loop-item.item-index c.loop-item-test.true c.in_ok-count.ensures c.in_err-add.field-0.0 c.args.left.now c.loop-item.left c.loop-item.invariant.1 c.in_err-add.ensures)

pub walk::add_items-loop-item-preserved : goal.walk::add_items-loop-item-preserved
walk::add_items-loop-item-preserved t c =
    let parts = c.args.over.now in
    let place = c.args.place.now in
    let items = c.args.items.now in
    let h : ℕ → ℕ → Branch = λ count item. branch (froms_in place.froms.now) (tests_in parts place.tests.now) (row_in parts item count c.args.scope.now) in
    let made = c.in_ok-add.ensures in
    items_kept (then_at parts place) h c.in_ok-count.count (place.outer + length (froms_in place.froms.now)) items c.loop-item.item-index c.loop-item-test.true c.in_ok-count.ensures
    c.args.selects.now c.loop-item.selects c.add.new.selects c.args.left.now c.loop-item.left c.add.new.left c.loop-item.invariant.0 c.loop-item.invariant.1 made.0 made.1

pub walk::each-returns : goal.walk::each-returns
unfolding then_in
walk::each-returns t c =
    let parts = c.args.over.now in
    let place = c.args.place.now in
    let names = names_in parts c.args.scope.now in
    let is = flat_flat (then_at parts place) (λ b. (norms parts c.args.body (bind c.args.x (as_row (λ n. b.outs)) names)).list place.outer b.froms b.cond) ((norms parts c.args.list names).list place.outer (froms_in place.froms.now) (tests_in parts place.tests.now)) in
    subst (λ ss. Adds c.walk.result c.args.selects.now c.walk.new.selects c.walk.new.left ss c.args.left.now) (sym is) c.walk.ensures
