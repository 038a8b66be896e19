use Rattle.std.proofs.Common.{◌≡◌, ℕ, ◌+◌, ◌*◌, ◌++◌, List, drop}
use Rattle.lk_sql.specs.declared.tree.Out.{Out}
use Rattle.lk_sql.specs.declared.tree.Scalar.TheVariants as scalars
use Rattle.lk_query.specs.declared.part.Labelled.{Labelled}
use Rattle.lk_sql.specs.declared.tree.Select.{Select}
use Rattle.lk_norm.specs.Walks.{all_paid, items_at, labelled, outs_paid, then_at}
use Rattle.std.specs.List.{flat_map}
use Rattle.lk_norm.specs.Made.{more_paid}
use Rattle.lk_norm.specs.Normal.{equal_from, norms, outputs, scalar_in, scalar_or}
use Rattle.lk_norm.specs.Scopes.{base_in, names_in, row_in}
use Rattle.lk_norm.proofs.+makes.Given as goal

-- each part has less room than what it stands in
abbrev level : ℕ → ℕ
level room = room * 8

abbrev pub decreases-scalars::scalar : goal.decreases-scalars::scalar
decreases-scalars::scalar l = level l.room

abbrev pub decreases-scalars::cell : goal.decreases-scalars::cell
decreases-scalars::cell l = level l.room

abbrev pub decreases-scalars::equal_at : goal.decreases-scalars::equal_at
decreases-scalars::equal_at l = level l.room + 1

abbrev pub decreases-scalars::equal_rows : goal.decreases-scalars::equal_rows
decreases-scalars::equal_rows l = level l.room + 3

abbrev pub decreases-scalars::more_equal : goal.decreases-scalars::more_equal
decreases-scalars::more_equal l = level l.room + 2

abbrev pub decreases-scalars::choice_cell : goal.decreases-scalars::choice_cell
decreases-scalars::choice_cell l = level l.room + 2

abbrev pub decreases-scalars::labelled_cell : goal.decreases-scalars::labelled_cell
decreases-scalars::labelled_cell l = level l.room + 2

abbrev pub decreases-scalars::item_cell : goal.decreases-scalars::item_cell
decreases-scalars::item_cell l = level l.room + 1

abbrev pub decreases-scalars::extended_cell : goal.decreases-scalars::extended_cell
decreases-scalars::extended_cell l = level l.room + 1

abbrev pub decreases-scalars::bound_cell : goal.decreases-scalars::bound_cell
decreases-scalars::bound_cell l = level l.room + 1

abbrev pub decreases-scalars::cell_of : goal.decreases-scalars::cell_of
decreases-scalars::cell_of l = level l.room + 6

abbrev pub decreases-scalars::base : goal.decreases-scalars::base
decreases-scalars::base l = level l.room + 7

abbrev pub decreases-scalars::base_choice : goal.decreases-scalars::base_choice
decreases-scalars::base_choice l = level l.room + 1

abbrev pub decreases-scalars::one_base : goal.decreases-scalars::one_base
decreases-scalars::one_base l = level l.room + 1

abbrev pub decreases-scalars::two_bases : goal.decreases-scalars::two_bases
decreases-scalars::two_bases l = level l.room + 1

abbrev pub invariant-scalars::item_cell-loop-item : goal.invariant-scalars::item_cell-loop-item
invariant-scalars::item_cell-loop-item l =
    (scalar_in (outputs (norms l.here.over.now) (drop l.item-index l.items) (names_in l.here.over.now l.here.scope.now) l.here.count) l.label ≡ scalar_in (outputs (norms l.here.over.now) l.items (names_in l.here.over.now l.here.scope.now) l.here.count) l.label)
    × (l.left ≡ l.initial.left)

abbrev pub invariant-scalars::extended_cell-loop-item : goal.invariant-scalars::extended_cell-loop-item
invariant-scalars::extended_cell-loop-item l =
    (scalar_or (outputs (norms l.here.over.now) (drop l.item-index l.items) (names_in l.here.over.now l.here.scope.now) l.here.count) (row_in l.here.over.now l.rest l.here.count l.here.scope.now) l.label
    ≡ scalar_or (outputs (norms l.here.over.now) l.items (names_in l.here.over.now l.here.scope.now) l.here.count) (row_in l.here.over.now l.rest l.here.count l.here.scope.now) l.label)
    × (l.left ≡ l.initial.left)

abbrev pub invariant-scalars::more_equal-loop-label : goal.invariant-scalars::more_equal-loop-label
invariant-scalars::more_equal-loop-label l =
    (equal_from l.so_far (row_in l.here.over.now l.a l.here.count l.here.scope.now) (row_in l.here.over.now l.b l.here.count l.here.scope.now) (drop l.label-index l.labels) ≡ equal_from l.fn.first (row_in l.here.over.now l.a l.here.count l.here.scope.now) (row_in l.here.over.now l.b l.here.count l.here.scope.now) l.labels)
    × (more_paid (row_in l.here.over.now l.a l.here.count l.here.scope.now) (row_in l.here.over.now l.b l.here.count l.here.scope.now) (drop l.label-index l.labels) l.left ≡ more_paid (row_in l.here.over.now l.a l.here.count l.here.scope.now) (row_in l.here.over.now l.b l.here.count l.here.scope.now) l.labels l.fn.left)

abbrev pub decreases-scalars::choice : goal.decreases-scalars::choice
decreases-scalars::choice l = level l.room + 1

-- ---- rows

abbrev pub decreases-rows::outs : goal.decreases-rows::outs
decreases-rows::outs l = level l.room + 1

abbrev pub decreases-rows::part_outs : goal.decreases-rows::part_outs
decreases-rows::part_outs l = level l.room

abbrev pub decreases-rows::outs_of : goal.decreases-rows::outs_of
decreases-rows::outs_of l = level l.room + 7

abbrev pub decreases-rows::bound_outs : goal.decreases-rows::bound_outs
decreases-rows::bound_outs l = level l.room + 1

abbrev pub decreases-rows::record_outs : goal.decreases-rows::record_outs
decreases-rows::record_outs l = level l.room + 1

abbrev pub decreases-rows::choice_outs : goal.decreases-rows::choice_outs
decreases-rows::choice_outs l = level l.room + 2

abbrev pub decreases-rows::extended_outs : goal.decreases-rows::extended_outs
decreases-rows::extended_outs l = level l.room + 2

abbrev pub invariant-rows::record_outs-loop-item : goal.invariant-rows::record_outs-loop-item
invariant-rows::record_outs-loop-item l =
    let f : List Labelled → List Out = λ items. outputs (norms l.here.over.now) items (names_in l.here.over.now l.here.scope.now) l.here.count in
    (l.list ++ f (drop l.item-index l.items) ≡ f l.items) × (outs_paid (f (drop l.item-index l.items)) l.left ≡ outs_paid (f l.items) l.fn.left)

abbrev pub invariant-rows::choice_outs-loop-label : goal.invariant-rows::choice_outs-loop-label
invariant-rows::choice_outs-loop-label l =
    let f : List (List ℕ) → List Out = labelled (λ label. scalars.Case (base_in l.here.over.now l.c l.here.count l.here.scope.now) (scalar_in (row_in l.here.over.now l.a l.here.count l.here.scope.now) label) (scalar_in (row_in l.here.over.now l.b l.here.count l.here.scope.now) label)) in
    (l.list ++ f (drop l.label-index l.labels) ≡ f l.labels) × (outs_paid (f (drop l.label-index l.labels)) l.left ≡ outs_paid (f l.labels) l.fn.left)

abbrev pub invariant-rows::extended_outs-loop-label : goal.invariant-rows::extended_outs-loop-label
invariant-rows::extended_outs-loop-label l =
    let f : List (List ℕ) → List Out = labelled (λ label. scalar_or (outputs (norms l.here.over.now) l.items (names_in l.here.over.now l.here.scope.now) l.here.count) (row_in l.here.over.now l.rest l.here.count l.here.scope.now) label) in
    (l.list ++ f (drop l.label-index l.labels) ≡ f l.labels) × (outs_paid (f (drop l.label-index l.labels)) l.left ≡ outs_paid (f l.labels) l.fn.left)

-- ---- selects

abbrev pub decreases-selects::select : goal.decreases-selects::select
decreases-selects::select l = level l.room + 2

abbrev pub decreases-selects::condition : goal.decreases-selects::condition
decreases-selects::condition l = level l.room

abbrev pub decreases-selects::test : goal.decreases-selects::test
decreases-selects::test l = level l.room + 1

-- ---- lists

abbrev pub decreases-scalars::is_empty : goal.decreases-scalars::is_empty
decreases-scalars::is_empty l = level l.room + 3

abbrev pub decreases-walk::selects_of : goal.decreases-walk::selects_of
decreases-walk::selects_of l = level l.room + 2

abbrev pub decreases-walk::walk : goal.decreases-walk::walk
decreases-walk::walk l = level l.room

abbrev pub decreases-walk::list : goal.decreases-walk::list
decreases-walk::list l = level l.room + 6

abbrev pub decreases-walk::under : goal.decreases-walk::under
decreases-walk::under l = level l.room + 1

abbrev pub decreases-walk::add_items : goal.decreases-walk::add_items
decreases-walk::add_items l = level l.room + 5

abbrev pub decreases-walk::add : goal.decreases-walk::add
decreases-walk::add l = level l.room + 4

abbrev pub invariant-walk::add_items-loop-item : goal.invariant-walk::add_items-loop-item
invariant-walk::add_items-loop-item l =
    let f : List ℕ → List Select = λ items. flat_map (then_at l.over l.place) (items_at l.over items l.place l.scope) in
    (l.selects ++ f (drop l.item-index l.items) ≡ l.fn.selects ++ f l.items) × (all_paid (f (drop l.item-index l.items)) l.left ≡ all_paid (f l.items) l.fn.left)

abbrev pub decreases-walk::either : goal.decreases-walk::either
decreases-walk::either l = level l.room + 2

abbrev pub decreases-walk::both : goal.decreases-walk::both
decreases-walk::both l = level l.room + 1

abbrev pub decreases-walk::each : goal.decreases-walk::each
decreases-walk::each l = level l.room + 1

abbrev pub decreases-walk::add_table : goal.decreases-walk::add_table
decreases-walk::add_table l = level l.room + 5

abbrev pub decreases-walk::add_select : goal.decreases-walk::add_select
decreases-walk::add_select l = level l.room + 3

abbrev pub decreases-walk::branches : goal.decreases-walk::branches
decreases-walk::branches l = level l.room + 1
