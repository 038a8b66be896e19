-- An update and a deletion keep what their condition and their new values say of a row.
use Rattle.std.proofs.Common.{◌≡◌, refl, sym, ap, ap₂, ◌∙◌, subst, arith, ℕ, ◌+◌, true, List, [], ◌∷◌, drop, length, map, Some, if◌then◌else◌}
use Rattle.lk_ast.specs.Children.{exprs_of}
use Rattle.lk_ast.specs.Functions.{functions_of}
use Rattle.lk_ast.specs.Rows.{row_value}
use Rattle.lk_ast.specs.Tables.{row_fits, table_defs, tables_of}
use Rattle.lk_ast.specs.declared.declaration.Program.{Program}
use Rattle.lk_ast.specs.declared.expression.ChangeExpr.{ChangeExpr, out-ChangeExpr}
use Rattle.lk_ast.specs.declared.expression.Expr.{Expr}
use Rattle.lk_ast.specs.declared.expression.PartExpr.{PartExpr}
use Rattle.lk_ast.specs.declared.table.Row.{Row}
use Rattle.lk_ast.specs.declared.table.TableDef.{TableDef}
use Rattle.lk_ast.specs.declared.value.Value.{Value}
use Rattle.lk_bag.proofs.Given.{all_given}
use Rattle.lk_bag.specs.Bag as bag
use Rattle.lk_bag.specs.Bag.{given}
use Rattle.lk_bag.specs.Change.{is_met, updated}
use Rattle.lk_bag.specs.Legal.{captured_in, names_in}
use Rattle.lk_bodies.specs.Captured.{bound_parts, captured_as, captured_at, numbered}
use Rattle.lk_bodies.specs.Uses.{change_uses}
use Rattle.lk_bodies.specs.Walk.{Made, Several, State, Walk, all, called, labelled, walk}
use Rattle.lk_ground.specs.declared.program.GroundProgram.{GroundProgram}
use Rattle.lk_index.specs.Free.{captured_change, free_change}
use Rattle.lk_inline.proofs.BlockForms.{IsChangeAlone}
use Rattle.lk_inline.proofs.BlockNames.{captured_are}
use Rattle.lk_inline.proofs.BlockSets.{cells_same, row_stands_for, test_same}
use Rattle.lk_inline.proofs.BlockStarts.{bound_gives, bound_length, bound_ordered, names_have, names_standing}
use Rattle.lk_inline.proofs.BlockValues.{IsProper, captured_fit}
use Rattle.lk_inline.proofs.Entering.{helpers_made}
use Rattle.lk_inline.proofs.Helpers.{helpers_there}
use Rattle.lk_inline.proofs.Inducing.{number_bound, standing_bound}
use Rattle.lk_inline.proofs.Induction.{exprs_made}
use Rattle.lk_inline.proofs.Making.{AreMade, AreStanding, HaveNumbers, all_more}
use Rattle.lk_inline.proofs.RecordRules.{StandEach}
use Rattle.lk_inline.proofs.RecordValues.{record_fits}
use Rattle.lk_inline.proofs.SetOrder.{cells_in_order}
use Rattle.lk_inline.specs.Inlined.{calls_of, state_at, table_labels}
use Rattle.lk_inline.specs.Law.{KeepsRows, KeepsTest}
use Rattle.lk_inline.specs.Sets.{in_order}
use Rattle.lk_inline.specs.Stands.{Stands}
use Rattle.lk_locals.specs.Names.{Names, bind, bind_each, no_names}
use Rattle.lk_mono.specs.Instanced.{HasInstances}
use Rattle.lk_names.specs.Programs.{IsBound}
use Rattle.lk_query.proofs.Parts.{bind-other}
use Rattle.lk_query.specs.Captured.{AreCaptured, bindings_from, change_values, leaves, values_from}
use Rattle.lk_query.specs.Changed.{changed, is_changed}
use Rattle.lk_query.specs.Given.{Values, gives, of_row}
use Rattle.lk_query.specs.declared.query.Captured.{Captured}
use Rattle.lk_query.specs.declared.query.InlinedChange.{InlinedChange}
use Rattle.lk_scope.specs.Names as scope
use Rattle.lk_sites.specs.Pending.{Pending, pending}
use Rattle.lk_sites.specs.Sites.{Site}
use Rattle.lk_sites.specs.Takes.{Takes}
use Rattle.lk_sound.proofs.Apart.{ordered_apart}
use Rattle.lk_sound.proofs.Bags.{all_early, called_fits, value_fits}
use Rattle.lk_sound.proofs.Bindings.{bound_one}
use Rattle.lk_sound.proofs.Calls.{kept_fit}
use Rattle.lk_sound.proofs.Names.{AreDistinct, IsAmong}
use Rattle.lk_sound.proofs.QueryParts.{AreQueryNodes, IsQueryNode}
use Rattle.lk_sound.proofs.TableRows.{table_found}
use Rattle.lk_sound.proofs.UpdatedRows.{no_rows}
use Rattle.lk_sound.specs.Instances.{Instances}
use Rattle.lk_sound.specs.Nodes.{change_nodes, each_nodes, nodes_of}
use Rattle.lk_sound.specs.Points.{AreLocals}
use Rattle.lk_sound.specs.Tables.{AreTables, table_at}
use Rattle.lk_sound.specs.Values.{Fits}
use Rattle.lk_types.proofs.Members.{each_front}
use Rattle.lk_types.proofs.Parts.{same_some}
use Rattle.lk_types.specs.Each.{Each}
use Rattle.lk_types.specs.Rows as rows
use Rattle.lk_types.specs.Rows.{Label}
use Rattle.lk_types.specs.declared.ground.Ground.{Ground}
use Rattle.lk_types.specs.declared.ground.Ground.TheVariants as known
use Rattle.lk_typing.specs.Names.{Entry, HasRows, Named, named, types_of}
use Rattle.lk_typing.specs.Types as types
use Rattle.lk_typing.specs.Types.{record_of}
use Rattle.lk_typing.specs.Typing.{HasField, IsChange, labels_of, changed as is_change, more}

-- ---- no table has rows

pub walks_of : (of : Expr → Walk) (sets : List PartExpr) → map of (exprs_of sets) ≡ map (λ (set : PartExpr). of set.expr) sets
walks_of of [] = refl
walks_of of (set ∷ sets) = ap (λ ws. of set.expr ∷ ws) (walks_of of sets)

module _ (p : Program) (bound : IsBound p) (g : GroundProgram) (has : HasInstances p g) (functions : Named (Entry Ground)) (locals : Named Ground) (site : Site) (change : ChangeExpr) (after : Pending)
    (alone : IsChangeAlone p has.shaped.instances functions locals change site.types site.calls after) where
  abbrev i : Instances
  i = has.shaped.instances

  abbrev n : ℕ
  n = length (functions_of p)

  abbrev calls : List ℕ → List Value → Value
  calls = bag.called p (λ name. []) n

  abbrev xs : List Label
  xs = captured_change change

  abbrev kept : Named Ground
  kept = alone.names.kept

  abbrev x : Label
  x = (out-ChangeExpr change).name.text

  abbrev cond : Expr
  cond = (out-ChangeExpr change).cond

  abbrev sets : List PartExpr
  sets = (out-ChangeExpr change).sets

  abbrev numbers : Named ℕ
  numbers = (x, 0) ∷ numbered 1 xs

  abbrev start : State
  start = state_at p g.helpers (x ∷ xs) site

  abbrev first : Made
  first = walk (calls_of p g.helpers) cond numbers start

  abbrev others : Several
  others = all (map (λ (set : PartExpr). walk (calls_of p g.helpers) set.expr) sets) numbers first.state

  abbrev captured : List Captured
  captured = captured_at (change_uses change (drop 1 site.types)) xs

  abbrev pub change_of : InlinedChange
  change_of = record {
    parts = others.state.parts;
    labels = table_labels (table_at p (out-ChangeExpr change).table.text);
    captured = captured;
    cond = first.part;
    sets = in_order (labelled (map (λ (set : PartExpr). set.label.text) sets) others.numbers);
  }

  -- ---- its parts

  tables_fit : AreTables p (λ name. [])
  tables_fit = no_rows (table_defs p)

  names_start : (a : Ground) → HaveNumbers ((x, a) ∷ kept) numbers (bound_parts (x ∷ xs))
  names_start a =
      let many : length (bound_parts (x ∷ xs)) ≡ length (x ∷ xs) = bound_length (x ∷ xs) in
      let some : length (x ∷ xs) ≡ 1 + length xs = omega arith in
      number_bound x a 0 kept (numbered 1 xs) (bound_parts (x ∷ xs)) (omega (arith, many, some)) (names_have kept xs alone.names.names (x ∷ xs) 1 some)

  -- what is made of the condition and of what is set, and what they are by their typing
  record IsChangeMade : Type 0 where
    row : rows.Row
    rows_are : HasRows (tables_of p) (out-ChangeExpr change).table.text row
    ts : List Ground
    fields : Named Ground
    are : types.labelled (labels_of sets) ts ≡ Some (fields, [])
    each : Each (λ (set : Label × Ground). HasField (record_of row) set.0 set.1) fields
    made : AreMade p i (λ name. []) calls (called g.helpers n) ((x, record_of row) ∷ kept) numbers (known.Bool ∷ ts) (λ names. all_given (λ name. []) calls names (cond ∷ exprs_of sets)) start after
        (record { numbers = first.part ∷ others.numbers; state = others.state })
    fits : (names : Names) → AreLocals p i ((x, record_of row) ∷ kept) names → Fits p i (given (λ name. []) calls cond names) known.Bool

  change_made : (inside : List Ground) (d : IsChange functions (tables_of p) kept change inside) → AreQueryNodes p i.helpers n (change_nodes d) → Takes i.helpers (change_nodes d) (pending (drop 1 site.types) site.calls) after → IsChangeMade
  unfolding nodes_of
  change_made _ (is_change row fields ts of_cond rest rows_are holds values are each) nodes takes = record {
    row = row;
    rows_are = rows_are;
    ts = ts;
    fields = fields;
    are = are;
    each = each;
    made = subst (AreMade p i (λ name. []) calls (called g.helpers n) ((x, record_of row) ∷ kept) numbers (known.Bool ∷ ts) (λ names. all_given (λ name. []) calls names (cond ∷ exprs_of sets)) start after)
        (all_more (walk (called g.helpers n) cond) (map (walk (called g.helpers n)) (exprs_of sets)) numbers start
        ∙ ap (λ ws. record { numbers = first.part ∷ (all ws numbers first.state).numbers; state = (all ws numbers first.state).state }) (walks_of (walk (called g.helpers n)) sets))
        (exprs_made p i has.shaped.closed (λ name. []) tables_fit calls (called g.helpers n) n (called_fits p i bound has.shaped.closed (λ name. []) tables_fit n)
        (helpers_made p i bound has.shaped.closed (λ name. []) tables_fit g.helpers (helpers_there p bound g has (λ name. []) tables_fit) n) functions true (more of_cond rest holds values) refl refl nodes numbers start after
        (bound_ordered (x ∷ xs)) (names_start (record_of row)) takes);
    fits = λ names fit. value_fits p i has.shaped.closed (λ name. []) tables_fit calls n (called_fits p i bound has.shaped.closed (λ name. []) tables_fit n) functions true holds refl refl
        (each_front (IsQueryNode p i.helpers n) (nodes_of true holds) (each_nodes true values) nodes) names fit;
  }

  made_so : IsChangeMade
  made_so = change_made alone.inside alone.typed (all_early p i has.shaped.closed (change_nodes alone.typed) alone.flat) alone.takes

  -- ---- a row of its table

  module _ (same : captured ≡ map captured_as (types_of kept)) (proper : Each IsProper captured) (def : TableDef) (at : table_at p (out-ChangeExpr change).table.text ≡ Some def) (args : List Value) (captured_so : AreCaptured captured args)
      (r : Row) (r_fits : row_fits def r ≡ true) where
    abbrev names : Names
    names = bind x (row_value r) (bind_each no_names xs args)

    abbrev values : Values
    values = change_values r captured (leaves args)

    row_has_type : Fits p i (row_value r) (record_of made_so.row)
    row_has_type =
        let found = table_found p i (out-ChangeExpr change).table.text made_so.row made_so.rows_are in
        let def_is : found.0 ≡ def = same_some (sym found.1 ∙ at) in
        found.2 r (subst (λ d. row_fits d r ≡ true) (sym def_is) r_fits)

    given_so : AreCaptured (map captured_as (types_of kept)) args
    given_so = subst (λ cs. AreCaptured cs args) same captured_so

    distinct : AreDistinct xs
    distinct = ordered_apart (free_change change scope.no_names)

    names_fit : AreLocals p i ((x, record_of made_so.row) ∷ kept) names
    names_fit = bound_one p i x (row_value r) (record_of made_so.row) kept (bind_each no_names xs args) row_has_type (kept_fit p i kept xs args alone.names.names distinct (captured_fit p i (types_of kept) args alone.names.flat given_so))

    standing : AreStanding p i (λ name. []) calls (called g.helpers n) ((x, record_of made_so.row) ∷ kept) numbers names (bound_parts (x ∷ xs)) values
    standing =
        standing_bound p i (λ name. []) calls (called g.helpers n) x (record_of made_so.row) 0 (row_value r) kept (numbered 1 xs) (bind_each no_names xs args) (bound_parts (x ∷ xs)) values
        (subst (Stands (record_of made_so.row) (row_value r)) (sym (bound_gives (λ name. []) (x ∷ xs) 0 (omega arith) values)) (row_stands_for made_so.row r (record_fits p i made_so.row r row_has_type)))
        (names_standing p i (λ name. []) calls (called g.helpers n) kept xs alone.names.names distinct args alone.names.flat (subst (Each IsProper) same proper) given_so (x ∷ xs) 1 (omega arith) values
        (λ j l. bind-other 0 j (of_row r) (values_from (leaves args) 1 (bindings_from 1 captured)) (λ e. absurd (omega (arith, l, e))) ∙ ap (λ cs. values_from (leaves args) 1 (bindings_from 1 cs) j) same))

    stand : StandEach (known.Bool ∷ made_so.ts) (all_given (λ name. []) calls names (cond ∷ exprs_of sets)) (map (λ k. gives (λ name. []) others.state.parts k values) (first.part ∷ others.numbers))
    stand = made_so.made.means values names names_fit standing

    test_kept : (block : Expr) → captured_in block ≡ xs → is_changed change_of (leaves args) r ≡ is_met p (names_in block args) change r
    test_kept block is =
        test_same p i (given (λ name. []) calls cond names) (gives (λ name. []) others.state.parts first.part values) (made_so.fits names names_fit) stand.0
        ∙ ap (λ ys. is_met p (bind_each no_names ys args) change r) (sym is)

    row_kept : (block : Expr) → captured_in block ≡ xs → changed change_of (leaves args) r ≡ updated p (names_in block args) change r
    row_kept block is =
        ap₂ (λ b cells. if b then record { cells = cells } else r) (test_same p i (given (λ name. []) calls cond names) (gives (λ name. []) others.state.parts first.part values) (made_so.fits names names_fit) stand.0)
        (cells_in_order others.state.parts values (labelled (map (λ (set : PartExpr). set.label.text) sets) others.numbers) r.cells
        ∙ cells_same p i (λ e. given (λ name. []) calls e names) others.state.parts values made_so.row r row_has_type sets made_so.ts others.numbers made_so.fields made_so.are made_so.each stand.1 r.cells)
        ∙ ap (λ ys. updated p (bind_each no_names ys args) change r) (sym is)

  -- ---- the law

  module _ (uses : (y : Label) → IsAmong y xs → named y (change_uses change (drop 1 site.types)) ≡ named y kept) (proper : Each IsProper captured) (block : Expr) (is : captured_in block ≡ xs) where
    captured_same : captured ≡ map captured_as (types_of kept)
    captured_same = captured_are locals (change_uses change (drop 1 site.types)) xs alone.names uses

    pub test_keeps : KeepsTest p block change_of change
    test_keeps = record { test = λ def at args captured_so r fits. test_kept captured_same proper def at args captured_so r fits block is }

    pub rows_keep : KeepsRows p block change_of change
    rows_keep = record { rows = λ def at args captured_so r fits. row_kept captured_same proper def at args captured_so r fits block is }
