-- A query keeps its bag: its parts stand for what its body gives.
use Rattle.std.proofs.Common.{◌≡◌, refl, ap, ◌∙◌, subst, arith, ℕ, true, List, [], drop, length, map}
use Rattle.lk_ast.specs.Functions.{functions_of}
use Rattle.lk_ast.specs.Layers.{layer}
use Rattle.lk_ast.specs.Rows.{row_value}
use Rattle.lk_ast.specs.Tables.{Tables}
use Rattle.lk_ast.specs.declared.declaration.Program.{Program}
use Rattle.lk_ast.specs.declared.expression.Expr.{Expr}
use Rattle.lk_ast.specs.declared.expression.Node.TheOpen.{Node-F}
use Rattle.lk_ast.specs.declared.expression.SortKey.{SortKey}
use Rattle.lk_ast.specs.declared.value.Value.{Value}
use Rattle.lk_bag.specs.Bag as bag
use Rattle.lk_bag.specs.Bag.{given, gives as given_by, items}
use Rattle.lk_bag.specs.Legal as legal
use Rattle.lk_bag.specs.Legal.{bag_by, captured_by}
use Rattle.lk_bodies.specs.Captured.{bound_parts, captured_as, captured_at, numbered}
use Rattle.lk_bodies.specs.Uses.{query_uses}
use Rattle.lk_bodies.specs.Walk.{Made, called, walk}
use Rattle.lk_ground.specs.declared.program.GroundProgram.{GroundProgram}
use Rattle.lk_index.specs.Free.{captured_query, free}
use Rattle.lk_inline.proofs.BlockForms.{IsQueryAlone}
use Rattle.lk_inline.proofs.BlockNames.{captured_are}
use Rattle.lk_inline.proofs.BlockStarts.{bound_ordered, names_have, names_standing}
use Rattle.lk_inline.proofs.BlockValues.{IsProper, captured_fit}
use Rattle.lk_inline.proofs.Entering.{helpers_made}
use Rattle.lk_inline.proofs.Helpers.{helpers_there}
use Rattle.lk_inline.proofs.Induction.{expr_made}
use Rattle.lk_inline.proofs.Loops.{items_shown}
use Rattle.lk_inline.proofs.Making.{AreStanding, IsMade}
use Rattle.lk_inline.proofs.QueryTypes.{list_rows}
use Rattle.lk_inline.specs.Inlined.{calls_of, first_columns, key_of, state_at}
use Rattle.lk_inline.specs.Law.{KeepsBag}
use Rattle.lk_locals.specs.Names.{Names, bind_each, no_names}
use Rattle.lk_mono.specs.Instanced.{HasInstances}
use Rattle.lk_names.specs.Programs.{IsBound}
use Rattle.lk_query.specs.Captured.{AreCaptured, bindings_from, leaves, query_values, values_from}
use Rattle.lk_query.specs.Given.{Values, gives}
use Rattle.lk_query.specs.declared.query.Captured.{Captured}
use Rattle.lk_query.specs.declared.query.Query.{Query}
use Rattle.lk_scope.specs.Names as scope
use Rattle.lk_sites.specs.Pending.{Pending}
use Rattle.lk_sites.specs.Sites.{Site}
use Rattle.lk_sound.proofs.Apart.{ordered_apart}
use Rattle.lk_sound.proofs.Bags.{all_early, called_fits}
use Rattle.lk_sound.proofs.Calls.{kept_fit}
use Rattle.lk_sound.proofs.Names.{AreDistinct, IsAmong}
use Rattle.lk_sound.specs.Instances.{Instances}
use Rattle.lk_sound.specs.Nodes.{nodes_of}
use Rattle.lk_sound.specs.Points.{AreLocals}
use Rattle.lk_sound.specs.Tables.{AreTables}
use Rattle.lk_types.specs.Each.{Each}
use Rattle.lk_types.specs.Rows.{Label}
use Rattle.lk_types.specs.declared.ground.Ground.{Ground}
use Rattle.lk_types.specs.declared.ground.Ground.TheVariants as known
use Rattle.lk_typing.specs.Names.{Entry, Named, named, types_of}

module _ (p : Program) (bound : IsBound p) (g : GroundProgram) (has : HasInstances p g) (functions : Named (Entry Ground)) (locals : Named Ground) (site : Site) (keys : List SortKey) (body : Expr) (after : Pending)
    (alone : IsQueryAlone p has.shaped.instances functions locals keys body site.types site.calls after) where
  abbrev i : Instances
  i = has.shaped.instances

  abbrev n : ℕ
  n = length (functions_of p)

  abbrev xs : List Label
  xs = captured_query body

  abbrev kept : Named Ground
  kept = alone.names.kept

  abbrev walked : Made
  walked = walk (calls_of p g.helpers) body (numbered 0 xs) (state_at p g.helpers xs site)

  abbrev all : List Captured
  all = captured_at (query_uses body (drop 1 site.types)) xs

  abbrev pub query_of : Query
  query_of = record { parts = walked.state.parts; root = walked.part; captured = all; columns = first_columns site.types; keys = map key_of keys }

  module _ (tables : Tables) (are : AreTables p tables) where
    body_made : IsMade p i tables (bag.called p tables n) (called g.helpers n) kept (numbered 0 xs) (known.List alone.row) (given tables (bag.called p tables n) body) (state_at p g.helpers xs site) after walked
    body_made =
        expr_made p i has.shaped.closed tables are (bag.called p tables n) (called g.helpers n) n (called_fits p i bound has.shaped.closed tables are n)
        (helpers_made p i bound has.shaped.closed tables are g.helpers (helpers_there p bound g has tables are) n) functions true alone.typed refl refl
        (all_early p i has.shaped.closed (nodes_of true alone.typed) alone.flat) (numbered 0 xs) (state_at p g.helpers xs site) after (bound_ordered xs) (names_have kept xs alone.names.names xs 0 (omega arith)) alone.takes

    rows_kept : (block : Expr) → layer block ≡ Node-F.Query keys body → all ≡ map captured_as (types_of kept) → Each IsProper all → (args : List Value) → AreCaptured all args
        → legal.bag p tables block args ≡ map row_value (gives tables walked.state.parts walked.part (query_values all (leaves args))).list
    rows_kept block is same proper args captured_so =
        let given_so : AreCaptured (map captured_as (types_of kept)) args = subst (λ cs. AreCaptured cs args) same captured_so in
        let distinct : AreDistinct xs = ordered_apart (free body scope.no_names) in
        let values : Values = query_values all (leaves args) in
        let names : Names = bind_each no_names xs args in
        let fit : AreLocals p i kept names = kept_fit p i kept xs args alone.names.names distinct (captured_fit p i (types_of kept) args alone.names.flat given_so) in
        let standing : AreStanding p i tables (bag.called p tables n) (called g.helpers n) kept (numbered 0 xs) names (bound_parts xs) values =
        names_standing p i tables (bag.called p tables n) (called g.helpers n) kept xs alone.names.names distinct args alone.names.flat (subst (Each IsProper) same proper) given_so
        xs 0 (omega arith) values (λ j l. ap (λ cs. values_from (leaves args) 1 (bindings_from 0 cs) j) same) in
        let stands = body_made.means values names fit standing in
        ap (λ l. bag_by p tables block l args) is
        ∙ ap (λ l. items (given_by p tables body (bind_each no_names (captured_by l) args))) is
        ∙ ap items (stands.rows (list_rows alone.row alone.rows))
        ∙ items_shown (map row_value (gives tables walked.state.parts walked.part values).list)

  pub query_keeps : (block : Expr) → layer block ≡ Node-F.Query keys body → ((x : Label) → IsAmong x xs → named x (query_uses body (drop 1 site.types)) ≡ named x kept) → Each IsProper all → KeepsBag p block query_of
  query_keeps block is uses proper = record { rows = λ tables are args captured_so. rows_kept tables are block is (captured_are locals (query_uses body (drop 1 site.types)) xs alone.names uses) proper args captured_so }
