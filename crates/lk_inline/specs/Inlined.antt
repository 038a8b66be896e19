-- What stands at the place of a query, a reading of a table, an update or a deletion: its parts, with the bodies of functions in the
-- places of their calls, and what it captures. What an update sets stands in byte order of the columns.
use Rattle.std.specs.Prelude.{ℕ, List, [], ◌∷◌, Option, Some, None, drop, length, map}
use Rattle.lk_ast.specs.Functions.{functions_of}
use Rattle.lk_ast.specs.Layers.{Layer, layer}
use Rattle.lk_ast.specs.declared.declaration.Program.{Program}
use Rattle.lk_ast.specs.declared.expression.ChangeExpr.{ChangeExpr, out-ChangeExpr}
use Rattle.lk_ast.specs.declared.expression.Expr.{Expr}
use Rattle.lk_ast.specs.declared.expression.Node.TheOpen.{Node-F}
use Rattle.lk_ast.specs.declared.expression.PartExpr.{PartExpr}
use Rattle.lk_ast.specs.declared.expression.SortKey.{SortKey}
use Rattle.lk_ast.specs.declared.place.Word.{Word}
use Rattle.lk_ast.specs.declared.table.Column.{Column}
use Rattle.lk_ast.specs.declared.table.TableDef.{TableDef}
use Rattle.lk_bodies.specs.Captured.{captured_at, numbered, bound_parts}
use Rattle.lk_bodies.specs.Shapes.{element_columns, labels}
use Rattle.lk_bodies.specs.Uses.{change_uses, query_uses}
use Rattle.lk_bodies.specs.Walk.{Calls, Made, Several, State, all, called, labelled, table, walk}
use Rattle.lk_ground.specs.declared.program.GroundFun.{GroundFun}
use Rattle.lk_index.specs.Free.{captured_change, captured_query}
use Rattle.lk_inline.specs.Sets.{in_order}
use Rattle.lk_query.specs.declared.query.Inlined.{Inlined}
use Rattle.lk_query.specs.declared.query.Inlined.TheVariants as inlined
use Rattle.lk_sites.specs.Sites.{Site}
use Rattle.lk_sound.specs.Tables.{table_at}
use Rattle.lk_sql.specs.declared.tree.Key.{Key}
use Rattle.lk_types.specs.Rows.{Label}
use Rattle.lk_types.specs.declared.ground.Ground.{Ground}
use Rattle.lk_typing.specs.Names.{Named}

abbrev pub first_columns : List Ground → List Column
first_columns [] = []
first_columns (t ∷ ts) = element_columns t

abbrev pub key_of : SortKey → Key
key_of key = record { label = key.label.text; desc = key.desc }

abbrev pub table_labels : Option TableDef → List Label
table_labels None = []
table_labels (Some def) = labels def.columns

-- in a program with these helpers
module _ (p : Program) (helpers : List GroundFun) where
  -- No more calls stand one in the other than the program has functions.
  abbrev pub calls_of : Calls
  calls_of = called helpers (length (functions_of p))

  abbrev pub state_at : List Label → Site → State
  state_at names site = record { parts = bound_parts names; types = drop 1 site.types; calls = site.calls }

  abbrev pub query_at : Site → List SortKey → Expr → Inlined
  query_at site keys body =
      let names : List Label = captured_query body in
      let m : Made = walk calls_of body (numbered 0 names) (state_at names site) in
      inlined.Query (record { parts = m.state.parts; root = m.part; captured = captured_at (query_uses body (drop 1 site.types)) names; columns = first_columns site.types; keys = map key_of keys })

  abbrev pub reading_at : Site → Word → Inlined
  reading_at site name = inlined.Query (record { parts = table site.types name.text ∷ []; root = 0; captured = []; columns = first_columns site.types; keys = [] })

  abbrev pub change_at : Site → ChangeExpr → Inlined
  change_at site change =
      let row : Label = (out-ChangeExpr change).name.text in
      let names : List Label = captured_change change in
      let numbers : Named ℕ = (row, 0) ∷ numbered 1 names in
      let c : Made = walk calls_of (out-ChangeExpr change).cond numbers (state_at (row ∷ names) site) in
      let sets : Several = all (map (λ (set : PartExpr). walk calls_of set.expr) (out-ChangeExpr change).sets) numbers c.state in
      inlined.Change (record {
        parts = sets.state.parts;
        labels = table_labels (table_at p (out-ChangeExpr change).table.text);
        captured = captured_at (change_uses change (drop 1 site.types)) names;
        cond = c.part;
        sets = in_order (labelled (map (λ (set : PartExpr). set.label.text) (out-ChangeExpr change).sets) sets.numbers);
      })

  -- by what stands there; at no other expression is a site
  abbrev pub inlined_by : Site → Layer → Option Inlined
  inlined_by site (Node-F.Query keys body) = Some (query_at site keys body)
  inlined_by site (Node-F.Table name) = Some (reading_at site name)
  inlined_by site (Node-F.Update change) = Some (change_at site change)
  inlined_by site (Node-F.Delete change) = Some (change_at site change)
  inlined_by site other = None

  abbrev pub inlined_at : Site → Option Inlined
  inlined_at site = inlined_by site (layer site.block)
