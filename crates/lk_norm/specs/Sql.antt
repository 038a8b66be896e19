-- The SQL of a query, and of an update or a deletion: their normal forms, in which captured values are parameters.
use Rattle.std.specs.Prelude.{ℕ, List, [], map}
use Rattle.lk_sql.specs.declared.tree.Change.{Change}
use Rattle.lk_sql.specs.declared.tree.Sql.{Sql}
use Rattle.lk_query.specs.Captured.{bindings_from}
use Rattle.lk_query.specs.Order.{bind}
use Rattle.lk_query.specs.declared.part.Labelled.{Labelled}
use Rattle.lk_query.specs.declared.query.Captured.{Captured}
use Rattle.lk_query.specs.declared.query.InlinedChange.{InlinedChange}
use Rattle.lk_query.specs.declared.query.Query.{Query}
use Rattle.lk_norm.specs.Captured.{names_from}
use Rattle.lk_norm.specs.Normal.{Branch, Names, always, as_row, columns_of, norms, output, selects}

-- ---- queries

abbrev pub query_names : List Captured → Names
query_names captured = names_from 1 (bindings_from 0 captured)

abbrev pub branches : Query → List Branch
branches query = (norms query.parts query.root (query_names query.captured)).list 0 [] always

abbrev pub query_sql : Query → Sql
query_sql query = record { selects = selects query.columns (branches query); keys = query.keys }

-- ---- changes: the row that may change is that of generator 1

abbrev pub change_names : List (List ℕ) → List Captured → Names
change_names labels captured = bind 0 (as_row (λ scope. columns_of 1 labels)) (names_from 1 (bindings_from 1 captured))

abbrev pub change_sql : InlinedChange → Change
change_sql change =
    let names : Names = change_names change.labels change.captured in
    record {
      cond = (norms change.parts change.cond names).base 1;
      sets = map (λ (item : Labelled). output item.label ((norms change.parts item.part names).base 1)) change.sets;
    }
