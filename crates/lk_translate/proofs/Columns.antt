-- Rows that a table may hold have its columns, none of them twice.
use Rattle.std.proofs.Common.{◌≡◌, refl, sym, ap, subst, Bool, true, false, List, [], ◌∷◌, map, find, Some, None, bytes_eq, if◌then◌else◌}
use Rattle.std.specs.FinMap as fin
use Rattle.lk_ast.specs.Tables.{kinds, row_fits, table_def, tables_of}
use Rattle.lk_ast.specs.declared.declaration.Program.{Program}
use Rattle.lk_ast.specs.declared.declaration.TableDecl.{TableDecl}
use Rattle.lk_ast.specs.declared.table.BaseKind.{BaseKind}
use Rattle.lk_ast.specs.declared.table.Row.{Row}
use Rattle.lk_ast.specs.declared.table.TableDef.{TableDef}
use Rattle.lk_bodies.specs.Shapes.{labels}
use Rattle.lk_inline.proofs.BlockValues.{fit_labels}
use Rattle.lk_inline.proofs.LabelOrder.{distinct_test}
use Rattle.lk_inline.proofs.PutFields.{entry_labels, sorted_distinct}
use Rattle.lk_inline.specs.Stands.{AreDistinct}
use Rattle.lk_norm.specs.Law.{HasColumns}
use Rattle.lk_sound.proofs.TableRows.{as_columns}
use Rattle.lk_sound.specs.Tables.{table_at}
use Rattle.lk_types.proofs.Parts.{same_some}
use Rattle.lk_types.specs.Rows.{Label}

-- ---- tables of a program

labels_of_entries : (es : List (Label × BaseKind)) → labels (as_columns es) ≡ entry_labels es
labels_of_entries [] = refl
labels_of_entries (e ∷ es) = ap (λ ls. e.0 ∷ ls) (labels_of_entries es)

table_distinct : (table : TableDecl) → AreDistinct (labels (table_def table).columns)
table_distinct table = subst AreDistinct (sym (labels_of_entries (fin.entries (kinds table.columns)))) (sorted_distinct (fin.entries (kinds table.columns)) (fin.entries_sorted (kinds table.columns)))

found_distinct : (x : Label) (tables : List TableDecl) (def : TableDef) → find (λ (def : TableDef). bytes_eq def.name x) (map table_def tables) ≡ Some def → AreDistinct (labels def.columns)
found_distinct x [] def is = let wrong : None ≡ Some def = is in absurd cc
found_distinct x (table ∷ tables) def is = by_test (bytes_eq (table_def table).name x) is (found_distinct x tables def)
  where
    by_test : (b : Bool) → (if b then Some (table_def table) else find (λ (def : TableDef). bytes_eq def.name x) (map table_def tables)) ≡ Some def
        → (find (λ (def : TableDef). bytes_eq def.name x) (map table_def tables) ≡ Some def → AreDistinct (labels def.columns)) → AreDistinct (labels def.columns)
    by_test true is behind = subst (λ (def : TableDef). AreDistinct (labels def.columns)) (same_some is) (table_distinct table)
    by_test false is behind = behind is

-- ---- rows

pub has_columns : (p : Program) (x : Label) (def : TableDef) → table_at p x ≡ Some def → (row : Row) → row_fits def row ≡ true → HasColumns (labels def.columns) row
has_columns p x def at row fits = (fit_labels def.columns row.cells fits, distinct_test (labels def.columns) (found_distinct x (tables_of p) def at))
