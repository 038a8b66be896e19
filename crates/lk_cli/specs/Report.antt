-- What commands print. `check`: a line for each function in text order. `sql`: a line for each query and each reading of a table, in
-- the order of their labels. `source`: a line for each event in order, a line for the declared tables, and a last line for the end;
-- values and tables are JSON texts.
use Rattle.std.specs.Prelude.{◌≡◌, ℕ, List, [], ◌∷◌, ◌++◌, codes, decimal}
use Rattle.std.specs.List.{flat_map}
use Rattle.lk_ast.specs.declared.declaration.FunDef.{FunDef}
use Rattle.lk_report.specs.Lines.{IsTablesLine, done_line, event_line, line, trap_line}
use Rattle.lk_sql.specs.Text.{sql_text}
use Rattle.lk_translate.specs.declared.translated.Code.{Code}
use Rattle.lk_translate.specs.declared.translated.Code.TheVariants as code
use Rattle.lk_translate.specs.declared.translated.Translated.{Translated}
use Rattle.lk_types.specs.TypeText.{type_text}
use Rattle.lk_types.specs.declared.scheme.Scheme.{Scheme}
use Rattle.lk_cli.specs.declared.answer.Done.{Done}
use Rattle.lk_cli.specs.declared.ended.End.{End}
use Rattle.lk_cli.specs.declared.ended.End.TheVariants as end

-- ---- what `check` prints

-- `NAME : TYPE`, the type being that of the scheme, its variables named from `t1` on
abbrev pub scheme_line : FunDef → Scheme → List ℕ
scheme_line f scheme = line (f.name.text ∷ codes ":" ∷ type_text scheme.body ∷ [])

-- a line for each function with its scheme; where there are more of one than of the other, these have none
abbrev pub lines_of : List FunDef → List Scheme → List ℕ
lines_of [] schemes = []
lines_of (f ∷ fs) [] = []
lines_of (f ∷ fs) (scheme ∷ schemes) = scheme_line f scheme ++ lines_of fs schemes

-- ---- what `sql` prints

-- `LABEL SQL`; an update or a deletion has no line
abbrev pub code_line : ℕ → Code → List ℕ
code_line label (code.Select sql) = line (decimal label ∷ sql_text sql ∷ [])
code_line label (code.Change change) = []

abbrev pub query_line : Translated → List ℕ
query_line query = code_line query.label query.code

abbrev pub query_lines : List Translated → List ℕ
query_lines queries = flat_map query_line queries

-- ---- what `source` prints

-- `done FUEL VALUE`, `trap FUEL KIND`, `spent` or `table-full SIZE`
abbrev pub end_line : End → ℕ → List ℕ
end_line (end.Value v) used = done_line used v
end_line (end.Trap trap) used = trap_line used trap
end_line end.Spent used = line (codes "spent" ∷ [])
end_line (end.TableFull size) used = line (codes "table-full" ∷ decimal size ∷ [])

-- what is printed for a session
abbrev pub IsReport : Done → List ℕ → Type 0
IsReport done text = (tables : List ℕ) × IsTablesLine done.tables tables × (text ≡ flat_map event_line done.run.log ++ (tables ++ end_line done.run.end done.run.used))
