-- Which queries have SQL: those whose normal form has few branches and a short text.
use Rattle.std.specs.Prelude.{ℕ, ◌<◌, ◌≤◌, length}
use Rattle.lk_sql.specs.Text.{sql_text}
use Rattle.lk_query.specs.Branches.{counts}
use Rattle.lk_query.specs.declared.query.Query.{Query}
use Rattle.lk_norm.specs.Sql.{query_sql}
use Rattle.lk_norm.specs.declared.error.NormError.{NormError}
use Rattle.lk_norm.specs.declared.error.NormError.TheVariants as error

-- the most branches of a query
abbrev pub most_branches : ℕ
most_branches = 1024

-- the most bytes of a query's text, or of those of a change's scalars together
abbrev pub most_bytes : ℕ
most_bytes = 1048576

abbrev pub branch_count : Query → ℕ
branch_count query = counts query.parts query.root

-- in bytes
abbrev pub sql_length : Query → ℕ
sql_length query = length (sql_text (query_sql query))

abbrev pub IsShort : Query → Type 0
IsShort query = (branch_count query ≤ most_branches) × (sql_length query ≤ most_bytes)

-- what it is refused for; want of memory is for any
abbrev pub RefusedFor : Query → NormError → Type 0
RefusedFor query error.Branches = most_branches < branch_count query
RefusedFor query error.SqlTooLong = (branch_count query ≤ most_branches) × (most_bytes < sql_length query)
RefusedFor query error.NoMemory = Unit {0}
