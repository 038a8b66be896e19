-- How many rows a table of a store would have with further ones, where tables are told.
use Rattle.std.specs.Prelude.{◌≡◌, ℕ, ◌+◌, ◌<◌, ◌≤◌, List, Option, length, IfSome}
use Rattle.lk_ast.specs.Limits.{most_rows}
use Rattle.lk_ast.specs.Tables.{Tables}
use Rattle.lk_ast.specs.declared.table.Row.{Row}

-- the table of that name has so many rows with these
abbrev pub HasSize : Option Tables → List ℕ → List Row → ℕ → Type 0
HasSize told name rows size = IfSome told (λ tables. length (tables name) + length rows ≡ size)

-- the table of that name has at most as many rows with these as a table may have
abbrev pub HasRoom : Option Tables → List ℕ → List Row → Type 0
HasRoom told name rows = IfSome told (λ tables. length (tables name) + length rows ≤ most_rows)

-- it would have that many with these, too many
pub record IsOverfull (told : Option Tables) (name : List ℕ) (rows : List Row) (size : ℕ) : Type 0 where
  pub many : most_rows < size
  pub has : HasSize told name rows size
