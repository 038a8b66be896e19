-- Rows that fit their table.
use Rattle.std.proofs.Common.{◌≡◌, Bool, true, false, ◌&&◌, cond, List, [], ◌∷◌, ◌++◌, map, refl, ap₂}
use Rattle.std.specs.List.{filter}
use Rattle.std.proofs.lemmas.Bool.{and_parts}
use Rattle.lk_ast.specs.Tables.{all_fit, row_fits}
use Rattle.lk_ast.specs.declared.table.Row.{Row}
use Rattle.lk_ast.specs.declared.table.TableDef.{TableDef}

pub fits_map : (def : TableDef) (f : Row → Row) → ((row : Row) → row_fits def row ≡ true → row_fits def (f row) ≡ true) → (rows : List Row) → all_fit def rows ≡ true → all_fit def (map f rows) ≡ true
fits_map def f keeps [] fit = refl
fits_map def f keeps (row ∷ rows) fit =
    let both = and_parts (row_fits def row) (all_fit def rows) fit in
    ap₂ (λ a b. a && b) (keeps row both.0) (fits_map def f keeps rows both.1)

pub fits_filter : (def : TableDef) (test : Row → Bool) (rows : List Row) → all_fit def rows ≡ true → all_fit def (filter test rows) ≡ true
fits_filter def test [] fit = refl
fits_filter def test (row ∷ rows) fit =
    let both = and_parts (row_fits def row) (all_fit def rows) fit in
    go (test row) both.0 (fits_filter def test rows both.1)
  where
    go : (b : Bool) → row_fits def row ≡ true → all_fit def (filter test rows) ≡ true → all_fit def (cond b (row ∷ filter test rows) (filter test rows)) ≡ true
    go true one more = ap₂ (λ a b. a && b) one more
    go false one more = more
