-- A row of two numbers is one still when these are swapped.
use Rattle.std.proofs.Common.{◌≡◌, ℕ, Bool, true, false, ◌&&◌, List, [], ◌∷◌, map, sym, ap, ap₂, subst, cond}
use Rattle.std.proofs.lemmas.Bool.{and_parts}
use Rattle.std.proofs.lemmas.Slice.Eq.{bytes_eq-Decides}
use Rattle.std.specs.Prelude.{bytes_eq, codes}
use Rattle.tree_cases.specs.Swap.{swap, two_numbers}
use Rattle.lk_ast.specs.Tables.{cells_fit, is_of_kind, row_fits}
use Rattle.lk_ast.specs.declared.table.Base.{Base}
use Rattle.lk_ast.specs.declared.table.BaseKind.TheVariants as kind
use Rattle.lk_ast.specs.declared.table.Cell.{Cell}
use Rattle.lk_ast.specs.declared.table.Column.{Column}
use Rattle.lk_ast.specs.declared.table.Row.{Row}
use Rattle.lk_ast.specs.declared.table.TableDef.{TableDef}
use Rattle.lk_exec.specs.Writings.{new_cell, no_tables, updated}
use Rattle.lk_sql.proofs.MeaningForms.{value_column}
use Rattle.lk_sql.specs.Change.{is_changed}
use Rattle.lk_sql.specs.Meaning.{no_rows, with_row}
use Rattle.lk_sql.specs.declared.tree.Scalar.{Scalar}

-- the row of these two
abbrev pair : Base → Base → Row
pair x y = record { cells = record { label = codes "a"; value = x } ∷ record { label = codes "b"; value = y } ∷ [] }

abbrev IsNumber : Base → Type 0
IsNumber x = is_of_kind kind.Int x ≡ true

record IsPair (row : Row) : Type 0 where
  x : Base
  y : Base
  is : pair x y ≡ row
  one : IsNumber x
  other : IsNumber y

labelled : (label : List ℕ) (c : Cell) → bytes_eq label c.label ≡ true → record { label = label; value = c.value } ≡ c
labelled label c same = ap (λ l. record { label = l; value = c.value }) ((bytes_eq-Decides label c.label).0 same)

pairs : (cells : List Cell) → cells_fit two_numbers cells ≡ true → IsPair (record { cells = cells })
pairs [] fit = absurd cc
pairs (c ∷ []) fit = let wrong : false ≡ true = (and_parts _ _ fit).1 in absurd cc
pairs (c ∷ d ∷ e ∷ cells) fit = let wrong : false ≡ true = (and_parts _ _ (and_parts _ _ fit).1).1 in absurd cc
pairs (c ∷ d ∷ []) fit =
    let first = and_parts _ _ fit in
    let a = and_parts _ _ first.0 in
    let second = and_parts _ _ first.1 in
    let b = and_parts _ _ second.0 in
    record {
      x = c.value;
      y = d.value;
      is = ap₂ (λ c d. record { cells = c ∷ d ∷ [] }) (labelled (codes "a") c a.0) (labelled (codes "b") d b.0);
      one = a.1;
      other = b.1;
    }

module _ (params : List Base) (x y : Base) where
  swapped : record { cells = map (new_cell params swap (pair x y)) (pair x y).cells } ≡ pair y x
  swapped = ap₂ pair (value_column no_tables params 1 (codes "b") (with_row 1 (pair x y) no_rows)) (value_column no_tables params 1 (codes "a") (with_row 1 (pair x y) no_rows))

  fits : (columns : List Column) → columns ≡ two_numbers → IsNumber x → IsNumber y → cells_fit columns (pair x y).cells ≡ true
  fits columns is one other = subst (λ columns. cells_fit columns (pair x y).cells ≡ true) (sym is) (ap₂ (λ a b. a && b) one (ap (λ b. b && true) other))

-- so an update that swaps the columns keeps rows that fit
pub keeps : (params : List Base) (cond : Scalar) (def : TableDef) → def.columns ≡ two_numbers
    → (row : Row) → row_fits def row ≡ true → row_fits def (updated params cond swap row) ≡ true
keeps params condition def is row fit =
    let there = pairs row.cells (subst (λ columns. cells_fit columns row.cells ≡ true) is fit) in
    subst (λ row. row_fits def (updated params condition swap row) ≡ true) there.is
    (go (is_changed no_tables params (record { cond = condition; sets = swap }) (pair there.x there.y)) there.x there.y there.one there.other)
  where
    go : (b : Bool) (x y : Base) → IsNumber x → IsNumber y → row_fits def (cond b (record { cells = map (new_cell params swap (pair x y)) (pair x y).cells }) (pair x y)) ≡ true
    go true x y one other = subst (λ row. row_fits def row ≡ true) (sym (swapped params x y)) (fits params y x def.columns is other one)
    go false x y one other = fits params x y def.columns is one other
