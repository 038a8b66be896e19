-- Integers as the program has them.
use Rattle.std.specs.Prelude.{◌^◌, pos, negsuc, Bool, true, nat_lt}
use Rattle.std.specs.List.{list_all}
use Rattle.lk_ast.specs.declared.table.Base.{Base}
use Rattle.lk_ast.specs.declared.table.Base.TheVariants.{Int, Bool as Truth, Text}
use Rattle.lk_ast.specs.declared.table.Row.{Row}
use Rattle.lk_ast.specs.declared.table.TableRows.{TableRows}

-- an integer fits 64 signed bits
abbrev pub fits_word : Base → Bool
fits_word (Int (pos n)) = nat_lt n (2 ^ 63)
fits_word (Int (negsuc n)) = nat_lt n (2 ^ 63)
fits_word (Truth b) = true
fits_word (Text t) = true

-- each integer of the row fits 64 signed bits
abbrev pub cells_fit_words : Row → Bool
cells_fit_words row = list_all (λ cell. fits_word cell.value) row.cells

-- each integer of the table's rows fits 64 signed bits
abbrev pub table_fits_words : TableRows → Bool
table_fits_words table = list_all cells_fit_words table.rows
