-- The columns of a table by their labels.
use Rattle.std.specs.Prelude.{List, map}
use Rattle.std.specs.Cmp.Lexicographic.{slice_cmp}
use Rattle.std.specs.FinMap as finite
use Rattle.std.specs.Ordering.{nat_cmp}
use Rattle.lk_ast.specs.declared.table.BaseKind.{BaseKind}
use Rattle.lk_ast.specs.declared.table.Column.{Column}

-- the columns of these kinds, in byte order of their labels
abbrev pub columns_of : finite.FinMap (slice_cmp nat_cmp) BaseKind → List Column
columns_of found = map (λ entry. record { label = entry.0; kind = entry.1 }) (finite.entries found)
