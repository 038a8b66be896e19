-- Cells of rows as fields of records, and what an update sets them to.
use Rattle.std.specs.Prelude.{[], find, unwrap_or}
use Rattle.lk_ast.specs.declared.declaration.Program.{Program}
use Rattle.lk_ast.specs.declared.expression.ChangeExpr.{ChangeExpr, out-ChangeExpr}
use Rattle.lk_ast.specs.declared.table.Cell.{Cell}
use Rattle.lk_ast.specs.declared.value.Field.{Field}
use Rattle.lk_ast.specs.declared.value.Value.TheVariants as value
use Rattle.lk_bag.specs.Bag.{gives}
use Rattle.lk_bag.specs.Change.{set_value, sets_label}
use Rattle.lk_locals.specs.Names.{Names}
use Rattle.lk_operators.specs.Values.{base_in}

-- a cell as a field
abbrev pub cell_field : Cell → Field
cell_field cell = record { label = cell.label; value = value.Base cell.value }

-- a cell after an update, under names among which the row has its own
abbrev pub cell_set : Program → ChangeExpr → Names → Cell → Cell
cell_set p change inner cell = record { label = cell.label; value = set_value (find (sets_label cell.label) (out-ChangeExpr change).sets) (λ part. unwrap_or (base_in (gives p (λ name. []) part.expr inner)) cell.value) cell.value }
