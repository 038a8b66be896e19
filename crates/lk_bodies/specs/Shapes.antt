-- What types say of the parts of a query: the labels of a record, and the columns of a list of records.
use Rattle.std.specs.Prelude.{ℕ, List, [], ◌∷◌, map}
use Rattle.lk_ast.specs.declared.table.BaseKind.{BaseKind}
use Rattle.lk_ast.specs.declared.table.BaseKind.TheVariants as kind
use Rattle.lk_ast.specs.declared.table.Column.{Column}
use Rattle.lk_types.specs.Rows.{Label}
use Rattle.lk_types.specs.declared.ground.Ground.{Ground, out-Ground}
use Rattle.lk_types.specs.declared.ground.Ground.TheOpen.{Ground-F}
use Rattle.lk_types.specs.declared.ground.GroundField.{GroundField}

-- the kind of a base type; any other counts as Int
abbrev pub kind_level : Ground-F Ground GroundField → BaseKind
kind_level Ground-F.Bool = kind.Bool
kind_level Ground-F.Text = kind.Text
kind_level other = kind.Int

abbrev pub kind_of : Ground → BaseKind
kind_of t = kind_level (out-Ground t)

abbrev pub column : GroundField → Column
column f = record { label = f.label; kind = kind_of f.ty }

-- the columns of a record; any other type has none
abbrev pub columns_level : Ground-F Ground GroundField → List Column
columns_level (Ground-F.Fields fields) = map column fields
columns_level other = []

abbrev pub columns_of : Ground → List Column
columns_of t = columns_level (out-Ground t)

-- of the records in a list
abbrev pub element_level : Ground-F Ground GroundField → List Column
element_level (Ground-F.List t) = columns_of t
element_level other = []

abbrev pub element_columns : Ground → List Column
element_columns t = element_level (out-Ground t)

abbrev pub labels : List Column → List Label
labels columns = map (λ (column : Column). column.label) columns
