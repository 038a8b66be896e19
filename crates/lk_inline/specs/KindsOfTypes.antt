-- What kind of thing a part gives, by the type of what it stands for, and when the columns of lists stand in byte order.
use Rattle.std.specs.Prelude.{◌≡◌, true, map}
use Rattle.lk_bodies.specs.Shapes.{column, columns_of, element_columns, labels}
use Rattle.lk_query.specs.Kinds.{Kind, OfBase, OfList, OfRecord}
use Rattle.lk_sql.specs.Good.{are_in_order}
use Rattle.lk_types.specs.declared.ground.Ground.{Ground, out-Ground}
use Rattle.lk_types.specs.declared.ground.Ground.TheOpen.{Ground-F}
use Rattle.lk_types.specs.declared.ground.GroundField.{GroundField}

abbrev pub kind_level : Ground-F Ground GroundField → Kind
kind_level (Ground-F.Fields fields) = OfRecord (labels (map column fields))
kind_level (Ground-F.List t) = OfList (labels (columns_of t))
kind_level other = OfBase

-- any type that isn't of records or lists counts as a base
abbrev pub kind_of_type : Ground → Kind
kind_of_type t = kind_level (out-Ground t)

-- if it is a type of lists, the labels of their records stand in byte order
abbrev pub IsInOrder : Ground → Type 0
IsInOrder t = are_in_order (labels (element_columns t)) ≡ true
