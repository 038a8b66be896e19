-- The parts of ground types, by their forms.
use Rattle.std.specs.Prelude.{List, Option, Some, None}
use Rattle.lk_types.specs.declared.ground.Ground.{Ground, out-Ground}
use Rattle.lk_types.specs.declared.ground.Ground.TheOpen.{Ground-F}
use Rattle.lk_types.specs.declared.ground.GroundField.{GroundField}
use Rattle.lk_types.specs.declared.ty.Effect.{Effect}

abbrev pub item_level : Ground-F Ground GroundField → Option Ground
item_level (Ground-F.List t) = Some t
item_level other = None

-- the type of the items, of a list
abbrev pub item_in : Ground → Option Ground
item_in t = item_level (out-Ground t)

abbrev pub fields_level : Ground-F Ground GroundField → Option (List GroundField)
fields_level (Ground-F.Fields fields) = Some fields
fields_level other = None

-- the fields, of a record
abbrev pub fields_in : Ground → Option (List GroundField)
fields_in t = fields_level (out-Ground t)

abbrev pub tags_level : Ground-F Ground GroundField → Option (List GroundField)
tags_level (Ground-F.Tags tags) = Some tags
tags_level other = None

-- the tags, of a variant
abbrev pub tags_in : Ground → Option (List GroundField)
tags_in t = tags_level (out-Ground t)

abbrev pub function_level : Ground-F Ground GroundField → Option (List Ground × List Effect × Ground)
function_level (Ground-F.Fun params es answer) = Some (params, es, answer)
function_level other = None

-- the parameters, effects and result, of a function
abbrev pub function_in : Ground → Option (List Ground × List Effect × Ground)
function_in t = function_level (out-Ground t)
