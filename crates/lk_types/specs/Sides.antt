-- The type of a side of an equation.
use Rattle.lk_types.specs.Names.{place_in}
use Rattle.lk_types.specs.Renamed.{renamed}
use Rattle.lk_types.specs.declared.side.Source.{Source}
use Rattle.lk_types.specs.declared.side.Source.TheVariants.{Written, Instance}
use Rattle.lk_types.specs.declared.ty.Ty.{Ty}

abbrev pub source_type : Source → Ty
source_type (Written t) = t
source_type (Instance t names n) = renamed (place_in n names) t
