-- Fields with the types behind them, as the code makes them.
use Rattle.std.specs.Prelude.{List, ◌++◌, Option, Some, None, map}
use Rattle.lk_types.specs.declared.ty.Ty.{Ty}
use Rattle.lk_types.specs.declared.ty.TyField.{TyField}
use Rattle.lk_typing.specs.Names.{Named}
use Rattle.lk_typing.specs.Unknowns.{field}

-- labels with types, behind fields that are there, and the types that are left
abbrev pub laid : List TyField → Option (Named Ty × List Ty) → Option (List TyField × List Ty)
laid before None = None
laid before (Some (fields, rest)) = Some (before ++ map field fields, rest)
