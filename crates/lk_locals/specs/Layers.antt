-- Local names in layers.
use Rattle.std.specs.Prelude.{List, ◌++◌, fold}
use Rattle.std.specs.FinMap as finite
use Rattle.lk_locals.specs.Names.{Names, no_names}

-- the inner names, and the outer ones that they don't hide
abbrev pub over : Names → Names → Names
over outer inner = finite.from_entries (finite.entries inner ++ finite.entries outer)

-- the names of all layers, of which the last is the innermost
abbrev pub layered : List Names → Names
layered = fold over no_names
