-- The numbers of variables, from 1 on, as entries of a map.
use Rattle.std.specs.Prelude.{ℕ, ◌+◌, ◌-◌, List, length}
use Rattle.std.specs.Map.{lookup}
use Rattle.std.specs.Option.{unwrap_or}
use Rattle.lk_types.specs.TypeText.{name_of}
use Rattle.lk_types.specs.Variables.{same_variable}
use Rattle.lk_types.specs.declared.names.Names.{Names}
use Rattle.lk_types.specs.declared.ty.Variable.{Variable}

-- the number of a variable, or the next one where it has none
abbrev pub number : Names → Variable → ℕ
number names x = unwrap_or (lookup (same_variable x) names.numbers.entries) (1 + length names.numbers.entries)

-- how many have one
abbrev pub count : Names → ℕ
count names = length names.numbers.entries

abbrev pub name : Names → Variable → List ℕ
name names x = name_of (number names x)

-- the new number of a variable, where the one that comes first gets n
abbrev pub place_in : ℕ → Names → Variable → ℕ
place_in n names x = n + (number names x - 1)
