-- What a program is refused for, the first in text order.
use Rattle.std.specs.Prelude.{◌≡◌, List, [], ◌∷◌, Option, Some, None, Result, Ok, Err}
use Rattle.lk_names.specs.declared.error.NameError.{NameError}
use Rattle.lk_names.specs.declared.error.NameError.TheVariants.{NoMemory}

-- what a part of a program is refused for first, if for anything
abbrev pub Fault : Type 0
Fault = Option NameError

-- the first of two in text order
abbrev pub first_of : Fault → Fault → Fault
first_of (Some why) later = Some why
first_of None later = later

-- the first of many
abbrev pub first_among : List Fault → Fault
first_among [] = None
first_among (fault ∷ faults) = first_of fault (first_among faults)

-- a part is refused for its first fault, unless it was memory that ran out
abbrev pub StopsFor : NameError → Fault → Type 0
StopsFor NoMemory fault = Unit {0}
StopsFor why fault = fault ≡ Some why

-- a part that has no fault isn't refused
abbrev pub Answers : {X : Type 0} → Result X NameError → Fault → Type 0
Answers (Ok x) fault = fault ≡ None
Answers (Err why) fault = StopsFor why fault
