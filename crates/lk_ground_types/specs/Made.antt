-- What is made in place of what may not be there.
use Rattle.std.specs.Prelude.{◌≡◌, Option, Some}

-- if there is something, this is it
abbrev pub IsIfThere : {A : Type 0} → Option A → A → Type 0
IsIfThere {A} o made = (a : A) → o ≡ Some a → made ≡ a
