-- Names among others, and names of which none is there twice.
use Rattle.std.specs.Prelude.{◌≡◌, List, [], ◌∷◌}
use Rattle.lk_types.specs.Each.{OneOf}
use Rattle.lk_types.specs.Rows.{Label}

abbrev pub IsAmong : Label → List Label → Type 0
IsAmong x xs = OneOf (λ y. y ≡ x) xs

abbrev pub AreDistinct : List Label → Type 0
AreDistinct [] = Unit {0}
AreDistinct (x ∷ xs) = (IsAmong x xs → ⊥) × AreDistinct xs
