-- The types of names in code, in the words of their definition.
use Rattle.std.specs.Prelude.{map}
use Rattle.std.specs.Borrow.{Bor}
use Rattle.lk_types.specs.declared.ground.Ground.{Ground}
use Rattle.lk_typing.specs.Names.{Named}

abbrev pub typed : Named (Bor Ground) → Named Ground
typed entries = map (λ entry. (entry.0, entry.1.now)) entries
