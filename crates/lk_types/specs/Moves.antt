-- Where the parts of levels that are copied stand.
use Rattle.std.specs.Prelude.{ℕ, ◌+◌}
use Rattle.lk_types.specs.Places.{number_in}
use Rattle.lk_types.specs.declared.moves.Numbering.{Numbering}
use Rattle.lk_types.specs.declared.moves.Numbering.TheVariants.{Among, Behind}

abbrev pub renumbered : Numbering → ℕ → ℕ
renumbered (Behind by) = λ p. by + p
renumbered (Among places) = number_in places.now.items.items
