-- A number of each type, which types that differ are likely not to share.
use Rattle.std.specs.Prelude.{ℕ, ◌*◌, ◌%◌, List, [], ◌∷◌, map}
use Rattle.std.specs.Int.Bits.{bit_xor}
use Rattle.lk_ground_types.specs.Grounds.{effect_number}
use Rattle.lk_types.specs.declared.ground.Ground.{Ground, fold-Ground}
use Rattle.lk_types.specs.declared.ground.Ground.TheOpen.{Ground-F, GroundField-F}
use Rattle.lk_types.specs.declared.ground.GroundField.{GroundField, fold-GroundField}

-- one more number behind others, in 64 bits
unfoldable pub mix : ℕ → ℕ → ℕ
mix sum more = (bit_xor sum more * 1099511628211) % 18446744073709551616

abbrev pub mix_all : ℕ → List ℕ → ℕ
mix_all sum [] = sum
mix_all sum (n ∷ ns) = mix_all (mix sum n) ns

abbrev pub level : Ground-F ℕ ℕ → ℕ
level Ground-F.Int = 1
level Ground-F.Bool = 2
level Ground-F.Text = 3
level (Ground-F.List t) = mix 4 t
level (Ground-F.Fields fields) = mix_all 5 fields
level (Ground-F.Tags tags) = mix_all 6 tags
level (Ground-F.Fun params es answer) = mix_all (mix_all (mix 7 answer) (map effect_number es)) params

abbrev pub field_level : GroundField-F ℕ ℕ → ℕ
field_level f = mix (mix_all 8 f.label) f.ty

unfoldable pub hint : Ground → ℕ
hint = fold-Ground ℕ ℕ level field_level

unfoldable pub field_hint : GroundField → ℕ
field_hint = fold-GroundField ℕ ℕ level field_level
