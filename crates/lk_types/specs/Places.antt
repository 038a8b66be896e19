-- Of levels those that stand in some of the types.
use Rattle.std.specs.Prelude.{ℕ, ◌<◌, Bool, true, List, fold, length, map, nat_eq, slice_index, slice_index_or, slice_set}
use Rattle.std.specs.BTreeSet.{insert_key}
use Rattle.std.specs.List.{Contains, position_or_len}
use Rattle.std.specs.Ordering.{nat_cmp}
use Rattle.lk_types.specs.Levels.{level_renumbered, Stands}
use Rattle.lk_types.specs.declared.levels.Level.{Level}
use Rattle.lk_types.specs.declared.levels.Level.TheVariants as level

-- each is above those before it
abbrev pub AreRising : List ℕ → Type 0
AreRising ns = (i j : ℕ) → i < j → j < length ns → slice_index ns i < slice_index ns j

-- the places of the levels that stand in the types
pub record ArePlaces (levels : List Level) (roots places : List ℕ) : Type 0 where
  pub rising : AreRising places
  pub sound : (n : ℕ) → Contains places n → Stands levels roots n
  pub whole : (n : ℕ) → Stands levels roots n → Contains places n

-- where a place stands among these
abbrev pub number_in : List ℕ → ℕ → ℕ
number_in places p = position_or_len (λ q. nat_eq q p) places

abbrev pub level_at : List Level → ℕ → Level
level_at levels p = slice_index_or levels p level.Int

-- the levels at these places, each part by where it stands among them
abbrev pub kept : List Level → List ℕ → List Level
kept levels places = map (λ p. level_renumbered (number_in places) (level_at levels p)) places

-- the keys of a set to which these are added
abbrev pub with_keys : List ℕ → List ℕ → List ℕ
with_keys keys ns = fold (insert_key nat_cmp) keys ns

-- these are marked, too
abbrev pub with_marks : List Bool → List ℕ → List Bool
with_marks marks ps = fold (λ ms p. slice_set ms p true) marks ps
