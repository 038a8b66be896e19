-- Ranks of classes: each is above those of its parts. Where there are ranks no type is a part of itself, which is the test that
-- unification owes (Robinson, A machine-oriented logic based on the resolution principle, 1965).
use Rattle.std.specs.Prelude.{◌≡◌, ℕ, suc, ◌+◌, ◌<◌, ◌≤◌, List, [], ◌∷◌, length, slice_index_or as get_or, Option, Some, None, IsSome}
use Rattle.lk_types.specs.Each.{Each, OneOf}
use Rattle.lk_classes.specs.Classes.{class_at}
use Rattle.lk_arena.specs.Shapes.{shape_at, parts_of, AllBelow}
use Rattle.lk_arena.specs.declared.node.Shape.{Shape}

-- each class has a rank above those of the classes of its parts
abbrev pub IsRanked : List Shape → List ℕ → (ℕ → ℕ) → Type 0
IsRanked shapes classes rank =
    (i : ℕ) → i < length shapes → class_at classes i ≡ i → Each (λ p. rank (class_at classes p) < rank i) (parts_of (shape_at shapes i))

-- ---- while ranks are given, from the lowest up

abbrev pub rank_at : List (Option ℕ) → ℕ → Option ℕ
rank_at ranks i = get_or ranks i None

-- the class of a node has a rank
abbrev pub IsKnown : List (Option ℕ) → List ℕ → ℕ → Type 0
IsKnown ranks classes p = IsSome (rank_at ranks (class_at classes p))

abbrev pub IsUnknown : List (Option ℕ) → List ℕ → ℕ → Type 0
IsUnknown ranks classes p = rank_at ranks (class_at classes p) ≡ None

-- it has a rank, which is below this one
abbrev pub HasRankBelow : List (Option ℕ) → ℕ → ℕ → Type 0
HasRankBelow ranks below i = (r : ℕ) × (rank_at ranks i ≡ Some r) × (r < below)

-- the ranks given so far are below the next one, and parts have smaller ones
abbrev pub IsPartlyRanked : List Shape → List ℕ → List (Option ℕ) → ℕ → Type 0
IsPartlyRanked shapes classes ranks next =
    (i r : ℕ) → i < length shapes → rank_at ranks i ≡ Some r →
    (r < next) × Each (λ p. HasRankBelow ranks r (class_at classes p)) (parts_of (shape_at shapes i))

-- it has no rank only if a part has none
abbrev pub IsStuckAt : List Shape → List ℕ → List (Option ℕ) → ℕ → Type 0
IsStuckAt shapes classes ranks i = rank_at ranks i ≡ None → OneOf (IsUnknown ranks classes) (parts_of (shape_at shapes i))

-- each class without a rank has a part without one
abbrev pub IsStuck : List Shape → List ℕ → List (Option ℕ) → Type 0
IsStuck shapes classes ranks =
    (i : ℕ) → i < length shapes → class_at classes i ≡ i → IsStuckAt shapes classes ranks i

-- how many have no rank
abbrev pub unknown : List (Option ℕ) → ℕ
unknown [] = 0
unknown (None ∷ ranks) = suc (unknown ranks)
unknown (Some r ∷ ranks) = unknown ranks

-- The ranks given so far, and the nodes that have them in their order: parts have smaller ranks, and there is room for all ranks.
pub record IsRanking (shapes : List Shape) (classes : List ℕ) (ranks : List (Option ℕ)) (order : List ℕ) : Type 0 where
  pub count : length ranks ≡ length shapes
  pub ranked : IsPartlyRanked shapes classes ranks (length order)
  pub room : length order + unknown ranks ≤ length shapes
  pub at : (k : ℕ) → k < length order → (get_or order k 0 < length shapes) × (rank_at ranks (get_or order k 0) ≡ Some k)
  pub back : (i r : ℕ) → i < length shapes → rank_at ranks i ≡ Some r → get_or order r 0 ≡ i

-- ---- a search: how often each of n nodes was looked at, the nodes on the way down, and those that are done

pub record IsSearch (n : ℕ) (looks path done : List ℕ) : Type 0 where
  pub count : length looks ≡ n
  pub down : AllBelow n path
  pub ended : AllBelow n done
