-- Numbers for nodes that bound from above what is counted of them, now and before: each of a class fits what is known of it by its
-- name, as counts do, and a node of which nothing is known by itself counts one at least, whatever its class is now. So numbers that
-- cover the nodes after a step of merging cover those before it.
use Rattle.std.specs.Prelude.{◌≡◌, ℕ, ◌+◌, ◌<◌, ◌≤◌, ◌⊎◌, true, List, length, map}
use Rattle.lk_classes.specs.Classes.{class_at}
use Rattle.lk_types.specs.Each.{Each}
use Rattle.lk_arena.specs.Counting.{sum_of}
use Rattle.lk_arena.specs.Shapes.{shape_at, is_loose_shape}
use Rattle.lk_arena.specs.declared.node.Field.{Field}
use Rattle.lk_arena.specs.declared.node.Pair.{Pair}
use Rattle.lk_arena.specs.declared.node.Shape.{Shape}
use Rattle.lk_arena.specs.declared.node.Shape.TheVariants.{Free, Open, Empty, Made}
use Rattle.lk_arena.specs.declared.node.Shape.TheVariants as shape

-- of fields: each counts one, and what its node counts
abbrev pub fields_count : (ℕ → ℕ) → List Field → ℕ
fields_count c fs = sum_of (map (λ f. 1 + c f.node) fs)

-- The number of a node of this shape. A constructor may count nothing: the type `()` that an effect stands with does.
abbrev pub IsCovered : Shape → (ℕ → ℕ) → ℕ → Type 0
IsCovered Free c x = 1 ≤ x
IsCovered Open c x = 1 ≤ x
IsCovered Empty c x = Unit {0}
IsCovered (Made h ps) c x = (x ≡ 0) ⊎ (x ≡ 1 + sum_of (map c ps))
IsCovered (shape.Row fs t) c x = x ≡ fields_count c fs + c t

-- at the nodes that name classes, but for one
abbrev pub CoversBut : ℕ → List Shape → List ℕ → (ℕ → ℕ) → Type 0
CoversBut hole shapes classes c = (i : ℕ) → i < length shapes → class_at classes i ≡ i → (i ≡ hole → ⊥) → IsCovered (shape_at shapes i) c (c i)

-- nodes of one class have one number
abbrev pub SameCounts : List ℕ → (ℕ → ℕ) → Type 0
SameCounts classes c = (i : ℕ) → i < length classes → c i ≡ c (class_at classes i)

abbrev pub CountLoose : List Shape → (ℕ → ℕ) → Type 0
CountLoose shapes c = (i : ℕ) → i < length shapes → is_loose_shape (shape_at shapes i) ≡ true → 1 ≤ c i

pub record Covers (shapes : List Shape) (classes : List ℕ) (c : ℕ → ℕ) : Type 0 where
  pub builds : (i : ℕ) → i < length shapes → class_at classes i ≡ i → IsCovered (shape_at shapes i) c (c i)
  pub same : SameCounts classes c
  pub loose : CountLoose shapes c

-- the two nodes of each pair have one number
abbrev pub EqualCounts : List Pair → (ℕ → ℕ) → Type 0
EqualCounts pairs c = Each (λ p. c p.left ≡ c p.right) pairs

pub record CoversAll (shapes : List Shape) (classes : List ℕ) (pairs : List Pair) (c : ℕ → ℕ) : Type 0 where
  pub nodes : Covers shapes classes c
  pub equal : EqualCounts pairs c

-- the number of a row is that of these fields before this tail, where what holds at the hole isn't known
abbrev pub IsFlatCounted : ℕ → List Shape → List ℕ → ℕ → List Field → ℕ → Type 0
IsFlatCounted hole shapes classes row fields tail =
    (c : ℕ → ℕ) → CoversBut hole shapes classes c → SameCounts classes c → (own : List Field) (first : ℕ) → shape_at shapes row ≡ shape.Row own first
    → fields_count c own + c first ≡ fields_count c fields + c tail

-- two rows count these fields each, and what stands behind them
abbrev pub CountTails : List Field → List Field → (ℕ → ℕ) → ℕ → ℕ → Type 0
CountTails lefts rights c x y = (rest : ℕ) × (x ≡ fields_count c lefts + rest) × (y ≡ fields_count c rights + rest)
