-- How many nodes there are in what a class stands for, by the counts of its parts: a constructor and a type of which nothing is
-- known count one each, a row one for each field and what the field's type counts, a row of effects one for each effect, the end of
-- a row one where it is open. Where it is closed it counts a number of its class (`closed`, or `ends` for all classes), since a bound
-- on the counts of fewer equations takes one for the ends that were open with these. Counts are saturated, since types that share
-- parts may have a great many nodes.
use Rattle.std.specs.Prelude.{◌≡◌, ℕ, ◌+◌, ◌<◌, ◌≤◌, List, [], ◌∷◌, length, map, slice_index_or as get_or, take, min}
use Rattle.lk_classes.specs.Classes.{class_at}
use Rattle.lk_types.specs.Each.{Each, OneOf}
use Rattle.lk_types.specs.Sizes.{most_nodes}
use Rattle.lk_arena.specs.Kinds.{Kind, AreKinded, OfTypes, OfFields, OfEffects}
use Rattle.lk_arena.specs.Shapes.{shape_at, parts_of}
use Rattle.lk_arena.specs.declared.counting.Count.{Count}
use Rattle.lk_arena.specs.declared.node.Field.{Field}
use Rattle.lk_arena.specs.declared.node.Head.{Head}
use Rattle.lk_arena.specs.declared.node.Head.TheVariants as head
use Rattle.lk_arena.specs.declared.node.Shape.{Shape}
use Rattle.lk_arena.specs.declared.node.Shape.TheVariants.{Free, Open, Empty, Made}
use Rattle.lk_arena.specs.declared.node.Shape.TheVariants as shape

-- by recursion from the right
abbrev pub sum_of : List ℕ → ℕ
sum_of [] = 0
sum_of (n ∷ ns) = n + sum_of ns

abbrev pub counted : ℕ → Kind → Shape → (ℕ → ℕ) → ℕ
counted closed OfTypes Free count = 1
counted closed OfTypes (Made h ps) count = 1 + sum_of (map count ps)
counted closed OfFields Open count = 1
counted closed OfFields Empty count = closed
counted closed OfFields (shape.Row fs t) count = sum_of (map (λ f. 1 + count f.node) fs) + count t
counted closed OfEffects Open count = 1
counted closed OfEffects Empty count = closed
counted closed OfEffects (shape.Row fs t) count = length fs + count t
counted closed _ _ count = 0

-- the counts are those that follow from each other, where the closed ends of a class count what `ends` says of its name
abbrev pub AreCounted : (ℕ → ℕ) → List Shape → List ℕ → (ℕ → Kind) → (ℕ → ℕ) → Type 0
AreCounted ends shapes classes kind count =
    (i : ℕ) → i < length shapes → count i ≡ counted (ends (class_at classes i)) (kind i) (shape_at shapes (class_at classes i)) count

-- from the first number that is too many on, only that
abbrev pub saturated : ℕ → ℕ
saturated n = min n (most_nodes + 1)

-- the count of a node of this kind
abbrev pub IsCountOf : Kind → Count → ℕ → Type 0
IsCountOf OfTypes c n = c.as_type ≡ saturated n
IsCountOf OfFields c n = c.as_type ≡ saturated n
IsCountOf OfEffects c n = c.as_effects ≡ saturated n
IsCountOf _ c n = Unit {0}

-- ---- the count of a node, as it follows from those of the classes of its parts

abbrev pub no_count : Count
no_count = record { as_type = 0; as_effects = 0 }

abbrev pub count_at : List ℕ → List Count → ℕ → Count
count_at classes counts p = get_or counts (class_at classes p) no_count

abbrev pub type_sum : (ℕ → Count) → List ℕ → ℕ
type_sum of ps = sum_of (map (λ p. (of p).as_type) ps)

abbrev pub field_sum : (ℕ → Count) → List Field → ℕ
field_sum of fs = sum_of (map (λ f. 1 + (of f.node).as_type) fs)

-- the first part of a function is a row of effects
abbrev pub part_sum : (ℕ → Count) → Head → List ℕ → ℕ
part_sum of head.Fun (p ∷ ps) = (of p).as_effects + type_sum of ps
part_sum of _ ps = type_sum of ps

abbrev pub type_count : ℕ → (ℕ → Count) → Shape → ℕ
type_count closed of Free = 1
type_count closed of Open = 1
type_count closed of Empty = closed
type_count closed of (Made h ps) = 1 + part_sum of h ps
type_count closed of (shape.Row fs t) = field_sum of fs + (of t).as_type

abbrev pub effect_count : ℕ → (ℕ → Count) → Shape → ℕ
effect_count closed of Open = 1
effect_count closed of Empty = closed
effect_count closed of (shape.Row fs t) = length fs + (of t).as_effects
effect_count closed of _ = 0

-- the counts of all nodes, each at the number that names its class
abbrev pub AreCountsOf : (ℕ → ℕ) → List Shape → List ℕ → List Count → Type 0
AreCountsOf ends shapes classes counts =
    (kind : ℕ → Kind) (f : ℕ → ℕ) → AreKinded shapes classes kind → AreCounted ends shapes classes kind f → (i : ℕ) → i < length shapes → IsCountOf (kind i) (count_at classes counts i) (f i)

-- ---- what closed ends count

abbrev pub end_at : List ℕ → ℕ → ℕ
end_at ends c = get_or ends c 0

-- a number for each node, at the most one
pub record AreEnds (shapes : List Shape) (ends : List ℕ) : Type 0 where
  pub count : length ends ≡ length shapes
  pub small : Each (λ n. n ≤ 1) ends

-- one for each class with a node that is an open row by itself
abbrev pub CountOnceOpen : List Shape → List ℕ → (ℕ → ℕ) → Type 0
CountOnceOpen shapes classes ends = (i : ℕ) → i < length shapes → shape_at shapes i ≡ Open → 1 ≤ ends (class_at classes i)

-- ---- an order of the nodes in which parts come first

-- the class stands among these
abbrev pub IsAmong : List ℕ → List ℕ → ℕ → Type 0
IsAmong classes done p = OneOf (λ d. d ≡ class_at classes p) done

-- each is a node, and the classes of its parts stand before it; each class stands somewhere
pub record IsPartsFirst (shapes : List Shape) (classes : List ℕ) (order : List ℕ) : Type 0 where
  pub nodes : Each (λ i. i < length shapes) order
  pub parts : (k : ℕ) → k < length order → Each (IsAmong classes (take k order)) (parts_of (shape_at shapes (get_or order k 0)))
  pub whole : (i : ℕ) → i < length shapes → class_at classes i ≡ i → OneOf (λ d. d ≡ i) order
