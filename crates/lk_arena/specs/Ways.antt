-- The way down a row, over the classes of its tails that are fields before a row themselves.
use Rattle.std.specs.Prelude.{◌≡◌, ℕ, ◌<◌, true, false, Bool, List, [], ◌∷◌, ◌++◌, length, slice_index_or as get_or, None}
use Rattle.lk_classes.specs.Classes.{class_at}
use Rattle.lk_types.specs.Each.{Each}
use Rattle.lk_arena.specs.Shapes.{shape_at, found_at, is_fields, is_row_shape, fields_in, IsDistinct}
use Rattle.lk_arena.specs.declared.node.Field.{Field}
use Rattle.lk_arena.specs.declared.node.Shape.{Shape}
use Rattle.lk_arena.specs.declared.node.Shape.TheVariants as shape

abbrev pub tail_in : Shape → ℕ
tail_in (shape.Row fs t) = t
tail_in _ = 0

-- from the first class over the others to the tail
abbrev pub IsWay : List Shape → List ℕ → List ℕ → ℕ → ℕ → Type 0
IsWay shapes classes [] from tail = from ≡ tail
IsWay shapes classes (c ∷ way) from tail =
    (from ≡ c) × (c < length shapes) × (class_at classes c ≡ c) × (is_fields (shape_at shapes c) ≡ true) × IsWay shapes classes way (class_at classes (tail_in (shape_at shapes c))) tail

abbrev pub fields_along : List Shape → List ℕ → List Field
fields_along shapes [] = []
fields_along shapes (c ∷ way) = fields_in (shape_at shapes c) ++ fields_along shapes way

-- the fields are these and those on some way
abbrev pub HasWay : List Shape → List ℕ → List Field → ℕ → List Field → ℕ → Type 0
HasWay shapes classes own from fields tail = (way : List ℕ) × IsWay shapes classes way from tail × (fields ≡ own ++ fields_along shapes way)

-- there is a way from here to a tail that is no fields, along which no label stands twice
abbrev pub HasDistinctWay : List Shape → List ℕ → ℕ → Type 0
HasDistinctWay shapes classes from =
    (way : List ℕ) × (tail : ℕ) × IsWay shapes classes way from tail × (is_row_shape (shape_at shapes tail) ≡ true) × (is_fields (shape_at shapes tail) ≡ false) × IsDistinct (fields_along shapes way)

-- along every way from here to a tail that is no fields, none of these labels stands
abbrev pub LacksAlong : List Shape → List ℕ → List Field → ℕ → Type 0
LacksAlong shapes classes labels from =
    (way : List ℕ) (tail : ℕ) → IsWay shapes classes way from tail → is_fields (shape_at shapes tail) ≡ false → Each (λ f. found_at labels f.label ≡ None) (fields_along shapes way)

-- one of n nodes, which names a class
abbrev pub IsName : ℕ → List ℕ → ℕ → Type 0
IsName n classes i = (i < n) × (class_at classes i ≡ i)

-- from each class that is marked there is a way along which no label stands twice
pub record AreMarked (shapes : List Shape) (classes : List ℕ) (marks : List Bool) : Type 0 where
  pub count : length marks ≡ length shapes
  pub ways : (k : ℕ) → get_or marks k false ≡ true → HasDistinctWay shapes classes k
