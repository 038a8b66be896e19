-- What is read back of the classes as levels, one for each class of types.
use Rattle.std.specs.FinMap as fin
use Rattle.std.specs.Prelude.{◌≡◌, ℕ, zero, suc, ◌<◌, List, [], ◌∷◌, ◌++◌, length, map, slice_index_or as get_or, Option, Some, None}
use Rattle.lk_arena.specs.Counting.{IsAmong, IsPartsFirst}
use Rattle.lk_arena.specs.Kinds.{Kind, OfTypes, OfEffects, AreKinded}
use Rattle.lk_arena.specs.Openings.{effects_type}
use Rattle.lk_arena.specs.Order.{IsRanked}
use Rattle.lk_arena.specs.Shapes.{fields_in, parts_of, shape_at, IsArena}
use Rattle.lk_arena.specs.Values.{Value}
use Rattle.lk_arena.specs.declared.arena.Arena.{Arena}
use Rattle.lk_arena.specs.declared.node.Field.{Field}
use Rattle.lk_arena.specs.declared.node.Head.{Head}
use Rattle.lk_arena.specs.declared.node.Head.TheVariants as head
use Rattle.lk_arena.specs.declared.node.Shape.{Shape}
use Rattle.lk_arena.specs.declared.node.Shape.TheVariants.{Free, Open, Empty, Made}
use Rattle.lk_arena.specs.declared.node.Shape.TheVariants as shape
use Rattle.lk_classes.specs.Classes.{class_at}
use Rattle.lk_types.specs.Each.{Each}
use Rattle.lk_types.specs.Levels.{at, built, AreBelow}
use Rattle.lk_types.specs.Rows.{Label, label_order}
use Rattle.lk_types.specs.declared.levels.Level.{Level}
use Rattle.lk_types.specs.declared.levels.Level.TheVariants as level
use Rattle.lk_types.specs.declared.levels.LevelField.{LevelField}
use Rattle.lk_types.specs.declared.levels.LevelRow.{LevelRow}
use Rattle.lk_types.specs.declared.ty.Effects.{Effects}
use Rattle.lk_types.specs.declared.ty.RowTail.{RowTail}
use Rattle.lk_types.specs.declared.ty.RowTail.TheVariants.{Closed, Var}
use Rattle.lk_unify.specs.Models.{IsOwn}
use Rattle.lk_unify.specs.Reading.{effects_in, name_in, row_in, type_in, CanRead}

-- ---- rows, down their chains

abbrev pub tail_in : Shape → ℕ → ℕ
tail_in (shape.Row fs t) n = t
tail_in _ n = n

abbrev pub end_for : Shape → ℕ → RowTail
end_for Open n = Var n
end_for _ n = Closed

module _ (nodes : Arena) where
  abbrev pub class_shape : ℕ → Shape
  class_shape n = shape_at nodes.shapes (class_at nodes.classes n)

  -- the fields of a row and of the rows behind it, at most so many rows
  abbrev pub chain : ℕ → ℕ → List Field
  chain zero n = []
  chain (suc fuel) n = fields_in (class_shape n) ++ chain fuel (tail_in (class_shape n) n)

  -- the node behind all of these rows
  abbrev pub chain_end : ℕ → ℕ → ℕ
  chain_end zero n = n
  chain_end (suc fuel) n = chain_end fuel (tail_in (class_shape n) n)

  -- how a row ends that ends at this node
  abbrev pub end_at : List ℕ → ℕ → RowTail
  end_at numbers n = end_for (class_shape n) (name_in numbers (class_at nodes.classes n))

-- ---- places among levels

-- places under labels
abbrev pub Places : Type 0
Places = fin.FinMap label_order ℕ

abbrev pub no_places : Places
no_places = fin.empty

abbrev pub place_field : Label × ℕ → LevelField
place_field e = record { label = e.0; part = e.1 }

-- the row with its fields in byte order of their labels
abbrev pub placed_row : Places → RowTail → LevelRow
placed_row row tail = record { fields = map place_field (fin.entries row); tail = tail }

module _ (nodes : Arena) (places : List ℕ) where
  -- the place of a node's class
  abbrev pub place_of : ℕ → ℕ
  place_of n = get_or places (class_at nodes.classes n) 0

  -- with the places of these fields
  abbrev pub with_places : List Field → Places → Places
  with_places [] row = row
  with_places (f ∷ fs) row = with_places fs (fin.insert row f.label (place_of f.node))

-- ---- the level of a class

-- they are the effects that stand at this node
abbrev pub AreEffectsAt : Arena → List ℕ → ℕ → Effects → Type 0
AreEffectsAt nodes numbers n es = (u : ℕ → Value) → IsOwn nodes.shapes nodes.classes (name_in numbers) u → es ≡ effects_type (effects_in (row_in (u n)))

module _ (nodes : Arena) (numbers places : List ℕ) (fuel : ℕ) where
  -- the row of a node
  abbrev pub row_level : ℕ → LevelRow
  row_level n = placed_row (with_places nodes places (chain nodes fuel n) no_places) (end_at nodes numbers (chain_end nodes fuel n))

  -- the level of a constructor with these parts
  abbrev pub IsMadeLevel : Head → List ℕ → Level → Type 0
  IsMadeLevel head.Int ps l = l ≡ level.Int
  IsMadeLevel head.Bool ps l = l ≡ level.Bool
  IsMadeLevel head.Text ps l = l ≡ level.Text
  IsMadeLevel head.List (p ∷ ps) l = l ≡ level.List (place_of nodes places p)
  IsMadeLevel head.Fields (p ∷ ps) l = l ≡ level.Fields (row_level p)
  IsMadeLevel head.Tags (p ∷ ps) l = l ≡ level.Tags (row_level p)
  IsMadeLevel head.Fun (p ∷ answer ∷ params) l =
      (es : Effects) × (l ≡ level.Fun (map (place_of nodes places) params) es (place_of nodes places answer)) × AreEffectsAt nodes numbers p es
  IsMadeLevel _ _ _ = ⊥

  -- classes of types have a level, those of rows none
  abbrev pub IsLevelFor : ℕ → Shape → Option Level → Type 0
  IsLevelFor class Free (Some l) = l ≡ level.Var (name_in numbers class)
  IsLevelFor class (Made h ps) (Some l) = IsMadeLevel h ps l
  IsLevelFor class Open None = Unit {0}
  IsLevelFor class Empty None = Unit {0}
  IsLevelFor class (shape.Row fs t) None = Unit {0}
  IsLevelFor class _ _ = ⊥

-- ---- what reading rests on

-- nodes whose kinds fit, in classes that stand lower than `fuel`, with a number for each
pub record CanReadNodes (nodes : Arena) (numbers : List ℕ) (fuel : ℕ) : Type 0 where
  pub arena : IsArena nodes.shapes nodes.classes
  pub count : length numbers ≡ length nodes.shapes
  pub kind : ℕ → Kind
  pub kinded : AreKinded nodes.shapes nodes.classes kind
  pub rank : ℕ → ℕ
  pub ranked : IsRanked nodes.shapes nodes.classes rank
  pub room : (i : ℕ) → i < length nodes.shapes → rank i < fuel

-- there are as many parts as a constructor takes, and the first one of a function is a row of effects
abbrev pub CanMakeLevel : Arena → List ℕ → ℕ → Head → List ℕ → Type 0
CanMakeLevel nodes numbers fuel head.List ps = 0 < length ps
CanMakeLevel nodes numbers fuel head.Fields ps = 0 < length ps
CanMakeLevel nodes numbers fuel head.Tags ps = 0 < length ps
CanMakeLevel nodes numbers fuel head.Fun (p ∷ answer ∷ params) = CanRead nodes numbers fuel p OfEffects
CanMakeLevel nodes numbers fuel head.Fun ps = ⊥
CanMakeLevel nodes numbers fuel h ps = Unit {0}

-- nodes whose kinds fit, in an order in which parts come first, and nodes of types among them
pub record CanReadAll (nodes : Arena) (numbers order asked : List ℕ) : Type 0 where
  pub arena : IsArena nodes.shapes nodes.classes
  pub count : length numbers ≡ length nodes.shapes
  pub kind : ℕ → Kind
  pub kinded : AreKinded nodes.shapes nodes.classes kind
  pub order_is : IsPartsFirst nodes.shapes nodes.classes order
  pub below : Each (λ n. n < length nodes.shapes) asked
  pub types : Each (λ n. kind n ≡ OfTypes) asked

-- ---- the levels of the classes that are done

-- the node has a place among the levels, and its type stands there
pub record IsReadAt (nodes : Arena) (numbers : List ℕ) (levels : List Level) (places : List ℕ) (n : ℕ) : Type 0 where
  pub placed : place_of nodes places n < length levels
  pub stands : (u : ℕ → Value) → IsOwn nodes.shapes nodes.classes (name_in numbers) u → at (built levels) (place_of nodes places n) ≡ type_in (u n)

-- where a class is done its parts are, too, and each of its nodes is read if it is one of types
pub record AreRead (nodes : Arena) (numbers : List ℕ) (levels : List Level) (places done : List ℕ) : Type 0 where
  pub below : AreBelow levels
  pub closed : (n : ℕ) → n < length nodes.shapes → IsAmong nodes.classes done n → Each (IsAmong nodes.classes done) (parts_of (class_shape nodes n))
  pub types : (kind : ℕ → Kind) → AreKinded nodes.shapes nodes.classes kind → (n : ℕ) → n < length nodes.shapes → kind n ≡ OfTypes → IsAmong nodes.classes done n
      → IsReadAt nodes numbers levels places n
