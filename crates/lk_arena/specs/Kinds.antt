-- Kinds of nodes: which stand for types, which for rows and of what.
use Rattle.std.specs.Prelude.{◌≡◌, ℕ, ◌<◌, List, [], ◌∷◌, length, map}
use Rattle.lk_types.specs.Each.{Each}
use Rattle.lk_types.specs.Rows.{Label}
use Rattle.lk_types.specs.TypeText.{effect_word}
use Rattle.lk_types.specs.declared.ty.Effect.{Effect}
use Rattle.lk_classes.specs.Classes.{class_at}
use Rattle.lk_arena.specs.Shapes.{shape_at}
use Rattle.lk_arena.specs.declared.node.Field.{Field}
use Rattle.lk_arena.specs.declared.node.Head.{Head}
use Rattle.lk_arena.specs.declared.node.Head.TheVariants as head
use Rattle.lk_arena.specs.declared.node.Pair.{Pair}
use Rattle.lk_arena.specs.declared.node.Shape.{Shape}
use Rattle.lk_arena.specs.declared.node.Shape.TheVariants.{Free, Open, Empty, Made}
use Rattle.lk_arena.specs.declared.node.Shape.TheVariants as shape

-- types, rows of types, rows of effects, the unit type that effects stand with, and the row of that type
pub data Kind : Type 0 where
  OfTypes : Kind
  OfFields : Kind
  OfEffects : Kind
  OfUnit : Kind
  OfNothing : Kind

abbrev pub IsEffectName : Label → Type 0
IsEffectName l = (e : Effect) × (l ≡ effect_word e)

-- a constructor takes parts of these kinds
abbrev pub TakesKinds : Head → List Kind → Type 0
TakesKinds head.Int [] = Unit {0}
TakesKinds head.Bool [] = Unit {0}
TakesKinds head.Text [] = Unit {0}
TakesKinds head.List (k ∷ []) = k ≡ OfTypes
TakesKinds head.Fields (k ∷ []) = k ≡ OfFields
TakesKinds head.Tags (k ∷ []) = k ≡ OfFields
TakesKinds head.Fun (k ∷ answer ∷ params) = (k ≡ OfEffects) × (answer ≡ OfTypes) × Each (λ k. k ≡ OfTypes) params
TakesKinds _ _ = ⊥

-- the fields of a row of this kind
abbrev pub AreFieldsOf : (ℕ → Kind) → Kind → List Field → Type 0
AreFieldsOf kind OfFields fs = Each (λ f. kind f.node ≡ OfTypes) fs
AreFieldsOf kind OfEffects fs = Each (λ f. IsEffectName f.label × (kind f.node ≡ OfUnit)) fs
AreFieldsOf kind _ fs = ⊥

-- a node of this kind can have this shape
abbrev pub HasKind : (ℕ → Kind) → Kind → Shape → Type 0
HasKind kind OfTypes Free = Unit {0}
HasKind kind OfTypes (Made h ps) = TakesKinds h (map kind ps)
HasKind kind OfFields Open = Unit {0}
HasKind kind OfFields Empty = Unit {0}
HasKind kind OfFields (shape.Row fs t) = AreFieldsOf kind OfFields fs × (kind t ≡ OfFields)
HasKind kind OfEffects Open = Unit {0}
HasKind kind OfEffects Empty = Unit {0}
HasKind kind OfEffects (shape.Row fs t) = AreFieldsOf kind OfEffects fs × (kind t ≡ OfEffects)
HasKind kind OfUnit (Made head.Fields (p ∷ [])) = kind p ≡ OfNothing
HasKind kind OfNothing Empty = Unit {0}
HasKind kind _ _ = ⊥

-- nodes of one class have one kind, and shapes of it
abbrev pub AreKinded : List Shape → List ℕ → (ℕ → Kind) → Type 0
AreKinded shapes classes kind =
    (i : ℕ) → i < length shapes → (kind (class_at classes i) ≡ kind i) × HasKind kind (kind i) (shape_at shapes i)

abbrev pub EqualKinds : List Pair → (ℕ → Kind) → Type 0
EqualKinds pairs kind = Each (λ p. kind p.left ≡ kind p.right) pairs

-- kinds that fit, and are as before at the old nodes
abbrev pub HasKinds : List Shape → List Shape → List ℕ → List Pair → (ℕ → Kind) → Type 0
HasKinds old shapes classes pairs kind = (more : ℕ → Kind) × ((i : ℕ) → i < length old → more i ≡ kind i) × AreKinded shapes classes more × EqualKinds pairs more

-- the fields of a row and its tail are of its kind
abbrev pub IsFlatKinded : List Shape → List ℕ → ℕ → List Field → ℕ → Type 0
IsFlatKinded shapes classes row fields tail =
    (kind : ℕ → Kind) → AreKinded shapes classes kind → AreFieldsOf kind (kind row) fields × (kind tail ≡ kind row)
