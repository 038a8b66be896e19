-- Nodes, what is known of each (its shape), and classes of equal ones: terms as a graph in which nodes are merged (Huet,
-- Résolution d'équations dans des langages d'ordre 1, 2, ..., ω, 1976; Martelli and Montanari, An efficient unification
-- algorithm, 1982), with rows as in Rémy, Type inference for records in a natural extension of ML, 1993.
use Rattle.std.specs.FinMap as fin
use Rattle.std.specs.Prelude.{◌≡◌, ◌≢◌, ℕ, ◌<◌, Bool, true, false, List, [], ◌∷◌, ◌++◌, length, slice_index_or as get_or, map, Option, Some, None, if◌then◌else◌}
use Rattle.std.specs.Str.{bytes_eq}
use Rattle.lk_classes.specs.Classes.{class_at, AreClasses}
use Rattle.lk_types.specs.Each.{Each}
use Rattle.lk_types.specs.Rows.{Label}
use Rattle.lk_types.specs.declared.ty.RowTail.TheVariants.{Closed}
use Rattle.lk_types.specs.declared.ty.Ty.{Ty}
use Rattle.lk_arena.specs.Openings.{OpenRow, only_tail}
use Rattle.lk_arena.specs.Values.{Value, Plain, OfRow, IsMadeOf}
use Rattle.lk_arena.specs.declared.node.Field.{Field}
use Rattle.lk_arena.specs.declared.node.Pair.{Pair}
use Rattle.lk_arena.specs.declared.node.Shape.{Shape}
use Rattle.lk_arena.specs.declared.node.Shape.TheVariants.{Free, Open, Empty, Made}
use Rattle.lk_arena.specs.declared.node.Shape.TheVariants as shape

abbrev pub shape_at : List Shape → ℕ → Shape
shape_at shapes i = get_or shapes i Free

abbrev pub parts_of : Shape → List ℕ
parts_of (Made h ps) = ps
parts_of (shape.Row fs t) = t ∷ map (λ f. f.node) fs
parts_of _ = []

abbrev pub AllBelow : ℕ → List ℕ → Type 0
AllBelow n is = Each (λ i. i < n) is

-- the parts are nodes
abbrev pub AreNodes : List Shape → Type 0
AreNodes shapes = (i : ℕ) → i < length shapes → AllBelow (length shapes) (parts_of (shape_at shapes i))

-- ---- fields

-- the node of the first field with this label
abbrev pub found_at : List Field → Label → Option ℕ
found_at [] l = None
found_at (f ∷ fs) l = if bytes_eq l f.label then Some f.node else found_at fs l

-- no label stands twice
abbrev pub IsDistinct : List Field → Type 0
IsDistinct [] = Unit {0}
IsDistinct (f ∷ fs) = (found_at fs f.label ≡ None) × IsDistinct fs

-- each field is found by its label
abbrev pub AreFound : List Field → Type 0
AreFound fs = Each (λ f. found_at fs f.label ≡ Some f.node) fs

-- ---- what a shape says of the value of its node, where `w` are the values of the nodes

abbrev pub plain_of : Value → Option Ty
plain_of (Plain t) = Some t
plain_of (OfRow row) = None

-- the type that stands at a label: the field's, or else what the row behind the fields has there
abbrev pub value_at : (ℕ → Value) → Option ℕ → Option Ty → Option Ty
value_at w None below = below
value_at w (Some n) below = plain_of (w n)

abbrev pub IsPlain : Value → Type 0
IsPlain x = (t : Ty) × (x ≡ Plain t)

-- the fields before the row y give the row x, which ends as y does, and y has none of their labels
pub record IsRowOf (fs : List Field) (w : ℕ → Value) (y x : Value) : Type 0 where
  pub tail : OpenRow
  pub row : OpenRow
  pub tail_is : y ≡ OfRow tail
  pub row_is : x ≡ OfRow row
  pub plain : Each (λ f. IsPlain (w f.node)) fs
  pub fresh : Each (λ f. fin.get tail.fields f.label ≡ None) fs
  pub at : (l : Label) → fin.get row.fields l ≡ value_at w (found_at fs l) (fin.get tail.fields l)
  pub same_end : row.tail ≡ tail.tail

abbrev pub IsBuilt : Shape → (ℕ → Value) → Value → Type 0
IsBuilt Free w x = IsPlain x
IsBuilt Open w x = (row : OpenRow) × (x ≡ OfRow row)
IsBuilt Empty w x = x ≡ OfRow (only_tail Closed)
IsBuilt (Made h ps) w x = IsMadeOf h (map w ps) x
IsBuilt (shape.Row fs t) w x = IsRowOf fs w (w t) x

-- the two shapes have no value in common
abbrev pub NeverBoth : Shape → Shape → Type 0
NeverBoth s t = (w : ℕ → Value) (x : Value) → IsBuilt s w x → IsBuilt t w x → ⊥

-- ---- shapes

abbrev pub fields_in : Shape → List Field
fields_in (shape.Row fs t) = fs
fields_in _ = []

-- it is fields before a row
abbrev pub is_fields : Shape → Bool
is_fields (shape.Row fs t) = true
is_fields _ = false

-- it is a row, and not a type
abbrev pub is_row_shape : Shape → Bool
is_row_shape Open = true
is_row_shape Empty = true
is_row_shape (shape.Row fs t) = true
is_row_shape _ = false

-- nothing is known of it
abbrev pub is_loose_shape : Shape → Bool
is_loose_shape Free = true
is_loose_shape Open = true
is_loose_shape _ = false

-- fields before a row are one at least
abbrev pub HasFields : Shape → Type 0
HasFields (shape.Row [] t) = ⊥
HasFields _ = Unit {0}

-- nodes whose parts are nodes, with classes
pub record IsArena (shapes : List Shape) (classes : List ℕ) : Type 0 where
  pub nodes : AreNodes shapes
  pub named : AreClasses (length shapes) classes
  pub distinct : (i : ℕ) → i < length shapes → IsDistinct (fields_in (shape_at shapes i))
  pub filled : (i : ℕ) → i < length shapes → HasFields (shape_at shapes i)

-- ---- values of all nodes

-- the values of the nodes fit their shapes
abbrev pub Builds : List Shape → (ℕ → Value) → Type 0
Builds shapes v = (i : ℕ) → i < length shapes → IsBuilt (shape_at shapes i) v (v i)

-- nodes of one class have one value
abbrev pub Respects : List ℕ → (ℕ → Value) → Type 0
Respects classes v = (i : ℕ) → i < length classes → v i ≡ v (class_at classes i)

-- the two nodes of each pair have one value
abbrev pub Equates : List Pair → (ℕ → Value) → Type 0
Equates pairs v = Each (λ p. v p.left ≡ v p.right) pairs

abbrev pub AreNodePairs : ℕ → List Pair → Type 0
AreNodePairs n pairs = Each (λ p. (p.left < n) × (p.right < n)) pairs

-- the values fit the shapes and the classes
pub record FitsNodes (shapes : List Shape) (classes : List ℕ) (v : ℕ → Value) : Type 0 where
  pub builds : Builds shapes v
  pub respects : Respects classes v

-- and the pairs
pub record Fits (shapes : List Shape) (classes : List ℕ) (pairs : List Pair) (v : ℕ → Value) : Type 0 where
  pub nodes : FitsNodes shapes classes v
  pub equates : Equates pairs v

abbrev pub NeverFits : List Shape → List ℕ → Type 0
NeverFits shapes classes = (v : ℕ → Value) → FitsNodes shapes classes v → ⊥

-- two nodes can't have one value
abbrev pub NeverSame : List Shape → List ℕ → ℕ → ℕ → Type 0
NeverSame shapes classes i j = (v : ℕ → Value) → FitsNodes shapes classes v → v i ≡ v j → ⊥

-- the first n nodes have the same values
abbrev pub SameBelow : ℕ → (ℕ → Value) → (ℕ → Value) → Type 0
SameBelow n v w = (i : ℕ) → i < n → w i ≡ v i

-- values with this one at the node, which are as before at the old nodes
abbrev pub HasNode : List Shape → List Shape → List ℕ → (ℕ → Value) → ℕ → Value → Type 0
HasNode old shapes classes v n x = (w : ℕ → Value) × SameBelow (length old) v w × FitsNodes shapes classes w × (w n ≡ x)

-- values that fit, and are as before at the old nodes
abbrev pub HasFit : List Shape → List Shape → List ℕ → List Pair → (ℕ → Value) → Type 0
HasFit old shapes classes pairs v = (w : ℕ → Value) × SameBelow (length old) v w × Fits shapes classes pairs w

-- ---- values that fit at the nodes that name classes. They know of a class only what its name's shape says, so that a merging
-- that forgets what another node's shape says isn't one that keeps the values.

pub record WeakNodes (shapes : List Shape) (classes : List ℕ) (v : ℕ → Value) : Type 0 where
  pub builds : (i : ℕ) → i < length shapes → class_at classes i ≡ i → IsBuilt (shape_at shapes i) v (v i)
  pub respects : Respects classes v

-- and the pairs
pub record WeakFits (shapes : List Shape) (classes : List ℕ) (pairs : List Pair) (v : ℕ → Value) : Type 0 where
  pub nodes : WeakNodes shapes classes v
  pub equates : Equates pairs v

-- the values fit at the nodes that name classes, but for one
abbrev pub BuildsBut : ℕ → List Shape → List ℕ → (ℕ → Value) → Type 0
BuildsBut hole shapes classes v = (i : ℕ) → i < length shapes → class_at classes i ≡ i → (i ≡ hole → ⊥) → IsBuilt (shape_at shapes i) v (v i)

-- ---- two rows side by side

abbrev pub keep_missing : Option ℕ → Field → List Field → List Field
keep_missing None f rest = f ∷ rest
keep_missing (Some n) f rest = rest

-- the fields of the first whose labels the second lacks
abbrev pub missing : List Field → List Field → List Field
missing [] gs = []
missing (f ∷ fs) gs = keep_missing (found_at gs f.label) f (missing fs gs)

abbrev pub pair_common : Option ℕ → ℕ → List Pair → List Pair
pair_common None m rest = rest
pair_common (Some n) m rest = record { left = m; right = n } ∷ rest

-- the nodes of the labels that both have
abbrev pub common : List Field → List Field → List Pair
common [] gs = []
common (f ∷ fs) gs = pair_common (found_at gs f.label) f.node (common fs gs)

-- two rows are fields before one row
abbrev pub HasTail : List Field → List Field → (ℕ → Value) → Value → Value → Type 0
HasTail lefts rights v x y = (u : Value) × IsRowOf lefts v u x × IsRowOf rights v u y

-- ---- the fields of a row, and of the rows that its tails stand for

-- they are these fields, before this tail
pub record IsFlatOf (shapes : List Shape) (classes : List ℕ) (row : ℕ) (fields : List Field) (tail : ℕ) : Type 0 where
  pub distinct : IsDistinct fields
  pub nodes : Each (λ f. f.node < length shapes) fields
  pub below : tail < length shapes
  pub rows : (v : ℕ → Value) → FitsNodes shapes classes v → IsRowOf fields v (v tail) (v row)

-- a row stands above the class of its tail
abbrev pub GoesDown : List Shape → List ℕ → (ℕ → ℕ) → Type 0
GoesDown shapes classes rank =
    (i j : ℕ) (fs : List Field) → i < length shapes → class_at classes i ≡ i → shape_at shapes i ≡ shape.Row fs j → rank (class_at classes j) < rank i

-- the values fit at the classes below this one
abbrev pub BuildsBelow : (ℕ → ℕ) → ℕ → List Shape → List ℕ → (ℕ → Value) → Type 0
BuildsBelow rank row shapes classes v = (i : ℕ) → i < length shapes → class_at classes i ≡ i → rank i < rank row → IsBuilt (shape_at shapes i) v (v i)

-- The fields are those of the row's own shape, and behind them those of the classes below it, none of which is the hole. What the
-- classes below say is enough for the rest, also where nothing is known of the values at the hole (`rows`), or at classes that
-- stand higher (`under`).
pub record IsFlatBut (hole : ℕ) (shapes : List Shape) (classes : List ℕ) (row : ℕ) (fields : List Field) (tail : ℕ) : Type 0 where
  pub own : List Field
  pub rest : List Field
  pub first : ℕ
  pub shape_is : shape_at shapes row ≡ shape.Row own first
  pub fields_is : fields ≡ own ++ rest
  pub distinct : IsDistinct fields
  pub nodes : Each (λ f. f.node < length shapes) fields
  pub below : tail < length shapes
  pub first_below : first < length shapes
  pub row_below : row < length shapes
  pub named : class_at classes tail ≡ tail
  pub rows : (v : ℕ → Value) → BuildsBut hole shapes classes v → Respects classes v → (m : OpenRow) → v tail ≡ OfRow m → IsRowOf rest v (v tail) (v first)
  pub tail_row : (v : ℕ → Value) → FitsNodes shapes classes v → (m : OpenRow) × (v tail ≡ OfRow m)
  pub lower : (rank : ℕ → ℕ) → GoesDown shapes classes rank → rank (class_at classes first) < rank row → rank tail < rank row
  pub under : (rank : ℕ → ℕ) → GoesDown shapes classes rank → rank (class_at classes first) < rank row
      → (v : ℕ → Value) → BuildsBelow rank row shapes classes v → Respects classes v → (m : OpenRow) → v tail ≡ OfRow m → IsRowOf rest v (v tail) (v first)

-- a row without fields of its own, and not the hole
abbrev pub IsEnd : ℕ → List Shape → ℕ → Type 0
IsEnd hole shapes tail = (is_row_shape (shape_at shapes tail) ≡ true) × (tail ≢ hole) × (is_fields (shape_at shapes tail) ≡ false)

-- a class of fields has no label twice, down to a tail without fields, and never comes back to itself
abbrev pub IsCleanAt : List Shape → List ℕ → ℕ → Type 0
IsCleanAt shapes classes i =
    class_at classes i ≡ i → is_fields (shape_at shapes i) ≡ true → (fields : List Field) × (tail : ℕ) × IsFlatBut i shapes classes i fields tail × IsEnd i shapes tail

abbrev pub IsClean : List Shape → List ℕ → Type 0
IsClean shapes classes = (i : ℕ) → i < length shapes → IsCleanAt shapes classes i
