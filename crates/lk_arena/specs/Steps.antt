-- Steps of merging: what each says of the values that fit, and that it makes the weight less or keeps it. Backwards a step speaks
-- of values that fit at the names of classes (`WeakNodes`), which know nothing of the nodes that a class has besides; forwards of
-- values that fit at all nodes, which get values for the new ones. Kinds that fit at first fit afterwards too.
use Rattle.std.specs.Prelude.{◌≡◌, ◌≢◌, ℕ, ◌+◌, ◌<◌, ◌≤◌, true, false, List, [], ◌∷◌, length}
use Rattle.lk_types.specs.Each.{Each}
use Rattle.lk_arena.specs.Covering.{fields_count, CountLoose, CountTails, Covers, CoversAll, CoversBut, EqualCounts, IsCovered, SameCounts}
use Rattle.lk_arena.specs.Openings.{OpenRow}
use Rattle.lk_arena.specs.Kinds.{Kind, AreFieldsOf, AreKinded, EqualKinds, HasKind, HasKinds}
use Rattle.lk_arena.specs.Measures.{weight, worth}
use Rattle.lk_classes.specs.Classes.{class_at}
use Rattle.lk_arena.specs.Shapes.{shape_at, is_row_shape, is_fields, IsArena, IsBuilt, IsDistinct, IsRowOf, AreNodePairs, Equates, Respects, BuildsBut, FitsNodes, Fits, WeakNodes, WeakFits, HasNode, HasFit, HasTail}
use Rattle.lk_arena.specs.Values.{Value, OfRow}
use Rattle.lk_arena.specs.declared.node.Field.{Field}
use Rattle.lk_arena.specs.declared.node.Pair.{Pair}
use Rattle.lk_arena.specs.declared.node.Shape.{Shape}
use Rattle.lk_arena.specs.declared.node.Shape.TheVariants.{Open}

-- the pairs of two lists, up to the end of the shorter one
abbrev pub paired : List ℕ → List ℕ → List Pair
paired [] ys = []
paired (x ∷ xs) [] = []
paired (x ∷ xs) (y ∷ ys) = record { left = x; right = y } ∷ paired xs ys

-- two classes of n nodes
pub record AreApart (n : ℕ) (classes : List ℕ) (from to : ℕ) : Type 0 where
  pub from_below : from < n
  pub to_below : to < n
  pub from_named : class_at classes from ≡ from
  pub to_named : class_at classes to ≡ to
  pub apart : from ≢ to

-- a class of which only is known that it is a row, and fields before another row, one at least
pub record CanBind (shapes : List Shape) (classes : List ℕ) (node : ℕ) (fields : List Field) (tail : ℕ) : Type 0 where
  pub below : node < length shapes
  pub named : class_at classes node ≡ node
  pub loose : shape_at shapes node ≡ Open
  pub tail_below : tail < length shapes
  pub nodes : Each (λ f. f.node < length shapes) fields
  pub distinct : IsDistinct fields
  pub some : length fields ≢ 0

-- the class is these fields before that row now
pub record Binds (node : ℕ) (fields : List Field) (tail : ℕ) (shapes : List Shape) (classes : List ℕ) (shapes' : List Shape) (classes' : List ℕ) : Type 0 where
  pub arena : IsArena shapes' classes'
  pub count : length shapes' ≡ length shapes
  pub names : classes' ≡ classes
  pub others : (i : ℕ) → i ≢ node → shape_at shapes' i ≡ shape_at shapes i
  pub back : (v : ℕ → Value) → WeakNodes shapes' classes' v → WeakNodes shapes classes v
  pub row : (v : ℕ → Value) → WeakNodes shapes' classes' v → IsRowOf fields v (v tail) (v node)
  pub covers : (c : ℕ → ℕ) → Covers shapes' classes' c → Covers shapes classes c × (c node ≡ fields_count c fields + c tail)
  pub forth : (v : ℕ → Value) → FitsNodes shapes classes v → IsRowOf fields v (v tail) (v node) → FitsNodes shapes' classes' v
  pub kinds : (kind : ℕ → Kind) → AreKinded shapes classes kind → AreFieldsOf kind (kind node) fields → kind tail ≡ kind node → AreKinded shapes' classes' kind
  pub lighter : weight shapes' classes' < weight shapes classes

-- there is a node more, of which this is known
pub record Adds (s : Shape) (n : ℕ) (shapes : List Shape) (classes : List ℕ) (shapes' : List Shape) (classes' : List ℕ) : Type 0 where
  pub arena : IsArena shapes' classes'
  pub number : n ≡ length shapes
  pub count : length shapes' ≡ length shapes + 1
  pub shape_is : shape_at shapes' n ≡ s
  pub named : class_at classes' n ≡ n
  pub old_shapes : (i : ℕ) → i < length shapes → shape_at shapes' i ≡ shape_at shapes i
  pub old_classes : (i : ℕ) → i < length shapes → class_at classes' i ≡ class_at classes i
  pub back : (v : ℕ → Value) → WeakNodes shapes' classes' v → WeakNodes shapes classes v
  pub covers : (c : ℕ → ℕ) → Covers shapes' classes' c → Covers shapes classes c
  pub built : (v : ℕ → Value) → WeakNodes shapes' classes' v → IsBuilt s v (v n)
  pub forth : (v : ℕ → Value) (x : Value) → FitsNodes shapes classes v → IsBuilt s v x → HasNode shapes shapes' classes' v n x
  pub kinds : (kind : ℕ → Kind) (k : Kind) → AreKinded shapes classes kind → HasKind kind k s
      → (more : ℕ → Kind) × ((i : ℕ) → i < length shapes → more i ≡ kind i) × AreKinded shapes' classes' more × (more n ≡ k)
  pub heavier : weight shapes' classes' ≡ weight shapes classes + worth true s

-- the first class is in the second. What its own shape said is forgotten (`part`), so that whoever unites two classes has to say
-- why it holds still.
pub record Unites (from to : ℕ) (shapes : List Shape) (classes : List ℕ) (shapes' : List Shape) (classes' : List ℕ) : Type 0 where
  pub arena : IsArena shapes' classes'
  pub kept : shapes' ≡ shapes
  pub names : (i : ℕ) → i < length shapes → class_at classes i ≡ i → i ≢ from → class_at classes' i ≡ i
  pub part : (v : ℕ → Value) → WeakNodes shapes' classes' v
      → BuildsBut from shapes classes v × Respects classes v × (v from ≡ v to) × IsBuilt (shape_at shapes to) v (v to)
  pub covers : (c : ℕ → ℕ) → Covers shapes' classes' c
      → CoversBut from shapes classes c × SameCounts classes c × CountLoose shapes c × (c from ≡ c to) × IsCovered (shape_at shapes to) c (c to)
  pub before : (v : ℕ → Value) → FitsNodes shapes' classes' v → FitsNodes shapes classes v
  pub forth : (v : ℕ → Value) → FitsNodes shapes classes v → v from ≡ v to → FitsNodes shapes' classes' v
  pub kinds : (kind : ℕ → Kind) → AreKinded shapes classes kind → kind from ≡ kind to → AreKinded shapes' classes' kind
  pub lighter : weight shapes' classes' < weight shapes classes

-- the tails of two rows, and what the other row has besides. Only a row of which nothing is known can have more fields, and none
-- can have more fields than itself.
pub record AreTails (shapes : List Shape) (classes : List ℕ) (left right : ℕ) (lefts rights : List Field) : Type 0 where
  pub left_below : left < length shapes
  pub right_below : right < length shapes
  pub left_named : class_at classes left ≡ left
  pub right_named : class_at classes right ≡ right
  pub left_nodes : Each (λ f. f.node < length shapes) lefts
  pub right_nodes : Each (λ f. f.node < length shapes) rights
  pub left_distinct : IsDistinct lefts
  pub right_distinct : IsDistinct rights
  pub left_loose : length lefts ≢ 0 → shape_at shapes left ≡ Open
  pub right_loose : length rights ≢ 0 → shape_at shapes right ≡ Open
  pub same : left ≡ right → (length lefts ≡ 0) × (length rights ≡ 0)

-- a class of rows without fields of their own
pub record IsTail (shapes : List Shape) (classes : List ℕ) (tail : ℕ) : Type 0 where
  pub named : class_at classes tail ≡ tail
  pub row : is_row_shape (shape_at shapes tail) ≡ true
  pub plain : is_fields (shape_at shapes tail) ≡ false

-- two tails become fields before one row
pub record JoinsTails (left right : ℕ) (lefts rights : List Field) (shapes : List Shape) (classes : List ℕ) (queue : List Pair) (shapes' : List Shape) (classes' : List ℕ) (queue' : List Pair) : Type 0 where
  pub arena : IsArena shapes' classes'
  pub longer : length shapes ≤ length shapes'
  pub pairs : AreNodePairs (length shapes') queue'
  pub back : (v : ℕ → Value) → WeakFits shapes' classes' queue' v → WeakFits shapes classes queue v
  pub tails : (v : ℕ → Value) (row : OpenRow) → WeakFits shapes' classes' queue' v → v right ≡ OfRow row → HasTail lefts rights v (v left) (v right)
  pub covers : (c : ℕ → ℕ) → CoversAll shapes' classes' queue' c → CoversAll shapes classes queue c × CountTails lefts rights c (c left) (c right)
  pub forth : (v : ℕ → Value) (row : OpenRow) → Fits shapes classes queue v → IsRowOf lefts v (OfRow row) (v left) → IsRowOf rights v (OfRow row) (v right)
      → HasFit shapes shapes' classes' queue' v
  pub kinds : (kind : ℕ → Kind) (k : Kind) → AreKinded shapes classes kind → EqualKinds queue kind → kind left ≡ k → kind right ≡ k → AreFieldsOf kind k lefts
      → AreFieldsOf kind k rights → HasKinds shapes shapes' classes' queue' kind
  pub lighter : weight shapes' classes' ≤ weight shapes classes

-- two rows are one, of which the fields and the tails are known. The left one can be told from the right one.
pub record JoinsRows (left_row right_row : ℕ) (lefts rights : List Field) (left right : ℕ) (shapes : List Shape) (classes : List ℕ) (queue : List Pair) (shapes' : List Shape) (classes' : List ℕ)
    (queue' : List Pair) : Type 0 where
  pub arena : IsArena shapes' classes'
  pub longer : length shapes ≤ length shapes'
  pub pairs : AreNodePairs (length shapes') queue'
  pub back : (v : ℕ → Value) → WeakFits shapes' classes' queue' v → WeakFits shapes classes queue v
  pub rebuilt : (v : ℕ → Value) (row : OpenRow) (x : Value) → WeakFits shapes' classes' queue' v → v right ≡ OfRow row → IsRowOf rights v (v right) x
      → IsRowOf lefts v (v left) x
  pub covers : (c : ℕ → ℕ) → CoversAll shapes' classes' queue' c → CoversAll shapes classes queue c × (fields_count c lefts + c left ≡ fields_count c rights + c right)
  pub forth : (v : ℕ → Value) → Fits shapes classes queue v → v left_row ≡ v right_row → HasFit shapes shapes' classes' queue' v
  pub kinds : (kind : ℕ → Kind) (k : Kind) → AreKinded shapes classes kind → EqualKinds queue kind → kind left ≡ k → kind right ≡ k → AreFieldsOf kind k lefts
      → AreFieldsOf kind k rights → HasKinds shapes shapes' classes' queue' kind
  pub lighter : weight shapes' classes' ≤ weight shapes classes

-- two classes become one
pub record Merges (from to : ℕ) (shapes : List Shape) (classes : List ℕ) (queue : List Pair) (shapes' : List Shape) (classes' : List ℕ) (queue' : List Pair) : Type 0 where
  pub arena : IsArena shapes' classes'
  pub longer : length shapes ≤ length shapes'
  pub pairs : AreNodePairs (length shapes') queue'
  pub back : (v : ℕ → Value) → WeakFits shapes' classes' queue' v → WeakFits shapes classes queue v × (v from ≡ v to)
  pub covers : (c : ℕ → ℕ) → CoversAll shapes' classes' queue' c → CoversAll shapes classes queue c × (c from ≡ c to)
  pub forth : (v : ℕ → Value) → Fits shapes classes queue v → v from ≡ v to → HasFit shapes shapes' classes' queue' v
  pub kinds : (kind : ℕ → Kind) → AreKinded shapes classes kind → EqualKinds queue kind → kind from ≡ kind to → HasKinds shapes shapes' classes' queue' kind
  pub lighter : weight shapes' classes' < weight shapes classes

-- ---- pairs that wait

-- where nodes of one class have one value, the pairs of both lists say the same
pub record SamePairs (classes : List ℕ) (pairs pairs' : List Pair) : Type 0 where
  pub back : (v : ℕ → Value) → Respects classes v → Equates pairs' v → Equates pairs v
  pub counts : (c : ℕ → ℕ) → SameCounts classes c → EqualCounts pairs' c → EqualCounts pairs c
  pub forth : (v : ℕ → Value) → Respects classes v → Equates pairs v → Equates pairs' v
  pub kinds : (kind : ℕ → Kind) → ((i : ℕ) → i < length classes → kind i ≡ kind (class_at classes i)) → EqualKinds pairs kind → EqualKinds pairs' kind

-- the values that fit in the end are those that fitted at first and were the same at two nodes, with values for the new nodes
pub record Leads (left right : ℕ) (shapes : List Shape) (classes : List ℕ) (shapes' : List Shape) (classes' : List ℕ) (queue' : List Pair) : Type 0 where
  pub arena : IsArena shapes' classes'
  pub longer : length shapes ≤ length shapes'
  pub pairs : AreNodePairs (length shapes') queue'
  pub back : (v : ℕ → Value) → WeakFits shapes' classes' queue' v → WeakNodes shapes classes v × (v left ≡ v right)
  pub covers : (c : ℕ → ℕ) → CoversAll shapes' classes' queue' c → Covers shapes classes c
  pub forth : (v : ℕ → Value) → FitsNodes shapes classes v → v left ≡ v right → HasFit shapes shapes' classes' queue' v
  pub kinds : (kind : ℕ → Kind) → AreKinded shapes classes kind → kind left ≡ kind right → HasKinds shapes shapes' classes' queue' kind
