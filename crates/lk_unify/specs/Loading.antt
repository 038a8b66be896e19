-- Types as nodes: a node for each variable, the same one wherever it stands again, one for each constructor, for each row with
-- fields and for each end of a row without a variable. What nodes and values have to do with what types become (`Opening`).
use Rattle.std.specs.BTreeMap.{get}
use Rattle.std.specs.Option.{option_map}
use Rattle.std.specs.Ordering.{nat_cmp}
use Rattle.std.specs.Prelude.{◌≡◌, ◌≢◌, ℕ, ◌<◌, ◌≤◌, false, List, ◌∷◌, [], ◌++◌, length, map, Option, Some, None}
use Rattle.lk_types.specs.Each.{Each}
use Rattle.lk_types.specs.Grounding.{all_of}
use Rattle.lk_types.specs.TypeText.{effect_word}
use Rattle.lk_types.specs.declared.equation.Equation.{Equation}
use Rattle.lk_types.specs.declared.ty.Effect.{Effect}
use Rattle.lk_types.specs.declared.ty.Effects.{Effects}
use Rattle.lk_types.specs.declared.ty.RowTail.TheVariants.{Closed}
use Rattle.lk_types.specs.declared.ty.Ty.{Ty}
use Rattle.lk_types.specs.declared.ty.TyField.{TyField}
use Rattle.lk_types.specs.declared.ty.TyRow.{TyRow}
use Rattle.lk_types.specs.declared.ty.Variable.{Variable}
use Rattle.lk_types.specs.declared.ty.Variable.TheVariants as variable
use Rattle.lk_arena.specs.Covering.{Covers}
use Rattle.lk_arena.specs.Kinds.{Kind, OfTypes, OfFields, OfEffects, OfUnit, OfNothing, AreKinded, HasKind}
use Rattle.lk_arena.specs.Openings.{Opening, IsOpenMet, opened, row_opened, effects_opened, only_tail}
use Rattle.lk_arena.specs.Shapes.{fields_in, is_loose_shape, parts_of, AllBelow, HasFields, HasNode, IsArena, IsBuilt, IsDistinct, SameBelow, FitsNodes, WeakNodes}
use Rattle.lk_arena.specs.Values.{Value, Plain, OfRow, effect_row}
use Rattle.lk_unify.specs.NamedNodes.{node_in}
use Rattle.lk_unify.specs.declared.loader.Loader.{Loader}
use Rattle.lk_unify.specs.declared.loader.MadeNode.{MadeNode}
use Rattle.lk_unify.specs.declared.loader.NodeKind.{NodeKind}
use Rattle.lk_unify.specs.declared.loader.NodeKind.TheVariants as node
use Rattle.lk_arena.specs.declared.node.Field.{Field}
use Rattle.lk_arena.specs.declared.node.Head.TheVariants as head
use Rattle.lk_arena.specs.declared.node.Pair.{Pair}
use Rattle.lk_arena.specs.declared.node.Shape.{Shape}
use Rattle.lk_arena.specs.declared.node.Shape.TheVariants.{Free, Open, Made}
use Rattle.lk_arena.specs.declared.node.Shape.TheVariants as shape

-- ---- what variables, types and rows become, as values

abbrev pub value_of : Opening → Variable → Value
value_of ρ (variable.Plain n) = Plain (ρ.plain n)
value_of ρ (variable.Row n) = OfRow (ρ.rows n)
value_of ρ (variable.Effects n) = OfRow (effect_row (ρ.effects n))

abbrev pub type_meaning : Ty → Opening → Option Value
type_meaning t ρ = option_map Plain (opened ρ t)

abbrev pub types_meaning : List Ty → Opening → Option (List Value)
types_meaning ts ρ = all_of (map (λ t. type_meaning t ρ) ts)

-- the types of the fields
abbrev pub fields_meaning : List TyField → Opening → Option (List Value)
fields_meaning fs ρ = all_of (map (λ f. type_meaning f.ty ρ) fs)

abbrev pub row_meaning : TyRow → Opening → Option Value
row_meaning row ρ = option_map OfRow (row_opened ρ row)

abbrev pub effects_meaning : Effects → Opening → Option Value
effects_meaning es ρ = option_map (λ s. OfRow (effect_row s)) (effects_opened ρ es)

-- the end of a row, which is nothing more or a variable
abbrev pub end_value : Option Variable → Opening → Value
end_value None ρ = OfRow (only_tail Closed)
end_value (Some x) ρ = value_of ρ x

-- ---- nodes for variables

abbrev pub node_for : Loader → Variable → Option ℕ
node_for l x = node_in l.names x

-- what is known of a variable before anything is merged
abbrev pub shape_for : Variable → Shape
shape_for (variable.Plain n) = Free
shape_for (variable.Row n) = Open
shape_for (variable.Effects n) = Open

-- the nodes of the variables have the values that stand for them
pub record Agrees (l : Loader) (ρ : Opening) (v : ℕ → Value) : Type 0 where
  pub at : (x : Variable) (n : ℕ) → node_for l x ≡ Some n → v n ≡ value_of ρ x

-- ---- what covers nodes

-- numbers that cover the nodes of the second cover those of the first
abbrev pub CoversBack : Loader → Loader → Type 0
CoversBack old new = (c : ℕ → ℕ) → Covers new.arena.shapes new.arena.classes c → Covers old.arena.shapes old.arena.classes c

-- ---- nodes that are used again

-- the one that was made with this number
abbrev pub made_at : Loader → ℕ → Option MadeNode
made_at l key = get nat_cmp l.made key

-- something is known of it, and it has it still, whatever was merged since then
pub record IsMade (shapes : List Shape) (classes : List ℕ) (made : MadeNode) : Type 0 where
  pub below : made.node < length shapes
  pub known : is_loose_shape made.shape ≡ false
  pub built : (v : ℕ → Value) → WeakNodes shapes classes v → IsBuilt made.shape v (v made.node)

pub record IsLoader (l : Loader) : Type 0 where
  pub arena : IsArena l.arena.shapes l.arena.classes
  pub named : (x : Variable) (n : ℕ) → node_for l x ≡ Some n → n < length l.arena.shapes
  pub made : (key : ℕ) (made : MadeNode) → made_at l key ≡ Some made → IsMade l.arena.shapes l.arena.classes made

-- ---- kinds of nodes

abbrev pub kind_of : Variable → Kind
kind_of (variable.Plain n) = OfTypes
kind_of (variable.Row n) = OfFields
kind_of (variable.Effects n) = OfEffects

abbrev pub kind_for : NodeKind → Kind
kind_for node.Types = OfTypes
kind_for node.Fields = OfFields
kind_for node.Effects = OfEffects
kind_for node.Unit = OfUnit
kind_for node.Nothing = OfNothing

-- the end of a row of this kind
abbrev pub IsEndOf : Option Variable → Kind → Type 0
IsEndOf (Some x) k = k ≡ kind_of x
IsEndOf None OfFields = Unit {0}
IsEndOf None OfEffects = Unit {0}
IsEndOf None k = ⊥

-- the nodes have these kinds, those of the variables the kinds of the variables and those that were made the kinds they were made of
pub record IsKinded (l : Loader) (kind : ℕ → Kind) : Type 0 where
  pub nodes : AreKinded l.arena.shapes l.arena.classes kind
  pub named : (x : Variable) (n : ℕ) → node_for l x ≡ Some n → kind n ≡ kind_of x
  pub made : (key : ℕ) (made : MadeNode) → made_at l key ≡ Some made → kind made.node ≡ kind_for made.kind

-- the first n nodes have the same kinds
abbrev pub SameKinds : ℕ → (ℕ → Kind) → (ℕ → Kind) → Type 0
SameKinds n k j = (i : ℕ) → i < n → j i ≡ k i

-- kinds that are as before at the old nodes, and of which P holds besides
abbrev pub BringsKinds : Loader → Loader → (ℕ → Kind) → ((ℕ → Kind) → Type 0) → Type 0
BringsKinds old new k P = (j : ℕ → Kind) × SameKinds (length old.arena.shapes) k j × IsKinded new j × P j

pub record KindsTo (old new : Loader) (P : (ℕ → Kind) → Type 0) : Type 0 where
  pub local : (k j : ℕ → Kind) → SameKinds (length new.arena.shapes) k j → P k → P j
  pub kinds : (k : ℕ → Kind) → IsKinded old k → BringsKinds old new k P

-- ---- loading

-- values that are as before at the old nodes, agree with what stands for the variables, and are read as `x`
abbrev pub Brings : {A : Type 0} → Loader → Loader → Opening → (ℕ → Value) → ((ℕ → Value) → A) → A → Type 0
Brings old new ρ v read x = (w : ℕ → Value) × SameBelow (length old.arena.shapes) v w × FitsNodes new.arena.shapes new.arena.classes w × Agrees new ρ w × (read w ≡ x)

-- From nodes to more nodes, among them some of which is read what something becomes. Values that fit the new nodes are read as
-- what it becomes, and where it becomes something there are values for the new nodes.
pub record LoadsTo {A : Type 0} (old new : Loader) (meaning : Opening → Option A) (read : (ℕ → Value) → A) : Type 0 where
  pub whole : IsLoader new
  pub longer : length old.arena.shapes ≤ length new.arena.shapes
  pub kept : (x : Variable) (n : ℕ) → node_for old x ≡ Some n → node_for new x ≡ Some n
  pub local : (v w : ℕ → Value) → SameBelow (length new.arena.shapes) v w → read w ≡ read v
  pub back : (v : ℕ → Value) → WeakNodes new.arena.shapes new.arena.classes v → WeakNodes old.arena.shapes old.arena.classes v
  pub covers : CoversBack old new
  pub is : (v : ℕ → Value) (ρ : Opening) → WeakNodes new.arena.shapes new.arena.classes v → Agrees new ρ v → meaning ρ ≡ Some (read v)
  pub forth : (v : ℕ → Value) (ρ : Opening) (x : A) → FitsNodes old.arena.shapes old.arena.classes v → Agrees old ρ v → meaning ρ ≡ Some x → Brings old new ρ v read x

-- a node of this kind that stands for it
pub record Loads (old new : Loader) (kind : Kind) (meaning : Opening → Option Value) (node : ℕ) : Type 0 where
  pub below : node < length new.arena.shapes
  pub kinds : KindsTo old new (λ j. j node ≡ kind)
  pub to : LoadsTo old new meaning (λ v. v node)

-- nodes that stand for several types
pub record LoadsAll (old new : Loader) (meaning : Opening → Option (List Value)) (nodes : List ℕ) : Type 0 where
  pub below : Each (λ n. n < length new.arena.shapes) nodes
  pub kinds : KindsTo old new (λ j. Each (λ n. j n ≡ OfTypes) nodes)
  pub to : LoadsTo old new meaning (λ v. map v nodes)

-- nodes that stand for the types of fields
pub record LoadsFields (old new : Loader) (fs : List TyField) (fields : List Field) : Type 0 where
  pub below : Each (λ f. f.node < length new.arena.shapes) fields
  pub kinds : KindsTo old new (λ j. Each (λ f. j f.node ≡ OfTypes) fields)
  pub labels : map (λ f. f.label) fields ≡ map (λ f. f.label) fs
  pub to : LoadsTo old new (fields_meaning fs) (λ v. map (λ f. v f.node) fields)

-- Answers: nodes, or none where it becomes nothing whatever stands for the variables, since a row in it has a label twice.

abbrev pub NeverMeans : {A : Type 0} → (Opening → Option A) → Type 0
NeverMeans meaning = (ρ : Opening) → meaning ρ ≡ None

abbrev pub Loaded : Loader → Loader → Kind → (Opening → Option Value) → Option ℕ → Type 0
Loaded old new kind meaning None = NeverMeans meaning
Loaded old new kind meaning (Some n) = Loads old new kind meaning n

-- a node for the end of a row of this kind
abbrev pub LoadsEnd : Loader → Loader → Kind → Option Variable → ℕ → Type 0
LoadsEnd old new kind tail n = IsEndOf tail kind → Loads old new kind (λ ρ. Some (end_value tail ρ)) n

abbrev pub LoadedAll : Loader → Loader → (Opening → Option (List Value)) → Option (List ℕ) → Type 0
LoadedAll old new meaning None = NeverMeans meaning
LoadedAll old new meaning (Some ns) = LoadsAll old new meaning ns

abbrev pub LoadedFields : Loader → Loader → List TyField → Option (List Field) → Type 0
LoadedFields old new fs None = NeverMeans (fields_meaning fs)
LoadedFields old new fs (Some fields) = LoadsFields old new fs fields

-- ---- one node more

pub record Adds (old new : Loader) (s : Shape) (n : ℕ) : Type 0 where
  pub number : n ≡ length old.arena.shapes
  pub shapes : new.arena.shapes ≡ old.arena.shapes ++ s ∷ []
  pub classes : new.arena.classes ≡ old.arena.classes ++ length old.arena.classes ∷ []
  pub names : new.names ≡ old.names
  pub made : new.made ≡ old.made

-- it was made for this
abbrev pub IsFound : Loader → NodeKind → Shape → ℕ → Type 0
IsFound l kind s n = (key : ℕ) × (made_at l key ≡ Some (record { kind = kind; shape = s; node = n }))

-- a node can be made for this
pub record CanMake (l : Loader) (s : Shape) : Type 0 where
  pub whole : IsLoader l
  pub parts : AllBelow (length l.arena.shapes) (parts_of s)
  pub distinct : IsDistinct (fields_in s)
  pub filled : HasFields s
  pub known : is_loose_shape s ≡ false

-- Of the node this is known, and it has this kind: an old one or a new one. What fits the new nodes fits the old ones, and whatever
-- has this shape can be its value.
pub record Makes (old new : Loader) (kind : Kind) (s : Shape) (n : ℕ) : Type 0 where
  pub whole : IsLoader new
  pub longer : length old.arena.shapes ≤ length new.arena.shapes
  pub below : n < length new.arena.shapes
  pub names : (x : Variable) → node_for new x ≡ node_for old x
  pub back : (v : ℕ → Value) → WeakNodes new.arena.shapes new.arena.classes v → WeakNodes old.arena.shapes old.arena.classes v
  pub covers : CoversBack old new
  pub built : (v : ℕ → Value) → WeakNodes new.arena.shapes new.arena.classes v → IsBuilt s v (v n)
  pub forth : (v : ℕ → Value) (x : Value) → FitsNodes old.arena.shapes old.arena.classes v → IsBuilt s v x → HasNode old.arena.shapes new.arena.shapes new.arena.classes v n x
  pub kinds : (k : ℕ → Kind) → IsKinded old k → HasKind k kind s → BringsKinds old new k (λ j. j n ≡ kind)

-- fields before a row can be added
pub record CanAddRow (l : Loader) (fields : List Field) (tail : ℕ) : Type 0 where
  pub whole : IsLoader l
  pub tail_below : tail < length l.arena.shapes
  pub below : Each (λ f. f.node < length l.arena.shapes) fields
  pub some : length fields ≢ 0

-- fields before a row, if no label stands twice among them
abbrev pub AddsRow : Loader → Loader → Kind → List Field → ℕ → Option ℕ → Type 0
AddsRow old new kind fields tail None = IsDistinct fields → ⊥
AddsRow old new kind fields tail (Some n) = IsDistinct fields × Makes old new kind (shape.Row fields tail) n

-- a function with these nodes for its result and its parameters, if no effect stands twice
abbrev pub AddsFunction : Loader → Loader → Effects → ℕ → List ℕ → Option ℕ → Type 0
AddsFunction old new es answer params None = NeverMeans (effects_meaning es)
AddsFunction old new es answer params (Some n) =
    (between : Loader) × (effects : ℕ) × Loads old between OfEffects (effects_meaning es) effects × Makes between new OfTypes (Made head.Fun (effects ∷ (answer ∷ params))) n

-- the effects as fields
abbrev pub effect_fields : ℕ → List Effect → List Field
effect_fields unit es = map (λ e. record { label = effect_word e; node = unit }) es

-- ---- equations

-- values as before at the old nodes, which agree with what stands for the variables, and are the same at both nodes
abbrev pub BringsSame : Loader → Loader → Opening → (ℕ → Value) → Pair → Type 0
BringsSame old new ρ v p = (w : ℕ → Value) × SameBelow (length old.arena.shapes) v w × FitsNodes new.arena.shapes new.arena.classes w × Agrees new ρ w × (w p.left ≡ w p.right)

-- Nodes that stand for the two sides. What is put for the variables meets the equation where the nodes have one value, and where
-- it meets it there are values for the new nodes.
pub record LoadsEquation (old new : Loader) (e : Equation) (p : Pair) : Type 0 where
  pub whole : IsLoader new
  pub longer : length old.arena.shapes ≤ length new.arena.shapes
  pub kept : (x : Variable) (n : ℕ) → node_for old x ≡ Some n → node_for new x ≡ Some n
  pub left_below : p.left < length new.arena.shapes
  pub right_below : p.right < length new.arena.shapes
  pub kinds : KindsTo old new (λ j. (j p.left ≡ OfTypes) × (j p.right ≡ OfTypes))
  pub back : (v : ℕ → Value) → WeakNodes new.arena.shapes new.arena.classes v → WeakNodes old.arena.shapes old.arena.classes v
  pub covers : CoversBack old new
  pub sides : (v : ℕ → Value) (ρ : Opening) → WeakNodes new.arena.shapes new.arena.classes v → Agrees new ρ v → (type_meaning e.left ρ ≡ Some (v p.left)) × (type_meaning e.right ρ ≡ Some (v p.right))
  pub is : (v : ℕ → Value) (ρ : Opening) → WeakNodes new.arena.shapes new.arena.classes v → Agrees new ρ v → v p.left ≡ v p.right → IsOpenMet ρ e
  pub forth : (v : ℕ → Value) (ρ : Opening) → FitsNodes old.arena.shapes old.arena.classes v → Agrees old ρ v → IsOpenMet ρ e → BringsSame old new ρ v p

abbrev pub LoadedEquation : Loader → Loader → Equation → Option Pair → Type 0
LoadedEquation old new e None = (ρ : Opening) → IsOpenMet ρ e → ⊥
LoadedEquation old new e (Some p) = LoadsEquation old new e p
