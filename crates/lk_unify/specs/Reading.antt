-- What is read back of the classes: what their values put for the variables.
use Rattle.std.specs.FinMap as fin
use Rattle.std.specs.Prelude.{◌≡◌, ◌==◌, ◌&&◌, ℕ, ◌<◌, Bool, true, List, [], ◌∷◌, flat_map, length, slice_index_or as get_or, Option, Some, None, is_some}
use Rattle.lk_classes.specs.Classes.{class_at}
use Rattle.lk_types.specs.Each.{Each}
use Rattle.lk_types.specs.Rows.{Label, label_order}
use Rattle.lk_types.specs.TypeText.{effect_word}
use Rattle.lk_types.specs.declared.equation.Binding.{Binding}
use Rattle.lk_types.specs.declared.equation.Image.{Image}
use Rattle.lk_types.specs.declared.equation.Image.TheVariants as image
use Rattle.lk_types.specs.declared.equation.Subst.{Subst}
use Rattle.lk_types.specs.declared.ty.RowTail.TheVariants.{Closed, Var}
use Rattle.lk_types.specs.declared.ty.Ty.{Ty}
use Rattle.lk_types.specs.declared.ty.Ty.TheVariants as ty
use Rattle.lk_types.specs.declared.ty.Variable.{Variable}
use Rattle.lk_types.specs.declared.ty.Variable.TheVariants as variable
use Rattle.lk_arena.specs.Kinds.{Kind, OfTypes, OfFields, OfEffects, OfUnit, OfNothing, AreKinded}
use Rattle.lk_unify.specs.Loading.{node_for}
use Rattle.lk_unify.specs.NamedNodes.{number_of}
use Rattle.lk_arena.specs.Openings.{OpenRow, OpenEffects, Opening, only_tail, row_type, effects_type}
use Rattle.lk_arena.specs.Order.{IsRanked}
use Rattle.lk_arena.specs.Shapes.{shape_at, is_loose_shape, IsArena, IsDistinct, IsPlain}
use Rattle.lk_arena.specs.Values.{Value, Plain, OfRow}
use Rattle.lk_arena.specs.declared.arena.Arena.{Arena}
use Rattle.lk_unify.specs.declared.loader.Loader.{Loader}
use Rattle.lk_unify.specs.declared.row_fields.MadeRow.{MadeRow}
use Rattle.lk_arena.specs.declared.node.Field.{Field}
use Rattle.lk_arena.specs.declared.node.Head.{Head}
use Rattle.lk_arena.specs.declared.node.Head.TheVariants as head

abbrev pub type_in : Value → Ty
type_in (Plain t) = t
type_in (OfRow m) = ty.Int

abbrev pub row_in : Value → OpenRow
row_in (Plain t) = only_tail Closed
row_in (OfRow m) = m

-- the effects that are labels of a row
abbrev pub effects_in : OpenRow → OpenEffects
effects_in m = record { labels = λ e. is_some (fin.get m.fields (effect_word e)); tail = m.tail }

-- the value of the node that a variable has, or another
abbrev pub value_or : Option ℕ → (ℕ → Value) → Value → Value
value_or None u x = x
value_or (Some n) u x = u n

-- what the values put for the variables; a variable without a node stays what it is
abbrev pub opening_by : Loader → (ℕ → Value) → Opening
opening_by l u = record {
  plain = λ n. type_in (value_or (node_for l (variable.Plain n)) u (Plain (ty.Var n)));
  rows = λ n. row_in (value_or (node_for l (variable.Row n)) u (OfRow (only_tail (Var n))));
  effects = λ n. effects_in (row_in (value_or (node_for l (variable.Effects n)) u (OfRow (only_tail (Var n)))));
}

-- the value as what is put for a variable
abbrev pub image_of : Variable → Value → Image
image_of (variable.Plain n) x = image.Plain (type_in x)
image_of (variable.Row n) x = image.Row (row_type (row_in x))
image_of (variable.Effects n) x = image.Effects (effects_type (effects_in (row_in x)))

-- what is put for a variable, by the value of its node
abbrev pub binding_by : Variable → (ℕ → Value) → Option ℕ → List Binding
binding_by x u None = []
binding_by x u (Some n) = record { var = number_of x; is = image_of x (u n) } ∷ []

-- what the values put for each of these variables that has a node
abbrev pub subst_of : List Variable → Loader → (ℕ → Value) → Subst
subst_of xs l u = record { binds = flat_map (λ x. binding_by x u (node_for l x)) xs }

-- ---- variables for the classes of which nothing is known

abbrev pub own_variable : Kind → ℕ → Variable
own_variable OfTypes n = variable.Plain n
own_variable OfFields n = variable.Row n
own_variable OfEffects n = variable.Effects n
own_variable OfUnit n = variable.Plain n
own_variable OfNothing n = variable.Row n

-- Each class of which nothing is known has a name of its own, which is that of no variable with a node. `owner` is the class that a
-- name belongs to.
pub record IsNaming (l : Loader) (kind : ℕ → Kind) (name : ℕ → ℕ) (owner : ℕ → ℕ) : Type 0 where
  pub owned : (i : ℕ) → i < length l.arena.shapes → class_at l.arena.classes i ≡ i → is_loose_shape (shape_at l.arena.shapes i) ≡ true → owner (name i) ≡ i
  pub unused : (i : ℕ) → i < length l.arena.shapes → class_at l.arena.classes i ≡ i → is_loose_shape (shape_at l.arena.shapes i) ≡ true → node_for l (own_variable (kind i) (name i)) ≡ None

-- no variable with this number has a node
abbrev pub IsUnused : Loader → ℕ → Type 0
IsUnused l n = (node_for l (variable.Plain n) ≡ None) × (node_for l (variable.Row n) ≡ None) × (node_for l (variable.Effects n) ≡ None)

-- the node names a class of which nothing is known
abbrev pub is_own_class : Loader → ℕ → Bool
is_own_class l i = (class_at l.arena.classes i == i) && is_loose_shape (shape_at l.arena.shapes i)

-- the number of a class, or 0
abbrev pub name_in : List ℕ → ℕ → ℕ
name_in numbers i = get_or numbers i 0

-- ---- what reading rests on

-- a node of this kind, among nodes whose kinds fit, in a class that stands lower than `fuel`
pub record CanRead (nodes : Arena) (numbers : List ℕ) (fuel node : ℕ) (k : Kind) : Type 0 where
  pub arena : IsArena nodes.shapes nodes.classes
  pub count : length numbers ≡ length nodes.shapes
  pub below : node < length nodes.shapes
  pub kind : ℕ → Kind
  pub kinded : AreKinded nodes.shapes nodes.classes kind
  pub kind_is : kind node ≡ k
  pub rank : ℕ → ℕ
  pub ranked : IsRanked nodes.shapes nodes.classes rank
  pub room : rank (class_at nodes.classes node) < fuel

-- the parts of a constructor are as many as it takes, of the kinds that it takes
abbrev pub CanReadParts : Arena → List ℕ → ℕ → Head → List ℕ → Type 0
CanReadParts nodes numbers fuel head.Int [] = Unit {0}
CanReadParts nodes numbers fuel head.Bool [] = Unit {0}
CanReadParts nodes numbers fuel head.Text [] = Unit {0}
CanReadParts nodes numbers fuel head.List (p ∷ []) = CanRead nodes numbers fuel p OfTypes
CanReadParts nodes numbers fuel head.Fields (p ∷ []) = CanRead nodes numbers fuel p OfFields
CanReadParts nodes numbers fuel head.Tags (p ∷ []) = CanRead nodes numbers fuel p OfFields
CanReadParts nodes numbers fuel head.Fun (p ∷ answer ∷ params) =
    CanRead nodes numbers fuel p OfEffects × CanRead nodes numbers fuel answer OfTypes × Each (λ q. CanRead nodes numbers fuel q OfTypes) params
CanReadParts _ _ _ _ _ = ⊥

-- ---- rows, field by field

-- types under their labels
abbrev pub RowTypes : Type 0
RowTypes = fin.FinMap label_order Ty

abbrev pub no_types : RowTypes
no_types = fin.empty

-- a row that is made
abbrev pub as_open : MadeRow → OpenRow
as_open row = record { fields = row.types; tail = row.tail }

-- the row with one field more
abbrev pub with_entry : OpenRow → Label → Ty → OpenRow
with_entry m l t = record { fields = fin.insert m.fields l t; tail = m.tail }

-- the row with these fields before it
abbrev pub with_fields : List Field → (ℕ → Value) → OpenRow → OpenRow
with_fields [] u m = m
with_fields (f ∷ fs) u m = with_entry (with_fields fs u m) f.label (type_in (u f.node))

-- they can stand before it, since no label is there twice
pub record CanStand (fs : List Field) (u : ℕ → Value) (m : OpenRow) : Type 0 where
  pub plain : Each (λ f. IsPlain (u f.node)) fs
  pub fresh : Each (λ f. fin.get m.fields f.label ≡ None) fs
  pub distinct : IsDistinct fs
