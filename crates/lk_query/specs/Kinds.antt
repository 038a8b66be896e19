-- What kind of thing each part of a query gives, so that SQL can say it: each list has rows with the same labels, an operation has as
-- many operands as it takes, and a bound value is looked at where it is bound.
use Rattle.std.specs.Prelude.{◌≡◌, ◌≢◌, ℕ, ◌+◌, ◌<◌, Bool, true, List, [], ◌∷◌, Option, Some, None, length, map, slice_get}
use Rattle.std.specs.List.{list_all}
use Rattle.lk_ast.specs.declared.table.Column.{Column}
use Rattle.lk_sql.specs.Good.{are_distinct, are_in_order, is_there, operand_count}
use Rattle.lk_sql.specs.declared.tree.Key.{Key}
use Rattle.lk_query.specs.Order.{bind}
use Rattle.lk_query.specs.declared.part.Labelled.{Labelled}
use Rattle.lk_query.specs.declared.part.Part.{Part}
use Rattle.lk_query.specs.declared.part.Part.TheVariants as part
use Rattle.lk_query.specs.declared.query.Captured.{Captured}
use Rattle.lk_query.specs.declared.query.Captured.TheVariants as captured
use Rattle.lk_query.specs.declared.query.InlinedChange.{InlinedChange}
use Rattle.lk_query.specs.declared.query.Query.{Query}

-- a base, a record with these labels, or a list of such records
pub data Kind : Type 0 where
  OfBase : Kind
  OfRecord : (labels : List (List ℕ)) → Kind
  OfList : (labels : List (List ℕ)) → Kind

-- at least one, in byte order
abbrev pub AreColumns : List (List ℕ) → Type 0
AreColumns [] = ⊥
AreColumns (label ∷ labels) = are_in_order (label ∷ labels) ≡ true

-- a list has such columns
abbrev pub HasColumns : Kind → Type 0
HasColumns (OfList labels) = AreColumns labels
HasColumns kind = Unit {0}

abbrev pub IsList : Kind → Type 0
IsList (OfList labels) = Unit {0}
IsList kind = ⊥

abbrev pub IsNoList : Kind → Type 0
IsNoList (OfList labels) = ⊥
IsNoList kind = Unit {0}

abbrev pub labels_of : List Column → List (List ℕ)
labels_of columns = map (λ (column : Column). column.label) columns

-- ---- parts

-- the kind of the part of each number, and which numbers each may look at what is bound to
module _ (kinds : ℕ → Kind) (scopes : ℕ → ℕ → Bool) where
  module _ (n : ℕ) where
    -- an own part of part n, of this kind, in its scope
    abbrev pub Has : Kind → ℕ → Type 0
    Has kind a = (kinds a ≡ kind) × ((k : ℕ) → scopes a k ≡ true → scopes n k ≡ true)

    -- the same where something is bound to x besides
    abbrev pub HasUnder : ℕ → Kind → ℕ → Type 0
    HasUnder x kind a = (kinds a ≡ kind) × ((k : ℕ) → scopes a k ≡ true → k ≢ x → scopes n k ≡ true)

    abbrev pub AllHave : Kind → List ℕ → Type 0
    AllHave kind [] = Unit {0}
    AllHave kind (item ∷ items) = Has kind item × AllHave kind items

    abbrev pub AreBases : List Labelled → Type 0
    AreBases [] = Unit {0}
    AreBases (item ∷ items) = Has OfBase item.part × AreBases items

    -- part n gives a thing of this kind
    abbrev pub Is : Part → Kind → Type 0
    Is (part.Lit b) kind = kind ≡ OfBase
    Is part.Bound kind = IsNoList kind × (scopes n n ≡ true)
    Is (part.Case c a b) kind = (kind ≡ OfBase) × Has OfBase c × Has OfBase a × Has OfBase b
    Is (part.If c a b) kind = IsList kind × Has OfBase c × Has kind a × Has kind b
    Is (part.IfRow labels c a b) kind = (kind ≡ OfRecord labels) × Has OfBase c × Has kind a × Has kind b
    Is (part.One o a) kind = (kind ≡ OfBase) × (operand_count o ≡ 1) × Has OfBase a
    Is (part.Two o a b) kind = (kind ≡ OfBase) × (operand_count o ≡ 2) × Has OfBase a × Has OfBase b
    Is (part.EqRows labels a b) kind = (kind ≡ OfBase) × Has (OfRecord labels) a × Has (OfRecord labels) b
    Is (part.Empty columns list) kind = (kind ≡ OfBase) × Has (OfList (labels_of columns)) list
    Is (part.Record items) kind = (kind ≡ OfRecord (map (λ (item : Labelled). item.label) items)) × AreBases items
    Is (part.Extend labels items rest) kind = (kind ≡ OfRecord labels) × AreBases items × ((others : List (List ℕ)) × Has (OfRecord others) rest)
    Is (part.Project a label) kind = (kind ≡ OfBase) × ((others : List (List ℕ)) × Has (OfRecord others) a)
    Is (part.Items items) kind = (labels : List (List ℕ)) × (kind ≡ OfList labels) × AllHave (OfRecord labels) items
    Is (part.Append a b) kind = IsList kind × Has kind a × Has kind b
    Is (part.ForList list x body) kind = IsList kind × ((labels : List (List ℕ)) × Has (OfList labels) list × (kinds x ≡ OfRecord labels) × HasUnder x kind body)
    Is (part.Table table labels) kind = kind ≡ OfList labels
    Is (part.Where c list) kind = IsList kind × Has OfBase c × Has kind list

  pub record AreTyped (parts : List Part) : Type 0 where
    pub columns : (n : ℕ) → HasColumns (kinds n)
    pub each : (n : ℕ) (x : Part) → slice_get parts n ≡ Some x → Is n x (kinds n)

-- ---- queries and changes

abbrev pub kind_of : Captured → Kind
kind_of (captured.Base kind) = OfBase
kind_of (captured.Row columns) = OfRecord (labels_of columns)

-- the kinds of captured values, which are bound to the numbers from this one on
abbrev pub kinds_from : ℕ → List Captured → ℕ → Option Kind
kinds_from n [] = λ k. None
kinds_from n (one ∷ others) = bind n (Some (kind_of one)) (kinds_from (n + 1) others)

-- the query gives rows with its columns, looks at captured values alone, and its keys are distinct ones of its labels
pub record IsTyped (kinds : ℕ → Kind) (scopes : ℕ → ℕ → Bool) (query : Query) : Type 0 where
  pub typed : AreTyped kinds scopes query.parts
  pub root_there : query.root < length query.parts
  pub root_is : kinds query.root ≡ OfList (labels_of query.columns)
  pub captures : (k : ℕ) → scopes query.root k ≡ true → kinds_from 0 query.captured k ≡ Some (kinds k)
  pub distinct : are_distinct (map (λ (key : Key). key.label) query.keys) ≡ true
  pub sorted_by : list_all (λ (key : Key). is_there (labels_of query.columns) key.label) query.keys ≡ true

-- the row that may change, and what is captured
abbrev pub change_kinds : InlinedChange → ℕ → Option Kind
change_kinds change = bind 0 (Some (OfRecord change.labels)) (kinds_from 1 change.captured)

-- a part of a change that gives a base, and looks at these alone
pub record IsBaseIn (kinds : ℕ → Kind) (scopes : ℕ → ℕ → Bool) (change : InlinedChange) (n : ℕ) : Type 0 where
  pub there : n < length change.parts
  pub is : kinds n ≡ OfBase
  pub captures : (k : ℕ) → scopes n k ≡ true → change_kinds change k ≡ Some (kinds k)

abbrev pub AreBasesIn : (ℕ → Kind) → (ℕ → ℕ → Bool) → InlinedChange → List Labelled → Type 0
AreBasesIn kinds scopes change [] = Unit {0}
AreBasesIn kinds scopes change (item ∷ items) = IsBaseIn kinds scopes change item.part × AreBasesIn kinds scopes change items

-- the condition is a base, and so is what each of distinct columns is set to
pub record IsTypedChange (kinds : ℕ → Kind) (scopes : ℕ → ℕ → Bool) (change : InlinedChange) : Type 0 where
  pub typed : AreTyped kinds scopes change.parts
  pub tests : IsBaseIn kinds scopes change change.cond
  pub becomes : AreBasesIn kinds scopes change change.sets
  pub distinct : are_distinct (map (λ (item : Labelled). item.label) change.sets) ≡ true
