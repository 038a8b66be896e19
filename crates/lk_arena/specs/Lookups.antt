-- Maps from labels to nodes, that answer as lists of fields do.
use Rattle.std.specs.Borrow.{Bor}
use Rattle.std.specs.BTreeMap.{BTreeMap, get_by}
use Rattle.std.specs.Cmp.Lexicographic.{slice_cmp}
use Rattle.std.specs.Option.{IfSome}
use Rattle.std.specs.Ordering.{nat_cmp}
use Rattle.std.specs.Prelude.{◌≡◌, ℕ, Bool, ◌||◌, List, Option, is_some}
use Rattle.lk_types.specs.Rows.{Label}
use Rattle.lk_arena.specs.Shapes.{found_at}
use Rattle.lk_arena.specs.declared.node.Field.{Field}

abbrev pub ByLabel : Type 0
ByLabel = BTreeMap (Bor Label) ℕ

-- what a map has at a label
abbrev pub node_in : ByLabel → Label → Option ℕ
node_in nodes l = get_by (λ k. slice_cmp nat_cmp l k.now) nodes

-- the map has the first field of each label
abbrev pub HasNodes : ByLabel → List Field → Type 0
HasNodes nodes fields = (l : Label) → node_in nodes l ≡ found_at fields l

-- the same, if there is a map
abbrev pub MayHaveNodes : Option ByLabel → List Field → Type 0
MayHaveNodes nodes fields = IfSome nodes (λ nodes. HasNodes nodes fields)

abbrev pub is_noted : ByLabel → Label → Bool
is_noted nodes l = is_some (node_in nodes l)

abbrev pub is_label : List Field → Label → Bool
is_label fields l = is_some (found_at fields l)

-- the labels of the map and those of the fields left are those of all fields
abbrev pub AreNoted : ByLabel → List Field → List Field → Type 0
AreNoted nodes left fields = (l : Label) → (is_label left l || is_noted nodes l) ≡ is_label fields l
