-- That nothing stands twice in a table of nodes.
use Rattle.std.specs.Prelude.{◌≡◌, ◌<◌, ℕ, List, Some, IsSome, length, slice_get}
use Rattle.std.specs.BTreeMap as tree
use Rattle.std.specs.BTreeMap.{BTreeMap}
use Rattle.std.specs.List.{All, AllPairs}
use Rattle.std.specs.Ordering.{nat_cmp}
use Rattle.lk_ground_types.specs.Grounds.{AreDistinct}
use Rattle.lk_ir.specs.declared.nodes.LabelForm.{LabelForm}
use Rattle.lk_ir.specs.declared.nodes.Touched.{Touched}
use Rattle.lk_lower.specs.Hints.{hint}
use Rattle.lk_types.specs.declared.ground.Ground.{Ground}

-- the labels beside the tables that they change rise
abbrev pub AreRising : List Touched → Type 0
AreRising tables = AllPairs (λ (s t : Touched). s.label < t.label) tables

-- Each type stands once, and so does each label that changes a table.
pub record StandOnce (types : List Ground) (tables : List Touched) : Type 0 where
  pub types_once : AreDistinct types
  pub labels_once : AreRising tables

-- ---- while a table is made

-- types, each once, and there is a number under the hint of each
pub record AreHinted (types : List Ground) (numbers : BTreeMap ℕ ℕ) : Type 0 where
  pub distinct : AreDistinct types
  pub hinted : (i : ℕ) (t : Ground) → slice_get types i ≡ Some t → IsSome (tree.get nat_cmp numbers (hint t))

-- a type is none of these
abbrev pub IsNew : List Ground → Ground → Type 0
IsNew types t = (i : ℕ) → slice_get types i ≡ Some t → ⊥

-- tables beside labels that are among these
pub record AreBeside (labels : List LabelForm) (tables : List Touched) : Type 0 where
  pub rising : AreRising tables
  pub within : All (λ (t : Touched). t.label < length labels) tables
