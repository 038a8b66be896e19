-- A forest whose trees are the classes: each member has a parent in its class, or is the root of a tree and has the name.
-- The sizes grow on the way up, so that it ends (R. E. Tarjan, Efficiency of a good but not linear set union algorithm,
-- 1975).
use Rattle.std.specs.Prelude.{◌≡◌, ℕ, zero, suc, ◌<◌, ◌≤◌, ◌^◌, List, length, map, slice_index_or as get_or}
use Rattle.std.specs.List.{sum_by}
use Rattle.lk_classes.specs.Classes.{AreClasses, class_at}
use Rattle.lk_classes.specs.declared.forest.Link.{Link}
use Rattle.lk_classes.specs.declared.forest.Link.TheVariants.{Name, Parent}
use Rattle.lk_classes.specs.declared.forest.Member.{Member}
use Rattle.lk_classes.specs.declared.forest.Root.{Root}

abbrev pub member_at : List Member → ℕ → Member
member_at ms i = get_or ms i (record { size = 0; link = Name 0 })

-- the name at the root, which is fewer than so many steps up
abbrev pub name_by : List Member → ℕ → Link → ℕ
name_by ms zero link = 0
name_by ms (suc steps) (Name c) = c
name_by ms (suc steps) (Parent p) = name_by ms steps (member_at ms p).link

-- the name of each member's class
unfoldable pub names_of : List Member → List ℕ
names_of ms = map (λ m. name_by ms (length ms) m.link) ms

-- how many members a root counts
abbrev pub counted : Link → ℕ → ℕ
counted (Name c) size = size
counted (Parent p) size = 0

abbrev pub weight : Member → ℕ
weight m = counted m.link m.size

-- a parent has a larger class, of the same name, and a root has the name
abbrev pub Follows : List Member → List ℕ → ℕ → ℕ → Link → Type 0
Follows ms names i size (Name c) = class_at names i ≡ c
Follows ms names i size (Parent p) = (p < length ms) × (size < (member_at ms p).size) × (class_at names p ≡ class_at names i)

pub record IsPlaced (ms : List Member) (names : List ℕ) (i : ℕ) (m : Member) : Type 0 where
  pub filled : 0 < m.size
  pub fits : m.size ≤ length ms
  pub follows : Follows ms names i m.size m.link

pub record IsForest (ms : List Member) (names : List ℕ) : Type 0 where
  pub few : length ms < 2 ^ 64
  pub classes : AreClasses (length ms) names
  pub total : sum_by weight ms ≡ length ms
  pub placed : (i : ℕ) → i < length ms → IsPlaced ms names i (member_at ms i)
  -- two roots have different names
  pub apart : (i j c : ℕ) → i < length ms → j < length ms → (member_at ms i).link ≡ Name c → (member_at ms j).link ≡ Name c → i ≡ j

-- the root of the class that i is in
pub record IsRootOf (ms : List Member) (i : ℕ) (root : Root) : Type 0 where
  pub below : root.at < length ms
  pub member : member_at ms root.at ≡ record { size = root.size; link = Name root.name }
  pub name : root.name ≡ class_at (names_of ms) i
