-- Which sizes of the sides of constraints are looked at, where the equations and the sizings of the constraints are lists of their own.
use Rattle.std.specs.Prelude.{◌≡◌, ℕ, ◌+◌, ◌<◌, ◌≤◌, ◌⊎◌, Bool, true, false, List, [], ◌∷◌, length, map, take, Option, Some, None}
use Rattle.lk_types.specs.Sizes.{most_nodes}
use Rattle.lk_types.specs.declared.equation.Equation.{Equation}
use Rattle.lk_types.specs.declared.ty.Ty.{Ty}
use Rattle.lk_arena.specs.Counting.{count_at, AreCountsOf}
use Rattle.lk_arena.specs.declared.counting.Count.{Count}
use Rattle.lk_unify.specs.Constraints.{end_of, equations_of, matters, Makes}
use Rattle.lk_unify.specs.Nodes.{count}
use Rattle.lk_unify.specs.Reading.{opening_by}
use Rattle.lk_unify.specs.Small.{OwnNodes}
use Rattle.lk_unify.specs.declared.constraint.Constraint.{Constraint}
use Rattle.lk_unify.specs.declared.constraint.Sizing.{Sizing}
use Rattle.lk_unify.specs.declared.constraint.Sizing.TheVariants.{Always, Late, Never}
use Rattle.lk_unify.specs.declared.solvable.Loaded.{Loaded}

abbrev pub sizings_of : List Constraint → List Sizing
sizings_of constraints = map (λ c. c.sizing) constraints

-- the constraints with these equations and sizings
abbrev pub joined : List Equation → List Sizing → List Constraint
joined (e ∷ es) (s ∷ ss) = record { equation = e; sizing = s } ∷ joined es ss
joined _ _ = []

abbrev pub is_late : Sizing → Bool
is_late Always = false
is_late Late = true
is_late Never = false

-- a last sizing with which late sizes matter, or don't
abbrev pub last_by : Bool → Option Sizing
last_by true = Some Late
last_by false = None

-- those numbers whose sizes matter are no larger than a type may be
abbrev pub AreAllWithin : Option Sizing → List Sizing → List ℕ → Type 0
AreAllWithin end [] ns = Unit {0}
AreAllWithin end (s ∷ ss) [] = Unit {0}
AreAllWithin end (s ∷ ss) (n ∷ ns) = (matters end s ≡ true → n ≤ most_nodes) × AreAllWithin end ss ns

-- one of those is larger
abbrev pub IsOneBeyond : Option Sizing → List Sizing → List ℕ → Type 0
IsOneBeyond end [] ns = ⊥
IsOneBeyond end (s ∷ ss) [] = ⊥
IsOneBeyond end (s ∷ ss) (n ∷ ns) = ((matters end s ≡ true) × (most_nodes < n)) ⊎ IsOneBeyond end ss ns

-- nodes that say just these equations, and the types that their values make of the sides
pub record OwnSides (equations : List Equation) : Type 0 where
  pub own : OwnNodes equations
  pub types : List Ty
  pub makes : Makes (opening_by own.loader own.values) equations types

-- of these types none whose size matters has more nodes than a type may have
abbrev pub HasFew : Option Sizing → List Equation → List Sizing → Type 0
HasFew end equations sizings = (o : OwnSides equations) × AreAllWithin end sizings (map (count 0) o.types)

-- some has more
abbrev pub HasMany : Option Sizing → List Equation → List Sizing → Type 0
HasMany end equations sizings = (o : OwnSides equations) × IsOneBeyond end sizings (map (count 0) o.types)

-- the same, by the counts of the classes of nodes that are loaded, where closed ends count what `ends` says
abbrev pub CountFew : (ℕ → ℕ) → Option Sizing → Loaded → List Sizing → Type 0
CountFew ends end all sizings =
    (counts : List Count) × AreCountsOf ends all.loader.arena.shapes all.loader.arena.classes counts ×
    AreAllWithin end sizings (map (λ n. (count_at all.loader.arena.classes counts n).as_type) all.sides)

abbrev pub CountMany : (ℕ → ℕ) → Option Sizing → Loaded → List Sizing → Type 0
CountMany ends end all sizings =
    (counts : List Count) × AreCountsOf ends all.loader.arena.shapes all.loader.arena.classes counts ×
    IsOneBeyond end sizings (map (λ n. (count_at all.loader.arena.classes counts n).as_type) all.sides)

-- ---- constraints

-- nodes of theirs make no type too large whose size matters
abbrev pub MakeFew : List Constraint → Type 0
MakeFew constraints = HasFew (end_of constraints) (equations_of constraints) (sizings_of constraints)

-- they make one
abbrev pub MakeMany : List Constraint → Type 0
MakeMany constraints = HasMany (end_of constraints) (equations_of constraints) (sizings_of constraints)

-- each first part makes none
abbrev pub AllMakeFew : List Constraint → Type 0
AllMakeFew constraints = (k : ℕ) → k ≤ length constraints → MakeFew (take k constraints)

-- the constraints before number k make none, and with it they make one
pub record IsFirstMany (constraints : List Constraint) (k : ℕ) : Type 0 where
  pub within : k < length constraints
  pub few : AllMakeFew (take k constraints)
  pub many : MakeMany (take (k + 1) constraints)
