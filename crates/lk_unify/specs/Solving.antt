-- What nodes say of the equations that were made into them and merged: just what solves the equations.
use Rattle.std.specs.Prelude.{◌≡◌, ℕ, ◌+◌, ◌<◌, ◌≤◌, List, [], ◌∷◌, ◌++◌, length, take, Some, IsSome}
use Rattle.lk_types.specs.Each.{Each}
use Rattle.lk_types.specs.Solutions.{HasSolution}
use Rattle.lk_types.specs.Variables.{equation_variables}
use Rattle.lk_types.specs.declared.equation.Equation.{Equation}
use Rattle.lk_types.specs.declared.ty.Variable.{Variable}
use Rattle.lk_arena.specs.Kinds.{Kind, OfTypes}
use Rattle.lk_unify.specs.Loading.{node_for, type_meaning, CoversBack, IsLoader, IsKinded, SameKinds, Agrees}
use Rattle.lk_arena.specs.Openings.{Opening, IsOpenMet, OpenSolves}
use Rattle.lk_arena.specs.Shapes.{FitsNodes, WeakNodes}
use Rattle.lk_arena.specs.Values.{Value}
use Rattle.lk_unify.specs.declared.loader.Loader.{Loader}
use Rattle.lk_unify.specs.declared.solvable.Loaded.{Loaded}

-- What is put for the variables solves the equations where values of the nodes fit with it, and where it solves them there are
-- such values.
pub record Says (l : Loader) (equations : List Equation) : Type 0 where
  pub whole : IsLoader l
  pub back : (v : ℕ → Value) (ρ : Opening) → WeakNodes l.arena.shapes l.arena.classes v → Agrees l ρ v → OpenSolves ρ equations
  pub forth : (ρ : Opening) → OpenSolves ρ equations → (v : ℕ → Value) × FitsNodes l.arena.shapes l.arena.classes v × Agrees l ρ v

-- values fit the nodes
abbrev pub HasValues : Loader → Type 0
HasValues l = (v : ℕ → Value) × FitsNodes l.arena.shapes l.arena.classes v

-- each of them has a node
abbrev pub AreBound : Loader → List Variable → Type 0
AreBound l xs = Each (λ x. IsSome (node_for l x)) xs

-- ---- the sides of equations

-- the node stands for what the sides of the equation become
pub record IsSide (l : Loader) (e : Equation) (node : ℕ) : Type 0 where
  pub below : node < length l.arena.shapes
  pub meaning : (v : ℕ → Value) (ρ : Opening) → WeakNodes l.arena.shapes l.arena.classes v → Agrees l ρ v → type_meaning e.left ρ ≡ Some (v node)

abbrev pub AreSides : Loader → List Equation → List ℕ → Type 0
AreSides l [] [] = Unit {0}
AreSides l (e ∷ es) (n ∷ ns) = IsSide l e n × AreSides l es ns
AreSides l _ _ = ⊥

-- there are nodes that say just this, with one for each variable and one for the sides of each equation
pub record HasNodes (equations : List Equation) : Type 0 where
  pub loader : Loader
  pub says : Says loader equations
  pub bound : AreBound loader (equation_variables equations)
  pub kind : ℕ → Kind
  pub kinded : IsKinded loader kind
  pub sides : List ℕ
  pub sides_are : AreSides loader equations sides
  pub types : Each (λ n. kind n ≡ OfTypes) sides

-- nothing is said: whatever is put for the variables, values fit with it
pub record IsStart (l : Loader) : Type 0 where
  pub whole : IsLoader l
  pub kind : ℕ → Kind
  pub kinded : IsKinded l kind
  pub forth : (ρ : Opening) → (v : ℕ → Value) × FitsNodes l.arena.shapes l.arena.classes v × Agrees l ρ v

-- ---- one equation more

-- the nodes say besides what was said before that the equation is met; the node stands for what its sides become
pub record AddsEquation (old new : Loader) (e : Equation) (node : ℕ) : Type 0 where
  pub whole : IsLoader new
  pub longer : length old.arena.shapes ≤ length new.arena.shapes
  pub below : node < length new.arena.shapes
  pub kept : (x : Variable) (n : ℕ) → node_for old x ≡ Some n → node_for new x ≡ Some n
  pub kinds : (k : ℕ → Kind) → IsKinded old k → (j : ℕ → Kind) × SameKinds (length old.arena.shapes) k j × IsKinded new j × (j node ≡ OfTypes)
  pub back : (v : ℕ → Value) (ρ : Opening) → WeakNodes new.arena.shapes new.arena.classes v → Agrees new ρ v → WeakNodes old.arena.shapes old.arena.classes v × Agrees old ρ v
  pub covers : CoversBack old new
  pub met : (v : ℕ → Value) (ρ : Opening) → WeakNodes new.arena.shapes new.arena.classes v → Agrees new ρ v → IsOpenMet ρ e × (type_meaning e.left ρ ≡ Some (v node))
  pub forth : (v : ℕ → Value) (ρ : Opening) → FitsNodes old.arena.shapes old.arena.classes v → Agrees old ρ v → IsOpenMet ρ e →
      (w : ℕ → Value) × FitsNodes new.arena.shapes new.arena.classes w × Agrees new ρ w

-- the equation is added to the nodes, and the node of its sides to the sides
abbrev pub AddsSide : Loaded → Loaded → Equation → Type 0
AddsSide old new e = (node : ℕ) × AddsEquation old.loader new.loader e node × (new.sides ≡ old.sides ++ node ∷ [])

-- what fits the nodes doesn't meet the equation
abbrev pub NeverMeets : Loader → Equation → Type 0
NeverMeets l e = (v : ℕ → Value) (ρ : Opening) → FitsNodes l.arena.shapes l.arena.classes v → Agrees l ρ v → IsOpenMet ρ e → ⊥

-- ---- a list of equations

-- the nodes are those of some equations, to which others came
pub record IsBefore (equations : List Equation) (nodes : HasNodes equations) (l : Loader) (kind : ℕ → Kind) (sides : List ℕ) : Type 0 where
  pub longer : length nodes.loader.arena.shapes ≤ length l.arena.shapes
  pub covers : CoversBack nodes.loader l
  pub kinds : SameKinds (length nodes.loader.arena.shapes) nodes.kind kind
  pub first : (rest : List ℕ) × (sides ≡ nodes.sides ++ rest)

-- there were nodes that said just this
abbrev pub HadNodes : List Equation → Loader → (ℕ → Kind) → List ℕ → Type 0
HadNodes equations l kind sides = (nodes : HasNodes equations) × IsBefore equations nodes l kind sides

-- The first k equations are nodes, with one for the sides of each, and all variables have nodes. The equations before were nodes too.
pub record AreLoaded (l : Loader) (sides : List ℕ) (equations : List Equation) (k : ℕ) : Type 0 where
  pub says : Says l (take k equations)
  pub bound : AreBound l (equation_variables equations)
  pub sides_are : AreSides l (take k equations) sides
  pub kind : ℕ → Kind
  pub kinded : IsKinded l kind
  pub types : Each (λ n. kind n ≡ OfTypes) sides
  pub before : (j : ℕ) → j ≤ k → HadNodes (take j equations) l kind sides

-- the equations before number k have a solution, and with it there is none
pub record IsFirstWithout (equations : List Equation) (k : ℕ) : Type 0 where
  pub within : k < length equations
  pub before : HasSolution (take k equations)
  pub none : HasSolution (take (k + 1) equations) → ⊥
