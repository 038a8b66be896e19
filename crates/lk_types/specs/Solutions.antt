-- Solutions of equations of types. What a most general one is: each of its instances is a solution, and each solution is an
-- instance (Robinson, A machine-oriented logic based on the resolution principle, 1965; in solved form as in Martelli and
-- Montanari, An efficient unification algorithm, 1982).
use Rattle.std.specs.Prelude.{◌≡◌, ℕ, ◌==◌, List, [], ◌∷◌, Option, Some, None, IsSome, if◌then◌else◌}
use Rattle.std.specs.Option.{option_or}
use Rattle.lk_types.specs.Each.{Each}
use Rattle.lk_types.specs.Grounding.{Grounding, under, row_under, effects_under}
use Rattle.lk_types.specs.Variables.{equation_variables, image_variables}
use Rattle.lk_types.specs.declared.equation.Binding.{Binding}
use Rattle.lk_types.specs.declared.equation.Equation.{Equation}
use Rattle.lk_types.specs.declared.equation.Image.{Image}
use Rattle.lk_types.specs.declared.equation.Image.TheVariants as image
use Rattle.lk_types.specs.declared.equation.Subst.{Subst}
use Rattle.lk_types.specs.declared.ground.Ground.{Ground}
use Rattle.lk_types.specs.declared.ty.Effects.{Effects}
use Rattle.lk_types.specs.declared.ty.Ty.{Ty}
use Rattle.lk_types.specs.declared.ty.TyRow.{TyRow}
use Rattle.lk_types.specs.declared.ty.Variable.{Variable}
use Rattle.lk_types.specs.declared.ty.Variable.TheVariants as variable

-- both sides become one ground type; so no row gets a label twice
abbrev pub IsMet : Grounding → Equation → Type 0
IsMet σ e = (t : Ground) × (under σ e.left ≡ Some t) × (under σ e.right ≡ Some t)

abbrev pub Solves : Grounding → List Equation → Type 0
Solves σ equations = Each (IsMet σ) equations

abbrev pub HasSolution : List Equation → Type 0
HasSolution equations = (σ : Grounding) × Solves σ equations

-- ---- what a substitution puts for a variable, if anything

abbrev pub plain_of : Image → Option Ty
plain_of (image.Plain t) = Some t
plain_of other = None

abbrev pub row_of : Image → Option TyRow
row_of (image.Row row) = Some row
row_of other = None

abbrev pub effects_of : Image → Option Effects
effects_of (image.Effects es) = Some es
effects_of other = None

-- the first image of that number that is of the kind
abbrev pub first_image : {A : Type 0} → (Image → Option A) → List Binding → ℕ → Option A
first_image of_kind [] n = None
first_image of_kind (b ∷ bs) n = option_or (if b.var == n then of_kind b.is else None) (first_image of_kind bs n)

abbrev pub plain_image : Subst → ℕ → Option Ty
plain_image s n = first_image plain_of s.binds n

abbrev pub row_image : Subst → ℕ → Option TyRow
row_image s n = first_image row_of s.binds n

abbrev pub effects_image : Subst → ℕ → Option Effects
effects_image s n = first_image effects_of s.binds n

abbrev pub IsUnbound : Subst → Variable → Type 0
IsUnbound s (variable.Plain n) = plain_image s n ≡ None
IsUnbound s (variable.Row n) = row_image s n ≡ None
IsUnbound s (variable.Effects n) = effects_image s n ≡ None

-- no bound variable stands in what is put for another
abbrev pub IsSolvedForm : Subst → Type 0
IsSolvedForm s = Each (λ b. Each (IsUnbound s) (image_variables b.is)) s.binds

-- ---- instances

-- what becomes of an image is `x`; a variable without one stays what it is, which is `own`
abbrev pub Becomes : {A B : Type 0} → (A → Option B) → Option A → B → B → Type 0
Becomes value None own x = x ≡ own
Becomes value (Some image) own x = value image ≡ Some x

-- at this variable σ is the substitution and then τ
abbrev pub IsInstanceAt : Grounding → Subst → Grounding → Variable → Type 0
IsInstanceAt σ s τ (variable.Plain n) = Becomes (under τ) (plain_image s n) (τ.plain n) (σ.plain n)
IsInstanceAt σ s τ (variable.Row n) = Becomes (row_under τ) (row_image s n) (τ.rows n) (σ.rows n)
IsInstanceAt σ s τ (variable.Effects n) = Becomes (effects_under τ) (effects_image s n) (τ.effects n) (σ.effects n)

abbrev pub HasSides : Grounding → Equation → Type 0
HasSides σ e = IsSome (under σ e.left) × IsSome (under σ e.right)

-- on the variables of the equations σ is the substitution and then τ
abbrev pub IsInstanceOn : List Equation → Grounding → Subst → Grounding → Type 0
IsInstanceOn equations σ s τ = Each (IsInstanceAt σ s τ) (equation_variables equations)

-- each instance under which no row of the equations gets a label twice is a solution, and each solution is an instance
pub record IsMostGeneral (s : Subst) (equations : List Equation) : Type 0 where
  pub sound : (σ τ : Grounding) → IsInstanceOn equations σ s τ → Each (HasSides σ) equations → Solves σ equations
  pub general : (σ : Grounding) → Solves σ equations → (τ : Grounding) × IsInstanceOn equations σ s τ
