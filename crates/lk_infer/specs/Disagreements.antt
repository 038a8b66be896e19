-- The two types that don't agree where a program is ill typed: what a most general solution of all that is said before makes of the
-- two sides of the first equation with which what is said can't hold.
use Rattle.std.specs.Prelude.{◌≡◌, ℕ, ◌+◌, ◌⊎◌, Bool, false, List, [], ◌∷◌, Option, Some, None, map, slice_get, take}
use Rattle.lk_ast.specs.Tables.{tables_of}
use Rattle.lk_ast.specs.declared.declaration.Program.{Program}
use Rattle.lk_ast.specs.declared.place.Span.{Span}
use Rattle.lk_types.specs.Solutions.{HasSolution}
use Rattle.lk_types.specs.declared.equation.Equation.{Equation}
use Rattle.lk_types.specs.declared.scheme.Scheme.{Scheme}
use Rattle.lk_types.specs.declared.ty.Ty.{Ty}
use Rattle.lk_typing.specs.Steps.{equation_of, CanBeMet}
use Rattle.lk_typing.specs.Unknowns.{same}
use Rattle.lk_typing.specs.declared.step.Step.{Step}
use Rattle.lk_infer.specs.Inferred.{HasTypes}
use Rattle.lk_infer.specs.Programs.{Ends, EndsTooLarge}
use Rattle.lk_infer.specs.Refusals.{AllFine, IsIllTyped, IsTooLarge}
use Rattle.lk_infer.specs.declared.disagreement.Disagreement.{Disagreement}
use Rattle.lk_infer.specs.declared.error.InferError.{InferError}
use Rattle.lk_infer.specs.declared.error.InferError.TheVariants.{IllTyped, TypeTooLarge, NoMemory}
use Rattle.lk_unify.specs.Constraints.{AreLarge, AreSides}
use Rattle.lk_unify.specs.InOrder.{IsInOrder}
use Rattle.lk_unify.specs.declared.constraint.Constraint.{Constraint}
use Rattle.lk_unify.specs.declared.constraint.Sizing.TheVariants.{Always}

-- what steps say
abbrev pub all_said : List Step → List Equation
all_said steps = map (λ step. equation_of step.said) steps

-- each side of an equation by itself, before other equations
abbrev pub sides_before : Equation → List Equation → List Equation
sides_before e others = same e.left e.left ∷ same e.right e.right ∷ others

-- a most general solution of the others makes the sides of the equation these types
abbrev pub AreMade : Equation → List Equation → Ty → Ty → Type 0
AreMade e others left right = (rest : List Ty) × AreSides (sides_before e others) (left ∷ right ∷ rest)

-- an equation whose size matters
abbrev pub sized : Equation → Constraint
sized e = record { equation = e; sizing = Always }

-- Nothing solves the others so that each side of the equation has a type, since a row in it gets a label or an effect twice; or a
-- most general solution of the first of all these makes a type too large.
abbrev pub AreUntold : Equation → List Equation → Type 0
AreUntold e others = (HasSolution (sides_before e others) → ⊥) ⊎ ((k : ℕ) × AreLarge (take k (map sized (sides_before e others))))

-- What is said before some step is fine, and with what is said there it can't hold: its two sides have become these types.
pub record AreAtOdds (large : Bool) (steps : List Step) (left right : Ty) : Type 0 where
  pub number : ℕ
  pub step : Step
  pub found : slice_get steps number ≡ Some step
  pub fine : AllFine large (take number steps)
  pub none : CanBeMet (take (number + 1) steps) → ⊥
  pub made : AreMade (equation_of step.said) (all_said (take number steps)) left right

-- The same, but what its sides have become isn't told.
pub record IsUntold (large : Bool) (steps : List Step) : Type 0 where
  pub number : ℕ
  pub step : Step
  pub found : slice_get steps number ≡ Some step
  pub fine : AllFine large (take number steps)
  pub none : CanBeMet (take (number + 1) steps) → ⊥
  pub untold : AreUntold (equation_of step.said) (all_said (take number steps))

-- the sides of the first equation with which what the walk says can't hold have become these types
abbrev pub EndsAtOdds : Program → Ty → Ty → Type 0
EndsAtOdds program left right = Ends (tables_of program) (λ large steps. AreAtOdds large steps left right) false [] program.decls

-- the program has types, or a type that matters is too large, or the sides of the first equation with which what the walk says can't
-- hold aren't told
pub data NoneAtOdds (program : Program) : Type 0 where
  typed : (schemes : List Scheme) (types : List Ty) → HasTypes program schemes types → NoneAtOdds program
  too_large : (at : Span) → EndsTooLarge program at → NoneAtOdds program
  untold : Ends (tables_of program) IsUntold false [] program.decls → NoneAtOdds program

-- ---- what is answered

-- of an equation behind others: its sides, written in order
abbrev pub IsReading : Equation → List Equation → Option Disagreement → Type 0
IsReading e others (Some it) = AreMade e others it.left it.right × IsInOrder it.left × IsInOrder it.right
IsReading e others None = AreUntold e others

-- of a walk that is refused
abbrev pub IsFinding : Bool → List Step → Option Disagreement → Type 0
IsFinding large steps (Some it) = AreAtOdds large steps it.left it.right × IsInOrder it.left × IsInOrder it.right
IsFinding large steps None = IsUntold large steps ⊎ ((at : Span) × IsTooLarge large steps at)

-- what a refusal says of the walk
abbrev pub IsRefused : Bool → List Step → InferError → Type 0
IsRefused large steps (IllTyped at) = IsIllTyped large steps at
IsRefused large steps (TypeTooLarge at) = IsTooLarge large steps at
IsRefused large steps NoMemory = Unit {0}
