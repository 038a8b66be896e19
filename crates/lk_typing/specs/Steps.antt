-- What a walk through a text says of types, in order: that two are the same, and what the type of a node is. Types of
-- expressions are written with variables here, each of which stands for something that isn't known yet. Each node has a
-- variable for its type, so that what is said of a node is short however large the types of its parts are.
use Rattle.std.specs.Prelude.{ℕ, List, map}
use Rattle.lk_ast.specs.declared.place.Span.{Span}
use Rattle.lk_types.specs.Each.{Each}
use Rattle.lk_types.specs.Grounding.{Grounding}
use Rattle.lk_types.specs.Solutions.{IsMet}
use Rattle.lk_types.specs.declared.equation.Equation.{Equation}
use Rattle.lk_types.specs.declared.ty.Ty.{Ty}
use Rattle.lk_types.specs.declared.ty.Ty.TheVariants as ty
use Rattle.lk_typing.specs.declared.step.Said.{Said}
use Rattle.lk_typing.specs.declared.step.Said.TheVariants.{Same, Typed}
use Rattle.lk_typing.specs.declared.step.Step.{Step}

-- what is said, as an equation
abbrev pub equation_of : Said → Equation
equation_of (Same equation) = equation
equation_of (Typed n t) = record { left = ty.Var n; right = t }

abbrev pub Holds : Grounding → Said → Type 0
Holds σ said = IsMet σ (equation_of said)

abbrev pub Meets : Grounding → List Step → Type 0
Meets σ steps = Each (λ step. Holds σ step.said) steps

abbrev pub CanBeMet : List Step → Type 0
CanBeMet steps = (σ : Grounding) × Meets σ steps

abbrev pub same_at : Span → List Equation → List Step
same_at at equations = map (λ equation. record { at = at; said = Same equation }) equations

abbrev pub typed_at : Span → ℕ → Ty → Step
typed_at at n t = record { at = at; said = Typed n t }
