-- The law of ground programs: a program is refused for one reason at the most, and one that has a ground program for none.
use Rattle.std.specs.Prelude.{◌≡◌, List}
use Rattle.lk_ast.specs.declared.declaration.Program.{Program}
use Rattle.lk_ast.specs.declared.place.Span.{Span}
use Rattle.lk_ground.specs.declared.program.GroundProgram.{GroundProgram}
use Rattle.lk_mono.specs.Grounded.{IsGrounded}
use Rattle.lk_mono.specs.Instances.{AreTooMany, IsTooLarge}
use Rattle.lk_mono.specs.Refused.{HasFault}
use Rattle.lk_mono.specs.declared.error.MonoError.{MonoError}
use Rattle.lk_mono.specs.declared.error.MonoError.TheVariants as error
use Rattle.lk_mono.specs.declared.error.ShapeKind.{ShapeKind}
use Rattle.lk_names.specs.Programs.{IsBound}
use Rattle.lk_types.specs.declared.scheme.Scheme.{Scheme}
use Rattle.lk_types.specs.declared.ty.Ty.{Ty}

-- the reason for a refusal
pub data IsRefused (p : Program) (schemes : List Scheme) (types : List Ty) : MonoError → Type 0 where
  too_many : AreTooMany p schemes types → IsRefused p schemes types error.TooManyInstances
  too_large : {at : Span} → IsTooLarge p schemes types at → IsRefused p schemes types (error.TypeTooLarge at)
  shape : {kind : ShapeKind} {at : Span} → HasFault p schemes types kind at → IsRefused p schemes types (error.Shape kind at)

abbrev pub RefusedLaw : Type 0
RefusedLaw = (p : Program) → IsBound p → (schemes : List Scheme) (types : List Ty) (one other : MonoError) → IsRefused p schemes types one → IsRefused p schemes types other → one ≡ other

abbrev pub GroundedLaw : Type 0
GroundedLaw = (p : Program) → IsBound p → (schemes : List Scheme) (types : List Ty) (g : GroundProgram) → IsGrounded p schemes types g → (why : MonoError) → IsRefused p schemes types why → ⊥
