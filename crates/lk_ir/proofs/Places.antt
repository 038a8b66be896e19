-- Where the bodies of instances run.
use Rattle.std.proofs.Common.{◌≡◌, refl, sym, subst, ℕ, ◌<◌, true, false, Option, Some, None, length, slice_get}
use Rattle.std.proofs.lemmas.Option.{slice_get_within}
use Rattle.std.specs.Prelude.{◌↔◌, IsSome}
use Rattle.lk_ast.specs.declared.place.Loc.{Loc}
use Rattle.lk_ir.specs.Tables.{HasBodies, place_by, place_of}
use Rattle.lk_ir.specs.declared.nodes.Forms.{Forms}

never : false ≡ true → ⊥
never is = cc

found_below : (f : Forms) (n : ℕ) (label : Option ℕ) → slice_get f.wholes n ≡ label → IsSome (place_by f label) → n < length f.wholes
found_below f n None at is = absurd (never is)
found_below f n (Some label) at is = slice_get_within f.wholes n label at

-- it is known for those that there are, and for no others
pub place_there : (f : Forms) → HasBodies f → (n : ℕ) (place : Option Loc) → place ≡ place_of f n → IsSome place ↔ n < length f.wholes
place_there f has n place is = (
  λ some. found_below f n (slice_get f.wholes n) refl (subst IsSome is some),
  λ below. subst IsSome (sym is) (has.bodies n below),
)
