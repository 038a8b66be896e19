-- What solves equations by ground types solves them by types, and the other way round.
use Rattle.std.proofs.Common.{◌≡◌, List, [], ◌∷◌, Option, Some, None, refl, sym, ◌∙◌, ap}
use Rattle.std.specs.Option.{option_map}
use Rattle.lk_types.proofs.Parts.{same_some}
use Rattle.lk_types.specs.Grounding.{Grounding, under}
use Rattle.lk_types.specs.Solutions.{IsMet, Solves}
use Rattle.lk_types.specs.declared.equation.Equation.{Equation}
use Rattle.lk_types.specs.declared.ground.Ground.{Ground}
use Rattle.lk_types.specs.declared.ty.Ty.{Ty}
use Rattle.lk_unify.proofs.OpenAsGround.{type_as}
use Rattle.lk_unify.proofs.OpenGround.{as_type-once}
use Rattle.lk_arena.specs.Openings.{IsOpenMet, OpenSolves, as_type, as_opening, opened}

module _ (σ : Grounding) where
  pub open_meets : (e : Equation) → IsMet σ e → IsOpenMet (as_opening σ) e
  open_meets e m = (as_type m.0, type_as σ e.left ∙ ap (option_map as_type) m.1, type_as σ e.right ∙ ap (option_map as_type) m.2)

  its_ground : (t u : Ty) → opened (as_opening σ) t ≡ Some u → (g : Ground) × (under σ t ≡ Some g) × (as_type g ≡ u)
  its_ground t u e = by_value (under σ t) refl (sym (type_as σ t) ∙ e)
    where
      by_value : (o : Option Ground) → under σ t ≡ o → option_map as_type (under σ t) ≡ Some u → (g : Ground) × (under σ t ≡ Some g) × (as_type g ≡ u)
      by_value None is e = let f : None ≡ Some u = sym (ap (option_map as_type) is) ∙ e in cc
      by_value (Some g) is e = (g, is, same_some (sym (ap (option_map as_type) is) ∙ e))

  meets_ground : (e : Equation) → IsOpenMet (as_opening σ) e → IsMet σ e
  meets_ground e m =
      let l = its_ground e.left m.0 m.1 in
      let r = its_ground e.right m.0 m.2 in
      (l.0, l.1, r.1 ∙ ap Some (as_type-once r.0 l.0 (r.2 ∙ sym l.2)))

  pub open_solves : (es : List Equation) → Solves σ es → OpenSolves (as_opening σ) es
  open_solves [] s = tt
  open_solves (e ∷ es) s = (open_meets e s.0, open_solves es s.1)

  pub solves_ground : (es : List Equation) → OpenSolves (as_opening σ) es → Solves σ es
  solves_ground [] s = tt
  solves_ground (e ∷ es) s = (meets_ground e s.0, solves_ground es s.1)
