-- A program is refused for one reason at the most, and one that has a ground program for none.
use Rattle.std.proofs.Common.{◌≡◌, false, List, [], ◌∷◌, refl, sym, ap, ap₂, subst, ◌∙◌}
use Rattle.lk_ast.specs.declared.declaration.FunDef.{FunDef}
use Rattle.lk_ast.specs.declared.declaration.Program.{Program}
use Rattle.lk_ast.specs.declared.place.Span.{Span}
use Rattle.lk_ground.specs.declared.program.GroundProgram.{GroundProgram}
use Rattle.lk_types.proofs.Parts.{same_some}
use Rattle.lk_mono.proofs.Alone.{IsAlone, all_alone}
use Rattle.lk_mono.proofs.FaultsOnce.{AreSame, misshapen_once, shaped_fine}
use Rattle.lk_mono.proofs.InstancesOnce.{instances_once, listed_small, listed_within, many_or_large, too_large_once}
use Rattle.lk_mono.specs.Grounded.{IsGrounded}
use Rattle.lk_mono.specs.Instances.{Body, HasBody}
use Rattle.lk_mono.specs.Law.{GroundedLaw, IsRefused, RefusedLaw}
use Rattle.lk_mono.specs.Refused.{HasFault}
use Rattle.lk_mono.specs.Shapes.{AreShaped, IsMisshapen}
use Rattle.lk_mono.specs.declared.error.MonoError.TheVariants as error
use Rattle.lk_mono.specs.declared.error.ShapeKind.{ShapeKind}
use Rattle.lk_names.specs.Programs.{IsBound}
use Rattle.lk_outline.specs.Law.{OutlineLaw}
use Rattle.lk_types.specs.Each.{Each}
use Rattle.lk_types.specs.declared.scheme.Scheme.{Scheme}
use Rattle.lk_types.specs.declared.ty.Ty.{Ty}

module _ (outline_law : OutlineLaw) (p : Program) (schemes : List Scheme) (types : List Ty) (bound : IsBound p) where
  bodies_alone : (bodies : List Body) → Each (HasBody p schemes types) bodies → Each (λ body. Each IsAlone body.nodes) bodies
  bodies_alone [] all = tt
  bodies_alone (body ∷ bodies) all = (subst (Each IsAlone) (sym all.0.are) (all_alone false all.0.typed.is.typed.body), bodies_alone bodies all.1)

  fault_once : (kind other : ShapeKind) (at place : Span) → HasFault p schemes types kind at → HasFault p schemes types other place → AreSame kind other at place
  fault_once kind other at place one two =
      let lists : (one.mains ≡ two.mains) × (one.helpers ≡ two.helpers) = instances_once outline_law p schemes types bound one.mains one.helpers two.mains two.helpers one.instances two.instances in
      let places : one.main.name.at ≡ two.main.name.at = ap (λ (f : FunDef). f.name.at) (same_some (sym one.is ∙ two.is)) in
      misshapen_once one.main.name.at one.mains one.helpers kind other at place (bodies_alone one.mains one.instances.main_bodies) one.fault
      (subst (λ main_at. IsMisshapen main_at one.mains one.helpers other place) (sym places)
      (subst (λ ms. IsMisshapen two.main.name.at ms one.helpers other place) (sym lists.0) (subst (λ hs. IsMisshapen two.main.name.at two.mains hs other place) (sym lists.1) two.fault)))

  shaped_once : (kind : ShapeKind) (at : Span) (g : GroundProgram) → IsGrounded p schemes types g → HasFault p schemes types kind at → ⊥
  shaped_once kind at g ground fault =
      let lists : (ground.mains ≡ fault.mains) × (ground.helpers ≡ fault.helpers) = instances_once outline_law p schemes types bound ground.mains ground.helpers fault.mains fault.helpers ground.instances fault.instances in
      shaped_fine fault.main.name.at fault.mains fault.helpers kind at (subst (λ ms. AreShaped ms fault.helpers) lists.0 (subst (λ hs. AreShaped ground.mains hs) lists.1 ground.shaped)) fault.fault

pub refused_law : OutlineLaw → RefusedLaw
refused_law outline_law p bound schemes types _ _ (IsRefused.too_many many) (IsRefused.too_many too) = refl
refused_law outline_law p bound schemes types _ _ (IsRefused.too_many many) (IsRefused.too_large {at} large) = absurd (many_or_large outline_law p schemes types bound at many large)
refused_law outline_law p bound schemes types _ _ (IsRefused.too_many many) (IsRefused.shape fault) = absurd (listed_within outline_law p schemes types bound fault.mains fault.helpers fault.instances many)
refused_law outline_law p bound schemes types _ _ (IsRefused.too_large {at} large) (IsRefused.too_many many) = absurd (many_or_large outline_law p schemes types bound at many large)
refused_law outline_law p bound schemes types _ _ (IsRefused.too_large {at} large) (IsRefused.too_large {at = place} other) = ap (λ span. error.TypeTooLarge span) (too_large_once outline_law p schemes types bound at place large other)
refused_law outline_law p bound schemes types _ _ (IsRefused.too_large {at} large) (IsRefused.shape fault) = absurd (listed_small outline_law p schemes types bound fault.mains fault.helpers at fault.instances large)
refused_law outline_law p bound schemes types _ _ (IsRefused.shape fault) (IsRefused.too_many many) = absurd (listed_within outline_law p schemes types bound fault.mains fault.helpers fault.instances many)
refused_law outline_law p bound schemes types _ _ (IsRefused.shape fault) (IsRefused.too_large {at} large) = absurd (listed_small outline_law p schemes types bound fault.mains fault.helpers at fault.instances large)
refused_law outline_law p bound schemes types _ _ (IsRefused.shape {kind} {at} fault) (IsRefused.shape {kind = other} {at = place} too) =
    let same : AreSame kind other at place = fault_once outline_law p schemes types bound kind other at place fault too in
    ap₂ (λ k span. error.Shape k span) same.0 same.1

pub grounded_law : OutlineLaw → GroundedLaw
grounded_law outline_law p bound schemes types g ground _ (IsRefused.too_many many) = listed_within outline_law p schemes types bound ground.mains ground.helpers ground.instances many
grounded_law outline_law p bound schemes types g ground _ (IsRefused.too_large {at} large) = listed_small outline_law p schemes types bound ground.mains ground.helpers at ground.instances large
grounded_law outline_law p bound schemes types g ground _ (IsRefused.shape {kind} {at} fault) = shaped_once outline_law p schemes types bound kind at g ground fault
