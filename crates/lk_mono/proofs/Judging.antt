-- What is answered for a whole program, from its instances and their shapes.
use Rattle.std.proofs.Common.{◌≡◌, ℕ, Bool, Err, true, false, List, [], ◌∷◌, Option, Some, None, slice_get, refl, sym, ap, subst, ◌∙◌}
use Rattle.lk_ast.specs.declared.place.Span.{Span}
use Rattle.lk_types.proofs.Parts.{same_some}
use Rattle.lk_mono.specs.Flatness.{Answers}
use Rattle.lk_mono.specs.Instances.{Body, uses_of}
use Rattle.lk_mono.specs.Grounded.{AreAllCalled}
use Rattle.lk_mono.specs.Held.{AreHeld}
use Rattle.lk_mono.specs.Judged.{Judged}
use Rattle.lk_mono.specs.Listed.{AreFound, AreListedIn}
use Rattle.lk_mono.specs.Queues.{as_list, as_use}
use Rattle.lk_mono.specs.Shapes.{AreShaped, IsMisshapen, answers_function}
use Rattle.lk_mono.specs.declared.body.Body.{Body as TheBody}
use Rattle.lk_mono.specs.declared.body.Source.{Source}
use Rattle.lk_mono.specs.declared.error.MonoError.{MonoError}
use Rattle.lk_mono.specs.declared.error.MonoError.TheVariants as errors
use Rattle.lk_mono.specs.declared.error.ShapeKind.{ShapeKind}
use Rattle.lk_mono.specs.declared.error.ShapeKind.TheVariants as kind
use Rattle.lk_mono.specs.declared.listing.Instances.{Instances}
use Rattle.lk_mono.specs.declared.queue.Use.{Use as TheUse}
use Rattle.std.specs.declared.result.Result.{Result}
use Rattle.lk_types.specs.Each.{Each}

-- the first of the list is that of the instances
first_of : (mains : List Body) (listed : List TheUse) (main : TheUse) → uses_of mains ≡ as_list listed → slice_get listed 0 ≡ Some main
    → (body : Body) × (others : List Body) × (mains ≡ body ∷ others) × (body.use_of ≡ as_use main)
first_of [] [] main same is = cc
first_of [] (u ∷ listed) main same is = cc
first_of (body ∷ mains) [] main same is = cc
first_of (body ∷ mains) (u ∷ listed) main same is = (body, mains, refl, head same ∙ ap as_use (same_some is)) where
  head : uses_of (body ∷ mains) ≡ as_list (u ∷ listed) → body.use_of ≡ as_use u
  head is = cc

pub main_judged : (at : Span) (mains helpers : List Body) (listed : List TheUse) (main : TheUse) → uses_of mains ≡ as_list listed → slice_get listed 0 ≡ Some main
    → answers_function main.ty ≡ true → IsMisshapen at mains helpers kind.MainType at
main_judged at mains helpers listed main same is yields =
    let (body, others, are, use_is) = first_of mains listed main same is in
    IsMisshapen.main are (ap (λ u. answers_function u.type) use_is ∙ yields)

pub others_judged : (at : Span) (mains helpers : List Body) (listed : List TheUse) (main : TheUse) (fault : Option (ShapeKind × Span)) → uses_of mains ≡ as_list listed → slice_get listed 0 ≡ Some main
    → answers_function main.ty ≡ false → Answers helpers mains fault → Judged at mains helpers fault
others_judged at mains helpers listed main None same is yields each =
    let (body, others, are, use_is) = first_of mains listed main same is in
    AreShaped.shaped are (ap (λ u. answers_function u.type) use_is ∙ yields) each
others_judged at mains helpers listed main (Some fault) same is yields refused =
    let (body, others, are, use_is) = first_of mains listed main same is in
    IsMisshapen.other are (ap (λ u. answers_function u.type) use_is ∙ yields) refused

-- ---- what is called

module _ (source : Source) (i : Instances) (found : AreFound source i) where
  abbrev AllCalled : Bool → List TheBody → List (List ℕ) → Type 0
  AllCalled in_helper bodies places = (s : Source) (held : List Body) → AreHeld s bodies held → Each (AreListedIn (as_list i.mains) (as_list i.helpers) in_helper) held → AreAllCalled (as_list i.mains) (as_list i.helpers) in_helper held places

  pub mains_called : (bodies : List TheBody) (places : List (List ℕ)) → bodies ≡ i.main_bodies → AllCalled false bodies places
      → AreAllCalled (uses_of found.mains) (uses_of found.helpers) false found.mains places
  mains_called bodies places same_bodies called =
      subst (λ us. AreAllCalled us (uses_of found.helpers) false found.mains places) (sym found.main_uses)
      (subst (λ us. AreAllCalled (as_list i.mains) us false found.mains places) (sym found.helper_uses)
      (called source found.mains (subst (λ xs. AreHeld source xs found.mains) (sym same_bodies) found.mains_held)
      (subst (λ us. Each (AreListedIn us (as_list i.helpers) false) found.mains) found.main_uses (subst (λ us. Each (AreListedIn (uses_of found.mains) us false) found.mains) found.helper_uses found.mains_listed))))

  pub helpers_called : (bodies : List TheBody) (places : List (List ℕ)) → bodies ≡ i.helper_bodies → AllCalled true bodies places
      → AreAllCalled (uses_of found.mains) (uses_of found.helpers) true found.helpers places
  helpers_called bodies places same_bodies called =
      subst (λ us. AreAllCalled us (uses_of found.helpers) true found.helpers places) (sym found.main_uses)
      (subst (λ us. AreAllCalled (as_list i.mains) us true found.helpers places) (sym found.helper_uses)
      (called source found.helpers (subst (λ xs. AreHeld source xs found.helpers) (sym same_bodies) found.helpers_held)
      (subst (λ us. Each (AreListedIn us (as_list i.helpers) true) found.helpers) found.main_uses (subst (λ us. Each (AreListedIn (uses_of found.mains) us true) found.helpers) found.helper_uses found.helpers_listed))))

pub same_shape : {A : Type 0} (k l : ShapeKind) (at here : Span) → ◌≡◌ {A = Result A MonoError} (Err (errors.Shape k at)) (Err (errors.Shape l here)) → (k ≡ l) × (at ≡ here)
same_shape k l at here is = (cc, cc)
