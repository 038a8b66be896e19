-- Schemes made of the types of functions: their instances are what the types become where row variables lack enough.
use Rattle.std.proofs.Common.{◌≡◌, inl, inr, ℕ, zero, suc, Bool, true, false, not, List, [], ◌∷◌, map, flat_map, refl, sym, subst, ap, ap₂, ◌∙◌, Some, slice_get}
use Rattle.lk_types.proofs.Members.{each_in, each_of_in, each_in_flat, one_in_flat}
use Rattle.lk_infer.proofs.Made.{BecomeLoosely}
use Rattle.lk_infer.proofs.Restricted.{has_variable, restricted, all_there, one_there, restricted_agrees, restricted_lacking}
use Rattle.lk_infer.proofs.EvenOf.{even_of}
use Rattle.lk_infer.proofs.LacksShown.{lacks_shown}
use Rattle.lk_infer.proofs.LooseOf.{loose_of}
use Rattle.lk_infer.proofs.LooselyAgree.{loosely_agree}
use Rattle.lk_infer.specs.Generalised.{AreGeneralised, HasRow, IsGeneralised, IsIn}
use Rattle.lk_infer.specs.Lacks.{shown}
use Rattle.lk_types.specs.Each.{Each, OneOf}
use Rattle.lk_types.specs.Grounding.{Grounding, under}
use Rattle.lk_types.specs.Rows.{has_label}
use Rattle.lk_types.specs.Schemes.{IsInstance, IsLacking}
use Rattle.lk_types.specs.Variables.{variables_of}
use Rattle.lk_types.specs.declared.ground.Ground.{Ground}
use Rattle.lk_types.specs.declared.scheme.Lack.{Lack}
use Rattle.lk_types.specs.declared.scheme.Scheme.{Scheme}
use Rattle.lk_types.specs.declared.ty.Effect.{Effect}
use Rattle.lk_types.specs.declared.ty.Ty.{Ty}
use Rattle.lk_types.specs.declared.ty.Variable.{Variable}
use Rattle.lk_types.specs.declared.ty.Variable.TheVariants as variable
use Rattle.lk_typing.proofs.Inverses.{first_same, rest_same}
use Rattle.lk_typing.specs.EffectRows.{IsEven, IsEvenScheme, loosely}
use Rattle.lk_typing.specs.Law.{Become}
use Rattle.lk_typing.specs.Programs.{AreAt}

module _ (types : List Ty) where
  abbrev all_lacks : List Lack
  all_lacks = flat_map shown types

  -- ---- one scheme

  meaning_of : (τ : Grounding) (body : Ty) (scheme : Scheme) (t : Ground) → IsGeneralised types body scheme → IsInstance τ scheme t → under τ body ≡ Some t
  meaning_of τ body scheme t made at = ap (under τ) (sym made.body_is) ∙ at.body

  -- what a variable of it lacks is shown in its body, or said beside it
  pub lacking_here : (τ : Grounding) (body : Ty) (scheme : Scheme) (t : Ground) → IsGeneralised types body scheme → IsInstance τ scheme t
      → (lack : Lack) → IsIn lack all_lacks → HasRow lack.var body → IsLacking τ lack
  lacking_here τ body scheme t made at lack known has = by_test (has_label (τ.rows lack.var) lack.label) refl
    where
      in_body : IsIn lack (shown body) → IsLacking τ lack
      in_body shown_there = each_in (IsLacking τ) (shown body) lack shown_there (lacks_shown τ body t (meaning_of τ body scheme t made at))

      by_test : (b : Bool) → has_label (τ.rows lack.var) lack.label ≡ b → IsLacking τ lack
      by_test false is = is
      by_test true is =
          let not_shown : IsIn lack (shown body) → ⊥ = λ there. let lacking : has_label (τ.rows lack.var) lack.label ≡ false = in_body there in cc in
          each_in (IsLacking τ) scheme.lacks lack ((made.lacks lack).1 (known, has, not_shown)) at.lacks

  one_at : (τ : Grounding) (body : Ty) (scheme : Scheme) (t : Ground) → IsGeneralised types body scheme → under τ body ≡ Some t → Each (IsLacking τ) all_lacks → IsInstance τ scheme t
  one_at τ body scheme t made is lacking = record {
    body = ap (under τ) made.body_is ∙ is;
    lacks = each_of_in (IsLacking τ) scheme.lacks (λ lack there. each_in (IsLacking τ) all_lacks lack ((made.lacks lack).0 there).0 lacking);
  }

  -- ---- all of them

  pub all_at : (τ : Grounding) (bodies : List Ty) (schemes : List Scheme) (ts : List Ground) → AreGeneralised types bodies schemes → Become τ bodies ts → Each (IsLacking τ) all_lacks
      → AreAt τ schemes ts
  all_at τ [] [] [] made are lacking = tt
  all_at τ [] [] (t ∷ ts) made are lacking = cc
  all_at τ [] (s ∷ schemes) ts made are lacking = absurd made
  all_at τ (b ∷ bodies) [] ts made are lacking = absurd made
  all_at τ (b ∷ bodies) (s ∷ schemes) [] made are lacking = cc
  all_at τ (b ∷ bodies) (s ∷ schemes) (t ∷ ts) made are lacking = (one_at τ b s t made.0 (first_same are) lacking, all_at τ bodies schemes ts made.1 (rest_same are) lacking)

  pub all_become : (τ : Grounding) (bodies : List Ty) (schemes : List Scheme) (ts : List Ground) → AreGeneralised types bodies schemes → AreAt τ schemes ts → Become τ bodies ts
  all_become τ [] [] [] made at = refl
  all_become τ [] [] (t ∷ ts) made at = absurd at
  all_become τ [] (s ∷ schemes) ts made at = absurd made
  all_become τ (b ∷ bodies) [] ts made at = absurd made
  all_become τ (b ∷ bodies) (s ∷ schemes) [] made at = absurd at
  all_become τ (b ∷ bodies) (s ∷ schemes) (t ∷ ts) made at = ap₂ (λ a as'. a ∷ as') (meaning_of τ b s t made.0 at.0) (all_become τ bodies schemes ts made.1 at.1)

  lacking_one : (τ : Grounding) (bodies : List Ty) (schemes : List Scheme) (ts : List Ground) → AreGeneralised types bodies schemes → AreAt τ schemes ts
      → (lack : Lack) → IsIn lack all_lacks → OneOf (HasRow lack.var) bodies → IsLacking τ lack
  lacking_one τ [] schemes ts made at lack known has = absurd has
  lacking_one τ (b ∷ bodies) [] ts made at lack known has = absurd made
  lacking_one τ (b ∷ bodies) (s ∷ schemes) [] made at lack known has = absurd at
  lacking_one τ (b ∷ bodies) (s ∷ schemes) (t ∷ ts) made at lack known (inl here) = lacking_here τ b s t made.0 at.0 lack known here
  lacking_one τ (b ∷ bodies) (s ∷ schemes) (t ∷ ts) made at lack known (inr later) = lacking_one τ bodies schemes ts made.1 at.1 lack known later

  pub body_at : (i : ℕ) (bodies : List Ty) (schemes : List Scheme) (scheme : Scheme) → AreGeneralised types bodies schemes → slice_get schemes i ≡ Some scheme
      → (body : Ty) × (slice_get bodies i ≡ Some body) × IsGeneralised types body scheme
  body_at i [] [] scheme made is = cc
  body_at i [] (s ∷ schemes) scheme made is = absurd made
  body_at i (b ∷ bodies) [] scheme made is = absurd made
  body_at zero (b ∷ bodies) (s ∷ schemes) scheme made is = let same : s ≡ scheme = cc in (b, refl, subst (IsGeneralised types b) same made.0)
  body_at (suc i) (b ∷ bodies) (s ∷ schemes) scheme made is = body_at i bodies schemes scheme made.1 is

  -- ---- without what stands for other variables

  abbrev pub narrowed : List Ty → Grounding → Grounding
  narrowed bodies τ = restricted (flat_map variables_of bodies) τ

  -- an instance of all schemes lacks everything there
  pub narrowed_lacking : (τ : Grounding) (bodies : List Ty) (schemes : List Scheme) (ts : List Ground) → AreGeneralised types bodies schemes → AreAt τ schemes ts
      → Each (IsLacking (narrowed bodies τ)) all_lacks
  narrowed_lacking τ bodies schemes ts made at =
      each_of_in (IsLacking (narrowed bodies τ)) all_lacks (λ lack known. restricted_lacking (flat_map variables_of bodies) τ lack (λ there.
      lacking_one τ bodies schemes ts made at lack known (one_in_flat (λ x. x ≡ variable.Row lack.var) variables_of bodies (one_there (flat_map variables_of bodies) (variable.Row lack.var) there))))

  -- an instance of one scheme does
  pub one_narrowed_lacking : (τ : Grounding) (body : Ty) (scheme : Scheme) (t : Ground) → IsGeneralised types body scheme → IsInstance τ scheme t
      → Each (IsLacking (restricted (variables_of body) τ)) all_lacks
  one_narrowed_lacking τ body scheme t made at =
      each_of_in (IsLacking (restricted (variables_of body) τ)) all_lacks (λ lack known. restricted_lacking (variables_of body) τ lack (λ there.
      lacking_here τ body scheme t made at lack known (one_there (variables_of body) (variable.Row lack.var) there)))

  -- what its body becomes
  pub one_narrowed : (τ : Grounding) (body : Ty) (scheme : Scheme) (t : Ground) → IsGeneralised types body scheme → IsInstance τ scheme t → loosely (restricted (variables_of body) τ) body ≡ Some t
  one_narrowed τ body scheme t made at =
      sym (loosely_agree τ (restricted (variables_of body) τ) body (restricted_agrees (variables_of body) τ (variables_of body) (all_there (variables_of body))))
      ∙ loose_of τ body t (meaning_of τ body scheme t made at)

-- what types become rests on their variables alone
pub narrowed_same : (τ : Grounding) (xs : List Variable) (bodies : List Ty) → Each (λ b. Each (λ x. has_variable xs x ≡ true) (variables_of b)) bodies
    → map (loosely τ) bodies ≡ map (loosely (restricted xs τ)) bodies
narrowed_same τ xs [] there = refl
narrowed_same τ xs (b ∷ bodies) there =
    ap₂ (λ a as'. a ∷ as') (loosely_agree τ (restricted xs τ) b (restricted_agrees xs τ (variables_of b) there.0)) (narrowed_same τ xs bodies there.1)

pub all_narrowed : (τ : Grounding) (bodies : List Ty) (ts : List Ground) → BecomeLoosely τ bodies ts → BecomeLoosely (restricted (flat_map variables_of bodies) τ) bodies ts
all_narrowed τ bodies ts are =
    let xs : List Variable = flat_map variables_of bodies in
    sym (narrowed_same τ xs bodies (each_in_flat (λ x. has_variable xs x ≡ true) variables_of bodies (all_there xs))) ∙ are

-- the type of one function among those of all
pub one_of_loose : (σ : Grounding) (i : ℕ) (bodies : List Ty) (ts : List Ground) (body : Ty) (t : Ground) → BecomeLoosely σ bodies ts → slice_get bodies i ≡ Some body
    → loosely σ body ≡ Some t → slice_get ts i ≡ Some t
one_of_loose σ i [] ts body t are at is = cc
one_of_loose σ i (b ∷ bodies) [] body t are at is = cc
one_of_loose σ zero (b ∷ bodies) (g ∷ ts) body t are at is = let same : b ≡ body = cc in sym (first_same are) ∙ ap (loosely σ) same ∙ is
one_of_loose σ (suc i) (b ∷ bodies) (g ∷ ts) body t are at is = one_of_loose σ i bodies ts body t (rest_same are) at is

-- no effect stands before a tail twice, in types that have as many effects as there are
pub all_even : (types : List Ty) (τ τ₂ : Grounding) → ((n : ℕ) (e : Effect) → τ.effects n e ≡ true) → (bodies : List Ty) (schemes : List Scheme) (ts : List Ground)
    → AreGeneralised types bodies schemes → Become τ₂ bodies ts → BecomeLoosely τ bodies ts → Each IsEvenScheme schemes
all_even types τ τ₂ full [] [] ts made are loose = tt
all_even types τ τ₂ full [] (s ∷ schemes) ts made are loose = absurd made
all_even types τ τ₂ full (b ∷ bodies) [] ts made are loose = absurd made
all_even types τ τ₂ full (b ∷ bodies) (s ∷ schemes) [] made are loose = cc
all_even types τ τ₂ full (b ∷ bodies) (s ∷ schemes) (t ∷ ts) made are loose = (
  ((λ n e. not (τ₂.effects n e)), subst (IsEven (λ n e. not (τ₂.effects n e))) (sym made.0.body_is) (even_of τ τ₂ b t full (first_same are) (first_same loose))),
  all_even types τ τ₂ full bodies schemes ts made.1 (rest_same are) (rest_same loose),
)
