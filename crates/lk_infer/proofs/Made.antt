-- What becomes of the types that an opening makes of the sides of equations: at a solution that is an instance of it, and where it
-- is enough that row variables lack what the types show.
use Rattle.std.proofs.Common.{◌≡◌, List, [], ◌∷◌, ◌++◌, map, length, flat_map, refl, sym, ap₂, ◌∙◌, Some}
use Rattle.lk_arena.specs.Openings.{Opening, OpensTo}
use Rattle.lk_types.proofs.Members.{each_both, each_front, each_back}
use Rattle.lk_unify.proofs.OpenComposed.{type_composed}
use Rattle.lk_infer.proofs.LacksShown.{lacks_shown}
use Rattle.lk_infer.proofs.LooseOf.{loose_of}
use Rattle.lk_infer.proofs.LooselyComposed.{loose_after, loosely_composed}
use Rattle.lk_infer.proofs.LooselyThere.{loosely_there}
use Rattle.lk_infer.specs.Lacks.{shown}
use Rattle.lk_types.specs.Each.{Each}
use Rattle.lk_types.specs.Grounding.{Grounding, under}
use Rattle.lk_types.specs.Schemes.{IsLacking}
use Rattle.lk_types.specs.Solutions.{Solves}
use Rattle.lk_types.specs.Variables.{variables_of, equation_variables}
use Rattle.lk_types.specs.declared.equation.Equation.{Equation}
use Rattle.lk_types.specs.declared.ground.Ground.{Ground}
use Rattle.lk_types.specs.declared.ty.Ty.{Ty}
use Rattle.lk_typing.proofs.Inverses.{first_same, rest_same}
use Rattle.lk_typing.proofs.Nodes.{there_is}
use Rattle.lk_typing.specs.EffectRows.{IsMetLoosely, loosely}
use Rattle.lk_typing.specs.Law.{Become}
use Rattle.lk_typing.specs.Unknowns.{same}
use Rattle.lk_unify.specs.Constraints.{Makes}

-- what these types become loosely
abbrev pub BecomeLoosely : Grounding → List Ty → List Ground → Type 0
BecomeLoosely σ types ts = map (loosely σ) types ≡ map (λ t. Some t) ts

abbrev pub HasMeaning : Grounding → Ty → Type 0
HasMeaning σ t = (g : Ground) × (under σ t ≡ Some g)

abbrev pub HasLooseMeaning : Grounding → Ty → Type 0
HasLooseMeaning σ t = (g : Ground) × (loosely σ t ≡ Some g)

-- each type equated with itself
abbrev pub alike : List Ty → List Equation
alike types = map (λ t. same t t) types

-- ---- lists of what types become

-- the loose meanings of types that have them
pub all_loose : (τ : Grounding) (types : List Ty) → Each (HasLooseMeaning τ) types → (ts : List Ground) × BecomeLoosely τ types ts
all_loose τ [] all = ([], refl)
all_loose τ (t ∷ types) all = let more = all_loose τ types all.1 in (all.0.0 ∷ more.0, ap₂ (λ a as'. a ∷ as') all.0.1 more.1)

pub loosely_all : (τ : Grounding) (types : List Ty) (ts : List Ground) → Become τ types ts → BecomeLoosely τ types ts
loosely_all τ [] ts are = are
loosely_all τ (t ∷ types) [] are = cc
loosely_all τ (t ∷ types) (g ∷ ts) are = ap₂ (λ a as'. a ∷ as') (loose_of τ t g (first_same are)) (loosely_all τ types ts (rest_same are))

-- a type equated with itself is met where it becomes something
pub alike_met : (σ : Grounding) (types : List Ty) (ts : List Ground) → Become σ types ts → Solves σ (alike types)
alike_met σ [] ts are = tt
alike_met σ (t ∷ types) [] are = cc
alike_met σ (t ∷ types) (g ∷ ts) are = ((g, first_same are, first_same are), alike_met σ types ts (rest_same are))

pub left_alike : {A : Type 0} (f : Ty → A) (types : List Ty) → map (λ e. f e.left) (alike types) ≡ map f types
left_alike f [] = refl
left_alike f (t ∷ types) = ap₂ (λ a as'. a ∷ as') refl (left_alike f types)

pub length_alike : (types : List Ty) → length (alike types) ≡ length types
length_alike [] = refl
length_alike (t ∷ types) = let more : length (alike types) ≡ length types = length_alike types in cc

module _ (ρ : Opening) where
  -- ---- the parts of a list

  pub makes_front : (es fs : List Equation) (ts us : List Ty) → length ts ≡ length es → Makes ρ (es ++ fs) (ts ++ us) → Makes ρ es ts
  makes_front [] fs [] us fit made = tt
  makes_front [] fs (t ∷ ts) us fit made = cc
  makes_front (e ∷ es) fs [] us fit made = cc
  makes_front (e ∷ es) fs (t ∷ ts) us fit made = let rest : length ts ≡ length es = cc in (made.0, made.1, makes_front es fs ts us rest made.2)

  pub makes_back : (es fs : List Equation) (ts us : List Ty) → length ts ≡ length es → Makes ρ (es ++ fs) (ts ++ us) → Makes ρ fs us
  makes_back [] fs [] us fit made = made
  makes_back [] fs (t ∷ ts) us fit made = cc
  makes_back (e ∷ es) fs [] us fit made = cc
  makes_back (e ∷ es) fs (t ∷ ts) us fit made = let rest : length ts ≡ length es = cc in makes_back es fs ts us rest made.2

  -- ---- at a solution

  module _ (τ σ : Grounding) where
    abbrev pub OpensLeft : Equation → Type 0
    OpensLeft e = Each (OpensTo τ ρ σ) (variables_of e.left)

    pub opens_left : (es : List Equation) → Each (OpensTo τ ρ σ) (equation_variables es) → Each OpensLeft es
    opens_left [] all = tt
    opens_left (e ∷ es) all = (
      each_front (OpensTo τ ρ σ) (variables_of e.left) (variables_of e.right ++ equation_variables es) all,
      opens_left es (each_back (OpensTo τ ρ σ) (variables_of e.right) (equation_variables es) (each_back (OpensTo τ ρ σ) (variables_of e.left) (variables_of e.right ++ equation_variables es) all)),
    )

    pub made_same : (es : List Equation) (ts : List Ty) → Makes ρ es ts → Each OpensLeft es → Solves σ es → map (under τ) ts ≡ map (λ e. under σ e.left) es
    made_same [] [] made opens met = refl
    made_same [] (t ∷ ts) made opens met = absurd made
    made_same (e ∷ es) [] made opens met = absurd made
    made_same (e ∷ es) (t ∷ ts) made opens met =
        ap₂ (λ a as'. a ∷ as') (type_composed τ ρ σ e.left t met.0.0 opens.0 made.0 met.0.1 ∙ sym met.0.1) (made_same es ts made.2 opens.1 met.1)

    pub made_meanings : (es : List Equation) (ts : List Ty) → Makes ρ es ts → Each OpensLeft es → Solves σ es → Each (HasMeaning τ) ts
    made_meanings [] [] made opens met = tt
    made_meanings [] (t ∷ ts) made opens met = absurd made
    made_meanings (e ∷ es) [] made opens met = absurd made
    made_meanings (e ∷ es) (t ∷ ts) made opens met =
        ((met.0.0, type_composed τ ρ σ e.left t met.0.0 opens.0 made.0 met.0.1), made_meanings es ts made.2 opens.1 met.1)

    -- types equated with themselves
    pub alike_made : (types made_types : List Ty) (ts : List Ground) → Makes ρ (alike types) made_types → Each OpensLeft (alike types) → Become σ types ts → Become τ made_types ts
    alike_made types made_types ts made opens are = made_same (alike types) made_types made opens (alike_met σ types ts are) ∙ left_alike (under σ) types ∙ are

  -- ---- where row variables lack enough

  module _ (τ : Grounding) where
    pub met_loosely : (es : List Equation) (ts : List Ty) → Makes ρ es ts → Each (HasLooseMeaning τ) ts → Each (IsMetLoosely (loose_after ρ τ)) es
    met_loosely [] [] made there = tt
    met_loosely [] (t ∷ ts) made there = absurd made
    met_loosely (e ∷ es) [] made there = absurd made
    met_loosely (e ∷ es) (t ∷ ts) made there =
        ((there.0.0, loosely_composed ρ τ e.left t there.0.0 made.0 there.0.1, loosely_composed ρ τ e.right t there.0.0 made.1 there.0.1), met_loosely es ts made.2 there.1)

    pub same_loosely : (types made_types : List Ty) (ts : List Ground) → Makes ρ (alike types) made_types → BecomeLoosely τ made_types ts → BecomeLoosely (loose_after ρ τ) types ts
    same_loosely [] [] ts made are = are
    same_loosely [] (t ∷ ts) gs made are = absurd made
    same_loosely (e ∷ es) [] gs made are = absurd made
    same_loosely (e ∷ es) (t ∷ ts) [] made are = cc
    same_loosely (e ∷ es) (t ∷ ts) (g ∷ gs) made are = ap₂ (λ a as'. a ∷ as') (loosely_composed ρ τ e t g made.0 (first_same are)) (same_loosely es ts gs made.2 (rest_same are))

-- ---- what types show

pub shown_lacking : (τ : Grounding) (types : List Ty) → Each (HasMeaning τ) types → Each (IsLacking τ) (flat_map shown types)
shown_lacking τ [] there = tt
shown_lacking τ (t ∷ types) there = each_both (IsLacking τ) (shown t) (flat_map shown types) (lacks_shown τ t there.0.0 there.0.1) (shown_lacking τ types there.1)

-- types that have meanings somewhere have loose ones wherever row variables lack what they show
pub loosely_meant : (τ τ' : Grounding) (types : List Ty) → Each (HasMeaning τ') types → Each (IsLacking τ) (flat_map shown types) → Each (HasLooseMeaning τ) types
loosely_meant τ τ' [] there lacking = tt
loosely_meant τ τ' (t ∷ types) there lacking = (
  there_is (loosely τ t) (loosely_there τ τ' t there.0.0 there.0.1 (each_front (IsLacking τ) (shown t) (flat_map shown types) lacking)),
  loosely_meant τ τ' types there.1 (each_back (IsLacking τ) (shown t) (flat_map shown types) lacking),
)
