-- What there is at the nodes of an instance, whose types are named by their numbers in a table.
use Rattle.std.proofs.Common.{◌≡◌, ℕ, zero, suc, List, [], ◌∷◌, Option, Some, None, refl, ap, sym, ◌∙◌, map, drop, take}
use Rattle.std.proofs.lemmas.List.{take-map}
use Rattle.std.proofs.lemmas.Option.{slice_get-map}
use Rattle.std.specs.List.{slice_get}
use Rattle.std.specs.Option.{option_map}
use Rattle.lk_ast.specs.declared.place.Span.{Span}
use Rattle.lk_ground_types.specs.Grounds.{at}
use Rattle.lk_ground_types.specs.Least.{unit}
use Rattle.lk_outline.specs.Outline.{Lambda}
use Rattle.lk_outline.specs.Shown.{shown, shown_site}
use Rattle.lk_outline.specs.declared.site.Site.{Site as TheSite}
use Rattle.lk_outline.specs.Typed.{effects_around, or_unit, type_at}
use Rattle.lk_outline.specs.Typed.{effects_in as effects_at_level}
use Rattle.lk_types.specs.Grounding.{Grounding, all_of, under}
use Rattle.lk_types.specs.declared.ground.Ground.{Ground, out-Ground}
use Rattle.lk_types.specs.declared.ground.Ground.TheVariants as known
use Rattle.lk_types.specs.declared.ty.Effect.{Effect}
use Rattle.lk_types.specs.declared.ty.Ty.{Ty}
use Rattle.lk_typing.specs.Law.{Become}
use Rattle.lk_mono.specs.Looks.{IsLooked, as_uses, first_beyond, found_in}
use Rattle.lk_mono.specs.declared.look.Found.{Found}

-- what all of them become, as a list
pub become_all : (σ : Grounding) (types : List Ty) (ts : List Ground) → Become σ types ts → all_of (map (under σ) types) ≡ Some ts
become_all σ types ts become = ap all_of become ∙ all_there ts
  where
    all_there : (ts : List Ground) → all_of (map (λ t. Some t) ts) ≡ Some ts
    all_there [] = refl
    all_there (t ∷ ts) = ap (option_map (λ more. t ∷ more)) (all_there ts)

-- `()` is no function
unit_effects : [] ≡ effects_at_level (out-Ground unit)
unit_effects = simp known.outs-Fields

module _ (table : List Ground) (numbers : List ℕ) (ts : List Ground) (made : map (at table) numbers ≡ ts) where
  there : (n : ℕ) (o : Option ℕ) → slice_get numbers n ≡ o → slice_get ts n ≡ option_map (at table) o
  there n o is = ap (λ ts. slice_get ts n) (sym made) ∙ slice_get-map (at table) numbers n ∙ ap (option_map (at table)) is

  pub type_past : (n : ℕ) → slice_get numbers n ≡ None → unit ≡ type_at ts n
  type_past n is = sym (ap or_unit (there n None is))

  -- there are none behind all nodes
  pub effects_past : (own es : List Effect) (n : ℕ) → slice_get numbers n ≡ None → es ≡ [] → es ≡ effects_around own ts (Lambda n)
  effects_past own es n is none = none ∙ unit_effects ∙ ap (λ t. effects_at_level (out-Ground t)) (type_past n is)

-- ---- what there is in an instance

-- the uses before the first type that is too large, and the place of its node
pub all_looked : (table : List Ground) (own : List Effect) (ts : List Ground) (sites before behind : List TheSite) (numbers : List ℕ) (uses : List Found) (large : Option Span) (n : ℕ)
    → map (at table) numbers ≡ ts → n ≡ first_beyond ts → before ≡ take n sites → behind ≡ drop n sites
    → as_uses uses ≡ found_in own ts (shown before) → large ≡ option_map (λ s. s.span) (slice_get behind 0)
    → IsLooked table own ts (shown sites) (record { numbers = numbers; uses = uses; large = large })
all_looked table own ts sites before behind numbers uses large n made number front back found first = record {
  made = made;
  uses = found ∙ ap (λ xs. found_in own ts (shown xs)) front ∙ ap (found_in own ts) (sym (take-map shown_site n sites)) ∙ ap (λ k. found_in own ts (take k (shown sites))) number;
  large = first ∙ ap (λ xs. option_map (λ s. s.span) (slice_get xs 0)) back ∙ at_first sites n ∙ ap (λ k. option_map (λ s. s.span) (slice_get (shown sites) k)) number;
}
  where
    at_first : (xs : List TheSite) (k : ℕ) → option_map (λ s. s.span) (slice_get (drop k xs) 0) ≡ option_map (λ s. s.span) (slice_get (shown xs) k)
    at_first [] zero = refl
    at_first [] (suc k) = refl
    at_first (x ∷ xs) zero = refl
    at_first (x ∷ xs) (suc k) = at_first xs k
