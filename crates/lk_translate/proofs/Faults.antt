-- The first refusal, site by site.
use Rattle.std.proofs.Common.{◌≡◌, ℕ, suc, ◌+◌, ◌<◌, ◌≤◌, true, false, List, [], ◌∷◌, ◌++◌, Option, Some, None, Result, drop, get_or, length, map, nat_lt, option_map, take, take-append-drop, refl, sym, ◌∙◌, ap, ap₂, subst, arith, if◌then◌else◌}
use Rattle.std.proofs.Math.Seq.{drop-cons, take-suc}
use Rattle.std.proofs.lemmas.Bool.Decides.{nat_tests}
use Rattle.std.proofs.lemmas.List.{map-append}
use Rattle.lk_ast.specs.declared.declaration.Program.{Program}
use Rattle.lk_ast.specs.declared.place.Span.{Span}
use Rattle.lk_bodies.specs.Nodes.{query_nodes}
use Rattle.lk_ground.specs.declared.program.GroundFun.{GroundFun}
use Rattle.lk_ground.specs.declared.program.GroundProgram.{GroundProgram}
use Rattle.lk_inline.specs.Inlined.{inlined_at}
use Rattle.lk_query.specs.declared.query.Inlined.{Inlined}
use Rattle.lk_sites.specs.Sites.{Site}
use Rattle.lk_translate.specs.Translation.{code_of, first_of, fault_at, first_fault, inlined_code, inlined_fault, most_nodes, over, size_fault, translated_at}
use Rattle.lk_translate.specs.Tried.{AreMade, IsMade, Makes}
use Rattle.lk_translate.specs.declared.block.Stop.{Stop}
use Rattle.lk_translate.specs.declared.error.Size.{Size}
use Rattle.lk_translate.specs.declared.error.Size.TheVariants.{Nodes}
use Rattle.lk_translate.specs.declared.translated.Code.{Code}
use Rattle.lk_translate.specs.declared.translated.Translated.{Translated}

-- ---- one site behind others

-- those up to one
pub shown_more : {A B : Type 0} (f : A → B) (xs : List A) (i : ℕ) (x : A) → i < length xs → x ≡ get_or xs i x → map f (take (i + 1) xs) ≡ map f (take i xs) ++ f x ∷ []
shown_more f xs i x within is =
    let next : i + 1 ≡ suc i = omega arith in
    ap (λ k. map f (take k xs)) next ∙ ap (map f) (take-suc xs i x within) ∙ map-append f (take i xs) _ ∙ ap (λ y. map f (take i xs) ++ f y ∷ []) (sym is)

-- all of them by that one
pub shown_whole : {A B : Type 0} (f : A → B) (xs : List A) (i : ℕ) (x : A) → i < length xs → x ≡ get_or xs i x → map f xs ≡ map f (take i xs) ++ f x ∷ map f (drop (suc i) xs)
shown_whole f xs i x within is =
    ap (map f) (sym (take-append-drop i xs) ∙ ap (λ ys. take i xs ++ ys) (drop-cons xs i x within)) ∙ map-append f (take i xs) _
    ∙ ap (λ y. map f (take i xs) ++ f y ∷ map f (drop (suc i) xs)) (sym is)

-- of two refusals the first, where there is none before it
first_behind : (f before whole rest : Option (Size × Span)) → first_of f before ≡ None → (before ≡ None → whole ≡ rest) → first_of f whole ≡ rest
first_behind None before whole rest none later = later none
first_behind (Some f) before whole rest none later = let wrong : Some f ≡ None = none in absurd cc

module _ (g : GroundProgram) where
  abbrev first : List Site → Option (Size × Span)
  first = first_fault g.program.now g.helpers

  none_before : (sites others : List Site) → first sites ≡ None → first (sites ++ others) ≡ first others
  none_before [] others none = refl
  none_before (site ∷ sites) others none = first_behind (fault_at g.program.now g.helpers site) (first sites) (first (sites ++ others)) (first others) none (none_before sites others)

  pub one_more : (sites : List Site) (site : Site) (all : List Translated) (one : Translated) → AreMade g sites all → IsMade g site one → AreMade g (sites ++ site ∷ []) (all ++ one ∷ [])
  one_more sites site all one before own = (
    none_before sites (site ∷ []) before.0 ∙ ap (λ f. first_of f None) own.0,
    map-append Some all (one ∷ []) ∙ ap₂ (λ xs x. xs ++ x ∷ []) before.1 own.1 ∙ sym (map-append (translated_at g.program.now g.helpers) sites (site ∷ [])),
  )

  pub first_refused : (sites : List Site) (site : Site) (others : List Site) (all : List Translated) (fault : Size × Span) → AreMade g sites all → fault_at g.program.now g.helpers site ≡ Some fault
      → first (sites ++ site ∷ others) ≡ Some fault
  first_refused sites site others all fault before own = none_before sites (site ∷ others) before.0 ∙ ap (λ f. first_of f (first others)) own

-- ---- one site

few : (most n : ℕ) (size : Size) (rest : Option Size) → n ≤ most → over most n size rest ≡ rest
few most n size rest l = ap (λ b. if b then Some size else rest) (under most n l)
  where
    under : (most n : ℕ) → n ≤ most → nat_lt most n ≡ false
    under most n l = grind (arith, nat_tests)

many : (most n : ℕ) (size : Size) (rest : Option Size) → most < n → over most n size rest ≡ Some size
many most n size rest l = ap (λ b. if b then Some size else rest) (more most n l)
  where
    more : (most n : ℕ) → most < n → nat_lt most n ≡ true
    more most n l = grind (arith, nat_tests)

module _ (p : Program) (helpers : List GroundFun) (site : Site) where
  pub site_made : (found : Inlined) (result : Result Code Stop) → inlined_at p helpers site ≡ Some found → query_nodes p site.block ≤ most_nodes → Makes result (inlined_fault found) (Some (inlined_code found))
      → Makes result (size_fault p helpers site) (code_of p helpers site)
  unfolding size_fault code_of
  site_made found result is nodes makes =
      let fault : size_fault p helpers site ≡ inlined_fault found = few most_nodes (query_nodes p site.block) Nodes _ nodes ∙ ap (λ o. elim o as (λ _. Option Size) [ None ↦ None | Some found ↦ inlined_fault found ]) is in
      let code : code_of p helpers site ≡ Some (inlined_code found) = ap (option_map inlined_code) is in
      subst (λ f. Makes result f (code_of p helpers site)) (sym fault) (subst (Makes result (inlined_fault found)) (sym code) makes)

  pub too_many : most_nodes < query_nodes p site.block → size_fault p helpers site ≡ Some Nodes
  unfolding size_fault
  too_many more = many most_nodes (query_nodes p site.block) Nodes _ more
