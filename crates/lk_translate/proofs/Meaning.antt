-- All that is translated of a program means what stands at the sites.
use Rattle.std.proofs.Common.{◌≡◌, ℕ, zero, suc, refl, sym, ap, subst, inl, inr, List, [], ◌∷◌, Option, Some, None, drop, map, option_map}
use Rattle.lk_ast.specs.declared.declaration.Program.{Program}
use Rattle.lk_ground.specs.declared.program.GroundFun.{GroundFun}
use Rattle.lk_ground.specs.declared.program.GroundProgram.{GroundProgram}
use Rattle.lk_inline.specs.Inlined.{inlined_at}
use Rattle.lk_inline.specs.Law.{AreProper, IsProperType, TypesLaw}
use Rattle.lk_mono.specs.Instanced.{HasInstances}
use Rattle.lk_names.specs.Programs.{IsBound}
use Rattle.lk_query.specs.declared.query.Inlined.{Inlined}
use Rattle.lk_query.specs.declared.query.Inlined.TheVariants as inlined
use Rattle.lk_sites.specs.Law.{IsSiteOf, SitesLaw}
use Rattle.lk_sites.specs.Sites.{Site, sites_of}
use Rattle.lk_translate.specs.Law.{AnswerLaw, ChangeLaw, GoodLaw, IsLegal, IsMeant, TranslationLaw}
use Rattle.lk_translate.specs.Translation.{code_of, inlined_code, translated_at}
use Rattle.lk_translate.specs.declared.translated.Code.{Code}
use Rattle.lk_translate.specs.declared.translated.Translated.{Translated}
use Rattle.lk_types.proofs.Members.{each_at}
use Rattle.lk_types.proofs.Parts.{same_some}
use Rattle.lk_types.specs.Each.{Each, OneOf}
use Rattle.lk_types.specs.declared.ground.Ground.{Ground}

-- ---- what holds of the types of each function holds of those from a site on

each_from : {A : Type 0} (Q : A → Type 0) (n : ℕ) (xs : List A) → Each Q xs → Each Q (drop n xs)
each_from Q zero xs all = all
each_from Q (suc n) [] all = tt
each_from Q (suc n) (x ∷ xs) all = each_from Q n xs all.1

types_at : (Q : Ground → Type 0) (p : Program) (g : GroundProgram) (has : HasInstances p g) (site : Site) → IsSiteOf p g has site → Each (λ (f : GroundFun). Each Q f.types) g.funs → Each Q site.types
types_at Q p g has site is all = subst (Each Q) (sym is.types) (each_from Q is.nodes is.function.types (each_at (λ (f : GroundFun). Each Q f.types) g.funs site.fun is.function is.there all))

-- ---- sites

module _ (answers : AnswerLaw) (changes : ChangeLaw) (good : GoodLaw) (p : Program) (bound : IsBound p) (g : GroundProgram) (has : HasInstances p g) (helpers : AreProper g.helpers) where
  is_legal : (site : Site) → IsSiteOf p g has site → Each IsProperType site.types → (found : Inlined) → inlined_at p g.helpers site ≡ Some found → IsLegal p site found
  is_legal site is proper (inlined.Query query) at = answers p bound g has site is.block proper query at
  is_legal site is proper (inlined.Change change) at = changes p bound g has helpers site is.block is.of_text proper change at

  abbrev at_site : Site → Code → Translated
  at_site site code = record { label = site.label; span = site.block.span; code = code }

  one_meant : (site : Site) → IsSiteOf p g has site → Each IsProperType site.types → OneOf (λ other. other ≡ site) (sites_of g) → (one : Translated) → Some one ≡ translated_at p g.helpers site → IsMeant p g one
  unfolding code_of
  one_meant site is proper listed one made = by_found (inlined_at p g.helpers site) refl made
    where
      by_found : (o : Option Inlined) → inlined_at p g.helpers site ≡ o → Some one ≡ option_map (at_site site) (option_map inlined_code o) → IsMeant p g one
      by_found None at made = let wrong : Some one ≡ None = made in absurd cc
      by_found (Some found) at made =
          let same : one ≡ at_site site (inlined_code found) = same_some made in
          record {
            site = site;
            listed = listed;
            label = ap (λ (one : Translated). one.label) same;
            span = ap (λ (one : Translated). one.span) same;
            found = found;
            there = at;
            code = ap (λ (one : Translated). one.code) same;
            legal = is_legal site is proper found at;
            good = good p bound g has helpers site is.block is.of_text proper found at;
          }

  -- site by site
  all_meant : Each (λ (f : GroundFun). Each IsProperType f.types) g.funs → (sites : List Site) → Each (IsSiteOf p g has) sites → ((site : Site) → OneOf (λ other. other ≡ site) sites → OneOf (λ other. other ≡ site) (sites_of g)) → (all : List Translated) → map Some all ≡ map (translated_at p g.helpers) sites
      → Each (IsMeant p g) all
  all_meant proper [] are among [] made = tt
  all_meant proper [] are among (one ∷ all) made = absurd cc
  all_meant proper (site ∷ sites) are among [] made = absurd cc
  all_meant proper (site ∷ sites) are among (one ∷ all) made =
      let first : Some one ≡ translated_at p g.helpers site = cc in
      let rest : map Some all ≡ map (translated_at p g.helpers) sites = cc in
      (one_meant site are.0 (types_at IsProperType p g has site are.0 proper) (among site (inl refl)) one first, all_meant proper sites are.1 (λ other one. among other (inr one)) all rest)

pub translated-meant : AnswerLaw → ChangeLaw → GoodLaw → SitesLaw → TypesLaw → TranslationLaw
translated-meant answers changes good sites types p bound schemes tys g grounded has all are =
    let proper : AreProper g.funs × AreProper g.helpers = types p schemes tys g grounded in
    all_meant answers changes good p bound g has proper.1 proper.0 (sites_of g) (sites p g has) (λ site one. one) all are.each
