-- The sites of a ground program are typed blocks of its instances, some of the program's text, each with its label.
use Rattle.std.proofs.Common.{◌≡◌, ℕ, ◌+◌, false, List, [], ◌∷◌, Some, sym, subst}
use Rattle.lk_ast.specs.declared.declaration.Program.{Program}
use Rattle.lk_ground.specs.Language as language
use Rattle.lk_ground.specs.Language.{function_of}
use Rattle.lk_ground.specs.declared.program.GroundFun.{GroundFun}
use Rattle.lk_ground.specs.declared.program.GroundProgram.{GroundProgram}
use Rattle.lk_mono.specs.Instanced.{AreInstancesOf, HasInstances, IsInstanceOf}
use Rattle.lk_sites.proofs.Passing.{Passes, passes_all}
use Rattle.lk_sites.proofs.SiteLabels.{sites_labelled}
use Rattle.lk_sites.proofs.SiteRests.{IsOfInstance, sites_rests}
use Rattle.lk_sites.proofs.SiteTyping.{expr_visited}
use Rattle.lk_sites.specs.Blocks.{IsBlock}
use Rattle.lk_sites.specs.Law.{IsSiteOf, SitesLaw}
use Rattle.lk_sites.specs.Pending.{pending}
use Rattle.lk_sites.specs.Sites.{Site, Tour, in_instance, in_instances, sites_of, start}
use Rattle.lk_sound.proofs.TextBlocks.{IsBlockOf, function_blocks}
use Rattle.lk_sound.specs.Instances.{Instances, IsFine}
use Rattle.lk_sound.specs.Nodes.{Use, nodes_of}
use Rattle.lk_types.specs.Each.{Each}

module _ (p : Program) (g : GroundProgram) (has : HasInstances p g) where
  record IsTyped (site : Site) : Type 0 where
    block : IsBlock p has.shaped.instances site.block site.types site.calls
    of_text : IsBlockOf p site.block

  instance_typed : (fun : ℕ) (f : GroundFun) (u : Use) → IsInstanceOf p has.shaped.instances false (IsFine has.shaped.instances) (function_of f) f u → (t : Tour) → Each IsTyped t.found → Each IsTyped (in_instance fun f t).found
  instance_typed fun f u it t before =
      let i : Instances = has.shaped.instances in
      let nodes = nodes_of false it.has.typed.body in
      let taken : Passes i.mains i.helpers nodes (pending f.types f.calls) (pending [] []) =
      subst (λ types. Passes i.mains i.helpers nodes (pending types f.calls) (pending [] [])) (sym it.types) (passes_all i.mains i.helpers nodes f.calls it.calls) in
      (expr_visited p i fun IsTyped (λ e t block text. record { block = block; of_text = text }) it.has.functions false it.has.typed.body it.nodes (function_blocks p (function_of f) it.has.declared)
      (record { label = t.label + 1; types = f.types; calls = f.calls; found = t.found }) (pending [] []) taken).sites before

  instances_typed : (fun : ℕ) (fs : List GroundFun) (us : List Use) → AreInstancesOf p has.shaped.instances false (λ u. IsFine has.shaped.instances) fs us → (t : Tour) → Each IsTyped t.found → Each IsTyped (in_instances fun fs t).found
  instances_typed fun _ _ AreInstancesOf.none t before = before
  instances_typed fun _ _ (AreInstancesOf.more {f = f} {fs = fs} {u = u} {us = us} one others) t before = instances_typed (fun + 1) fs us others (in_instance fun f t) (instance_typed fun f u one t before)

  all_are : (sites : List Site) → Each IsTyped sites → Each (IsOfInstance g) sites → Each (λ site. language.labelled g site.label ≡ Some (language.Site site.fun site.block.span.start)) sites → Each (IsSiteOf p g has) sites
  all_are [] typed of labelled = tt
  all_are (site ∷ sites) typed of labelled = (
    record {
      block = typed.0.block;
      of_text = typed.0.of_text;
      labelled = labelled.0;
      function = of.0.function;
      there = of.0.there;
      nodes = of.0.rest.nodes;
      uses = of.0.rest.uses;
      types = of.0.rest.types_are;
      calls = of.0.rest.calls_are;
    },
    all_are sites typed.1 of.1 labelled.1,
  )

pub sites_typed : SitesLaw
sites_typed p g has = all_are p g has (sites_of g) (instances_typed p g has 0 g.funs has.shaped.instances.mains has.mains start tt) (sites_rests g) (sites_labelled g)
