-- The helpers of a ground program: their bodies take the types and calls that are told.
use Rattle.std.proofs.Common.{◌≡◌, ℕ, zero, suc, Bool, true, false, ◌||◌, List, [], ◌∷◌, map, Some, None, slice_get, refl, sym, ◌∙◌, ap, subst}
use Rattle.lk_ast.specs.Tables.{Tables}
use Rattle.lk_ast.specs.declared.declaration.Program.{Program}
use Rattle.lk_ground.specs.Language.{function_of}
use Rattle.lk_ground.specs.declared.program.GroundFun.{GroundFun}
use Rattle.lk_ground.specs.declared.program.GroundProgram.{GroundProgram}
use Rattle.lk_inline.proofs.Entering.{AreHelpersAt, IsHelperAt}
use Rattle.lk_mono.specs.Grounded as grounded
use Rattle.lk_mono.specs.Grounded.{AreCalled}
use Rattle.lk_mono.specs.Held.{types_in}
use Rattle.lk_mono.specs.Instanced as instanced
use Rattle.lk_mono.specs.Instanced.{AreInstancesOf, HasInstances, IsInstanceOf}
use Rattle.lk_names.specs.Programs.{IsBound}
use Rattle.lk_sites.specs.Pending.{pending}
use Rattle.lk_sites.specs.Takes as takes
use Rattle.lk_sites.specs.Takes.{Takes}
use Rattle.lk_sound.specs.Instances.{AreClosed, Instances, IsHelperNode}
use Rattle.lk_sound.specs.Nodes.{TypedNode, Use, nodes_of}
use Rattle.lk_sound.specs.Tables.{AreTables}

-- where all uses call helpers, a body takes its types and calls
pub takes_all : (mains helpers : List Use) (nodes : List TypedNode) (places : List ℕ) → AreCalled mains helpers true nodes places → Takes helpers nodes (pending (types_in nodes) places) (pending [] [])
takes_all mains helpers _ _ AreCalled.none = Takes.none
takes_all mains helpers _ _ (AreCalled.other {node} {nodes} {places} none others) = Takes.other none (takes_all mains helpers nodes places others)
takes_all mains helpers _ _ (AreCalled.called {node} {nodes} {place} {places} {u} uses at others) = Takes.called uses at (takes_all mains helpers nodes places others)

-- the instance at a place
pub instance_at : (p : Program) (i : Instances) (in_helper : Bool) (P : Use → TypedNode → Type 0) (fs : List GroundFun) (us : List Use) → AreInstancesOf p i in_helper P fs us → (h : ℕ) (u : Use) → slice_get us h ≡ Some u
    → (f : GroundFun) × (slice_get fs h ≡ Some f) × IsInstanceOf p i in_helper (P u) (function_of f) f u
instance_at p i in_helper P _ _ AreInstancesOf.none h u is = let wrong : None ≡ Some u = is in absurd cc
instance_at p i in_helper P _ _ (AreInstancesOf.more {f = f} {u = v} one others) zero u is =
    let same : v ≡ u = cc in
    (f, refl, subst (λ w. IsInstanceOf p i in_helper (P w) (function_of f) f w) same one)
instance_at p i in_helper P _ _ (AreInstancesOf.more {fs = fs} {us = us} one others) (suc h) u is = instance_at p i in_helper P fs us others h u is

pub helpers_there : (p : Program) (bound : IsBound p) (g : GroundProgram) (has : HasInstances p g) (tables : Tables) (rows : AreTables p tables) → AreHelpersAt p has.shaped.instances bound has.shaped.closed tables rows g.helpers
helpers_there p bound g has tables rows h u is =
    let found = instance_at p has.shaped.instances true (λ u. IsHelperNode p has.shaped.instances.helpers u) g.helpers has.shaped.instances.helpers has.helpers h u is in
    let it = found.2 in
    record {
      f = found.0;
      is = found.1;
      named = it.named;
      has = it.has;
      flat = it.nodes;
      takes = subst (λ types. Takes has.shaped.instances.helpers (nodes_of false it.has.typed.body) (pending types found.0.calls) (pending [] [])) (sym it.types) (takes_all has.shaped.instances.mains has.shaped.instances.helpers (nodes_of false it.has.typed.body) found.0.calls it.calls);
    }
