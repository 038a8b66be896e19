-- A ground program keeps every evaluation of its program: what its instances use are instances of the functions named there.
use Rattle.std.proofs.Common.{◌≡◌, refl, sym, ap, subst, ◌∙◌, ℕ, zero, suc, Bool, true, false, not, if◌then◌else◌, List, [], ◌∷◌, Option, Some, None, slice_get}
use Rattle.std.proofs.lemmas.Option.{none-some}
use Rattle.lk_ast.specs.Functions.{functions_of, function_named, is_named}
use Rattle.lk_ast.specs.declared.declaration.FunDef.{FunDef}
use Rattle.lk_ast.specs.declared.declaration.Program.{Program}
use Rattle.lk_ground.specs.Language.{at_place, function_of, instance}
use Rattle.lk_ground.specs.Law.{AreInstances, InstancesLaw}
use Rattle.lk_ground.specs.Sites.{PlacedUse, use_at, uses_in, outer_uses, labelled_in}
use Rattle.lk_ground.specs.Standing.{IsCalled, StandsIn}
use Rattle.lk_ground.specs.UsesApart.{AreUsesApart}
use Rattle.lk_ground.specs.declared.program.GroundFun.{GroundFun}
use Rattle.lk_ground.specs.declared.program.GroundProgram.{GroundProgram}
use Rattle.lk_index.specs.Places.{AreApart}
use Rattle.lk_mono.proofs.MainFirst.{main_there}
use Rattle.lk_mono.proofs.PlacedUses.{placed, node_placed, use_placed, outer_nodes, uses_placed, outer_placed}
use Rattle.lk_mono.proofs.PlacesCalled.{sites, IsLed, places_called}
use Rattle.lk_mono.specs.Grounded.{Are, IsInstance, IsGrounded}
use Rattle.lk_mono.specs.Grounded as grounded
use Rattle.lk_mono.specs.Instances.{Body, HasBody, IsBody, uses_of}
use Rattle.lk_mono.specs.Keeps.{Keeps, KeepsSessions}
use Rattle.lk_names.specs.Programs.{IsBound}
use Rattle.lk_sound.specs.Nodes.{Use, TypedNode}
use Rattle.lk_types.proofs.Members.{each_of_in, found_in, each_both}
use Rattle.lk_sound.specs.Within.{IsFunctionOf}
use Rattle.lk_types.specs.Each.{Each, OneOf}
use Rattle.lk_types.specs.declared.scheme.Scheme.{Scheme}
use Rattle.lk_types.specs.declared.ty.Ty.{Ty}

-- ---- uses outside of queries, updates and deletions

module _ (P : PlacedUse → Type 0) (Q : TypedNode → Type 0) (serve : (node : TypedNode) (u : Use) → node.part.inside ≡ false → node.part.use_of ≡ Some u → Q node → P (use_at u.name node.part.span.start)) where
  of_node : (node : TypedNode) (o : Option Use) → node.part.inside ≡ false → node.part.use_of ≡ o → Q node → Each P (use_placed node.part.span.start o)
  of_node node None outside is holds = tt
  of_node node (Some u) outside is holds = (serve node u outside is holds, tt)

  -- what holds of the nodes holds of what these use
  each_outer : (nodes : List TypedNode) → Each Q nodes → Each P (placed (outer_nodes nodes))
  each_outer [] all = tt
  each_outer (node ∷ nodes) all = by_test node.part.inside refl (each_outer nodes all.1)
    where
      by_test : (b : Bool) → node.part.inside ≡ b → Each P (placed (outer_nodes nodes)) → Each P (placed (if not b then node ∷ outer_nodes nodes else outer_nodes nodes))
      by_test true inside rest = rest
      by_test false outside rest = each_both P (node_placed node) (placed (outer_nodes nodes)) (of_node node node.part.use_of outside refl all.0) rest

-- ---- instances and their bodies

module _ {p : Program} {mains helpers : List Use} {in_helper : Bool} where
  -- the instance at the place of a use is one of the function that it names
  instance_at : (fs : List GroundFun) (bodies : List Body) → Are p mains helpers in_helper fs bodies → (i : ℕ) (u : Use) → slice_get (uses_of bodies) i ≡ Some u
      → (f : GroundFun) × (slice_get fs i ≡ Some f) × (function_named p u.name ≡ Some (function_of f))
  instance_at [] [] grounded.Are.none i u at = absurd (none-some u at)
  instance_at [] (body ∷ bodies) are i u at = elim are [ ]
  instance_at (f ∷ fs) [] are i u at = elim are [ ]
  instance_at (f ∷ fs) (body ∷ bodies) (grounded.Are.more is more) zero u at =
      let same : body.use_of ≡ u = cc in
      (f, refl, ap (λ (w : Use). function_named p w.name) (sym same) ∙ is.function)
  instance_at (f ∷ fs) (body ∷ bodies) (grounded.Are.more is more) (suc i) u at = instance_at fs bodies more i u at

-- an instance with its body
abbrev WithBody : Program → List Scheme → List Ty → List Use → List Use → Bool → GroundFun → Type 0
WithBody p schemes types mains helpers in_helper f = (body : Body) × IsInstance p mains helpers in_helper f body × HasBody p schemes types body

module _ {p : Program} {schemes : List Scheme} {types : List Ty} {mains helpers : List Use} {in_helper : Bool} where
  body_of : (fs : List GroundFun) (bodies : List Body) → Are p mains helpers in_helper fs bodies → Each (HasBody p schemes types) bodies → (i : ℕ) (f : GroundFun) → slice_get fs i ≡ Some f
      → WithBody p schemes types mains helpers in_helper f
  body_of [] [] grounded.Are.none have i f at = absurd (none-some f at)
  body_of [] (body ∷ bodies) are have i f at = elim are [ ]
  body_of (g ∷ fs) [] are have i f at = elim are [ ]
  body_of (g ∷ fs) (body ∷ bodies) (grounded.Are.more is more) have zero f at =
      let same : g ≡ f = cc in
      (body, subst (λ h. IsInstance p mains helpers in_helper h body) same is, have.0)
  body_of (g ∷ fs) (body ∷ bodies) (grounded.Are.more is more) have (suc i) f at = body_of fs bodies more have.1 i f at

-- the uses of a body are those in the function of that name
module _ {p : Program} {schemes : List Scheme} {types : List Ty} {u : Use} {nodes : List TypedNode} (body : IsBody p schemes types u nodes) (f : FunDef) (named : function_named p u.name ≡ Some f) where
  same_function : body.function ≡ f
  same_function = let is : function_named p u.name ≡ Some body.function = body.named in cc

  body_uses : placed nodes ≡ uses_in f.body
  body_uses = ap placed body.are ∙ uses_placed false body.typed.is.typed.body ∙ ap (λ (g : FunDef). uses_in g.body) same_function

  body_outer : placed (outer_nodes nodes) ≡ outer_uses f.body
  body_outer = ap (λ ns. placed (outer_nodes ns)) body.are ∙ outer_placed body.typed.is.typed.body ∙ ap (λ (g : FunDef). outer_uses g.body) same_function

-- ---- the ground program

-- the sessions that begin in its first instance are kept
abbrev KeepsFirst : Program → GroundProgram → Type 0
KeepsFirst p g = (main : GroundFun) → instance g 0 ≡ Some main → KeepsSessions p g main

module _ (g : GroundProgram) (schemes : List Scheme) (types : List Ty) (mains helpers : List Body) where
  abbrev Have : Type 0
  Have = Each (HasBody g.program.now schemes types) mains

  abbrev AreFuns : Type 0
  AreFuns = Are g.program.now (uses_of mains) (uses_of helpers) false g.funs mains

  abbrev IsFun : GroundFun → Type 0
  IsFun f = WithBody g.program.now schemes types (uses_of mains) (uses_of helpers) false f

  module _ (funs : AreFuns) (apart : AreUsesApart g.program.now) (f : GroundFun) (is : IsFun f) where
    declared : IsFunctionOf g.program.now (function_of f)
    declared = (found_in (is_named is.0.use_of.name) (functions_of g.program.now) (function_of f) is.1.function).0

    abbrev IsLedIn : TypedNode → Type 0
    IsLedIn = IsLed (uses_of mains) (uses_of helpers) false (uses_in (function_of f).body) f.calls

    all_led : Each IsLedIn is.0.nodes
    all_led =
        let same : placed is.0.nodes ≡ uses_in (function_of f).body = body_uses is.2 (function_of f) is.1.function in
        subst (λ uses. Each (IsLed (uses_of mains) (uses_of helpers) false uses f.calls) is.0.nodes) same
        (places_called (uses_of mains) (uses_of helpers) false is.0.nodes f.calls is.1.calls (subst (λ uses. AreApart (sites uses)) (sym same) (apart (function_of f) declared)))

    -- a use outside calls an instance of what it names
    outside_called : (node : TypedNode) (u : Use) → node.part.inside ≡ false → node.part.use_of ≡ Some u → IsLedIn node → IsCalled g f (use_at u.name node.part.span.start)
    outside_called node u outside is_use led =
        let found : (n : ℕ) × (at_place (uses_in (function_of f).body) f.calls node.part.span.start ≡ Some n) × (slice_get (if node.part.inside then uses_of helpers else uses_of mains) n ≡ Some u) = led u is_use in
        let at : slice_get (uses_of mains) found.0 ≡ Some u = subst (λ b. slice_get (if b then uses_of helpers else uses_of mains) found.0 ≡ Some u) outside found.2 in
        let called : (h : GroundFun) × (slice_get g.funs found.0 ≡ Some h) × (function_named g.program.now u.name ≡ Some (function_of h)) = instance_at g.funs mains funs found.0 u at in
        (found.0, called.0, found.1, called.1, called.2)

    stands : StandsIn g f (function_of f).body
    stands = record {
      calls = subst (Each (IsCalled g f)) (body_outer is.2 (function_of f) is.1.function) (each_outer (IsCalled g f) IsLedIn outside_called is.0.nodes all_led);
      labels = each_of_in (λ site. OneOf (λ other. other ≡ site) (labelled_in (function_of f).body)) (labelled_in (function_of f).body) (λ site one. one);
    }

  are_instances : AreFuns → Have → AreUsesApart g.program.now → AreInstances g
  are_instances funs have apart = record {
    declared = λ i f at. declared funs apart f (body_of g.funs mains funs have i f at);
    stand = λ i f at. stands funs apart f (body_of g.funs mains funs have i f at);
  }

  keeps_itself : InstancesLaw → AreFuns → Have → KeepsFirst g.program.now g
  keeps_itself law funs have main is placed apart arg fuel = law g placed (are_instances funs have apart) main is arg fuel

pub instances_lemma : (g : GroundProgram) (p : Program) (schemes : List Scheme) (types : List Ty) (mains helpers : List Body) → g.program.now ≡ p
    → Are p (uses_of mains) (uses_of helpers) false g.funs mains → Each (HasBody p schemes types) mains → AreUsesApart p → AreInstances g
instances_lemma g p schemes types mains helpers is =
    subst (λ q. Are q (uses_of mains) (uses_of helpers) false g.funs mains → Each (HasBody q schemes types) mains → AreUsesApart q → AreInstances g) is
    (are_instances g schemes types mains helpers)

keeps_lemma : InstancesLaw → (g : GroundProgram) (p : Program) (schemes : List Scheme) (types : List Ty) (mains helpers : List Body) → g.program.now ≡ p
    → Are p (uses_of mains) (uses_of helpers) false g.funs mains → Each (HasBody p schemes types) mains → KeepsFirst p g
keeps_lemma law g p schemes types mains helpers is =
    subst (λ q. Are q (uses_of mains) (uses_of helpers) false g.funs mains → Each (HasBody q schemes types) mains → KeepsFirst q g) is
    (keeps_itself g schemes types mains helpers law)

pub grounded_keeps : InstancesLaw → (p : Program) (schemes : List Scheme) (types : List Ty) → IsBound p → (g : GroundProgram) → IsGrounded p schemes types g → Keeps p g
grounded_keeps law p schemes types bound g is =
    let (main, first) = main_there p schemes types bound g is in
    (main, first, keeps_lemma law g p schemes types is.mains is.helpers is.program is.funs is.instances.main_bodies main first.0)
