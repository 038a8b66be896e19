-- The instances of a ground program are a closed set: what they use is among them, their queries are flat, and helpers call only
-- what stands before them.
use Rattle.std.proofs.Common.{◌≡◌, inl, inr, ℕ, zero, suc, ◌+◌, ◌<◌, Bool, true, false, ◌||◌, List, [], ◌∷◌, ◌++◌, Some, find, slice_get, if◌then◌else◌, bytes_eq, cond, refl, sym, ap, ap₂, subst, ◌∙◌, append_assoc, append-nil}
use Rattle.std.proofs.lemmas.Option.{none-some}
use Rattle.std.proofs.lemmas.Bool.{true_from_ne_false}
use Rattle.std.specs.Cmp.{second_so}
use Rattle.std.proofs.Math.Numerals.{one-add}
use Rattle.lk_ast.specs.Functions.{functions_in, functions_of, is_main, is_named}
use Rattle.lk_ast.specs.Tables.{tables_of}
use Rattle.lk_ast.specs.declared.declaration.Decl.{Decl}
use Rattle.lk_ast.specs.declared.declaration.FunDef.{FunDef}
use Rattle.lk_ast.specs.declared.declaration.Program.{Program}
use Rattle.lk_ast.specs.declared.declaration.TableDecl.{TableDecl}
use Rattle.lk_ground.specs.declared.program.GroundFun.{GroundFun}
use Rattle.lk_ground.specs.declared.program.GroundProgram.{GroundProgram}
use Rattle.lk_types.proofs.Parts.{same_some}
use Rattle.lk_ground_types.specs.Least.{least}
use Rattle.lk_ground_types.specs.Shapes.{has_function, is_flat, is_query_type}
use Rattle.lk_infer.proofs.Principal.{inferred_principal}
use Rattle.lk_infer.specs.Inferred.{HasTypes}
use Rattle.lk_mono.proofs.BlockParts.{BlockUses, PartUses, UsesInside, part_uses}
use Rattle.lk_mono.proofs.BlockUses.{IsFlatPart as IsFlat}
use Rattle.lk_mono.proofs.Growing.{appended}
use Rattle.lk_mono.proofs.HelperUses.{IsGood, all_good, good_block}
use Rattle.lk_mono.proofs.Loopless.{IsLoopless, flat_type}
use Rattle.lk_mono.proofs.MainUses.{is_of_text}
use Rattle.lk_mono.proofs.Ranks.{lower}
use Rattle.lk_ground.specs.Language.{function_of as function_in}
use Rattle.lk_mono.specs.Grounded.{Are, AreCalled, IsGrounded, IsInstance}
use Rattle.lk_mono.specs.Held.{types_in}
use Rattle.lk_mono.specs.Instanced.{AreInstancesOf, HasInstances, IsInstanceOf, nodes_in}
use Rattle.lk_mono.specs.Instances.{Body, HasBody as HasNodes, IsBody, IsWalked, Turn, Wanted, uses_of}
use Rattle.lk_mono.specs.Shapes.{AreShaped, IsFaultless, IsNotFlat, IsShaped as AllFaultless, IsUsedBy, answer_level, answers_function}
use Rattle.lk_mono.specs.Shapes as shapes
use Rattle.lk_mono.specs.declared.error.ShapeKind.TheVariants.{QueryCapture, QueryNotFlat}
use Rattle.lk_names.specs.Programs.{IsBound}
use Rattle.lk_outline.proofs.Outlined.{outline_law}
use Rattle.lk_principal.proofs.FunctionNames.{one_place}
use Rattle.lk_principal.proofs.Standing.{both_parts}
use Rattle.lk_principal.specs.Bodies.{IsSeenBy}
use Rattle.lk_principal.specs.Law.{UseLaw}
use Rattle.lk_sound.proofs.Apart.{functions_apart}
use Rattle.lk_types.proofs.Members.{found_in, one_in_back, one_in_front}
use Rattle.lk_sound.specs.Functions.{AreSeen, HasFunctionType}
use Rattle.lk_sound.specs.Instances.{AreClosed, HasBody, Instances, IsFine, IsFlatBlock, IsFlatPart, IsHelperNode, IsListed, IsShaped, number_in, number_of}
use Rattle.lk_sound.specs.Law.{InstanceLaw}
use Rattle.lk_sound.specs.Nodes.{Block, Part, TypedNode, Use, nodes_of, parts_of}
use Rattle.lk_types.specs.Each.{Each, OneOf}
use Rattle.lk_types.specs.Rows.{EffectSet, Label, effects_of}
use Rattle.lk_types.specs.declared.ground.Ground.{Ground}
use Rattle.lk_types.specs.declared.ground.Ground.TheVariants as known
use Rattle.lk_types.specs.declared.scheme.Scheme.{Scheme}
use Rattle.lk_types.specs.declared.ty.Ty.{Ty}
use Rattle.lk_typing.proofs.SchemeCounts.{as_many_schemes}
use Rattle.lk_typing.specs.Groups.{is_mutual}
use Rattle.lk_typing.specs.Names.{Entry, Named}
use Rattle.lk_typing.specs.Programs.{HaveSchemes, entries}
use Rattle.lk_typing.specs.Types.{function_of}

-- ---- what names of functions stand for

module _ (tables : List TableDecl) (decl : Decl) where
  -- where schemes hold, they stand for what they do in a context
  in_context : (earlier : Named Scheme) (decls : List Decl) (these those : List Scheme) (functions : Named (Entry Ground))
      → HaveSchemes tables earlier decls these → IsSeenBy tables decl earlier decls those functions → these ≡ those → AreSeen tables earlier decls functions
  in_context earlier _ these _ _ have (IsSeenBy.here ts nodes group) same = AreSeen.here ts nodes group
  in_context earlier _ _ _ functions (HaveSchemes.more {decl = other} {decls = decls} own others hold have) (IsSeenBy.later schemes rest many seen) same =
      let both = both_parts own schemes others rest (as_many_schemes earlier tables other own hold ∙ sym many) same in
      AreSeen.later own hold (in_context (entries (functions_in other) own ++ earlier) decls others rest functions have (subst (λ xs. IsSeenBy tables decl (entries (functions_in other) xs ++ earlier) decls rest functions) (sym both.0) seen) both.1)

-- ---- numbers of functions

-- the first of a name has the number that the name has
numbered : (fs : List FunDef) (g : Label) (f : FunDef) → find (is_named g) fs ≡ Some f → slice_get fs (number_in fs g) ≡ Some f
numbered [] g f is = absurd (none-some f is)
numbered (other ∷ fs) g f is = by_test (bytes_eq other.name.text g) is (numbered fs g f)
  where
    by_test : (b : Bool) → cond b (Some other) (find (is_named g) fs) ≡ Some f → (find (is_named g) fs ≡ Some f → slice_get fs (number_in fs g) ≡ Some f)
        → slice_get (other ∷ fs) (if b then 0 else 1 + number_in fs g) ≡ Some f
    by_test true is later = is
    by_test false is later = ap (slice_get (other ∷ fs)) (one-add (number_in fs g)) ∙ later is

module _ {p : Program} {schemes : List Scheme} {types : List Ty} {u : Use} {nodes : List TypedNode} (bound : IsBound p) (body : IsBody p schemes types u nodes) where
  its_number : number_of p u.name ≡ body.number
  its_number = one_place (functions_of p) (functions_apart p bound) (number_of p u.name) body.number body.function (numbered (functions_of p) u.name body.function body.named) body.is

-- ---- bodies

module _ {p : Program} {schemes : List Scheme} {types : List Ty} (has : HasTypes p schemes types) where
  typed_there : {u : Use} {nodes : List TypedNode} (body : IsBody p schemes types u nodes) → HasFunctionType p body.function u.type
  typed_there {u} body = record {
    declared = (found_in (is_named u.name) (functions_of p) body.function body.named).0;
    functions = body.typed.is.functions;
    seen = in_context (tables_of p) body.typed.is.decl [] p.decls schemes schemes body.typed.is.functions (inferred_principal p schemes types has).typed body.typed.is.seen refl;
    in_mutual = is_mutual body.typed.is.decl;
    nodes = body.typed.nodes;
    typed = body.typed.is.typed;
  }

  has_body : {u : Use} {nodes : List TypedNode} (P : TypedNode → Type 0) → IsBody p schemes types u nodes → Each P nodes → HasBody p P u
  unfolding typed_there
  has_body P body all = record { function = body.function; named = body.named; has = typed_there body; nodes = subst (Each P) body.are all }

-- ---- what is used

module _ (mains helpers : List Use) where
  -- what the node uses is listed where it belongs
  abbrev IsPlacedUse : Bool → TypedNode → Type 0
  IsPlacedUse in_helper node = (u : Use) → node.part.use_of ≡ Some u → IsListed (if in_helper || node.part.inside then helpers else mains) u

  there_at : (list : List Use) (n : ℕ) (u : Use) → slice_get list n ≡ Some u → IsListed list u
  there_at [] n u is = absurd (none-some u is)
  there_at (v ∷ list) zero u is = inl (same_some is)
  there_at (v ∷ list) (suc n) u is = inr (there_at list n u is)

  placed_uses : (in_helper : Bool) (nodes : List TypedNode) (places : List ℕ) → AreCalled mains helpers in_helper nodes places → Each (IsPlacedUse in_helper) nodes
  placed_uses in_helper _ _ AreCalled.none = tt
  placed_uses in_helper _ _ (AreCalled.other {node} {nodes} {places} none others) = (λ u is. absurd (none-some u (sym none ∙ is)), placed_uses in_helper nodes places others)
  placed_uses in_helper _ _ (AreCalled.called {node} {nodes} {place} {places} {u = w} uses at others) =
      (λ u is. there_at _ place u (at ∙ sym uses ∙ is), placed_uses in_helper nodes places others)

  inside_listed : (node : TypedNode) → IsPlacedUse false node → UsesInside (IsListed helpers) node
  inside_listed node uses u inside is = subst (λ b. IsListed (if b then helpers else mains) u) inside (uses u is)

  outside_listed : (node : TypedNode) → IsPlacedUse false node → (u : Use) → node.part.inside ≡ false → node.part.use_of ≡ Some u → IsListed mains u
  outside_listed node uses u outside is = subst (λ b. IsListed (if b then helpers else mains) u) outside (uses u is)

-- ---- flat blocks

all_hold : {A : Type 0} (test : A → Bool) (xs : List A) → (OneOf (λ x. test x ≡ false) xs → ⊥) → Each (λ x. test x ≡ true) xs
all_hold test [] isnt = tt
all_hold test (x ∷ xs) isnt = (true_from_ne_false (test x) (λ fails. isnt (inl fails)), all_hold test xs (λ one. isnt (inr one)))

flat_parts : (helpers : List Use) (parts : List Part) → Each IsFlat parts → Each (PartUses (IsListed helpers)) parts → Each (IsFlatPart helpers) parts
flat_parts helpers [] flat uses = tt
flat_parts helpers (part ∷ parts) flat uses = (record { type = flat_type part.type _ flat.0; compares = second_so (is_query_type part.type) _ flat.0; calls = uses.0 }, flat_parts helpers parts flat.1 uses.1)

-- those of the one list are some of the other
abbrev AreAmong : List TypedNode → List TypedNode → Type 0
AreAmong nodes all = (node : TypedNode) → OneOf (λ other. other ≡ node) nodes → OneOf (λ other. other ≡ node) all

-- the nodes of bodies, one body after another
abbrev all_nodes : List Body → List TypedNode
all_nodes [] = []
all_nodes (body ∷ bodies) = body.nodes ++ all_nodes bodies

module _ (bodies : List Body) where
  flat_block : (node : TypedNode) → IsFaultless bodies node → BlockUses (IsListed (uses_of bodies)) node → (block : Block) → node.block ≡ Some block → IsFlatBlock (uses_of bodies) block
  flat_block node faultless uses block is =
      let isnt : IsNotFlat bodies block → ⊥ = λ not_flat. faultless QueryNotFlat (shapes.Fault.not_flat is not_flat) in
      record {
        parts = flat_parts (uses_of bodies) block.parts (good_block bodies block isnt).flat (uses block is);
        captured = all_hold is_flat block.captured (λ one. faultless QueryCapture (shapes.Fault.captures is isnt one));
      }

  module _ (mains : List Use) (all : List TypedNode) where
    abbrev the_set : Instances
    the_set = record { mains = mains; nodes = all; helpers = uses_of bodies }

    fine_nodes : (nodes : List TypedNode) → AreAmong nodes all → Each (IsPlacedUse mains (uses_of bodies) false) nodes → Each (IsFaultless bodies) nodes → Each (BlockUses (IsListed (uses_of bodies))) nodes → Each (IsFine the_set) nodes
    fine_nodes [] among uses faultless blocks = tt
    fine_nodes (node ∷ nodes) among uses faultless blocks = (
      record { listed = among node (inl refl); calls = outside_listed mains (uses_of bodies) node uses.0; flat = flat_block node faultless.0 blocks.0 },
      fine_nodes nodes (λ other one. among other (inr one)) uses.1 faultless.1 blocks.1,
    )

-- ---- the set

each_inside : (mains helpers : List Use) (nodes : List TypedNode) → Each (IsPlacedUse mains helpers false) nodes → Each (UsesInside (IsListed helpers)) nodes
each_inside mains helpers [] all = tt
each_inside mains helpers (node ∷ nodes) all = (inside_listed mains helpers node all.0, each_inside mains helpers nodes all.1)

own_among : (body : Body) (bodies : List Body) (every : List TypedNode) → AreAmong (all_nodes (body ∷ bodies)) every → AreAmong body.nodes every
own_among body bodies every among node one = among node (one_in_front (λ other. other ≡ node) body.nodes (all_nodes bodies) one)

other_among : (body : Body) (bodies : List Body) (every : List TypedNode) → AreAmong (all_nodes (body ∷ bodies)) every → AreAmong (all_nodes bodies) every
other_among body bodies every among node one = among node (one_in_back (λ other. other ≡ node) body.nodes (all_nodes bodies) one)

module _ (use_law : UseLaw) (p : Program) (schemes : List Scheme) (types : List Ty) (has : HasTypes p schemes types) (bound : IsBound p) (helpers : List Body) (mains : List Use) (every : List TypedNode) where
  main_nodes : (u : Use) (nodes : List TypedNode) → IsBody p schemes types u nodes → AreAmong nodes every → Each (IsFaultless helpers) nodes → Each (IsPlacedUse mains (uses_of helpers) false) nodes → Each (IsFine (the_set helpers mains every)) nodes
  main_nodes u nodes body among faultless uses =
      fine_nodes helpers mains every nodes among uses faultless
      (subst (Each (BlockUses (IsListed (uses_of helpers)))) (sym body.are)
      (part_uses (IsListed (uses_of helpers)) false body.typed.is.typed.body (subst (Each (UsesInside (IsListed (uses_of helpers)))) body.are (each_inside mains (uses_of helpers) nodes uses))))

  all_mains : (fs : List GroundFun) (bodies : List Body) → Are p mains (uses_of helpers) false fs bodies → Each (HasNodes p schemes types) bodies → AreAmong (all_nodes bodies) every → Each (AllFaultless helpers) bodies
      → Each (HasBody p (IsFine (the_set helpers mains every))) (uses_of bodies)
  all_mains _ _ Are.none have among shaped = tt
  all_mains _ _ (Are.more {f} {fs} {body} {bodies} is others) have among shaped =
      (has_body has (IsFine (the_set helpers mains every)) have.0 (main_nodes body.use_of body.nodes have.0 (own_among body bodies every among) shaped.0 (placed_uses mains (uses_of helpers) false body.nodes f.calls is.calls)), all_mains fs bodies others have.1 (other_among body bodies every among) shaped.1)

  -- an instance, of which its types and calls are told, with these nodes in its body
  instance_of : {f : GroundFun} {body : Body} (in_helper : Bool) (P : TypedNode → Type 0) → IsInstance p mains (uses_of helpers) in_helper f body → (its : IsBody p schemes types body.use_of body.nodes) → Each P body.nodes
      → (it : IsInstanceOf p (the_set helpers mains every) in_helper P (function_in f) f body.use_of) × (body.nodes ≡ nodes_of false it.has.typed.body)
  unfolding typed_there
  instance_of {f = f} {body = body} in_helper P is its all =
      subst (λ function. (it : IsInstanceOf p (the_set helpers mains every) in_helper P function f body.use_of) × (body.nodes ≡ nodes_of false it.has.typed.body)) (same_some (sym its.named ∙ is.function)) (
        record {
          named = its.named;
          has = typed_there has its;
          type = is.type;
          nodes = subst (Each P) its.are all;
          types = is.types ∙ ap types_in its.are;
          calls = subst (λ nodes. AreCalled mains (uses_of helpers) in_helper nodes f.calls) its.are is.calls;
        },
        its.are,
      )

  main_instances : (fs : List GroundFun) (bodies : List Body) → Are p mains (uses_of helpers) false fs bodies → Each (HasNodes p schemes types) bodies → AreAmong (all_nodes bodies) every → Each (AllFaultless helpers) bodies
      → (are : AreInstancesOf p (the_set helpers mains every) false (λ u. IsFine (the_set helpers mains every)) fs (uses_of bodies)) × (all_nodes bodies ≡ nodes_in are)
  main_instances _ _ Are.none have among shaped = (AreInstancesOf.none, refl)
  main_instances _ _ (Are.more {f} {fs} {body} {bodies} is others) have among shaped =
      let (one, own) = instance_of false (IsFine (the_set helpers mains every)) is have.0 (main_nodes body.use_of body.nodes have.0 (own_among body bodies every among) shaped.0 (placed_uses mains (uses_of helpers) false body.nodes f.calls is.calls)) in
      let (rest, same) = main_instances fs bodies others have.1 (other_among body bodies every among) shaped.1 in
      (AreInstancesOf.more one rest, ap₂ (λ xs ys. xs ++ ys) own same)

  -- ---- helpers

  -- a use of a helper is of one that stands before it
  before : {u : Use} {nodes : List TypedNode} → (body : IsBody p schemes types u nodes) → IsLoopless u.type → (w : Use) → OneOf (IsUsedBy w) (parts_of nodes) → (bodies : List Body) → Each (HasNodes p schemes types) bodies
      → IsListed (uses_of bodies) w → number_of p w.name < number_of p u.name
  before body loopless w uses [] have listed = absurd listed
  before {u} body loopless w uses (other ∷ bodies) have (inl is) =
      let its : IsBody p schemes types w other.nodes = subst (λ v. IsBody p schemes types v other.nodes) is have.0 in
      subst (λ n. number_of p w.name < n) (sym (its_number bound body)) (subst (λ n. n < body.number) (sym (its_number bound its)) (lower use_law p schemes types has bound body loopless w uses its))
  before body loopless w uses (other ∷ bodies) have (inr later) = before body loopless w uses bodies have.1 later

  helper_nodes : {u : Use} {all : List TypedNode} (body : IsBody p schemes types u all) → IsLoopless u.type → Each (HasNodes p schemes types) helpers
      → (nodes : List TypedNode) → ((w : Use) → OneOf (IsUsedBy w) (parts_of nodes) → OneOf (IsUsedBy w) (parts_of all)) → Each IsFlat (parts_of nodes) → Each (IsPlacedUse mains (uses_of helpers) true) nodes
      → Each (IsHelperNode p (uses_of helpers) u) nodes
  helper_nodes body loopless have [] among flat uses = tt
  helper_nodes body loopless have (node ∷ nodes) among flat uses = (
    record {
      flat = record { type = flat_type node.part.type _ flat.0; compares = second_so (is_query_type node.part.type) _ flat.0; calls = uses.0 };
      before = λ w is. before body loopless w (among w (inl is)) helpers have (uses.0 w is);
    },
    helper_nodes body loopless have nodes (λ w one. among w (inr one)) flat.1 uses.1,
  )

  all_helpers : Each (HasNodes p schemes types) helpers → (fs : List GroundFun) (bodies : List Body) → Are p mains (uses_of helpers) true fs bodies → Each (HasNodes p schemes types) bodies
      → ((body : Body) → OneOf (λ b. b ≡ body) bodies → OneOf (λ b. b ≡ body) helpers) → Each (IsGood helpers) (uses_of bodies)
      → Each (λ u. HasBody p (IsHelperNode p (uses_of helpers) u) u) (uses_of bodies)
  all_helpers all _ _ Are.none have among good = tt
  all_helpers all _ _ (Are.more {f} {fs} {body} {bodies} is others) have among good = (
    has_body has (IsHelperNode p (uses_of helpers) body.use_of) have.0
        (helper_nodes have.0 good.0.0 all body.nodes (λ w one. one) (good.0.1 body.use_of body.nodes shapes.Reaches.itself (among body (inl refl))) (placed_uses mains (uses_of helpers) true body.nodes f.calls is.calls)),
    all_helpers all fs bodies others have.1 (λ b one. among b (inr one)) good.1,
  )

  helper_instances : Each (HasNodes p schemes types) helpers → (fs : List GroundFun) (bodies : List Body) → Are p mains (uses_of helpers) true fs bodies → Each (HasNodes p schemes types) bodies
      → ((body : Body) → OneOf (λ b. b ≡ body) bodies → OneOf (λ b. b ≡ body) helpers) → Each (IsGood helpers) (uses_of bodies)
      → AreInstancesOf p (the_set helpers mains every) true (λ u. IsHelperNode p (uses_of helpers) u) fs (uses_of bodies)
  helper_instances all _ _ Are.none have among good = AreInstancesOf.none
  helper_instances all _ _ (Are.more {f} {fs} {body} {bodies} is others) have among good =
      AreInstancesOf.more
      (instance_of true (IsHelperNode p (uses_of helpers) body.use_of) is have.0
      (helper_nodes have.0 good.0.0 all body.nodes (λ w one. one) (good.0.1 body.use_of body.nodes shapes.Reaches.itself (among body (inl refl))) (placed_uses mains (uses_of helpers) true body.nodes f.calls is.calls))).0
      (helper_instances all fs bodies others have.1 (λ b one. among b (inr one)) good.1)

-- ---- the first instance

module _ {p : Program} {schemes : List Scheme} {types : List Ty} {turn : Turn} {wanted : Wanted} {others : ℕ} where
  pub walked_from : (first : List Use) (n : ℕ) (list : List Use) → IsWalked p schemes types turn wanted others first n list → (more : List Use) × (list ≡ first ++ more)
  walked_from first _ _ IsWalked.start = ([], sym (append-nil first))
  walked_from first _ _ (IsWalked.next {list = list} {longer = longer} walked turned body none with_uses) =
      let (more, is) = walked_from first _ list walked in
      let (rest, longer_is) = appended list _ longer with_uses in
      (more ++ rest, longer_is ∙ ap (λ l. l ++ rest) is ∙ append_assoc first more rest)

pub first_same : {A : Type 0} (x y : A) (xs ys : List A) → ◌≡◌ {A = List A} (x ∷ xs) (y ∷ ys) → x ≡ y
first_same x y xs ys is = cc

-- what is answered by a function of a text
answers : (params : List Ground) (effects : EffectSet) (answer t : Ground) → t ≡ function_of params effects answer → answers_function t ≡ false → has_function answer ≡ false
answers params effects answer t is none = sym (ap answers_function is ∙ ap answer_level (known.outs-Fun params (effects_of effects) answer)) ∙ none

module _ (use_law : UseLaw) (instance_law : InstanceLaw) (p : Program) (schemes : List Scheme) (types : List Ty) (bound : IsBound p) (has : HasTypes p schemes types) where
  closed : (mains helpers : List Body) (funs others : List GroundFun) → Are p (uses_of mains) (uses_of helpers) false funs mains → Are p (uses_of mains) (uses_of helpers) true others helpers
      → Each (HasNodes p schemes types) mains → Each (HasNodes p schemes types) helpers → Each (AllFaultless helpers) mains → Each (IsGood helpers) (uses_of helpers)
      → AreClosed p (the_set helpers (uses_of mains) (all_nodes mains))
  closed mains helpers funs others are_funs are_others main_bodies helper_bodies shaped good = record {
    mains = all_mains use_law p schemes types has bound helpers (uses_of mains) (all_nodes mains) funs mains are_funs main_bodies (λ node one. one) shaped;
    helpers = all_helpers use_law p schemes types has bound helpers (uses_of mains) (all_nodes mains) helper_bodies others helpers are_others helper_bodies (λ body one. one) good;
  }

  pub instanced : (g : GroundProgram) → IsGrounded p schemes types g → HasInstances p g
  instanced g is = elim is.shaped [ AreShaped.shaped {main = body} {others = others} same none each ↦ from_first body others same none each ]
    where
      good : Each (AllFaultless is.helpers) is.mains → Each (IsGood is.helpers) (uses_of is.helpers)
      good each = all_good outline_law p schemes types bound is.mains is.helpers is.instances is.shaped

      at_first : (body : Body) (others : List Body) → is.mains ≡ body ∷ others → answers_function body.use_of.type ≡ false → Each (AllFaultless is.helpers) is.mains → IsShaped p
      at_first body others same none each =
          let (u, first, done) = is.instances.first in
          let (more, are) = walked_from (u ∷ []) done.number (uses_of is.mains) done.walked in
          let its : u ≡ body.use_of = first_same _ _ _ _ (sym are ∙ ap uses_of same) in
          let (among, passes) = found_in is_main (functions_of p) first.function first.main in
          let typed : HasFunctionType p first.function u.type = instance_law p schemes (inferred_principal p schemes types has).typed first.number first.function first.scheme least u.type first.is first.has first.instance in
          let (effects, answer, of) = is_of_text p schemes types passes typed.typed in
          record {
            instances = the_set is.helpers (uses_of is.mains) (all_nodes is.mains);
            closed = closed is.mains is.helpers g.funs g.helpers is.funs is.others is.instances.main_bodies is.instances.helper_bodies each (good each);
            main = first.function;
            is = first.main;
            effects = effects;
            answer = answer;
            listed = subst (λ list. IsListed list (record { name = first.function.name.text; type = function_of (known.Text ∷ []) effects answer })) (sym are) (inl (λ i. record { name = first.name i; type = of i }));
            plain = answers (known.Text ∷ []) effects answer u.type of (ap (λ (w : Use). answers_function w.type) its ∙ none);
          }

      mains : (each : Each (AllFaultless is.helpers) is.mains) → (are : AreInstancesOf p (the_set is.helpers (uses_of is.mains) (all_nodes is.mains)) false (λ u. IsFine (the_set is.helpers (uses_of is.mains) (all_nodes is.mains))) g.funs (uses_of is.mains)) × (all_nodes is.mains ≡ nodes_in are)
      mains each = main_instances use_law p schemes types has bound is.helpers (uses_of is.mains) (all_nodes is.mains) g.funs is.mains is.funs is.instances.main_bodies (λ node one. one) each

      from_first : (body : Body) (others : List Body) → is.mains ≡ body ∷ others → answers_function body.use_of.type ≡ false → Each (AllFaultless is.helpers) is.mains → HasInstances p g
      from_first body others same none each = record {
        shaped = at_first body others same none each;
        mains = (mains each).0;
        nodes = (mains each).1;
        helpers = helper_instances use_law p schemes types has bound is.helpers (uses_of is.mains) (all_nodes is.mains) is.instances.helper_bodies g.helpers is.helpers is.others is.instances.helper_bodies (λ body one. one) (good each);
      }

  pub shaped : (g : GroundProgram) → IsGrounded p schemes types g → IsShaped p
  shaped g is = (instanced g is).shaped
