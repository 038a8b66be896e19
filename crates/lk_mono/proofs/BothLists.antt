-- Both lists of instances, from the walks that make them.
use Rattle.std.proofs.Common.{◌≡◌, ℕ, suc, ◌+◌, ◌<◌, ◌≤◌, Bool, true, false, not, List, [], ◌∷◌, ◌++◌, Option, Some, None, if◌then◌else◌, length, slice_get, refl, sym, ap, subst, ◌∙◌}
use Rattle.std.proofs.lemmas.List.{length-map}
use Rattle.std.proofs.lemmas.Option.{slice_get_within}
use native.Mathlib.Omega.{arith}
use Rattle.lk_types.proofs.Parts.{same_some}
use Rattle.lk_ground_types.proofs.Variables.{true_false}
use Rattle.lk_mono.proofs.Growing.{in_front}
use Rattle.lk_mono.specs.Held.{AreHeld, IsSound}
use Rattle.lk_mono.specs.Instances.{AreDistinct, AreGathered, AreHelpers, AreMains, AreTooMany, Body, EndsFull, EndsLarge, HasBody, IsDone, IsMain, IsTooLarge, Wanted, everywhere, most_instances, outside, own_turn, turn_of, uses_among, uses_of, with_use, within_blocks}
use Rattle.lk_mono.specs.Listed.{AreFound, AreListedIn, IsListedAt}
use Rattle.lk_mono.specs.Queues.{as_list, as_use}
use Rattle.lk_mono.specs.Steps.{AllWalked, Gathered, StopsFull, StopsLarge}
use Rattle.lk_mono.specs.declared.body.Body.{Body as TheBody}
use Rattle.lk_mono.specs.declared.body.Source.{Source}
use Rattle.lk_mono.specs.declared.queue.Queue.{Queue}
use Rattle.lk_mono.specs.declared.queue.Use.{Use as TheUse}
use Rattle.lk_ast.specs.declared.declaration.Program.{Program}
use Rattle.lk_ast.specs.declared.place.Span.{Span}
use Rattle.lk_sound.specs.Nodes.{Use, TypedNode}
use Rattle.lk_principal.specs.Law.{IsInstanceOf}
use Rattle.lk_types.specs.Each.{Each, OneOf}
use Rattle.lk_types.specs.declared.scheme.Scheme.{Scheme}
use Rattle.lk_types.specs.declared.ty.Ty.{Ty}

abbrev IsIn : List Use → Use → Type 0
IsIn list u = OneOf (λ other. other ≡ u) list

-- ---- uses at nodes

-- what holds of the uses among nodes holds of what a node uses
module _ (P : Use → Type 0) (wanted : Wanted) where
  abbrev At : TypedNode → Type 0
  At node = (u : Use) → node.part.use_of ≡ Some u → wanted node.part.inside ≡ true → P u

  here : (b : Bool) (o : Option Use) (rest : List Use) (u : Use) → o ≡ Some u → b ≡ true → Each P (with_use b o rest) → P u
  here true (Some v) rest u is wants all = subst P (same_some is) all.0
  here true None rest u is wants all = cc
  here false o rest u is wants all = absurd (true_false (sym wants))

  rest_of : (b : Bool) (o : Option Use) (rest : List Use) → Each P (with_use b o rest) → Each P rest
  rest_of true (Some v) rest all = all.1
  rest_of true None rest all = all
  rest_of false (Some v) rest all = all
  rest_of false None rest all = all

  pub at_nodes : (nodes : List TypedNode) → Each P (uses_among wanted nodes) → Each At nodes
  at_nodes [] all = tt
  at_nodes (node ∷ nodes) all = (
    (λ u is wants. here (wanted node.part.inside) node.part.use_of (uses_among wanted nodes) u is wants all),
    at_nodes nodes (rest_of (wanted node.part.inside) node.part.use_of (uses_among wanted nodes) all),
  )

-- ---- nodes of instances

module _ (mains helpers : List Use) where
  main_node : (node : TypedNode) → At (IsIn mains) outside node → At (IsIn helpers) within_blocks node → IsListedAt mains helpers false node
  main_node node out within u is = by_side node.part.inside refl where
    by_side : (b : Bool) → node.part.inside ≡ b → IsIn (if b then helpers else mains) u
    by_side true same = within u is same
    by_side false same = out u is (ap not same)

  main_nodes : (nodes : List TypedNode) → Each (At (IsIn mains) outside) nodes → Each (At (IsIn helpers) within_blocks) nodes → Each (IsListedAt mains helpers false) nodes
  main_nodes [] out within = tt
  main_nodes (node ∷ nodes) out within = (main_node node out.0 within.0, main_nodes nodes out.1 within.1)

  helper_nodes : (nodes : List TypedNode) → Each (At (IsIn helpers) everywhere) nodes → Each (IsListedAt mains helpers true) nodes
  helper_nodes [] all = tt
  helper_nodes (node ∷ nodes) all = ((λ u is. all.0 u is refl), helper_nodes nodes all.1)

  module _ (source : Source) where
    pub mains_listed : (helds : List TheBody) (bodies : List Body) → AreHeld source helds bodies
        → Each (λ (body : Body). Each (IsIn mains) (uses_among outside body.nodes)) bodies → Each (λ (body : Body). Each (IsIn helpers) (uses_among within_blocks body.nodes)) bodies
        → Each (AreListedIn mains helpers false) bodies
    mains_listed [] [] held out within = tt
    mains_listed (h ∷ helds) (body ∷ bodies) (AreHeld.more is held) out within = (
      main_nodes body.nodes (at_nodes _ outside body.nodes out.0) (at_nodes _ within_blocks body.nodes within.0),
      mains_listed helds bodies held out.1 within.1,
    )
    mains_listed [] (_ ∷ _) held out within = elim held [ ]
    mains_listed (_ ∷ _) [] held out within = elim held [ ]

    pub helpers_listed : (helds : List TheBody) (bodies : List Body) → AreHeld source helds bodies
        → Each (λ (body : Body). Each (IsIn helpers) (uses_among everywhere body.nodes)) bodies → Each (AreListedIn mains helpers true) bodies
    helpers_listed [] [] held all = tt
    helpers_listed (h ∷ helds) (body ∷ bodies) (AreHeld.more is held) all =
        (helper_nodes body.nodes (at_nodes _ everywhere body.nodes all.0), helpers_listed helds bodies held all.1)
    helpers_listed [] (_ ∷ _) held all = elim held [ ]
    helpers_listed (_ ∷ _) [] held all = elim held [ ]

-- ---- growing lists

all_in_front : (list more us : List Use) → Each (IsIn list) us → Each (IsIn (list ++ more)) us
all_in_front list more [] all = tt
all_in_front list more (u ∷ us) all = (in_front list more u all.0, all_in_front list more us all.1)

still : (list longer : List Use) → (more : List Use) × (longer ≡ list ++ more) → (wanted : Wanted) (bodies : List Body)
    → Each (λ (body : Body). Each (IsIn list) (uses_among wanted body.nodes)) bodies → Each (λ (body : Body). Each (IsIn longer) (uses_among wanted body.nodes)) bodies
still list longer grown wanted [] all = tt
still list longer grown wanted (body ∷ bodies) all =
    (subst (λ l. Each (IsIn l) (uses_among wanted body.nodes)) (sym grown.1) (all_in_front list grown.0 (uses_among wanted body.nodes) all.0), still list longer grown wanted bodies all.1)

-- ---- the lists

some : {A : Type 0} (x : A) (xs : List A) (n : ℕ) → n ≡ length (x ∷ xs) → 0 < n
some x xs n is = let all : n ≡ suc (length xs) = is in omega (arith, all)

few : (others n room : ℕ) → others + (n + room) ≡ most_instances → n ≤ most_instances
few others n room all = omega (arith, all)

module _ (source : Source) where
  has_bodies : (helds : List TheBody) (bodies : List Body) → AreHeld source helds bodies → Each (HasBody source.program.now source.typed.now.schemes source.typed.now.types) bodies
  has_bodies [] [] held = tt
  has_bodies (h ∷ helds) (body ∷ bodies) (AreHeld.more is held) = (is.instance, has_bodies helds bodies held)
  has_bodies [] (_ ∷ _) held = elim held [ ]
  has_bodies (_ ∷ _) [] held = elim held [ ]

  only_one : (u v : Use) (i : ℕ) → slice_get (u ∷ []) i ≡ Some v → i ≡ 0
  only_one u v i is = let within : i < 1 = slice_get_within (u ∷ []) i v is in omega (arith, within)

  pub first_sound : (main : TheUse) (queue : Queue) → queue.listed ≡ main ∷ [] → queue.room ≡ 4095
      → IsInstanceOf source.program.now source.typed.now.schemes main.name.now main.ty → IsSound source 0 queue
  first_sound main queue listed room instance = record {
    room = (let count : length queue.listed ≡ 1 = ap length listed in omega (arith, count, room));
    instances = subst (λ l. Each (λ u. IsInstanceOf source.program.now source.typed.now.schemes u.name u.type) (as_list l)) (sym listed) (instance, tt);
    distinct = subst (λ l. AreDistinct (as_list l)) (sym listed) (λ i j u at other. only_one (as_use main) u i at ∙ sym (only_one (as_use main) u j other));
  }

  -- the helpers have the room that is left
  pub empty_sound : (mains helpers : Queue) (bodies : List Body) → uses_of bodies ≡ as_list mains.listed → helpers.listed ≡ [] → helpers.room ≡ mains.room → IsSound source 0 mains → IsSound source (length (uses_of bodies)) helpers
  empty_sound mains helpers bodies uses none room sound = record {
    room = (let many : length (uses_of bodies) ≡ length mains.listed = ap length uses ∙ length-map mains.listed as_use in let few : length helpers.listed ≡ 0 = ap length none in let all : 0 + (length mains.listed + mains.room) ≡ most_instances = sound.room in omega (arith, many, few, room, all));
    instances = subst (λ l. Each (λ u. IsInstanceOf source.program.now source.typed.now.schemes u.name u.type) (as_list l)) (sym none) tt;
    distinct = subst (λ l. AreDistinct (as_list l)) (sym none) (λ i j u at other. cc);
  }

  module _ (main : TheUse) (is_main : IsMain source.program.now source.typed.now.schemes (as_use main)) (q0 q1 : Queue) (listed : q0.listed ≡ main ∷ []) (helds : List TheBody) (w : AllWalked source outside 0 q0 helds q1) where
    abbrev p : Program
    p = source.program.now

    abbrev schemes : List Scheme
    schemes = source.typed.now.schemes

    abbrev types : List Ty
    types = source.typed.now.types

    are_mains : AreMains p schemes types (uses_of w.bodies)
    are_mains = (
      as_use main,
      is_main,
      subst (λ list. IsDone p schemes types own_turn outside 0 (as_use main ∷ []) list) (sym w.uses)
          (subst (λ l. IsDone p schemes types own_turn outside 0 (as_list l) (as_list q1.listed)) listed w.done),
    )

    module _ (h0 h1 : Queue) (empty : h0.listed ≡ []) where
      pub too_many_gathered : Gathered source (length (uses_of w.bodies)) w.bodies h0 h1 false → AreTooMany p schemes types
      too_many_gathered (Gathered.full full) = AreTooMany.of_gathered are_mains (subst (λ l. EndsFull p schemes types (turn_of (uses_of w.bodies)) within_blocks (length (uses_of w.bodies)) (as_list l)) empty full)

      are_gathered : Gathered source (length (uses_of w.bodies)) w.bodies h0 h1 true → AreGathered p schemes types (uses_of w.bodies) (as_list h1.listed)
      are_gathered (Gathered.all done sound all) = subst (λ l. IsDone p schemes types (turn_of (uses_of w.bodies)) within_blocks (length (uses_of w.bodies)) (as_list l) (as_list h1.listed)) empty done

      pub gathered_sound : Gathered source (length (uses_of w.bodies)) w.bodies h0 h1 true → IsSound source (length (uses_of w.bodies)) h1
      gathered_sound (Gathered.all done sound all) = sound

      gathered_in : Gathered source (length (uses_of w.bodies)) w.bodies h0 h1 true → Each (λ (body : Body). Each (IsIn (as_list h1.listed)) (uses_among within_blocks body.nodes)) w.bodies
      gathered_in (Gathered.all done sound all) = all

      module _ (g : Gathered source (length (uses_of w.bodies)) w.bodies h0 h1 true) where
        pub too_many_helpers : StopsFull source everywhere (length (uses_of w.bodies)) h1 → AreTooMany p schemes types
        too_many_helpers full = AreTooMany.of_helpers are_mains (are_gathered g) full

        pub large_helpers : (at : Span) → StopsLarge source everywhere (length (uses_of w.bodies)) h1 at → IsTooLarge p schemes types at
        large_helpers at large = IsTooLarge.of_helpers are_mains (are_gathered g) large

        pub both : (h2 : Queue) (others : List TheBody) → AllWalked source everywhere (length (uses_of w.bodies)) h1 others h2
            → AreFound source (record { mains = q1.listed; main_bodies = helds; helpers = h2.listed; helper_bodies = others })
        both h2 others v = record {
          mains = w.bodies;
          helpers = v.bodies;
          main_uses = w.uses;
          helper_uses = v.uses;
          mains_held = w.are_held;
          helpers_held = v.are_held;
          instances = record {
            gathered = as_list h1.listed;
            first = are_mains;
            inside = are_gathered g;
            second = subst (AreHelpers p schemes types (uses_of w.bodies) (as_list h1.listed)) (sym v.uses) v.done;
            main_bodies = has_bodies helds w.bodies w.are_held;
            helper_bodies = has_bodies others v.bodies v.are_held;
          };
          distinct = subst AreDistinct (sym v.uses) v.sound.distinct;
          some_main = some (as_use main) w.grown.0 (length q1.listed) (sym (length-map q1.listed as_use) ∙ ap length (w.grown.1 ∙ ap (λ l. as_list l ++ w.grown.0) listed));
          few_mains = few 0 (length q1.listed) q1.room w.sound.room;
          few_helpers = few (length (uses_of w.bodies)) (length h2.listed) h2.room v.sound.room;
          mains_listed = mains_listed (uses_of w.bodies) (uses_of v.bodies) source helds w.bodies w.are_held
              (subst (λ l. Each (λ (body : Body). Each (IsIn l) (uses_among outside body.nodes)) w.bodies) (sym w.uses) w.listed)
              (subst (λ l. Each (λ (body : Body). Each (IsIn l) (uses_among within_blocks body.nodes)) w.bodies) (sym v.uses) (still (as_list h1.listed) (as_list h2.listed) v.grown within_blocks w.bodies (gathered_in g)));
          helpers_listed = helpers_listed (uses_of w.bodies) (uses_of v.bodies) source others v.bodies v.are_held
              (subst (λ l. Each (λ (body : Body). Each (IsIn l) (uses_among everywhere body.nodes)) v.bodies) (sym v.uses) v.listed);
        }

  pub large_mains : (main : TheUse) → IsMain source.program.now source.typed.now.schemes (as_use main) → (q0 : Queue) → q0.listed ≡ main ∷ [] → (at : Span) → StopsLarge source outside 0 q0 at
      → IsTooLarge source.program.now source.typed.now.schemes source.typed.now.types at
  large_mains main is q0 listed at large = IsTooLarge.of_mains is (subst (λ l. EndsLarge source.program.now source.typed.now.schemes source.typed.now.types own_turn outside 0 (as_list l) at) listed large)

  pub full_mains : (main : TheUse) → IsMain source.program.now source.typed.now.schemes (as_use main) → (q0 : Queue) → q0.listed ≡ main ∷ [] → StopsFull source outside 0 q0
      → AreTooMany source.program.now source.typed.now.schemes source.typed.now.types
  full_mains main is q0 listed full = AreTooMany.of_mains is (subst (λ l. EndsFull source.program.now source.typed.now.schemes source.typed.now.types own_turn outside 0 (as_list l)) listed full)
