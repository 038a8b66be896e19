-- The first fault: what the code finds is what the definition says.
use Rattle.std.proofs.Common.{◌≡◌, ℕ, ◌⊎◌, inl, inr, Bool, true, false, not, ◌&&◌, ◌||◌, List, [], ◌∷◌, Option, Some, None, map, refl, sym, ap, ◌∙◌, subst, nat_le, if◌then◌else◌}
use Rattle.std.proofs.lemmas.Bool.{not-true, or_cases}
use Rattle.std.specs.Option.{option_or}
use Rattle.lk_ast.specs.declared.place.Span.{Span}
use Rattle.lk_ground_types.specs.Shapes.{has_function, is_base, is_flat}
use Rattle.lk_mono.proofs.Flags.{AreFlags, AreRight, flag_plain, flags_behind, is_flagged, main_flags, not_flat}
use Rattle.lk_mono.proofs.Flags as flags
use Rattle.lk_mono.proofs.Inside.{HasWithin, IsWhole, IsWithin, whole_nodes}
use Rattle.lk_mono.specs.Flatness.{Answers, behind, block_fault, body_fault, captured_odd, captures_odd, fault_of, first_fault, first_of, is_odd, is_odd_name, odd_nodes, placed, some_odd}
use Rattle.lk_mono.specs.Grounded.{AreAllCalled, AreCalled}
use Rattle.lk_mono.specs.Grounded as called
use Rattle.lk_mono.specs.Held.{AreHeld, IsHeld}
use Rattle.lk_mono.specs.Held as held
use Rattle.lk_mono.specs.Instances.{Body, uses_of}
use Rattle.lk_mono.specs.Shapes.{Fault, FirstFault, FirstRefused, IsFaultless, IsNotFlat, IsShaped}
use Rattle.lk_mono.specs.Shapes as shape
use Rattle.lk_mono.specs.declared.body.Body.{Body as TheBody}
use Rattle.lk_mono.specs.declared.body.Source.{Source}
use Rattle.lk_mono.specs.declared.error.ShapeKind.{ShapeKind}
use Rattle.lk_mono.specs.declared.error.ShapeKind.TheVariants.{EqualityAtFunction, OrderAtNonBase}
use Rattle.lk_sound.specs.Nodes.{Block, Comparison, Part, TypedNode, Use}
use Rattle.lk_sound.specs.Nodes as node
use Rattle.lk_outline.specs.Outline.{Kind, Site, Function, Call, Equality, Order, Name, Query, Change, Other}
use Rattle.lk_outline.specs.Shown.{shown}
use Rattle.lk_outline.specs.Typed.{block_at, captured_at, captured_in, compared, effects_in, node_at, part_at, type_at, used}
use Rattle.lk_types.proofs.Members.{one_in_front, one_in_back, one_of_both}
use Rattle.lk_types.specs.Each.{Each, OneOf}
use Rattle.lk_types.specs.declared.ground.Ground.{Ground, out-Ground}
use Rattle.lk_types.specs.declared.ty.Effect.{Effect}

-- ---- what is captured

abbrev IsOddType : Ground → Type 0
IsOddType t = is_flat t ≡ false

module _ (own : List Effect) (types : List Ground) (n : ℕ) where
  name_odd : (t : Ground) (b : Bool) → (b && not (is_flat t)) ≡ true → OneOf IsOddType (if b then t ∷ [] else [])
  name_odd t true e = inl (not-true (is_flat t) e)
  name_odd t false e = let f : false ≡ true = e in cc

  odd_name : (t : Ground) (b : Bool) → OneOf IsOddType (if b then t ∷ [] else []) → (b && not (is_flat t)) ≡ true
  odd_name t true (inl e) = ap not e
  odd_name t true (inr one) = absurd one
  odd_name t false one = absurd one

  captured_here : (s : Site) (k : Kind) → is_odd_name types n s k ≡ true → OneOf IsOddType (captured_at own types n s k)
  captured_here s (Function g) e = let f : false ≡ true = e in cc
  captured_here s (Call g args) e = let f : false ≡ true = e in cc
  captured_here s (Equality operand) e = let f : false ≡ true = e in cc
  captured_here s (Order operand) e = let f : false ≡ true = e in cc
  captured_here s (Name binder) e = name_odd (type_at types s.number) (nat_le binder n) e
  captured_here s (Query nodes) e = let f : false ≡ true = e in cc
  captured_here s (Change nodes) e = let f : false ≡ true = e in cc
  captured_here s Other e = let f : false ≡ true = e in cc

  here_captured : (s : Site) (k : Kind) → OneOf IsOddType (captured_at own types n s k) → is_odd_name types n s k ≡ true
  here_captured s (Function g) one = absurd one
  here_captured s (Call g args) one = absurd one
  here_captured s (Equality operand) one = absurd one
  here_captured s (Order operand) one = absurd one
  here_captured s (Name binder) one = odd_name (type_at types s.number) (nat_le binder n) one
  here_captured s (Query nodes) one = absurd one
  here_captured s (Change nodes) one = absurd one
  here_captured s Other one = absurd one

  captures : (sites : List Site) → captures_odd types n sites ≡ true → OneOf IsOddType (captured_in own types n sites)
  captures [] e = let f : false ≡ true = e in cc
  captures (s ∷ sites) e = elim (or_cases (is_odd_name types n s s.kind) (captures_odd types n sites) e) [
    | inl here ↦ one_in_front IsOddType (captured_at own types n s s.kind) (captured_in own types n sites) (captured_here s s.kind here)
    | inr there ↦ one_in_back IsOddType (captured_at own types n s s.kind) (captured_in own types n sites) (captures sites there)
  ]

  is_captured : (sites : List Site) → OneOf IsOddType (captured_in own types n sites) → captures_odd types n sites ≡ true
  is_captured [] one = absurd one
  is_captured (s ∷ sites) one = elim (one_of_both IsOddType (captured_at own types n s s.kind) (captured_in own types n sites) one) [
    | inl here ↦ ap (λ b. b || captures_odd types n sites) (here_captured s s.kind here)
    | inr there ↦ ap (λ b. is_odd_name types n s s.kind || b) (is_captured sites there) ∙ or_true (is_odd_name types n s s.kind)
  ]
    where
      or_true : (b : Bool) → (b || true) ≡ true
      or_true true = refl
      or_true false = refl

-- ---- faults of a node

both : {b : Bool} → b ≡ true → b ≡ false → ⊥
both is isnt = let f : true ≡ false = sym is ∙ isnt in cc

module _ (helpers : List Body) where
  abbrev IsFine : Option Comparison → Type 0
  IsFine None = Unit {0}
  IsFine (Some (node.Equality t)) = has_function t ≡ false
  IsFine (Some (node.Order t)) = is_base t ≡ true

  abbrev IsFlatBlock : Option Block → Type 0
  IsFlatBlock None = Unit {0}
  IsFlatBlock (Some block) = (IsNotFlat helpers block → ⊥) × (OneOf IsOddType block.captured → ⊥)

  abbrev FaultAnswer : TypedNode → Option ShapeKind → Type 0
  FaultAnswer n None = IsFaultless helpers n
  FaultAnswer n (Some kind) = Fault helpers n kind

  faultless : (n : TypedNode) (c : Option Comparison) (o : Option Block) → n.part.compares ≡ c → n.block ≡ o → IsFine c → IsFlatBlock o → IsFaultless helpers n
  faultless n c o compares block fine flat kind (shape.equality is e) = both e (subst IsFine (sym compares ∙ is) fine)
  faultless n c o compares block fine flat kind (shape.order is e) = both (subst IsFine (sym compares ∙ is) fine) e
  faultless n c o compares block fine flat kind (shape.not_flat is isnt) = (subst IsFlatBlock (sym block ∙ is) flat).0 isnt
  faultless n c o compares block fine flat kind (shape.captures is unless one) = (subst IsFlatBlock (sym block ∙ is) flat).1 one

  equality_right : (n : TypedNode) (t : Ground) → n.part.compares ≡ Some (node.Equality t) → n.block ≡ None → (b : Bool) → has_function t ≡ b → FaultAnswer n (if b then Some EqualityAtFunction else None)
  equality_right n t compares block true e = shape.equality compares e
  equality_right n t compares block false e = faultless n (Some (node.Equality t)) None compares block e tt

  order_right : (n : TypedNode) (t : Ground) → n.part.compares ≡ Some (node.Order t) → n.block ≡ None → (b : Bool) → is_base t ≡ b → FaultAnswer n (if b then None else Some OrderAtNonBase)
  order_right n t compares block true e = faultless n (Some (node.Order t)) None compares block e tt
  order_right n t compares block false e = shape.order compares e

  block_right : (n : TypedNode) (block : Block) → n.part.compares ≡ None → n.block ≡ Some block → (flag captured : Bool)
      → (flag ≡ true → IsNotFlat helpers block) → (IsNotFlat helpers block → flag ≡ true)
      → (captured ≡ true → OneOf IsOddType block.captured) → (OneOf IsOddType block.captured → captured ≡ true)
      → FaultAnswer n (block_fault flag captured)
  block_right n block compares is true captured isnt flagged some found = shape.not_flat is (isnt refl)
  block_right n block compares is false true isnt flagged some found = shape.captures is (λ odd. both (flagged odd) refl) (some refl)
  block_right n block compares is false false isnt flagged some found = faultless n None (Some block) compares is tt ((λ odd. both (flagged odd) refl), (λ one. both (found one) refl))

  module _ (own : List Effect) (types : List Ground) (all : List Site) (odd : List Bool) (are : AreFlags helpers (map (part_at own types) all) odd) where
    abbrev typed : Site → TypedNode
    typed s = node_at own types all s

    within_block : (s : Site) (block : Block) → IsWhole (typed s) → (typed s).block ≡ Some block → HasWithin block
    within_block s block whole is = whole.within block is

    query_right : (s : Site) (nodes : ℕ) → IsWhole (typed s) → s.kind ≡ Query nodes → FaultAnswer (typed s) (fault_of types all odd s (Query nodes))
    query_right s nodes whole e =
        let block : Block = record { parts = part_at own types s ∷ map (part_at own types) (behind s.number nodes all); captured = captured_in own types s.number (behind s.number nodes all) } in
        let is : (typed s).block ≡ Some block = ap (block_at own types all s) e in
        let marks : AreFlags helpers block.parts (is_odd types s ∷ behind s.number nodes odd) = flags.more (flag_plain helpers own types s (ap (used own types s) e)) (flags_behind helpers (part_at own types) s.number nodes all are) in
        let within : Each IsWithin block.parts = within_block s block whole is in
        block_right (typed s) block (ap (compared own types) e) is (is_odd types s || some_odd odd s.number nodes) (captured_odd types all s.number nodes)
        (not_flat helpers block marks within) (is_flagged helpers block marks within)
        (captures own types s.number (behind s.number nodes all)) (is_captured own types s.number (behind s.number nodes all))

    change_right : (s : Site) (nodes : ℕ) → IsWhole (typed s) → s.kind ≡ Change nodes → FaultAnswer (typed s) (fault_of types all odd s (Change nodes))
    change_right s nodes whole e =
        let block : Block = record { parts = map (part_at own types) (behind s.number nodes all); captured = captured_in own types s.number (behind s.number nodes all) } in
        let is : (typed s).block ≡ Some block = ap (block_at own types all s) e in
        let marks : AreFlags helpers block.parts (behind s.number nodes odd) = flags_behind helpers (part_at own types) s.number nodes all are in
        let within : Each IsWithin block.parts = within_block s block whole is in
        block_right (typed s) block (ap (compared own types) e) is (some_odd odd s.number nodes) (captured_odd types all s.number nodes)
        (not_flat helpers block marks within) (is_flagged helpers block marks within)
        (captures own types s.number (behind s.number nodes all)) (is_captured own types s.number (behind s.number nodes all))

    fault_right : (s : Site) → IsWhole (typed s) → (k : Kind) → s.kind ≡ k → FaultAnswer (typed s) (fault_of types all odd s k)
    fault_right s whole (Function g) e = faultless (typed s) None None (ap (compared own types) e) (ap (block_at own types all s) e) tt tt
    fault_right s whole (Call g args) e = faultless (typed s) None None (ap (compared own types) e) (ap (block_at own types all s) e) tt tt
    fault_right s whole (Equality operand) e = equality_right (typed s) (type_at types operand) (ap (compared own types) e) (ap (block_at own types all s) e) (has_function (type_at types operand)) refl
    fault_right s whole (Order operand) e = order_right (typed s) (type_at types operand) (ap (compared own types) e) (ap (block_at own types all s) e) (is_base (type_at types operand)) refl
    fault_right s whole (Name binder) e = faultless (typed s) None None (ap (compared own types) e) (ap (block_at own types all s) e) tt tt
    fault_right s whole (Query nodes) e = query_right s nodes whole e
    fault_right s whole (Change nodes) e = change_right s nodes whole e
    fault_right s whole Other e = faultless (typed s) None None (ap (compared own types) e) (ap (block_at own types all s) e) tt tt

    -- ---- the first of the nodes

    abbrev FirstAnswer : List TypedNode → Option (ShapeKind × Span) → Type 0
    FirstAnswer nodes None = Each (IsFaultless helpers) nodes
    FirstAnswer nodes (Some found) = FirstFault helpers nodes found.0 found.1

    first_step : (n : TypedNode) (nodes : List TypedNode) (o : Option ShapeKind) (rest : Option (ShapeKind × Span)) → FaultAnswer n o → FirstAnswer nodes rest → FirstAnswer (n ∷ nodes) (option_or (placed n.part.span o) rest)
    first_step n nodes (Some kind) rest fault others = shape.here fault
    first_step n nodes None None fine others = (fine, others)
    first_step n nodes None (Some found) fine others = shape.later fine others

    first_right : (sites : List Site) → Each IsWhole (map typed sites) → FirstAnswer (map typed sites) (first_fault types all odd sites)
    first_right [] wholes = tt
    first_right (s ∷ sites) wholes = first_step (typed s) (map typed sites) (fault_of types all odd s s.kind) (first_fault types all odd sites) (fault_right s wholes.0 s.kind refl) (first_right sites wholes.1)

-- ---- the first of the instances

no_calls : (marks : List Bool) (bodies : List TheBody) → first_of marks bodies [] ≡ None
no_calls marks [] = refl
no_calls marks (body ∷ bodies) = refl

pub none_left : (marks : List Bool) (bodies : List TheBody) (calls : List (List ℕ)) → (bodies ≡ []) ⊎ (calls ≡ []) → first_of marks bodies calls ≡ None
none_left marks bodies calls (inl none) = ap (λ bs. first_of marks bs calls) none
none_left marks bodies calls (inr none) = ap (first_of marks bodies) none ∙ no_calls marks bodies

module _ (source : Source) (helpers : List Body) (ms : List Use) (marks : List Bool) (right : AreRight helpers marks) where
  -- what is found in a body is the first of its nodes
  abbrev BodyAnswer : List TypedNode → Option (ShapeKind × Span) → Type 0
  BodyAnswer nodes None = Each (IsFaultless helpers) nodes
  BodyAnswer nodes (Some found) = FirstFault helpers nodes found.0 found.1

  as_answer : (own : List Effect) (types : List Ground) (all : List Site) (odd : List Bool) (are : AreFlags helpers (map (part_at own types) all) odd) (nodes : List TypedNode) (o : Option (ShapeKind × Span))
      → FirstAnswer helpers own types all odd are nodes o → BodyAnswer nodes o
  as_answer own types all odd are nodes None answer = answer
  as_answer own types all odd are nodes (Some found) answer = answer

  body_right : (kept : TheBody) (body : Body) (places : List ℕ) → IsHeld source kept body → AreCalled ms (uses_of helpers) false body.nodes places → BodyAnswer body.nodes (body_fault marks kept places)
  body_right kept body places is calls =
      let own : List Effect = effects_in (out-Ground body.use_of.type) in
      let sites : List Site = shown kept.member.now.sites in
      let odd : List Bool = odd_nodes kept.types marks sites places in
      let are : AreFlags helpers (map (part_at own kept.types) sites) odd = main_flags helpers own kept.types ms marks right sites sites (subst (λ nodes. AreCalled ms (uses_of helpers) false nodes places) is.nodes calls) in
      let whole : Each IsWhole body.nodes = subst (Each IsWhole) (sym is.instance.are) (whole_nodes false is.instance.typed.is.typed.body) in
      subst (λ nodes. BodyAnswer nodes (first_fault kept.types sites odd sites)) (sym is.nodes)
      (as_answer own kept.types sites odd are (map (node_at own kept.types sites) sites) (first_fault kept.types sites odd sites) (first_right helpers own kept.types sites odd are sites (subst (Each IsWhole) is.nodes whole)))

  bodies_step : (body : Body) (bodies : List Body) (first rest : Option (ShapeKind × Span)) → BodyAnswer body.nodes first → Answers helpers bodies rest → Answers helpers (body ∷ bodies) (option_or first rest)
  bodies_step body bodies (Some found) rest fault others = shape.here fault
  bodies_step body bodies None None fine others = (fine, others)
  bodies_step body bodies None (Some found) fine others = shape.later fine others

  pub all_right : {mains : List TheBody} {bodies : List Body} → AreHeld source mains bodies → {calls : List (List ℕ)} → AreAllCalled ms (uses_of helpers) false bodies calls → Answers helpers bodies (first_of marks mains calls)
  all_right held.none called.none = tt
  all_right (held.more {held = kept} {helds = kepts} {body} {bodies} is others) (called.more {places} {all} first rest) =
      bodies_step body bodies (body_fault marks kept places) (first_of marks kepts all) (body_right kept body places is first) (all_right others rest)
