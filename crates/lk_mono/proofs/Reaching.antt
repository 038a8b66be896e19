-- Marks of helpers: a helper is marked just where it reaches one that has something odd in it.
use Rattle.std.proofs.Common.{◌≡◌, ℕ, zero, suc, ◌<◌, inl, inr, Bool, true, false, not, ◌||◌, List, [], ◌∷◌, Some, None, length, map, slice_get, refl, sym, ap, ◌∙◌, subst, arith}
use Rattle.std.proofs.lemmas.Bool.{not-true, false_from_ne_true, or_cases}
use Rattle.std.specs.List.{list_any}
use Rattle.std.specs.Option.{option_map}
use Rattle.std.proofs.lemmas.List.{length-map}
use Rattle.std.proofs.lemmas.Option.{slice_get_within, slice_get-map}
use Rattle.lk_mono.proofs.Behind.{any_map}
use Rattle.lk_mono.proofs.Ones.{at_one, one_at}
use Rattle.lk_mono.specs.Flatness.{AreMarked, IsOddAt, calling, calls_marked, has_odd, is_marked, is_odd, itself as odd_itself}
use Rattle.lk_mono.specs.Grounded.{AreAllCalled, AreCalled}
use Rattle.lk_mono.specs.Grounded as called
use Rattle.lk_mono.specs.Held.{AreHeld, IsHeld}
use Rattle.lk_mono.specs.Held as held
use Rattle.lk_mono.specs.Instances.{AreDistinct, Body, uses_of}
use Rattle.lk_mono.specs.Shapes.{IsHelper, IsOdd, IsUsedBy, Reaches, is_flat_part, further, itself}
use Rattle.lk_mono.specs.declared.body.Body.{Body as TheBody}
use Rattle.lk_mono.specs.declared.body.Source.{Source}
use Rattle.lk_sound.specs.Nodes.{TypedNode, Use, parts_of}
use Rattle.lk_outline.specs.Outline.{Kind, Site, Function, Call, Equality, Order, Name, Query, Change, Other}
use Rattle.lk_outline.specs.Shown.{shown, shown_site}
use Rattle.lk_outline.specs.Typed.{compared, effects_in, node_at, part_at, type_at}
use Rattle.lk_types.specs.Each.{OneOf}
use Rattle.lk_types.specs.declared.ground.Ground.{Ground, out-Ground}
use Rattle.lk_types.specs.declared.ty.Effect.{Effect}

-- ---- parts that are odd

-- what is compared doesn't rest on the effects of the function
compared_same : (own : List Effect) (types : List Ground) (k : Kind) → compared own types k ≡ compared [] types k
compared_same own types (Function g) = refl
compared_same own types (Call g args) = refl
compared_same own types (Equality operand) = refl
compared_same own types (Order operand) = refl
compared_same own types (Name binder) = refl
compared_same own types (Query nodes) = refl
compared_same own types (Change nodes) = refl
compared_same own types Other = refl

flat_same : (own : List Effect) (types : List Ground) (s : Site) → is_flat_part (part_at own types s) ≡ is_flat_part (part_at [] types s)
flat_same own types s = ap (λ c. is_flat_part (record { span = s.span; type = type_at types s.number; use_of = None; compares = c; inside = s.inside })) (compared_same own types s.kind)

pub odd_part : (own : List Effect) (types : List Ground) (s : Site) → is_odd types s ≡ true → IsOdd (part_at own types s)
odd_part own types s e = flat_same own types s ∙ not-true (is_flat_part (part_at [] types s)) e

pub odd_site : (own : List Effect) (types : List Ground) (s : Site) → IsOdd (part_at own types s) → is_odd types s ≡ true
odd_site own types s odd = ap not (sym (flat_same own types s) ∙ odd)

module _ (own : List Effect) (types : List Ground) (all : List Site) where
  odd_sites : (sites : List Site) → list_any (is_odd types) sites ≡ true → OneOf IsOdd (parts_of (map (node_at own types all) sites))
  odd_sites [] e = let no : false ≡ true = e in cc
  odd_sites (s ∷ sites) e = elim (or_cases (is_odd types s) (list_any (is_odd types) sites) e) [
    | inl here ↦ inl (odd_part own types s here)
    | inr there ↦ inr (odd_sites sites there)
  ]

  sites_odd : (sites : List Site) → OneOf IsOdd (parts_of (map (node_at own types all) sites)) → list_any (is_odd types) sites ≡ true
  sites_odd [] one = absurd one
  sites_odd (s ∷ sites) (inl here) = ap (λ b. b || list_any (is_odd types) sites) (odd_site own types s here)
  sites_odd (s ∷ sites) (inr there) = ap (λ b. is_odd types s || b) (sites_odd sites there) ∙ or_true (is_odd types s)
    where
      or_true : (b : Bool) → (b || true) ≡ true
      or_true true = refl
      or_true false = refl

-- ---- instances and what the code has of them

module _ (source : Source) where
  body_odd : (kept : TheBody) (body : Body) → IsHeld source kept body → has_odd kept ≡ true → OneOf IsOdd (parts_of body.nodes)
  body_odd kept body is e = subst (λ nodes. OneOf IsOdd (parts_of nodes)) (sym is.nodes)
      (odd_sites (effects_in (out-Ground body.use_of.type)) kept.types (shown kept.member.now.sites) (shown kept.member.now.sites) (any_map (is_odd kept.types) shown_site kept.member.now.sites ∙ e))

  odd_body : (kept : TheBody) (body : Body) → IsHeld source kept body → OneOf IsOdd (parts_of body.nodes) → has_odd kept ≡ true
  odd_body kept body is one = sym (any_map (is_odd kept.types) shown_site kept.member.now.sites)
      ∙ sites_odd (effects_in (out-Ground body.use_of.type)) kept.types (shown kept.member.now.sites) (shown kept.member.now.sites) (subst (λ nodes. OneOf IsOdd (parts_of nodes)) is.nodes one)

  marked_own : {kepts : List TheBody} {bodies : List Body} → AreHeld source kepts bodies → (i : ℕ) → is_marked (map has_odd kepts) i ≡ true
      → (body : Body) × (slice_get bodies i ≡ Some body) × OneOf IsOdd (parts_of body.nodes)
  marked_own held.none i e = let no : false ≡ true = e in cc
  marked_own (held.more {held = kept} {helds = kepts} {body} {bodies} is others) zero e = (body, refl, body_odd kept body is e)
  marked_own (held.more {held = kept} {helds = kepts} {body} {bodies} is others) (suc i) e = marked_own others i e

  own_marked : {kepts : List TheBody} {bodies : List Body} → AreHeld source kepts bodies → (i : ℕ) (body : Body) → slice_get bodies i ≡ Some body
      → OneOf IsOdd (parts_of body.nodes) → is_marked (map has_odd kepts) i ≡ true
  own_marked held.none i body at one = let no : None ≡ Some body = at in cc
  own_marked (held.more {held = kept} {helds = kepts} {body = first} {bodies} is others) zero body at one = let same : body ≡ first = cc in odd_body kept first is (subst (λ b. OneOf IsOdd (parts_of b.nodes)) same one)
  own_marked (held.more {held = kept} {helds = kepts} {body = first} {bodies} is others) (suc i) body at one = own_marked others i body at one

  held_length : {kepts : List TheBody} {bodies : List Body} → AreHeld source kepts bodies → length kepts ≡ length bodies
  held_length held.none = refl
  held_length (held.more is others) = ap suc (held_length others)

-- ---- places and uses

pub none_at : {A : Type 0} {x : A} → None ≡ Some x → ⊥
none_at e = let no : None ≡ Some _ = e in cc

use_at : (bodies : List Body) (i : ℕ) (body : Body) → slice_get bodies i ≡ Some body → slice_get (uses_of bodies) i ≡ Some body.use_of
use_at bodies i body at = slice_get-map (λ (b : Body). b.use_of) bodies i ∙ ap (option_map (λ (b : Body). b.use_of)) at

module _ {ms hs : List Use} {in_helper : Bool} where
  called_at : {bodies : List Body} {calls : List (List ℕ)} → AreAllCalled ms hs in_helper bodies calls → (i : ℕ) (body : Body) → slice_get bodies i ≡ Some body
      → (places : List ℕ) × (slice_get calls i ≡ Some places) × AreCalled ms hs in_helper body.nodes places
  called_at called.none i body at = absurd (none_at at)
  called_at (called.more {body = first} {places} first_called others) zero body at = let same : first ≡ body = cc in (places, refl, subst (λ b. AreCalled ms hs in_helper b.nodes places) same first_called)
  called_at (called.more first_called others) (suc i) body at = called_at others i body at

  body_at : {bodies : List Body} {calls : List (List ℕ)} → AreAllCalled ms hs in_helper bodies calls → (i : ℕ) (places : List ℕ) → slice_get calls i ≡ Some places
      → (body : Body) × (slice_get bodies i ≡ Some body) × AreCalled ms hs in_helper body.nodes places
  body_at called.none i places at = absurd (none_at at)
  body_at (called.more {body} {places = first} first_called others) zero places at = let same : first ≡ places = cc in (body, refl, subst (AreCalled ms hs in_helper body.nodes) same first_called)
  body_at (called.more first_called others) (suc i) places at = body_at others i places at

module _ {ms hs : List Use} where
  place_used : {nodes : List TypedNode} {places : List ℕ} → AreCalled ms hs true nodes places → (j : ℕ) → OneOf (λ place. place ≡ j) places
      → (u : Use) × (slice_get hs j ≡ Some u) × OneOf (IsUsedBy u) (parts_of nodes)
  place_used called.none j one = absurd one
  place_used (called.other no_use rest) j one = let found = place_used rest j one in (found.0, found.1, inr found.2)
  place_used (called.called {place} {u} is at rest) j (inl here) = (u, sym (ap (slice_get hs) here) ∙ at, inl is)
  place_used (called.called is at rest) j (inr there) = let found = place_used rest j there in (found.0, found.1, inr found.2)

  used_place : {nodes : List TypedNode} {places : List ℕ} → AreCalled ms hs true nodes places → (u : Use) → OneOf (IsUsedBy u) (parts_of nodes)
      → (j : ℕ) × OneOf (λ place. place ≡ j) places × (slice_get hs j ≡ Some u)
  used_place called.none u one = absurd one
  used_place (called.other no_use rest) u (inl here) = absurd (none_at (sym no_use ∙ here))
  used_place (called.other no_use rest) u (inr there) = used_place rest u there
  used_place (called.called {place} {u = v} is at rest) u (inl here) = let same : Some v ≡ Some u = sym is ∙ here in (place, inl refl, at ∙ same)
  used_place (called.called is at rest) u (inr there) = let found = used_place rest u there in (found.0, inr found.1, found.2)

-- ---- what is reached

module _ (helpers : List Body) where
  -- something in the instance, or in a helper that it reaches, is odd
  pub record IsOddUse (u : Use) : Type 0 where
    pub last : Use
    pub nodes : List TypedNode
    pub reaches : Reaches helpers u last
    pub helper : IsHelper helpers last nodes
    pub odd : OneOf IsOdd (parts_of nodes)

  reaches_on : {u v w : Use} → Reaches helpers u v → Reaches helpers v w → Reaches helpers u w
  reaches_on first itself = first
  reaches_on first (further nodes second helper uses) = further nodes (reaches_on first second) helper uses

  helper_at : (i : ℕ) (body : Body) → slice_get helpers i ≡ Some body → IsHelper helpers body.use_of body.nodes
  helper_at i body at = one_at (λ (b : Body). b ≡ record { use_of = body.use_of; nodes = body.nodes }) helpers i body at refl

module _ (source : Source) (kepts : List TheBody) (helpers : List Body) (held : AreHeld source kepts helpers)
    (ms : List Use) (calls : List (List ℕ)) (all_called : AreAllCalled ms (uses_of helpers) true helpers calls) where
  odd_at : (i : ℕ) → IsOddAt (map has_odd kepts) calls i → (body : Body) × (slice_get helpers i ≡ Some body) × IsOddUse helpers body.use_of
  odd_at i (odd_itself e) = let own = marked_own source held i e in
      (own.0, own.1, record { last = own.0.use_of; nodes = own.0.nodes; reaches = itself; helper = helper_at helpers i own.0 own.1; odd = own.2 })
  odd_at i (calling j places at one rest) =
      let caller = body_at all_called i places at in
      let callee = odd_at j rest in
      let used = place_used caller.2 j one in
      let uses : Some used.0 ≡ Some callee.0.use_of = sym used.1 ∙ use_at helpers j callee.0 callee.1 in
      let same : used.0 ≡ callee.0.use_of = cc in
      let odd = callee.2 in
      let step : Reaches helpers caller.0.use_of callee.0.use_of = further caller.0.nodes itself (helper_at helpers i caller.0 caller.1) (subst (λ u. OneOf (IsUsedBy u) (parts_of caller.0.nodes)) same used.2) in
      (caller.0, caller.1, record { last = odd.last; nodes = odd.nodes; reaches = reaches_on helpers step odd.reaches; helper = odd.helper; odd = odd.odd })

  module _ (marks : List Bool) (marked : AreMarked (map has_odd kepts) calls marks) (distinct : AreDistinct (uses_of helpers)) where
    -- a marked helper reaches something odd
    pub marked_odd : (place : ℕ) (u : Use) → slice_get (uses_of helpers) place ≡ Some u → is_marked marks place ≡ true → IsOddUse helpers u
    marked_odd place u at e =
        let found = odd_at place (marked.sound place e) in
        let uses : Some found.0.use_of ≡ Some u = sym (use_at helpers place found.0 found.1) ∙ at in
        let same : found.0.use_of ≡ u = cc in
        subst (IsOddUse helpers) same found.2

    many : (i : ℕ) (body : Body) → slice_get helpers i ≡ Some body → i < length marks
    many i body at =
        let within : i < length helpers = slice_get_within helpers i body at in
        let sizes : length marks ≡ length helpers = marked.size ∙ (length-map kepts has_odd ∙ held_length source held) in
        omega arith

    -- one that isn't marked has a place of a helper that isn't marked for each that it reaches
    record IsClear (u : Use) : Type 0 where
      place : ℕ
      at : slice_get (uses_of helpers) place ≡ Some u
      clear : is_marked marks place ≡ false

    helper_place : (u : Use) (nodes : List TypedNode) → IsHelper helpers u nodes → IsClear u → (i : ℕ) × (slice_get helpers i ≡ Some (record { use_of = u; nodes = nodes })) × (is_marked marks i ≡ false)
    helper_place u nodes helper clear =
        let found = at_one (λ (b : Body). b ≡ record { use_of = u; nodes = nodes }) helpers helper in
        let at : slice_get helpers found.0 ≡ Some (record { use_of = u; nodes = nodes }) = found.2 ∙ ap Some found.3 in
        let same : found.0 ≡ clear.place = distinct found.0 clear.place u (use_at helpers found.0 _ at) clear.at in
        (found.0, at, ap (is_marked marks) same ∙ clear.clear)

    any_marked : (places : List ℕ) (j : ℕ) → OneOf (λ place. place ≡ j) places → is_marked marks j ≡ true → calls_marked marks places ≡ true
    any_marked [] j one e = absurd one
    any_marked (place ∷ places) j (inl here) e = ap (λ b. b || calls_marked marks places) (ap (is_marked marks) here ∙ e)
    any_marked (place ∷ places) j (inr there) e = ap (λ b. is_marked marks place || b) (any_marked places j there e) ∙ or_true (is_marked marks place)
      where
        or_true : (b : Bool) → (b || true) ≡ true
        or_true true = refl
        or_true false = refl

    both : {b : Bool} → b ≡ true → b ≡ false → ⊥
    both marked_so clear_so = let f : true ≡ false = sym marked_so ∙ clear_so in cc

    clear_on : {u w : Use} → Reaches helpers u w → IsClear u → IsClear w
    clear_on itself clear = clear
    clear_on (further {v} {w} nodes reaches helper uses) clear =
        let there = helper_place v nodes helper (clear_on reaches clear) in
        let caller = called_at all_called there.0 _ there.1 in
        let callee = used_place caller.2 w uses in
        record {
          place = callee.0;
          at = callee.2;
          clear = false_from_ne_true (is_marked marks callee.0) (λ e. both (marked.calling there.0 caller.0 (omega arith) (many there.0 _ there.1) caller.1 (any_marked caller.0 callee.0 callee.1 e)) there.2);
        }

    -- a helper that reaches something odd is marked
    pub odd_marked : (place : ℕ) (u : Use) → slice_get (uses_of helpers) place ≡ Some u → IsOddUse helpers u → is_marked marks place ≡ true
    odd_marked place u at odd = by_cases (is_marked marks place) refl
      where
        no_clear : IsClear u → ⊥
        no_clear clear =
            let there = helper_place odd.last odd.nodes odd.helper (clear_on odd.reaches clear) in
            both (marked.itself there.0 (own_marked source held there.0 _ there.1 odd.odd)) there.2

        by_cases : (b : Bool) → is_marked marks place ≡ b → is_marked marks place ≡ true
        by_cases true e = e
        by_cases false e = absurd (no_clear (record { place = place; at = at; clear = e }))
