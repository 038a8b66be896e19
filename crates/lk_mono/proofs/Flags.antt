-- What the code says of each node: whether it is odd, or uses a helper that reaches something odd.
use Rattle.std.proofs.Common.{◌≡◌, ℕ, zero, suc, ◌+◌, ◌⊎◌, inl, inr, Bool, true, false, ◌||◌, List, [], ◌∷◌, Some, None, drop, map, slice_get, take, refl, sym, ap, ◌∙◌, subst, if◌then◌else◌}
use Rattle.std.specs.List.{list_any}
use Rattle.std.proofs.Math.Bool.{or-false, or-true}
use Rattle.std.proofs.lemmas.Bool.{or_cases}
use Rattle.lk_mono.proofs.Behind.{behind_map}
use Rattle.lk_mono.proofs.Inside.{IsWithin}
use Rattle.lk_mono.proofs.Reaching.{IsOddUse, none_at, odd_part, odd_site}
use Rattle.lk_mono.specs.Flatness.{behind, first_marked, is_marked, is_odd, is_use, odd_nodes, other_calls}
use Rattle.lk_mono.specs.Grounded.{AreCalled}
use Rattle.lk_mono.specs.Grounded as called
use Rattle.lk_mono.specs.Instances.{Body, uses_of}
use Rattle.lk_mono.specs.Shapes.{IsNotFlat, IsOdd, IsUsedBy, itself, reached}
use Rattle.lk_sound.specs.Nodes.{Block, Part, Use}
use Rattle.lk_outline.specs.Outline.{Kind, Site, Function, Call, Equality, Order, Name, Query, Change, Other}
use Rattle.lk_outline.specs.Typed.{node_at, part_at, used}
use Rattle.lk_types.specs.Each.{Each, OneOf}
use Rattle.lk_types.specs.declared.ground.Ground.{Ground}
use Rattle.lk_types.specs.declared.ty.Effect.{Effect}

one_as : {A : Type 0} (P Q : A → Type 0) (xs : List A) → ((x : A) → P x → Q x) → OneOf P xs → OneOf Q xs
one_as P Q [] f one = absurd one
one_as P Q (x ∷ xs) f (inl here) = inl (f x here)
one_as P Q (x ∷ xs) f (inr there) = inr (one_as P Q xs f there)

module _ (helpers : List Body) where
  -- the marks of helpers are right
  pub record AreRight (marks : List Bool) : Type 0 where
    pub sound : (place : ℕ) (u : Use) → slice_get (uses_of helpers) place ≡ Some u → is_marked marks place ≡ true → IsOddUse helpers u
    pub complete : (place : ℕ) (u : Use) → slice_get (uses_of helpers) place ≡ Some u → IsOddUse helpers u → is_marked marks place ≡ true

  -- what can't stand in a query, an update or a deletion
  abbrev pub IsBad : Part → Type 0
  IsBad part = IsOdd part ⊎ ((u : Use) × IsUsedBy u part × IsOddUse helpers u)

  pub record IsFlag (part : Part) (flag : Bool) : Type 0 where
    pub sound : IsWithin part → flag ≡ true → IsBad part
    pub complete : IsWithin part → IsBad part → flag ≡ true

  pub data AreFlags : List Part → List Bool → Type 0 where
    none : AreFlags [] []
    more : {part : Part} {flag : Bool} {parts : List Part} {flags : List Bool} → IsFlag part flag → AreFlags parts flags → AreFlags (part ∷ parts) (flag ∷ flags)

  flags_drop : (n : ℕ) {parts : List Part} {flags : List Bool} → AreFlags parts flags → AreFlags (drop n parts) (drop n flags)
  flags_drop zero flags = flags
  flags_drop (suc n) none = none
  flags_drop (suc n) (more first rest) = flags_drop n rest

  flags_take : (n : ℕ) {parts : List Part} {flags : List Bool} → AreFlags parts flags → AreFlags (take n parts) (take n flags)
  flags_take zero flags = none
  flags_take (suc n) none = none
  flags_take (suc n) (more first rest) = more first (flags_take n rest)

  pub flags_behind : {A : Type 0} (f : A → Part) (number nodes : ℕ) (xs : List A) {flags : List Bool} → AreFlags (map f xs) flags → AreFlags (map f (behind number nodes xs)) (behind number nodes flags)
  flags_behind f number nodes xs {flags} are = subst (λ parts. AreFlags parts (behind number nodes flags)) (behind_map f number nodes xs) (flags_take nodes (flags_drop (1 + number) are))

  one_bad : {parts : List Part} {flags : List Bool} → AreFlags parts flags → Each IsWithin parts → list_any (λ one. one) flags ≡ true → OneOf IsBad parts
  one_bad none within e = let f : false ≡ true = e in cc
  one_bad (more {flag} {flags} first rest) within e = elim (or_cases flag (list_any (λ one. one) flags) e) [
    | inl here ↦ inl (first.sound within.0 here)
    | inr there ↦ inr (one_bad rest within.1 there)
  ]

  bad_one : {parts : List Part} {flags : List Bool} → AreFlags parts flags → Each IsWithin parts → OneOf IsBad parts → list_any (λ one. one) flags ≡ true
  bad_one none within one = absurd one
  bad_one (more {flags} first rest) within (inl here) = ap (λ b. b || list_any (λ one. one) flags) (first.complete within.0 here)
  bad_one (more {flag} first rest) within (inr there) = ap (λ b. flag || b) (bad_one rest within.1 there) ∙ or-true flag

  odd_or_used : (parts : List Part) → OneOf IsBad parts → OneOf IsOdd parts ⊎ ((u : Use) × OneOf (IsUsedBy u) parts × IsOddUse helpers u)
  odd_or_used [] one = absurd one
  odd_or_used (part ∷ parts) (inl (inl odd)) = inl (inl odd)
  odd_or_used (part ∷ parts) (inl (inr found)) = inr (found.0, inl found.1, found.2)
  odd_or_used (part ∷ parts) (inr there) = elim (odd_or_used parts there) [
    | inl odd ↦ inl (inr odd)
    | inr found ↦ inr (found.0, inr found.1, found.2)
  ]

  pub not_flat : (block : Block) {flags : List Bool} → AreFlags block.parts flags → Each IsWithin block.parts → list_any (λ one. one) flags ≡ true → IsNotFlat helpers block
  not_flat block flags within e = elim (odd_or_used block.parts (one_bad flags within e)) [
    | inl odd ↦ itself odd
    | inr found ↦ reached found.2.nodes found.1 found.2.reaches found.2.helper found.2.odd
  ]

  bad_of : (block : Block) → IsNotFlat helpers block → OneOf IsBad block.parts
  bad_of block (itself odd) = one_as IsOdd IsBad block.parts (λ part is. inl is) odd
  bad_of block (reached {u} {v} nodes uses reaches helper odd) =
      one_as (IsUsedBy u) IsBad block.parts (λ part is. inr (u, is, record { last = v; nodes = nodes; reaches = reaches; helper = helper; odd = odd })) uses

  pub is_flagged : (block : Block) {flags : List Bool} → AreFlags block.parts flags → Each IsWithin block.parts → IsNotFlat helpers block → list_any (λ one. one) flags ≡ true
  is_flagged block flags within isnt = bad_one flags within (bad_of block isnt)

-- ---- what nodes use, by their kinds

unused : (own : List Effect) (types : List Ground) (s : Site) (k : Kind) → used own types s k ≡ None → is_use k ≡ false
unused own types s (Function g) e = absurd (none_at (sym e))
unused own types s (Call g args) e = absurd (none_at (sym e))
unused own types s (Equality operand) e = refl
unused own types s (Order operand) e = refl
unused own types s (Name binder) e = refl
unused own types s (Query nodes) e = refl
unused own types s (Change nodes) e = refl
unused own types s Other e = refl

uses : (own : List Effect) (types : List Ground) (s : Site) (k : Kind) (u : Use) → used own types s k ≡ Some u → is_use k ≡ true
uses own types s (Function g) u e = refl
uses own types s (Call g args) u e = refl
uses own types s (Equality operand) u e = absurd (none_at e)
uses own types s (Order operand) u e = absurd (none_at e)
uses own types s (Name binder) u e = absurd (none_at e)
uses own types s (Query nodes) u e = absurd (none_at e)
uses own types s (Change nodes) u e = absurd (none_at e)
uses own types s Other u e = absurd (none_at e)

-- ---- flags of the nodes of an instance outside of helpers

module _ (helpers : List Body) (own : List Effect) (types : List Ground) where
  -- a node that uses no function
  pub flag_plain : (s : Site) → used own types s s.kind ≡ None → IsFlag helpers (part_at own types s) (is_odd types s)
  flag_plain s unused_here = record {
    sound = λ within e. inl (odd_part own types s e);
    complete = λ within bad. elim bad [
      | inl odd ↦ odd_site own types s odd
      | inr found ↦ absurd (none_at (sym unused_here ∙ found.1))
    ];
  }

  module _ (ms : List Use) (marks : List Bool) (right : AreRight helpers marks) where
    -- a use with the place that it calls
    flag_use : (s : Site) (place : ℕ) (u : Use) → used own types s s.kind ≡ Some u → slice_get (if false || s.inside then uses_of helpers else ms) place ≡ Some u
        → IsFlag helpers (part_at own types s) (is_odd types s || is_marked marks place)
    flag_use s place u is at = record {
      sound = λ within e. elim (or_cases (is_odd types s) (is_marked marks place) e) [
        | inl odd ↦ inl (odd_part own types s odd)
        | inr marked ↦ inr (u, is, right.sound place u (among within) marked)
      ];
      complete = λ within bad. elim bad [
        | inl odd ↦ ap (λ b. b || is_marked marks place) (odd_site own types s odd)
        | inr found ↦ (let same : Some found.0 ≡ Some u = sym found.1 ∙ is in let same_use : found.0 ≡ u = cc in
            ap (λ b. is_odd types s || b) (right.complete place u (among within) (subst (IsOddUse helpers) same_use found.2)) ∙ or-true (is_odd types s))
      ];
    }
      where
        among : IsWithin (part_at own types s) → slice_get (uses_of helpers) place ≡ Some u
        among (inl unused_here) = absurd (none_at (sym unused_here ∙ is))
        among (inr inside) = subst (λ b. slice_get (if false || b then uses_of helpers else ms) place ≡ Some u) inside at

    module _ (all : List Site) where
      pub main_flags : (sites : List Site) {places : List ℕ} → AreCalled ms (uses_of helpers) false (map (node_at own types all) sites) places
          → AreFlags helpers (map (part_at own types) sites) (odd_nodes types marks sites places)
      main_flags [] called.none = none
      main_flags (s ∷ sites) (called.other {places} no_use rest) =
          subst (λ b. AreFlags helpers (part_at own types s ∷ map (part_at own types) sites) ((is_odd types s || first_marked marks b places) ∷ odd_nodes types marks sites (other_calls b places))) (sym (unused own types s s.kind no_use))
          (more (subst (IsFlag helpers (part_at own types s)) (sym (or-false (is_odd types s))) (flag_plain s no_use)) (main_flags sites rest))
      main_flags (s ∷ sites) (called.called {place} {places} {u} is at rest) =
          subst (λ b. AreFlags helpers (part_at own types s ∷ map (part_at own types) sites) ((is_odd types s || first_marked marks b (place ∷ places)) ∷ odd_nodes types marks sites (other_calls b (place ∷ places)))) (sym (uses own types s s.kind u is))
          (more (flag_use s place u is at) (main_flags sites rest))
