-- Where the walk of a block begins: a part for each name, of the kind of what is captured under it.
use Rattle.std.proofs.Common.{◌≡◌, refl, sym, ap, ◌∙◌, subst, arith, ℕ, suc, ◌+◌, ◌≤◌, ◌<◌, ◌==◌, Bool, true, false, ◌||◌, List, [], ◌∷◌, length, map, Option, Some, None, is_some, slice_get, if◌then◌else◌, bytes_eq}
use Rattle.std.proofs.lemmas.Bool.{eqb-false, eqb-true}
use Rattle.std.proofs.lemmas.Option.{slice_get_within}
use Rattle.std.specs.Prelude.{unwrap_or}
use Rattle.lk_bodies.specs.Captured.{bound_parts, captured_as, numbered}
use Rattle.lk_bodies.specs.Shapes.{columns_level, kind_level}
use Rattle.lk_ground_types.specs.Shapes.{base_level, is_flat, row_level}
use Rattle.lk_inline.proofs.BlockStarts.{bound_alone, bound_length}
use Rattle.lk_inline.proofs.KindsMade.{AreDescribed, Described, Descriptions, IsSeen, Scope, described, kinds_of, scopes_of}
use Rattle.lk_inline.specs.KindsOfTypes as kinds
use Rattle.lk_inline.specs.KindsOfTypes.{kind_of_type}
use Rattle.lk_query.proofs.Parts.{bind-here, bind-other}
use Rattle.lk_query.specs.Kinds.{HasColumns, Is, IsNoList, Kind, OfBase, OfList, OfRecord, kind_of, kinds_from}
use Rattle.lk_query.specs.declared.part.Part.{Part}
use Rattle.lk_query.specs.declared.query.Captured.TheVariants as captured
use Rattle.lk_types.specs.Each.{Each}
use Rattle.lk_types.specs.Rows.{Label}
use Rattle.lk_types.specs.declared.ground.Ground.{Ground, out-Ground}
use Rattle.lk_types.specs.declared.ground.Ground.TheOpen.{Ground-F}
use Rattle.lk_types.specs.declared.ground.GroundField.{GroundField}
use Rattle.lk_typing.specs.Names.{Named, named, names_of, types_of}

no_columns : (kind : Kind) → IsNoList kind → HasColumns kind
no_columns OfBase is = tt
no_columns (OfRecord labels) is = tt
no_columns (OfList labels) is = absurd is

-- ---- what is bound to numbers

module _ (given : ℕ → Option Kind) where
  -- the numbers to which something is bound are in scope
  abbrev pub begun_scope : Scope
  begun_scope j = is_some (given j)

  abbrev pub begun : Descriptions
  begun k = described (unwrap_or (given k) OfBase) begun_scope

  -- something is bound to the numbers below this one alone, and no lists
  pub record AreBound (count : ℕ) : Type 0 where
    pub each : (k : ℕ) → k < count → (kind : Kind) × (given k ≡ Some kind) × IsNoList kind
    pub only : (k : ℕ) → is_some (given k) ≡ true → k < count

  module _ (xs : List Label) (are : AreBound (length xs)) where
    begun_columns : (n : ℕ) → HasColumns (unwrap_or (given n) OfBase)
    begun_columns n = by_given (given n) refl
      where
        by_given : (o : Option Kind) → given n ≡ o → HasColumns (unwrap_or (given n) OfBase)
        by_given None is = subst (λ o. HasColumns (unwrap_or o OfBase)) (sym is) tt
        by_given (Some kind) is = let at = are.each n (are.only n (ap is_some is)) in subst (λ o. HasColumns (unwrap_or o OfBase)) (sym at.1) (no_columns at.0 at.2)

    begun_each : (n : ℕ) (x : Part) → slice_get (bound_parts xs) n ≡ Some x → Is (kinds_of begun) (scopes_of begun) n x (unwrap_or (given n) OfBase)
    begun_each n x is =
        let within : n < length (bound_parts xs) = slice_get_within (bound_parts xs) n x is in
        let many : length (bound_parts xs) ≡ length xs = bound_length xs in
        let at = are.each n (omega (arith, within, many)) in
        subst (λ x. Is (kinds_of begun) (scopes_of begun) n x (unwrap_or (given n) OfBase)) (sym (bound_alone xs n x is)) (subst (λ o. IsNoList (unwrap_or o OfBase)) (sym at.1) at.2, ap is_some at.1)

    pub begun_described : AreDescribed begun (bound_parts xs)
    begun_described = record { columns = begun_columns; each = begun_each }

    -- what is in scope is still of the kind that was bound
    pub begun_still : (later : Descriptions) → ((k : ℕ) → k < length (bound_parts xs) → later k ≡ begun k) → (j : ℕ) → is_some (given j) ≡ true → given j ≡ Some (later j).kind
    begun_still later same j is =
        let below : j < length xs = are.only j is in
        let at = are.each j below in
        let many : length (bound_parts xs) ≡ length xs = bound_length xs in
        at.1 ∙ ap Some (sym (ap (λ (d : Described). d.kind) (same j (omega (arith, below, many))) ∙ ap (λ o. unwrap_or o OfBase) at.1))

  -- a name whose part has that number
  pub seen_begun : (t : Ground) (k : ℕ) → given k ≡ Some (kind_of_type t) → IsSeen begun begun_scope (kind_of_type t) k
  seen_begun t k is = (ap (λ o. unwrap_or o OfBase) is, λ j looks. looks)

-- ---- what is captured

-- by its type, which is flat
captured_level : (l : Ground-F Ground GroundField) → (base_level l || row_level l) ≡ true
    → (kind_of (if base_level l then captured.Base (kind_level l) else captured.Row (columns_level l)) ≡ kinds.kind_level l) × IsNoList (kinds.kind_level l)
captured_level Ground-F.Int flat = (refl, tt)
captured_level Ground-F.Bool flat = (refl, tt)
captured_level Ground-F.Text flat = (refl, tt)
captured_level (Ground-F.List a) flat = let wrong : false ≡ true = flat in absurd cc
captured_level (Ground-F.Fields gs) flat = (refl, tt)
captured_level (Ground-F.Tags gs) flat = let wrong : false ≡ true = flat in absurd cc
captured_level (Ground-F.Fun ts es a) flat = let wrong : false ≡ true = flat in absurd cc

captured_kind : (t : Ground) → is_flat t ≡ true → (kind_of (captured_as t) ≡ kind_of_type t) × IsNoList (kind_of_type t)
captured_kind t flat = captured_level (out-Ground t) flat

-- the kinds of captured names that have the numbers from n on
abbrev pub kinds_kept : ℕ → Named Ground → ℕ → Option Kind
kinds_kept n kept = kinds_from n (map captured_as (types_of kept))

abbrev AllFlat : Named Ground → Type 0
AllFlat kept = Each (λ t. is_flat t ≡ true) (types_of kept)

pub kept_each : (n : ℕ) (kept : Named Ground) → AllFlat kept → (k : ℕ) → n ≤ k → k < n + length kept → (kind : Kind) × (kinds_kept n kept k ≡ Some kind) × IsNoList kind
kept_each n [] flat k from below = absurd (omega (arith, from, below))
kept_each n (e ∷ kept) flat k from below = by_test (k == n) refl (kept_each (n + 1) kept flat.1 k)
  where
    by_test : (b : Bool) → (k == n) ≡ b → (n + 1 ≤ k → k < (n + 1) + length kept → (kind : Kind) × (kinds_kept (n + 1) kept k ≡ Some kind) × IsNoList kind)
        → (kind : Kind) × ((if b then Some (kind_of (captured_as e.1)) else kinds_kept (n + 1) kept k) ≡ Some kind) × IsNoList kind
    by_test true is later = let own = captured_kind e.1 flat.0 in (kind_of_type e.1, ap Some own.0, own.1)
    by_test false is later = let apart = eqb-false k n is in later (omega (arith, apart, from)) (omega (arith, below))

pub kept_only : (n : ℕ) (kept : Named Ground) (k : ℕ) → is_some (kinds_kept n kept k) ≡ true → (n ≤ k) × (k < n + length kept)
kept_only n [] k is = let wrong : false ≡ true = is in absurd cc
kept_only n (e ∷ kept) k is = by_test (k == n) refl is (kept_only (n + 1) kept k)
  where
    by_test : (b : Bool) → (k == n) ≡ b → is_some (if b then Some (kind_of (captured_as e.1)) else kinds_kept (n + 1) kept k) ≡ true
        → (is_some (kinds_kept (n + 1) kept k) ≡ true → (n + 1 ≤ k) × (k < (n + 1) + length kept)) → (n ≤ k) × (k < n + suc (length kept))
    by_test true is some later = let same = eqb-true k n is in (omega (arith, same), omega (arith, same))
    by_test false is some later = let found = later some in (omega (arith, found), omega (arith, found))

pub kept_named : (n : ℕ) (kept : Named Ground) → AllFlat kept → (x : Label) (t : Ground) → named x kept ≡ Some t
    → (k : ℕ) × (named x (numbered n (names_of kept)) ≡ Some k) × (n ≤ k) × (k < n + length kept) × (kinds_kept n kept k ≡ Some (kind_of_type t))
kept_named n [] flat x t is = let wrong : None ≡ Some t = is in absurd cc
kept_named n (e ∷ kept) flat x t is = by_test (bytes_eq e.0 x) is (kept_named (n + 1) kept flat.1 x t)
  where
    by_test : (b : Bool) → (if b then Some e.1 else named x kept) ≡ Some t
        → (named x kept ≡ Some t → (k : ℕ) × (named x (numbered (n + 1) (names_of kept)) ≡ Some k) × (n + 1 ≤ k) × (k < (n + 1) + length kept) × (kinds_kept (n + 1) kept k ≡ Some (kind_of_type t)))
        → (k : ℕ) × ((if b then Some n else named x (numbered (n + 1) (names_of kept))) ≡ Some k) × (n ≤ k) × (k < n + suc (length kept)) × (kinds_kept n (e ∷ kept) k ≡ Some (kind_of_type t))
    by_test true is later =
        let same : e.1 ≡ t = cc in
        (n, refl, omega arith, omega arith, bind-here n (Some (kind_of (captured_as e.1))) (kinds_kept (n + 1) kept) ∙ ap Some ((captured_kind e.1 flat.0).0 ∙ ap kind_of_type same))
    by_test false is later =
        let found = later is in
        let from : n + 1 ≤ found.0 = found.2 in
        let below : found.0 < (n + 1) + length kept = found.3 in
        (found.0, found.1, omega (arith, from), omega (arith, below), bind-other n found.0 (Some (kind_of (captured_as e.1))) (kinds_kept (n + 1) kept) (λ e. absurd (omega (arith, e, from))) ∙ found.4)
