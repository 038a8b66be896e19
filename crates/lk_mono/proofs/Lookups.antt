-- Places that are looked up in maps: of instances by a name and the number of a type, of functions by a name.
use Rattle.std.proofs.Common.{◌≡◌, ℕ, suc, ◌+◌, ◌-◌, ◌<◌, ◌≤◌, Bool, true, false, ◌&&◌, ◌==◌, not, cond, List, [], ◌∷◌, ◌++◌, get_or, length, take, Option, Some, None, Bor, find, bytes_eq, refl, sym, ap, ap₂, ◌∙◌}
use native.Mathlib.Omega.{arith}
use Rattle.std.proofs.Math.Seq.{take-suc}
use Rattle.std.proofs.lemmas.Bool.{eqb-true, false≢true, and_parts}
use Rattle.std.proofs.lemmas.Bool.Decides.{nat_tests}
use Rattle.std.proofs.lemmas.Map.Text.{btree_map_updates_str, is_eq-slice_cmp}
use Rattle.std.proofs.lemmas.Option.{cond_some, slice_get_read}
use Rattle.std.specs.BTreeMap.{BTreeMap, Updates, UpdatesBy, get_by, is_at}
use Rattle.std.specs.Cmp.{unsigned_tied}
use Rattle.std.specs.Cmp.Lexicographic.{bytes_decides, slice_cmp}
use Rattle.std.specs.List.{position, position_or_len}
use Rattle.std.specs.Option.{is_some, option_map, option_or}
use Rattle.std.specs.Ordering.{is_eq, nat_cmp, ordering_then}
use Rattle.std.specs.declared.cmp.Ordering.{Ordering}
use Rattle.std.specs.declared.cmp.Ordering.TheVariants.{Less, Equal, Greater}
use Rattle.std.specs.Prelude.{nat_lt}
use Rattle.lk_mono.specs.Places.{FindsUses, Key, is_member, is_use, key_order, member_there}
use Rattle.lk_mono.specs.declared.member.Member.{Member}
use Rattle.lk_mono.specs.declared.queue.Use.{Use}
use Rattle.lk_types.specs.Rows.{Label}

-- ---- the first place at which a test passes

counted : (b : Bool) (k : ℕ) → cond b (Some (1 + k)) None ≡ option_map (λ n. 1 + n) (cond b (Some k) None)
counted true k = refl
counted false k = refl

one_behind : (b : Bool) (k n m : ℕ) → m ≡ suc n
    → cond (nat_lt (cond (not b) (1 + k) 0) m) (Some (cond (not b) (1 + k) 0)) None ≡ cond b (Some 0) (option_map (λ i. 1 + i) (cond (nat_lt k n) (Some k) None))
one_behind true k n m is = let there : nat_lt 0 m ≡ true = grind (arith, nat_tests, is) in ap (λ c. cond c (Some 0) None) there
one_behind false k n m is = let same : nat_lt (1 + k) m ≡ nat_lt k n = grind (arith, nat_tests, is) in ap (λ c. cond c (Some (1 + k)) None) same ∙ counted (nat_lt k n) k

pushed_behind : (b c : Bool) (o : Option ℕ) (n m : ℕ) → m ≡ suc n
    → cond b (Some 0) (option_map (λ i. 1 + i) (option_or o (cond c (Some n) None))) ≡ option_or (cond b (Some 0) (option_map (λ i. 1 + i) o)) (cond c (Some m) None)
pushed_behind true c o n m is = refl
pushed_behind false c (Some k) n m is = refl
pushed_behind false true None n m is = ap Some (omega (arith, is))
pushed_behind false false None n m is = refl

module _ {X : Type 0} (p : X → Bool) where
  pub position-cons : (x : X) (xs : List X) → position p (x ∷ xs) ≡ cond (p x) (Some 0) (option_map (λ i. 1 + i) (position p xs))
  position-cons x xs = one_behind (p x) (position_or_len p xs) (length xs) (length (x ∷ xs)) refl

  position-push : (xs : List X) (x : X) → position p (xs ++ x ∷ []) ≡ option_or (position p xs) (cond (p x) (Some (length xs)) None)
  position-push [] x = position-cons x []
  position-push (y ∷ ys) x =
      position-cons y (ys ++ x ∷ [])
      ∙ ap (λ o. cond (p y) (Some 0) (option_map (λ i. 1 + i) o)) (position-push ys x)
      ∙ pushed_behind (p y) (p x) (position p ys) (length ys) (length (y ∷ ys)) refl
      ∙ ap (λ o. option_or o (cond (p x) (Some (length (y ∷ ys))) None)) (sym (position-cons y ys))

  pub position-within : (xs : List X) (n : ℕ) → position p xs ≡ Some n → n < length xs
  position-within xs n is =
      let (test, same) = cond_some (nat_lt (position_or_len p xs) (length xs)) (position_or_len p xs) n is in
      let within : position_or_len p xs < length xs = grind (arith, nat_tests, test) in
      omega (arith, within, same)

pub none_from_is_some : {A : Type 0} (o : Option A) → is_some o ≡ false → o ≡ None
none_from_is_some None is = refl
none_from_is_some (Some a) is = absurd (false≢true (sym is))

-- ---- instances

both_equal : (o p : Ordering) → is_eq (ordering_then o p) ≡ (is_eq o && is_eq p)
both_equal Less p = refl
both_equal Equal p = refl
both_equal Greater p = refl

-- an instance is what its key is looked up for
is_at_use : (key q : Key) (u : Use) → key.0.now ≡ u.name.now → key.1 ≡ u.number → is_at (key_order key) q ≡ is_use q.0.now q.1 u
is_at_use key q u named numbered =
    both_equal (slice_cmp nat_cmp key.0.now q.0.now) (nat_cmp key.1 q.1)
    ∙ ap₂ (λ b c. b && c) (is_eq-slice_cmp key.0.now q.0.now ∙ ap (λ n. bytes_eq n q.0.now) named) (unsigned_tied key.1 q.1 ∙ ap (λ n. n == q.1) numbered)

-- no other key is looked up for it
pub same_key : (name : Label) (number : ℕ) (u : Use) → is_use name number u ≡ true → (name ≡ u.name.now) × (number ≡ u.number)
same_key name number u is =
    let both = and_parts (bytes_eq u.name.now name) (u.number == number) is in
    (sym ((bytes_decides u.name.now name).0 both.0), sym (eqb-true u.number number both.1))

nothing_else : {A : Type 0} (o : Option A) → o ≡ option_or o None
nothing_else None = refl
nothing_else (Some a) = refl

-- the place of an instance that wasn't there goes into the map
pub one_more : (old new : BTreeMap Key ℕ) (uses : List Use) (u : Use) (key : Key) → key.0.now ≡ u.name.now → key.1 ≡ u.number → position (is_use u.name.now u.number) uses ≡ None
    → FindsUses old uses → Updates key_order old new key (Some (length uses)) → FindsUses new (uses ++ u ∷ [])
one_more old new uses u key named numbered lacking finds updates q =
    updates.0 q
    ∙ ap₂ (λ b had. cond b (Some (length uses)) had) (is_at_use key q u named numbered) (finds q)
    ∙ by_test (is_use q.0.now q.1 u) refl
    ∙ sym (position-push (is_use q.0.now q.1) uses u)
  where
    by_test : (b : Bool) → is_use q.0.now q.1 u ≡ b → cond b (Some (length uses)) (position (is_use q.0.now q.1) uses) ≡ option_or (position (is_use q.0.now q.1) uses) (cond b (Some (length uses)) None)
    by_test true is =
        let (name, number) = same_key q.0.now q.1 u is in
        let none : position (is_use q.0.now q.1) uses ≡ None = ap₂ (λ n k. position (is_use n k) uses) name number ∙ lacking in
        sym (ap (λ o. option_or o (Some (length uses))) none)
    by_test false is = nothing_else (position (is_use q.0.now q.1) uses)

-- ---- functions

-- the first function of a name among those that aren't in the map yet, or else what the map has
abbrev pub found_or : List Member → List Member → BTreeMap (Bor Label) ℕ → Label → Option Member
found_or left members places name = option_or (find (is_member name) left) (member_there members (get_by (λ k. slice_cmp nat_cmp name k.now) places))

last_found : (name : Label) (left : List Member) (m : Member) (found : Option Member) → option_or (find (is_member name) left) (cond (is_member name m) (Some m) found) ≡ option_or (find (is_member name) (left ++ m ∷ [])) found
last_found name [] m found = elim (is_member name m) as (λ b. cond b (Some m) found ≡ option_or (cond b (Some m) None) found) [ true ↦ refl | false ↦ refl ]
last_found name (first ∷ left) m found = elim (is_member name first) as (λ b. option_or (cond b (Some first) (find (is_member name) left)) (cond (is_member name m) (Some m) found) ≡ option_or (cond b (Some first) (find (is_member name) (left ++ m ∷ []))) found) [ true ↦ refl | false ↦ last_found name left m found ]

there_cond : (members : List Member) (b : Bool) (place : ℕ) (m : Member) (had : Option ℕ) → member_there members (Some place) ≡ Some m → member_there members (cond b (Some place) had) ≡ cond b (Some m) (member_there members had)
there_cond members true place m had is = is
there_cond members false place m had is = refl

-- the place of the last one goes into the map
pub place_put : (members : List Member) (count : ℕ) (m : Member) (key : Label) (old new : BTreeMap (Bor Label) ℕ)
    → 0 < count → count ≤ length members → m ≡ get_or members (count - 1) m → key ≡ m.function.now.name.text → UpdatesBy (λ j k. slice_cmp nat_cmp j.now k.now) (λ k. slice_cmp nat_cmp key k.now) old new (Some (count - 1))
    → (name : Label) → found_or (take (count - 1) members) members new name ≡ found_or (take count members) members old name
place_put members count m key old new some within is named updates name =
    let one_more : count ≡ suc (count - 1) = omega (arith, some) in
    let below : count - 1 < length members = omega (arith, some, within) in
    let left : List Member = take (count - 1) members in
    let had : Option ℕ = get_by (λ k. slice_cmp nat_cmp name k.now) old in
    let there : member_there members (Some (count - 1)) ≡ Some m = slice_get_read members (length members) (count - 1) m refl below is in
    let whole : take count members ≡ left ++ m ∷ [] = ap (λ n. take n members) one_more ∙ take-suc members (count - 1) m below ∙ ap (λ d. left ++ d ∷ []) (sym is) in
    ap (λ place. option_or (find (is_member name) left) (member_there members place)) (btree_map_updates_str key old new (Some (count - 1)) updates name ∙ ap (λ k. cond (bytes_eq k name) (Some (count - 1)) had) named)
    ∙ ap (option_or (find (is_member name) left)) (there_cond members (is_member name m) (count - 1) m had there)
    ∙ last_found name left m (member_there members had)
    ∙ ap (λ ms. option_or (find (is_member name) ms) (member_there members had)) (sym whole)
