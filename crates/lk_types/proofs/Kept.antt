-- The levels at some places, with each those of its parts, make the same types there.
use Rattle.std.proofs.Common.{arith, drop, get_or, min, ◌-◌, take, ◌≡◌, ◌⊎◌, inl, inr, ℕ, zero, suc, ◌<◌, ◌≤◌, true, false, List, [], ◌∷◌, length, map, nat_eq, refl, sym, ap, subst, ◌∙◌, Some, option_map}
use Rattle.std.proofs.lemmas.Bool.Decides.{nat_tests}
use Rattle.std.proofs.lemmas.List.{drop_all, drop-map, get_or_read, length-drop, length-map, take_all, take-map}
use Rattle.std.proofs.lemmas.List.Elements.{Contains-get_or}
use Rattle.std.proofs.lemmas.List.Sorted.{searched}
use Rattle.std.proofs.lemmas.List.Sums.{position_or_len_is}
use Rattle.std.proofs.lemmas.Map.Lookups.{exact_unsigned}
use Rattle.std.proofs.lemmas.Option.{slice_get-get_or, slice_get-map, slice_get_within}
use Rattle.std.specs.List.{Contains}
use Rattle.std.specs.List.Sorted.{IsBinarySearchResult}
use Rattle.std.specs.Ordering.{nat_cmp}
use Rattle.std.specs.Prelude.{slice_get}
use Rattle.std.specs.Result.{MatchResult}
use Rattle.std.specs.declared.cmp.Ordering.TheVariants.{Equal}
use Rattle.std.specs.declared.result.Result.{Result}
use Rattle.std.specs.declared.result.Result.TheVariants.{Err}
use Rattle.lk_types.proofs.Built.{built_is}
use Rattle.lk_types.proofs.Members.{each_in, each_of_in}
use Rattle.lk_types.proofs.Renumbered.{made_alike, parts_renumbered, places_alike}
use Rattle.lk_types.specs.Each.{Each, OneOf}
use Rattle.lk_types.specs.Levels.{at, built, level_renumbered, parts_of, types_at, AreBelow, IsBelow, IsTable, Stands, part, root}
use Rattle.lk_types.specs.OneTypes.{IsThin}
use Rattle.lk_types.specs.Places.{kept, level_at, number_in, ArePlaces, AreRising}
use Rattle.lk_types.specs.declared.levels.Level.{Level}
use Rattle.lk_types.specs.declared.levels.Level.TheVariants as level
use Rattle.lk_types.specs.declared.ty.Ty.{Ty}

-- ---- numbers among places that rise

pub number_at : (places : List ℕ) → AreRising places → (k : ℕ) → k < length places → number_in places (get_or places k 0) ≡ k
number_at places rising k less = position_or_len_is (λ q. nat_eq q (get_or places k 0)) places k 0 (omega arith) (λ j lower. other (get_or places j 0) (get_or places k 0) (rising j k lower less)) (λ below. same (get_or places k 0))
  where
    other : (m n : ℕ) → m < n → nat_eq m n ≡ false
    other m n less = grind (arith, nat_tests)

    same : (n : ℕ) → nat_eq n n ≡ true
    same n = grind (arith, nat_tests)

order_of : (m n : ℕ) → (m < n) ⊎ ((m ≡ n) ⊎ (n < m))
order_of zero zero = inr (inl refl)
order_of zero (suc n) = inl (omega arith)
order_of (suc m) zero = inr (inr (omega arith))
order_of (suc m) (suc n) = further (order_of m n)
  where
    further : (m < n) ⊎ ((m ≡ n) ⊎ (n < m)) → (suc m < suc n) ⊎ ((suc m ≡ suc n) ⊎ (suc n < suc m))
    further (inl less) = inl (omega arith)
    further (inr (inl same)) = inr (inl (ap suc same))
    further (inr (inr more)) = inr (inr (omega arith))

-- what a search among places that rise answers
module _ (places given : List ℕ) (p : ℕ) (rising : AreRising places) (same : given ≡ places) where
  pub number_searched : (n : ℕ) → n < length given → nat_cmp (get_or given n 0) p ≡ Equal → n ≡ number_in places p
  number_searched n less is =
      sym (number_at places rising n (subst (λ qs. n < length qs) same less))
      ∙ ap (number_in places) (sym (ap (λ qs. get_or qs n 0) same) ∙ exact_unsigned (get_or given n 0) p is)

  pub none_searched : (r : Result ℕ ℕ) (i count : ℕ) → IsBinarySearchResult (λ q. nat_cmp q p) given r → r ≡ Err i → count ≡ length given → count ≡ number_in places p
  none_searched r i count answer is all =
      let split = subst (λ a. MatchResult a (λ j. (j < length given) × (get_or given j 0 ≡ p)) (λ j. (j ≤ length given) × ((k : ℕ) → k < j → get_or given k 0 < p) × ((k : ℕ) → j ≤ k → k < length given → p < get_or given k 0))) is (searched given p r answer upwards) in
      all ∙ sym (ap (λ qs. number_in qs p) (sym same) ∙ position_or_len_is (λ q. nat_eq q p) given (length given) 0 (omega arith) (λ k less. other k (side i k) split less) (λ below. absurd (not_below (length given) below)))
    where
      upwards : (j k : ℕ) → j ≤ k → k < length given → get_or given j 0 ≤ get_or given k 0
      upwards j k up less = by (order_of j k)
        where
          by : (j < k) ⊎ ((j ≡ k) ⊎ (k < j)) → get_or given j 0 ≤ get_or given k 0
          by (inl lower) = weaker (subst (λ qs. (m n : ℕ) → m < n → n < length qs → get_or qs m 0 < get_or qs n 0) (sym same) rising j k lower less)
            where
              weaker : {m n : ℕ} → m < n → m ≤ n
              weaker smaller = omega arith
          by (inr (inl equal)) = at_most (ap (λ n. get_or given n 0) equal)
            where
              at_most : {m n : ℕ} → m ≡ n → m ≤ n
              at_most both = omega arith
          by (inr (inr higher)) = absurd (omega arith)

      side : (m n : ℕ) → (n < m) ⊎ (m ≤ n)
      side m n = of_order (order_of n m)
        where
          of_order : (n < m) ⊎ ((n ≡ m) ⊎ (m < n)) → (n < m) ⊎ (m ≤ n)
          of_order (inl less) = inl less
          of_order (inr (inl equal)) = inr (omega arith)
          of_order (inr (inr more)) = inr (omega arith)

      other : (k : ℕ) → (k < i) ⊎ (i ≤ k) → (i ≤ length given) × ((k : ℕ) → k < i → get_or given k 0 < p) × ((k : ℕ) → i ≤ k → k < length given → p < get_or given k 0) → k < length given → nat_eq (get_or given k 0) p ≡ false
      other k (inl before) split less = lower (get_or given k 0) (split.1 k before)
        where
          lower : (m : ℕ) → m < p → nat_eq m p ≡ false
          lower m smaller = grind (arith, nat_tests)
      other k (inr behind) split less = higher (get_or given k 0) (split.2 k behind less)
        where
          higher : (m : ℕ) → p < m → nat_eq m p ≡ false
          higher m larger = grind (arith, nat_tests)

      not_below : (n : ℕ) → n < n → ⊥
      not_below n less = omega arith

module _ (places : List ℕ) (rising : AreRising places) where
  number_is : (p : ℕ) (has : Contains places p) → number_in places p ≡ has.0
  number_is p has = ap (number_in places) (get_or_read places has.0 p has.1 (sym has.2) 0) ∙ number_at places rising has.0 has.1

  pub number_within : (p : ℕ) → Contains places p → number_in places p < length places
  number_within p has = subst (λ n. n < length places) (sym (number_is p has)) has.1

  pub number_found : (p : ℕ) → Contains places p → get_or places (number_in places p) 0 ≡ p
  number_found p has = ap (λ n. get_or places n 0) (number_is p has) ∙ sym (get_or_read places has.0 p has.1 (sym has.2) 0)

  -- a lower place has a lower number
  pub number_lower : (p q : ℕ) → Contains places p → Contains places q → q < p → number_in places q < number_in places p
  number_lower p q has here less = by (order_of (number_in places q) (number_in places p))
    where
      by : (number_in places q < number_in places p) ⊎ ((number_in places q ≡ number_in places p) ⊎ (number_in places p < number_in places q)) → number_in places q < number_in places p
      by (inl lower) = lower
      by (inr (inl same)) = absurd (equal (sym (number_found q here) ∙ ap (λ n. get_or places n 0) same ∙ number_found p has))
        where
          equal : q ≡ p → ⊥
          equal is = omega arith
      by (inr (inr higher)) = absurd (above (number_found p has) (number_found q here) (rising (number_in places p) (number_in places q) higher (number_within q here)))
        where
          above : {a b : ℕ} → a ≡ p → b ≡ q → a < b → ⊥
          above is same more = omega arith

each_contained : {P : ℕ → Type 0} (ns : List ℕ) → ((n : ℕ) → Contains ns n → P n) → Each P ns
each_contained [] holds = tt
each_contained (n ∷ ns) holds = (holds n (0, first (length ns), refl), each_contained ns (λ m has. holds m (suc has.0, omega arith, has.2)))
  where
    first : (k : ℕ) → 0 < suc k
    first k = omega arith

-- ---- levels at places

-- places of levels, with each those of its parts
pub record AreClosed (levels : List Level) (places : List ℕ) : Type 0 where
  pub rising : AreRising places
  pub within : Each (λ p. p < length levels) places
  pub parts : (p : ℕ) → Contains places p → Each (Contains places) (parts_of (level_at levels p))

each_by_two : {A : Type 0} {P Q R : A → Type 0} → ((x : A) → P x → Q x → R x) → (xs : List A) → Each P xs → Each Q xs → Each R xs
each_by_two f [] all others = all
each_by_two f (x ∷ xs) all others = (f x all.0 others.0, each_by_two f xs all.1 others.1)

each_of : {A B : Type 0} (P : B → Type 0) (f : A → B) (xs : List A) → Each (λ x. P (f x)) xs → Each P (map f xs)
each_of P f [] all = all
each_of P f (x ∷ xs) all = (all.0, each_of P f xs all.1)

pub each_has : (P : ℕ → Type 0) (ns : List ℕ) (n : ℕ) → Each P ns → Contains ns n → P n
each_has P [] n all has = absurd (none has.0 has.1)
  where
    none : (k : ℕ) → k < 0 → ⊥
    none k less = omega arith
each_has P (m ∷ ns) n all (zero, less, is) = subst P is all.0
each_has P (m ∷ ns) n all (suc k, less, is) = each_has P ns n all.1 (k, omega arith, is)

one_to_map : (f : ℕ → ℕ) (ns : List ℕ) (n : ℕ) → OneOf (λ m. m ≡ n) ns → OneOf (λ m. m ≡ f n) (map f ns)
one_to_map f [] n one = absurd one
one_to_map f (m ∷ ns) n (inl is) = inl (ap f is)
one_to_map f (m ∷ ns) n (inr later) = inr (one_to_map f ns n later)

module _ (levels : List Level) (places : List ℕ) (below : AreBelow levels) (closed : AreClosed levels places) where
  abbrev number : ℕ → ℕ
  number = number_in places

  abbrev moved : ℕ → Level
  moved p = level_renumbered number (level_at levels p)

  own : (p : ℕ) → Contains places p → slice_get levels p ≡ Some (level_at levels p)
  own p has = slice_get-get_or levels p level.Int (each_has (λ q. q < length levels) places p closed.within has)

  pub kept_there : (p : ℕ) → Contains places p → slice_get (kept levels places) (number p) ≡ Some (moved p)
  kept_there p has =
      slice_get-map moved places (number p)
      ∙ ap (option_map moved) (slice_get-get_or places (number p) 0 (number_within places closed.rising p has))
      ∙ ap (λ q. Some (moved q)) (number_found places closed.rising p has)

  lower_parts : (p : ℕ) → Contains places p → IsBelow (number p) (moved p)
  lower_parts p has =
      subst (Each (λ n. n < number p)) (sym (parts_renumbered number (level_at levels p)))
      (each_of (λ n. n < number p) number (parts_of (level_at levels p)) (each_by_two (λ q here less. number_lower places closed.rising p q has here less) (parts_of (level_at levels p)) (closed.parts p has) (below p (level_at levels p) (own p has))))

  pub kept_below : AreBelow (kept levels places)
  kept_below k l is =
      let less : k < length places = within k (length-map places moved) (slice_get_within (kept levels places) k l is) in
      let p = get_or places k 0 in
      let has = Contains-get_or places k 0 less in
      let stands : number p ≡ k = number_at places closed.rising k less in
      let same : moved p ≡ l = some_is (sym (kept_there p has) ∙ ap (slice_get (kept levels places)) stands ∙ is) in
      subst (λ n. IsBelow n l) stands (subst (IsBelow (number p)) same (lower_parts p has))
    where
      within : {n : ℕ} (k : ℕ) → n ≡ length places → k < n → k < length places
      within k same less = omega arith

      some_is : {a b : Level} → Some a ≡ Some b → a ≡ b
      some_is same = cc

  kept_to : (m p : ℕ) → p < m → Contains places p → at (built (kept levels places)) (number p) ≡ at (built levels) p
  kept_to zero p less has = absurd (none p less)
    where
      none : (p : ℕ) → p < 0 → ⊥
      none p less = omega arith
  kept_to (suc m) p less has =
      (built_is (kept levels places) kept_below).each (number p) (moved p) (kept_there p has)
      ∙ made_alike number (built (kept levels places)) (built levels) (level_at levels p) (each_by_two (λ q here lower. kept_to m q (smaller q lower) here) (parts_of (level_at levels p)) (closed.parts p has) (below p (level_at levels p) (own p has)))
      ∙ sym ((built_is levels below).each p (level_at levels p) (own p has))
    where
      smaller : (q : ℕ) → q < p → q < m
      smaller q lower = omega arith

  kept_type : (p : ℕ) → Contains places p → at (built (kept levels places)) (number p) ≡ at (built levels) p
  kept_type p has = kept_to (suc p) p (next p) has
    where
      next : (n : ℕ) → n < suc n
      next n = omega arith

  module _ (roots : List ℕ) (stand : Each (Contains places) roots) where
    pub kept_types : types_at (kept levels places) (map number roots) ≡ types_at levels roots
    kept_types = places_alike number (built (kept levels places)) (built levels) roots (each_by_two (λ p has also. kept_type p has) roots stand stand)

    pub kept_roots : Each (λ n. n < length (kept levels places)) (map number roots)
    kept_roots = each_of (λ n. n < length (kept levels places)) number roots (each_by_two (λ p has also. wider (number p) (length-map places moved) (number_within places closed.rising p has)) roots stand stand)
      where
        wider : {n : ℕ} (k : ℕ) → n ≡ length places → k < length places → k < n
        wider k same less = omega arith

-- ---- the levels that stand in some of the types

module _ (levels : List Level) (roots : List ℕ) (table : IsTable levels roots) where
  pub stands_within : (n : ℕ) → Stands levels roots n → n < length levels
  stands_within n (root one) = each_in (λ r. r < length levels) roots n one table.roots_below
  stands_within n (part {k = k} {l = l} stands is one) = lower (each_in (λ p. p < k) (parts_of l) n one (table.below k l is)) (slice_get_within levels k l is)
    where
      lower : n < k → k < length levels → n < length levels
      lower less within = omega arith

  module _ (places : List ℕ) (are : ArePlaces levels roots places) where
    pub places_within : Each (λ p. p < length levels) places
    places_within = each_contained places (λ p has. stands_within p (are.sound p has))

    closed : AreClosed levels places
    closed = record {
      rising = are.rising;
      within = places_within;
      parts = λ p has. each_of_in (Contains places) (parts_of (level_at levels p)) (λ q one. are.whole q (part (are.sound p has) (slice_get-get_or levels p level.Int (stands_within p (are.sound p has))) one));
    }

    has_roots : Each (Contains places) roots
    has_roots = each_of_in (Contains places) roots (λ r one. are.whole r (root one))

    pub kept_table : IsTable (kept levels places) (map (number_in places) roots)
    kept_table = record { below = kept_below levels places table.below closed; roots_below = kept_roots levels places table.below closed roots has_roots }

    pub types_kept : types_at (kept levels places) (map (number_in places) roots) ≡ types_at levels roots
    types_kept = kept_types levels places table.below closed roots has_roots

    some_is : {a b : Level} → Some a ≡ Some b → a ≡ b
    some_is same = cc

    -- what stands in the types stands there still
    kept_stands : (n : ℕ) → Stands levels roots n → Stands (kept levels places) (map (number_in places) roots) (number_in places n)
    kept_stands n (root one) = root (one_to_map (number_in places) roots n one)
    kept_stands n (part {k = k} {l = l} stands is one) =
        let own = slice_get-get_or levels k level.Int (stands_within k stands) in
        let same : l ≡ level_at levels k = some_is (sym is ∙ own) in
        part (kept_stands k stands) (kept_there levels places table.below closed k (are.whole k stands))
        (subst (λ ps. OneOf (λ p. p ≡ number_in places n) ps) (sym (parts_renumbered (number_in places) (level_at levels k)))
        (one_to_map (number_in places) (parts_of (level_at levels k)) n (subst (λ x. OneOf (λ p. p ≡ n) (parts_of x)) same one)))

    -- and nothing else is there
    pub kept_stand : (n : ℕ) → n < length (kept levels places) → Stands (kept levels places) (map (number_in places) roots) n
    kept_stand n less =
        let within : n < length places = shorter (length-map places (λ p. level_renumbered (number_in places) (level_at levels p))) less in
        let p = get_or places n 0 in
        subst (Stands (kept levels places) (map (number_in places) roots)) (number_at places are.rising n within) (kept_stands p (are.sound p (Contains-get_or places n 0 within)))
      where
        shorter : {m : ℕ} → m ≡ length places → n < m → n < length places
        shorter same below = omega arith

-- ---- the levels of one type

module _ (levels kept_copy : List Level) (r number : ℕ) (roots places : List ℕ) (table : IsTable levels (r ∷ [])) (is : roots ≡ r ∷ []) (are : ArePlaces levels roots places) (copied : kept_copy ≡ kept levels places)
    (numbered : number ≡ number_in places r) where
  are_places : ArePlaces levels (r ∷ []) places
  are_places = subst (λ rs. ArePlaces levels rs places) is are

  pub one_thin : IsThin kept_copy number
  one_thin = subst (IsThin kept_copy) (sym numbered) (subst (λ ls. IsThin ls (number_in places r)) (sym copied) (record {
    table = kept_table levels (r ∷ []) table places are_places;
    stands = kept_stand levels (r ∷ []) table places are_places;
  }))

  one_is : {a b : Ty} → a ∷ [] ≡ b ∷ [] → a ≡ b
  one_is same = cc

  pub one_type : at (built kept_copy) number ≡ at (built levels) r
  one_type = ap (λ ls. at (built ls) number) copied ∙ ap (at (built (kept levels places))) numbered ∙ one_is (types_kept levels (r ∷ []) table places are_places)

-- ---- some of the roots

each_dropped : (m k : ℕ) (ns : List ℕ) → Each (λ n. n < m) ns → Each (λ n. n < m) (drop k ns)
each_dropped m zero ns all = all
each_dropped m (suc k) [] all = all
each_dropped m (suc k) (n ∷ ns) all = each_dropped m k ns all.1

each_taken : (m k : ℕ) (ns : List ℕ) → Each (λ n. n < m) ns → Each (λ n. n < m) (take k ns)
each_taken m zero ns all = tt
each_taken m (suc k) [] all = all
each_taken m (suc k) (n ∷ ns) all = (all.0, each_taken m k ns all.1)

some_table : (levels : List Level) (roots : List ℕ) (from count : ℕ) → IsTable levels roots → IsTable levels (take count (drop from roots))
some_table levels roots from count table = record {
  below = table.below;
  roots_below = each_taken (length levels) count (drop from roots) (each_dropped (length levels) from roots table.roots_below);
}

some_types : (levels : List Level) (roots : List ℕ) (from count : ℕ) → types_at levels (take count (drop from roots)) ≡ take count (drop from (types_at levels roots))
some_types levels roots from count = sym (ap (take count) (drop-map (at (built levels)) from roots) ∙ take-map (at (built levels)) count (drop from roots))

-- ---- what is copied of a table

module _ (levels kept_copy : List Level) (roots places moved : List ℕ) (table : IsTable levels roots) (are : ArePlaces levels roots places) (copied : kept_copy ≡ kept levels places) (numbered : moved ≡ map (number_in places) roots) where
  pub copied_table : IsTable kept_copy moved
  copied_table = subst (IsTable kept_copy) (sym numbered) (subst (λ ls. IsTable ls (map (number_in places) roots)) (sym copied) (kept_table levels roots table places are))

  pub copied_types : types_at kept_copy moved ≡ types_at levels roots
  copied_types = ap (types_at kept_copy) numbered ∙ ap (λ ls. types_at ls (map (number_in places) roots)) copied ∙ types_kept levels roots table places are

-- some of the roots, as they were read
module _ (levels read : List Level) (roots given places : List ℕ) (from count : ℕ) (all : read ≡ levels) (there : given ≡ roots) (taken : places ≡ take count (drop from given)) where
  places_are : places ≡ take count (drop from roots)
  places_are = taken ∙ ap (λ ns. take count (drop from ns)) there

  pub part_table : IsTable levels roots → IsTable read places
  part_table table = subst (IsTable read) (sym places_are) (subst (λ ls. IsTable ls (take count (drop from roots))) (sym all) (some_table levels roots from count table))

  pub part_types : types_at read places ≡ take count (drop from (types_at levels roots))
  part_types = ap (types_at read) places_are ∙ ap (λ ls. types_at ls (take count (drop from roots))) all ∙ some_types levels roots from count

-- ---- numbers cut out of others

least : (n m : ℕ) → (min n m ≡ n) ⊎ ((min n m ≡ m) × (m ≤ n))
least n m = by (order_of n m)
  where
    by : (n < m) ⊎ ((n ≡ m) ⊎ (m < n)) → (min n m ≡ n) ⊎ ((min n m ≡ m) × (m ≤ n))
    by (inl less) = inl (omega arith)
    by (inr (inl same)) = inl (omega arith)
    by (inr (inr more)) = inr (omega arith, omega arith)

drop_least : (n : ℕ) (ns : List ℕ) → drop (min n (length ns)) ns ≡ drop n ns
drop_least n ns = by (least n (length ns))
  where
    by : (min n (length ns) ≡ n) ⊎ ((min n (length ns) ≡ length ns) × (length ns ≤ n)) → drop (min n (length ns)) ns ≡ drop n ns
    by (inl is) = ap (λ k. drop k ns) is
    by (inr (is, long)) = ap (λ k. drop k ns) is ∙ drop_all (length ns) ns (same (length ns)) ∙ sym (drop_all n ns long)
      where
        same : (k : ℕ) → k ≤ k
        same k = omega arith

take_least : (n : ℕ) (ns : List ℕ) → take (min n (length ns)) ns ≡ take n ns
take_least n ns = by (least n (length ns))
  where
    by : (min n (length ns) ≡ n) ⊎ ((min n (length ns) ≡ length ns) × (length ns ≤ n)) → take (min n (length ns)) ns ≡ take n ns
    by (inl is) = ap (λ k. take k ns) is
    by (inr (is, long)) = ap (λ k. take k ns) is ∙ take_all (length ns) ns (same (length ns)) ∙ sym (take_all n ns long)
      where
        same : (k : ℕ) → k ≤ k
        same k = omega arith

pub cut_out : (ns : List ℕ) (from count start long : ℕ) → start ≡ min from (length ns) → long ≡ min count (length (take (length ns - start) (drop start ns))) → take long (take (length ns - start) (drop start ns)) ≡ take count (drop from ns)
cut_out ns from count start long begins ends =
    ap (λ k. take k (take (length ns - start) (drop start ns))) ends
    ∙ take_least count (take (length ns - start) (drop start ns))
    ∙ ap (take count) (take_all (length ns - start) (drop start ns) (short (length-drop start ns)) ∙ ap (λ k. drop k ns) begins ∙ drop_least from ns)
  where
    short : {k m : ℕ} → k ≡ m → k ≤ m
    short same = omega arith
