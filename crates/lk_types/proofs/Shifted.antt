-- Levels moved up behind others make the same types there.
use Rattle.std.proofs.Common.{arith, get_or, ◌≡◌, ◌⊎◌, inl, inr, ℕ, zero, suc, ◌+◌, ◌<◌, List, [], ◌∷◌, ◌++◌, length, map, refl, sym, ap, subst, ◌∙◌, Some, option_map}
use Rattle.std.proofs.lemmas.List.{length-append, length-map, map-append}
use Rattle.std.proofs.lemmas.Option.{slice_get-get_or, slice_get-map, slice_get_within}
use Rattle.std.specs.Prelude.{slice_get}
use Rattle.lk_types.proofs.Built.{built_front, built_is, each_map}
use Rattle.lk_types.proofs.Renumbered.{made_alike, parts_renumbered, places_alike}
use Rattle.lk_types.specs.Each.{Each}
use Rattle.lk_types.specs.Levels.{at, built, level_moved, parts_of, types_at, AreBelow, IsBelow, IsTable}
use Rattle.lk_types.specs.declared.levels.Level.{Level}
use Rattle.lk_types.specs.declared.levels.Level.TheVariants as level

none_below : (n : ℕ) → n < 0 → ⊥
none_below n less = omega arith

-- ---- what stands in front, and what behind

pub slice_front : (xs ys : List Level) (k : ℕ) → k < length xs → slice_get (xs ++ ys) k ≡ slice_get xs k
slice_front [] ys k less = absurd (none_below k less)
slice_front (x ∷ xs) ys zero less = refl
slice_front (x ∷ xs) ys (suc k) less = slice_front xs ys k (omega arith)

pub slice_behind : (xs ys : List Level) (n : ℕ) → slice_get (xs ++ ys) (length xs + n) ≡ slice_get ys n
slice_behind [] ys n = ap (slice_get ys) (none_more n)
  where
    none_more : (n : ℕ) → 0 + n ≡ n
    none_more n = omega arith
slice_behind (x ∷ xs) ys n = ap (slice_get (x ∷ (xs ++ ys))) (one_more (length xs) n) ∙ slice_behind xs ys n
  where
    one_more : (k n : ℕ) → suc k + n ≡ suc (k + n)
    one_more k n = omega arith

pub front_or_behind : (n k : ℕ) → (k < n) ⊎ ((m : ℕ) × (k ≡ n + m))
front_or_behind zero k = inr (k, all_of k)
  where
    all_of : (k : ℕ) → k ≡ 0 + k
    all_of k = omega arith
front_or_behind (suc n) zero = inl (some n)
  where
    some : (n : ℕ) → 0 < suc n
    some n = omega arith
front_or_behind (suc n) (suc k) = one_on (front_or_behind n k)
  where
    one_on : (k < n) ⊎ ((m : ℕ) × (k ≡ n + m)) → (suc k < suc n) ⊎ ((m : ℕ) × (suc k ≡ suc n + m))
    one_on (inl less) = inl (omega arith)
    one_on (inr (m, is)) = inr (m, omega arith)

-- ---- levels that are moved up

numbers_moved : (by n : ℕ) (ps : List ℕ) → Each (λ p. p < n) ps → Each (λ p. p < by + n) (map (λ p. by + p) ps)
numbers_moved by n [] all = all
numbers_moved by n (p ∷ ps) all = (further p all.0, numbers_moved by n ps all.1)
  where
    further : (p : ℕ) → p < n → by + p < by + n
    further p less = omega arith

-- ---- a table behind another

abbrev pub levels_both : List Level → List Level → List Level
levels_both xs ys = xs ++ map (level_moved (length xs)) ys

module _ (xs ys : List Level) (below_xs : AreBelow xs) (below_ys : AreBelow ys) where
  level_behind : (n : ℕ) (l : Level) → slice_get ys n ≡ Some l → slice_get (levels_both xs ys) (length xs + n) ≡ Some (level_moved (length xs) l)
  level_behind n l is = slice_behind xs (map (level_moved (length xs)) ys) n ∙ slice_get-map (level_moved (length xs)) ys n ∙ ap (option_map (level_moved (length xs))) is

  pub below_both : AreBelow (levels_both xs ys)
  below_both k l is = by_place (front_or_behind (length xs) k)
    where
      moved_back : (m : ℕ) → k ≡ length xs + m → (there : ℕ → m < length ys) → IsBelow k l
      moved_back m at there =
          let own = slice_get-get_or ys m level.Int (there 0) in
          let same : level_moved (length xs) (get_or ys m level.Int) ≡ l = some_is (sym (level_behind m (get_or ys m level.Int) own) ∙ ap (slice_get (levels_both xs ys)) (sym at) ∙ is) in
          subst (λ p. IsBelow p l) (sym at) (subst (IsBelow (length xs + m)) same (subst (Each (λ p. p < length xs + m)) (sym (parts_renumbered (λ p. length xs + p) (get_or ys m level.Int))) (numbers_moved (length xs) m (parts_of (get_or ys m level.Int)) (below_ys m (get_or ys m level.Int) own))))
        where
          some_is : {a b : Level} → Some a ≡ Some b → a ≡ b
          some_is same = cc

      within : (m : ℕ) → k ≡ length xs + m → m < length ys
      within m at = smaller (length-append xs (map (level_moved (length xs)) ys)) (length-map ys (level_moved (length xs))) (slice_get_within (levels_both xs ys) k l is)
        where
          smaller : {n o : ℕ} → n ≡ length xs + o → o ≡ length ys → k < n → m < length ys
          smaller sum same less = omega arith

      by_place : (k < length xs) ⊎ ((m : ℕ) × (k ≡ length xs + m)) → IsBelow k l
      by_place (inl less) = below_xs k l (sym (slice_front xs (map (level_moved (length xs)) ys) k less) ∙ is)
      by_place (inr (m, at)) = moved_back m at (λ z. within m at)

  shifted_to : (m n : ℕ) → n < m → n < length ys → at (built (levels_both xs ys)) (length xs + n) ≡ at (built ys) n
  shifted_to zero n less there = absurd (none_below n less)
  shifted_to (suc m) n less there =
      let l = get_or ys n level.Int in
      let own = slice_get-get_or ys n level.Int there in
      (built_is (levels_both xs ys) below_both).each (length xs + n) (level_moved (length xs) l) (level_behind n l own)
      ∙ made_alike (λ p. length xs + p) (built (levels_both xs ys)) (built ys) l (each_map (λ p below. shifted_to m p (first p below) (second p below)) (parts_of l) (below_ys n l own))
      ∙ sym ((built_is ys below_ys).each n l own)
    where
      first : (p : ℕ) → p < n → p < m
      first p below = omega arith

      second : (p : ℕ) → p < n → p < length ys
      second p below = omega arith

  pub shifted : (n : ℕ) → n < length ys → at (built (levels_both xs ys)) (length xs + n) ≡ at (built ys) n
  shifted n there = shifted_to (suc n) n (next n) there
    where
      next : (n : ℕ) → n < suc n
      next n = omega arith

-- ---- tables

same_roots : (xs zs : List Level) (rs : List ℕ) → Each (λ n. n < length xs) rs → types_at (xs ++ zs) rs ≡ types_at xs rs
same_roots xs zs [] all = refl
same_roots xs zs (r ∷ rs) all = ap (λ t. t ∷ types_at (xs ++ zs) rs) (built_front xs zs r all.0) ∙ ap (λ ts. at (built xs) r ∷ ts) (same_roots xs zs rs all.1)

module _ (xs ys : List Level) (rs ss : List ℕ) (first : IsTable xs rs) (second : IsTable ys ss) where
  room : length (levels_both xs ys) ≡ length xs + length ys
  room = length-append xs (map (level_moved (length xs)) ys) ∙ ap (λ n. length xs + n) (length-map ys (level_moved (length xs)))

  own_roots : Each (λ n. n < length (levels_both xs ys)) rs
  own_roots = each_map (λ n less. wider n room less) rs first.roots_below
    where
      wider : (n : ℕ) {m : ℕ} → m ≡ length xs + length ys → n < length xs → n < m
      wider n is less = omega arith

  other_roots : Each (λ n. n < length (levels_both xs ys)) (map (λ n. length xs + n) ss)
  other_roots = subst (λ m. Each (λ n. n < m) (map (λ n. length xs + n) ss)) (sym room) (numbers_moved (length xs) (length ys) ss second.roots_below)

  -- with the levels alone
  pub table_grown : IsTable (levels_both xs ys) rs
  table_grown = record { below = below_both xs ys first.below second.below; roots_below = own_roots }

  pub table_both : IsTable (levels_both xs ys) (rs ++ map (λ n. length xs + n) ss)
  table_both = record { below = below_both xs ys first.below second.below; roots_below = each_both rs own_roots }
    where
      each_both : (ns : List ℕ) → Each (λ n. n < length (levels_both xs ys)) ns → Each (λ n. n < length (levels_both xs ys)) (ns ++ map (λ n. length xs + n) ss)
      each_both [] all = other_roots
      each_both (n ∷ ns) all = (all.0, each_both ns all.1)

  pub types_both : types_at (levels_both xs ys) (rs ++ map (λ n. length xs + n) ss) ≡ types_at xs rs ++ types_at ys ss
  types_both =
      map-append (at (built (levels_both xs ys))) rs (map (λ n. length xs + n) ss)
      ∙ ap (λ ts. ts ++ map (at (built (levels_both xs ys))) (map (λ n. length xs + n) ss)) (same_roots xs (map (level_moved (length xs)) ys) rs first.roots_below)
      ∙ ap (λ ts. types_at xs rs ++ ts) (places_alike (λ n. length xs + n) (built (levels_both xs ys)) (built ys) ss (each_map (λ n less. shifted xs ys first.below second.below n less) ss second.roots_below))

-- ---- other types behind these

module _ (xs ys new moved given : List Level) (rs ss : List ℕ) (by : ℕ) (first : IsTable xs rs) (second : IsTable ys ss) (count : by ≡ length xs) (is : moved ≡ map (level_moved by) given) (same : given ≡ ys) (all : new ≡ xs ++ moved) where
  levels_are : new ≡ levels_both xs ys
  levels_are = all ∙ ap (λ ms. xs ++ ms) (is ∙ ap (map (level_moved by)) same ∙ ap (λ n. map (level_moved n) ys) count)

  pub grown_table : (old : List ℕ) → old ≡ rs → IsTable new old
  grown_table old kept = subst (IsTable new) (sym kept) (subst (λ ls. IsTable ls rs) (sym levels_are) (table_grown xs ys rs ss first second))

  module _ (roots places numbers : List ℕ) (are : places ≡ map (λ n. by + n) numbers) (others : numbers ≡ ss) (whole : roots ≡ rs ++ places) where
    roots_are : roots ≡ rs ++ map (λ n. length xs + n) ss
    roots_are = whole ∙ ap (λ ns. rs ++ ns) (are ∙ ap (map (λ n. by + n)) others ∙ ap (λ k. map (λ n. k + n) ss) count)

    pub whole_table : IsTable new roots
    whole_table = subst (IsTable new) (sym roots_are) (subst (λ ls. IsTable ls (rs ++ map (λ n. length xs + n) ss)) (sym levels_are) (table_both xs ys rs ss first second))

    pub whole_types : types_at new roots ≡ types_at xs rs ++ types_at ys ss
    whole_types = ap (λ ls. types_at ls roots) levels_are ∙ ap (types_at (levels_both xs ys)) roots_are ∙ types_both xs ys rs ss first second
