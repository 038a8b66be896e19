-- What labels and uses find, where no two of them are at the same place.
use Rattle.std.proofs.Common.{◌≡◌, ◌⊎◌, inl, inr, refl, sym, ap, ap₂, subst, ◌∙◌, ℕ, zero, suc, ◌+◌, ◌≤◌, ◌<◌, ◌==◌, ◌&&◌, Bool, true, false, if◌then◌else◌, List, [], ◌∷◌, ◌++◌, length, drop, map, Some, None, slice_get, arith}
use Rattle.std.proofs.lemmas.Bool.Decides.{nat_tests}
use Rattle.std.proofs.lemmas.Bool.{and_parts, eqb-true}
use Rattle.std.proofs.lemmas.Option.{none-some}
use Rattle.lk_ground.specs.Language.{Labelled, Whole, Site, is_same, function_of, labelled_of, labelled_from, place_among, found_from, at_place}
use Rattle.lk_ground.specs.Sites.{PlacedUse, labelled_in}
use Rattle.lk_ground.specs.declared.program.GroundFun.{GroundFun}
use Rattle.lk_index.specs.Places.{AreApart, IsNone}
use Rattle.lk_ir.proofs.Lookups.{equal_self, not_equal}
use Rattle.lk_types.proofs.Members.{each_in, each_both}
use Rattle.lk_types.proofs.Parts.{same_some}
use Rattle.lk_types.specs.Each.{Each, OneOf}

-- ---- tests

same_is : (a b : Labelled) → is_same a b ≡ true → a ≡ b
same_is (Whole a) (Whole b) is = ap Whole (eqb-true a b is)
same_is (Site a s) (Site b t) is = let x = and_parts (a == b) (s == t) is in ap₂ Site (eqb-true a b x.0) (eqb-true s t x.1)
same_is (Whole a) (Site b t) is = let wrong : false ≡ true = is in cc
same_is (Site a s) (Whole b) is = let wrong : false ≡ true = is in cc

same_self : (a : Labelled) → is_same a a ≡ true
same_self (Whole a) = equal_self a
same_self (Site a s) = ap₂ (λ x y. x && y) (equal_self a) (equal_self s)

not_same : (a b : Labelled) → (a ≡ b → ⊥) → is_same a b ≡ false
not_same a b apart = by_test (is_same a b) refl
  where
    by_test : (t : Bool) → is_same a b ≡ t → t ≡ false
    by_test true is = absurd (apart (same_is a b is))
    by_test false is = refl

-- ---- distinct

abbrev pub IsNew : Labelled → List Labelled → Type 0
IsNew x ls = Each (λ l. l ≡ x → ⊥) ls

abbrev pub AreDistinct : List Labelled → Type 0
AreDistinct [] = Unit {0}
AreDistinct (l ∷ ls) = IsNew l ls × AreDistinct ls

among_back : {A : Type 0} (front back : List A) (x : A) → OneOf (λ y. y ≡ x) (front ++ x ∷ back)
among_back [] back x = inl refl
among_back (y ∷ front) back x = inr (among_back front back x)

new_front : (front back : List Labelled) (x : Labelled) → AreDistinct (front ++ x ∷ back) → IsNew x front
new_front [] back x all = tt
new_front (l ∷ front) back x all = ((λ is. each_in (λ m. m ≡ l → ⊥) (front ++ x ∷ back) x (among_back front back x) all.0 (sym is)), new_front front back x all.1)

among_there : (n : ℕ) (front back : List Labelled) (x : Labelled) → IsNew x front → place_among n (front ++ x ∷ back) x ≡ Some (n + length front)
among_there n [] back x new = ap (λ b. if b then Some n else place_among (1 + n) back x) (same_self x) ∙ ap Some (let e : n ≡ n + 0 = omega arith in e)
among_there n (l ∷ front) back x new =
    ap (λ b. if b then Some n else place_among (1 + n) (front ++ x ∷ back) x) (not_same l x new.0)
    ∙ among_there (1 + n) front back x new.1
    ∙ ap Some (let e : (1 + n) + length front ≡ n + suc (length front) = omega arith in e)

-- its label says where it stands
pub placed : (front back : List Labelled) (x : Labelled) → AreDistinct (front ++ x ∷ back) → place_among 1 (front ++ x ∷ back) x ≡ Some (1 + length front)
placed front back x all = among_there 1 front back x (new_front front back x all)

distinct_both : (xs ys : List Labelled) → AreDistinct xs → AreDistinct ys → Each (λ x. IsNew x ys) xs → AreDistinct (xs ++ ys)
distinct_both [] ys one two new = two
distinct_both (x ∷ xs) ys one two new = (each_both (λ l. l ≡ x → ⊥) xs ys one.0 new.0, distinct_both xs ys one.1 two new.1)

abbrev owner_of : Labelled → ℕ
owner_of (Whole i) = i
owner_of (Site i site) = i

abbrev IsOf : ℕ → Labelled → Type 0
IsOf i l = owner_of l ≡ i

sites_of_one : (i : ℕ) (sites : List ℕ) → Each (IsOf i) (map (Site i) sites)
sites_of_one i [] = tt
sites_of_one i (s ∷ sites) = (refl, sites_of_one i sites)

abbrev IsBehind : ℕ → Labelled → Type 0
IsBehind i l = i ≤ owner_of l

all_behind : (i k : ℕ) (ls : List Labelled) → i ≤ k → Each (IsOf k) ls → Each (IsBehind i) ls
all_behind i k [] le all = tt
all_behind i k (l ∷ ls) le all = ((let e : owner_of l ≡ k = all.0 in omega arith), all_behind i k ls le all.1)

later_behind : (i k : ℕ) (fs : List GroundFun) → i ≤ k → Each (IsBehind i) (labelled_from k fs)
later_behind i k [] le = tt
later_behind i k (f ∷ fs) le =
    each_both (IsBehind i) (labelled_of k f) (labelled_from (1 + k) fs) (all_behind i k (labelled_of k f) le (refl, sites_of_one k (labelled_in (function_of f).body))) (later_behind i (1 + k) fs (let e : i ≤ 1 + k = omega arith in e))

new_behind : (i : ℕ) (x : Labelled) (ls : List Labelled) → IsOf i x → Each (IsBehind (1 + i)) ls → IsNew x ls
new_behind i x [] of all = tt
new_behind i x (l ∷ ls) of all = ((λ is. let e : owner_of l ≡ owner_of x = ap owner_of is in let o : owner_of x ≡ i = of in let b : 1 + i ≤ owner_of l = all.0 in omega arith), new_behind i x ls of all.1)

each_new : (i : ℕ) (xs ls : List Labelled) → Each (IsOf i) xs → Each (IsBehind (1 + i)) ls → Each (λ x. IsNew x ls) xs
each_new i [] ls of all = tt
each_new i (x ∷ xs) ls of all = (new_behind i x ls of.0 all, each_new i xs ls of.1 all)

abbrev site_in : Labelled → ℕ
site_in (Whole i) = 0
site_in (Site i site) = site

abbrev is_whole : Labelled → Bool
is_whole (Whole i) = true
is_whole (Site i site) = false

whole_new : (i : ℕ) (sites : List ℕ) → IsNew (Whole i) (map (Site i) sites)
whole_new i [] = tt
whole_new i (s ∷ sites) = ((λ is. let wrong : false ≡ true = ap is_whole is in cc), whole_new i sites)

site_new : (i s : ℕ) (sites : List ℕ) → IsNone s sites → IsNew (Site i s) (map (Site i) sites)
site_new i s [] none = tt
site_new i s (t ∷ sites) none = ((λ is. none.0 (sym (ap site_in is))), site_new i s sites none.1)

sites_distinct : (i : ℕ) (sites : List ℕ) → AreApart sites → AreDistinct (map (Site i) sites)
sites_distinct i [] apart = tt
sites_distinct i (s ∷ sites) apart = (site_new i s sites apart.0, sites_distinct i sites apart.1)

pub all_distinct : (i : ℕ) (fs : List GroundFun) → Each (λ f. AreApart (labelled_in (function_of f).body)) fs → AreDistinct (labelled_from i fs)
all_distinct i [] apart = tt
all_distinct i (f ∷ fs) apart =
    let sites = labelled_in (function_of f).body in
    distinct_both (labelled_of i f) (labelled_from (1 + i) fs) (whole_new i sites, sites_distinct i sites apart.0) (all_distinct (1 + i) fs apart.1)
    (each_new i (labelled_of i f) (labelled_from (1 + i) fs) (refl, sites_of_one i sites) (later_behind (1 + i) (1 + i) fs (let e : 1 + i ≤ 1 + i = omega arith in e)))

-- ---- uses

abbrev site_of : PlacedUse → ℕ
site_of u = u.site

none_there : (n : ℕ) (front back : List PlacedUse) (u : PlacedUse) → IsNone n (map site_of (front ++ u ∷ back)) → n ≡ u.site → ⊥
none_there n [] back u none = none.0
none_there n (v ∷ front) back u none = none_there n front back u none.1

-- what a use calls stands where the use does
pub called_there : (front back : List PlacedUse) (u : PlacedUse) (calls : List ℕ) (i : ℕ) (rest : List ℕ) → AreApart (map site_of (front ++ u ∷ back)) → drop (length front) calls ≡ i ∷ rest → at_place (front ++ u ∷ back) calls u.site ≡ Some i
called_there [] back u calls i rest apart is = ap (λ ns. at_place (u ∷ back) ns u.site) is ∙ ap (λ b. if b then Some i else at_place back rest u.site) (equal_self u.site)
called_there (v ∷ front) back u [] i rest apart is = let wrong : [] ≡ i ∷ rest = is in cc
called_there (v ∷ front) back u (c ∷ calls) i rest apart is =
    ap (λ b. if b then Some c else at_place (front ++ u ∷ back) calls u.site) (not_equal v.site u.site (none_there v.site front back u apart.0)) ∙ called_there front back u calls i rest apart.1 is

-- ---- labels and what has them

module _ {A : Type 0} (P : ℕ → A → Type 0) where
  -- it holds of each with its number, the first of which is this one
  abbrev pub AllFrom : ℕ → List A → Type 0
  AllFrom n [] = Unit {0}
  AllFrom n (x ∷ xs) = P n x × AllFrom (n + 1) xs

  pub all_from_both : (n : ℕ) (xs ys : List A) → AllFrom n xs → AllFrom (n + length xs) ys → AllFrom n (xs ++ ys)
  all_from_both n [] ys one two = subst (λ k. AllFrom k ys) (let e : n + 0 ≡ n = omega arith in e) two
  all_from_both n (x ∷ xs) ys one two = (one.0, all_from_both (n + 1) xs ys one.1 (subst (λ k. AllFrom k ys) (let e : n + suc (length xs) ≡ (n + 1) + length xs = omega arith in e) two))

pub all_from_map : {A B : Type 0} (P : ℕ → B → Type 0) (h : A → B) (n : ℕ) (xs : List A) → AllFrom (λ k x. P k (h x)) n xs → AllFrom P n (map h xs)
all_from_map P h n [] all = tt
all_from_map P h n (x ∷ xs) all = (all.0, all_from_map P h (n + 1) xs all.1)

pub found_all : (P : ℕ → Labelled → Type 0) (n : ℕ) (ls : List Labelled) (k : ℕ) (what : Labelled) → AllFrom P n ls → found_from n ls k ≡ Some what → P k what
found_all P n [] k what all is = absurd (none-some what is)
found_all P n (l ∷ ls) k what all is = by_test (n == k) refl is (found_all P (1 + n) ls k what (subst (λ m. AllFrom P m ls) (let e : n + 1 ≡ 1 + n = omega arith in e) all.1))
  where
    by_test : (b : Bool) → (n == k) ≡ b → (if b then Some l else found_from (1 + n) ls k) ≡ Some what → (found_from (1 + n) ls k ≡ Some what → P k what) → P k what
    by_test true same found later = let here : n ≡ k = eqb-true n k same in let it : l ≡ what = same_some found in subst (λ w. P k w) it (subst (λ m. P m l) here all.0)
    by_test false same found later = later found

split_below : (k n : ℕ) → (k < n) ⊎ (n + 0 ≤ k)
split_below k zero = inr (omega arith)
split_below zero (suc n) = inl (omega arith)
split_below (suc k) (suc n) = next (split_below k n)
  where
    next : (k < n) ⊎ (n + 0 ≤ k) → (suc k < suc n) ⊎ (suc n + 0 ≤ suc k)
    next (inl lt) = inl (omega arith)
    next (inr le) = inr (omega arith)

-- what isn't found is before the first or behind the last
pub outside : (n : ℕ) (ls : List Labelled) (k : ℕ) → found_from n ls k ≡ None → (k < n) ⊎ (n + length ls ≤ k)
outside n [] k is = split_below k n
outside n (l ∷ ls) k is = by_test (n == k) refl is (outside (1 + n) ls k)
  where
    further : (n == k) ≡ false → (k < 1 + n) ⊎ ((1 + n) + length ls ≤ k) → (k < n) ⊎ (n + suc (length ls) ≤ k)
    further other (inl lt) = inl (grind (arith, nat_tests))
    further other (inr le) = inr (omega arith)

    by_test : (b : Bool) → (n == k) ≡ b → (if b then Some l else found_from (1 + n) ls k) ≡ None → (found_from (1 + n) ls k ≡ None → (k < 1 + n) ⊎ ((1 + n) + length ls ≤ k)) → (k < n) ⊎ (n + suc (length ls) ≤ k)
    by_test true same found later = absurd (none-some l (sym found))
    by_test false same found later = further same (later found)

-- two lists of one length have something at the same places
pub both_there : {A B : Type 0} (xs : List A) (ys : List B) (k : ℕ) (x : A) → length xs ≡ length ys → slice_get xs k ≡ Some x → (y : B) × (slice_get ys k ≡ Some y)
both_there [] ys k x long is = absurd (none-some x is)
both_there (a ∷ xs) [] k x long is = absurd (let e : suc (length xs) ≡ 0 = long in omega arith)
both_there (a ∷ xs) (b ∷ ys) zero x long is = (b, refl)
both_there (a ∷ xs) (b ∷ ys) (suc k) x long is = both_there xs ys k x (let e : suc (length xs) ≡ suc (length ys) = long in omega arith) is
