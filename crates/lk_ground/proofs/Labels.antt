-- Labels: what has one is found by it, and each instance and each place that is labelled in one has one.
use Rattle.std.proofs.Common.{◌≡◌, refl, sym, ◌∙◌, ap, ap₂, subst, arith, ℕ, zero, suc, ◌+◌, ◌≤◌, Bool, true, false, ◌&&◌, ◌==◌, if◌then◌else◌, List, [], ◌∷◌, map, inl, inr, Some, None, slice_get}
use Rattle.std.proofs.lemmas.Bool.Decides.{nat_tests}
use Rattle.std.proofs.lemmas.Bool.{and_parts, eqb-true}
use Rattle.lk_types.specs.Each.{OneOf}
use Rattle.lk_types.proofs.Members.{one_in_front, one_in_back}
use Rattle.lk_ground.specs.Language.{Labelled, Whole, Site, is_same, function_of, instance, labelled_of, labelled_from, labels, place_among, label_of, found_from, labelled}
use Rattle.lk_ground.specs.Sites.{labelled_in}
use Rattle.lk_ground.specs.declared.program.GroundFun.{GroundFun}
use Rattle.lk_ground.specs.declared.program.GroundProgram.{GroundProgram}

-- ---- tests

equal_self : (a : ℕ) → (a == a) ≡ true
equal_self a = grind (arith, nat_tests)

less_apart : (a b : ℕ) → 1 + a ≤ b → (a == b) ≡ false
less_apart a b le = grind (arith, nat_tests)

same_is : (a b : Labelled) → is_same a b ≡ true → a ≡ b
same_is (Whole a) (Whole b) is = ap Whole (eqb-true a b is)
same_is (Site a s) (Site b t) is = let x = and_parts (a == b) (s == t) is in ap₂ Site (eqb-true a b x.0) (eqb-true s t x.1)
same_is (Whole a) (Site b t) is = let wrong : false ≡ true = is in cc
same_is (Site a s) (Whole b) is = let wrong : false ≡ true = is in cc

same_self : (a : Labelled) → is_same a a ≡ true
same_self (Whole a) = equal_self a
same_self (Site a s) = ap₂ (λ x y. x && y) (equal_self a) (equal_self s)

-- ---- in a list

placed_behind : (n : ℕ) (ls : List Labelled) (what : Labelled) (k : ℕ) → place_among n ls what ≡ Some k → n ≤ k
placed_behind n [] what k is = let wrong : None ≡ Some k = is in cc
placed_behind n (l ∷ ls) what k is = by_test (is_same l what) (placed_behind (1 + n) ls what k) is
  where
    by_test : (b : Bool) → (place_among (1 + n) ls what ≡ Some k → 1 + n ≤ k) → (if b then Some n else place_among (1 + n) ls what) ≡ Some k → n ≤ k
    by_test true later found = let same : n ≡ k = cc in omega arith
    by_test false later found = let le : 1 + n ≤ k = later found in omega arith

found_again : (n : ℕ) (ls : List Labelled) (what : Labelled) (k : ℕ) → place_among n ls what ≡ Some k → found_from n ls k ≡ Some what
found_again n [] what k is = let wrong : None ≡ Some k = is in cc
found_again n (l ∷ ls) what k is = by_test (is_same l what) refl (found_again (1 + n) ls what k) is
  where
    by_test : (b : Bool) → is_same l what ≡ b → (place_among (1 + n) ls what ≡ Some k → found_from (1 + n) ls k ≡ Some what) → (if b then Some n else place_among (1 + n) ls what) ≡ Some k → (if n == k then Some l else found_from (1 + n) ls k) ≡ Some what
    by_test true same later found =
        let here : n ≡ k = cc in
        ap (λ b. if b then Some l else found_from (1 + n) ls k) (subst (λ m. (n == m) ≡ true) here (equal_self n)) ∙ ap Some (same_is l what same)
    by_test false same later found =
        ap (λ b. if b then Some l else found_from (1 + n) ls k) (less_apart n k (placed_behind (1 + n) ls what k found)) ∙ later found

has_place : (n : ℕ) (ls : List Labelled) (what : Labelled) → OneOf (λ l. l ≡ what) ls → (k : ℕ) × (place_among n ls what ≡ Some k)
has_place n [] what one = absurd one
has_place n (l ∷ ls) what one = by_test (is_same l what) refl one (has_place (1 + n) ls what)
  where
    by_test : (b : Bool) → is_same l what ≡ b → OneOf (λ l. l ≡ what) (l ∷ ls) → (OneOf (λ l. l ≡ what) ls → (k : ℕ) × (place_among (1 + n) ls what ≡ Some k)) → (k : ℕ) × ((if b then Some n else place_among (1 + n) ls what) ≡ Some k)
    by_test true same one rest = (n, refl)
    by_test false same (inl is) rest = let wrong : true ≡ false = sym (subst (λ x. is_same x what ≡ true) (sym is) (same_self what)) ∙ same in cc
    by_test false same (inr later) rest = rest later

-- ---- of a program

-- what has a label is found by it
pub labelled_again : (p : GroundProgram) (what : Labelled) (label : ℕ) → label_of p what ≡ Some label → labelled p label ≡ Some what
labelled_again p what label is = found_again 1 (labels p) what label is

among_from : (i k : ℕ) (fs : List GroundFun) (f : GroundFun) (what : Labelled) → slice_get fs k ≡ Some f → OneOf (λ l. l ≡ what) (labelled_of (k + i) f) → OneOf (λ l. l ≡ what) (labelled_from i fs)
among_from i k [] f what is one = absurd cc
among_from i zero (g ∷ fs) f what is one =
    let same : f ≡ g = cc in
    let number : zero + i ≡ i = omega arith in
    one_in_front (λ l. l ≡ what) (labelled_of i g) (labelled_from (1 + i) fs) (subst (λ n. OneOf (λ l. l ≡ what) (labelled_of n g)) number (subst (λ x. OneOf (λ l. l ≡ what) (labelled_of (zero + i) x)) same one))
among_from i (suc k) (g ∷ fs) f what is one =
    let number : suc k + i ≡ k + (1 + i) = omega arith in
    one_in_back (λ l. l ≡ what) (labelled_of i g) (labelled_from (1 + i) fs) (among_from (1 + i) k fs f what is (subst (λ x. OneOf (λ l. l ≡ what) (labelled_of x f)) number one))

is_labelled : (p : GroundProgram) (i : ℕ) (f : GroundFun) (what : Labelled) → instance p i ≡ Some f → OneOf (λ l. l ≡ what) (labelled_of i f) → (label : ℕ) × (label_of p what ≡ Some label)
is_labelled p i f what is one =
    let number : i ≡ i + 0 = omega arith in
    has_place 1 (labels p) what (among_from 0 i p.funs f what is (subst (λ x. OneOf (λ l. l ≡ what) (labelled_of x f)) number one))

-- an instance has a label
pub instance_labelled : (p : GroundProgram) (i : ℕ) (f : GroundFun) → instance p i ≡ Some f → (label : ℕ) × (label_of p (Whole i) ≡ Some label)
instance_labelled p i f is = is_labelled p i f (Whole i) is (inl refl)

among_sites : (i : ℕ) (sites : List ℕ) (site : ℕ) → OneOf (λ other. other ≡ site) sites → OneOf (λ l. l ≡ Site i site) (map (Site i) sites)
among_sites i [] site one = absurd one
among_sites i (s ∷ sites) site (inl is) = inl (ap (Site i) is)
among_sites i (s ∷ sites) site (inr later) = inr (among_sites i sites site later)

-- and so has a place that is labelled in it
pub site_labelled : (p : GroundProgram) (i : ℕ) (f : GroundFun) (site : ℕ) → instance p i ≡ Some f → OneOf (λ other. other ≡ site) (labelled_in (function_of f).body) → (label : ℕ) × (label_of p (Site i site) ≡ Some label)
site_labelled p i f site is one = is_labelled p i f (Site i site) is (inr (among_sites i (labelled_in (function_of f).body) site one))
