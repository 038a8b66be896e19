-- Lacks in order are the same lacks, and the scheme that is made of them is the one that is wanted.
use Rattle.std.proofs.Common.{◌≡◌, ◌⊎◌, ◌↔◌, inl, inr, refl, sym, subst, true≢false, ℕ, zero, suc, Bool, true, false, not, T, ◌&&◌, ◌||◌, ◌==◌, cond, List, [], ◌∷◌, ◌++◌, map, take, ◌∙◌, ap, arith}
use Rattle.std.proofs.lemmas.Bool.{and_parts, eqb-true}
use Rattle.std.specs.Prelude.{flat_map}
use Rattle.std.specs.BTreeSet.{BTreeSet, IsFromIterResult, contains}
use Rattle.std.specs.Cmp.{IsTotalOrder, unsigned_tied}
use Rattle.std.specs.Cmp.Lexicographic.{slice_cmp}
use Rattle.std.specs.FinMap.{nat_cmp-IsAntisymmetric, slice_cmp-IsAntisymmetric}
use Rattle.std.specs.List.{AllByRecursion, filter, filter_map, list_any}
use Rattle.std.specs.List.Sorted.{IsStrictlySortedBy}
use Rattle.std.specs.Ordering.{eq_by_cmp, is_eq, match_ordering, nat_cmp, ordering_reverse, ordering_then}
use Rattle.std.specs.declared.cmp.Ordering.{Ordering}
use Rattle.std.specs.declared.cmp.Ordering.TheVariants.{Less, Equal, Greater}
use Rattle.std.proofs.lemmas.Bool.Decides.{nat_tests}
use Rattle.std.proofs.lemmas.Cmp.{nat_cmp_total, nat_list_cmp_total, on_total, then_total, tied_itself}
use Rattle.std.proofs.Math.Bool.{or-true}
use Rattle.lk_types.specs.Each.{Each, OneOf}
use Rattle.lk_types.specs.Variables.{same_variable, variables_of}
use Rattle.lk_types.specs.declared.scheme.Lack.{Lack}
use Rattle.lk_types.specs.declared.scheme.Scheme.{Scheme}
use Rattle.lk_types.specs.declared.ty.Ty.{Ty}
use Rattle.lk_types.specs.declared.ty.Variable.{Variable}
use Rattle.lk_types.specs.declared.ty.Variable.TheVariants as variable
use Rattle.lk_infer.specs.Generalised.{IsIn, HasRow, IsGeneralised, AreGeneralised}
use Rattle.lk_infer.specs.Lacks.{shown}
use Rattle.lk_infer.specs.LacksInOrder.{AreInOrder, IsSchemeInOrder, has_lack, has_row, in_order, lack_cmp, row_number, scheme_for, with_lack, with_lacks}
use Rattle.lk_unify.specs.InOrder.{IsInOrder}

-- ---- lacks that tie are one

tied : (a b : Ordering) → ordering_then a b ≡ Equal → (a ≡ Equal) × (b ≡ Equal)
tied Less b e = absurd (subst (λ r. T (is_eq r)) (sym e) tt)
tied Equal b e = (refl, e)
tied Greater b e = absurd (subst (λ r. T (is_eq r)) (sym e) tt)

one_lack : (x y : Lack) → lack_cmp x y ≡ Equal → x ≡ y
one_lack x y e =
    let both : (nat_cmp x.var y.var ≡ Equal) × (slice_cmp nat_cmp x.label y.label ≡ Equal) = tied _ _ e in
    λ i. record { var = nat_cmp-IsAntisymmetric x.var y.var both.0 i; label = slice_cmp-IsAntisymmetric nat_cmp-IsAntisymmetric x.label y.label both.1 i }

lack_total : IsTotalOrder lack_cmp
lack_total = then_total (on_total (λ (x : Lack). x.var) nat_cmp_total) (on_total (λ (x : Lack). x.label) nat_list_cmp_total)

equal_is : (r : Ordering) → is_eq r ≡ true → r ≡ Equal
equal_is Less e = absurd (true≢false (sym e))
equal_is Equal e = refl
equal_is Greater e = absurd (true≢false (sym e))

-- ---- tests of a list, and what they say

any_is : {A : Type 0} {P : A → Type 0} (test : A → Bool) → ((x : A) → test x ≡ true → P x) → (xs : List A) → list_any test xs ≡ true → OneOf P xs
any_is test is [] e = absurd (true≢false (sym e))
any_is {P = P} test is (x ∷ xs) e = elim (test x) as (λ b. test x ≡ b → (b || list_any test xs) ≡ true → P x ⊎ OneOf P xs) [
  | true ↦ λ p e. inl (is x p)
  | false ↦ λ p e. inr (any_is test is xs e)
] refl e

is_any : {A : Type 0} {P : A → Type 0} (test : A → Bool) → ((x : A) → P x → test x ≡ true) → (xs : List A) → OneOf P xs → list_any test xs ≡ true
is_any test is [] none = elim none [ ]
is_any test is (x ∷ xs) (inl here) = ap (λ b. b || list_any test xs) (is x here)
is_any test is (x ∷ xs) (inr there) = ap (λ b. test x || b) (is_any test is xs there) ∙ or-true (test x)

has_is : (lacks : List Lack) (q : Lack) → has_lack lacks q ≡ true → IsIn q lacks
has_is lacks q = any_is (eq_by_cmp lack_cmp q) (λ x e. sym (one_lack q x (equal_is (lack_cmp q x) e))) lacks

is_has : (lacks : List Lack) (q : Lack) → IsIn q lacks → has_lack lacks q ≡ true
is_has lacks q = is_any (eq_by_cmp lack_cmp q) (λ x e. ap (λ z. is_eq (lack_cmp q z)) e ∙ ap is_eq (tied_itself lack_total q)) lacks

number_same : (n : ℕ) → (n == n) ≡ true
number_same n = grind (arith, nat_tests)

row_is : (n : ℕ) (x : Variable) → same_variable (variable.Row n) x ≡ true → x ≡ variable.Row n
row_is n (variable.Plain m) e = absurd (true≢false (sym e))
row_is n (variable.Row m) e = sym (ap variable.Row (eqb-true n m e))
row_is n (variable.Effects m) e = absurd (true≢false (sym e))

pub has_row_is : (n : ℕ) (t : Ty) → has_row n t ≡ true → HasRow n t
has_row_is n t = any_is (same_variable (variable.Row n)) (row_is n) (variables_of t)

pub is_has_row : (n : ℕ) (t : Ty) → HasRow n t → has_row n t ≡ true
is_has_row n t = is_any (same_variable (variable.Row n)) (λ x e. ap (same_variable (variable.Row n)) e ∙ number_same n) (variables_of t)

-- ---- members of a list in order

put_is : (q : Lack) (there : List Lack) (x : Lack) → IsIn q (with_lack there x) → (x ≡ q) ⊎ IsIn q there
put_is q [] x is = is
put_is q (y ∷ ys) x is = elim (lack_cmp x y) as (λ r. IsIn q (match_ordering r (x ∷ y ∷ ys) (y ∷ ys) (y ∷ with_lack ys x)) → (x ≡ q) ⊎ IsIn q (y ∷ ys)) [
  | Less ↦ λ is. is
  | Equal ↦ λ is. inr is
  | Greater ↦ λ is. elim is [ inl here ↦ inr (inl here) | inr behind ↦ elim (put_is q ys x behind) [ inl one ↦ inl one | inr other ↦ inr (inr other) ] ]
] is

put_new : (q : Lack) (there : List Lack) (x : Lack) → x ≡ q → IsIn q (with_lack there x)
put_new q [] x is = inl is
put_new q (y ∷ ys) x is = elim (lack_cmp x y) as (λ r. lack_cmp x y ≡ r → IsIn q (match_ordering r (x ∷ y ∷ ys) (y ∷ ys) (y ∷ with_lack ys x))) [
  | Less ↦ λ e. inl is
  | Equal ↦ λ e. inl (sym (one_lack x y e) ∙ is)
  | Greater ↦ λ e. inr (put_new q ys x is)
] refl

put_old : (q : Lack) (there : List Lack) (x : Lack) → IsIn q there → IsIn q (with_lack there x)
put_old q [] x none = elim none [ ]
put_old q (y ∷ ys) x is = elim (lack_cmp x y) as (λ r. IsIn q (match_ordering r (x ∷ y ∷ ys) (y ∷ ys) (y ∷ with_lack ys x))) [
  | Less ↦ inr is
  | Equal ↦ is
  | Greater ↦ elim is [ inl here ↦ inl here | inr behind ↦ inr (put_old q ys x behind) ]
]

puts_is : (q : Lack) (xs there : List Lack) → IsIn q (with_lacks there xs) → IsIn q there ⊎ IsIn q xs
puts_is q [] there is = inl is
puts_is q (x ∷ xs) there is = elim (puts_is q xs (with_lack there x) is) [
  | inl put ↦ elim (put_is q there x put) [ inl one ↦ inr (inl one) | inr old ↦ inl old ]
  | inr more ↦ inr (inr more)
]

puts_old : (q : Lack) (xs there : List Lack) → IsIn q there → IsIn q (with_lacks there xs)
puts_old q [] there is = is
puts_old q (x ∷ xs) there is = puts_old q xs (with_lack there x) (put_old q there x is)

puts_new : (q : Lack) (xs there : List Lack) → IsIn q xs → IsIn q (with_lacks there xs)
puts_new q [] there none = elim none [ ]
puts_new q (x ∷ xs) there (inl here) = puts_old q xs (with_lack there x) (put_new q there x here)
puts_new q (x ∷ xs) there (inr behind) = puts_new q xs (with_lack there x) behind

pub ordered_is : (q : Lack) (xs : List Lack) → IsIn q (in_order xs) → IsIn q xs
ordered_is q xs is = elim (puts_is q xs [] is) [ inl none ↦ absurd none | inr one ↦ one ]

pub is_ordered : (q : Lack) (xs : List Lack) → IsIn q xs → IsIn q (in_order xs)
is_ordered q xs is = puts_new q xs [] is

-- ---- members of what is left of a list

kept_is : (q : Lack) (p : Lack → Bool) (xs : List Lack) → IsIn q (filter p xs) → IsIn q xs × (p q ≡ true)
kept_is q p [] is = elim is [ ]
kept_is q p (x ∷ xs) is = elim (p x) as (λ b. p x ≡ b → IsIn q (cond b (x ∷ filter p xs) (filter p xs)) → ((x ≡ q) ⊎ IsIn q xs) × (p q ≡ true)) [
  | true ↦ λ e is. elim is [ inl here ↦ (inl here, ap p (sym here) ∙ e) | inr behind ↦ (let rest = kept_is q p xs behind in (inr rest.0, rest.1)) ]
  | false ↦ λ e is. (let rest = kept_is q p xs is in (inr rest.0, rest.1))
] refl is

is_kept : (q : Lack) (p : Lack → Bool) (xs : List Lack) → p q ≡ true → IsIn q xs → IsIn q (filter p xs)
is_kept q p [] passes none = elim none [ ]
is_kept q p (x ∷ xs) passes (inl here) = subst (λ b. IsIn q (cond b (x ∷ filter p xs) (filter p xs))) (sym (ap p here ∙ passes)) (inl here)
is_kept q p (x ∷ xs) passes (inr behind) = elim (p x) as (λ b. IsIn q (cond b (x ∷ filter p xs) (filter p xs))) [
  | true ↦ inr (is_kept q p xs passes behind)
  | false ↦ is_kept q p xs passes behind
]

-- ---- schemes

not_is : (b : Bool) → not b ≡ true → b ≡ true → ⊥
not_is true e f = true≢false (sym e)
not_is false e f = true≢false (sym f)

is_not : (b : Bool) → (b ≡ true → ⊥) → not b ≡ true
is_not true fails = absurd (fails refl)
is_not false fails = refl

-- the lacks that are put beside a type, where these have the members of what types show
module _ (types : List Ty) (all : List Lack) (members : (q : Lack) → IsIn q all ↔ IsIn q (flat_map shown types)) where
  generalised : (body : Ty) → IsGeneralised types body (scheme_for all body)
  generalised body =
      let p : Lack → Bool = λ q. has_row q.var body && not (has_lack (in_order (shown body)) q) in
      record {
        body_is = refl;
        lacks = λ q. (
          (λ is. let kept = kept_is q p all is in
              let tests = and_parts _ _ kept.1 in
              ((members q).0 kept.0, has_row_is q.var body tests.0, λ own. not_is _ tests.1 (is_has (in_order (shown body)) q (is_ordered q (shown body) own)))),
          (λ is. is_kept q p all
              (ap (λ b. b && not (has_lack (in_order (shown body)) q)) (is_has_row q.var body is.1) ∙ is_not _ (λ own. is.2 (ordered_is q (shown body) (has_is (in_order (shown body)) q own))))
              ((members q).1 is.0)),
        );
      }

  all_generalised : (bodies : List Ty) → AreGeneralised types bodies (map (scheme_for all) bodies)
  all_generalised [] = tt
  all_generalised (body ∷ bodies) = (generalised body, all_generalised bodies)

-- ---- the order

IsBelow : Lack → List Lack → Type 0
IsBelow x = AllByRecursion (λ y. lack_cmp x y ≡ Less)

below_put : (x k : Lack) (ys : List Lack) → lack_cmp x k ≡ Less → IsBelow x ys → IsBelow x (with_lack ys k)
unfolding IsBelow
below_put x k [] less below = (less, tt)
below_put x k (y ∷ ys) less below = elim (lack_cmp k y) as (λ r. IsBelow x (match_ordering r (k ∷ y ∷ ys) (y ∷ ys) (y ∷ with_lack ys k))) [
  | Less ↦ (less, below)
  | Equal ↦ below
  | Greater ↦ (below.0, below_put x k ys less below.1)
]

below_both : (k x : Lack) (ys : List Lack) → lack_cmp k x ≡ Less → IsBelow x ys → IsBelow k ys
unfolding IsBelow
below_both k x [] less below = tt
below_both k x (y ∷ ys) less below = (lack_total.trans k x y less below.0, below_both k x ys less below.1)

order_put : (k : Lack) (ys : List Lack) → AreInOrder ys → AreInOrder (with_lack ys k)
unfolding IsStrictlySortedBy IsBelow
order_put k [] rise = (tt, tt)
order_put k (y ∷ ys) rise = elim (lack_cmp k y) as (λ r. lack_cmp k y ≡ r → AreInOrder (match_ordering r (k ∷ y ∷ ys) (y ∷ ys) (y ∷ with_lack ys k))) [
  | Less ↦ λ e. ((e, below_both k y ys e rise.0), rise)
  | Equal ↦ λ e. rise
  | Greater ↦ λ e. (below_put y k ys (lack_total.antisymm y k ∙ ap ordering_reverse e) rise.0, order_put k ys rise.1)
] refl

order_puts : (xs there : List Lack) → AreInOrder there → AreInOrder (with_lacks there xs)
order_puts [] there rise = rise
order_puts (x ∷ xs) there rise = order_puts xs (with_lack there x) (order_put x there rise)

below_kept : (x : Lack) (p : Lack → Bool) (ys : List Lack) → IsBelow x ys → IsBelow x (filter p ys)
unfolding IsBelow
below_kept x p [] below = tt
below_kept x p (y ∷ ys) below = elim (p y) as (λ b. IsBelow x (cond b (y ∷ filter p ys) (filter p ys))) [ true ↦ (below.0, below_kept x p ys below.1) | false ↦ below_kept x p ys below.1 ]

order_kept : (p : Lack → Bool) (ys : List Lack) → AreInOrder ys → AreInOrder (filter p ys)
unfolding IsStrictlySortedBy IsBelow
order_kept p [] rise = rise
order_kept p (y ∷ ys) rise = elim (p y) as (λ b. AreInOrder (cond b (y ∷ filter p ys) (filter p ys))) [ true ↦ (below_kept y p ys rise.0, order_kept p ys rise.1) | false ↦ order_kept p ys rise.1 ]

pub in_order-rises : (xs : List Lack) → AreInOrder (in_order xs)
unfolding IsStrictlySortedBy
in_order-rises xs = order_puts xs [] tt

schemes_in_order : (all : List Lack) → AreInOrder all → (bodies : List Ty) → Each (λ (scheme : Scheme). AreInOrder scheme.lacks) (map (scheme_for all) bodies)
schemes_in_order all rise [] = tt
schemes_in_order all rise (body ∷ bodies) = (order_kept (λ lack. has_row lack.var body && not (has_lack (in_order (shown body)) lack)) all rise, schemes_in_order all rise bodies)

-- ---- the numbers of the variables of rows

numbers_is : (n : ℕ) (xs : List Variable) → list_any (eq_by_cmp nat_cmp n) (filter_map row_number xs) ≡ list_any (same_variable (variable.Row n)) xs
numbers_is n [] = refl
numbers_is n (variable.Plain m ∷ xs) = numbers_is n xs
numbers_is n (variable.Row m ∷ xs) = (λ i. unsigned_tied n m i || numbers_is n xs i)
numbers_is n (variable.Effects m ∷ xs) = numbers_is n xs

pub rows_are : (n : ℕ) (t : Ty) (xs : List Variable) (rows : BTreeSet ℕ) → xs ≡ [] ++ variables_of t → IsFromIterResult nat_cmp (filter_map row_number xs) rows → contains nat_cmp rows n ≡ has_row n t
rows_are n t xs rows is made = made.0 n ∙ numbers_is n xs ∙ ap (list_any (same_variable (variable.Row n))) is

-- ---- all schemes

module _ (types bodies : List Ty) (all : List Lack) (schemes : List Scheme) (members : (q : Lack) → IsIn q all ↔ IsIn q (flat_map shown types)) (rise : AreInOrder all) (made : schemes ≡ map (scheme_for all) bodies) where
  pub are_schemes : AreGeneralised types bodies schemes
  are_schemes = subst (AreGeneralised types bodies) (sym made) (all_generalised types all members bodies)

  pub are_in_order : Each (λ (scheme : Scheme). AreInOrder scheme.lacks) schemes
  are_in_order = subst (Each (λ (scheme : Scheme). AreInOrder scheme.lacks)) (sym made) (schemes_in_order all rise bodies)

pub same_members : (found xs : List Lack) → found ≡ in_order xs → (lack : Lack) → IsIn lack found ↔ IsIn lack xs
same_members found xs is lack = ((λ there. ordered_is lack xs (subst (IsIn lack) is there)), (λ there. subst (IsIn lack) (sym is) (is_ordered lack xs there)))

-- ---- schemes of types that are in order

in_order_first : (n : ℕ) (types : List Ty) → Each IsInOrder types → Each IsInOrder (take n types)
in_order_first zero types h = tt
in_order_first (suc n) [] h = tt
in_order_first (suc n) (t ∷ types) h = (h.0, in_order_first n types h.1)

bodies_in_order : (types bodies : List Ty) (schemes : List Scheme) → AreGeneralised types bodies schemes → Each (λ (scheme : Scheme). AreInOrder scheme.lacks) schemes → Each IsInOrder bodies
    → Each IsSchemeInOrder schemes
bodies_in_order types [] [] made lacks h = tt
bodies_in_order types (body ∷ bodies) (scheme ∷ schemes) made lacks h =
    ((subst IsInOrder (sym made.0.body_is) h.0, lacks.0), bodies_in_order types bodies schemes made.1 lacks.1 h.1)
bodies_in_order types [] (scheme ∷ schemes) made lacks h = absurd made
bodies_in_order types (body ∷ bodies) [] made lacks h = absurd made

pub generalised_in_order : (n : ℕ) (types : List Ty) (schemes : List Scheme) → AreGeneralised types (take n types) schemes → Each (λ (scheme : Scheme). AreInOrder scheme.lacks) schemes
    → Each IsInOrder types → Each IsSchemeInOrder schemes
generalised_in_order n types schemes made lacks h = bodies_in_order types (take n types) schemes made lacks (in_order_first n types h)
