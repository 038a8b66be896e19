-- Names by their texts and by their places in a table's list.
use Rattle.std.proofs.Common.{◌≡◌, refl, sym, ap, ap₂, subst, ◌∙◌, rules, ℕ, zero, suc, Bool, true, false, cond, ◌==◌, List, [], ◌∷◌, length, Some, slice_get}
use Rattle.std.specs.Prelude.{bytes_eq}
use Rattle.std.proofs.lemmas.Bool.{eqb-true}
use Rattle.std.proofs.lemmas.Cmp.{nat_list_cmp_total, tied_itself}
use Rattle.std.proofs.lemmas.Map.Text.{is_eq-slice_cmp}
use Rattle.std.proofs.lemmas.Option.{none-some}
use Rattle.std.proofs.lemmas.Slice.Eq.{bytes_eq-Decides}
use Rattle.std.specs.Cmp.Lexicographic.{slice_cmp}
use Rattle.std.specs.FinMap as finite
use Rattle.std.specs.FinMap.{get-empty}
use Rattle.std.specs.List.{AllByRecursion}
use Rattle.std.specs.List.Sorted.{IsStrictlySortedBy}
use Rattle.std.specs.Ordering.{is_eq, nat_cmp}
use Rattle.std.specs.declared.cmp.Ordering.TheVariants.{Less}
use Rattle.lk_ast.specs.declared.value.Value.{Value}
use Rattle.lk_locals.specs.Names.{Names, bind, bind_each, lookup, lookup_all, no_names, with_value}
use Rattle.lk_types.proofs.Parts.{same_some}
use Rattle.lk_ir.proofs.Lookups.{bound, equal_self}
use Rattle.lk_ir.specs.Environments as numbered
use Rattle.lk_ir.specs.Environments.{Env}
use Rattle.lk_ir.specs.declared.nodes.Forms.{Forms}
use Rattle.lk_lower.specs.Lowering.{AreLocals, IsLocal}
use Rattle.lk_lowered.specs.Meeting.{AreAlike}

-- ---- each name once

below_at : {A : Type 0} (P : A → Type 0) (ys : List A) (m : ℕ) (x : A) → AllByRecursion P ys → slice_get ys m ≡ Some x → P x
below_at P [] m x all is = absurd (none-some x is)
below_at P (y ∷ ys) zero x all is = let same : y ≡ x = cc in subst P same all.0
below_at P (y ∷ ys) (suc m) x all is = below_at P ys m x all.1 is

not_below_itself : (x : List ℕ) → slice_cmp nat_cmp x x ≡ Less → ⊥
not_below_itself x less = let wrong : false ≡ true = sym (ap is_eq less) ∙ ap is_eq (tied_itself nat_list_cmp_total x) in cc

pub one_place : (xs : List (List ℕ)) → IsStrictlySortedBy (slice_cmp nat_cmp) xs → (n m : ℕ) (x : List ℕ) → slice_get xs n ≡ Some x → slice_get xs m ≡ Some x → n ≡ m
unfolding IsStrictlySortedBy
one_place [] rise n m x is also = absurd (none-some x is)
one_place (y ∷ ys) rise zero zero x is also = refl
one_place (y ∷ ys) rise zero (suc m) x is also = let same : y ≡ x = cc in absurd (not_below_itself x (subst (λ z. slice_cmp nat_cmp z x ≡ Less) same (below_at (λ z. slice_cmp nat_cmp y z ≡ Less) ys m x rise.0 also)))
one_place (y ∷ ys) rise (suc n) zero x is also = let same : y ≡ x = cc in absurd (not_below_itself x (subst (λ z. slice_cmp nat_cmp z x ≡ Less) same (below_at (λ z. slice_cmp nat_cmp y z ≡ Less) ys n x rise.0 is)))
one_place (y ∷ ys) rise (suc n) (suc m) x is also = ap suc (one_place ys rise.1 n m x is also)

-- ---- environments

swapped : (xs ys : List ℕ) → bytes_eq xs ys ≡ bytes_eq ys xs
swapped xs ys = search rules

bound_text : (x : List ℕ) (v : Value) (names : Names) (y : List ℕ) → lookup (bind x v names) y ≡ cond (bytes_eq x y) (Some v) (lookup names y)
bound_text x v names y = finite.get-insert nat_list_cmp_total names x v y ∙ ap (λ b. cond b (Some v) (lookup names y)) (is_eq-slice_cmp y x ∙ swapped y x)

pub none_alike : (f : Forms) → AreAlike f no_names numbered.no_names
none_alike f n x is = get-empty (slice_cmp nat_cmp) x ∙ sym (get-empty nat_cmp n)

pub long_locals : (f : Forms) (ns : List ℕ) (xs : List (List ℕ)) → AreLocals f ns xs → length ns ≡ length xs
long_locals f [] [] are = refl
long_locals f [] (x ∷ xs) are = absurd are
long_locals f (n ∷ ns) [] are = absurd are
long_locals f (n ∷ ns) (x ∷ xs) are = ap suc (long_locals f ns xs are.1)

pub all_alike : (f : Forms) (names : Names) (scope : Env) → AreAlike f names scope → (ns : List ℕ) (xs : List (List ℕ)) → AreLocals f ns xs → lookup_all names xs ≡ numbered.lookup_all scope ns
all_alike f names scope alike [] [] are = refl
all_alike f names scope alike [] (x ∷ xs) are = absurd are
all_alike f names scope alike (n ∷ ns) [] are = absurd are
all_alike f names scope alike (n ∷ ns) (x ∷ xs) are = ap₂ with_value (alike n x are.0) (all_alike f names scope alike ns xs are.1)

module _ (f : Forms) (rise : IsStrictlySortedBy (slice_cmp nat_cmp) f.locals) where
  pub same_test : (n m : ℕ) (x y : List ℕ) → IsLocal f n x → IsLocal f m y → bytes_eq x y ≡ (n == m)
  same_test n m x y is also = by_number (n == m) refl
    where
      apart : (n == m) ≡ false → (b : Bool) → bytes_eq x y ≡ b → b ≡ false
      apart other false same = refl
      apart other true same =
          let text : x ≡ y = (bytes_eq-Decides x y).0 same in
          let place : n ≡ m = one_place f.locals rise n m y (subst (λ z. IsLocal f n z) text is) also in
          let wrong : true ≡ false = sym (subst (λ k. (n == k) ≡ true) place (equal_self n)) ∙ other in
          cc

      by_number : (b : Bool) → (n == m) ≡ b → bytes_eq x y ≡ b
      by_number true same =
          let text : x ≡ y = same_some (sym is ∙ ap (slice_get f.locals) (eqb-true n m same) ∙ also) in
          (bytes_eq-Decides x y).1 text
      by_number false other = apart other (bytes_eq x y) refl

  -- one more name on both sides
  pub bind_alike : (names : Names) (scope : Env) → AreAlike f names scope → (n : ℕ) (x : List ℕ) (v : Value) → IsLocal f n x → AreAlike f (bind x v names) (numbered.bind n v scope)
  bind_alike names scope alike n x v is m y also =
      bound_text x v names y
      ∙ ap₂ (λ b o. cond b (Some v) o) (same_test n m x y is also) (alike m y also)
      ∙ sym (bound n v scope m)

  pub each_alike : (ns : List ℕ) (xs : List (List ℕ)) → AreLocals f ns xs → (values : List Value) (names : Names) (scope : Env) → AreAlike f names scope → AreAlike f (bind_each names xs values) (numbered.bind_each scope ns values)
  each_alike [] [] are values names scope alike = alike
  each_alike [] (x ∷ xs) are values names scope alike = absurd are
  each_alike (n ∷ ns) [] are values names scope alike = absurd are
  each_alike (n ∷ ns) (x ∷ xs) are [] names scope alike = alike
  each_alike (n ∷ ns) (x ∷ xs) are (v ∷ values) names scope alike = each_alike ns xs are.1 values (bind x v names) (numbered.bind n v scope) (bind_alike names scope alike n x v are.0)
