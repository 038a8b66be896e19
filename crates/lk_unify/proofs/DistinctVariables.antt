-- The variables of a set that was made of a list: each of the list and no other.
use Rattle.std.proofs.Common.{◌≡◌, ◌⊎◌, inl, inr, Bool, true, false, ◌||◌, List, [], ◌∷◌, sym, ◌∙◌, ap, refl, subst}
use Rattle.std.specs.BTreeSet.{BTreeSet, IsFromIterResult}
use Rattle.std.specs.List.{list_any}
use Rattle.std.specs.Ordering.{eq_by_cmp}
use Rattle.std.proofs.lemmas.Bool.{cases_Bool}
use Rattle.lk_types.proofs.Members.{each_of_in}
use Rattle.lk_types.proofs.SameVariable.{agrees, same_self, same_sym}
use Rattle.lk_types.specs.Each.{Each, OneOf}
use Rattle.lk_types.specs.Variables.{same_variable}
use Rattle.lk_types.specs.declared.ty.Variable.{Variable}
use Rattle.lk_unify.specs.Images.{variable_order}

abbrev has : Variable → List Variable → Bool
has x xs = list_any (eq_by_cmp variable_order x) xs

there : (x : Variable) (xs : List Variable) → OneOf (λ y. y ≡ x) xs → has x xs ≡ true
there x [] one = absurd one
there x (y ∷ xs) (inl is) = ap (λ b. b || has x xs) (agrees x y ∙ ap (same_variable x) is ∙ same_self x)
there x (y ∷ xs) (inr one) = ap (λ b. eq_by_cmp variable_order x y || b) (there x xs one) ∙ or_true (eq_by_cmp variable_order x y)
  where
    or_true : (b : Bool) → (b || true) ≡ true
    or_true true = refl
    or_true false = refl

back : (x : Variable) (xs : List Variable) → has x xs ≡ true → OneOf (λ y. y ≡ x) xs
back x [] is = let f : false ≡ true = is in cc
back x (y ∷ xs) is = by_test (cases_Bool (same_variable x y)) (back x xs)
  where
    by_test : ((same_variable x y ≡ true) ⊎ (same_variable x y ≡ false)) → (has x xs ≡ true → OneOf (λ y. y ≡ x) xs) → OneOf (λ y. y ≡ x) (y ∷ xs)
    by_test (inl t) ih = inl (same_sym x y t)
    by_test (inr f) ih = inr (ih (sym (ap (λ b. b || has x xs) (agrees x y ∙ f)) ∙ is))

-- a list of what is in the set
module _ (xs : List Variable) (set : BTreeSet Variable) (made : IsFromIterResult variable_order xs set) (items : List Variable) (are : items ≡ set.keys) where
  pub has_all : Each (λ x. OneOf (λ y. y ≡ x) items) xs
  has_all = subst (λ items. Each (λ x. OneOf (λ y. y ≡ x) items) xs) (sym are) (each_of_in (λ x. OneOf (λ y. y ≡ x) set.keys) xs (λ x one. back x set.keys (made.0 x ∙ there x xs one)))

  pub has_only : Each (λ x. OneOf (λ y. y ≡ x) xs) items
  has_only = subst (Each (λ x. OneOf (λ y. y ≡ x) xs)) (sym are) (each_of_in (λ x. OneOf (λ y. y ≡ x) xs) set.keys (λ x one. back x xs (sym (made.0 x) ∙ there x set.keys one)))
