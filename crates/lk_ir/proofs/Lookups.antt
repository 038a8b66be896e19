-- What environments by numbers answer.
use Rattle.std.proofs.Common.{◌≡◌, refl, sym, ap, ap₂, subst, ◌∙◌, ℕ, Bool, true, false, cond, ◌==◌, List, [], ◌∷◌, Some, None, arith}
use Rattle.std.specs.Prelude.{◌||◌}
use Rattle.std.proofs.lemmas.Bool.{eqb-true}
use Rattle.std.proofs.lemmas.Bool.Decides.{nat_tests}
use Rattle.std.proofs.lemmas.Cmp.{nat_cmp_total, tied_itself}
use Rattle.std.specs.FinMap as finite
use Rattle.std.specs.FinMap.{nat_cmp-IsAntisymmetric}
use Rattle.std.specs.Ordering.{eq_by_cmp, is_eq, nat_cmp}
use Rattle.std.specs.declared.cmp.Ordering.{Ordering}
use Rattle.std.specs.declared.cmp.Ordering.TheVariants.{Less, Equal, Greater}
use Rattle.lk_ast.specs.declared.value.Value.{Value}
use Rattle.lk_locals.specs.Names.{with_value}
use Rattle.lk_ir.specs.Continuing.{is_among, only}
use Rattle.lk_ir.specs.Environments.{Env, bind, lookup, lookup_all}
use Rattle.lk_ir.specs.Uses as relation
use Rattle.lk_ir.specs.Uses.{Among}

-- ---- tests

pub equal_self : (n : ℕ) → (n == n) ≡ true
equal_self n = grind (arith, nat_tests)

pub not_equal : (n m : ℕ) → (n ≡ m → ⊥) → (n == m) ≡ false
not_equal n m apart = grind (arith, nat_tests)

tied : (r : Ordering) → is_eq r ≡ true → r ≡ Equal
tied Equal is = refl
tied Less is = let wrong : false ≡ true = is in cc
tied Greater is = let wrong : false ≡ true = is in cc

test_is : (n m : ℕ) → eq_by_cmp nat_cmp n m ≡ (m == n)
test_is n m = by_test (m == n) refl
  where
    by_other : (b : Bool) → (m == n) ≡ false → eq_by_cmp nat_cmp n m ≡ b → b ≡ false
    by_other false other is = refl
    by_other true other is =
        let same : m ≡ n = sym (nat_cmp-IsAntisymmetric n m (tied (nat_cmp n m) is)) in
        let wrong : true ≡ false = sym (subst (λ k. (m == k) ≡ true) same (equal_self m)) ∙ other in
        cc

    by_test : (b : Bool) → (m == n) ≡ b → eq_by_cmp nat_cmp n m ≡ b
    by_test true same = subst (λ k. eq_by_cmp nat_cmp n k ≡ true) (sym (eqb-true m n same)) (ap is_eq (tied_itself nat_cmp_total n))
    by_test false other = by_other (eq_by_cmp nat_cmp n m) other refl

-- ---- environments

pub same_names : (names others : Env) → ((x : ℕ) → lookup names x ≡ lookup others x) → names ≡ others
same_names names others is = finite.same_map nat_cmp_total nat_cmp-IsAntisymmetric names others is

pub bound : (x : ℕ) (v : Value) (names : Env) (y : ℕ) → lookup (bind x v names) y ≡ cond (x == y) (Some v) (lookup names y)
bound x v names y = finite.get-insert nat_cmp_total names x v y ∙ ap (λ b. cond b (Some v) (lookup names y)) (test_is y x)

pub only_lookup : (xs : List ℕ) (names : Env) (x : ℕ) → lookup (only xs names) x ≡ cond (is_among xs x) (lookup names x) None
only_lookup xs names x = finite.get-retain_keys names (is_among xs) x (λ y tie. ap (is_among xs) (sym (nat_cmp-IsAntisymmetric x y tie)))

among_is : (x : ℕ) (xs : List ℕ) → Among x xs → is_among xs x ≡ true
among_is x _ (relation.here {xs = xs}) = ap (λ b. b || is_among xs x) (equal_self x)
among_is x _ (relation.later {y = y} {xs = xs} among) = ap (λ b. (y == x) || b) (among_is x xs among) ∙ or_true (y == x)
  where
    or_true : (b : Bool) → (b || true) ≡ true
    or_true true = refl
    or_true false = refl

pub only_keeps : (xs : List ℕ) (names : Env) (x : ℕ) → Among x xs → lookup (only xs names) x ≡ lookup names x
only_keeps xs names x there = only_lookup xs names x ∙ ap (λ b. cond b (lookup names x) None) (among_is x xs there)

pub looked_up : (a b : Env) (xs : List ℕ) → ((x : ℕ) → Among x xs → lookup a x ≡ lookup b x) → lookup_all a xs ≡ lookup_all b xs
looked_up a b [] same = refl
looked_up a b (x ∷ xs) same = ap₂ with_value (same x relation.here) (looked_up a b xs (λ y there. same y (relation.later there)))
