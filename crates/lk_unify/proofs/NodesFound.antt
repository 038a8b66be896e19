-- Which nodes variables have once one more has a node.
use Rattle.std.proofs.Common.{◌≡◌, ◌≢◌, ℕ, zero, suc, true, false, ◌⊎◌, inl, inr, List, [], ◌∷◌, ◌++◌, get_or, Option, Some, None, cond, refl, sym, ◌∙◌, ap, arith}
use Rattle.std.proofs.lemmas.Bool.{cases_eq, cases_Bool}
use Rattle.std.proofs.lemmas.List.{get_or_past}
use Rattle.std.specs.BTreeMap.{get}
use Rattle.std.specs.Map.{lookup}
use Rattle.lk_types.proofs.SameVariable.{same_is, same_turned, test_is}
use Rattle.lk_types.specs.Variables.{same_variable}
use Rattle.lk_types.specs.contracts.ty.VariableOrd.TheImpl.{cmp-value}
use Rattle.lk_types.specs.declared.ty.Variable.{Variable}
use Rattle.lk_unify.specs.NamedNodes.{node_at, number_of}
use Rattle.lk_unify.specs.declared.named_nodes.NamedNode.{NamedNode}
use Rattle.lk_unify.specs.declared.named_nodes.NamedNodes.{NamedNodes}

-- what is behind the end is there already
pub more_of_default : {A : Type 0} (xs : List A) (d : A) (i : ℕ) → get_or (xs ++ d ∷ []) i d ≡ get_or xs i d
more_of_default [] d zero = refl
more_of_default [] d (suc i) = refl
more_of_default (x ∷ xs) d zero = refl
more_of_default (x ∷ xs) d (suc i) = more_of_default xs d i

abbrev pub found_by : List (Option NamedNode) → List (Variable × ℕ) → Variable → Option ℕ
found_by places others q = node_at (get_or places (number_of q) None) q (lookup (same_variable q) others)

-- before any has a node
pub none_found : (places : List (Option NamedNode)) (others : List (Variable × ℕ)) → places ≡ [] → others ≡ [] → (x : Variable) → found_by places others x ≡ None
none_found places others free none x =
    ap (λ places. found_by places others x) free ∙ ap (λ o. node_at o x (lookup (same_variable x) others)) (get_or_past [] (number_of x) None (omega arith)) ∙ ap (lookup (same_variable x)) none

-- what the map finds
pub others_is : (names : NamedNodes) (x : Variable) → get cmp-value.it names.others x ≡ lookup (same_variable x) names.others.entries
others_is names x = ap (λ test. lookup test names.others.entries) (test_is x)

-- a place that was free is filled
module _ (old new : List (Option NamedNode)) (others : List (Variable × ℕ)) (x : Variable) (k : ℕ) (free : get_or old (number_of x) None ≡ None)
    (here : get_or new (number_of x) None ≡ Some (record { variable = x; node = k })) (there : (i : ℕ) → i ≢ number_of x → get_or new i None ≡ get_or old i None) where
  abbrev other : Variable → Option ℕ
  other q = lookup (same_variable q) others

  filled : (q : Variable) → number_of q ≡ number_of x → found_by new others q ≡ cond (same_variable x q) (Some k) (other q)
  filled q is =
      ap (λ o. node_at o q (other q)) (ap (λ n. get_or new n None) is ∙ here) ∙ ap (λ b. cond b (Some k) (other q)) (same_turned q x)

  pub put_at : (q : Variable) → found_by new others q ≡ cond (same_variable x q) (Some k) (found_by old others q)
  put_at q = by_number (cases_eq (number_of q) (number_of x))
    where
      apart : (number_of q ≢ number_of x) → same_variable x q ≡ false
      apart differ = by_test (cases_Bool (same_variable x q))
        where
          by_test : (same_variable x q ≡ true) ⊎ (same_variable x q ≡ false) → same_variable x q ≡ false
          by_test (inl t) = absurd (differ (ap number_of (sym (same_is x q t))))
          by_test (inr f) = f

      by_number : (number_of q ≡ number_of x) ⊎ (number_of q ≢ number_of x) → found_by new others q ≡ cond (same_variable x q) (Some k) (found_by old others q)
      by_number (inl is) =
          filled q is ∙ ap (cond (same_variable x q) (Some k)) (sym (ap (λ o. node_at o q (other q)) (ap (λ n. get_or old n None) is ∙ free)))
      by_number (inr differ) =
          ap (λ o. node_at o q (other q)) (there (number_of q) differ) ∙ sym (ap (λ b. cond b (Some k) (found_by old others q)) (apart differ))

-- the map has one more, which had no node
module _ (places : List (Option NamedNode)) (old new : List (Variable × ℕ)) (x : Variable) (k : ℕ) (none : found_by places old x ≡ None)
    (more : (q : Variable) → lookup (same_variable q) new ≡ cond (same_variable x q) (Some k) (lookup (same_variable q) old)) where
  pub put_by : (q : Variable) → found_by places new q ≡ cond (same_variable x q) (Some k) (found_by places old q)
  put_by q = by_place (get_or places (number_of q) None) refl
    where
      by_place : (o : Option NamedNode) → get_or places (number_of q) None ≡ o →
          node_at o q (lookup (same_variable q) new) ≡ cond (same_variable x q) (Some k) (node_at o q (lookup (same_variable q) old))
      by_place None is = more q
      by_place (Some found) is = by_test (cases_Bool (same_variable q found.variable)) (cases_Bool (same_variable x q))
        where
          by_test : (same_variable q found.variable ≡ true) ⊎ (same_variable q found.variable ≡ false) → (same_variable x q ≡ true) ⊎ (same_variable x q ≡ false) →
              cond (same_variable q found.variable) (Some found.node) (lookup (same_variable q) new) ≡
              cond (same_variable x q) (Some k) (cond (same_variable q found.variable) (Some found.node) (lookup (same_variable q) old))
          by_test (inr f) cases =
              ap (λ b. cond b (Some found.node) (lookup (same_variable q) new)) f ∙ more q ∙
              sym (ap (λ b. cond (same_variable x q) (Some k) (cond b (Some found.node) (lookup (same_variable q) old))) f)
          by_test (inl t) (inr f) =
              ap (λ b. cond b (Some found.node) (lookup (same_variable q) new)) t ∙
              sym (ap (λ b. cond b (Some k) (cond (same_variable q found.variable) (Some found.node) (lookup (same_variable q) old))) f
              ∙ ap (λ b. cond b (Some found.node) (lookup (same_variable q) old)) t)
          by_test (inl t) (inl same) =
              let here : found_by places old q ≡ Some found.node =
              ap (λ o. node_at o q (lookup (same_variable q) old)) is ∙ ap (λ b. cond b (Some found.node) (lookup (same_variable q) old)) t in
              let clash : None ≡ Some found.node = sym none ∙ ap (found_by places old) (same_is x q same) ∙ here in
              cc
