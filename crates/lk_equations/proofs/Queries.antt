-- What is said of a query, step by step.
use Rattle.std.proofs.Common.{◌≡◌, ◌∙◌, ap, arith, length, refl, ℕ, suc, ◌+◌, Bool, not, List, [], ◌∷◌, ◌++◌}
use Rattle.std.proofs.lemmas.Bool.{ne_eqb}
use Rattle.std.proofs.lemmas.List.{append_assoc}
use Rattle.std.specs.Prelude.{◌==◌}
use Rattle.lk_ast.specs.declared.expression.SortKey.{SortKey}
use Rattle.lk_types.specs.declared.equation.Equation.{Equation}
use Rattle.lk_types.specs.declared.ty.Effect.TheVariants as effect
use Rattle.lk_types.specs.declared.ty.Effects.{Effects}
use Rattle.lk_types.specs.declared.ty.Ty.{Ty}
use Rattle.lk_types.specs.declared.ty.Ty.TheVariants as ty
use Rattle.lk_typing.specs.Typing.{is_there}
use Rattle.lk_typing.specs.Unknowns.{has, same}
use Rattle.lk_typing.specs.Walk.{Told, told, has_if, keys_told}
use Rattle.lk_equations.specs.Forms.{query_told}

tested : (keys : List SortKey) → not (length keys == 0) ≡ is_there keys
tested [] = refl
tested (k ∷ keys) = ap not (ne_eqb (length (k ∷ keys)) 0 (some (length keys)))
  where
    some : (m : ℕ) → suc m ≡ 0 → ⊥
    some m is = omega arith

module _ (keys : List SortKey) (effects : Effects) (body : Ty) (n : ℕ) where
  abbrev by_client : Told → Told
  by_client x = has_if (is_there keys) effects effect.Local (1 + x.next)

  abbrev said : Told → Told → Told
  said x y = told (same body (ty.List (ty.Var n)) ∷ (x.equations ++ has effects effect.Scan x.next ∷ y.equations)) y.next

  pub query_said : (m behind : ℕ) (ordered by : Told) (b : Bool) (e s : Equation) (first front more all : List Equation) → e ≡ same body (ty.List (ty.Var n)) → first ≡ e ∷ [] → m ≡ 1 + n → ordered ≡ keys_told body keys m
      → s ≡ has effects effect.Scan ordered.next → behind ≡ 1 + ordered.next → b ≡ (length keys == 0) → by ≡ has_if (not b) effects effect.Local behind → front ≡ first ++ ordered.equations → more ≡ front ++ s ∷ [] → all ≡ more ++ by.equations
      → told all by.next ≡ query_told keys effects body n
  query_said m behind ordered by b e s first front more all e_is first_is m_is ordered_is s_is behind_is empty by_is front_is more_is all_is =
      ap (λ x. told x by.next) (all_is ∙ ap (λ x. x ++ by.equations) (more_is ∙ ap (λ x. x ++ s ∷ []) (front_is ∙ ap (λ x. x ++ ordered.equations) first_is)) ∙ ap (λ x. e ∷ x) (append_assoc ordered.equations (s ∷ []) by.equations))
      ∙ (λ i. told (e_is i ∷ (ordered.equations ++ s_is i ∷ by.equations)) by.next)
      ∙ ap (said ordered) (by_is ∙ (λ i. has_if ((ap not empty ∙ tested keys) i) effects effect.Local (behind_is i)))
      ∙ ap (λ x. said x (by_client x)) (ordered_is ∙ ap (keys_told body keys) m_is)
