-- The variables that have nodes, one after another.
use Rattle.std.proofs.Common.{◌≡◌, ℕ, ◌+◌, ◌<◌, List, [], ◌∷◌, ◌++◌, append_assoc, append-nil, flat_map, length, take, get_or, sym, ◌∙◌, ap, Some, None}
use Rattle.std.proofs.lemmas.List.{take_more}
use Rattle.lk_classes.specs.Classes.{class_at}
use Rattle.lk_types.specs.declared.equation.Binding.{Binding}
use Rattle.lk_types.specs.declared.equation.Image.{Image}
use Rattle.lk_types.specs.declared.ty.Variable.{Variable}
use Rattle.lk_arena.specs.Kinds.{Kind}
use Rattle.lk_unify.specs.Loading.{node_for, kind_of, IsLoader, IsKinded}
use Rattle.lk_arena.specs.Order.{IsRanked}
use Rattle.lk_unify.specs.NamedNodes.{number_of}
use Rattle.lk_unify.specs.Reading.{CanRead, binding_by, image_of, subst_of}
use Rattle.lk_arena.specs.Values.{Value}
use Rattle.lk_unify.specs.declared.loader.Loader.{Loader}

flat_last : {A B : Type 0} (f : A → List B) (xs : List A) (x : A) → flat_map f (xs ++ x ∷ []) ≡ flat_map f xs ++ f x
flat_last f [] x = append-nil (f x)
flat_last f (y ∷ xs) x = ap (λ zs. f y ++ zs) (flat_last f xs x) ∙ sym (append_assoc (f y) (flat_map f xs) (f x))

-- one variable more
module _ (l : Loader) (u : ℕ → Value) (xs : List Variable) (i : ℕ) (d : Variable) (below : i < length xs) where
  abbrev x : Variable
  x = get_or xs i d

  more : (old : List Binding) → old ≡ (subst_of (take i xs) l u).binds → old ++ binding_by x u (node_for l x) ≡ (subst_of (take (i + 1) xs) l u).binds
  more old before =
      ap (λ bs. bs ++ binding_by x u (node_for l x)) before
      ∙ sym (flat_last (λ y. binding_by y u (node_for l y)) (take i xs) x)
      ∙ ap (λ ys. flat_map (λ y. binding_by y u (node_for l y)) ys) (sym (take_more xs i d below))

  pub binds_none : (old : List Binding) → node_for l (get_or xs i d) ≡ None → old ≡ (subst_of (take i xs) l u).binds → old ≡ (subst_of (take (i + 1) xs) l u).binds
  binds_none old none before = sym (append-nil old) ∙ ap (λ o. old ++ binding_by x u o) (sym none) ∙ more old before

  pub binds_some : (old new : List Binding) (n number : ℕ) (image : Image) → node_for l (get_or xs i d) ≡ Some n → new ≡ old ++ record { var = number; is = image } ∷ [] →
      number ≡ number_of (get_or xs i d) → image ≡ image_of (get_or xs i d) (u n) → old ≡ (subst_of (take i xs) l u).binds → new ≡ (subst_of (take (i + 1) xs) l u).binds
  binds_some old new n number image some pushed m is before =
      pushed ∙ (λ i. old ++ record { var = m i; is = is i } ∷ []) ∙ ap (λ o. old ++ binding_by x u o) (sym some) ∙ more old before

-- a node of a variable can be read
pub named_can : (l : Loader) (numbers : List ℕ) (fuel : ℕ) → IsLoader l → (kind : ℕ → Kind) × IsKinded l kind → length numbers ≡ length l.arena.shapes →
    (rank : ℕ → ℕ) × IsRanked l.arena.shapes l.arena.classes rank × ((i : ℕ) → i < length l.arena.shapes → rank i < fuel) →
    (x : Variable) (n : ℕ) → node_for l x ≡ Some n → CanRead l.arena numbers fuel n (kind_of x)
named_can l numbers fuel whole kinds count ranks x n is = record {
  arena = whole.arena;
  count = count;
  below = whole.named x n is;
  kind = kinds.0;
  kinded = kinds.1.nodes;
  kind_is = kinds.1.named x n is;
  rank = ranks.0;
  ranked = ranks.1;
  room = ranks.2 (class_at l.arena.classes n) (whole.arena.named.below n (whole.named x n is));
}
