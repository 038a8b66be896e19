-- Lists: what holds of each element, and what letters stand for variables one after another.
use Rattle.std.proofs.Common.{◌≡◌, ℕ, ◌+◌, List, [], ◌∷◌, ◌++◌, map, length, refl, sym, subst, ap, ap₂, ◌∙◌, Some}
use native.Mathlib.Omega.{arith}
use Rattle.lk_types.specs.Grounding.{Grounding, under}
use Rattle.lk_types.specs.declared.ground.Ground.{Ground}
use Rattle.lk_types.specs.declared.ty.Ty.{Ty}
use Rattle.lk_typing.proofs.Meaning.{Letter, Stand}
use Rattle.lk_typing.specs.Law.{Become}

pub length_append : {A : Type 0} (xs ys : List A) → length (xs ++ ys) ≡ length xs + length ys
length_append [] ys = omega arith
length_append (x ∷ xs) ys = let more : length (xs ++ ys) ≡ length xs + length ys = length_append xs ys in omega arith

-- behind the letters of both
pub length_both : (ls ms : List Letter) (n : ℕ) → length ms + (length ls + n) ≡ length (ls ++ ms) + n
length_both ls ms n = let both : length (ls ++ ms) ≡ length ls + length ms = length_append ls ms in omega arith

module _ (σ : Grounding) where
  pub stand_front : (ls ms : List Letter) (n : ℕ) → Stand σ n (ls ++ ms) → Stand σ n ls
  stand_front [] ms n all = tt
  stand_front (l ∷ ls) ms n all = (all.0, stand_front ls ms (1 + n) all.1)

  pub stand_back : (ls ms : List Letter) (n : ℕ) → Stand σ n (ls ++ ms) → Stand σ (length ls + n) ms
  stand_back [] ms n all = let same : n ≡ 0 + n = omega arith in subst (λ k. Stand σ k ms) same all
  stand_back (l ∷ ls) ms n all = let same : length ls + (1 + n) ≡ length (l ∷ ls) + n = omega arith in subst (λ k. Stand σ k ms) same (stand_back ls ms (1 + n) all.1)

  pub become_both : (xs ys : List Ty) (ts us : List Ground) → Become σ xs ts → Become σ ys us → Become σ (xs ++ ys) (ts ++ us)
  become_both xs ys ts us front back = map_append (under σ) xs ys ∙ ap₂ (λ a b. a ++ b) front back ∙ sym (map_append (λ t. Some t) ts us)
    where
      map_append : {A B : Type 0} (f : A → B) (xs ys : List A) → map f (xs ++ ys) ≡ map f xs ++ map f ys
      map_append f [] ys = refl
      map_append f (x ∷ xs) ys = ap (λ r. f x ∷ r) (map_append f xs ys)

  pub become_more : (x : Ty) (xs : List Ty) (t : Ground) (ts : List Ground) → under σ x ≡ Some t → Become σ xs ts → Become σ (x ∷ xs) (t ∷ ts)
  become_more x xs t ts one more = ap₂ (λ a as'. a ∷ as') one more
