-- The first of some numbers whose type is too large.
use Rattle.std.proofs.Common.{◌≡◌, ℕ, ◌+◌, ◌<◌, true, false, not, cond, List, ◌∷◌, length, map, drop, get_or, sym, ap, ◌∙◌}
use native.Mathlib.Omega.{arith}
use Rattle.std.proofs.lemmas.List.{drop_more}
use Rattle.lk_ground_types.specs.Grounds.{at}
use Rattle.lk_mono.specs.Instances.{fits}
use Rattle.lk_mono.specs.Looks.{first_beyond}
use Rattle.lk_types.specs.declared.ground.Ground.{Ground}

module _ (ts : List Ground) where
  abbrev pub beyond : List ℕ → ℕ
  beyond ns = first_beyond (map (at ts) ns)

  fitting : (n : ℕ) (ns : List ℕ) → not (fits (at ts n)) ≡ false → beyond (n ∷ ns) ≡ 1 + beyond ns
  fitting n ns fit = ap (λ b. cond (not b) (1 + beyond ns) 0) fit

  large : (n : ℕ) (ns : List ℕ) → not (fits (at ts n)) ≡ true → beyond (n ∷ ns) ≡ 0
  large n ns is = ap (λ b. cond (not b) (1 + beyond ns) 0) is

  module _ (ns : List ℕ) (i n : ℕ) (below : i < length ns) (is : n ≡ get_or ns i 0) (so_far : beyond ns ≡ i + beyond (drop i ns)) where
    next : drop i ns ≡ n ∷ drop (i + 1) ns
    next = drop_more ns i 0 below ∙ ap (λ m. m ∷ drop (i + 1) ns) (sym is)

    pub goes_on : not (fits (at ts n)) ≡ false → beyond ns ≡ (i + 1) + beyond (drop (i + 1) ns)
    goes_on fit = let one : beyond (drop i ns) ≡ 1 + beyond (drop (i + 1) ns) = ap beyond next ∙ fitting n (drop (i + 1) ns) fit in omega (arith, so_far, one)
