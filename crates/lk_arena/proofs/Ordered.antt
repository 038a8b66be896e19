-- What ranks of all classes say. A class without a rank that no sweep can rank has no value: a type would be a part of itself.
use Rattle.lk_types.proofs.Members.{each_weaker}
use Rattle.std.proofs.Common.{◌≡◌, ℕ, zero, suc, ◌<◌, List, length, refl, ap, arith, Option, None}
use Rattle.std.specs.Prelude.{IsSome, unwrap_or, replicate}
use Rattle.lk_arena.proofs.EachLemmas.{Each-zip, OneOf-with, OneOf-none}
use Rattle.lk_arena.proofs.Ranks.{some_of}
use Rattle.lk_arena.proofs.Sizes.{value_size, parts_smaller}
use Rattle.lk_arena.specs.Order.{rank_at, HasRankBelow, IsRanked, IsPartlyRanked, IsStuck, unknown}
use Rattle.lk_classes.specs.Classes.{class_at, AreClasses}
use Rattle.lk_arena.specs.Shapes.{shape_at, parts_of, fields_in, AreNodes, IsDistinct, HasFields, FitsNodes, NeverFits}
use Rattle.lk_arena.specs.Values.{Value}
use Rattle.lk_arena.specs.declared.node.Shape.{Shape}

abbrev pub rank_of : List (Option ℕ) → ℕ → ℕ
rank_of ranks i = unwrap_or (rank_at ranks i) 0

pub IsRanked-from_partly :
    (shapes : List Shape) (classes : List ℕ) (ranks : List (Option ℕ)) (next : ℕ) → length classes ≡ length shapes → IsPartlyRanked shapes classes ranks next →
    ((i : ℕ) → i < length classes → class_at classes i ≡ i → IsSome (rank_at ranks i)) → IsRanked shapes classes (rank_of ranks)
IsRanked-from_partly shapes classes ranks next count ranked known i h named =
    let o = some_of (rank_at ranks i) (known i (omega arith) named) in
    let r : rank_of ranks i ≡ o.0 = ap (λ o. unwrap_or o 0) o.1 in
    each_weaker (λ p. HasRankBelow ranks o.0 (class_at classes p)) (λ p. rank_of ranks (class_at classes p) < rank_of ranks i)
    (λ p b. let e : rank_of ranks (class_at classes p) ≡ b.0 = ap (λ o. unwrap_or o 0) b.1 in let l : b.0 < o.0 = b.2 in omega arith)
    (parts_of (shape_at shapes i)) (ranked i o.0 h o.1).1

module _ (shapes : List Shape) (classes : List ℕ) (ranks : List (Option ℕ)) (nodes : AreNodes shapes) (named : AreClasses (length shapes) classes)
    (distinct : (i : ℕ) → i < length shapes → IsDistinct (fields_in (shape_at shapes i))) (some : (i : ℕ) → i < length shapes → HasFields (shape_at shapes i))
    (stuck : IsStuck shapes classes ranks) (v : ℕ → Value) (fits : FitsNodes shapes classes v) where
  -- the class of a node whose class has no rank has a value as small
  no_value : (n i : ℕ) → value_size (v i) < n → i < length shapes → class_at classes i ≡ i → rank_at ranks i ≡ None → ⊥
  no_value zero i l b c e = omega arith
  no_value (suc n) i l b c e =
      OneOf-none
      (λ p. (rank_at ranks (class_at classes p) ≡ None) × (value_size (v p) < value_size (v i)) × (p < length shapes))
      (λ p h.
      let same : v p ≡ v (class_at classes p) = fits.respects p (let e : length classes ≡ length shapes = named.count in let q = h.2 in omega arith) in
      let size : value_size (v p) ≡ value_size (v (class_at classes p)) = ap value_size same in
      let less : value_size (v p) < value_size (v i) = h.1 in
      no_value n (class_at classes p) (omega arith) (named.below p h.2) (named.named p h.2) h.0)
      (parts_of (shape_at shapes i))
      (OneOf-with (λ p. rank_at ranks (class_at classes p) ≡ None) (λ p. (value_size (v p) < value_size (v i)) × (p < length shapes))
      (λ p. (rank_at ranks (class_at classes p) ≡ None) × (value_size (v p) < value_size (v i)) × (p < length shapes)) (λ p a q. (a, q.0, q.1))
      (parts_of (shape_at shapes i)) (stuck i b c e)
      (Each-zip (λ p. value_size (v p) < value_size (v i)) (λ p. p < length shapes) (λ p. (value_size (v p) < value_size (v i)) × (p < length shapes)) (λ p a q. (a, q))
      (parts_of (shape_at shapes i)) (parts_smaller (shape_at shapes i) v (v i) (distinct i b) (some i b) (fits.builds i b)) (nodes i b)))

pub NeverFits-from_stuck :
    (shapes : List Shape) (classes : List ℕ) (ranks : List (Option ℕ)) → AreNodes shapes → AreClasses (length shapes) classes →
    ((i : ℕ) → i < length shapes → IsDistinct (fields_in (shape_at shapes i))) → ((i : ℕ) → i < length shapes → HasFields (shape_at shapes i)) → IsStuck shapes classes ranks →
    (i : ℕ) → i < length classes → class_at classes i ≡ i → rank_at ranks i ≡ None → NeverFits shapes classes
NeverFits-from_stuck shapes classes ranks nodes named distinct some stuck i h n e v fits =
    no_value shapes classes ranks nodes named distinct some stuck v fits (suc (value_size (v i))) i (omega arith) (let c : length classes ≡ length shapes = named.count in omega arith) n e

pub rank_at-none : (n i : ℕ) → rank_at (replicate n None) i ≡ None
rank_at-none zero i = refl
rank_at-none (suc n) zero = refl
rank_at-none (suc n) (suc i) = rank_at-none n i

pub unknown-none : (n : ℕ) → unknown (replicate n None) ≡ n
unknown-none zero = refl
unknown-none (suc n) = ap suc (unknown-none n)
