-- Numbers of which some matter, by the sizings beside them: all within what a type may have, or one beyond.
use Rattle.std.proofs.Common.{◌≡◌, ℕ, zero, suc, ◌+◌, ◌<◌, ◌≤◌, true, inl, inr, List, [], ◌∷◌, ◌++◌, length, map, take, get_or, Option, Some, None, refl, sym, ◌∙◌, ap, subst, arith}
use Rattle.std.specs.Prelude.{replicate}
use Rattle.lk_classes.specs.Classes.{class_at}
use Rattle.lk_types.specs.Sizes.{most_nodes}
use Rattle.lk_types.specs.declared.ty.Ty.{Ty}
use Rattle.lk_unify.proofs.OpenCounts.{count_nodes}
use Rattle.lk_arena.specs.Counting.{counted, end_at, AreCountsOf}
use Rattle.lk_arena.specs.Shapes.{shape_at}
use Rattle.lk_arena.specs.declared.counting.Count.{Count}
use Rattle.lk_arena.specs.declared.node.Shape.{Shape}
use Rattle.lk_unify.specs.Constraints.{matters, AreFew, AreTooMany}
use Rattle.lk_unify.specs.Nodes.{count}
use Rattle.lk_unify.specs.SideSizes.{is_late, last_by, sizings_of, AreAllWithin, CountFew, CountMany, IsOneBeyond}
use Rattle.lk_unify.specs.declared.constraint.Constraint.{Constraint}
use Rattle.lk_unify.specs.declared.constraint.Sizing.{Sizing}
use Rattle.lk_unify.specs.declared.constraint.Sizing.TheVariants.{Always, Late, Never}
use Rattle.lk_unify.specs.declared.solvable.Loaded.{Loaded}

-- ---- which matter

-- it is enough to know of the last whether it is late
pub by_late : (s t : Sizing) → matters (last_by (is_late s)) t ≡ matters (Some s) t
by_late Always Always = refl
by_late Always Late = refl
by_late Always Never = refl
by_late Late Always = refl
by_late Late Late = refl
by_late Late Never = refl
by_late Never Always = refl
by_late Never Late = refl
by_late Never Never = refl

-- what matters at all matters where the last is late
pub most_late : (end : Option Sizing) (t : Sizing) → matters end t ≡ true → matters (Some Late) t ≡ true
most_late end Always e = refl
most_late end Late e = refl
most_late None Never e = e
most_late (Some Always) Never e = e
most_late (Some Late) Never e = e
most_late (Some Never) Never e = e

-- ---- one number after another

module _ (end : Option Sizing) (f : ℕ → ℕ) (d : Sizing) where
  within_next : (ss : List Sizing) (ns : List ℕ) (i : ℕ) → i < length ss → i < length ns → AreAllWithin end (take i ss) (map f (take i ns)) →
      (matters end (get_or ss i d) ≡ true → f (get_or ns i 0) ≤ most_nodes) → AreAllWithin end (take (suc i) ss) (map f (take (suc i) ns))
  within_next [] ns i below under all one = absurd (omega arith)
  within_next (s ∷ ss) [] i below under all one = absurd (omega arith)
  within_next (s ∷ ss) (n ∷ ns) zero below under all one = (one, tt)
  within_next (s ∷ ss) (n ∷ ns) (suc i) below under all one = (all.0, within_next ss ns i (omega arith) (omega arith) all.1 one)

  pub within_more : (ss : List Sizing) (ns : List ℕ) (i : ℕ) → i < length ss → i < length ns → AreAllWithin end (take i ss) (map f (take i ns)) →
      (matters end (get_or ss i d) ≡ true → f (get_or ns i 0) ≤ most_nodes) → AreAllWithin end (take (i + 1) ss) (map f (take (i + 1) ns))
  within_more ss ns i below under all one =
      subst (λ k. AreAllWithin end (take k ss) (map f (take k ns))) (let next : suc i ≡ i + 1 = omega arith in next) (within_next ss ns i below under all one)

  pub beyond_at : (ss : List Sizing) (ns : List ℕ) (i : ℕ) → i < length ss → i < length ns → matters end (get_or ss i d) ≡ true → most_nodes < f (get_or ns i 0) → IsOneBeyond end ss (map f ns)
  beyond_at [] ns i below under is more = absurd (omega arith)
  beyond_at (s ∷ ss) [] i below under is more = absurd (omega arith)
  beyond_at (s ∷ ss) (n ∷ ns) zero below under is more = inl (is, more)
  beyond_at (s ∷ ss) (n ∷ ns) (suc i) below under is more = inr (beyond_at ss ns i (omega arith) (omega arith) is more)

-- the first of them
pub within_first : (end : Option Sizing) (f : ℕ → ℕ) (k : ℕ) (ss : List Sizing) (ns rest : List ℕ) → AreAllWithin end ss (map f (ns ++ rest)) → AreAllWithin end (take k ss) (map f ns)
within_first end f zero ss ns rest all = tt
within_first end f (suc k) [] ns rest all = tt
within_first end f (suc k) (s ∷ ss) [] rest all = tt
within_first end f (suc k) (s ∷ ss) (n ∷ ns) rest all = (all.0, within_first end f k ss ns rest all.1)

-- it is enough to look at as many numbers
pub within_of_first : (end : Option Sizing) (f : ℕ → ℕ) (i : ℕ) (ss : List Sizing) (ns : List ℕ) → AreAllWithin end (take i ss) (map f (take i ns)) → AreAllWithin end (take i ss) (map f ns)
within_of_first end f zero ss ns all = tt
within_of_first end f (suc i) [] ns all = tt
within_of_first end f (suc i) (s ∷ ss) [] all = tt
within_of_first end f (suc i) (s ∷ ss) (n ∷ ns) all = (all.0, within_of_first end f i ss ns all.1)

-- where fewer sizes matter
module _ (end less : Option Sizing) (fewer : (s : Sizing) → matters less s ≡ true → matters end s ≡ true) where
  pub within_less : (ss : List Sizing) (ns : List ℕ) → AreAllWithin end ss ns → AreAllWithin less ss ns
  within_less [] ns all = tt
  within_less (s ∷ ss) [] all = tt
  within_less (s ∷ ss) (n ∷ ns) all = ((λ m. all.0 (fewer s m)), within_less ss ns all.1)

  pub beyond_more : (ss : List Sizing) (ns : List ℕ) → IsOneBeyond less ss ns → IsOneBeyond end ss ns
  beyond_more [] ns one = one
  beyond_more (s ∷ ss) [] one = one
  beyond_more (s ∷ ss) (n ∷ ns) (inl is) = inl (fewer s is.0, is.1)
  beyond_more (s ∷ ss) (n ∷ ns) (inr one) = inr (beyond_more ss ns one)

-- ---- as sizes of types

module _ (end : Option Sizing) where
  pub few : (cs : List Constraint) (types : List Ty) → AreAllWithin end (sizings_of cs) (map (count 0) types) → AreFew end cs types
  few [] types all = tt
  few (c ∷ cs) [] all = tt
  few (c ∷ cs) (t ∷ ts) all = ((λ (e : matters end c.sizing ≡ true). subst (λ n. n ≤ most_nodes) (count_nodes t) (all.0 e)), few cs ts all.1)

  pub too_many : (cs : List Constraint) (types : List Ty) → IsOneBeyond end (sizings_of cs) (map (count 0) types) → AreTooMany end cs types
  too_many [] types one = one
  too_many (c ∷ cs) [] one = one
  too_many (c ∷ cs) (t ∷ ts) (inl is) = inl (is.0, subst (λ n. most_nodes < n) (count_nodes t) is.1)
  too_many (c ∷ cs) (t ∷ ts) (inr one) = inr (too_many cs ts one)

-- ---- as counts of classes

none_at : (n c : ℕ) → end_at (replicate n 0) c ≡ 0
none_at zero c = refl
none_at (suc n) zero = refl
none_at (suc n) (suc c) = none_at n c

-- a list of noughts is as good as their function
none_counts : (n : ℕ) (shapes : List Shape) (classes : List ℕ) (counts : List Count) → AreCountsOf (end_at (replicate n 0)) shapes classes counts → AreCountsOf (λ p. 0) shapes classes counts
none_counts n shapes classes counts are kind f kinded counted_f i below =
    are kind f kinded (λ j under. counted_f j under ∙ ap (λ e. counted e (kind j) (shape_at shapes (class_at classes j)) f) (sym (none_at n (class_at classes j)))) i below

module _ (n : ℕ) (end : Option Sizing) (all : Loaded) (ss : List Sizing) where
  pub none_few : CountFew (end_at (replicate n 0)) end all ss → CountFew (λ p. 0) end all ss
  none_few few = (few.0, none_counts n all.loader.arena.shapes all.loader.arena.classes few.0 few.1, few.2)

  pub none_many : CountMany (end_at (replicate n 0)) end all ss → CountMany (λ p. 0) end all ss
  none_many many = (many.0, none_counts n all.loader.arena.shapes all.loader.arena.classes many.0 many.1, many.2)
