-- Numbers that cover the nodes after a step cover those before it.
use Rattle.std.proofs.Common.{◌≡◌, ◌≢◌, ℕ, ◌+◌, ◌<◌, ◌≤◌, true, false, inl, inr, ⊎_elim, List, [], ◌∷◌, ◌++◌, length, map, refl, sym, ◌∙◌, ap, subst, arith}
use Rattle.std.proofs.lemmas.Bool.{cases_eq}
use Rattle.lk_classes.specs.Classes.{class_at}
use Rattle.lk_types.proofs.Members.{each_front, each_back}
use Rattle.lk_types.specs.Each.{Each}
use Rattle.lk_arena.proofs.Growth.{more_count, old_class, old_shape}
use Rattle.lk_arena.specs.Counting.{sum_of}
use Rattle.lk_arena.specs.Covering.{fields_count, CountLoose, Covers, CoversAll, CoversBut, EqualCounts, IsCovered, IsFlatCounted, SameCounts}
use Rattle.lk_arena.specs.Shapes.{shape_at, parts_of, is_loose_shape, IsArena}
use Rattle.lk_arena.specs.Steps.{paired}
use Rattle.lk_arena.specs.declared.node.Field.{Field}
use Rattle.lk_arena.specs.declared.node.Head.{Head}
use Rattle.lk_arena.specs.declared.node.Pair.{Pair}
use Rattle.lk_arena.specs.declared.node.Shape.{Shape}
use Rattle.lk_arena.specs.declared.node.Shape.TheVariants.{Free, Open, Empty, Made}
use Rattle.lk_arena.specs.declared.node.Shape.TheVariants as shape

pub fields_count-append : (c : ℕ → ℕ) (fs gs : List Field) → fields_count c (fs ++ gs) ≡ fields_count c fs + fields_count c gs
fields_count-append c [] gs = omega arith
fields_count-append c (f ∷ fs) gs = let ih = fields_count-append c fs gs in omega arith

-- the number of a row, by its shape
abbrev row_count : (ℕ → ℕ) → Shape → ℕ
row_count c (shape.Row fs t) = fields_count c fs + c t
row_count c _ = 0

pub row_covered : (c : ℕ → ℕ) (s : Shape) (fs : List Field) (t x : ℕ) → s ≡ shape.Row fs t → IsCovered s c x → x ≡ fields_count c fs + c t
row_covered c s fs t x is covered = subst (λ s. IsCovered s c x) is covered

-- ---- a row and the rows that its tails stand for

module _ (hole : ℕ) (shapes : List Shape) (classes : List ℕ) (arena : IsArena shapes classes) where
  same_class : (c : ℕ → ℕ) → SameCounts classes c → (i : ℕ) → i < length shapes → c i ≡ c (class_at classes i)
  same_class c same i below = same i (subst (λ n. i < n) (sym arena.named.count) below)

  tail_below : (i : ℕ) (fs : List Field) (t : ℕ) → i < length shapes → shape_at shapes i ≡ shape.Row fs t → t < length shapes
  tail_below i fs t below is = (subst (λ s. Each (λ p. p < length shapes) (parts_of s)) is (arena.nodes i below)).0

  pub counted_start : (row : ℕ) (own : List Field) (first : ℕ) → row < length shapes → shape_at shapes row ≡ shape.Row own first
      → IsFlatCounted hole shapes classes row own (class_at classes first)
  counted_start row own first below is c but same fs t other =
      let one : fields_count c fs + c t ≡ fields_count c own + c first = ap (row_count c) (sym other ∙ is) in
      let here : c first ≡ c (class_at classes first) = same_class c same first (tail_below row own first below is) in
      omega arith

  pub counted_more : (row : ℕ) (fields : List Field) (tail : ℕ) (more : List Field) (next : ℕ) → tail < length shapes → class_at classes tail ≡ tail → tail ≢ hole
      → shape_at shapes tail ≡ shape.Row more next → IsFlatCounted hole shapes classes row fields tail → IsFlatCounted hole shapes classes row (fields ++ more) (class_at classes next)
  counted_more row fields tail more next below named apart is flat c but same fs t other =
      let upper = flat c but same fs t other in
      let lower : c tail ≡ fields_count c more + c next = row_covered c (shape_at shapes tail) more next (c tail) is (but tail below named apart) in
      let here : c next ≡ c (class_at classes next) = same_class c same next (tail_below tail more next below is) in
      let all = fields_count-append c fields more in
      omega arith

-- ---- pairs

pub covers_less : (shapes : List Shape) (classes : List ℕ) (q more : List Pair) (c : ℕ → ℕ) → CoversAll shapes classes (q ++ more) c → CoversAll shapes classes q c × EqualCounts more c
covers_less shapes classes q more c covers =
    (record { nodes = covers.nodes; equal = each_front (λ p. c p.left ≡ c p.right) q more covers.equal }, each_back (λ p. c p.left ≡ c p.right) q more covers.equal)

pub covers_with : (shapes : List Shape) (classes : List ℕ) (q : List Pair) (c : ℕ → ℕ) → Covers shapes classes c → EqualCounts q c → CoversAll shapes classes q c
covers_with shapes classes q c covers equal = record { nodes = covers; equal = equal }

sum_paired : (c : ℕ → ℕ) (ps qs : List ℕ) → length ps ≡ length qs → EqualCounts (paired ps qs) c → sum_of (map c ps) ≡ sum_of (map c qs)
sum_paired c [] [] same equal = refl
sum_paired c [] (q ∷ qs) same equal = absurd (omega arith)
sum_paired c (p ∷ ps) [] same equal = absurd (omega arith)
sum_paired c (p ∷ ps) (q ∷ qs) same equal = let here = equal.0 in let rest = sum_paired c ps qs (omega arith) equal.1 in omega arith

-- ---- one of two classes that were united

-- the parts of both count the same
pub made_covered : (c : ℕ → ℕ) (s t : Shape) (h g : Head) (ps qs : List ℕ) (x : ℕ) → s ≡ Made h ps → t ≡ Made g qs → length ps ≡ length qs → EqualCounts (paired ps qs) c → IsCovered t c x
    → IsCovered s c x
made_covered c s t h g ps qs x is is' same equal covered =
    let sums = sum_paired c ps qs same equal in
    subst (λ s. IsCovered s c x) (sym is)
    (⊎_elim (λ none. inl none) (λ some. inr (omega arith)) (subst (λ t. IsCovered t c x) is' covered))

pub loose_covered : (c : ℕ → ℕ) (s : Shape) (x : ℕ) → is_loose_shape s ≡ true → 1 ≤ x → IsCovered s c x
loose_covered c Free x loose some = some
loose_covered c Open x loose some = some
loose_covered c Empty x loose some = tt
loose_covered c (Made h ps) x loose some = let f : false ≡ true = loose in cc
loose_covered c (shape.Row fs t) x loose some = let f : false ≡ true = loose in cc

-- all of them, where it holds at the one that is given up
pub covers_whole : (shapes : List Shape) (classes : List ℕ) (hole : ℕ) (c : ℕ → ℕ) → CoversBut hole shapes classes c → SameCounts classes c → CountLoose shapes c
    → IsCovered (shape_at shapes hole) c (c hole) → Covers shapes classes c
covers_whole shapes classes hole c but same loose covered = record {
  builds = λ i below named. ⊎_elim
      (λ (e : i ≡ hole). subst (λ k. IsCovered (shape_at shapes k) c (c k)) (sym e) covered)
      (λ (ne : i ≢ hole). but i below named ne)
      (cases_eq i hole);
  same = same;
  loose = loose;
}

-- ---- a node more

pub covers_push : (shapes : List Shape) (classes : List ℕ) (s : Shape) (more : List Shape) (names : List ℕ) → IsArena shapes classes → Each (λ p. p < length shapes) (parts_of s)
    → more ≡ shapes ++ s ∷ [] → names ≡ classes ++ length shapes ∷ [] → (c : ℕ → ℕ) → Covers more names c → Covers shapes classes c
covers_push shapes classes s more names arena parts is named c covers = record {
  builds = λ i below own.
      subst (λ s. IsCovered s c (c i)) (shape_is i below) (covers.builds i (longer i below) (class_is i below ∙ own));
  same = λ i below.
      let at : i < length shapes = omega (arith, count) in
      covers.same i (let n = names_count in omega (arith, n)) ∙ ap c (class_is i at);
  loose = λ i below loose. covers.loose i (longer i below) (ap is_loose_shape (shape_is i below) ∙ loose);
}
  where
    count : length classes ≡ length shapes
    count = arena.named.count

    longer : (i : ℕ) → i < length shapes → i < length more
    longer i below = let n = ap length is ∙ more_count shapes classes s arena parts in omega (arith, n)

    names_count : length names ≡ length classes + 1
    names_count = ap length named ∙ count_more classes (length shapes)
      where
        count_more : (xs : List ℕ) (x : ℕ) → length (xs ++ x ∷ []) ≡ length xs + 1
        count_more [] x = refl
        count_more (y ∷ xs) x = let ih = count_more xs x in omega arith

    shape_is : (i : ℕ) → i < length shapes → shape_at more i ≡ shape_at shapes i
    shape_is i below = ap (λ ss. shape_at ss i) is ∙ old_shape shapes classes s arena parts i below

    class_is : (i : ℕ) → i < length shapes → class_at names i ≡ class_at classes i
    class_is i below = ap (λ cs. class_at cs i) named ∙ old_class shapes classes s arena parts i below
