-- Two rows count the same where their common fields do, and each tail counts what the other row has besides and one number.
use Rattle.std.proofs.Common.{◌≡◌, ℕ, ◌+◌, true, false, ⊎_elim, List, [], ◌∷◌, refl, sym, ◌∙◌, ap, arith, Option, Some, None}
use Rattle.std.specs.Cmp.Lexicographic.{bytes_decides}
use Rattle.std.specs.Str.{bytes_eq}
use Rattle.lk_arena.proofs.RowAlgebra.{found_below, found_here, found_other, found_same, label_cases}
use Rattle.lk_arena.specs.Covering.{fields_count, CountTails, EqualCounts}
use Rattle.lk_arena.specs.Shapes.{common, found_at, keep_missing, missing, pair_common, IsDistinct}
use Rattle.lk_arena.specs.declared.node.Field.{Field}

module _ (c : ℕ → ℕ) where
  -- the field that is found
  abbrev found_count : Option ℕ → ℕ
  found_count None = 0
  found_count (Some n) = 1 + c n

  -- the fields of the second that are found by the labels of the first
  abbrev shared : List Field → List Field → ℕ
  shared [] gs = 0
  shared (f ∷ fs) gs = found_count (found_at gs f.label) + shared fs gs

  abbrev if_found : Option ℕ → Field → ℕ
  if_found None g = 0
  if_found (Some n) g = 1 + c g.node

  -- the fields of the first that are found in the second
  abbrev held : List Field → List Field → ℕ
  held [] fs = 0
  held (g ∷ gs) fs = if_found (found_at fs g.label) g + held gs fs

  first_split : (fs gs : List Field) → EqualCounts (common fs gs) c → fields_count c fs ≡ fields_count c (missing fs gs) + shared fs gs
  first_split [] gs equal = refl
  first_split (f ∷ fs) gs equal = by_found (found_at gs f.label) equal (first_split fs gs)
    where
      by_found : (o : Option ℕ) → EqualCounts (pair_common o f.node (common fs gs)) c
          → (EqualCounts (common fs gs) c → fields_count c fs ≡ fields_count c (missing fs gs) + shared fs gs)
          → fields_count c (f ∷ fs) ≡ fields_count c (keep_missing o f (missing fs gs)) + (found_count o + shared fs gs)
      by_found None equal rest = let ih = rest equal in omega arith
      by_found (Some n) equal rest = let ih = rest equal.1 in let here : c f.node ≡ c n = equal.0 in omega arith

  second_split : (gs fs : List Field) → fields_count c gs ≡ fields_count c (missing gs fs) + held gs fs
  second_split [] fs = refl
  second_split (g ∷ gs) fs = by_found (found_at fs g.label) (second_split gs fs)
    where
      by_found : (o : Option ℕ) → fields_count c gs ≡ fields_count c (missing gs fs) + held gs fs
          → fields_count c (g ∷ gs) ≡ fields_count c (keep_missing o g (missing gs fs)) + (if_found o g + held gs fs)
      by_found None rest = omega arith
      by_found (Some n) rest = omega arith

  shared_none : (fs : List Field) → shared fs [] ≡ 0
  shared_none [] = refl
  shared_none (f ∷ fs) = let ih = shared_none fs in omega arith

  shared_more : (g : Field) (gs fs : List Field) → found_at gs g.label ≡ None → IsDistinct fs → shared fs (g ∷ gs) ≡ if_found (found_at fs g.label) g + shared fs gs
  shared_more g gs [] lacks distinct = refl
  shared_more g gs (f ∷ fs) lacks distinct =
      let ih = shared_more g gs fs lacks distinct.1 in
      ⊎_elim
      (λ is.
      let here : found_count (found_at (g ∷ gs) f.label) ≡ 1 + c g.node = ap found_count (found_here g gs f.label is.0) in
      let there : if_found (found_at (f ∷ fs) g.label) g ≡ 1 + c g.node = ap (λ o. if_found o g) (found_same f fs g.label (sym is.1)) in
      let none : found_count (found_at gs f.label) ≡ 0 = ap found_count (ap (found_at gs) is.1 ∙ lacks) in
      let once : if_found (found_at fs g.label) g ≡ 0 = ap (λ o. if_found o g) (ap (found_at fs) (sym is.1) ∙ distinct.0) in
      omega arith)
      (λ not.
      let here : found_count (found_at (g ∷ gs) f.label) ≡ found_count (found_at gs f.label) = ap found_count (found_below g gs f.label not) in
      let there : if_found (found_at (f ∷ fs) g.label) g ≡ if_found (found_at fs g.label) g =
      ap (λ o. if_found o g) (found_other f fs g.label (λ e. let yes : bytes_eq f.label g.label ≡ true = (bytes_decides f.label g.label).1 (sym e) in let no : true ≡ false = sym yes ∙ not in cc)) in
      omega arith)
      (label_cases f.label g.label)

  shared_held : (fs gs : List Field) → IsDistinct fs → IsDistinct gs → shared fs gs ≡ held gs fs
  shared_held fs [] distinct one = shared_none fs
  shared_held fs (g ∷ gs) distinct one =
      let more = shared_more g gs fs one.0 distinct in
      let ih = shared_held fs gs distinct one.1 in
      omega arith

  pub joined_count : (fs gs : List Field) (x y : ℕ) → IsDistinct fs → IsDistinct gs → EqualCounts (common fs gs) c → CountTails (missing gs fs) (missing fs gs) c x y
      → fields_count c fs + x ≡ fields_count c gs + y
  joined_count fs gs x y distinct one equal tails =
      let first = first_split fs gs equal in
      let second = second_split gs fs in
      let same = shared_held fs gs distinct one in
      let left = tails.1 in
      let right = tails.2 in
      omega arith
