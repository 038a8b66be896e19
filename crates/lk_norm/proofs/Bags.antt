-- Lists that are the same bag are permutations, and back; of rows too, since their equality is decided.
use Rattle.std.proofs.Common.{◌≡◌, ℕ, ◌+◌, ◌<◌, List, [], ◌∷◌, ◌++◌, cond, Bool, true, false, ◌&&◌, Decides, IsPermutation, bytes_eq, int_eq, refl, sym, ◌∙◌, ap, ap₂, subst, arith, true≢false}
use Rattle.std.specs.Cmp.{signed_Decides}
use Rattle.std.specs.Cmp.Lexicographic.{bytes_decides, pointwise, pointwise_decides}
use Rattle.std.proofs.lemmas.List.Sorted.{IsPermutation-refl, IsPermutation-sym, IsPermutation-cons, IsPermutation-trans, IsPermutation-middle, sum_by-IsPermutation}
use Rattle.lk_ast.specs.declared.table.Base.{Base}
use Rattle.lk_ast.specs.declared.table.Base.TheVariants as base
use Rattle.lk_ast.specs.declared.table.Cell.{Cell}
use Rattle.lk_ast.specs.declared.table.Row.{Row}
use Rattle.lk_sql.specs.Bags.{SameBag, total}
use Rattle.lk_norm.proofs.Sums.{total-append}

-- ---- by a decided equality

module _ {X : Type 0} (equal : X → X → Bool) (decides : (x y : X) → Decides (equal x y) (x ≡ y)) where
  abbrev times : X → X → ℕ
  times x y = cond (equal x y) 1 0

  -- where x stands in a list that has it
  split : (x : X) (ys : List X) → 0 < total (times x) ys → (a : List X) × (b : List X) × (ys ≡ a ++ x ∷ b)
  split x [] l = absurd (omega (arith, l))
  split x (y ∷ ys) l = step (equal x y) refl l (λ m. split x ys m)
    where
      step : (b : Bool) → equal x y ≡ b → 0 < cond b 1 0 + total (times x) ys → (0 < total (times x) ys → (a : List X) × (b : List X) × (ys ≡ a ++ x ∷ b)) → (a : List X) × (c : List X) × (y ∷ ys ≡ a ++ x ∷ c)
      step true e l h = ([], ys, ap (λ z. z ∷ ys) (sym ((decides x y).0 e)))
      step false e l h = let r = h (omega (arith, l)) in (y ∷ r.0, r.1, ap (λ zs. y ∷ zs) r.2)

  pub permutation-of_bag : (xs ys : List X) → SameBag xs ys → IsPermutation xs ys
  permutation-of_bag [] ys h = subst (IsPermutation []) (sym (none ys (sym (h (λ y. 1))))) (IsPermutation-refl [])
    where
      none : (ys : List X) → total (λ y. 1) ys ≡ 0 → ys ≡ []
      none [] e = refl
      none (y ∷ ys) e = absurd (omega (arith, e))
  permutation-of_bag (x ∷ xs) ys h =
      let r = split x ys (some (h (times x))) in
      subst (IsPermutation (x ∷ xs)) (sym r.2)
      (IsPermutation-trans (x ∷ xs) (x ∷ (r.0 ++ r.1)) (r.0 ++ x ∷ r.1)
      (IsPermutation-cons x xs (r.0 ++ r.1) (permutation-of_bag xs (r.0 ++ r.1) (λ w. less w r.0 r.1 (h w ∙ ap (total w) r.2))))
      (IsPermutation-sym (r.0 ++ x ∷ r.1) (x ∷ (r.0 ++ r.1)) (IsPermutation-middle r.0 x r.1)))
    where
      some : times x x + total (times x) xs ≡ total (times x) ys → 0 < total (times x) ys
      some e = let o : times x x ≡ 1 = ap (λ b. cond b 1 0) ((decides x x).1 refl) in omega (arith, e, o)

      less : (w : X → ℕ) (a b : List X) → w x + total w xs ≡ total w (a ++ x ∷ b) → total w xs ≡ total w (a ++ b)
      less w a b e = let f = total-append w a (x ∷ b) in let g = total-append w a b in omega (arith, e, f, g)

-- ---- rows

abbrev same_bool : Bool → Bool → Bool
same_bool true true = true
same_bool false false = true
same_bool a b = false

bools_decided : (a b : Bool) → Decides (same_bool a b) (a ≡ b)
bools_decided true true = (λ e. refl, λ e. refl)
bools_decided false false = (λ e. refl, λ e. refl)
bools_decided true false = (λ e. absurd (true≢false (sym e)), λ e. absurd (true≢false e))
bools_decided false true = (λ e. absurd (true≢false (sym e)), λ e. absurd (true≢false (sym e)))

abbrev same_base : Base → Base → Bool
same_base (base.Int m) (base.Int n) = int_eq m n
same_base (base.Bool a) (base.Bool b) = same_bool a b
same_base (base.Text s) (base.Text t) = bytes_eq s t
same_base a b = false

alike : (a b : Base) → same_base a b ≡ true → a ≡ b
alike (base.Int m) (base.Int n) e = ap base.Int ((signed_Decides m n).0 e)
alike (base.Bool a) (base.Bool b) e = ap base.Bool ((bools_decided a b).0 e)
alike (base.Text s) (base.Text t) e = ap base.Text ((bytes_decides s t).0 e)
alike (base.Int m) (base.Bool b) e = absurd (true≢false (sym e))
alike (base.Int m) (base.Text t) e = absurd (true≢false (sym e))
alike (base.Bool a) (base.Int n) e = absurd (true≢false (sym e))
alike (base.Bool a) (base.Text t) e = absurd (true≢false (sym e))
alike (base.Text s) (base.Int n) e = absurd (true≢false (sym e))
alike (base.Text s) (base.Bool b) e = absurd (true≢false (sym e))

itself : (a : Base) → same_base a a ≡ true
itself (base.Int m) = (signed_Decides m m).1 refl
itself (base.Bool a) = (bools_decided a a).1 refl
itself (base.Text s) = (bytes_decides s s).1 refl

abbrev same_cell : Cell → Cell → Bool
same_cell c d = bytes_eq c.label d.label && same_base c.value d.value

cells_decided : (c d : Cell) → Decides (same_cell c d) (c ≡ d)
cells_decided c d = (by_tests (bytes_eq c.label d.label) (same_base c.value d.value) refl refl, λ e. subst (λ other. same_cell c other ≡ true) e (ap₂ (λ x y. x && y) ((bytes_decides c.label c.label).1 refl) (itself c.value)))
  where
    by_tests : (x y : Bool) → bytes_eq c.label d.label ≡ x → same_base c.value d.value ≡ y → x && y ≡ true → c ≡ d
    by_tests true true e f h = λ i. record { label = (bytes_decides c.label d.label).0 e i; value = alike c.value d.value f i }
    by_tests true false e f h = absurd (true≢false (sym h))
    by_tests false y e f h = absurd (true≢false (sym h))

abbrev same_row : Row → Row → Bool
same_row r s = pointwise same_cell r.cells s.cells

rows_decided : (r s : Row) → Decides (same_row r s) (r ≡ s)
rows_decided r s =
    let cells = pointwise_decides cells_decided r.cells s.cells in
    (λ e i. record { cells = cells.0 e i }, λ e. cells.1 (ap (λ row. row.cells) e))

-- lists of rows that are the same bag are permutations
pub rows-permutation : (rows others : List Row) → SameBag rows others → IsPermutation rows others
rows-permutation = permutation-of_bag same_row rows_decided
