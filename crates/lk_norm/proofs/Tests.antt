-- The test for no row, and a table that is read whole.
use Rattle.std.proofs.Common.{◌≡◌, ℕ, zero, suc, ◌+◌, ◌≤◌, List, [], ◌∷◌, ◌++◌, map, length, refl, sym, ◌∙◌, ap, ap₂, cond, Bool, true, false, not, arith, length-append}
use Rattle.std.specs.List.{filter}
use Rattle.lk_ast.specs.Tables.{Tables}
use Rattle.lk_ast.specs.declared.table.Base.{Base}
use Rattle.lk_ast.specs.declared.table.Base.TheVariants as base
use Rattle.lk_ast.specs.declared.table.Column.{Column}
use Rattle.lk_ast.specs.declared.table.Row.{Row}
use Rattle.lk_sql.specs.Bags.{total}
use Rattle.lk_sql.specs.Meaning.{Scope, cell, has_row, product, rows, value, with_row}
use Rattle.lk_sql.specs.Operations as operations
use Rattle.lk_sql.specs.Operations.{truth}
use Rattle.lk_sql.specs.declared.tree.Scalar.TheVariants as scalar
use Rattle.lk_sql.specs.declared.tree.SqlOp.TheVariants as op
use Rattle.lk_query.specs.Given.{Gives, at_labels, is_empty, of_base, of_list, row_with}
use Rattle.lk_norm.specs.Normal.{Branch, StandsFor, always, as_base, as_list, branch, columns_of, generator, negation, never, next, no_output, select, selects}
use Rattle.lk_norm.proofs.Bases.{base_by, row-columns}
use Rattle.lk_norm.proofs.Lists.{count-more, list_by, total-more, with_row-below, with_row-same}
use Rattle.lk_norm.proofs.Shows.{Agree, Fit, Follows, Steady-more, at, holds, row_of, total-when, weight, weights, when}
use Rattle.lk_norm.proofs.Sums.{total-filter, total-map, total-same}
use Rattle.lk_sql.proofs.MeaningForms.{value_exists, value_lit, value_op}
use Rattle.lk_norm.proofs.Unfold.{rows-is}

abbrev pub one : {X : Type 0} → X → ℕ
one x = 1

abbrev pub size : {X : Type 0} → List X → ℕ
size xs = total one xs

abbrev pub is_some : ℕ → Bool
is_some zero = false
is_some (suc n) = true

is_some-more : (m n : ℕ) → is_some (1 + m + n) ≡ true
is_some-more m n = let e : 1 + m + n ≡ suc (m + n) = omega arith in ap is_some e

pub any-counts : (lists : List (List Row)) → has_row lists ≡ is_some (total size lists)
any-counts [] = refl
any-counts ([] ∷ rest) = any-counts rest ∙ ap is_some (omega arith)
any-counts ((r ∷ given) ∷ rest) = sym (is_some-more (size given) (total size rest))

none-counts : (given : List Row) → not (is_some (size given)) ≡ is_empty given
none-counts [] = refl
none-counts (r ∷ given) = let e : 1 + size given ≡ suc (size given) = omega arith in ap (λ n. not (is_some n)) e

module _ (tables : Tables) (params : List Base) where
  abbrev all : Scope → Row → ℕ
  all s r = 1

  size-rows : (b : Branch) (s : Scope) → size (rows tables params (select b) s) ≡ weight tables params all s b
  size-rows b s =
      ap size (rows-is tables params b s)
      ∙ total-map one (λ t. row_with (map (λ f. f t) (map (cell tables params) b.outs))) (filter (λ t. truth (value tables params b.cond t)) (product tables b.froms s))
      ∙ total-filter (λ t. 1) (λ t. truth (value tables params b.cond t)) (product tables b.froms s)

  sizes : (branches : List Branch) (s : Scope) → total size (map (λ q. rows tables params q s) (map select branches)) ≡ weights tables params all s branches
  sizes [] s = refl
  sizes (b ∷ branches) s = ap₂ (λ m n. m + n) (size-rows b s) (sizes branches s)

  no-size : (f : Scope → Row) (x : Bool) (s : Scope) → x ≡ false → has_row (map f (cond x (s ∷ []) []) ∷ []) ≡ false
  no-size f x s e = ap (λ b. has_row (map f (cond b (s ∷ []) []) ∷ [])) e

  any-selects : (columns : List Column) (branches : List Branch) (s : Scope) → has_row (map (λ q. rows tables params q s) (selects columns branches)) ≡ is_some (weights tables params all s branches)
  any-selects columns [] s =
      ap (λ r. has_row (r ∷ [])) (rows-is tables params (branch [] never (map no_output columns)) s)
      ∙ no-size (λ t. row_with (map (λ f. f t) (map (cell tables params) (map no_output columns)))) (truth (value tables params never s)) s (ap truth (value_lit tables params (base.Bool false) s))
  any-selects columns (b ∷ branches) s = any-counts (map (λ q. rows tables params q s) (map select (b ∷ branches))) ∙ ap is_some (sizes (b ∷ branches) s)

  pub follows_empty : (columns : List Column) (q : StandsFor) (q' : Gives) → Follows tables params q q' → Follows tables params (λ names. as_base (λ n. negation (scalar.Exists (selects columns ((q names).list n [] always))))) (λ values. of_base (base.Bool (is_empty (q' values).list)))
  follows_empty columns q q' fq =
      base_by tables params (λ names. as_base (λ n. negation (scalar.Exists (selects columns ((q names).list n [] always))))) (λ values. base.Bool (is_empty (q' values).list))
      (λ n names values h m l s.
      let branches = (q names).list m [] always in
      let given = (q' (at tables params s values)).list in
      let true-here : holds tables params always s ≡ true = ap truth (value_lit tables params (base.Bool true) s) in
      let counted : weights tables params all s branches ≡ size given =
      (fq n names values h).list m [] always (fit n m l) all (λ s t a. refl) s
      ∙ ap (λ b. when b (size given) + 0) true-here
      ∙ (omega arith) in
      value_op tables params op.Not (scalar.Exists (selects columns branches) ∷ []) s
      ∙ ap operations.negation (value_exists tables params (selects columns branches) s)
      ∙ ap (λ b. base.Bool (not b)) (any-selects columns branches s ∙ ap is_some counted)
      ∙ ap base.Bool (none-counts given))
    where
      fit : (n m : ℕ) → n ≤ m → Fit tables params n m [] always
      fit n m l = record {
        above = omega (arith, l);
        looks = λ s t a. ap truth (value_lit tables params (base.Bool true) s ∙ sym (value_lit tables params (base.Bool true) t));
      }

  pub follows_read : (t : List ℕ) (labels : List (List ℕ)) → Follows tables params (λ names. as_list (λ m g d. branch (g ++ generator (next m g) t ∷ []) d (columns_of (next m g) labels) ∷ [])) (λ values. of_list (map (at_labels labels) (tables t)))
  follows_read t labels =
      list_by tables params (λ names. as_list (λ m g d. branch (g ++ generator (next m g) t ∷ []) d (columns_of (next m g) labels) ∷ [])) (λ values. map (at_labels labels) (tables t))
      (λ n names values h m g d fit w l s.
      let k = m + length g + 1 in
      (omega arith)
      ∙ total-more tables params (λ u. when (holds tables params d u) (w u (row_of tables params (columns_of k labels) u))) g k t s
      ∙ total-same _ _ (product tables g s) (λ u.
      total-same _ (λ r. when (holds tables params d u) (w u (at_labels labels r))) (tables t) (λ r.
      let below : Agree (m + length g) (with_row k r u) u = with_row-below k (m + length g) r u (omega arith) in
      ap₂ (λ b f. when b (f (row_of tables params (columns_of k labels) (with_row k r u)))) (fit.looks (with_row k r u) u below) (l (with_row k r u) u below)
      ∙ ap (λ x. when (holds tables params d u) (w u x)) (row-columns tables params k labels (with_row k r u) ∙ ap (at_labels labels) (with_row-same k r u)))
      ∙ total-when (holds tables params d u) (λ r. w u (at_labels labels r)) (tables t)
      ∙ ap (when (holds tables params d u)) (sym (total-map (w u) (at_labels labels) (tables t)))))
      (λ n names values h m g d fit.
      let k = m + length g + 1 in
      let e = count-more tables params m g (generator k t) in (
        record {
          longer = (let x = length-append g (generator k t ∷ []) in omega (arith, x));
          test = Steady-more (m + length g) (m + length (g ++ generator k t ∷ [])) (holds tables params d) (omega (arith, e)) fit.looks;
          gives = λ s u a. row-columns tables params k labels s ∙ ap (at_labels labels) (a k (omega (arith, e))) ∙ sym (row-columns tables params k labels u);
        },
        tt,
      ))
