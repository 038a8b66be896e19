-- The parts that are lists.
use Rattle.std.proofs.Common.{◌≡◌, ℕ, ◌+◌, ◌≤◌, ◌<◌, List, [], ◌∷◌, ◌++◌, map, length, refl, sym, ◌∙◌, ap, ap₂, if◌then◌else◌, Bool, true, false, not, ◌&&◌, arith, length-append, lt_irrefl, le_refl}
use Rattle.std.specs.List.{flat_map}
use Rattle.std.proofs.lemmas.Bool.{eq-eqb, ne_eqb}
use Rattle.lk_ast.specs.Tables.{Tables}
use Rattle.lk_ast.specs.declared.table.Base.{Base}
use Rattle.lk_ast.specs.declared.table.Row.{Row}
use Rattle.lk_sql.specs.Bags.{total}
use Rattle.lk_sql.specs.Meaning.{Scope, product, with_row}
use Rattle.lk_sql.specs.Operations.{truth}
use Rattle.lk_sql.specs.declared.tree.FromItem.{FromItem}
use Rattle.lk_sql.specs.declared.tree.Scalar.{Scalar}
use Rattle.lk_query.specs.Given.{Given, Gives, Values, of_list, of_row}
use Rattle.lk_query.specs.Order.{bind}
use Rattle.lk_norm.specs.Normal.{Branch, Names, StandsFor, as_list, as_row, branch, conjunction, generator, negation, next}
use Rattle.lk_norm.proofs.Bases.{holds-conjunction, holds-not}
use Rattle.lk_norm.proofs.Shows.{Agree, Each, Each-append, Each-flat, Fit, Follows, IsSound, ShowAll, ShowAll-bind, ShowAll-more, Shows, Shows-same, Steady, Steady-more, at, at-bind, at-looks, holds, row_of, shows_list, shows_row, total-each, wanted, weight, weights, when, when-zero}
use Rattle.lk_norm.proofs.Sums.{total-append, total-flat, total-plus, total-same, total-zero}

pub with_row-same : (n : ℕ) (r : Row) (s : Scope) → with_row n r s n ≡ r
with_row-same n r s = ap (λ b. if b then r else s n) (eq-eqb n n refl)

pub with_row-below : (n m : ℕ) (r : Row) (s : Scope) → m < n → Agree m (with_row n r s) s
with_row-below n m r s l k i = ap (λ b. if b then r else s k) (ne_eqb k n (λ e. lt_irrefl n (omega (arith, l, i, e))))

module _ (tables : Tables) (params : List Base) where
  abbrev F : StandsFor → Gives → Type 0
  F = Follows tables params

  -- a product of two lists of generators
  total-product : (f : Scope → ℕ) (g h : List FromItem) (s : Scope) → total f (product tables (g ++ h) s) ≡ total (λ t. total f (product tables h t)) (product tables g s)
  total-product f [] h s = omega arith
  total-product f (x ∷ g) h s =
      total-flat f (λ row. product tables (g ++ h) (with_row x.var row s)) (tables x.table)
      ∙ total-same _ _ (tables x.table) (λ row. total-product f g h (with_row x.var row s))
      ∙ sym (total-flat (λ t. total f (product tables h t)) (λ row. product tables g (with_row x.var row s)) (tables x.table))

  -- one more generator
  pub total-more : (f : Scope → ℕ) (g : List FromItem) (n : ℕ) (t : List ℕ) (s : Scope) → total f (product tables (g ++ generator n t ∷ []) s) ≡ total (λ u. total (λ row. f (with_row n row u)) (tables t)) (product tables g s)
  total-more f g n t s = total-product f g (generator n t ∷ []) s ∙ total-same _ _ (product tables g s) one
    where
      one : (u : Scope) → total f (product tables (generator n t ∷ []) u) ≡ total (λ row. f (with_row n row u)) (tables t)
      one u = total-flat f (λ row. with_row n row u ∷ []) (tables t) ∙ total-same _ _ (tables t) (λ row. omega arith)

  -- a list that follows from what the parts give
  pub list_by :
      (f : StandsFor) (g : Values → List Row) →
      ((n : ℕ) (names : Names) (values : ℕ → Scope → Given) → ShowAll tables params n names values → (m : ℕ) (x : List FromItem) (c : Scalar) → Fit tables params n m x c → (w : Scope → Row → ℕ) → Steady (m + length x) w → (s : Scope) → weights tables params w s ((f names).list m x c) ≡ wanted tables params w x c (λ t. g (at tables params t values)) s) →
      ((n : ℕ) (names : Names) (values : ℕ → Scope → Given) → ShowAll tables params n names values → (m : ℕ) (x : List FromItem) (c : Scalar) → Fit tables params n m x c → Each (IsSound tables params m x) ((f names).list m x c)) →
      F (λ names. as_list (f names).list) (λ values. of_list (g values))
  list_by f g e i n names values h =
      shows_list tables params n (f names).list (λ s. g (at tables params s values)) (λ m x c fit w l s. e n names values h m x c fit w l s) (λ m x c fit. i n names values h m x c fit)
      (λ s t a. ap g (at-looks tables params n names values h s t a))

  -- ---- lists

  pub follows_append : (a : StandsFor) (a' : Gives) (b : StandsFor) (b' : Gives) → F a a' → F b b' → F (λ names. as_list (λ m g d. (a names).list m g d ++ (b names).list m g d)) (λ values. of_list ((a' values).list ++ (b' values).list))
  follows_append a a' b b' fa fb =
      list_by (λ names. as_list (λ m g d. (a names).list m g d ++ (b names).list m g d)) (λ values. (a' values).list ++ (b' values).list)
      (λ n names values h m g c fit w l s.
      total-append (weight tables params w s) ((a names).list m g c) ((b names).list m g c)
      ∙ ap₂ (λ x y. x + y) ((fa n names values h).list m g c fit w l s) ((fb n names values h).list m g c fit w l s)
      ∙ sym (total-plus _ _ (product tables g s))
      ∙ total-same _ _ (product tables g s) (λ t. sum-when (holds tables params c t) (w t) (a' (at tables params t values)).list (b' (at tables params t values)).list))
      (λ n names values h m g c fit. Each-append (IsSound tables params m g) ((a names).list m g c) ((b names).list m g c) ((fa n names values h).sound m g c fit) ((fb n names values h).sound m g c fit))
    where
      sum-when : (x : Bool) (f : Row → ℕ) (xs ys : List Row) → when x (total f xs) + when x (total f ys) ≡ when x (total f (xs ++ ys))
      sum-when true f xs ys = sym (total-append f xs ys)
      sum-when false f xs ys = refl

  fit-and : (n m : ℕ) (g : List FromItem) (c d : Scalar) → Fit tables params n m g c → Steady (m + length g) (holds tables params d) → Fit tables params n m g (conjunction c d)
  fit-and n m g c d f l = record {
    above = f.above;
    looks = λ s t a. holds-conjunction tables params c d s ∙ ap₂ (λ x y. x && y) (f.looks s t a) (l s t a) ∙ sym (holds-conjunction tables params c d t);
  }

  -- a test of bases that stands for a part
  test-is : (n : ℕ) (names : Names) (values : ℕ → Scope → Given) (c : StandsFor) (c' : Gives) → ShowAll tables params n names values → F c c' → (m : ℕ) → n ≤ m → (s : Scope) → holds tables params ((c names).base m) s ≡ truth (c' (at tables params s values)).base
  test-is n names values c c' h fc m l s = ap truth ((fc n names values h).base m l s)

  test-looks : (n : ℕ) (names : Names) (values : ℕ → Scope → Given) (c : StandsFor) (c' : Gives) → ShowAll tables params n names values → F c c' → (m : ℕ) → n ≤ m → Steady m (holds tables params ((c names).base m))
  test-looks n names values c c' h fc m l s t a =
      test-is n names values c c' h fc m l s ∙ ap (λ x. truth (c' x).base) (Steady-more n m (λ s. at tables params s values) l (at-looks tables params n names values h) s t a) ∙ sym (test-is n names values c c' h fc m l t)

  pub follows_where : (c : StandsFor) (c' : Gives) (q : StandsFor) (q' : Gives) → F c c' → F q q' → F (λ names. as_list (λ m g d. (q names).list m g (conjunction d ((c names).base (m + length g))))) (λ values. of_list (if truth (c' values).base then (q' values).list else []))
  follows_where c c' q q' fc fq =
      list_by (λ names. as_list (λ m g d. (q names).list m g (conjunction d ((c names).base (m + length g))))) (λ values. if truth (c' values).base then (q' values).list else [])
      (λ n names values h m g d fit w l s.
      let x = (c names).base (m + length g) in
      (fq n names values h).list m g (conjunction d x) (fit-and n m g d x fit (test-looks n names values c c' h fc (m + length g) fit.above)) w l s
      ∙ total-same _ _ (product tables g s) (λ t.
      let z = at tables params t values in
      ap (λ b. when b (total (w t) (q' z).list)) (holds-conjunction tables params d x t ∙ ap (λ b. holds tables params d t && b) (test-is n names values c c' h fc (m + length g) fit.above t))
      ∙ by-test (holds tables params d t) (truth (c' z).base) (w t) (q' z).list))
      (λ n names values h m g d fit. (fq n names values h).sound m g (conjunction d ((c names).base (m + length g))) (fit-and n m g d _ fit (test-looks n names values c c' h fc (m + length g) fit.above)))
    where
      by-test : (a b : Bool) (f : Row → ℕ) (xs : List Row) → when (a && b) (total f xs) ≡ when a (total f (if b then xs else []))
      by-test true true f xs = refl
      by-test true false f xs = refl
      by-test false b f xs = refl

  pub follows_if :
      (c : StandsFor) (c' : Gives) (a : StandsFor) (a' : Gives) (b : StandsFor) (b' : Gives) → F c c' → F a a' → F b b' →
      F (λ names. as_list (λ m g d. (a names).list m g (conjunction d ((c names).base (m + length g))) ++ (b names).list m g (conjunction d (negation ((c names).base (m + length g)))))) (λ values. of_list (if truth (c' values).base then (a' values).list else (b' values).list))
  follows_if c c' a a' b b' fc fa fb =
      list_by (λ names. as_list (λ m g d. (a names).list m g (conjunction d ((c names).base (m + length g))) ++ (b names).list m g (conjunction d (negation ((c names).base (m + length g)))))) (λ values. if truth (c' values).base then (a' values).list else (b' values).list)
      (λ n names values h m g d fit w l s.
      let x = (c names).base (m + length g) in
      let steady = test-looks n names values c c' h fc (m + length g) fit.above in
      total-append (weight tables params w s) ((a names).list m g (conjunction d x)) ((b names).list m g (conjunction d (negation x)))
      ∙ ap₂ (λ i j. i + j) ((fa n names values h).list m g (conjunction d x) (fit-and n m g d x fit steady) w l s) ((fb n names values h).list m g (conjunction d (negation x)) (fit-and n m g d (negation x) fit (not-looks (m + length g) x steady)) w l s)
      ∙ sym (total-plus _ _ (product tables g s))
      ∙ total-same _ _ (product tables g s) (λ t.
      let z = at tables params t values in
      let is = test-is n names values c c' h fc (m + length g) fit.above t in
      ap₂ (λ i j. when i (total (w t) (a' z).list) + when j (total (w t) (b' z).list))
      (holds-conjunction tables params d x t ∙ ap (λ y. holds tables params d t && y) is)
      (holds-conjunction tables params d (negation x) t ∙ ap (λ y. holds tables params d t && y) (holds-not tables params x t ∙ ap not is))
      ∙ by-test (holds tables params d t) (truth (c' z).base) (w t) (a' z).list (b' z).list))
      (λ n names values h m g d fit.
      let x = (c names).base (m + length g) in
      let steady = test-looks n names values c c' h fc (m + length g) fit.above in
      Each-append (IsSound tables params m g) ((a names).list m g (conjunction d x)) ((b names).list m g (conjunction d (negation x)))
      ((fa n names values h).sound m g (conjunction d x) (fit-and n m g d x fit steady))
      ((fb n names values h).sound m g (conjunction d (negation x)) (fit-and n m g d (negation x) fit (not-looks (m + length g) x steady))))
    where
      by-test : (d b : Bool) (f : Row → ℕ) (xs ys : List Row) → when (d && b) (total f xs) + when (d && not b) (total f ys) ≡ when d (total f (if b then xs else ys))
      by-test true true f xs ys = omega arith
      by-test true false f xs ys = omega arith
      by-test false b f xs ys = refl

      not-looks : (m : ℕ) (x : Scalar) → Steady m (holds tables params x) → Steady m (holds tables params (negation x))
      not-looks m x l s t a = holds-not tables params x s ∙ ap not (l s t a) ∙ sym (holds-not tables params x t)

  module _ (f : ℕ → StandsFor) (f' : ℕ → Gives) (hs : (k : ℕ) → F (f k) (f' k)) where
    pub follows_items : (items : List ℕ) → F (λ names. as_list (λ m g d. map (λ e. branch g d ((f e names).row (m + length g))) items)) (λ values. of_list (map (λ e. (f' e values).row) items))
    follows_items items =
        list_by (λ names. as_list (λ m g d. map (λ e. branch g d ((f e names).row (m + length g))) items)) (λ values. map (λ e. (f' e values).row) items)
        (λ n names values h m g d fit w l s. each n names values h m g d fit w l s items)
        (λ n names values h m g d fit. sound n names values h m g d fit items)
      where
        each :
            (n : ℕ) (names : Names) (values : ℕ → Scope → Given) → ShowAll tables params n names values → (m : ℕ) (g : List FromItem) (d : Scalar) → Fit tables params n m g d → (w : Scope → Row → ℕ) → Steady (m + length g) w → (s : Scope) (items : List ℕ) →
            weights tables params w s (map (λ e. branch g d ((f e names).row (m + length g))) items) ≡ wanted tables params w g d (λ t. map (λ e. (f' e (at tables params t values)).row) items) s
        each n names values h m g d fit w l s [] = sym (total-same _ (λ t. 0) (product tables g s) (λ t. when-zero (holds tables params d t)) ∙ total-zero (product tables g s))
        each n names values h m g d fit w l s (e ∷ items) =
            ap₂ (λ x y. x + y)
            (total-same _ _ (product tables g s) (λ t. ap (λ r. when (holds tables params d t) (w t r)) ((hs e n names values h).row (m + length g) fit.above t)))
            (each n names values h m g d fit w l s items)
            ∙ sym (total-plus _ _ (product tables g s))
            ∙ total-same _ _ (product tables g s) (λ t. sum-when (holds tables params d t) (w t (f' e (at tables params t values)).row) (total (w t) (map (λ e. (f' e (at tables params t values)).row) items)))
          where
            sum-when : (x : Bool) (i j : ℕ) → when x i + when x j ≡ when x (i + j)
            sum-when true i j = refl
            sum-when false i j = refl

        sound :
            (n : ℕ) (names : Names) (values : ℕ → Scope → Given) → ShowAll tables params n names values → (m : ℕ) (g : List FromItem) (d : Scalar) → Fit tables params n m g d → (items : List ℕ) →
            Each (IsSound tables params m g) (map (λ e. branch g d ((f e names).row (m + length g))) items)
        sound n names values h m g d fit [] = tt
        sound n names values h m g d fit (e ∷ items) = (
          record {
            longer = le_refl (length g);
            test = fit.looks;
            gives = λ s t a.
                let i = hs e n names values h in
                i.row (m + length g) fit.above s ∙ ap (λ x. x.row) (Steady-more n (m + length g) (λ s. f' e (at tables params s values)) fit.above i.looks s t a) ∙ sym (i.row (m + length g) fit.above t);
          },
          sound n names values h m g d fit items,
        )

  -- a list that is made anew for each row of another list
  pub follows_for : (x : ℕ) (e : StandsFor) (e' : Gives) (q : StandsFor) (q' : Gives) → F e e' → F q q' →
      F (λ names. as_list (λ m g d. flat_map (λ b. (q (bind x (as_row (λ n. b.outs)) names)).list m b.froms b.cond) ((e names).list m g d))) (λ values. of_list (flat_map (λ r. (q' (bind x (of_row r) values)).list) (e' values).list))
  follows_for x e e' q q' fe fq =
      list_by (λ names. as_list (λ m g d. flat_map (λ b. (q (bind x (as_row (λ n. b.outs)) names)).list m b.froms b.cond) ((e names).list m g d))) (λ values. flat_map (λ r. (q' (bind x (of_row r) values)).list) (e' values).list)
      (λ n names values h m g d fit w l s.
      let again : Scope → Row → ℕ = λ t r. total (w t) (q' (bind x (of_row r) (at tables params t values))).list in
      total-flat (weight tables params w s) (λ b. (q (bind x (as_row (λ n. b.outs)) names)).list m b.froms b.cond) ((e names).list m g d)
      ∙ total-each (IsSound tables params m g) _ (weight tables params again s) ((e names).list m g d) ((fe n names values h).sound m g d fit)
      (λ b i.
      let k = shown n names values h m g d fit b i in
      k.list m b.froms b.cond (whole m b i.test) w (Steady-more (m + length g) (m + length b.froms) w (let up = i.longer in omega (arith, up)) l) s)
      ∙ (fe n names values h).list m g d fit again (λ s t a. ap₂ (λ u v. λ r. total u (q' (bind x (of_row r) v)).list) (l s t a) (Steady-more n (m + length g) (λ s. at tables params s values) fit.above (at-looks tables params n names values h) s t a)) s
      ∙ total-same _ _ (product tables g s) (λ t. ap (when (holds tables params d t)) (sym (total-flat (w t) (λ r. (q' (bind x (of_row r) (at tables params t values))).list) (e' (at tables params t values)).list))))
      (λ n names values h m g d fit.
      Each-flat (IsSound tables params m g) (IsSound tables params m g) (λ b. (q (bind x (as_row (λ n. b.outs)) names)).list m b.froms b.cond)
      (λ b i. longer m g b i.longer _ ((shown n names values h m g d fit b i).sound m b.froms b.cond (whole m b i.test)))
      ((e names).list m g d) ((fe n names values h).sound m g d fit))
    where
      whole : (m : ℕ) (b : Branch) → Steady (m + length b.froms) (holds tables params b.cond) → Fit tables params (m + length b.froms) m b.froms b.cond
      whole m b i = record { above = le_refl (m + length b.froms); looks = i }

      longer : (m : ℕ) (g : List FromItem) (b : Branch) → length g ≤ length b.froms → (branches : List Branch) → Each (IsSound tables params m b.froms) branches → Each (IsSound tables params m g) branches
      longer m g b l [] a = tt
      longer m g b l (c ∷ branches) a = (record { longer = (let y = a.0.longer in omega (arith, l, y)); test = a.0.test; gives = a.0.gives }, longer m g b l branches a.1)

      shown :
          (n : ℕ) (names : Names) (values : ℕ → Scope → Given) → ShowAll tables params n names values → (m : ℕ) (g : List FromItem) (d : Scalar) → Fit tables params n m g d → (b : Branch) → IsSound tables params m g b →
          Shows tables params (m + length b.froms) (q (bind x (as_row (λ n. b.outs)) names)) (λ s. q' (bind x (of_row (row_of tables params b.outs s)) (at tables params s values)))
      shown n names values h m g d fit b i =
          let k = m + length b.froms in
          let v : Scope → Given = λ s. of_row (row_of tables params b.outs s) in
          let up : n ≤ k = (let a = fit.above in let y = i.longer in omega (arith, a, y)) in
          Shows-same tables params k (q (bind x (as_row (λ n. b.outs)) names)) (λ s. q' (at tables params s (bind x v values))) (λ s. q' (bind x (v s) (at tables params s values))) (λ s. ap q' (at-bind tables params s x values v))
          (fq k (bind x (as_row (λ n. b.outs)) names) (bind x v values)
          (ShowAll-bind tables params k x names values (as_row (λ n. b.outs)) v (ShowAll-more tables params n k names values up h) (shows_row tables params k (λ n. b.outs) (row_of tables params b.outs) (λ m l s. refl) i.gives)))

  pub count-more : (m : ℕ) (g : List FromItem) (x : FromItem) → m + length (g ++ x ∷ []) ≡ next m g
  count-more m g x = let e = length-append g (x ∷ []) in omega (arith, e)
