-- When what a part stands for gives what the part gives.
use Rattle.std.proofs.Common.{◌≡◌, ℕ, ◌+◌, ◌≤◌, List, [], ◌∷◌, ◌++◌, map, length, refl, sym, ◌∙◌, ap, ap₂, cond, if◌then◌else◌, ◌==◌, Bool, true, false, arith}
use Rattle.std.specs.List.{flat_map}
use Rattle.lk_ast.specs.Tables.{Tables}
use Rattle.lk_ast.specs.declared.table.Base.{Base}
use Rattle.lk_ast.specs.declared.table.Cell.{Cell}
use Rattle.lk_ast.specs.declared.table.Row.{Row}
use Rattle.lk_sql.specs.Bags.{total}
use Rattle.lk_sql.specs.Meaning.{Scope, product, value}
use Rattle.lk_sql.specs.Operations.{truth, zero_base}
use Rattle.lk_sql.specs.declared.tree.FromItem.{FromItem}
use Rattle.lk_sql.specs.declared.tree.Out.{Out}
use Rattle.lk_sql.specs.declared.tree.Scalar.{Scalar}
use Rattle.lk_query.specs.Given.{Given, Gives, Values, cell_with, nothing as no_given, of_base, of_list, of_row, row_with}
use Rattle.lk_query.specs.Order.{bind}
use Rattle.lk_norm.specs.Normal.{Branch, Names, Stands, StandsFor, as_base, as_list, as_row, nothing}
use Rattle.lk_norm.proofs.Sums.{total-same, total-zero}
use Rattle.lk_sql.proofs.MeaningForms.{value_lit}

abbrev pub Each : {X : Type 0} → (X → Type 0) → List X → Type 0
Each P [] = Unit {0}
Each P (x ∷ xs) = P x × Each P xs

pub Each-append : {X : Type 0} (P : X → Type 0) (xs ys : List X) → Each P xs → Each P ys → Each P (xs ++ ys)
Each-append P [] ys a b = b
Each-append P (x ∷ xs) ys a b = (a.0, Each-append P xs ys a.1 b)

pub Each-flat : {X Y : Type 0} (P : X → Type 0) (Q : Y → Type 0) (f : X → List Y) → ((x : X) → P x → Each Q (f x)) → (xs : List X) → Each P xs → Each Q (flat_map f xs)
Each-flat P Q f h [] a = tt
Each-flat P Q f h (x ∷ xs) a = Each-append Q (f x) (flat_map f xs) (h x a.0) (Each-flat P Q f h xs a.1)

pub total-each : {X : Type 0} (P : X → Type 0) (f g : X → ℕ) (xs : List X) → Each P xs → ((x : X) → P x → f x ≡ g x) → total f xs ≡ total g xs
total-each P f g [] a e = refl
total-each P f g (x ∷ xs) a e = ap₂ (λ m n. m + n) (e x a.0) (total-each P f g xs a.1 e)

-- the generators up to n have the same rows
abbrev pub Agree : ℕ → Scope → Scope → Type 0
Agree n s t = (k : ℕ) → k ≤ n → s k ≡ t k

-- it looks at the generators up to n alone
abbrev pub Steady : {X : Type 0} → ℕ → (Scope → X) → Type 0
Steady n f = (s t : Scope) → Agree n s t → f s ≡ f t

pub Steady-more : {X : Type 0} (m n : ℕ) (f : Scope → X) → m ≤ n → Steady m f → Steady n f
Steady-more m n f l h s t a = h s t (λ k i. a k (omega (arith, l, i)))

abbrev pub when : Bool → ℕ → ℕ
when b n = cond b n 0

pub when-zero : (b : Bool) → when b 0 ≡ 0
when-zero true = refl
when-zero false = refl

pub total-when : {X : Type 0} (b : Bool) (f : X → ℕ) (xs : List X) → total (λ x. when b (f x)) xs ≡ when b (total f xs)
total-when true f xs = refl
total-when false f xs = total-zero xs

module _ (tables : Tables) (params : List Base) where
  abbrev pub val : Scalar → Scope → Base
  val = value tables params

  abbrev pub holds : Scalar → Scope → Bool
  holds c s = truth (val c s)

  abbrev pub cells : List Out → Scope → List Cell
  cells outs s = map (λ out. cell_with out.label (val out.scalar s)) outs

  abbrev pub row_of : List Out → Scope → Row
  row_of outs s = row_with (cells outs s)

  -- a weight of the rows that a branch gives, and of those of several
  abbrev pub weight : (Scope → Row → ℕ) → Scope → Branch → ℕ
  weight w s b = total (λ t. when (holds b.cond t) (w t (row_of b.outs t))) (product tables b.froms s)

  abbrev pub weights : (Scope → Row → ℕ) → Scope → List Branch → ℕ
  weights w s branches = total (weight w s) branches

  -- the weight of lists of rows, one for each choice of rows of the generators for which the condition holds
  abbrev pub wanted : (Scope → Row → ℕ) → List FromItem → Scalar → (Scope → List Row) → Scope → ℕ
  wanted w froms c rows s = total (λ t. when (holds c t) (total (w t) (rows t))) (product tables froms s)

  -- a place for a list that stands where n generators are in scope
  pub record Fit (n outer : ℕ) (froms : List FromItem) (c : Scalar) : Type 0 where
    pub above : n ≤ outer + length froms
    pub looks : Steady (outer + length froms) (holds c)

  pub record IsSound (outer : ℕ) (froms : List FromItem) (b : Branch) : Type 0 where
    pub longer : length froms ≤ length b.froms
    pub test : Steady (outer + length b.froms) (holds b.cond)
    pub gives : Steady (outer + length b.froms) (row_of b.outs)

  -- Where n generators are in scope, or more, what stands for a part gives what the part gives in each scope. For a list: whatever
  -- weight the rows have, the branches' rows together have that of the lists that it gives for all choices of rows of the generators.
  pub record Shows (n : ℕ) (a : Stands) (v : Scope → Given) : Type 0 where
    pub base : (m : ℕ) → n ≤ m → (s : Scope) → val (a.base m) s ≡ (v s).base
    pub row : (m : ℕ) → n ≤ m → (s : Scope) → row_of (a.row m) s ≡ (v s).row
    pub list :
        (outer : ℕ) (froms : List FromItem) (c : Scalar) → Fit n outer froms c → (w : Scope → Row → ℕ) → Steady (outer + length froms) w → (s : Scope) → weights w s (a.list outer froms c) ≡ wanted w froms c (λ t. (v t).list) s
    pub sound : (outer : ℕ) (froms : List FromItem) (c : Scalar) → Fit n outer froms c → Each (IsSound outer froms) (a.list outer froms c)
    pub looks : Steady n v

  abbrev pub ShowAll : ℕ → Names → (ℕ → Scope → Given) → Type 0
  ShowAll n names values = (k : ℕ) → Shows n (names k) (values k)

  abbrev pub at : Scope → (ℕ → Scope → Given) → Values
  at s values k = values k s

  -- under all that names may stand for
  abbrev pub Follows : StandsFor → Gives → Type 0
  Follows f g = (n : ℕ) (names : Names) (values : ℕ → Scope → Given) → ShowAll n names values → Shows n (f names) (λ s. g (at s values))

  -- ---- names

  pub Shows-more : (m n : ℕ) (a : Stands) (v : Scope → Given) → m ≤ n → Shows m a v → Shows n a v
  Shows-more m n a v l h = record {
    base = λ k i s. h.base k (omega (arith, l, i)) s;
    row = λ k i s. h.row k (omega (arith, l, i)) s;
    list = λ k g c f w i s. h.list k g c (fit k g c f) w i s;
    sound = λ k g c f. h.sound k g c (fit k g c f);
    looks = Steady-more m n v l h.looks;
  }
    where
      fit : (k : ℕ) (g : List FromItem) (c : Scalar) → Fit n k g c → Fit m k g c
      fit k g c f = record { above = (let e = f.above in omega (arith, l, e)); looks = f.looks }

  pub ShowAll-more : (m n : ℕ) (names : Names) (values : ℕ → Scope → Given) → m ≤ n → ShowAll m names values → ShowAll n names values
  ShowAll-more m n names values l h k = Shows-more m n (names k) (values k) l (h k)

  pub ShowAll-bind : (n x : ℕ) (names : Names) (values : ℕ → Scope → Given) (a : Stands) (v : Scope → Given) → ShowAll n names values → Shows n a v → ShowAll n (bind x a names) (bind x v values)
  ShowAll-bind n x names values a v h i k = step (k == x)
    where
      step : (b : Bool) → Shows n (if b then a else names k) (if b then v else values k)
      step true = i
      step false = h k

  pub at-looks : (n : ℕ) (names : Names) (values : ℕ → Scope → Given) → ShowAll n names values → Steady n (λ s. at s values)
  at-looks n names values h s t e = λ i k. (h k).looks s t e i

  pub at-bind : (s : Scope) (x : ℕ) (values : ℕ → Scope → Given) (v : Scope → Given) → at s (bind x v values) ≡ bind x (v s) (at s values)
  at-bind s x values v = λ i k. step k (k == x) i
    where
      step : (k : ℕ) (b : Bool) → (if b then v else values k) s ≡ (if b then v s else values k s)
      step k true = refl
      step k false = refl

  pub wanted-same : (w : Scope → Row → ℕ) (g : List FromItem) (c : Scalar) (f h : Scope → List Row) (s : Scope) → ((t : Scope) → f t ≡ h t) → wanted w g c f s ≡ wanted w g c h s
  wanted-same w g c f h s e = total-same _ _ (product tables g s) (λ t. ap (λ rows. when (holds c t) (total (w t) rows)) (e t))

  pub Shows-same : (n : ℕ) (a : Stands) (u v : Scope → Given) → ((s : Scope) → u s ≡ v s) → Shows n a u → Shows n a v
  Shows-same n a u v e h = record {
    base = λ m i s. h.base m i s ∙ ap (λ x. x.base) (e s);
    row = λ m i s. h.row m i s ∙ ap (λ x. x.row) (e s);
    list = λ m g c f w i s. h.list m g c f w i s ∙ wanted-same w g c (λ t. (u t).list) (λ t. (v t).list) s (λ t. ap (λ x. x.list) (e t));
    sound = h.sound;
    looks = λ s t i. sym (e s) ∙ h.looks s t i ∙ e t;
  }

  pub wanted-none : (w : Scope → Row → ℕ) (g : List FromItem) (c : Scalar) (s : Scope) → wanted w g c (λ t. []) s ≡ 0
  wanted-none w g c s = total-same _ (λ t. 0) (product tables g s) (λ t. when-zero (holds c t)) ∙ total-zero (product tables g s)

  pub shows_base : (n : ℕ) (f : ℕ → Scalar) (v : Scope → Base) → ((m : ℕ) → n ≤ m → (s : Scope) → val (f m) s ≡ v s) → Steady n v → Shows n (as_base f) (λ s. of_base (v s))
  shows_base n f v h i = record {
    base = h;
    row = λ m l s. refl;
    list = λ m g c fit w l s. sym (wanted-none w g c s);
    sound = λ m g c fit. tt;
    looks = λ s t e. ap of_base (i s t e);
  }

  pub shows_row : (n : ℕ) (f : ℕ → List Out) (v : Scope → Row) → ((m : ℕ) → n ≤ m → (s : Scope) → row_of (f m) s ≡ v s) → Steady n v → Shows n (as_row f) (λ s. of_row (v s))
  shows_row n f v h i = record {
    base = λ m l s. value_lit tables params zero_base s;
    row = h;
    list = λ m g c fit w l s. sym (wanted-none w g c s);
    sound = λ m g c fit. tt;
    looks = λ s t e. ap of_row (i s t e);
  }

  pub shows_list :
      (n : ℕ) (f : ℕ → List FromItem → Scalar → List Branch) (v : Scope → List Row) →
      ((m : ℕ) (g : List FromItem) (c : Scalar) → Fit n m g c → (w : Scope → Row → ℕ) → Steady (m + length g) w → (s : Scope) → weights w s (f m g c) ≡ wanted w g c v s) →
      ((m : ℕ) (g : List FromItem) (c : Scalar) → Fit n m g c → Each (IsSound m g) (f m g c)) →
      Steady n v →
      Shows n (as_list f) (λ s. of_list (v s))
  shows_list n f v h j i = record {
    base = λ m l s. value_lit tables params zero_base s;
    row = λ m l s. refl;
    list = h;
    sound = j;
    looks = λ s t e. ap of_list (i s t e);
  }

  pub shows_nothing : (n : ℕ) → Shows n nothing (λ s. no_given)
  shows_nothing n = record {
    base = λ m l s. value_lit tables params zero_base s;
    row = λ m l s. refl;
    list = λ m g c fit w l s. sym (wanted-none w g c s);
    sound = λ m g c fit. tt;
    looks = λ s t e. refl;
  }

  pub follows_name : (k : ℕ) → Follows (λ names. names k) (λ values. values k)
  follows_name k n names values h = h k
