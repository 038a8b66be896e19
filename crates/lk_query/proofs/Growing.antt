-- Lists of parts that grow at their end, and which bound values a part looks at: those of numbers up to its own.
use Rattle.std.proofs.Common.{◌≡◌, ℕ, zero, suc, ◌+◌, ◌<◌, ◌≤◌, ◌==◌, if◌then◌else◌, Bool, true, false, List, [], ◌∷◌, ◌++◌, length, map, Some, None, slice_get, refl, sym, ◌∙◌, ap, ap₂, subst, arith, lt_irrefl}
use Rattle.std.specs.List.{flat_map}
use Rattle.std.proofs.lemmas.Bool.{eqb-true, eq-eqb}
use Rattle.lk_ast.specs.Tables.{Tables}
use Rattle.lk_ast.specs.declared.table.Base.TheVariants as base
use Rattle.lk_sql.specs.Meaning.{cell_in}
use Rattle.lk_sql.specs.Operations.{operation, truth}
use Rattle.lk_query.proofs.Parts.{bind-here, bind-other, kept}
use Rattle.lk_query.specs.Given.{Given, Gives, Values, at_labels, cell_with, cells_given, equal_rows, extended, given_level, gives, is_empty, nothing, of_base, of_list, of_row, row_with}
use Rattle.lk_query.specs.Order.{AllBelow, AreOrdered, Below, LabelledBelow, bind, filled, filled_from}
use Rattle.lk_query.specs.declared.part.Labelled.{Labelled}
use Rattle.lk_query.specs.declared.part.Part.{Part}
use Rattle.lk_query.specs.declared.part.Part.TheVariants as part

-- ---- more parts

module _ {X : Type 0} (level : (ℕ → X) → ℕ → Part → X) where
  filled_append : (n : ℕ) (found : ℕ → X) (xs ys : List Part) → filled_from level n found (xs ++ ys) ≡ filled_from level (n + length xs) (filled_from level n found xs) ys
  filled_append n found [] ys = ap (λ k. filled_from level k found ys) (omega arith)
  filled_append n found (x ∷ xs) ys =
      filled_append (n + 1) (bind n (level found n x) found) xs ys
      ∙ ap (λ k. filled_from level k (filled_from level (n + 1) (bind n (level found n x) found) xs) ys) (omega arith)

abbrev none : ℕ → Gives
none n values = nothing

module _ (tables : Tables) where
  -- what is given by earlier parts stays
  pub gives_more : (parts more : List Part) (k : ℕ) → k < length parts → gives tables (parts ++ more) k ≡ gives tables parts k
  unfolding gives
  gives_more parts more k l =
      ap (λ f. f k) (filled_append (given_level tables) 0 none parts more)
      ∙ kept (given_level tables) (0 + length parts) (filled (given_level tables) (λ values. nothing) parts) more k (omega (arith, l))

  -- what the part at the end gives
  pub gives_last : (parts : List Part) (x : Part) → gives tables (parts ++ x ∷ []) (length parts) ≡ given_level tables (gives tables parts) (length parts) x
  unfolding gives
  gives_last parts x =
      ap (λ f. f (length parts)) (filled_append (given_level tables) 0 none parts (x ∷ []))
      ∙ ap (λ n. bind n (given_level tables (filled (given_level tables) (λ values. nothing) parts) n x) (filled (given_level tables) (λ values. nothing) parts) (length parts)) (zero_more (length parts))
      ∙ bind-here (length parts) (given_level tables (filled (given_level tables) (λ values. nothing) parts) (length parts) x) (filled (given_level tables) (λ values. nothing) parts)
    where
      zero_more : (n : ℕ) → 0 + n ≡ n
      zero_more n = omega arith

  -- ---- what a part looks at

  -- the same at numbers up to that one
  abbrev pub Agree : ℕ → Values → Values → Type 0
  Agree n values others = (j : ℕ) → j ≤ n → values j ≡ others j

  abbrev pub Looks : ℕ → Gives → Type 0
  Looks n g = (values others : Values) → Agree n values others → g values ≡ g others

  three : {A B C D : Type 0} (h : A → B → C → D) {a a' : A} {b b' : B} {c c' : C} → a ≡ a' → b ≡ b' → c ≡ c' → h a b c ≡ h a' b' c'
  three h p q r = λ t. h (p t) (q t) (r t)

  module _ (f : ℕ → Gives) (n : ℕ) (looks : (k : ℕ) → k < n → Looks k (f k)) (values others : Values) (agree : Agree n values others) where
    own : (k : ℕ) → k < n → f k values ≡ f k others
    own k l = looks k l values others (λ j m. agree j (omega (arith, l, m)))

    own_cells : (items : List Labelled) → LabelledBelow n items → cells_given tables f items values ≡ cells_given tables f items others
    own_cells [] below = refl
    own_cells (item ∷ items) below = ap₂ (λ b cells. cell_with item.label b ∷ cells) (ap (λ g. g.base) (own item.part below.0)) (own_cells items below.1)

    own_rows : (items : List ℕ) → AllBelow n items → map (λ item. (f item values).row) items ≡ map (λ item. (f item others).row) items
    own_rows [] below = refl
    own_rows (item ∷ items) below = ap₂ (λ r rows. r ∷ rows) (ap (λ g. g.row) (own item below.0)) (own_rows items below.1)

    level_looks : (x : Part) → Below n x → given_level tables f n x values ≡ given_level tables f n x others
    level_looks (part.Lit b) l = refl
    level_looks part.Bound l = agree n (omega arith)
    level_looks (part.Case c a b) l = three (λ (c a b : Given). of_base (if truth c.base then a.base else b.base)) (own c l.0) (own a l.1) (own b l.2)
    level_looks (part.If c a b) l = three (λ (c a b : Given). of_list (if truth c.base then a.list else b.list)) (own c l.0) (own a l.1) (own b l.2)
    level_looks (part.IfRow labels c a b) l = three (λ (c a b : Given). of_row (at_labels labels (if truth c.base then a.row else b.row))) (own c l.0) (own a l.1) (own b l.2)
    level_looks (part.One o a) l = ap (λ (a : Given). of_base (operation o (a.base ∷ []))) (own a l)
    level_looks (part.Two o a b) l = ap₂ (λ (a b : Given). of_base (operation o (a.base ∷ b.base ∷ []))) (own a l.0) (own b l.1)
    level_looks (part.EqRows labels a b) l = ap₂ (λ (a b : Given). of_base (equal_rows labels a.row b.row)) (own a l.0) (own b l.1)
    level_looks (part.Empty columns list) l = ap (λ (list : Given). of_base (base.Bool (is_empty list.list))) (own list l)
    level_looks (part.Record items) l = ap (λ cells. of_row (row_with cells)) (own_cells items l)
    level_looks (part.Extend labels items rest) l = ap₂ (λ cells (rest : Given). of_row (extended labels cells rest.row)) (own_cells items l.0) (own rest l.1)
    level_looks (part.Project a label) l = ap (λ (a : Given). of_base (cell_in a.row.cells label)) (own a l)
    level_looks (part.Items items) l = ap of_list (own_rows items l)
    level_looks (part.Append a b) l = ap₂ (λ (a b : Given). of_list (a.list ++ b.list)) (own a l.0) (own b l.1)
    level_looks (part.ForList list x body) l =
        ap (λ (list : Given). of_list (flat_map (λ row. (f body (bind x (of_row row) values)).list) list.list)) (own list l.0)
        ∙ (λ t. of_list (flat_map (λ row. (looks body l.2 (bind x (of_row row) values) (bind x (of_row row) others) (λ j m. ap (λ w. if j == x then of_row row else w) (agree j (omega (arith, m, l.2)))) t).list) (f list others).list))
    level_looks (part.Table table labels) l = refl
    level_looks (part.Where c list) l = ap₂ (λ (c list : Given). of_list (if truth c.base then list.list else [])) (own c l.0) (own list l.1)

  abbrev AllLook : ℕ → (ℕ → Gives) → Type 0
  AllLook n found = (k : ℕ) → k < n → Looks k (found k)

  next_look : (n : ℕ) (found : ℕ → Gives) (x : Part) → Below n x → AllLook n found → AllLook (n + 1) (bind n (given_level tables found n x) found)
  next_look n found x below all k l values others agree = by_place (k == n) refl
    where
      by_place : (b : Bool) → k == n ≡ b → (if b then given_level tables found n x else found k) values ≡ (if b then given_level tables found n x else found k) others
      by_place true e = let here : k ≡ n = eqb-true k n e in level_looks found n all values others (subst (λ m. Agree m values others) here agree) x below
      by_place false e = all k (omega (arith, l, not_here)) values others agree
        where
          not_here : k ≡ n → ⊥
          not_here is = let on : (k == n) ≡ true = eq-eqb k n is in cc

  filled_look : (n : ℕ) (found : ℕ → Gives) (parts : List Part) → AllLook n found → ((j : ℕ) (x : Part) → slice_get parts j ≡ Some x → Below (n + j) x) → AllLook (n + length parts) (filled_from (given_level tables) n found parts)
  filled_look n found [] all below k l = all k (omega (arith, l))
  filled_look n found (x ∷ parts) all below k l =
      filled_look (n + 1) (bind n (given_level tables found n x) found) parts
      (next_look n found x (subst (λ m. Below m x) (zero_behind n) (below 0 x refl)) all)
      (λ j y is. subst (λ m. Below m y) (omega arith) (below (suc j) y is)) k (omega (arith, l))
    where
      zero_behind : (n : ℕ) → n + 0 ≡ n
      zero_behind n = omega arith

  pub gives_look : (parts : List Part) → AreOrdered parts → (k : ℕ) → k < length parts → Looks k (gives tables parts k)
  unfolding gives
  gives_look parts ordered k l = filled_look 0 none parts (λ k l. absurd (omega (arith, l))) (λ j x is. subst (λ m. Below m x) (omega arith) (ordered j x is)) k (omega (arith, l))

  -- it doesn't look at what is bound to a number behind its own
  pub gives_before : (parts : List Part) → AreOrdered parts → (k n : ℕ) → k < length parts → k < n → (g : Given) (values : Values) → gives tables parts k (bind n g values) ≡ gives tables parts k values
  gives_before parts ordered k n l before g values = gives_look parts ordered k l (bind n g values) values (λ j m. bind-other n j g values (λ e. lt_irrefl n (omega (arith, m, before, e))))
