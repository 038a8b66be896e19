-- Conditions, labels, and the parts that are bases or records.
use Rattle.std.proofs.Common.{◌≡◌, ℕ, ◌≤◌, List, [], ◌∷◌, map, refl, sym, ◌∙◌, ap, ap₂, if◌then◌else◌, Bool, true, false, not, ◌&&◌, true≢false, bytes_eq}
use Rattle.lk_ast.specs.Tables.{Tables}
use Rattle.lk_ast.specs.declared.table.Base.{Base}
use Rattle.lk_ast.specs.declared.table.Base.TheVariants as base
use Rattle.lk_ast.specs.declared.table.Row.{Row}
use Rattle.lk_sql.specs.Meaning.{CellOf, RowsOf, Scope, ValueOf, cell_in, cell_level, rows_level, value, value_level}
use Rattle.lk_sql.specs.Operations.{both, equality, operation, truth, zero_base}
use Rattle.lk_sql.specs.declared.tree.Out.{Out, fold-Out}
use Rattle.lk_sql.specs.declared.tree.Scalar.{Scalar, out-Scalar}
use Rattle.lk_sql.specs.declared.tree.Scalar.TheFolds.{fold-Scalar, fold_out-Scalar, map-Scalar}
use Rattle.lk_sql.specs.declared.tree.Scalar.TheOpen.{Scalar-F}
use Rattle.lk_sql.specs.declared.tree.Scalar.TheVariants as scalar
use Rattle.lk_sql.specs.declared.tree.Select.{Select, fold-Select}
use Rattle.lk_sql.specs.declared.tree.SqlOp.{SqlOp}
use Rattle.lk_sql.specs.declared.tree.SqlOp.TheVariants as op
use Rattle.lk_query.specs.Given as given
use Rattle.lk_query.specs.Given.{Given, Gives, Values, at_labels, cell_or, cell_with, cells_given, extended, of_base, of_row, row_with}
use Rattle.lk_query.specs.declared.part.Labelled.{Labelled}
use Rattle.lk_norm.specs.Normal.{Names, StandsFor, always_level, as_base, as_row, both as and, columns_of, conjunction, equal_at, equal_from, equal_rows, is_always, negation, output, outputs, scalar_in, scalar_or}
use Rattle.lk_norm.proofs.Shows.{Follows, ShowAll, at, at-looks, cells, holds, row_of, shows_base, shows_row, val}
use Rattle.lk_sql.proofs.MeaningForms.{value_case, value_column, value_lit, value_op}

module _ (tables : Tables) (params : List Base) where
  -- ---- conditions

  always_holds : (x : Scalar-F Scalar Out Select) (h : Scalar → ValueOf) (k : Out → CellOf) (r : Select → RowsOf) (s : Scope) → always_level x ≡ true → truth (value_level tables params (map-Scalar Scalar Out Select ValueOf CellOf RowsOf h k r x) s) ≡ true
  always_holds (Scalar-F.Lit (base.Bool b)) h k r s e = e
  always_holds (Scalar-F.Lit (base.Int n)) h k r s e = absurd (true≢false (sym e))
  always_holds (Scalar-F.Lit (base.Text n)) h k r s e = absurd (true≢false (sym e))
  always_holds (Scalar-F.Param n) h k r s e = absurd (true≢false (sym e))
  always_holds (Scalar-F.Column n label) h k r s e = absurd (true≢false (sym e))
  always_holds (Scalar-F.Op o xs) h k r s e = absurd (true≢false (sym e))
  always_holds (Scalar-F.Case c a b) h k r s e = absurd (true≢false (sym e))
  always_holds (Scalar-F.Exists selects) h k r s e = absurd (true≢false (sym e))

  holds-always : (c : Scalar) (s : Scope) → is_always c ≡ true → holds tables params c s ≡ true
  unfolding value
  holds-always c s e =
      ap (λ f. truth (f s)) (fold_out-Scalar ValueOf CellOf RowsOf (value_level tables params) (cell_level tables params) (rows_level tables params) c)
      ∙ always_holds (out-Scalar c)
      (fold-Scalar ValueOf CellOf RowsOf (value_level tables params) (cell_level tables params) (rows_level tables params))
      (fold-Out ValueOf CellOf RowsOf (value_level tables params) (cell_level tables params) (rows_level tables params))
      (fold-Select ValueOf CellOf RowsOf (value_level tables params) (cell_level tables params) (rows_level tables params))
      s e

  pub holds-not : (c : Scalar) (s : Scope) → holds tables params (negation c) s ≡ not (holds tables params c s)
  holds-not c s = ap truth (value_op tables params op.Not (c ∷ []) s)

  holds-and : (c d : Scalar) (s : Scope) → holds tables params (and c d) s ≡ holds tables params c s && holds tables params d s
  holds-and c d s = ap truth (value_op tables params op.And (c ∷ d ∷ []) s)

  and-true : (b : Bool) → b && true ≡ b
  and-true true = refl
  and-true false = refl

  by_tests : (c d : Scalar) (s : Scope) (x y : Bool) → is_always c ≡ x → is_always d ≡ y → holds tables params (if x then d else (if y then c else and c d)) s ≡ holds tables params c s && holds tables params d s
  by_tests c d s true y e f = ap (λ b. b && holds tables params d s) (sym (holds-always c s e))
  by_tests c d s false true e f = sym (and-true (holds tables params c s)) ∙ ap (λ b. holds tables params c s && b) (sym (holds-always d s f))
  by_tests c d s false false e f = holds-and c d s

  pub holds-conjunction : (c d : Scalar) (s : Scope) → holds tables params (conjunction c d) s ≡ holds tables params c s && holds tables params d s
  holds-conjunction c d s = by_tests c d s (is_always c) (is_always d) refl refl

  -- ---- labels

  pub scalar_in-is : (outs : List Out) (s : Scope) (label : List ℕ) → val tables params (scalar_in outs label) s ≡ cell_in (cells tables params outs s) label
  scalar_in-is [] s label = value_lit tables params zero_base s
  scalar_in-is (out ∷ outs) s label = step (bytes_eq out.label label) (scalar_in-is outs s label)
    where
      step : (b : Bool) → val tables params (scalar_in outs label) s ≡ cell_in (cells tables params outs s) label → val tables params (if b then out.scalar else scalar_in outs label) s ≡ (if b then val tables params out.scalar s else cell_in (cells tables params outs s) label)
      step true e = refl
      step false e = e

  pub scalar_or-is : (outs rest : List Out) (s : Scope) (label : List ℕ) → val tables params (scalar_or outs rest label) s ≡ cell_or (cells tables params outs s) (row_of tables params rest s) label
  scalar_or-is [] rest s label = scalar_in-is rest s label
  scalar_or-is (out ∷ outs) rest s label = step (bytes_eq out.label label) (scalar_or-is outs rest s label)
    where
      step : (b : Bool) → val tables params (scalar_or outs rest label) s ≡ cell_or (cells tables params outs s) (row_of tables params rest s) label → val tables params (if b then out.scalar else scalar_or outs rest label) s ≡ (if b then val tables params out.scalar s else cell_or (cells tables params outs s) (row_of tables params rest s) label)
      step true e = refl
      step false e = e

  -- the cells at some labels, by a scalar for each
  pub cells-labels : (f : List ℕ → Scalar) (h : List ℕ → Base) (labels : List (List ℕ)) (s : Scope) → ((label : List ℕ) → val tables params (f label) s ≡ h label) → cells tables params (map (λ label. output label (f label)) labels) s ≡ map (λ label. cell_with label (h label)) labels
  cells-labels f h [] s e = refl
  cells-labels f h (label ∷ labels) s e = ap₂ (λ x xs. cell_with label x ∷ xs) (e label) (cells-labels f h labels s e)

  pub row-columns : (n : ℕ) (labels : List (List ℕ)) (s : Scope) → row_of tables params (columns_of n labels) s ≡ at_labels labels (s n)
  row-columns n labels s = ap row_with (cells-labels (λ label. scalar.Column n label) (λ label. cell_in (s n).cells label) labels s (λ label. value_column tables params n label s))

  equal_at-is : (a b : List Out) (s : Scope) (label : List ℕ) → val tables params (equal_at a b label) s ≡ given.equal_at (row_of tables params a s) (row_of tables params b s) label
  equal_at-is a b s label = value_op tables params op.Eq (scalar_in a label ∷ scalar_in b label ∷ []) s ∙ ap₂ equality (scalar_in-is a s label) (scalar_in-is b s label)

  equal_from-is : (x : Scalar) (y : Base) (a b : List Out) (s : Scope) (labels : List (List ℕ)) → val tables params x s ≡ y → val tables params (equal_from x a b labels) s ≡ given.equal_from y (row_of tables params a s) (row_of tables params b s) labels
  equal_from-is x y a b s [] e = e
  equal_from-is x y a b s (label ∷ labels) e =
      equal_from-is (and x (equal_at a b label)) (both y (given.equal_at (row_of tables params a s) (row_of tables params b s) label)) a b s labels
      (value_op tables params op.And (x ∷ equal_at a b label ∷ []) s ∙ ap₂ both e (equal_at-is a b s label))

  pub equal_rows-is : (labels : List (List ℕ)) (a b : List Out) (s : Scope) → val tables params (equal_rows labels a b) s ≡ given.equal_rows labels (row_of tables params a s) (row_of tables params b s)
  equal_rows-is [] a b s = value_lit tables params (base.Bool true) s
  equal_rows-is (label ∷ labels) a b s = equal_from-is (equal_at a b label) (given.equal_at (row_of tables params a s) (row_of tables params b s) label) a b s labels (equal_at-is a b s label)

  -- ---- parts that are bases or records

  abbrev F : StandsFor → Gives → Type 0
  F = Follows tables params

  pub follows_lit : (b : Base) → F (λ names. as_base (λ n. scalar.Lit b)) (λ values. of_base b)
  follows_lit b n names values h = shows_base tables params n (λ m. scalar.Lit b) (λ s. b) (λ m l s. value_lit tables params b s) (λ s t e. refl)

  -- a base that follows from what the parts give
  pub base_by : (f : StandsFor) (g : Values → Base) → ((n : ℕ) (names : Names) (values : ℕ → Scope → Given) → ShowAll tables params n names values → (m : ℕ) → n ≤ m → (s : Scope) → val tables params ((f names).base m) s ≡ g (at tables params s values)) → F (λ names. as_base (f names).base) (λ values. of_base (g values))
  base_by f g e n names values h =
      shows_base tables params n (f names).base (λ s. g (at tables params s values)) (λ m l s. e n names values h m l s) (λ s t i. ap g (at-looks tables params n names values h s t i))

  row_by : (f : StandsFor) (g : Values → Row) → ((n : ℕ) (names : Names) (values : ℕ → Scope → Given) → ShowAll tables params n names values → (m : ℕ) → n ≤ m → (s : Scope) → row_of tables params ((f names).row m) s ≡ g (at tables params s values)) → F (λ names. as_row (f names).row) (λ values. of_row (g values))
  row_by f g e n names values h =
      shows_row tables params n (f names).row (λ s. g (at tables params s values)) (λ m l s. e n names values h m l s) (λ s t i. ap g (at-looks tables params n names values h s t i))

  pub follows_case :
      (c : StandsFor) (c' : Gives) (a : StandsFor) (a' : Gives) (b : StandsFor) (b' : Gives) → F c c' → F a a' → F b b' →
      F (λ names. as_base (λ n. scalar.Case ((c names).base n) ((a names).base n) ((b names).base n))) (λ values. of_base (if truth (c' values).base then (a' values).base else (b' values).base))
  follows_case c c' a a' b b' fc fa fb =
      base_by (λ names. as_base (λ n. scalar.Case ((c names).base n) ((a names).base n) ((b names).base n))) (λ values. if truth (c' values).base then (a' values).base else (b' values).base)
      (λ n names values h m l s.
      let x = (fc n names values h).base m l s in
      let y = (fa n names values h).base m l s in
      let z = (fb n names values h).base m l s in
      value_case tables params ((c names).base m) ((a names).base m) ((b names).base m) s
      ∙ ap (λ u. if truth u then val tables params ((a names).base m) s else val tables params ((b names).base m) s) x
      ∙ ap₂ (λ u v. if truth (c' (at tables params s values)).base then u else v) y z)

  pub follows_equal : (labels : List (List ℕ)) (a : StandsFor) (a' : Gives) (b : StandsFor) (b' : Gives) → F a a' → F b b' → F (λ names. as_base (λ n. equal_rows labels ((a names).row n) ((b names).row n))) (λ values. of_base (given.equal_rows labels (a' values).row (b' values).row))
  follows_equal labels a a' b b' fa fb =
      base_by (λ names. as_base (λ n. equal_rows labels ((a names).row n) ((b names).row n))) (λ values. given.equal_rows labels (a' values).row (b' values).row)
      (λ n names values h m l s. equal_rows-is labels ((a names).row m) ((b names).row m) s ∙ ap₂ (given.equal_rows labels) ((fa n names values h).row m l s) ((fb n names values h).row m l s))

  pub follows_project : (a : StandsFor) (a' : Gives) (label : List ℕ) → F a a' → F (λ names. as_base (λ n. scalar_in ((a names).row n) label)) (λ values. of_base (cell_in (a' values).row.cells label))
  follows_project a a' label fa =
      base_by (λ names. as_base (λ n. scalar_in ((a names).row n) label)) (λ values. cell_in (a' values).row.cells label)
      (λ n names values h m i s. scalar_in-is ((a names).row m) s label ∙ ap (λ r. cell_in r.cells label) ((fa n names values h).row m i s))

  if-row : (b : Bool) (x y : Row) (label : List ℕ) → (if b then cell_in x.cells label else cell_in y.cells label) ≡ cell_in (if b then x else y).cells label
  if-row true x y label = refl
  if-row false x y label = refl

  pub follows_if_row :
      (labels : List (List ℕ)) (c : StandsFor) (c' : Gives) (a : StandsFor) (a' : Gives) (b : StandsFor) (b' : Gives) → F c c' → F a a' → F b b' →
      F (λ names. as_row (λ n. map (λ label. output label (scalar.Case ((c names).base n) (scalar_in ((a names).row n) label) (scalar_in ((b names).row n) label))) labels))
      (λ values. of_row (at_labels labels (if truth (c' values).base then (a' values).row else (b' values).row)))
  follows_if_row labels c c' a a' b b' fc fa fb =
      row_by (λ names. as_row (λ n. map (λ label. output label (scalar.Case ((c names).base n) (scalar_in ((a names).row n) label) (scalar_in ((b names).row n) label))) labels)) (λ values. at_labels labels (if truth (c' values).base then (a' values).row else (b' values).row))
      (λ n names values h m i s.
      let z = at tables params s values in
      ap row_with (cells-labels (λ label. scalar.Case ((c names).base m) (scalar_in ((a names).row m) label) (scalar_in ((b names).row m) label)) (λ label. cell_in (if truth (c' z).base then (a' z).row else (b' z).row).cells label) labels s
      (λ label.
      value_case tables params ((c names).base m) (scalar_in ((a names).row m) label) (scalar_in ((b names).row m) label) s
      ∙ ap (λ u. if truth u then val tables params (scalar_in ((a names).row m) label) s else val tables params (scalar_in ((b names).row m) label) s) ((fc n names values h).base m i s)
      ∙ ap₂ (λ u v. if truth (c' z).base then u else v)
      (scalar_in-is ((a names).row m) s label ∙ ap (λ r. cell_in r.cells label) ((fa n names values h).row m i s))
      (scalar_in-is ((b names).row m) s label ∙ ap (λ r. cell_in r.cells label) ((fb n names values h).row m i s))
      ∙ if-row (truth (c' z).base) (a' z).row (b' z).row label)))

  -- several parts
  module _ (f : ℕ → StandsFor) (g : ℕ → Gives) (h : (k : ℕ) → F (f k) (g k)) where
    pub follows_one : (o : SqlOp) (a : ℕ) → F (λ names. as_base (λ n. scalar.Op o ((f a names).base n ∷ []))) (λ values. of_base (operation o ((g a values).base ∷ [])))
    follows_one o a =
        base_by (λ names. as_base (λ n. scalar.Op o ((f a names).base n ∷ []))) (λ values. operation o ((g a values).base ∷ []))
        (λ n names values i m l s. value_op tables params o ((f a names).base m ∷ []) s ∙ ap (λ x. operation o (x ∷ [])) ((h a n names values i).base m l s))

    pub follows_two : (o : SqlOp) (a b : ℕ) → F (λ names. as_base (λ n. scalar.Op o ((f a names).base n ∷ (f b names).base n ∷ []))) (λ values. of_base (operation o ((g a values).base ∷ (g b values).base ∷ [])))
    follows_two o a b =
        base_by (λ names. as_base (λ n. scalar.Op o ((f a names).base n ∷ (f b names).base n ∷ []))) (λ values. operation o ((g a values).base ∷ (g b values).base ∷ []))
        (λ n names values i m l s. value_op tables params o ((f a names).base m ∷ (f b names).base m ∷ []) s ∙ ap₂ (λ x y. operation o (x ∷ y ∷ [])) ((h a n names values i).base m l s) ((h b n names values i).base m l s))

    -- the parts of a record
    labelled : (n : ℕ) (names : Names) (values : ℕ → Scope → Given) → ShowAll tables params n names values → (m : ℕ) → n ≤ m → (s : Scope) (items : List Labelled) →
        cells tables params (outputs f items names m) s ≡ cells_given tables g items (at tables params s values)
    labelled n names values i m l s [] = refl
    labelled n names values i m l s (item ∷ items) = ap₂ (λ x xs. cell_with item.label x ∷ xs) ((h item.part n names values i).base m l s) (labelled n names values i m l s items)

    pub follows_record : (items : List Labelled) → F (λ names. as_row (outputs f items names)) (λ values. of_row (row_with (cells_given tables g items values)))
    follows_record items =
        row_by (λ names. as_row (outputs f items names)) (λ values. row_with (cells_given tables g items values)) (λ n names values i m l s. ap row_with (labelled n names values i m l s items))

    pub follows_extend :
        (labels : List (List ℕ)) (items : List Labelled) (rest : ℕ) →
        F (λ names. as_row (λ n. map (λ label. output label (scalar_or (outputs f items names n) ((f rest names).row n) label)) labels)) (λ values. of_row (extended labels (cells_given tables g items values) (g rest values).row))
    follows_extend labels items rest =
        row_by (λ names. as_row (λ n. map (λ label. output label (scalar_or (outputs f items names n) ((f rest names).row n) label)) labels)) (λ values. extended labels (cells_given tables g items values) (g rest values).row)
        (λ n names values i m j s.
        let z = at tables params s values in
        ap row_with (cells-labels (λ label. scalar_or (outputs f items names m) ((f rest names).row m) label) (λ label. cell_or (cells_given tables g items z) (g rest z).row label) labels s
        (λ label.
        scalar_or-is (outputs f items names m) ((f rest names).row m) s label
        ∙ ap₂ (λ x y. cell_or x y label) (labelled n names values i m j s items) ((h rest n names values i).row m j s))))
