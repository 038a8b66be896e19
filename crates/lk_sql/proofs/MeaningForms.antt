-- What SQL means, on each form of it.
use Rattle.std.proofs.Common.{◌≡◌, ℕ, ◌-◌, List, [], ◌∷◌, map, refl, sym, ◌∙◌, ap, ap₂, if◌then◌else◌, get_or}
use Rattle.std.specs.List.{filter}
use Rattle.lk_ast.specs.Tables.{Tables}
use Rattle.lk_ast.specs.declared.table.Base.{Base}
use Rattle.lk_ast.specs.declared.table.Base.TheVariants as base
use Rattle.lk_sql.specs.Meaning.{CellOf, RowsOf, Scope, ValueOf, cell, cell_in, cell_level, has_row, product, rows, rows_level, value, value_level}
use Rattle.lk_sql.specs.Operations.{operation, truth, zero_base}
use Rattle.lk_sql.specs.declared.tree.Out.{Out, fold_out-Out}
use Rattle.lk_sql.specs.declared.tree.Scalar.{Scalar}
use Rattle.lk_sql.specs.declared.tree.Scalar.TheFolds.{fold-Scalar, fold-roll-Scalar, the_lemmas}
use Rattle.lk_sql.specs.declared.tree.Scalar.TheOpen.{Scalar-F}
use Rattle.lk_sql.specs.declared.tree.Scalar.TheVariants as scalar
use Rattle.lk_sql.specs.declared.tree.Select.{Select, fold_out-Select, out-Select}
use Rattle.lk_sql.specs.declared.tree.SqlOp.{SqlOp}

module _ (tables : Tables) (params : List Base) where
  folded : Scalar → Scope → Base
  unfolding value
  folded = fold-Scalar ValueOf CellOf RowsOf (value_level tables params) (cell_level tables params) (rows_level tables params)

  lit : (b : Base) → value tables params (scalar.Lit b) ≡ (λ s. b)
  unfolding value
  lit b = search the_lemmas

  parameter : (k : ℕ) → value tables params (scalar.Param k) ≡ (λ s. get_or params (k - 1) zero_base)
  unfolding value
  parameter k = search the_lemmas

  column : (k : ℕ) (label : List ℕ) → value tables params (scalar.Column k label) ≡ (λ s. cell_in (s k).cells label)
  unfolding value
  column k label = search the_lemmas

  operated : (o : SqlOp) (xs : List Scalar) → value tables params (scalar.Op o xs) ≡ (λ s. operation o (map (λ f. f s) (map (value tables params) xs)))
  unfolding value
  operated o xs = search the_lemmas

  chosen : (c a b : Scalar) → value tables params (scalar.Case c a b) ≡ (λ s. if truth (value tables params c s) then value tables params a s else value tables params b s)
  unfolding value folded
  chosen c a b = ap folded (sym (scalar.rolls-Case c a b)) ∙ fold-roll-Scalar ValueOf CellOf RowsOf (value_level tables params) (cell_level tables params) (rows_level tables params) (Scalar-F.Case c a b)

  exists : (selects : List Select) → value tables params (scalar.Exists selects) ≡ (λ s. base.Bool (has_row (map (λ f. f s) (map (rows tables params) selects))))
  unfolding value rows
  exists selects = search the_lemmas

  one_cell : (out : Out) → cell tables params out ≡ (λ s. record { label = out.label; value = value tables params out.scalar s })
  unfolding value cell
  one_cell out = fold_out-Out ValueOf CellOf RowsOf (value_level tables params) (cell_level tables params) (rows_level tables params) out

  selected : (q : Select) → rows tables params q
      ≡ (λ s. map (λ t. record { cells = map (λ f. f t) (map (cell tables params) (out-Select q).outs) }) (filter (λ t. truth (value tables params (out-Select q).cond t)) (product tables (out-Select q).froms s)))
  unfolding value cell rows
  selected q = fold_out-Select ValueOf CellOf RowsOf (value_level tables params) (cell_level tables params) (rows_level tables params) q

  map-map : {X Y Z : Type 0} (f : Y → Z) (h : X → Y) (xs : List X) → map f (map h xs) ≡ map (λ x. f (h x)) xs
  map-map f h [] = refl
  map-map f h (x ∷ xs) = ap (λ ys. f (h x) ∷ ys) (map-map f h xs)

  pub value_lit : (b : Base) (s : Scope) → value tables params (scalar.Lit b) s ≡ b
  value_lit b s = ap (λ f. f s) (lit b)

  pub value_param : (k : ℕ) (s : Scope) → value tables params (scalar.Param k) s ≡ get_or params (k - 1) zero_base
  value_param k s = ap (λ f. f s) (parameter k)

  pub value_column : (k : ℕ) (label : List ℕ) (s : Scope) → value tables params (scalar.Column k label) s ≡ cell_in (s k).cells label
  value_column k label s = ap (λ f. f s) (column k label)

  pub value_op : (o : SqlOp) (xs : List Scalar) (s : Scope) → value tables params (scalar.Op o xs) s ≡ operation o (map (λ x. value tables params x s) xs)
  value_op o xs s = ap (λ f. f s) (operated o xs) ∙ ap (operation o) (map-map (λ f. f s) (value tables params) xs)

  pub value_case : (c a b : Scalar) (s : Scope) → value tables params (scalar.Case c a b) s ≡ (if truth (value tables params c s) then value tables params a s else value tables params b s)
  value_case c a b s = ap (λ f. f s) (chosen c a b)

  pub value_exists : (selects : List Select) (s : Scope) → value tables params (scalar.Exists selects) s ≡ base.Bool (has_row (map (λ q. rows tables params q s) selects))
  value_exists selects s = ap (λ f. f s) (exists selects) ∙ ap (λ x. base.Bool (has_row x)) (map-map (λ f. f s) (rows tables params) selects)

  pub cell_is : (out : Out) (s : Scope) → cell tables params out s ≡ record { label = out.label; value = value tables params out.scalar s }
  cell_is out s = ap (λ f. f s) (one_cell out)

  map-alike : {X Y : Type 0} (f g : X → Y) → ((x : X) → f x ≡ g x) → (xs : List X) → map f xs ≡ map g xs
  map-alike f g alike [] = refl
  map-alike f g alike (x ∷ xs) = ap₂ (λ y ys. y ∷ ys) (alike x) (map-alike f g alike xs)

  pub rows_is : (q : Select) (s : Scope) → rows tables params q s
      ≡ map (λ t. record { cells = map (λ out. cell tables params out t) (out-Select q).outs }) (filter (λ t. truth (value tables params (out-Select q).cond t)) (product tables (out-Select q).froms s))
  rows_is q s =
      ap (λ f. f s) (selected q)
      ∙ map-alike (λ t. record { cells = map (λ f. f t) (map (cell tables params) (out-Select q).outs) }) (λ t. record { cells = map (λ out. cell tables params out t) (out-Select q).outs }) (λ t. ap (λ cells. record { cells = cells }) (map-map (λ f. f t) (cell tables params) (out-Select q).outs)) _
