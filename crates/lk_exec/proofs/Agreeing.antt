-- What SQL gives depends on the tables that it names, and on no others.
use Rattle.std.proofs.Common.{◌≡◌, ℕ, Bool, true, ◌&&◌, List, [], ◌∷◌, ◌++◌, cond, map, refl, sym, ◌∙◌, ap, ap₂, subst}
use Rattle.std.specs.List.{filter, flat_map, list_all}
use Rattle.std.proofs.lemmas.Bool.{and_parts}
use Rattle.std.proofs.lemmas.List.Elements.{filter_agree}
use Rattle.lk_ast.specs.Tables.{Tables}
use Rattle.lk_ast.specs.declared.table.Base.{Base}
use Rattle.lk_ast.specs.declared.table.Base.TheVariants as base
use Rattle.lk_ast.specs.declared.table.Row.{Row}
use Rattle.lk_ast.specs.declared.table.TableDef.{TableDef}
use Rattle.lk_sql.specs.Meaning.{CellOf, RowsOf, Scope, ValueOf, all_rows, cell_level, has_row, product, rows, rows_level, value_level, with_row}
use Rattle.lk_sql.specs.Operations.{operation, truth}
use Rattle.lk_sql.specs.declared.tree.FromItem.{FromItem}
use Rattle.lk_sql.specs.declared.tree.Out.{Out, fold-Out, fold-roll-Out, roll-Out}
use Rattle.lk_sql.specs.declared.tree.Scalar.{Scalar, roll-Scalar}
use Rattle.lk_sql.specs.declared.tree.Scalar.TheFolds.{fold-Scalar, fold-roll-Scalar, map-Scalar}
use Rattle.lk_sql.specs.declared.tree.Scalar.TheOpen.{Scalar-F, Out-F, Select-F}
use Rattle.lk_sql.specs.declared.tree.Select.{Select, fold-Select, fold-roll-Select, ind-Select, roll-Select}
use Rattle.lk_exec.specs.NamedTables.{is_declared, names_declared, out_level, scalar_level, select_level}

module _ {X Y : Type 0} (f g : X → List Y) (alike : (x : X) → f x ≡ g x) where
  flat_map-alike : (xs : List X) → flat_map f xs ≡ flat_map g xs
  flat_map-alike [] = refl
  flat_map-alike (x ∷ xs) = ap₂ (λ a b. a ++ b) (alike x) (flat_map-alike xs)

module _ {X Y : Type 0} (f g : X → Y) (alike : (x : X) → f x ≡ g x) where
  map-alike : (xs : List X) → map f xs ≡ map g xs
  map-alike [] = refl
  map-alike (x ∷ xs) = ap₂ (λ a b. a ∷ b) (alike x) (map-alike xs)

-- two tables that are the same at each name that is declared
module _ (defs : List TableDef) (these those : Tables) (same : (name : List ℕ) → is_declared defs name ≡ true → these name ≡ those name) (params : List Base) where
  product-same : (froms : List FromItem) → list_all (λ (from : FromItem). is_declared defs from.table) froms ≡ true → (scope : Scope) → product these froms scope ≡ product those froms scope
  product-same [] are scope = refl
  product-same (from ∷ froms) are scope =
      let both = and_parts (is_declared defs from.table) (list_all (λ (from : FromItem). is_declared defs from.table) froms) are in
      ap (flat_map (λ row. product these froms (with_row from.var row scope))) (same from.table both.0)
      ∙ flat_map-alike (λ row. product these froms (with_row from.var row scope)) (λ row. product those froms (with_row from.var row scope)) (λ row. product-same froms both.1 (with_row from.var row scope)) (those from.table)

  -- ---- whether names are declared, and what is given, as folds

  scalar_declared : Scalar → Bool
  scalar_declared = fold-Scalar Bool Bool Bool (scalar_level defs) (out_level defs) (select_level defs)

  out_declared : Out → Bool
  out_declared = fold-Out Bool Bool Bool (scalar_level defs) (out_level defs) (select_level defs)

  select_declared : Select → Bool
  select_declared = fold-Select Bool Bool Bool (scalar_level defs) (out_level defs) (select_level defs)

  module _ (tables : Tables) where
    value_of : Scalar → ValueOf
    value_of = fold-Scalar ValueOf CellOf RowsOf (value_level tables params) (cell_level tables params) (rows_level tables params)

    cell_of : Out → CellOf
    cell_of = fold-Out ValueOf CellOf RowsOf (value_level tables params) (cell_level tables params) (rows_level tables params)

    rows_of : Select → RowsOf
    rows_of = fold-Select ValueOf CellOf RowsOf (value_level tables params) (cell_level tables params) (rows_level tables params)

  abbrev SameScalar : Scalar → Type 0
  SameScalar s = scalar_declared s ≡ true → (scope : Scope) → value_of these s scope ≡ value_of those s scope

  abbrev SameOut : Out → Type 0
  SameOut o = out_declared o ≡ true → (scope : Scope) → cell_of these o scope ≡ cell_of those o scope

  abbrev SameSelect : Select → Type 0
  SameSelect q = select_declared q ≡ true → (scope : Scope) → rows_of these q scope ≡ rows_of those q scope

  abbrev SuchScalar : Type 0
  SuchScalar = (s : Scalar) × SameScalar s

  abbrev SuchOut : Type 0
  SuchOut = (o : Out) × SameOut o

  abbrev SuchSelect : Type 0
  SuchSelect = (q : Select) × SameSelect q

  -- ---- lists

  scalars-same : (xs : List SuchScalar) → list_all (λ declared. declared) (map scalar_declared (map (λ x. x.0) xs)) ≡ true → (scope : Scope)
      → map (λ f. f scope) (map (value_of these) (map (λ x. x.0) xs)) ≡ map (λ f. f scope) (map (value_of those) (map (λ x. x.0) xs))
  scalars-same [] are scope = refl
  scalars-same (x ∷ xs) are scope =
      let both = and_parts (scalar_declared x.0) (list_all (λ declared. declared) (map scalar_declared (map (λ x. x.0) xs))) are in
      ap₂ (λ a b. a ∷ b) (x.1 both.0 scope) (scalars-same xs both.1 scope)

  outs-same : (xs : List SuchOut) → list_all (λ declared. declared) (map out_declared (map (λ x. x.0) xs)) ≡ true → (scope : Scope)
      → map (λ f. f scope) (map (cell_of these) (map (λ x. x.0) xs)) ≡ map (λ f. f scope) (map (cell_of those) (map (λ x. x.0) xs))
  outs-same [] are scope = refl
  outs-same (x ∷ xs) are scope =
      let both = and_parts (out_declared x.0) (list_all (λ declared. declared) (map out_declared (map (λ x. x.0) xs))) are in
      ap₂ (λ a b. a ∷ b) (x.1 both.0 scope) (outs-same xs both.1 scope)

  selects-same : (xs : List SuchSelect) → list_all (λ declared. declared) (map select_declared (map (λ x. x.0) xs)) ≡ true → (scope : Scope)
      → map (λ f. f scope) (map (rows_of these) (map (λ x. x.0) xs)) ≡ map (λ f. f scope) (map (rows_of those) (map (λ x. x.0) xs))
  selects-same [] are scope = refl
  selects-same (x ∷ xs) are scope =
      let both = and_parts (select_declared x.0) (list_all (λ declared. declared) (map select_declared (map (λ x. x.0) xs))) are in
      ap₂ (λ a b. a ∷ b) (x.1 both.0 scope) (selects-same xs both.1 scope)

  -- ---- one level

  abbrev bare : Scalar-F SuchScalar SuchOut SuchSelect → Scalar-F Scalar Out Select
  bare = map-Scalar SuchScalar SuchOut SuchSelect Scalar Out Select (λ x. x.0) (λ x. x.0) (λ x. x.0)

  level-same : (y : Scalar-F SuchScalar SuchOut SuchSelect)
      → scalar_level defs (map-Scalar Scalar Out Select Bool Bool Bool scalar_declared out_declared select_declared (bare y)) ≡ true → (scope : Scope)
      → value_level these params (map-Scalar Scalar Out Select ValueOf CellOf RowsOf (value_of these) (cell_of these) (rows_of these) (bare y)) scope
      ≡ value_level those params (map-Scalar Scalar Out Select ValueOf CellOf RowsOf (value_of those) (cell_of those) (rows_of those) (bare y)) scope
  level-same (Scalar-F.Lit b) are scope = refl
  level-same (Scalar-F.Param k) are scope = refl
  level-same (Scalar-F.Column n label) are scope = refl
  level-same (Scalar-F.Op o xs) are scope = ap (operation o) (scalars-same xs are scope)
  level-same (Scalar-F.Case c a b) are scope =
      let both = and_parts (scalar_declared c.0) (scalar_declared a.0 && scalar_declared b.0) are in
      let others = and_parts (scalar_declared a.0) (scalar_declared b.0) both.1 in
      ap (λ t. cond t (value_of these a.0 scope) (value_of these b.0 scope)) (ap truth (c.1 both.0 scope))
      ∙ ap₂ (λ v w. cond (truth (value_of those c.0 scope)) v w) (a.1 others.0 scope) (b.1 others.1 scope)
  level-same (Scalar-F.Exists selects) are scope = ap (λ found. base.Bool (has_row found)) (selects-same selects are scope)

  select-same : (froms : List FromItem) (c : SuchScalar) (outs : List SuchOut)
      → (list_all (λ (from : FromItem). is_declared defs from.table) froms && (scalar_declared c.0 && list_all (λ declared. declared) (map out_declared (map (λ x. x.0) outs)))) ≡ true → (scope : Scope)
      → rows_level these params (record { froms = froms; cond = value_of these c.0; outs = map (cell_of these) (map (λ x. x.0) outs) }) scope
      ≡ rows_level those params (record { froms = froms; cond = value_of those c.0; outs = map (cell_of those) (map (λ x. x.0) outs) }) scope
  select-same froms c outs are scope =
      let both = and_parts (list_all (λ (from : FromItem). is_declared defs from.table) froms) (scalar_declared c.0 && list_all (λ declared. declared) (map out_declared (map (λ x. x.0) outs))) are in
      let others = and_parts (scalar_declared c.0) (list_all (λ declared. declared) (map out_declared (map (λ x. x.0) outs))) both.1 in
      let these_row : Scope → Row = λ t. record { cells = map (λ f. f t) (map (cell_of these) (map (λ x. x.0) outs)) } in
      let those_row : Scope → Row = λ t. record { cells = map (λ f. f t) (map (cell_of those) (map (λ x. x.0) outs)) } in
      ap (λ scopes. map these_row (filter (λ t. truth (value_of these c.0 t)) scopes)) (product-same froms both.0 scope)
      ∙ ap (map these_row) (filter_agree (λ t. truth (value_of these c.0 t)) (λ t. truth (value_of those c.0 t)) (λ t. ap truth (c.1 others.0 t)) (product those froms scope))
      ∙ map-alike these_row those_row (λ t. ap (λ cells. record { cells = cells }) (outs-same outs others.1 t)) (filter (λ t. truth (value_of those c.0 t)) (product those froms scope))

  -- ---- all of it

  declared-roll : (x : Scalar-F Scalar Out Select) → scalar_declared (roll-Scalar x) ≡ scalar_level defs (map-Scalar Scalar Out Select Bool Bool Bool scalar_declared out_declared select_declared x)
  unfolding scalar_declared select_declared out_declared
  declared-roll x = fold-roll-Scalar Bool Bool Bool (scalar_level defs) (out_level defs) (select_level defs) x

  value-roll : (tables : Tables) (x : Scalar-F Scalar Out Select) → value_of tables (roll-Scalar x) ≡ value_level tables params (map-Scalar Scalar Out Select ValueOf CellOf RowsOf (value_of tables) (cell_of tables) (rows_of tables) x)
  unfolding value_of rows_of cell_of
  value-roll tables x = fold-roll-Scalar ValueOf CellOf RowsOf (value_level tables params) (cell_level tables params) (rows_level tables params) x

  out_declared-roll : (x : Out-F Scalar Out Select) → out_declared (roll-Out x) ≡ scalar_declared x.scalar
  unfolding out_declared scalar_declared
  out_declared-roll x = fold-roll-Out Bool Bool Bool (scalar_level defs) (out_level defs) (select_level defs) x

  cell-roll : (tables : Tables) (x : Out-F Scalar Out Select) → cell_of tables (roll-Out x) ≡ (λ scope. record { label = x.label; value = value_of tables x.scalar scope })
  unfolding cell_of value_of
  cell-roll tables x = fold-roll-Out ValueOf CellOf RowsOf (value_level tables params) (cell_level tables params) (rows_level tables params) x

  select_declared-roll : (x : Select-F Scalar Out Select) → select_declared (roll-Select x) ≡ select_level defs (record { froms = x.froms; cond = scalar_declared x.cond; outs = map out_declared x.outs })
  unfolding select_declared scalar_declared out_declared
  select_declared-roll x = fold-roll-Select Bool Bool Bool (scalar_level defs) (out_level defs) (select_level defs) x

  rows-roll : (tables : Tables) (x : Select-F Scalar Out Select) → rows_of tables (roll-Select x) ≡ rows_level tables params (record { froms = x.froms; cond = value_of tables x.cond; outs = map (cell_of tables) x.outs })
  unfolding rows_of cell_of value_of
  rows-roll tables x = fold-roll-Select ValueOf CellOf RowsOf (value_level tables params) (cell_level tables params) (rows_level tables params) x

  scalar_of_level : (y : Scalar-F SuchScalar SuchOut SuchSelect) → SameScalar (roll-Scalar (bare y))
  scalar_of_level y are scope =
      ap (λ f. f scope) (value-roll these (bare y)) ∙ level-same y (sym (declared-roll (bare y)) ∙ are) scope ∙ sym (ap (λ f. f scope) (value-roll those (bare y)))

  out_of_level : (label : List ℕ) (s : SuchScalar) → SameOut (roll-Out (record { label = label; scalar = s.0 }))
  out_of_level label s are scope =
      ap (λ f. f scope) (cell-roll these (record { label = label; scalar = s.0 }))
      ∙ ap (λ v. record { label = label; value = v }) (s.1 (sym (out_declared-roll (record { label = label; scalar = s.0 })) ∙ are) scope)
      ∙ sym (ap (λ f. f scope) (cell-roll those (record { label = label; scalar = s.0 })))

  select_of_level : (froms : List FromItem) (c : SuchScalar) (outs : List SuchOut) → SameSelect (roll-Select (record { froms = froms; cond = c.0; outs = map (λ x. x.0) outs }))
  select_of_level froms c outs are scope =
      let x : Select-F Scalar Out Select = record { froms = froms; cond = c.0; outs = map (λ x. x.0) outs } in
      ap (λ f. f scope) (rows-roll these x) ∙ select-same froms c outs (sym (select_declared-roll x) ∙ are) scope ∙ sym (ap (λ f. f scope) (rows-roll those x))

  every_select : (q : Select) → SameSelect q
  every_select = ind-Select SameScalar SameOut SameSelect
      (λ x y is. subst (λ z. SameScalar (roll-Scalar z)) is (scalar_of_level y))
      (λ x y is. subst (λ z. SameOut (roll-Out z)) is (out_of_level y.label y.scalar))
      (λ x y is. subst (λ z. SameSelect (roll-Select z)) is (select_of_level y.froms y.cond y.outs))

  rows-same : (q : Select) → names_declared defs q ≡ true → (scope : Scope) → rows these params q scope ≡ rows those params q scope
  unfolding rows names_declared rows_of select_declared
  rows-same q are scope = every_select q are scope

  pub all_rows-same : (selects : List Select) → list_all (names_declared defs) selects ≡ true → (scope : Scope) → all_rows these params selects scope ≡ all_rows those params selects scope
  all_rows-same [] are scope = refl
  all_rows-same (q ∷ selects) are scope =
      let both = and_parts (names_declared defs q) (list_all (names_declared defs) selects) are in
      ap₂ (λ a b. a ++ b) (rows-same q both.0 scope) (all_rows-same selects both.1 scope)
