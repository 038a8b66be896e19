-- Nodes that read and change tables: readings give rows over all tables that fit, and what is answered fits; changes leave rows
-- that fit.
use Rattle.std.proofs.Common.{◌≡◌, refl, sym, ap, ap₂, ◌∙◌, subst, ℕ, Bool, true, false, ◌&&◌, ◌||◌, List, [], ◌∷◌, length, map, Some}
use Rattle.lk_ast.specs.Layers.{Layer, layer}
use Rattle.lk_ast.specs.Rows.{row_value, rows_value}
use Rattle.lk_ast.specs.Tables.{Tables, tables_of, all_fit, row_fits}
use Rattle.lk_ast.specs.declared.declaration.Program.{Program}
use Rattle.lk_ast.specs.declared.event.Event.TheVariants.{Read}
use Rattle.lk_ast.specs.declared.expression.ChangeExpr.{ChangeExpr, out-ChangeExpr}
use Rattle.lk_ast.specs.declared.expression.Expr.{Expr}
use Rattle.lk_ast.specs.declared.expression.Node.TheOpen.{Node-F}
use Rattle.lk_ast.specs.declared.expression.SortKey.{SortKey}
use Rattle.lk_ast.specs.declared.place.Word.{Word}
use Rattle.lk_ast.specs.declared.table.Row.{Row}
use Rattle.lk_ast.specs.declared.table.TableDef.{TableDef}
use Rattle.lk_ast.specs.declared.value.Value.{Value}
use Rattle.lk_ast.specs.declared.value.Value.TheVariants as value
use Rattle.lk_bag.specs.Bag.{gives, items}
use Rattle.lk_bag.specs.Blocks.{acts_on_tables, block_at, AreBlocksApart}
use Rattle.lk_bag.specs.Legal.{AreAllCaptured, bag, captured_by, names_in, reads_tables}
use Rattle.lk_evaluation.specs.Source.{Point, act, reads, writes}
use Rattle.lk_evaluation.specs.Syntax.{parts_of}
use Rattle.lk_ground_types.specs.Shapes.{base_level, row_level, rows_level, is_flat, is_flat_row, is_query_type}
use Rattle.lk_index.specs.Free.{free, free_change, captured_change, captured_query}
use Rattle.lk_locals.specs.Names.{no_names, bind_each}
use Rattle.lk_names.specs.Programs.{IsBound}
use Rattle.lk_scope.specs.Names as scope
use Rattle.lk_types.proofs.Parts.{same_some}
use Rattle.lk_types.specs.Each.{Each}
use Rattle.lk_types.specs.Rows.{Label, EffectSet}
use Rattle.lk_types.specs.Rows as rows
use Rattle.lk_types.specs.declared.ground.Ground.{Ground}
use Rattle.lk_types.specs.declared.ground.Ground.TheOpen.{Ground-F}
use Rattle.lk_types.specs.declared.ground.Ground.TheVariants as known
use Rattle.lk_types.specs.declared.ground.GroundField.{GroundField}
use Rattle.lk_types.specs.declared.ty.Effect.TheVariants as effect
use Rattle.lk_typing.specs.Names.{Named, Entry, HasRows}
use Rattle.lk_typing.specs.Types.{record_of, unit, only_scan}
use Rattle.lk_typing.specs.Typing.{HasType, IsChange, changed}
use Rattle.lk_sound.proofs.QueryValues.{items_fit}
use Rattle.lk_sound.specs.Acts.{IsAct, IsNode}
use Rattle.lk_sound.specs.Instances.{Instances, AreClosed, IsFine, IsFlatPart}
use Rattle.lk_sound.specs.Nodes.{parts_of as parts_in, block_node, other_part, known_in, nodes_of, change_nodes}
use Rattle.lk_sound.specs.Points.{AreLocals}
use Rattle.lk_sound.specs.Tables.{AreTables, IsReading, IsWriting, IsAnswered, table_at}
use Rattle.lk_sound.specs.Values.{Fits, AllFit, none as no_value, more as value_more}
use Rattle.lk_sound.proofs.Bags.{bag_fits}
use Rattle.lk_sound.proofs.Captured.{IsCaptured, captured_kept}
use Rattle.lk_sound.proofs.Capturing.{block_captured, nothing_captured}
use Rattle.lk_sound.proofs.Free.{known_in as names_known, change_known}
use Rattle.lk_sound.proofs.Points as points
use Rattle.lk_sound.proofs.Points.{IsTyped}
use Rattle.lk_sound.proofs.Retyped.{outermost, retyped, retyped_nodes, retyped_change, retyped_change_nodes}
use Rattle.lk_sound.proofs.Shapes.{fits_list, list_fits}
use Rattle.lk_sound.proofs.Stands.{StandsIn}
use Rattle.lk_sound.proofs.TableRows.{table_found, rows_of_table, flat_rows, all_fit_permuted}
use Rattle.lk_sound.proofs.TextBlocks.{own_block, block_found}
use Rattle.lk_sound.proofs.UpdatedRows.{updated_fits}

-- ---- bags and captured names by layers

abbrev by_layer : Program → Tables → Expr → Layer → List Value → List Value
by_layer p tables block (Node-F.Query keys e) args = items (gives p tables e (names_in block args))
by_layer p tables block (Node-F.Table t) args = map row_value (tables t.text)
by_layer p tables block other args = []

bag_of : (p : Program) (tables : Tables) (block : Expr) (l : Layer) (args : List Value) → layer block ≡ l → bag p tables block args ≡ by_layer p tables block l args
bag_of p tables block l args is = ap (λ k. by_layer p tables block k args) is

captured_of : (block : Expr) (l : Layer) (args : List Value) → layer block ≡ l → length args ≡ length (captured_by l) → AreAllCaptured block args
captured_of block l args is many = many ∙ sym (ap (λ k. length (captured_by k)) is)

-- ---- rows that are inserted

module _ (p : Program) (i : Instances) where
  -- values of the type of a table's rows are rows that fit it
  rows_fit : (def : TableDef) (a : Ground) → ((v : Value) → Fits p i v a → (r : Row) × (v ≡ row_value r) × (row_fits def r ≡ true)) → (values : List Value) → AllFit p i values a
      → (rs : List Row) × (values ≡ map row_value rs) × (all_fit def rs ≡ true)
  rows_fit def a as_row [] no_value = ([], refl, refl)
  rows_fit def a as_row (v ∷ values) (value_more fits all) =
      let one : (r : Row) × (v ≡ row_value r) × (row_fits def r ≡ true) = as_row v fits in
      let rest : (rs : List Row) × (values ≡ map row_value rs) × (all_fit def rs ≡ true) = rows_fit def a as_row values all in
      (one.0 ∷ rest.0, ap₂ (λ x xs. x ∷ xs) one.1 rest.1, ap₂ (λ b c. b && c) one.2 rest.2)

  -- what is answered where each bag over tables that fit has values of a type
  answered : (block : Expr) (site : ℕ) (args : List Value) (a : Ground) → block_at p site ≡ Some block → ((tables : Tables) → AreTables p tables → AllFit p i (bag p tables block args) a)
      → (answer : List Row) → IsAnswered p (Read (record { site = site; args = args; answer = answer })) → Fits p i (rows_value answer) (known.List a)
  answered block site args a found fit answer (other, there, listed, are, permuted) =
      let same : other ≡ block = same_some (sym there ∙ found) in
      let all : AllFit p i (bag p listed other args) a = subst (λ b. AllFit p i (bag p listed b args) a) (sym same) (fit listed are) in
      list_fits p i (map row_value answer) a (all_fit_permuted p i a (bag p listed other args) (map row_value answer) all permuted)

abbrev query_level : Ground-F Ground GroundField → Bool
query_level l = (base_level l || row_level l) || rows_level l

-- rows of a list of a query's type are flat
flat_list : (a : Ground) → is_query_type (known.List a) ≡ true → is_flat_row a ≡ true
flat_list a is = sym (ap query_level (known.outs-List a)) ∙ is

-- ---- nodes

module _ (p : Program) (i : Instances) (bound : IsBound p) (apart : AreBlocksApart p) (closed : AreClosed p i) (functions : Named (Entry Ground)) (effects : EffectSet) (locals : Named Ground) (point : Point) (fit : AreLocals p i locals point.names) (stands : StandsIn p point.expr) where
  abbrev site : ℕ
  site = point.expr.span.start

  alone : (t : Ground) (l : Layer) → layer point.expr ≡ l → parts_of l ≡ [] → IsAct p i effects t (act p point.expr.span l point.names []) → IsNode p i effects t point
  alone = points.alone p i functions effects locals point fit stands

  -- the place of the node finds it
  found : (l : Layer) → layer point.expr ≡ l → acts_on_tables l ≡ true → block_at p site ≡ Some point.expr
  found l is acts = block_found p point.expr apart (own_block p point.expr stands.1 (ap acts_on_tables is ∙ acts))

  pub table_node : (x : Word) (row : rows.Row) → layer point.expr ≡ Node-F.Table x → HasRows (tables_of p) x.text row → effects effect.Scan ≡ true → IsNode p i effects (known.List (record_of row)) point
  table_node x row is has scans =
      let there : block_at p site ≡ Some point.expr = found (Node-F.Table x) is refl in
      let bags : (tables : Tables) → bag p tables point.expr [] ≡ map row_value (tables x.text) = λ tables. bag_of p tables point.expr (Node-F.Table x) [] is in
      let reading : IsReading p site [] = record {
        block = point.expr;
        found = there;
        reads = ap reads_tables is;
        captured = captured_of point.expr (Node-F.Table x) [] is refl;
        plain = refl;
        rows = λ tables are. (tables x.text, bags tables);
      } in
      alone (known.List (record_of row)) (Node-F.Table x) is refl
      (scans, reading, nothing_captured p i site point.expr there [] (Node-F.Table x) is refl, answered p i point.expr site [] (record_of row) there (λ tables are. subst (λ vs. AllFit p i vs (record_of row)) (sym (bags tables)) (rows_of_table p i tables are x.text row has)))

  pub query_node : (keys : List SortKey) (body : Expr) (a : Ground) (inside : List Ground) → layer point.expr ≡ Node-F.Query keys body → (one : HasType functions (tables_of p) locals only_scan body (known.List a) inside) → effects effect.Scan ≡ true
      → IsFine i (block_node (other_part false point.expr (known.List a)) (other_part false point.expr (known.List a) ∷ parts_in (nodes_of true one)) (known_in locals (free body scope.no_names))) → IsNode p i effects (known.List a) point
  query_node keys body a inside is one scans fine =
      let block = fine.flat _ refl in
      let there : block_at p site ≡ Some point.expr = found (Node-F.Query keys body) is refl in
      let words : List Label = free body scope.no_names in
      let all : IsCaptured p i locals point.names words = captured_kept p i locals point.names words fit (names_known one scope.no_names) block.captured in
      let inner = outermost {xs = words} all.same in
      let typed : HasType functions (tables_of p) all.kept only_scan body (known.List a) inside = retyped one scope.no_names all.kept inner.used inner.round in
      let flat : Each (IsFlatPart i.helpers) (parts_in (nodes_of true typed)) =
      subst (λ nodes. Each (IsFlatPart i.helpers) (parts_in nodes)) (sym (retyped_nodes true one scope.no_names all.kept inner.used inner.round)) block.parts.1 in
      let names_are : names_in point.expr all.values ≡ bind_each no_names (captured_query body) all.values = ap (λ l. bind_each no_names (captured_by l) all.values) is in
      let names_fit : AreLocals p i all.kept (names_in point.expr all.values) = subst (AreLocals p i all.kept) (sym names_are) all.fit in
      let bags : (tables : Tables) → AreTables p tables → AllFit p i (bag p tables point.expr all.values) a = λ tables are.
      subst (λ vs. AllFit p i vs a) (sym (bag_of p tables point.expr (Node-F.Query keys body) all.values is))
      (items_fit p i (gives p tables body (names_in point.expr all.values)) a
      (bag_fits p i bound closed tables are functions all.kept only_scan body (known.List a) inside typed refl refl flat (names_in point.expr all.values) names_fit)) in
      let reading : IsReading p site all.values = record {
        block = point.expr;
        found = there;
        reads = ap reads_tables is;
        captured = captured_of point.expr (Node-F.Query keys body) all.values is all.many;
        plain = all.plain;
        rows = λ tables are. flat_rows p i a (flat_list a block.parts.0.type) (bag p tables point.expr all.values) (bags tables are);
      } in
      alone (known.List a) (Node-F.Query keys body) is refl
      (subst (λ o. IsAct p i effects (known.List a) (reads point.expr.span o)) (sym all.found)
      (scans, reading, block_captured p i site point.expr there locals point.names fit (Node-F.Query keys body) is _ _ refl refl fine.listed (names_known one scope.no_names) all.values all.found, answered p i point.expr site all.values a there bags))

  pub insert_node : (x : Word) (e : Expr) (row : rows.Row) → layer point.expr ≡ Node-F.Insert x e → IsTyped p i functions locals effects e (known.List (record_of row)) → HasRows (tables_of p) x.text row → effects effect.Write ≡ true → IsNode p i effects unit point
  insert_node x e row is one has writes_them =
      let there : block_at p site ≡ Some point.expr = found (Node-F.Insert x e) is refl in
      let table = table_found p i x.text row has in
      points.with_first p i functions effects locals point fit stands unit (known.List (record_of row)) (Node-F.Insert x e) e is refl one (λ v fits.
      let held = fits_list p i v (record_of row) fits in
      let inserted = rows_fit p i table.0 (record_of row) table.3 held.0 held.2 in
      let args_are : ◌≡◌ {A = List Value} (v ∷ []) (rows_value inserted.0 ∷ []) = ap (λ w. w ∷ []) (held.1 ∙ ap value.List inserted.1) in
      (writes_them, IsWriting.insert point.expr x e table.0 inserted.0 there is table.1 args_are inserted.2, nothing_captured p i site point.expr there (v ∷ []) (Node-F.Insert x e) is refl, refl))

  -- what a change captures
  change_captured : (change : ChangeExpr) (inside : List Ground) → IsChange functions (tables_of p) locals change inside → Each (λ t. is_flat t ≡ true) (known_in locals (free_change change scope.no_names))
      → IsCaptured p i locals point.names (free_change change scope.no_names)
  change_captured change inside d flat = captured_kept p i locals point.names (free_change change scope.no_names) fit (change_known d scope.no_names) flat

  -- the table of a change
  changed_table : (change : ChangeExpr) (inside : List Ground) → IsChange functions (tables_of p) locals change inside → (def : TableDef) × (table_at p (out-ChangeExpr change).table.text ≡ Some def)
  changed_table change _ (changed row sets ts cond rest has holds values named fields) = let table = table_found p i (out-ChangeExpr change).table.text row has in (table.0, table.1)

  pub update_node : (change : ChangeExpr) (inside : List Ground) → layer point.expr ≡ Node-F.Update change → (d : IsChange functions (tables_of p) locals change inside) → effects effect.Write ≡ true
      → IsFine i (block_node (other_part false point.expr unit) (parts_in (change_nodes d)) (known_in locals (free_change change scope.no_names))) → IsNode p i effects unit point
  update_node change inside is d writes_them fine =
      let block = fine.flat _ refl in
      let there : block_at p site ≡ Some point.expr = found (Node-F.Update change) is refl in
      let all : IsCaptured p i locals point.names (free_change change scope.no_names) = change_captured change inside d block.captured in
      let again : IsChange functions (tables_of p) all.kept change inside = retyped_change d all.kept all.same in
      let flat : Each (IsFlatPart i.helpers) (parts_in (change_nodes again)) = subst (λ nodes. Each (IsFlatPart i.helpers) (parts_in nodes)) (sym (retyped_change_nodes d all.kept all.same)) block.parts in
      let names_are : names_in point.expr all.values ≡ bind_each no_names (captured_change change) all.values = ap (λ l. bind_each no_names (captured_by l) all.values) is in
      let names_fit : AreLocals p i all.kept (names_in point.expr all.values) = subst (AreLocals p i all.kept) (sym names_are) all.fit in
      let table = changed_table change inside d in
      alone unit (Node-F.Update change) is refl
      (subst (λ o. IsAct p i effects unit (writes point.expr.span o)) (sym all.found) (
        writes_them,
        IsWriting.update point.expr change table.0 there is table.1 (captured_of point.expr (Node-F.Update change) all.values is all.many) all.plain (updated_fits p i bound closed functions all.kept change inside again flat (names_in point.expr all.values) names_fit table.0 table.1),
        block_captured p i site point.expr there locals point.names fit (Node-F.Update change) is _ _ refl refl fine.listed (change_known d scope.no_names) all.values all.found,
        refl,
      ))

  pub delete_node : (change : ChangeExpr) (inside : List Ground) → layer point.expr ≡ Node-F.Delete change → (d : IsChange functions (tables_of p) locals change inside) → effects effect.Write ≡ true
      → IsFine i (block_node (other_part false point.expr unit) (parts_in (change_nodes d)) (known_in locals (free_change change scope.no_names))) → IsNode p i effects unit point
  delete_node change inside is d writes_them fine =
      let there : block_at p site ≡ Some point.expr = found (Node-F.Delete change) is refl in
      let flat = (fine.flat _ refl).captured in
      let all : IsCaptured p i locals point.names (free_change change scope.no_names) = change_captured change inside d flat in
      let table = changed_table change inside d in
      alone unit (Node-F.Delete change) is refl
      (subst (λ o. IsAct p i effects unit (writes point.expr.span o)) (sym all.found) (
        writes_them,
        IsWriting.delete point.expr change table.0 there is table.1 (captured_of point.expr (Node-F.Delete change) all.values is all.many) all.plain,
        block_captured p i site point.expr there locals point.names fit (Node-F.Delete change) is _ _ refl refl fine.listed (change_known d scope.no_names) all.values all.found,
        refl,
      ))
