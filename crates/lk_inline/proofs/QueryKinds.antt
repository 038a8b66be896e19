-- The parts of a query have kinds, and so has the part of a reading.
use Rattle.std.proofs.Common.{◌≡◌, refl, sym, ap, ap₂, ◌∙◌, subst, arith, ℕ, zero, suc, ◌+◌, ◌<◌, true, false, ◌&&◌, List, [], ◌∷◌, drop, length, map, Option, Some, None, slice_get, true≢false}
use Rattle.std.specs.List.{list_all}
use Rattle.lk_ast.specs.Functions.{functions_of}
use Rattle.lk_ast.specs.Tables.{HaveColumns, tables_of}
use Rattle.lk_ast.specs.declared.declaration.Program.{Program}
use Rattle.lk_ast.specs.declared.expression.Expr.{Expr}
use Rattle.lk_ast.specs.declared.expression.SortKey.{SortKey}
use Rattle.lk_ast.specs.declared.place.Word.{Word}
use Rattle.lk_bodies.specs.Captured.{bound_parts, captured_as, captured_at, numbered}
use Rattle.lk_bodies.specs.Shapes.{columns_of, element_columns, labels}
use Rattle.lk_bodies.specs.Uses.{query_uses}
use Rattle.lk_bodies.specs.Walk.{Made, table, walk}
use Rattle.lk_ground.specs.declared.program.GroundFun.{GroundFun}
use Rattle.lk_ground.specs.declared.program.GroundProgram.{GroundProgram}
use Rattle.lk_ground_types.specs.Shapes.{is_there as has_some}
use Rattle.lk_index.specs.Free.{captured_query}
use Rattle.lk_inline.proofs.BlockForms.{IsQueryAlone, IsTableBlock}
use Rattle.lk_inline.proofs.BlockStarts.{bound_length, bound_ordered}
use Rattle.lk_inline.proofs.KindForms.{list_kind}
use Rattle.lk_inline.proofs.KindHelpers.{helpers_kinded}
use Rattle.lk_inline.proofs.KindInduction.{expr_kinded}
use Rattle.lk_inline.proofs.KindNodes.{taken_in_order}
use Rattle.lk_inline.proofs.KindStarts.{AreBound, begun, begun_described, begun_scope, begun_still, kept_each, kept_named, kept_only, kinds_kept, seen_begun}
use Rattle.lk_inline.proofs.KindsMade.{AreKnown, HasKind, IsKinded, kinds_of, scopes_of}
use Rattle.lk_inline.proofs.LabelOrder.{one_there}
use Rattle.lk_inline.proofs.LawTypes.{behind_first}
use Rattle.lk_inline.proofs.RecordValues.{label_among}
use Rattle.lk_inline.proofs.RowLabels.{element_labels_are, field_labels, labels_are}
use Rattle.lk_inline.proofs.TableColumns.{row_there}
use Rattle.lk_inline.specs.Inlined.{calls_of, first_columns, key_of, state_at}
use Rattle.lk_inline.specs.KindsOfTypes.{IsInOrder}
use Rattle.lk_inline.specs.Law as kinded
use Rattle.lk_inline.specs.Law.{HasKinds}
use Rattle.lk_mono.specs.Instanced.{HasInstances}
use Rattle.lk_names.specs.Programs.{IsBound}
use Rattle.lk_query.specs.Kinds.{AreColumns, Is, Kind, OfList, kinds_from}
use Rattle.lk_query.specs.Order.{Below}
use Rattle.lk_query.specs.declared.part.Part.{Part}
use Rattle.lk_query.specs.declared.part.Part.TheVariants as part
use Rattle.lk_query.specs.declared.query.Captured.{Captured}
use Rattle.lk_query.specs.declared.query.Inlined.TheVariants as inlined
use Rattle.lk_query.specs.declared.query.Query.{Query}
use Rattle.lk_sites.specs.Pending.{Pending}
use Rattle.lk_sites.specs.Sites.{Site}
use Rattle.lk_sound.proofs.Bags.{all_early}
use Rattle.lk_sound.proofs.FieldRows.{get_among, get_first}
use Rattle.lk_sound.specs.Instances.{Instances}
use Rattle.lk_sound.specs.Nodes.{nodes_of}
use Rattle.lk_sql.specs.Good.{are_distinct, are_in_order, is_there}
use Rattle.lk_sql.specs.declared.tree.Key.{Key}
use Rattle.lk_types.specs.Each.{Each}
use Rattle.lk_types.specs.Rows.{Label, Row, fields_of}
use Rattle.lk_types.specs.declared.ground.Ground.{Ground}
use Rattle.lk_types.specs.declared.ground.Ground.TheVariants as known
use Rattle.lk_types.specs.declared.ground.GroundField.{GroundField}
use Rattle.lk_typing.specs.Names.{Entry, HasRows, Named, named, names_of, types_of}
use Rattle.lk_typing.specs.Types.{record_of}
use Rattle.lk_typing.specs.Typing.{IsKeyOf}

-- ---- keys

keys_are : (keys : List SortKey) → map (λ (key : Key). key.label) (map key_of keys) ≡ map (λ (key : SortKey). key.label.text) keys
keys_are [] = refl
keys_are (key ∷ keys) = ap (λ ls. key.label.text ∷ ls) (keys_are keys)

key_there : (row : Ground) (key : SortKey) → IsKeyOf row key → is_there (labels (columns_of row)) key.label.text ≡ true
key_there row key (a, (other, whole, is, made)) =
    ap (λ t. is_there (labels (columns_of t)) key.label.text) is
    ∙ ap (λ ls. is_there ls key.label.text) (labels_are (fields_of whole))
    ∙ one_there key.label.text (field_labels (fields_of whole)) (label_among key.label.text a (fields_of whole) (get_among whole key.label.text a (get_first key.label.text a other whole made)))

keys_there : (row : Ground) (keys : List SortKey) → Each (IsKeyOf row) keys → list_all (λ (key : Key). is_there (labels (columns_of row)) key.label) (map key_of keys) ≡ true
keys_there row [] all = refl
keys_there row (key ∷ keys) all = ap₂ (λ a b. a && b) (key_there row key all.0) (keys_there row keys all.1)

-- ---- queries

module _ (p : Program) (bound : IsBound p) (g : GroundProgram) (has : HasInstances p g) (ordered : Each (λ (f : GroundFun). Each IsInOrder f.types) g.helpers) (functions : Named (Entry Ground)) (locals : Named Ground) (site : Site)
    (proper : Each IsInOrder site.types) (keys : List SortKey) (body : Expr) (after : Pending) (alone : IsQueryAlone p has.shaped.instances functions locals keys body site.types site.calls after) where
  abbrev i : Instances
  i = has.shaped.instances

  abbrev n : ℕ
  n = length (functions_of p)

  abbrev xs : List Label
  xs = captured_query body

  abbrev kept : Named Ground
  kept = alone.names.kept

  abbrev given : ℕ → Option Kind
  given = kinds_kept 0 kept

  abbrev walked : Made
  walked = walk (calls_of p g.helpers) body (numbered 0 xs) (state_at p g.helpers xs site)

  abbrev all : List Captured
  all = captured_at (query_uses body (drop 1 site.types)) xs

  abbrev query_of : Query
  query_of = record { parts = walked.state.parts; root = walked.part; captured = all; columns = first_columns site.types; keys = map key_of keys }

  many : length kept ≡ length xs
  many = names_length kept ∙ ap length alone.names.names
    where
      names_length : (entries : Named Ground) → length entries ≡ length (names_of entries)
      names_length [] = refl
      names_length (e ∷ entries) = ap suc (names_length entries)

  names_bound : AreBound given (length xs)
  names_bound = record {
    each = λ k below. kept_each 0 kept alone.names.flat k (omega arith) (let same = many in omega (arith, below, same));
    only = λ k is. let found = kept_only 0 kept k is in let below : k < 0 + length kept = found.1 in let same = many in omega (arith, below, same);
  }

  names_known : AreKnown (begun_scope given) (begun given) kept (numbered 0 xs) (bound_parts xs)
  names_known x t is =
      let found = kept_named 0 kept alone.names.flat x t is in
      let below : found.0 < 0 + length kept = found.3 in
      let same = many in
      let parts : length (bound_parts xs) ≡ length xs = bound_length xs in
      (found.0, ap (λ ys. named x (numbered 0 ys)) (sym alone.names.names) ∙ found.1, omega (arith, below, same, parts), seen_begun given t found.0 found.4)

  body_kinded : IsKinded (begun_scope given) true (known.List alone.row) (begun given) (state_at p g.helpers xs site) after walked
  body_kinded =
      expr_kinded p i has.shaped.closed (calls_of p g.helpers) n (helpers_kinded p bound g has ordered n) functions true alone.typed refl refl
      (all_early p i has.shaped.closed (nodes_of true alone.typed) alone.flat) (taken_in_order i.helpers (nodes_of true alone.typed) _ after alone.takes (behind_first IsInOrder site.types proper))
      (begun_scope given) (begun given) (numbered 0 xs) (state_at p g.helpers xs site) after (bound_ordered xs) (begun_described given xs names_bound) names_known alone.takes

  columns_are : columns_of alone.row ≡ first_columns site.types
  columns_are = sym (ap first_columns alone.own ∙ element_labels_are alone.row)

  pub query_kinds : all ≡ map captured_as (types_of kept) → are_distinct (map (λ (key : SortKey). key.label.text) keys) ≡ true → HasKinds p (inlined.Query query_of)
  query_kinds same distinct =
      let made : HasKind (begun_scope given) true (known.List alone.row) (begun given) (bound_parts xs) walked.part walked.state.parts = body_kinded.has in
      kinded.query (kinds_of made.later) (scopes_of made.later) made.adds.ordered
      (λ columns. record {
        typed = made.adds.typed;
        root_there = made.within;
        root_is = made.is.0 ∙ list_kind alone.row ∙ ap (λ columns. OfList (labels columns)) columns_are;
        captures = λ k looks. ap (λ cs. kinds_from 0 cs k) same ∙ begun_still given xs names_bound made.later made.adds.same k (made.is.1 k looks);
        distinct = ap are_distinct (keys_are keys) ∙ distinct;
        sorted_by = ap (λ columns. list_all (λ (key : Key). is_there (labels columns) key.label) (map key_of keys)) (sym columns_are) ∙ keys_there alone.row keys alone.sorted;
      })

-- ---- readings

columns_by : (ls : List Label) → has_some ls ≡ true → are_in_order ls ≡ true → AreColumns ls
columns_by [] some order = let wrong : false ≡ true = some in absurd cc
columns_by (l ∷ ls) some order = order

some_label : (gs : List GroundField) → has_some gs ≡ true → has_some (field_labels gs) ≡ true
some_label [] some = some
some_label (g ∷ gs) some = refl

module _ (p : Program) (i : Instances) (functions : Named (Entry Ground)) (name : Word) where
  -- the one part of a reading
  one_part : (ls : List Label) (n : ℕ) (x : Part) → slice_get (part.Table name.text ls ∷ []) n ≡ Some x → part.Table name.text ls ≡ x
  one_part ls zero x is = let same : Some (part.Table name.text ls) ≡ Some x = is in cc
  one_part ls (suc n) x is = let wrong : None ≡ Some x = is in absurd cc

  reading_columns : HaveColumns p → (row : Row) → HasRows (tables_of p) name.text row → IsInOrder (known.List (record_of row)) → AreColumns (labels (element_columns (known.List (record_of row))))
  reading_columns all row has order =
      let are : labels (element_columns (known.List (record_of row))) ≡ field_labels (fields_of row) = ap labels (element_labels_are (record_of row)) ∙ labels_are (fields_of row) in
      columns_by (labels (element_columns (known.List (record_of row)))) (ap has_some are ∙ some_label (fields_of row) (row_there p all name.text row has)) order

  abbrev pub reading_of : List Ground → Query
  reading_of types = record { parts = table types name.text ∷ []; root = 0; captured = []; columns = first_columns types; keys = [] }

  own_kinds : (row : Row) (others : List Ground) → HasRows (tables_of p) name.text row → IsInOrder (known.List (record_of row)) → HasKinds p (inlined.Query (reading_of (known.List (record_of row) ∷ others)))
  own_kinds row others has order =
      let ls : List Label = labels (element_columns (known.List (record_of row))) in
      kinded.query (λ k. OfList ls) (λ k j. false) (λ n x is. subst (Below n) (one_part ls n x is) tt)
      (λ all. record {
        typed = record { columns = λ n. reading_columns all row has order; each = λ n x is. subst (λ x. Is (λ k. OfList ls) (λ k j. false) n x (OfList ls)) (one_part ls n x is) refl };
        root_there = omega arith;
        root_is = refl;
        captures = λ k looks. absurd (true≢false (sym looks));
        distinct = refl;
        sorted_by = refl;
      })

  pub reading_kinds : (types : List Ground) → Each IsInOrder types → IsTableBlock p i functions name types → HasKinds p (inlined.Query (reading_of types))
  reading_kinds types proper block =
      let order : Each IsInOrder (known.List (record_of block.row) ∷ block.others) = subst (Each IsInOrder) block.own proper in
      subst (λ ts. HasKinds p (inlined.Query (reading_of ts))) (sym block.own) (own_kinds block.row block.others block.has order.0)
