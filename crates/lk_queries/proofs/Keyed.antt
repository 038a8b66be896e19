-- What the body of a query comes to in its place tells what the query may be answered with.
use Rattle.std.proofs.Common.{◌≡◌, refl, sym, ap, ◌∙◌, subst, true, List, [], ◌∷◌, map, length, Some, IsPermutation}
use Rattle.std.proofs.lemmas.List.Sorted.{IsPermutation-refl, IsPermutation-sym, IsPermutation-trans, IsPermutation-cons, IsPermutation-map}
use Rattle.lk_ast.specs.Functions.{functions_of}
use Rattle.lk_ast.specs.Layers.{layer}
use Rattle.lk_ast.specs.Rows.{row_value, rows_value}
use Rattle.lk_ast.specs.Tables.{Tables}
use Rattle.lk_ast.specs.declared.declaration.Program.{Program}
use Rattle.lk_ast.specs.declared.expression.Expr.{Expr}
use Rattle.lk_ast.specs.declared.expression.Node.TheOpen.{Node-F}
use Rattle.lk_ast.specs.declared.expression.SortKey.{SortKey}
use Rattle.lk_ast.specs.declared.place.Loc.TheVariants.{Server}
use Rattle.lk_ast.specs.declared.table.Row.{Row}
use Rattle.lk_ast.specs.declared.value.Value.{Value}
use Rattle.lk_ast.specs.declared.value.Value.TheVariants as value
use Rattle.lk_bag.specs.Bag.{gives, items}
use Rattle.lk_bag.specs.Blocks.{acts_on_tables, block_at}
use Rattle.lk_bag.specs.EitherWay.{either_way}
use Rattle.lk_bag.specs.Legal.{AreSorted, IsAnswer, IsAnsweredOver, bag, keys_at, may_stand_before}
use Rattle.lk_evaluation.specs.Evaluation.{eval}
use Rattle.lk_evaluation.specs.Laws.{run_of}
use Rattle.lk_evaluation.specs.Run.{Out, events_of}
use Rattle.lk_evaluation.specs.Source.{source, under}
use Rattle.lk_index.specs.Free.{captured_query}
use Rattle.lk_locals.specs.Names.{Names, lookup_all}
use Rattle.lk_sort.proofs.Sorting.{joined_items, merged_sorted}
use Rattle.lk_sound.proofs.Bags.{all_early}
use Rattle.lk_sound.proofs.QueryParts.{AreQueryNodes}
use Rattle.lk_sound.proofs.Shapes.{fits_list}
use Rattle.lk_sound.proofs.TableRows.{flat_rows}
use Rattle.lk_sound.proofs.TextBlocks.{block_found, own_block}
use Rattle.lk_sound.specs.Instances.{Instances, AreClosed}
use Rattle.lk_sound.specs.Law.{AreBoundAndApart}
use Rattle.lk_sound.specs.Nodes.{nodes_of}
use Rattle.lk_sound.specs.Points.{AreBlocksOf, AreLocals}
use Rattle.lk_sound.specs.Tables.{AreTables}
use Rattle.lk_sound.specs.Values.{Fits}
use Rattle.lk_types.proofs.Parts.{same_some}
use Rattle.lk_types.specs.declared.ground.Ground.{Ground}
use Rattle.lk_types.specs.declared.ground.Ground.TheVariants as known
use Rattle.lk_typing.specs.Names.{Named, Entry as FunctionEntry}
use Rattle.lk_typing.specs.Types.{only_scan}
use Rattle.lk_queries.specs.Keys.{AnswersLaw, AreAnswers, CameTo, IsAnsweredInPlace, in_order}
use Rattle.lk_queries.specs.Order.{IsLike, ComesTo}
use Rattle.lk_queries.proofs.AnyOrder.{expression_comes, query_answers, same_behind}
use Rattle.lk_queries.proofs.Coming.{AreFrom, legal_from}
use Rattle.lk_queries.proofs.Giving.{IsTypedQuery, body_blocks, only_reads, rows_given, typed_query}
use Rattle.lk_queries.proofs.Liking.{like_itself, like_fits, like_items}
use Rattle.lk_inline.proofs.Loops.{items_shown}
use Rattle.lk_queries.proofs.QueryTypes.{flat_list}
use Rattle.lk_translate.proofs.RowsBack.{rows_back}

-- ---- sorting

in_order_rows : (keys : List SortKey) (rows : List Row) → IsPermutation rows (in_order keys rows)
in_order_rows keys [] = IsPermutation-refl []
in_order_rows keys (row ∷ rows) =
    IsPermutation-trans (row ∷ rows) (row ∷ in_order keys rows) (in_order keys (row ∷ rows)) (IsPermutation-cons row rows (in_order keys rows) (in_order_rows keys rows)) (joined_items (may_stand_before keys) (row ∷ in_order keys rows) (row ∷ []) (in_order keys rows) (row ∷ []) (in_order keys rows) refl (IsPermutation-refl (row ∷ [])) (IsPermutation-refl (in_order keys rows)))

in_order_sorted : (keys : List SortKey) (rows : List Row) → AreSorted keys (in_order keys rows)
in_order_sorted keys [] = tt
in_order_sorted keys (row ∷ rows) = merged_sorted (may_stand_before keys) (either_way keys) (row ∷ []) (in_order keys rows) tt (in_order_sorted keys rows)

-- ---- one query

-- rows whose values are those of a list but for order
rows_like : (rows others : List Row) → IsLike (rows_value rows) (rows_value others) → IsPermutation rows others
rows_like rows others like =
    rows_back rows others
    (subst (λ vs. IsPermutation vs (map row_value others)) (items_shown (map row_value rows))
    (subst (IsPermutation (items (rows_value rows))) (items_shown (map row_value others)) (like_items (rows_value rows) (rows_value others) like)))

module _ (p : Program) (apart : AreBoundAndApart p) (i : Instances) (closed : AreClosed p i) (tables : Tables) (rows : AreTables p tables) (functions : Named (FunctionEntry Ground)) (locals : Named Ground) (e : Expr) (keys : List SortKey) (body : Expr)
    (is : layer e ≡ Node-F.Query keys body) (inner : IsTypedQuery p i functions locals body) (blocks : AreBlocksOf p e) (names : Names) (fit : AreLocals p i locals names) where
  abbrev nodes : AreQueryNodes p i.helpers (length (functions_of p)) (nodes_of true inner.typed)
  nodes = all_early p i closed (nodes_of true inner.typed) inner.flat

  -- a list of rows like those that the body gives
  like_rows : (v : Value) → Fits p i (gives p tables body names) (known.List inner.a) → IsLike v (gives p tables body names) → (rs : List Row) × (v ≡ rows_value rs)
  like_rows v fits like =
      let held = fits_list p i v inner.a (like_fits p i (known.List inner.a) v (gives p tables body names) inner.query fits like) in
      let made : (rs : List Row) × (held.0 ≡ map row_value rs) = flat_rows p i inner.a (flat_list inner.a inner.query) held.0 held.2 in
      (made.0, held.1 ∙ ap value.List made.1)

  answers_are : (v : Value) → IsLike v (gives p tables body names) → (args : List Value) → (given : List Row) → gives p tables body names ≡ rows_value given → bag p tables e args ≡ map row_value given
      → Fits p i (gives p tables body names) (known.List inner.a) → ((answer : List Row) → IsAnswer p tables e args answer → IsLike (rows_value answer) (gives p tables body names)) → AreAnswers p tables e keys args v
  answers_are v like args given given_is bag_is fits answered =
      let found = like_rows v fits like in
      let shuffled : IsPermutation found.0 given = rows_like found.0 given (subst (λ w. IsLike w (rows_value given)) found.1 (subst (IsLike v) given_is like)) in
      let over : (answer : List Row) → IsPermutation found.0 answer → AreSorted keys answer → IsAnsweredOver p tables e args answer = λ answer same sorted. (
        subst (λ vs. IsPermutation vs (map row_value answer)) (sym bag_is) (IsPermutation-map row_value given answer (IsPermutation-trans given found.0 answer (IsPermutation-sym found.0 given shuffled) same)),
        subst (λ l. AreSorted (keys_at l) answer) (sym is) sorted,
      ) in
      let legal : (answer : List Row) → IsPermutation found.0 answer → AreSorted keys answer → IsAnswer p tables e args answer = λ answer same sorted.
      let one = over answer same sorted in (tables, (λ x. IsPermutation-refl (tables x)), one.0, one.1) in
      let back : (answer : List Row) → IsAnswer p tables e args answer → IsPermutation found.0 answer × AreSorted keys answer = λ answer one. (
        IsPermutation-trans found.0 given answer shuffled (IsPermutation-sym answer given (rows_like answer given (subst (IsLike (rows_value answer)) given_is (answered answer one)))),
        subst (λ l. AreSorted (keys_at l) answer) is one.3,
      ) in
      record {
        rows = found.0;
        is = found.1;
        legal = λ answer. (back answer, λ both. legal answer both.0 both.1);
        over = λ answer. (λ one. back answer (tables, (λ x. IsPermutation-refl (tables x)), one.0, one.1), λ both. over answer both.0 both.1);
        sorted = legal (in_order keys found.0) (in_order_rows keys found.0) (in_order_sorted keys found.0);
      }

  -- what it came to is like what it gives
  came_like : (v : Value) → CameTo p tables body names v → IsLike v (gives p tables body names)
  came_like v came =
      let out : Out Value = eval (source p) (under names body) Server came.before in
      let comes : ComesTo Value (λ w. IsLike w (gives p tables body names)) came.before out =
      expression_comes p i apart.bound apart.blocks closed tables rows functions locals only_scan body (known.List inner.a) inner.inside inner.typed only_reads nodes (body_blocks p e keys body is blocks) names fit came.before
      (λ later there. subst (AreFrom p tables) (same_behind came.before.log came.more later (sym came.log ∙ sym (ap (λ (o : Out Value). (run_of o).log) came.comes) ∙ there)) (legal_from p tables (events_of came.more) came.legal)) in
      (subst (ComesTo Value (λ w. IsLike w (gives p tables body names)) came.before) came.comes comes).0

  -- with what it captures the query is answered so, whatever is like what its body gives
  record AreAnswered (args : List Value) : Type 0 where
    captured : lookup_all names (captured_query body) ≡ Some args
    answers : (v : Value) → IsLike v (gives p tables body names) → AreAnswers p tables e keys args v

  all_answered : (args : List Value) × AreAnswered args
  all_answered =
      let there : block_at p e.span.start ≡ Some e = block_found p e apart.blocks (own_block p e blocks (ap acts_on_tables is)) in
      let has = rows_given p apart i closed tables rows functions locals e keys body is inner names fit in
      let found = query_answers p i apart.bound apart.blocks closed tables rows functions e keys body inner.a inner.inside locals names is blocks fit inner.typed nodes in
      let same : found.0 ≡ has.args = same_some (sym found.1 ∙ has.captured) in (
        has.args,
        record {
          captured = has.captured;
          answers = λ v like. answers_are v like has.args has.answer has.gives_rows has.bag_is has.fits (λ answer answered. found.2 answer (e, there, subst (λ args. IsAnswer p tables e args answer) (sym same) answered));
        },
      )

  pub answered_in_place : IsAnsweredInPlace p tables e keys body names
  answered_in_place = record { args = all_answered.0; captured = all_answered.1.captured; answered = λ v came. all_answered.1.answers v (came_like v came) }

  -- those that it may be answered with, by what its body gives
  pub answers_given : (args : List Value) → lookup_all names (captured_query body) ≡ Some args → AreAnswers p tables e keys args (gives p tables body names)
  answers_given args captured = subst (λ args. AreAnswers p tables e keys args (gives p tables body names)) (same_some (sym all_answered.1.captured ∙ captured)) (all_answered.1.answers (gives p tables body names) (like_itself (gives p tables body names)))

pub answers_law : AnswersLaw
answers_law p apart i closed tables rows effects t point point_is keys body is =
    answered_in_place p apart i closed tables rows point_is.functions point_is.locals point.expr keys body is
    (typed_query p i point_is.functions point_is.locals effects point.expr t point_is.inside point_is.typed point_is.fine keys body is) point_is.blocks point.names point_is.fit
