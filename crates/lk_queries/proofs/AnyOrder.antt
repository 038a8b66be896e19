-- The same of helpers, and of whole programs: the laws of readings that are answered in any order.
use Rattle.std.proofs.Common.{◌≡◌, arith, sym, ap, ◌∙◌, subst, ℕ, zero, suc, ◌<◌, ◌≤◌, true, false, List, [], ◌∷◌, ◌++◌, append-nil, length, Some}
use Rattle.std.proofs.lemmas.List.Sorted.{IsPermutation-refl}
use Rattle.std.proofs.lemmas.Bool.{both_ways}
use Rattle.lk_ast.specs.Functions.{functions_of}
use Rattle.lk_ast.specs.Layers.{layer}
use Rattle.lk_ast.specs.Rows.{rows_value}
use Rattle.lk_ast.specs.Tables.{Tables, tables_of}
use Rattle.lk_ast.specs.declared.declaration.FunDef.{FunDef}
use Rattle.lk_ast.specs.declared.declaration.Program.{Program}
use Rattle.lk_ast.specs.declared.expression.Expr.{Expr}
use Rattle.lk_ast.specs.declared.expression.Node.TheOpen.{Node-F}
use Rattle.lk_ast.specs.declared.expression.SortKey.{SortKey}
use Rattle.lk_ast.specs.declared.place.Loc.{Loc}
use Rattle.lk_ast.specs.declared.place.Loc.TheVariants.{Client, Server, Any}
use Rattle.lk_ast.specs.declared.place.Span.{Span}
use Rattle.lk_ast.specs.declared.table.Row.{Row}
use Rattle.lk_ast.specs.declared.value.FunValue.{FunValue}
use Rattle.lk_ast.specs.declared.value.Value.{Value}
use Rattle.lk_bag.specs.Bag.{given, entered, called_function, called, gives}
use Rattle.lk_bag.specs.Blocks.{acts_on_tables, block_at, AreBlocksApart}
use Rattle.lk_bag.specs.Legal.{AreSame}
use Rattle.lk_evaluation.specs.Evaluation.{Goto, eval}
use Rattle.lk_evaluation.specs.Run.{Entry, events_of}
use Rattle.lk_evaluation.specs.Source.{Point, source, under, call, goto}
use Rattle.lk_index.specs.Free.{captured_query}
use Rattle.lk_locals.specs.Names.{Names, no_names, bind_each, bind_all, lookup_all}
use Rattle.lk_names.specs.Programs.{IsBound}
use Rattle.lk_sound.proofs.Apart.{params_apart}
use Rattle.lk_sound.proofs.Bags.{before_caller, called_fits, all_early}
use Rattle.lk_sound.proofs.Bindings.{bound_each}
use Rattle.lk_sound.proofs.Calls.{length_names, length_texts, bound_all, no_locals}
use Rattle.lk_sound.proofs.Fitting.{as_many}
use Rattle.lk_sound.proofs.Names.{AreDistinct}
use Rattle.lk_sound.proofs.QueryParts.{AreQueryNodes}
use Rattle.lk_sound.proofs.QueryValues.{CallsFit}
use Rattle.lk_sound.proofs.TextBlocks.{function_blocks, own_block, block_found}
use Rattle.lk_sound.specs.Instances.{Instances, number_of, IsHelperNode, HasBody, AreClosed}
use Rattle.lk_sound.specs.Nodes.{Use, nodes_of}
use Rattle.lk_sound.specs.Points.{AreBlocksOf, AreLocals}
use Rattle.lk_sound.specs.Tables.{AreTables}
use Rattle.lk_sound.specs.Values.{FitEach}
use Rattle.lk_types.proofs.Members.{each_in}
use Rattle.lk_types.specs.Rows.{EffectSet}
use Rattle.lk_types.specs.declared.ground.Ground.{Ground}
use Rattle.lk_types.specs.declared.ground.Ground.TheVariants as known
use Rattle.lk_types.specs.declared.ty.Effect.TheVariants as effect
use Rattle.lk_typing.proofs.Samples.Types.{same_params, same_effects}
use Rattle.lk_typing.specs.Names.{Named, named, names_of, types_of, texts}
use Rattle.lk_typing.specs.Names as typed_names
use Rattle.lk_typing.specs.Types.{function_of, only_scan}
use Rattle.lk_typing.specs.Typing.{HasType, HasIf, is_marked}
use Rattle.lk_queries.specs.Law.{AtMostScan}
use Rattle.lk_queries.specs.Order.{IsLike, AnyOrderLaw, ListedLaw, OrderLaw}
use Rattle.lk_queries.proofs.Barred.{no_move}
use Rattle.lk_queries.proofs.Coming.{AreFrom, IsFrom, Comes, legal_from, weaker}
use Rattle.lk_queries.proofs.Giving.{IsTypedQuery, typed_query, body_blocks, only_reads}
use Rattle.lk_queries.proofs.LikeGiven.{CallsLike, names_themselves, given_like, calls_like}
use Rattle.lk_queries.proofs.Liking.{like_then, like_turned}
use Rattle.lk_queries.proofs.Doing.{same_tables, DoesLike, CallsCome}
use Rattle.lk_queries.proofs.Ordered.{query_like, value_come}

-- ---- calls

-- a function that may be anywhere stays where it is called
stays : (p : Program) (tables : Tables) (v : Value) (effects : EffectSet) (mark : Loc) (f : FunValue) (args : List Value) (body : Point) → effects effect.Move ≡ false → HasIf (is_marked mark) effects effect.Move
    → Comes p tables Value (λ w. IsLike w v) (eval (source p) body Server) → DoesLike p tables v (Goto mark f args body)
stays p tables v effects Any f args body off moves come = come
stays p tables v effects Client f args body off moves come = absurd (both_ways (effects effect.Move) off moves)
stays p tables v effects Server f args body off moves come = come

module _ (p : Program) (i : Instances) (bound : IsBound p) (apart : AreBlocksApart p) (closed : AreClosed p i) (tables : Tables) (rows : AreTables p tables) where
  abbrev many : ℕ
  many = length (functions_of p)

  fewer : (table : Tables) → AreTables p table → (k n : ℕ) → k ≤ n → CallsFit p i (called p table n) k
  fewer table are k n le u (listed, below) ts effects a is own traps args fits = called_fits p i bound closed table are n u (listed, omega arith) ts effects a is own traps args fits

  itself_order : AreSame tables tables
  itself_order x = IsPermutation-refl (tables x)

  pub own_calls : (n : ℕ) → CallsLike p i (called p tables n) (called p tables n) n
  own_calls n = calls_like p i bound closed tables tables itself_order rows rows n n n (omega arith) (omega arith)

  pub listed_fits : (n : ℕ) → n ≤ many → (listed : Tables) → AreSame tables listed → CallsFit p i (called p listed many) n
  listed_fits n few listed shuffle = fewer listed (same_tables p tables listed shuffle rows) n many few

  pub listed_calls : (n : ℕ) → n ≤ many → (listed : Tables) → AreSame tables listed → CallsLike p i (called p tables n) (called p listed many) n
  listed_calls n few listed shuffle = calls_like p i bound closed tables listed shuffle rows (same_tables p tables listed shuffle rows) n n many (omega arith) few

  entered_come : (n : ℕ) → n ≤ many → CallsCome p tables i (called p tables n) n → (u : Use) → number_of p u.name < suc n → (body : HasBody p (IsHelperNode p i.helpers u) u)
      → (ts : List Ground) (effects : EffectSet) (a : Ground) → u.type ≡ function_of ts effects a → AtMostScan effects
      → (args : List Value) → FitEach p i args ts → (at : Span) → DoesLike p tables (entered (given tables (called p tables n) body.function.body) (bind_all no_names body.function.params args)) (call at args (Some body.function))
  entered_come n few calls_come u below body ts effects a is only args fits at =
      let typed = body.has.typed in
      let f : FunDef = body.function in
      let same_type : function_of ts effects a ≡ function_of (types_of typed.params) typed.effects typed.answer = sym is ∙ typed.is in
      let like = same_effects ts (types_of typed.params) effects typed.effects a typed.answer same_type in
      let own : AtMostScan typed.effects = subst AtMostScan like only in
      let fit_params : FitEach p i args (types_of typed.params) = subst (λ us. FitEach p i args us) (same_params ts (types_of typed.params) effects typed.effects a typed.answer same_type) fits in
      let count : length f.params ≡ length args = sym (length_texts f.params) ∙ ap length (sym typed.names) ∙ length_names typed.params ∙ sym (as_many p i args (types_of typed.params) fit_params) in
      let locals : AreLocals p i typed.params (bind_each no_names (texts f.params) args) =
      subst (λ xs. AreLocals p i typed.params (bind_each no_names xs args)) typed.names
      (subst (λ types. AreLocals p i types (bind_each no_names (names_of typed.params) args)) (append-nil typed.params)
      (bound_each p i typed.params args [] no_names (subst AreDistinct (sym typed.names) (params_apart p f bound body.has.declared)) fit_params (no_locals p i))) in
      subst (λ o. DoesLike p tables (entered (given tables (called p tables n) f.body) o) (goto at f.place (record { site = f.name.at.start; env = [] }) args f.body o)) (sym (bound_all no_names f.params args count))
      (stays p tables (given tables (called p tables n) f.body (bind_each no_names (texts f.params) args)) typed.effects f.place (record { site = f.name.at.start; env = [] }) args (under (bind_each no_names (texts f.params) args) f.body)
      (no_move typed.effects own) typed.moves
      (value_come p i apart closed tables rows (called p tables n) n (called_fits p i bound closed tables rows n) (own_calls n) calls_come (listed_fits n few) (listed_calls n few) body.has.functions false typed.body own
      (before_caller p i u n (nodes_of false typed.body) below body.nodes) (function_blocks p f body.has.declared) (bind_each no_names (texts f.params) args) locals))

  pub called_come : (n : ℕ) → n ≤ many → CallsCome p tables i (called p tables n) n
  unfolding called
  called_come zero few u (listed, below) ts effects a is only args fits at = absurd (omega arith)
  called_come (suc n) few u (listed, below) ts effects a is only args fits at =
      let body : HasBody p (IsHelperNode p i.helpers u) u = each_in (λ w. HasBody p (IsHelperNode p i.helpers w) w) i.helpers u listed closed.helpers in
      subst (λ o. DoesLike p tables (called_function p tables (called p tables n) o args) (call at args o)) (sym body.named)
      (entered_come n (omega arith) (called_come n (omega arith)) u below body ts effects a is only args fits at)

  -- ---- the laws

  pub expression_comes : (functions : Named (typed_names.Entry Ground)) (locals : Named Ground) (effects : EffectSet) (e : Expr) (t : Ground) (inside : List Ground) (typed : HasType functions (tables_of p) locals effects e t inside)
      → AtMostScan effects → AreQueryNodes p i.helpers many (nodes_of true typed) → AreBlocksOf p e → (names : Names) → AreLocals p i locals names → Comes p tables Value (λ w. IsLike w (gives p tables e names)) (eval (source p) (under names e) Server)
  expression_comes functions locals effects e t inside typed only nodes blocks names fit =
      value_come p i apart closed tables rows (called p tables many) many (called_fits p i bound closed tables rows many) (own_calls many) (called_come many (omega arith)) (listed_fits many (omega arith)) (listed_calls many (omega arith)) functions
      true typed only nodes blocks names fit

  pub query_answers : (functions : Named (typed_names.Entry Ground)) (e : Expr) (keys : List SortKey) (body : Expr) (a : Ground) (inside : List Ground) (locals : Named Ground) (names : Names) → layer e ≡ Node-F.Query keys body → AreBlocksOf p e
      → AreLocals p i locals names → (one : HasType functions (tables_of p) locals only_scan body (known.List a) inside) → AreQueryNodes p i.helpers many (nodes_of true one)
      → (args : List Value) × (lookup_all names (captured_query body) ≡ Some args) × ((answer : List Row) → IsFrom p tables (record { site = e.span.start; args = args; answer = answer }) → IsLike (rows_value answer) (gives p tables body names))
  query_answers functions e keys body a inside locals names is blocks fit one all =
      query_like p i apart closed tables rows (called p tables many) many (called_fits p i bound closed tables rows many) (own_calls many) (called_come many (omega arith)) (listed_fits many (omega arith)) (listed_calls many (omega arith)) functions
      e keys body a inside locals names is blocks fit one all

-- what is behind a log is determined
pub same_behind : (log logged later : List Entry) → log ++ logged ≡ log ++ later → logged ≡ later
same_behind [] logged later is = is
same_behind (entry ∷ log) logged later is = same_behind log logged later (let rest : log ++ logged ≡ log ++ later = cc in rest)

pub order_law : OrderLaw
order_law p apart i closed tables rows functions locals effects e t inside typed only flat blocks names fit r logged others is legal =
    expression_comes p i apart.bound apart.blocks closed tables rows functions locals effects e t inside typed only (all_early p i closed (nodes_of true typed) flat) blocks names fit r
    (λ later there. subst (AreFrom p tables) (same_behind r.log logged later (sym is ∙ there)) (legal_from p tables (events_of logged) legal))

pub any_order_law : AnyOrderLaw
any_order_law p apart i closed tables rows effects t point point_is keys body layer_is =
    let inner : IsTypedQuery p i point_is.functions point_is.locals body = typed_query p i point_is.functions point_is.locals effects point.expr t point_is.inside point_is.typed point_is.fine keys body layer_is in
    let nodes : AreQueryNodes p i.helpers (length (functions_of p)) (nodes_of true inner.typed) = all_early p i closed (nodes_of true inner.typed) inner.flat in
    let there : block_at p point.expr.span.start ≡ Some point.expr = block_found p point.expr apart.blocks (own_block p point.expr point_is.blocks (ap acts_on_tables layer_is)) in
    let found = query_answers p i apart.bound apart.blocks closed tables rows point_is.functions point.expr keys body inner.a inner.inside point_is.locals point.names layer_is point_is.blocks point_is.fit inner.typed nodes in
    record {
      args = found.0;
      captured = found.1;
      comes = λ answer answered r logged others is legal.
          weaker p tables Value (λ w. IsLike w (gives p tables body point.names)) (λ w. IsLike w (rows_value answer)) _
          (λ w like. like_then w (gives p tables body point.names) (rows_value answer) like (like_turned (rows_value answer) (gives p tables body point.names) (found.2 answer (point.expr, there, answered))))
          (expression_comes p i apart.bound apart.blocks closed tables rows point_is.functions point_is.locals only_scan body (known.List inner.a) inner.inside inner.typed only_reads nodes (body_blocks p point.expr keys body layer_is point_is.blocks) point.names point_is.fit)
          r (λ later there. subst (AreFrom p tables) (same_behind r.log logged later (sym is ∙ there)) (legal_from p tables (events_of logged) legal));
    }

pub listed_law : ListedLaw
listed_law p apart i closed tables listed rows shuffle functions locals effects e t inside typed only flat names fit =
    let many : ℕ = length (functions_of p) in
    let others : AreTables p listed = same_tables p tables listed shuffle rows in
    given_like p i closed tables listed shuffle rows others (called p tables many) (called p listed many) many (called_fits p i apart.bound closed tables rows many) (called_fits p i apart.bound closed listed others many)
    (calls_like p i apart.bound closed tables listed shuffle rows others many many many (omega arith) (omega arith)) functions true typed only (all_early p i closed (nodes_of true typed) flat) names names fit fit (names_themselves p i locals names fit)
