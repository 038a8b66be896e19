-- The expressions of which a query may consist are evaluated to what they give: by their typing, where calls are evaluated to what
-- they give, and calls by the number of functions before the one that is called.
use Rattle.std.proofs.Common.{◌≡◌, arith, refl, sym, ap, ◌∙◌, subst, ℕ, zero, suc, ◌<◌, ◌≤◌, Bool, true, false, List, [], ◌∷◌, append-nil, length, map, Some, None}
use Rattle.std.proofs.lemmas.Option.{none-some}
use Rattle.std.proofs.lemmas.Bool.{both_ways}
use Rattle.lk_ast.specs.Functions.{functions_of}
use Rattle.lk_ast.specs.Layers.{Layer, layer}
use Rattle.lk_ast.specs.Rows.{row_value, rows_value}
use Rattle.lk_ast.specs.Tables.{Tables, tables_of}
use Rattle.lk_ast.specs.declared.declaration.FunDef.{FunDef}
use Rattle.lk_ast.specs.declared.declaration.Program.{Program}
use Rattle.lk_ast.specs.declared.expression.Expr.{Expr}
use Rattle.lk_ast.specs.declared.expression.Node.TheOpen.{Node-F}
use Rattle.lk_ast.specs.declared.expression.SortKey.{SortKey}
use Rattle.lk_ast.specs.declared.place.Loc.{Loc}
use Rattle.lk_ast.specs.declared.place.Loc.TheVariants.{Client, Server, Any}
use Rattle.lk_ast.specs.declared.place.Span.{Span}
use Rattle.lk_ast.specs.declared.place.Word.{Word}
use Rattle.lk_ast.specs.declared.table.Row.{Row}
use Rattle.lk_ast.specs.declared.value.FunValue.{FunValue}
use Rattle.lk_ast.specs.declared.value.Value.{Value}
use Rattle.lk_ast.specs.declared.value.Value.TheVariants as value
use Rattle.lk_bag.proofs.Given.{given_var, given_for_list, given_for_table, given_query}
use Rattle.lk_bag.specs.Bag.{items, for_each, given, entered, called_function, called, gives}
use Rattle.lk_bag.specs.Blocks.{acts_on_tables, AreBlocksApart}
use Rattle.lk_bag.specs.Legal.{bag, bag_by, captured_by}
use Rattle.lk_evaluation.specs.Evaluation.{Goto, eval}
use Rattle.lk_evaluation.specs.Source.{Point, source, under, call, goto, over, reads}
use Rattle.lk_ground_types.specs.Shapes.{is_query_type}
use Rattle.lk_index.specs.Free.{free, captured_query}
use Rattle.lk_locals.specs.Names.{Names, no_names, bind, bind_each, bind_all, lookup_all}
use Rattle.lk_names.specs.Programs.{IsBound}
use Rattle.lk_operators.specs.Values.{list_in}
use Rattle.lk_scope.specs.Names as scope
use Rattle.lk_sound.proofs.Apart.{params_apart}
use Rattle.lk_sound.proofs.Bags.{value_fits, parts_fit, before_caller, called_fits, all_early}
use Rattle.lk_sound.proofs.Bindings.{bound_one, bound_each}
use Rattle.lk_sound.proofs.Calls.{length_names, length_texts, bound_all, no_locals}
use Rattle.lk_sound.proofs.Fitting.{as_many}
use Rattle.lk_sound.proofs.FlatTypes.{unit_not_flat}
use Rattle.lk_sound.proofs.Free.{known_in}
use Rattle.lk_sound.proofs.Inside.{insides}
use Rattle.lk_sound.proofs.Names.{AreDistinct}
use Rattle.lk_sound.proofs.QueryParts.{IsQueryNode, AreQueryNodes, part_types}
use Rattle.lk_sound.proofs.QueryValues.{CallsFit}
use Rattle.lk_sound.proofs.Retyped.{outermost, retyped, retyped_nodes}
use Rattle.lk_sound.proofs.Shapes.{list_of_fits, fits_list}
use Rattle.lk_sound.proofs.TableRows.{flat_rows}
use Rattle.lk_sound.proofs.TextBlocks.{insides_blocks, function_blocks, own_block, block_found}
use Rattle.lk_sound.specs.Instances.{Instances, number_of, IsHelperNode, HasBody, AreClosed, IsFine, IsFlatPart}
use Rattle.lk_sound.specs.Law.{AreBoundAndApart}
use Rattle.lk_sound.specs.Nodes.{Use, nodes_of, each_nodes, parts_of as parts_in}
use Rattle.lk_sound.specs.Points.{AreBlocksOf, AreLocals}
use Rattle.lk_sound.specs.Tables.{AreTables}
use Rattle.lk_sound.specs.Values.{Fits, AllFit, FitEach}
use Rattle.lk_sound.specs.Values as fitting
use Rattle.lk_types.proofs.Members.{each_in, each_front, each_back}
use Rattle.lk_types.specs.Each.{Each}
use Rattle.lk_types.specs.Rows.{EffectSet}
use Rattle.lk_types.specs.declared.ground.Ground.{Ground}
use Rattle.lk_types.specs.declared.ground.Ground.TheVariants as known
use Rattle.lk_types.specs.declared.ty.Effect.TheVariants as effect
use Rattle.lk_typing.proofs.Samples.Types.{same_params, same_effects}
use Rattle.lk_typing.specs.Heads.{Head, head, parts}
use Rattle.lk_typing.specs.Names.{Named, named, names_of, types_of, texts, Entry}
use Rattle.lk_typing.specs.Types.{function_of, only_scan}
use Rattle.lk_typing.specs.Typing.{HasType, HaveTypes, HasIf, is_marked, label_of, expr_of, plain, lambda, var, switch, switch_open, for_list, for_table, query, update, delete, none, more}
use Rattle.lk_queries.specs.Law.{AtMostScan, Ends, IsInPlace, InPlaceLaw, QueryLaw}
use Rattle.lk_queries.proofs.Agreeing.{CallsAgree, given_agrees, calls_agree}
use Rattle.lk_queries.proofs.Barred.{no_local, no_trap, no_move}
use Rattle.lk_queries.proofs.Entering.{IsRight, IsBody, node_right, each_right}
use Rattle.lk_queries.proofs.Kept.{IsTaken, taken_of}
use Rattle.lk_queries.proofs.Operating.{Does, CallsRight, operator_right}
use Rattle.lk_inline.proofs.Standing.{list_shown}
use Rattle.lk_queries.proofs.QueryTypes.{flat_list, items_of}
use Rattle.lk_queries.proofs.Reading.{read, same_value}

-- ---- what stands in an operator is some of the program

pub operator_insides : (P : Expr → Type 0) (l : Layer) (h : Head) → head label_of expr_of l ≡ Some h → Each P (insides l) → Each P (parts label_of expr_of l)
operator_insides P (Node-F.Lambda l) h is all = absurd (none-some h is)
operator_insides P (Node-F.Var x d rest) h is all = absurd (none-some h is)
operator_insides P (Node-F.Switch d cases last) h is all = absurd (none-some h is)
operator_insides P (Node-F.ForList x d body) h is all = absurd (none-some h is)
operator_insides P (Node-F.ForTable x rows body) h is all = absurd (none-some h is)
operator_insides P (Node-F.Query keys d) h is all = absurd (none-some h is)
operator_insides P (Node-F.Update change) h is all = absurd (none-some h is)
operator_insides P (Node-F.Delete change) h is all = absurd (none-some h is)
operator_insides P other h is all = all

-- those of these two
pub both_blocks : (p : Program) (e d body : Expr) (l : Layer) → layer e ≡ l → insides l ≡ d ∷ body ∷ [] → AreBlocksOf p e → AreBlocksOf p d × AreBlocksOf p body
both_blocks p e d body l is two blocks =
    let all : Each (AreBlocksOf p) (d ∷ body ∷ []) = subst (Each (AreBlocksOf p)) (ap insides is ∙ two) (insides_blocks p e blocks) in
    (all.0, all.1.0)

-- ---- effects

pub only_reads : AtMostScan only_scan
only_reads effect.Scan on = refl
only_reads effect.Local on = absurd cc
only_reads effect.Move on = absurd cc
only_reads effect.Print on = absurd cc
only_reads effect.Rec on = absurd cc
only_reads effect.Trap on = absurd cc
only_reads effect.Write on = absurd cc

-- a query is no operator
no_operator : {A : Type 0} (l : Layer) (h : Head) (keys : List SortKey) (body : Expr) → head label_of expr_of l ≡ Some h → l ≡ Node-F.Query keys body → A
no_operator l h keys body its is = absurd (none-some h (sym (ap (λ (k : Layer). head label_of expr_of k) is) ∙ its))

same_bodies : {keys others : List SortKey} {body other : Expr} → ◌≡◌ {A = Layer} (Node-F.Query keys body) (Node-F.Query others other) → body ≡ other
same_bodies is = cc

-- ---- a query in what is typed

-- its body is typed as that of a query, and flat
pub record IsTypedQuery (p : Program) (i : Instances) (functions : Named (Entry Ground)) (locals : Named Ground) (body : Expr) : Type 0 where
  pub a : Ground
  pub inside : List Ground
  pub typed : HasType functions (tables_of p) locals only_scan body (known.List a) inside
  pub query : is_query_type (known.List a) ≡ true
  pub flat : Each (IsFlatPart i.helpers) (parts_in (nodes_of true typed))

module _ (p : Program) (i : Instances) (functions : Named (Entry Ground)) where
  pub typed_query : (locals : Named Ground) (effects : EffectSet) (e : Expr) (t : Ground) (inside : List Ground) (typed : HasType functions (tables_of p) locals effects e t inside)
      → Each (IsFine i) (nodes_of false typed) → (keys : List SortKey) (body : Expr) → layer e ≡ Node-F.Query keys body → IsTypedQuery p i functions locals body
  unfolding nodes_of
  typed_query locals effects e _ _ (query other_keys other a inner layer_is one sorted scans own) (node, fine) keys body is =
      let flat = (node.flat _ refl).parts in
      subst (IsTypedQuery p i functions locals) (same_bodies (sym layer_is ∙ is)) (record { a = a; inside = inner; typed = one; query = flat.0.type; flat = flat.1 })
  typed_query locals effects e t inside (plain h ts its have by) fine keys body is = no_operator (layer e) h keys body its is
  typed_query locals effects e _ _ (lambda l params own b its named moves typed local) fine keys body is = absurd (let wrong : ◌≡◌ {A = Layer} (Node-F.Lambda l) (Node-F.Query keys body) = sym its ∙ is in cc)
  typed_query locals effects e _ _ (var x d rest a first last its one next) fine keys body is = absurd (let wrong : ◌≡◌ {A = Layer} (Node-F.Var x d rest) (Node-F.Query keys body) = sym its ∙ is in cc)
  typed_query locals effects e _ _ (switch d cases row tags ts first bodies its one have same made local) fine keys body is = absurd (let wrong : ◌≡◌ {A = Layer} (Node-F.Switch d cases None) (Node-F.Query keys body) = sym its ∙ is in cc)
  typed_query locals effects e _ _ (switch_open d cases last other row tags ts first bodies inner its one have same next made local) fine keys body is = absurd (let wrong : ◌≡◌ {A = Layer} (Node-F.Switch d cases (Some last)) (Node-F.Query keys body) = sym its ∙ is in cc)
  typed_query locals effects e _ _ (for_list x d inner a b first last its one next) fine keys body is = absurd (let wrong : ◌≡◌ {A = Layer} (Node-F.ForList x d inner) (Node-F.Query keys body) = sym its ∙ is in cc)
  typed_query locals effects e _ _ (for_table x d inner a b first last its one next) fine keys body is = absurd (let wrong : ◌≡◌ {A = Layer} (Node-F.ForTable x d inner) (Node-F.Query keys body) = sym its ∙ is in cc)
  typed_query locals effects e _ _ (update change its changes writes) fine keys body is = absurd (let wrong : ◌≡◌ {A = Layer} (Node-F.Update change) (Node-F.Query keys body) = sym its ∙ is in cc)
  typed_query locals effects e _ _ (delete change its changes writes) fine keys body is = absurd (let wrong : ◌≡◌ {A = Layer} (Node-F.Delete change) (Node-F.Query keys body) = sym its ∙ is in cc)

-- the body of a query is some of the program
pub body_blocks : (p : Program) (e : Expr) (keys : List SortKey) (body : Expr) → layer e ≡ Node-F.Query keys body → AreBlocksOf p e → AreBlocksOf p body
body_blocks p e keys body is blocks =
    let all : Each (AreBlocksOf p) (body ∷ []) = subst (Each (AreBlocksOf p)) (ap insides is) (insides_blocks p e blocks) in
    all.0

-- ---- by typings

module _ (p : Program) (i : Instances) (apart : AreBlocksApart p) (closed : AreClosed p i) (tables : Tables) (rows : AreTables p tables) (calls : List ℕ → List Value → Value) (n : ℕ)
    (calls_fit : CallsFit p i calls n) (calls_right : CallsRight p tables i calls n) (agree : CallsAgree p i (called p tables (length (functions_of p))) calls n) (functions : Named (Entry Ground)) where
  abbrev give : Expr → Names → Value
  give = given tables calls

  abbrev Right : Bool → Names → Expr → Type 0
  Right scans = IsRight p tables scans calls

  -- ---- blocks and loops

  var_right : (scans : Bool) (e : Expr) (x : Word) (d rest : Expr) (names : Names) → layer e ≡ Node-F.Var x d rest → Right scans names d → Right scans (bind x.text (give d names) names) rest → Right scans names e
  var_right scans e x d rest names is one next =
      node_right p tables scans calls names e (Node-F.Var x d rest) is (one, tt) (same_value p tables scans Value (give rest (bind x.text (give d names) names)) (give e names) _ (sym (given_var tables calls e x d rest names is)) next)

  bodies_right : (scans : Bool) (x : Word) (a b : Ground) (body : Expr) (names : Names) → ((v : Value) → Fits p i v a → Right scans (bind x.text v names) body) → ((v : Value) → Fits p i v a → Fits p i (give body (bind x.text v names)) (known.List b))
      → (elements : List Value) → AllFit p i elements a → Each (λ v. IsBody p tables scans calls (bind x.text v names) body) elements
  bodies_right scans x a b body names right fits [] fitting.none = tt
  bodies_right scans x a b body names right fits (v ∷ elements) (fitting.more fit all) =
      let found = list_of_fits p i (give body (bind x.text v names)) b (fits v fit) in
      (record { right = right v fit; list = found.1 ∙ ap Some (sym (items_of (give body (bind x.text v names)) found.0 found.1)) }, bodies_right scans x a b body names right fits elements all)

  -- a loop over what its first part gives
  over_right : (scans : Bool) (at : Span) (x : Word) (a b : Ground) (d body : Expr) (names : Names) → Fits p i (give d names) (known.List a)
      → ((v : Value) → Fits p i v a → Right scans (bind x.text v names) body) → ((v : Value) → Fits p i v a → Fits p i (give body (bind x.text v names)) (known.List b))
      → Does p tables scans (for_each x.text (items (give d names)) (give body) names) (over at x.text (list_in (give d names)) body names)
  over_right scans at x a b d body names fits right bodies_fit =
      let found = list_of_fits p i (give d names) a fits in
      subst (λ vs. Does p tables scans (for_each x.text vs (give body) names) (over at x.text (list_in (give d names)) body names)) (sym (items_of (give d names) found.0 found.1))
      (subst (λ o. Does p tables scans (for_each x.text found.0 (give body) names) (over at x.text o body names)) (sym found.1)
      (each_right p tables scans calls at x.text body names found.0 (bodies_right scans x a b body names right bodies_fit found.0 found.2) []))

  -- ---- queries inside

  -- What a query captures where local names have these values, and the rows that it has over the tables: what its body gives there.
  pub record HasRows (e body : Expr) (names : Names) : Type 0 where
    pub args : List Value
    pub answer : List Row
    pub found : lookup_all names (captured_query body) ≡ Some args
    pub gives_rows : give body names ≡ rows_value answer
    pub listing : bag p tables e args ≡ map row_value answer

  pub query_rows : (e : Expr) (keys : List SortKey) (body : Expr) (a : Ground) (inside : List Ground) (locals : Named Ground) (names : Names) → layer e ≡ Node-F.Query keys body → is_query_type (known.List a) ≡ true
      → AreLocals p i locals names → (one : HasType functions (tables_of p) locals only_scan body (known.List a) inside) → AreQueryNodes p i.helpers n (nodes_of true one) → HasRows e body names
  query_rows e keys body a inside locals names is flat fit one all =
      let taken : IsTaken p i locals names (free body scope.no_names) = taken_of p i locals names (free body scope.no_names) fit (known_in one scope.no_names) in
      let inner = outermost {xs = free body scope.no_names} taken.same in
      let typed : HasType functions (tables_of p) taken.kept only_scan body (known.List a) inside = retyped one scope.no_names taken.kept inner.used inner.round in
      let query_nodes : AreQueryNodes p i.helpers n (nodes_of true typed) =
      subst (AreQueryNodes p i.helpers n) (sym (retyped_nodes true one scope.no_names taken.kept inner.used inner.round)) all in
      let same : given tables (called p tables (length (functions_of p))) body (bind_each no_names (captured_query body) taken.values) ≡ give body names =
      given_agrees p i tables (called p tables (length (functions_of p))) calls n agree functions true typed query_nodes (bind_each no_names (captured_query body) taken.values) names taken.again in
      let held = fits_list p i (give body names) a (value_fits p i closed tables rows calls n calls_fit functions true one refl refl all names fit) in
      let made : (rs : List Row) × (held.0 ≡ map row_value rs) = flat_rows p i a (flat_list a flat) held.0 held.2 in
      let gives_rows : give body names ≡ rows_value made.0 = held.1 ∙ ap value.List made.1 in
      record {
        args = taken.values;
        answer = made.0;
        found = taken.found;
        gives_rows = gives_rows;
        listing = ap (λ k. bag_by p tables e k taken.values) is
            ∙ ap (λ k. items (gives p tables body (bind_each no_names (captured_by k) taken.values))) is
            ∙ ap items (same ∙ gives_rows)
            ∙ items_of (rows_value made.0) (map row_value made.0) (list_shown (map row_value made.0));
      }

  query_right : (scans : Bool) → scans ≡ true → (e : Expr) (keys : List SortKey) (body : Expr) (names : Names) → layer e ≡ Node-F.Query keys body → AreBlocksOf p e → HasRows e body names → Right scans names e
  query_right scans on e keys body names is blocks has =
      node_right p tables scans calls names e (Node-F.Query keys body) is tt
      (same_value p tables scans Value (rows_value has.answer) (give e names) _ (sym (given_query tables calls e keys body names is ∙ has.gives_rows))
      (subst (λ o. Does p tables scans (rows_value has.answer) (reads e.span o)) (sym has.found)
      (read p tables scans on e.span.start has.args has.answer e (block_found p e apart (own_block p e blocks (ap acts_on_tables is))) has.listing)))

  mutual
    unfolding nodes_of

    pub value_right : {effects : EffectSet} {locals : Named Ground} {e : Expr} {t : Ground} {inside : List Ground} (flag : Bool) (d : HasType functions (tables_of p) locals effects e t inside)
        → AtMostScan effects → AreQueryNodes p i.helpers n (nodes_of flag d) → AreBlocksOf p e → (names : Names) → AreLocals p i locals names → Right (effects effect.Scan) names e
    value_right {effects = effects} {locals = locals} {e = e} {t = t} flag (plain h ts is have by) only all blocks names fit =
        operator_right p i apart closed tables calls n calls_right functions effects only locals names fit e (layer e) h ts t refl is blocks (record { by = by; uses = all.0.calls }) all.0.type
        (part_types p i.helpers n flag have all.1)
        (parts_fit p i closed tables rows calls n calls_fit functions flag have (no_local effects only) (no_trap effects only) all.1 names fit)
        (parts_right flag have only all.1 (operator_insides (AreBlocksOf p) (layer e) h is (insides_blocks p e blocks)) names fit)
    value_right {effects = effects} flag (lambda l params own a is named moves body local) only all blocks names fit = absurd (both_ways (effects effect.Local) (no_local effects only) local)
    value_right {effects = effects} {locals = locals} {e = e} flag (var x d rest a first last is one next) only all blocks names fit =
        let first_nodes = each_front (IsQueryNode p i.helpers n) (nodes_of flag one) (nodes_of flag next) all.1 in
        let there = both_blocks p e d rest (Node-F.Var x d rest) is refl blocks in
        let v : Fits p i (give d names) a = value_fits p i closed tables rows calls n calls_fit functions flag one (no_local effects only) (no_trap effects only) first_nodes names fit in
        var_right (effects effect.Scan) e x d rest names is (value_right flag one only first_nodes there.0 names fit)
        (value_right flag next only (each_back (IsQueryNode p i.helpers n) (nodes_of flag one) (nodes_of flag next) all.1) there.1 (bind x.text (give d names) names) (bound_one p i x.text (give d names) a locals names v fit))
    value_right {effects = effects} flag (switch d cases row tags ts first bodies is one have same made local) only all blocks names fit = absurd (both_ways (effects effect.Local) (no_local effects only) local)
    value_right {effects = effects} flag (switch_open d cases last rest row tags ts first bodies inside is one have same next made local) only all blocks names fit = absurd (both_ways (effects effect.Local) (no_local effects only) local)
    value_right {effects = effects} {locals = locals} {e = e} flag (for_list x d body a b first inside is one next) only all blocks names fit =
        let first_nodes = each_front (IsQueryNode p i.helpers n) (nodes_of flag one) (nodes_of flag next) all.1 in
        let next_nodes = each_back (IsQueryNode p i.helpers n) (nodes_of flag one) (nodes_of flag next) all.1 in
        let there = both_blocks p e d body (Node-F.ForList x d body) is refl blocks in
        node_right p tables (effects effect.Scan) calls names e (Node-F.ForList x d body) is (value_right flag one only first_nodes there.0 names fit, tt)
        (same_value p tables (effects effect.Scan) Value (for_each x.text (items (give d names)) (give body) names) (give e names) _ (sym (given_for_list tables calls e x d body names is))
        (over_right (effects effect.Scan) e.span x a b d body names
        (value_fits p i closed tables rows calls n calls_fit functions flag one (no_local effects only) (no_trap effects only) first_nodes names fit)
        (λ v fits. value_right flag next only next_nodes there.1 (bind x.text v names) (bound_one p i x.text v a locals names fits fit))
        (λ v fits. value_fits p i closed tables rows calls n calls_fit functions flag next (no_local effects only) (no_trap effects only) next_nodes (bind x.text v names) (bound_one p i x.text v a locals names fits fit))))
    value_right {effects = effects} {locals = locals} {e = e} flag (for_table x d body a b first inside is one next) only all blocks names fit =
        let first_nodes = each_front (IsQueryNode p i.helpers n) (nodes_of flag one) (nodes_of flag next) all.1 in
        let next_nodes = each_back (IsQueryNode p i.helpers n) (nodes_of flag one) (nodes_of flag next) all.1 in
        let there = both_blocks p e d body (Node-F.ForTable x d body) is refl blocks in
        node_right p tables (effects effect.Scan) calls names e (Node-F.ForTable x d body) is (value_right flag one only first_nodes there.0 names fit, tt)
        (same_value p tables (effects effect.Scan) Value (for_each x.text (items (give d names)) (give body) names) (give e names) _ (sym (given_for_table tables calls e x d body names is))
        (over_right (effects effect.Scan) e.span x a b d body names
        (value_fits p i closed tables rows calls n calls_fit functions flag one (no_local effects only) (no_trap effects only) first_nodes names fit)
        (λ v fits. value_right flag next only next_nodes there.1 (bind x.text v names) (bound_one p i x.text v a locals names fits fit))
        (λ v fits. value_fits p i closed tables rows calls n calls_fit functions flag next (no_local effects only) (no_trap effects only) next_nodes (bind x.text v names) (bound_one p i x.text v a locals names fits fit))))
    value_right {effects = effects} {locals = locals} {e = e} flag (query keys body a inside is one sorted scans marked) only all blocks names fit =
        query_right (effects effect.Scan) scans e keys body names is blocks (query_rows e keys body a inside locals names is all.0.type fit one all.1)
    value_right flag (update change is changes writes) only all blocks names fit = absurd (unit_not_flat all.0.type)
    value_right flag (delete change is changes writes) only all blocks names fit = absurd (unit_not_flat all.0.type)

    parts_right : {effects : EffectSet} {locals : Named Ground} {es : List Expr} {ts inside : List Ground} (flag : Bool) (d : HaveTypes functions (tables_of p) locals effects es ts inside)
        → AtMostScan effects → AreQueryNodes p i.helpers n (each_nodes flag d) → Each (AreBlocksOf p) es → (names : Names) → AreLocals p i locals names → Each (Right (effects effect.Scan) names) es
    parts_right flag none only all blocks names fit = tt
    parts_right flag (more inside rest first others) only all blocks names fit = (
      value_right flag first only (each_front (IsQueryNode p i.helpers n) (nodes_of flag first) (each_nodes flag others) all) blocks.0 names fit,
      parts_right flag others only (each_back (IsQueryNode p i.helpers n) (nodes_of flag first) (each_nodes flag others) all) blocks.1 names fit,
    )

-- ---- calls

module _ (p : Program) (tables : Tables) where
  -- a function that may be anywhere stays where it is called
  stays : (scans : Bool) (v : Value) (effects : EffectSet) (mark : Loc) (f : FunValue) (args : List Value) (body : Point) → effects effect.Move ≡ false → HasIf (is_marked mark) effects effect.Move
      → Ends p tables scans Value v (eval (source p) body Server) → Does p tables scans v (Goto mark f args body)
  stays scans v effects Any f args body off moves right = right
  stays scans v effects Client f args body off moves right = absurd (both_ways (effects effect.Move) off moves)
  stays scans v effects Server f args body off moves right = right

module _ (p : Program) (i : Instances) (bound : IsBound p) (apart : AreBlocksApart p) (closed : AreClosed p i) (tables : Tables) (rows : AreTables p tables) where
  -- a helper's body with arguments that fit
  entered_right : (n : ℕ) → n < length (functions_of p) → CallsRight p tables i (called p tables n) n → (u : Use) → number_of p u.name < suc n → (body : HasBody p (IsHelperNode p i.helpers u) u)
      → (ts : List Ground) (effects : EffectSet) (a : Ground) → u.type ≡ function_of ts effects a → AtMostScan effects
      → (args : List Value) → FitEach p i args ts → (at : Span) → Does p tables (effects effect.Scan) (entered (given tables (called p tables n) body.function.body) (bind_all no_names body.function.params args)) (call at args (Some body.function))
  entered_right n few calls_right u below body ts effects a is only args fits at =
      let typed = body.has.typed in
      let f : FunDef = body.function in
      let same : function_of ts effects a ≡ function_of (types_of typed.params) typed.effects typed.answer = sym is ∙ typed.is in
      let like = same_effects ts (types_of typed.params) effects typed.effects a typed.answer same in
      let own : AtMostScan typed.effects = subst AtMostScan like only in
      let fit_params : FitEach p i args (types_of typed.params) = subst (λ us. FitEach p i args us) (same_params ts (types_of typed.params) effects typed.effects a typed.answer same) fits in
      let many : length f.params ≡ length args = sym (length_texts f.params) ∙ ap length (sym typed.names) ∙ length_names typed.params ∙ sym (as_many p i args (types_of typed.params) fit_params) in
      let locals : AreLocals p i typed.params (bind_each no_names (texts f.params) args) =
      subst (λ xs. AreLocals p i typed.params (bind_each no_names xs args)) typed.names
      (subst (λ types. AreLocals p i types (bind_each no_names (names_of typed.params) args)) (append-nil typed.params)
      (bound_each p i typed.params args [] no_names (subst AreDistinct (sym typed.names) (params_apart p f bound body.has.declared)) fit_params (no_locals p i))) in
      subst (λ (set : EffectSet). Does p tables (set effect.Scan) (entered (given tables (called p tables n) f.body) (bind_all no_names f.params args)) (call at args (Some f))) (sym like)
      (subst (λ o. Does p tables (typed.effects effect.Scan) (entered (given tables (called p tables n) f.body) o) (goto at f.place (record { site = f.name.at.start; env = [] }) args f.body o)) (sym (bound_all no_names f.params args many))
      (stays p tables (typed.effects effect.Scan) (given tables (called p tables n) f.body (bind_each no_names (texts f.params) args)) typed.effects f.place (record { site = f.name.at.start; env = [] }) args (under (bind_each no_names (texts f.params) args) f.body)
      (no_move typed.effects own) typed.moves
      (value_right p i apart closed tables rows (called p tables n) n (called_fits p i bound closed tables rows n) calls_right (calls_agree p i closed tables n (length (functions_of p)) n (omega arith) (omega arith)) body.has.functions false typed.body own
      (before_caller p i u n (nodes_of false typed.body) below body.nodes) (function_blocks p f body.has.declared) (bind_each no_names (texts f.params) args) locals)))

  pub called_right : (n : ℕ) → n ≤ length (functions_of p) → CallsRight p tables i (called p tables n) n
  unfolding called
  called_right zero few u (listed, below) ts effects a is only args fits at = absurd (omega arith)
  called_right (suc n) few u (listed, below) ts effects a is only args fits at =
      let body : HasBody p (IsHelperNode p i.helpers u) u = each_in (λ w. HasBody p (IsHelperNode p i.helpers w) w) i.helpers u listed closed.helpers in
      subst (λ o. Does p tables (effects effect.Scan) (called_function p tables (called p tables n) o args) (call at args o)) (sym body.named)
      (entered_right n (omega arith) (called_right n (omega arith)) u below body ts effects a is only args fits at)

-- ---- the laws

module _ (p : Program) (apart : AreBoundAndApart p) (i : Instances) (closed : AreClosed p i) (tables : Tables) (rows : AreTables p tables) where
  abbrev many : ℕ
  many = length (functions_of p)

  abbrev all_fit : CallsFit p i (called p tables many) many
  all_fit = called_fits p i apart.bound closed tables rows many

  abbrev all_right : CallsRight p tables i (called p tables many) many
  all_right = called_right p i apart.bound apart.blocks closed tables rows many (omega arith)

  abbrev all_agree : CallsAgree p i (called p tables many) (called p tables many) many
  all_agree = calls_agree p i closed tables many many many (omega arith) (omega arith)

  -- What a query captures under these names, and the rows that its body gives there.
  pub record AreRowsGiven (e body : Expr) (names : Names) (a : Ground) : Type 0 where
    pub args : List Value
    pub answer : List Row
    pub captured : lookup_all names (captured_query body) ≡ Some args
    pub gives_rows : gives p tables body names ≡ rows_value answer
    pub bag_is : bag p tables e args ≡ map row_value answer
    pub fits : Fits p i (gives p tables body names) (known.List a)

  pub rows_given : (functions : Named (Entry Ground)) (locals : Named Ground) (e : Expr) (keys : List SortKey) (body : Expr) → layer e ≡ Node-F.Query keys body → (inner : IsTypedQuery p i functions locals body)
      → (names : Names) → AreLocals p i locals names → AreRowsGiven e body names inner.a
  rows_given functions locals e keys body is inner names fit =
      let nodes : AreQueryNodes p i.helpers many (nodes_of true inner.typed) = all_early p i closed (nodes_of true inner.typed) inner.flat in
      let has : HasRows p i apart.blocks closed tables rows (called p tables many) many all_fit all_right all_agree functions e body names =
      query_rows p i apart.blocks closed tables rows (called p tables many) many all_fit all_right all_agree functions e keys body inner.a inner.inside locals names is inner.query fit inner.typed nodes in
      record {
        args = has.args;
        answer = has.answer;
        captured = has.found;
        gives_rows = has.gives_rows;
        bag_is = has.listing;
        fits = value_fits p i closed tables rows (called p tables many) many all_fit functions true inner.typed refl refl nodes names fit;
      }

  -- a query where it stands
  in_place : (functions : Named (Entry Ground)) (locals : Named Ground) (e : Expr) (keys : List SortKey) (body : Expr) → layer e ≡ Node-F.Query keys body → IsTypedQuery p i functions locals body → AreBlocksOf p e
      → (names : Names) → AreLocals p i locals names → IsInPlace p tables e body names
  in_place functions locals e keys body is inner blocks names fit =
      let has : AreRowsGiven e body names inner.a = rows_given functions locals e keys body is inner names fit in
      record {
        args = has.args;
        answer = has.answer;
        captured = has.captured;
        bag_is = has.bag_is;
        ends = same_value p tables true Value (gives p tables body names) (rows_value has.answer) _ has.gives_rows
            (value_right p i apart.blocks closed tables rows (called p tables many) many all_fit all_right all_agree functions true inner.typed only_reads (all_early p i closed (nodes_of true inner.typed) inner.flat)
            (body_blocks p e keys body is blocks) names fit);
      }

pub query_law : QueryLaw
query_law p apart i closed tables rows functions locals effects e t inside typed only flat blocks names fit =
    let many : ℕ = length (functions_of p) in
    value_right p i apart.blocks closed tables rows (called p tables many) many (called_fits p i apart.bound closed tables rows many) (called_right p i apart.bound apart.blocks closed tables rows many (omega arith))
    (calls_agree p i closed tables many many many (omega arith) (omega arith)) functions true typed only (all_early p i closed (nodes_of true typed) flat) blocks names fit

pub in_place_law : InPlaceLaw
in_place_law p apart i closed tables rows effects t point is keys body layer_is =
    in_place p apart i closed tables rows is.functions is.locals point.expr keys body layer_is (typed_query p i is.functions is.locals effects point.expr t is.inside is.typed is.fine keys body layer_is) is.blocks point.names is.fit
