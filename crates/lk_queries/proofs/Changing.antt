-- Conditions and new values of updates and deletions are evaluated where the change stands to what the definition takes them for.
use Rattle.std.proofs.Common.{◌≡◌, refl, sym, ap, ◌∙◌, subst, ℕ, ◌+◌, Bool, true, false, List, [], ◌∷◌, ◌++◌, map, find, length, append-nil, Option, Some, None, unwrap_or, if◌then◌else◌, arith}
use Rattle.std.proofs.lemmas.List.{length-append}
use Rattle.std.proofs.lemmas.Option.{none-some}
use Rattle.lk_ast.specs.Children.{exprs_of}
use Rattle.lk_ast.specs.Functions.{functions_of}
use Rattle.lk_ast.specs.Layers.{Layer, layer}
use Rattle.lk_ast.specs.Rows.{row_value}
use Rattle.lk_ast.specs.Tables.{Tables, is_of_kind, row_fits, table_defs, tables_of}
use Rattle.lk_ast.specs.declared.declaration.Program.{Program}
use Rattle.lk_ast.specs.declared.event.Event.{Event}
use Rattle.lk_ast.specs.declared.event.Event.TheVariants.{Print, Enter, Leave, Read, Write}
use Rattle.lk_ast.specs.declared.expression.ChangeExpr.{ChangeExpr, out-ChangeExpr}
use Rattle.lk_ast.specs.declared.expression.Expr.{Expr}
use Rattle.lk_ast.specs.declared.expression.Node.TheOpen.{Node-F}
use Rattle.lk_ast.specs.declared.expression.PartExpr.{PartExpr}
use Rattle.lk_ast.specs.declared.place.Loc.TheVariants.{Server}
use Rattle.lk_ast.specs.declared.table.Base.{Base}
use Rattle.lk_ast.specs.declared.table.Base.TheVariants as held
use Rattle.lk_ast.specs.declared.table.BaseKind.{BaseKind}
use Rattle.lk_ast.specs.declared.table.BaseKind.TheVariants as kind
use Rattle.lk_ast.specs.declared.table.Cell.{Cell}
use Rattle.lk_ast.specs.declared.table.Row.{Row}
use Rattle.lk_ast.specs.declared.table.TableDef.{TableDef}
use Rattle.lk_ast.specs.declared.value.Value.{Value}
use Rattle.lk_ast.specs.declared.value.Value.TheVariants as value
use Rattle.lk_bag.specs.Bag.{called, gives}
use Rattle.lk_bag.specs.Change.{is_met, is_true, sets_label, updated}
use Rattle.lk_bag.specs.Legal.{captured_by, names_in}
use Rattle.lk_evaluation.specs.Evaluation.{eval}
use Rattle.lk_evaluation.specs.Laws.{Both}
use Rattle.lk_evaluation.specs.Run.{Run, Entry, Out, Goes, Stops, Trapped, Spent, Waiting, Stuck, Asked, answers_in, events_of}
use Rattle.lk_evaluation.specs.Source.{source, under}
use Rattle.lk_ground_types.specs.Shapes.{is_base}
use Rattle.lk_index.specs.Free.{captured_change, free_change}
use Rattle.lk_inline.proofs.TableColumns.{has_table}
use Rattle.lk_locals.specs.Names.{Names, no_names, bind, bind_each}
use Rattle.lk_operators.specs.Values.{base_in, bool_in, truth}
use Rattle.lk_scope.specs.Names as scope
use Rattle.lk_sound.proofs.Bags.{all_early, called_fits, value_fits}
use Rattle.lk_sound.proofs.Bindings.{bound_one}
use Rattle.lk_sound.proofs.FlatTypes.{base_is}
use Rattle.lk_sound.proofs.Free.{change_known}
use Rattle.lk_sound.proofs.Inside.{insides, inside_change}
use Rattle.lk_sound.proofs.QueryParts.{AreQueryNodes, IsQueryNode}
use Rattle.lk_sound.proofs.QueryValues.{CallsFit}
use Rattle.lk_sound.proofs.Retyped.{retyped_change, retyped_change_nodes}
use Rattle.lk_sound.proofs.TableRows.{base_of_fits, table_found}
use Rattle.lk_sound.proofs.TextBlocks.{insides_blocks}
use Rattle.lk_sound.proofs.UpdatedRows.{base_itself, no_rows}
use Rattle.lk_sound.specs.Instances.{Instances, AreClosed, IsFine, IsFlatPart}
use Rattle.lk_sound.specs.Law.{AreBoundAndApart}
use Rattle.lk_sound.specs.Nodes.{TypedNode, parts_of as parts_in, change_nodes, each_nodes, nodes_of}
use Rattle.lk_sound.specs.Points.{AreBlocksOf, AreLocals}
use Rattle.lk_sound.specs.Tables.{AreTables, table_at}
use Rattle.lk_sound.specs.Values.{Fits}
use Rattle.lk_types.proofs.Members.{each_in, each_front, each_back, found_in}
use Rattle.lk_types.proofs.Parts.{same_some, mapped}
use Rattle.lk_types.specs.Each.{Each}
use Rattle.lk_types.specs.Rows as rows
use Rattle.lk_types.specs.Rows.{Label, EffectSet, no_effects}
use Rattle.lk_types.specs.declared.ground.Ground.{Ground}
use Rattle.lk_types.specs.declared.ground.Ground.TheVariants as known
use Rattle.lk_typing.specs.Heads.{Head, head}
use Rattle.lk_typing.specs.Names.{Named, Entry as FunctionEntry}
use Rattle.lk_typing.specs.Types.{base, record_of, labelled}
use Rattle.lk_typing.specs.Typing.{HasType, HaveTypes, IsChange, HasField, label_of, expr_of, labels_of, plain, lambda, var, switch, switch_open, for_list, for_table, query, update, delete, none, more, changed}
use Rattle.lk_queries.specs.Changes.{Calculates, ChangesLaw, IsCalculated, IsChangeOf, IsSet, IsSetTo, IsStill, in_row}
use Rattle.lk_queries.specs.Law.{AtMostScan, Ends, EndsWith, IsListed, IsListing, Reads}
use Rattle.lk_queries.proofs.Agreeing.{CallsAgree, NamesAgree, agree_bound, calls_agree, given_agrees}
use Rattle.lk_queries.proofs.Giving.{called_right, value_right}
use Rattle.lk_queries.proofs.Kept.{IsTaken, taken_of}
use Rattle.lk_queries.proofs.Operating.{CallsRight}

-- ---- what takes no answer

module _ (p : Program) (tables : Tables) where
  nothing_read : (entries : List Entry) (left later : List (List Row)) → Each (IsListed p tables) entries → later ≡ answers_in (events_of entries) ++ (left ++ later) → entries ≡ []
  nothing_read [] left later listed is = refl
  nothing_read (entry ∷ entries) left later listed is = by_event entry.event listed.0.0 is
    where
      by_event : (event : Event) → IsListing p tables event → later ≡ answers_in (event ∷ events_of entries) ++ (left ++ later) → entry ∷ entries ≡ []
      by_event (Read e) listing is =
          let many : length later ≡ length (e.answer ∷ (answers_in (events_of entries) ++ (left ++ later))) = ap length is in
          absurd (omega (arith, many, length-append (answers_in (events_of entries)) (left ++ later), length-append left later))
      by_event (Print bytes) never is = absurd never
      by_event Enter never is = absurd never
      by_event Leave never is = absurd never
      by_event (Write e) never is = absurd never

  still : (r s : Run) (left : List (List Row)) → Reads p tables r s → s.answers ≡ left ++ r.answers → IsStill r s
  still r s left reads is =
      let nothing : reads.more ≡ [] = nothing_read reads.more left r.answers reads.listed (reads.taken ∙ ap (λ xs. answers_in (events_of reads.more) ++ xs) is) in
      record {
        log = reads.log ∙ ap (λ entries. r.log ++ entries) nothing ∙ append-nil r.log;
        answers = sym (reads.taken ∙ ap (λ entries. answers_in (events_of entries) ++ s.answers) nothing);
        returns = reads.returns;
      }

  calculates : (v : Value) (f : Run → Out Value) → Ends p tables false Value v f → Calculates v f
  calculates v f one = record { fuel = one.fuel; comes = λ r. by_out r (f r) (one.ends r r.answers (ap (λ xs. xs ++ r.answers) (sym (one.silent refl)))) }
    where
      by_out : (r : Run) (out : Out Value) → EndsWith p tables Value v one.fuel r.answers r out → IsCalculated v one.fuel r out
      by_out r (Goes w s) (same, used, left, reads) = (same, used, still r s [] reads left)
      by_out r (Stops Spent s) (less, (left, is), reads) = (less, still r s left reads is)
      by_out r (Stops (Trapped trap) s) never = never
      by_out r (Stops (Waiting site args) s) never = never
      by_out r (Stops (Stuck at) s) never = never
      by_out r (Stops (Asked callee args) s) never = never

-- ---- truth values and bases

truth_shown : (b : Bool) → is_true (bool_in (truth b)) ≡ b
truth_shown true = let shown : bool_in (truth true) ≡ Some true = simp (value.outs-Base) in ap is_true shown
truth_shown false = let shown : bool_in (truth false) ≡ Some false = simp (value.outs-Base) in ap is_true shown

truth_is : (p : Program) (i : Instances) (v : Value) → Fits p i v known.Bool → v ≡ truth (is_true (bool_in v))
truth_is p i v fits =
    let one = base_of_fits p i kind.Bool v fits in
    by_base one.base one.is one.of_kind
  where
    by_base : (b : Base) → v ≡ value.Base b → is_of_kind kind.Bool b ≡ true → v ≡ truth (is_true (bool_in v))
    by_base (held.Bool b) is of_kind = is ∙ ap truth (sym (ap (λ w. is_true (bool_in w)) is ∙ truth_shown b))
    by_base (held.Int n) is of_kind = absurd cc
    by_base (held.Text bytes) is of_kind = absurd cc

-- ---- what stands in a change

module _ (p : Program) (apart : AreBoundAndApart p) (i : Instances) (closed : AreClosed p i) (functions : Named (FunctionEntry Ground)) where
  abbrev empty : Tables
  empty = λ name. []

  abbrev many : ℕ
  many = length (functions_of p)

  abbrev calls : List ℕ → List Value → Value
  calls = called p empty many

  abbrev AreNodes : List TypedNode → Type 0
  AreNodes = AreQueryNodes p i.helpers many

  rows_fit : AreTables p empty
  rows_fit = no_rows (table_defs p)

  only_none : AtMostScan no_effects
  only_none e on = absurd cc

  -- It gives the same under names outside and inside, and under those inside it is evaluated to that, which fits.
  record IsGivenIn (inner outer : Names) (t : Ground) (e : Expr) : Type 0 where
    same : gives p empty e outer ≡ gives p empty e inner
    comes : Calculates (gives p empty e inner) (eval (source p) (under inner e) Server)
    fits : Fits p i (gives p empty e inner) t

  given_in : {locals : Named Ground} {e : Expr} {t : Ground} {inside : List Ground} (d : HasType functions (tables_of p) locals no_effects e t inside) → AreNodes (nodes_of true d) → AreBlocksOf p e
      → (inner outer : Names) → AreLocals p i locals inner → NamesAgree locals outer inner → IsGivenIn inner outer t e
  given_in {e = e} d nodes blocks inner outer fit agree =
      let enough : CallsFit p i calls many = called_fits p i apart.bound closed empty rows_fit many in
      let right : CallsRight p empty i calls many = called_right p i apart.bound apart.blocks closed empty rows_fit many (omega arith) in
      let alike : CallsAgree p i calls calls many = calls_agree p i closed empty many many many (omega arith) (omega arith) in
      record {
        same = given_agrees p i empty calls calls many alike functions true d nodes outer inner agree;
        comes = calculates p empty (gives p empty e inner) _ (value_right p i apart.blocks closed empty rows_fit calls many enough right alike functions true d only_none nodes blocks inner fit);
        fits = value_fits p i closed empty rows_fit calls many enough functions true d refl refl nodes inner fit;
      }

  module _ (change : ChangeExpr) where
    abbrev sets : List PartExpr
    sets = (out-ChangeExpr change).sets

    -- under names and a row for the name of the change
    abbrev with_row : Row → Names → Names
    with_row row names = bind (out-ChangeExpr change).name.text (row_value row) names

    -- what a part is set to has the type of its column
    record IsSetIn (type : rows.Row) (inner outer : Names) (part : PartExpr) : Type 0 where
      t : Ground
      has : HasField (record_of type) part.label.text t
      given : IsGivenIn inner outer t part.expr

    sets_in : (type : rows.Row) {locals : Named Ground} (parts : List PartExpr) (ts rest : List Ground) (d : HaveTypes functions (tables_of p) locals no_effects (exprs_of parts) ts rest) → AreNodes (each_nodes true d) → Each (AreBlocksOf p) (exprs_of parts)
        → (fields : Named Ground) (left : List Ground) → labelled (labels_of parts) ts ≡ Some (fields, left) → Each (λ (set : Label × Ground). HasField (record_of type) set.0 set.1) fields
        → (inner outer : Names) → AreLocals p i locals inner → NamesAgree locals outer inner → Each (IsSetIn type inner outer) parts
    unfolding nodes_of
    sets_in type [] ts rest d nodes blocks fields left is has inner outer fit agree = tt
    sets_in type (part ∷ parts) _ _ (more {t = u} {ts = us} inside rest first others) nodes blocks fields left is has inner outer fit agree =
        let found : (x : Named Ground × List Ground) × (labelled (labels_of parts) us ≡ Some x) × ((fields, left) ≡ ((part.label.text, u) ∷ x.0, x.1)) =
        mapped (λ (x : Named Ground × List Ground). ((part.label.text, u) ∷ x.0, x.1)) (labelled (labels_of parts) us) (fields, left) is in
        let each : Each (λ (set : Label × Ground). HasField (record_of type) set.0 set.1) ((part.label.text, u) ∷ found.0.0) =
        subst (λ (x : Named Ground × List Ground). Each (λ (set : Label × Ground). HasField (record_of type) set.0 set.1) x.0) found.2 has in (
          record { t = u; has = each.0; given = given_in first (each_front (IsQueryNode p i.helpers many) (nodes_of true first) (each_nodes true others) nodes) blocks.0 inner outer fit agree },
          sets_in type parts us rest others (each_back (IsQueryNode p i.helpers many) (nodes_of true first) (each_nodes true others) nodes) blocks.1 found.0.0 found.0.1 found.1 each.1 inner outer fit agree,
        )

    -- ---- one row

    abbrev set_value : Option PartExpr → (PartExpr → Base) → Base → Base
    set_value None value old = old
    set_value (Some part) value old = value part

    -- the cell that the definition makes
    abbrev set_cell : Names → Cell → Cell
    set_cell outer cell = record { label = cell.label; value = set_value (find (sets_label cell.label) sets) (λ part. unwrap_or (base_in (gives p empty part.expr outer)) cell.value) cell.value }

    module _ (names others : Names) (row : Row) (type : rows.Row) (bases : (l : Label) (t : Ground) → HasField (record_of type) l t → is_base t ≡ true) (all : Each (IsSetIn type (with_row row names) (with_row row others)) sets) where
      cell_set : (cell : Cell) → IsSet p change names row cell (set_cell (with_row row others) cell)
      cell_set cell = by_part (find (sets_label cell.label) sets) refl
        where
          by_part : (o : Option PartExpr) → find (sets_label cell.label) sets ≡ o
              → IsSetTo p change names row o cell (record { label = cell.label; value = set_value o (λ part. unwrap_or (base_in (gives p empty part.expr (with_row row others))) cell.value) cell.value })
          by_part None missing = refl
          by_part (Some part) there =
              let set : IsSetIn type (with_row row names) (with_row row others) part = each_in (IsSetIn type (with_row row names) (with_row row others)) sets part (found_in (sets_label cell.label) sets part there).0 all in
              let its : (k : BaseKind) × (set.t ≡ base k) = base_is set.t (bases part.label.text set.t set.has) in
              let one = base_of_fits p i its.0 (gives p empty part.expr (with_row row names)) (subst (Fits p i (gives p empty part.expr (with_row row names))) its.1 set.given.fits) in
              let shown : base_in (gives p empty part.expr (with_row row others)) ≡ Some one.base = ap base_in (set.given.same ∙ one.is) ∙ base_itself one.base in
              (refl, subst (λ v. Calculates v (in_row p change names row part.expr)) (one.is ∙ ap value.Base (sym (ap (λ o. unwrap_or o cell.value) shown))) set.given.comes)

      cells_set : (cells : List Cell) → Both (IsSet p change names row) cells (map (set_cell (with_row row others)) cells)
      cells_set [] = tt
      cells_set (cell ∷ cells) = (cell_set cell, cells_set cells)

      row_set : is_met p others change row ≡ true → Both (IsSet p change names row) row.cells (updated p others change row).cells
      row_set met = subst (λ b. Both (IsSet p change names row) row.cells (if b then record { cells = map (set_cell (with_row row others)) row.cells } else row).cells) (sym met) (cells_set row.cells)

    -- what the change says of a row, by its evaluation under names inside and by the definition under those outside
    record IsMeant (names others : Names) (row : Row) : Type 0 where
      tests : Calculates (truth (is_met p others change row)) (in_row p change names row (out-ChangeExpr change).cond)
      sets_it : is_met p others change row ≡ true → Both (IsSet p change names row) row.cells (updated p others change row).cells

    meant : (locals : Named Ground) (inside : List Ground) (d : IsChange functions (tables_of p) locals change inside) → Each (IsFlatPart i.helpers) (parts_in (change_nodes d)) → Each (AreBlocksOf p) (inside_change change)
        → (names others : Names) → AreLocals p i locals names → NamesAgree locals others names
        → (def : TableDef) → table_at p (out-ChangeExpr change).table.text ≡ Some def → (row : Row) → row_fits def row ≡ true → IsMeant names others row
    unfolding nodes_of
    meant locals _ (changed type fields ts cond rest has holds values named have) flat blocks names others fit agree def at row fits =
        let table = table_found p i (out-ChangeExpr change).table.text type has in
        let same : table.0 ≡ def = same_some (sym table.1 ∙ at) in
        let row_is : Fits p i (row_value row) (record_of type) = table.2 row (subst (λ d. row_fits d row ≡ true) (sym same) fits) in
        let nodes : AreNodes (nodes_of true holds ++ each_nodes true values) = all_early p i closed (nodes_of true holds ++ each_nodes true values) flat in
        let inner : AreLocals p i (((out-ChangeExpr change).name.text, record_of type) ∷ locals) (with_row row names) = bound_one p i (out-ChangeExpr change).name.text (row_value row) (record_of type) locals names row_is fit in
        let agreed : NamesAgree (((out-ChangeExpr change).name.text, record_of type) ∷ locals) (with_row row others) (with_row row names) =
        agree_bound (out-ChangeExpr change).name.text (row_value row) (row_value row) (record_of type) locals others names refl agree in
        let test : IsGivenIn (with_row row names) (with_row row others) known.Bool (out-ChangeExpr change).cond =
        given_in holds (each_front (IsQueryNode p i.helpers many) (nodes_of true holds) (each_nodes true values) nodes) blocks.0 (with_row row names) (with_row row others) inner agreed in
        record {
          tests = subst (λ v. Calculates v (in_row p change names row (out-ChangeExpr change).cond))
              (truth_is p i (gives p empty (out-ChangeExpr change).cond (with_row row names)) test.fits ∙ ap (λ v. truth (is_true (bool_in v))) (sym test.same)) test.comes;
          sets_it = row_set names others row type (has_table p i (out-ChangeExpr change).table.text type has).bases
              (sets_in type (out-ChangeExpr change).sets ts rest values (each_back (IsQueryNode p i.helpers many) (nodes_of true holds) (each_nodes true values) nodes) blocks.1 fields [] named have (with_row row names) (with_row row others) inner agreed);
        }

-- ---- points

-- the change of an update or a deletion, typed and flat
record IsTypedChange (p : Program) (i : Instances) (functions : Named (FunctionEntry Ground)) (locals : Named Ground) (change : ChangeExpr) : Type 0 where
  inside : List Ground
  typed : IsChange functions (tables_of p) locals change inside
  flat : Each (IsFlatPart i.helpers) (parts_in (change_nodes typed))

no_change : (l : Layer) (h : Head) (change : ChangeExpr) → head label_of expr_of l ≡ Some h → IsChangeOf l change → ⊥
no_change (Node-F.Update other) h change its is = none-some h its
no_change (Node-F.Delete other) h change its is = none-some h its
no_change other h change its is = is

module _ (p : Program) (i : Instances) (functions : Named (FunctionEntry Ground)) where
  typed_change : (locals : Named Ground) (effects : EffectSet) (e : Expr) (t : Ground) (inside : List Ground) (typed : HasType functions (tables_of p) locals effects e t inside)
      → Each (IsFine i) (nodes_of false typed) → (change : ChangeExpr) → IsChangeOf (layer e) change → IsTypedChange p i functions locals change
  unfolding nodes_of
  typed_change locals effects e _ _ (update other its changes writes) (node, fine) change is =
      subst (IsTypedChange p i functions locals) (subst (λ l. IsChangeOf l change) its is) (record { inside = _; typed = changes; flat = (node.flat _ refl).parts })
  typed_change locals effects e _ _ (delete other its changes writes) (node, fine) change is =
      subst (IsTypedChange p i functions locals) (subst (λ l. IsChangeOf l change) its is) (record { inside = _; typed = changes; flat = (node.flat _ refl).parts })
  typed_change locals effects e t inside (plain h ts its have by) fine change is = absurd (no_change (layer e) h change its is)
  typed_change locals effects e _ _ (lambda l params own b its named moves typed local) fine change is = absurd (subst (λ l. IsChangeOf l change) its is)
  typed_change locals effects e _ _ (var x d rest a first last its one next) fine change is = absurd (subst (λ l. IsChangeOf l change) its is)
  typed_change locals effects e _ _ (switch d cases row tags ts first bodies its one have same made local) fine change is = absurd (subst (λ l. IsChangeOf l change) its is)
  typed_change locals effects e _ _ (switch_open d cases last other row tags ts first bodies inner its one have same next made local) fine change is = absurd (subst (λ l. IsChangeOf l change) its is)
  typed_change locals effects e _ _ (for_list x d inner a b first last its one next) fine change is = absurd (subst (λ l. IsChangeOf l change) its is)
  typed_change locals effects e _ _ (for_table x d inner a b first last its one next) fine change is = absurd (subst (λ l. IsChangeOf l change) its is)
  typed_change locals effects e _ _ (query keys body a inner its one sorted scans own) fine change is = absurd (subst (λ l. IsChangeOf l change) its is)

-- what stands in it, and what it captures
inside_of : (l : Layer) (change : ChangeExpr) → IsChangeOf l change → (insides l ≡ inside_change change) × (captured_by l ≡ captured_change change)
inside_of (Node-F.Update other) change is = (ap inside_change is, ap captured_change is)
inside_of (Node-F.Delete other) change is = (ap inside_change is, ap captured_change is)
inside_of other change is = absurd is

pub changes_law : ChangesLaw
changes_law p apart i closed effects t point point_is change is =
    let one : IsTypedChange p i point_is.functions point_is.locals change = typed_change p i point_is.functions point_is.locals effects point.expr t point_is.inside point_is.typed point_is.fine change is in
    let words : List Label = free_change change scope.no_names in
    let taken : IsTaken p i point_is.locals point.names words = taken_of p i point_is.locals point.names words point_is.fit (change_known one.typed scope.no_names) in
    let again : IsChange point_is.functions (tables_of p) taken.kept change one.inside = retyped_change one.typed taken.kept taken.same in
    let flat : Each (IsFlatPart i.helpers) (parts_in (change_nodes again)) = subst (λ nodes. Each (IsFlatPart i.helpers) (parts_in nodes)) (sym (retyped_change_nodes one.typed taken.kept taken.same)) one.flat in
    let its = inside_of (layer point.expr) change is in
    let blocks : Each (AreBlocksOf p) (inside_change change) = subst (Each (AreBlocksOf p)) its.0 (insides_blocks p point.expr point_is.blocks) in
    let outer : Names = bind_each no_names (captured_change change) taken.values in
    let names_are : outer ≡ names_in point.expr taken.values = sym (ap (λ words. bind_each no_names words taken.values) its.1) in
    let all : (def : TableDef) → table_at p (out-ChangeExpr change).table.text ≡ Some def → (row : Row) → row_fits def row ≡ true → IsMeant p apart i closed point_is.functions change point.names (names_in point.expr taken.values) row = λ def at row fits.
    subst (λ others. IsMeant p apart i closed point_is.functions change point.names others row) names_are (meant p apart i closed point_is.functions change taken.kept one.inside again flat blocks point.names outer taken.fit taken.again def at row fits) in
    record {
      args = taken.values;
      captured = taken.found;
      tests = λ def at row fits. (all def at row fits).tests;
      sets = λ def at row fits. (all def at row fits).sets_it;
    }
