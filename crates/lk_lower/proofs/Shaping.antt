-- Kinds of nodes: what code has found of a node is what the definition asks for.
use Rattle.std.proofs.Common.{◌≡◌, refl, sym, inl, ap, subst, ◌∙◌, ℕ, ◌+◌, List, [], ◌∷◌, ◌++◌, append-nil, append_assoc, map, drop, length, length-append, set, slice_get, Option, Some, None, IfSome, option_map}
use Rattle.std.proofs.Math.ListN.{length-set}
use Rattle.std.proofs.lemmas.Option.{none-some, same_Some}
use Rattle.lk_ast.specs.Layers.{Layer}
use Rattle.lk_ast.specs.declared.expression.Case.{Case}
use Rattle.lk_ast.specs.declared.expression.ChangeExpr.{ChangeExpr, out-ChangeExpr}
use Rattle.lk_ast.specs.declared.expression.Expr.{Expr}
use Rattle.lk_ast.specs.declared.expression.LastCase.{LastCase}
use Rattle.lk_ast.specs.declared.expression.Node.TheOpen.{Node-F}
use Rattle.lk_ast.specs.declared.expression.SortKey.{SortKey}
use Rattle.lk_ast.specs.declared.place.Span.{Span}
use Rattle.lk_ast.specs.declared.place.Word.{Word}
use Rattle.lk_bodies.specs.Uses.{change_uses, query_uses}
use Rattle.lk_evaluation.specs.Laws.{Both, Maybe}
use Rattle.lk_ground.specs.Sites.{uses_in}
use Rattle.lk_index.specs.Free.{captured_change, captured_query}
use Rattle.lk_ir.specs.declared.nodes.Block.{Block}
use Rattle.lk_ir.specs.declared.nodes.Block.TheVariants as block
use Rattle.lk_ir.specs.declared.nodes.CaseForm.{CaseForm}
use Rattle.lk_ir.specs.declared.nodes.Form.{Form}
use Rattle.lk_ir.specs.declared.nodes.Forms.{Forms}
use Rattle.lk_ir.specs.declared.nodes.Kept.{Kept}
use Rattle.lk_ir.specs.declared.nodes.Kind.{Kind}
use Rattle.lk_ir.specs.declared.nodes.Kind.TheVariants as kind
use Rattle.lk_ir.specs.declared.nodes.LabelForm.{LabelForm}
use Rattle.lk_ir.specs.declared.nodes.Op.{Op}
use Rattle.lk_ir.specs.declared.nodes.Touched.{Touched}
use Rattle.lk_lower.proofs.Growing.{begins_itself, begins_then, still_there, there}
use Rattle.lk_lower.specs.Children.{nodes_of, uses_of}
use Rattle.lk_lower.specs.Growing.{Begins, Grows, Has, State}
use Rattle.lk_lower.specs.Lowering as low
use Rattle.lk_lower.specs.Lowering.{IsBlockLabel, IsCase, IsLocal, IsTouched, AreCaptured, Pending, Shell, behind_block, change_exprs, last_name, nodes_in, op_of, text_of}
use Rattle.lk_lower.specs.Steps.{AreCases, AreNamed, Captures, IsChange, IsMaybeNamed, IsNamed, IsShaped, IsSwitch, Learns, block_label, case_seen, form_seen, one_further, past, plain_kind, touched_by, with_form, with_label, with_node, with_table, with_types}
use Rattle.lk_lower.specs.Walked.{state_of}
use Rattle.lk_lower.specs.declared.walk.Walk.{Walk}
use Rattle.lk_types.proofs.Members.{one_in_back, one_in_front}
use Rattle.lk_types.specs.Each.{OneOf}
use Rattle.lk_types.specs.declared.ground.Ground.{Ground}

-- ---- lists

head_is : {A : Type 0} (xs : List A) (x : A) → slice_get xs 0 ≡ Some x → xs ≡ x ∷ drop 1 xs
head_is [] x is = absurd (none-some x is)
head_is (y ∷ xs) x is = ap (λ z. z ∷ xs) (same_Some _ _ is)

-- what equal lists are made of, one by one
both_of_maps : {A B C : Type 0} (f : A → C) (g : B → C) (xs : List A) (ys : List B) → map f xs ≡ map g ys → Both (λ x y. f x ≡ g y) xs ys
both_of_maps f g [] [] is = tt
both_of_maps f g (x ∷ xs) (y ∷ ys) is = (same_Some _ _ (ap (λ zs. slice_get zs 0) is), both_of_maps f g xs ys (ap (drop 1) is))
both_of_maps f g [] (y ∷ ys) is = absurd (none-some (g y) (ap (λ zs. slice_get zs 0) is))
both_of_maps f g (x ∷ xs) [] is = absurd (none-some (f x) (sym (ap (λ zs. slice_get zs 0) is)))

-- ---- states

-- a state with the same nodes and names
pub stays : (s t : State) → t.locals ≡ s.locals → t.nodes ≡ s.nodes → Begins s.labels t.labels → Begins s.types t.types → Begins s.tables t.tables → Grows s t
stays s t locals nodes labels types tables = record { locals = locals; own = []; is = nodes ∙ sym (append-nil s.nodes); labels = labels; types = types; tables = tables }

pub grows_past : (types calls : ℕ) (s : State) → Grows s (past types calls s)
grows_past types calls s = stays s (past types calls s) refl refl (begins_itself s.labels) (begins_itself s.types) (begins_itself s.tables)

pub grows_types : (types : List Ground) (s : State) → Grows s (with_types types s)
grows_types types s = stays s (with_types types s) refl refl (begins_itself s.labels) (types, refl) (begins_itself s.tables)

pub learns_itself : (s : State) → Learns s s
learns_itself s = ([], ap (λ (types : List Ground). record s { types = types }) (sym (append-nil s.types)))

pub learns_then : (a b c : State) → Learns a b → Learns b c → Learns a c
learns_then a b c one two = (one.0 ++ two.0, two.1 ∙ ap (with_types two.0) one.1 ∙ ap (λ (types : List Ground). record a { types = types }) (append_assoc a.types one.0 two.0))

pub learns_grows : (s t : State) → Learns s t → Grows s t
learns_grows s t learns = subst (Grows s) (sym learns.1) (grows_types learns.0 s)

-- ---- names

pub local : (f : Forms) (locals : List (List ℕ)) (k : ℕ) (x : List ℕ) → f.locals ≡ locals → IsNamed locals k x → IsLocal f k x
local f locals k x same is = ap (λ (names : List (List ℕ)). slice_get names k) same ∙ is

pub locals_are : (f : Forms) (locals : List (List ℕ)) (ks : List ℕ) (xs : List (List ℕ)) → f.locals ≡ locals → AreNamed locals ks xs → Both (IsLocal f) ks xs
locals_are f locals ks xs same are = both_of_maps (slice_get f.locals) Some ks xs (ap (λ (names : List (List ℕ)). map (slice_get names) ks) same ∙ are)

pub maybe_local : (f : Forms) (locals : List (List ℕ)) (k : Option ℕ) (x : Option (List ℕ)) → f.locals ≡ locals → IsMaybeNamed locals k x → Maybe (IsLocal f) k x
maybe_local f locals None None same is = tt
maybe_local f locals (Some k) (Some x) same is = ap (λ (names : List (List ℕ)). slice_get names k) same ∙ same_Some _ _ is
maybe_local f locals None (Some x) same is = absurd (none-some (Some x) is)
maybe_local f locals (Some k) None same is = absurd (none-some (slice_get locals k) (sym is))

cases_are : (f : Forms) (locals : List (List ℕ)) (cases : List Case) (forms : List CaseForm) → f.locals ≡ locals → AreCases locals cases forms → Both (IsCase f) cases forms
cases_are f locals cases forms same are = case_by_case cases forms (both_of_maps case_seen (form_seen locals) cases forms (sym are))
  where
    case_by_case : (cases : List Case) (forms : List CaseForm) → Both (λ case form. case_seen case ≡ form_seen locals form) cases forms → Both (IsCase f) cases forms
    case_by_case [] [] all = tt
    case_by_case (case ∷ cases) (form ∷ forms) all = (record { tag = sym (ap (λ (seen : List ℕ × Option (Option (List ℕ))). seen.0) all.0); name = maybe_local f locals form.name (option_map text_of case.name) same (sym (ap (λ (seen : List ℕ × Option (Option (List ℕ))). seen.1) all.0)) }, case_by_case cases forms all.1)
    case_by_case [] (form ∷ forms) all = absurd all
    case_by_case (case ∷ cases) [] all = absurd all

-- ---- nodes that take their type, and perhaps a call

module _ (owner n ty : ℕ) (s t : State) where
  pub shaped_past : (l : Layer) (k : Kind) (types calls : ℕ) → t ≡ past types calls s → ((f : Forms) (at : Span) → f.locals ≡ s.locals → Shell f owner n ty l at s.pending k (one_further (past types calls s).pending)) → IsShaped owner n ty l s k t
  shaped_past l k types calls step found = subst (IsShaped owner n ty l s k) (sym step) (record {
    grows = grows_past types calls s;
    nodes = refl;
    next = refl;
    shell = λ f at has. found f at has.locals;
  })

  pub operation_shaped : (l : Layer) (o : Op) → op_of l ≡ Some o → t ≡ past 1 0 s → IsShaped owner n ty l s (kind.Op o) t
  operation_shaped l o is step = shaped_past l (kind.Op o) 1 0 step (λ f at same. low.operation is)

  plain_shell : (f : Forms) (at : Span) (p : Pending) (l : Layer) → IfSome (plain_kind l) (λ k. Shell f owner n ty l at p k (low.behind_type p))
  plain_shell f at p (Node-F.Apply e args) = low.apply
  plain_shell f at p (Node-F.Seq e rest) = low.then_next
  plain_shell f at p (Node-F.If c d e) = low.choose_if
  plain_shell f at p (Node-F.And a b) = low.choose_and
  plain_shell f at p (Node-F.Or a b) = low.choose_or
  plain_shell f at p (Node-F.Where c e) = low.choose_where
  plain_shell f at p (Node-F.Print e) = low.print
  plain_shell f at p other = tt

  pub plain_shaped : (l : Layer) (k : Kind) → plain_kind l ≡ Some k → t ≡ past 1 0 s → IsShaped owner n ty l s k t
  plain_shaped l k is step = shaped_past l k 1 0 step (λ f at same. subst (λ r. IfSome r (λ k. Shell f owner n ty l at s.pending k (low.behind_type s.pending))) is (plain_shell f at s.pending l))

  pub name_shaped : (x : List ℕ) (k : ℕ) → IsNamed s.locals k x → t ≡ past 1 0 s → IsShaped owner n ty (Node-F.Name x) s (kind.Name k) t
  name_shaped x k is step = shaped_past (Node-F.Name x) (kind.Name k) 1 0 step (λ f at same. low.name (local f s.locals k x same is))

  pub bind_shaped : (x : Word) (e rest : Expr) (k : ℕ) → IsNamed s.locals k x.text → t ≡ past 1 0 s → IsShaped owner n ty (Node-F.Var x e rest) s (kind.Bind k) t
  bind_shaped x e rest k is step = shaped_past (Node-F.Var x e rest) (kind.Bind k) 1 0 step (λ f at same. low.bind (local f s.locals k x.text same is))

  pub list_shaped : (x : Word) (e body : Expr) (k : ℕ) → IsNamed s.locals k x.text → t ≡ past 1 0 s → IsShaped owner n ty (Node-F.ForList x e body) s (kind.For k) t
  list_shaped x e body k is step = shaped_past (Node-F.ForList x e body) (kind.For k) 1 0 step (λ f at same. low.for_list (local f s.locals k x.text same is))

  pub rows_shaped : (x : Word) (e body : Expr) (k : ℕ) → IsNamed s.locals k x.text → t ≡ past 1 0 s → IsShaped owner n ty (Node-F.ForTable x e body) s (kind.For k) t
  rows_shaped x e body k is step = shaped_past (Node-F.ForTable x e body) (kind.For k) 1 0 step (λ f at same. low.for_table (local f s.locals k x.text same is))

  pub function_shaped : (h : List ℕ) (i : ℕ) → slice_get s.pending.calls 0 ≡ Some i → t ≡ past 1 1 s → IsShaped owner n ty (Node-F.Function h) s (kind.Function i) t
  function_shaped h i call step = shaped_past (Node-F.Function h) (kind.Function i) 1 1 step (λ f at same. low.function (head_is s.pending.calls i call))

  pub call_shaped : (h : Word) (args : List Expr) (i : ℕ) → slice_get s.pending.calls 0 ≡ Some i → t ≡ past 1 1 s → IsShaped owner n ty (Node-F.Call h args) s (kind.Call i) t
  call_shaped h args i call step = shaped_past (Node-F.Call h args) (kind.Call i) 1 1 step (λ f at same. low.call (head_is s.pending.calls i call))

  pub switch_shaped : (e : Expr) (cases : List Case) (last : Option LastCase) (k : Kind) → IsSwitch s.locals cases last k → t ≡ past 1 0 s → IsShaped owner n ty (Node-F.Switch e cases last) s k t
  switch_shaped e cases last k is step =
      subst (λ k. IsShaped owner n ty (Node-F.Switch e cases last) s k t) (sym is.is)
      (shaped_past (Node-F.Switch e cases last) (kind.Switch is.forms is.name) 1 0 step (λ f at same. low.switch (cases_are f s.locals cases is.forms same is.cases_are) (maybe_local f s.locals is.name _ same is.last_is)))

-- ---- nodes with a label

-- the label of what reads or changes tables is there
pub block_labelled : (owner n ty : ℕ) (s : State) (f : Forms) → s.pending.label ≡ length s.labels → Begins (s.labels ++ block_label owner n ty ∷ []) f.labels → IsBlockLabel f owner n ty s.pending.label
block_labelled owner n ty s f long begins = record {
  form = block_label owner n ty;
  is = ap (slice_get f.labels) long ∙ still_there (s.labels ++ block_label owner n ty ∷ []) f.labels (length s.labels) (block_label owner n ty) begins (there s.labels [] (block_label owner n ty));
  owner_is = refl;
  ty_is = refl;
  node_is = refl;
  body_is = refl;
}

-- what a label changes is there
pub touched_there : (f : Forms) (label : ℕ) (table : List ℕ) (tables : List Touched) → Begins (tables ++ record { label = label; table = table } ∷ []) f.tables → IsTouched f label table
touched_there f label table tables begins =
    let one : Touched = record { label = label; table = table } in
    subst (OneOf (λ touched. touched ≡ one)) (sym begins.1)
    (one_in_front _ (tables ++ one ∷ []) begins.0 (one_in_back _ tables (one ∷ []) (inl refl)))

module _ (owner n ty : ℕ) (s : State) (long : s.pending.label ≡ length s.labels) where
  pub read_shaped : (t : State) (w : Word) (label : ℕ) (kept : List Kept) → kept ≡ [] → label ≡ s.pending.label → t ≡ past 1 0 (with_label (block_label owner n ty) s) → IsShaped owner n ty (Node-F.Table w) s (kind.Reach block.TableRead label kept) t
  read_shaped t w label kept none is step =
      subst (λ kept. IsShaped owner n ty (Node-F.Table w) s (kind.Reach block.TableRead label kept) t) (sym none)
      (subst (IsShaped owner n ty (Node-F.Table w) s (kind.Reach block.TableRead label [])) (sym step)
      (subst (λ label. IsShaped owner n ty (Node-F.Table w) s (kind.Reach block.TableRead label []) (past 1 0 (with_label (block_label owner n ty) s))) (sym is)
      (record {
        grows = stays s (past 1 0 (with_label (block_label owner n ty) s)) refl refl (block_label owner n ty ∷ [], refl) (begins_itself s.types) (begins_itself s.tables);
        nodes = refl;
        next = refl;
        shell = λ f at has. low.table (block_labelled owner n ty s f long has.labels);
      })))

  pub insert_shaped : (t : State) (w : Word) (e : Expr) (label : ℕ) (kept : List Kept) → kept ≡ [] → label ≡ s.pending.label → t ≡ past 1 0 (with_label (block_label owner n ty) (with_table (touched_by w.text s) s)) → IsShaped owner n ty (Node-F.Insert w e) s (kind.Reach block.Insert label kept) t
  insert_shaped t w e label kept none is step =
      subst (λ kept. IsShaped owner n ty (Node-F.Insert w e) s (kind.Reach block.Insert label kept) t) (sym none)
      (subst (IsShaped owner n ty (Node-F.Insert w e) s (kind.Reach block.Insert label [])) (sym step)
      (subst (λ label. IsShaped owner n ty (Node-F.Insert w e) s (kind.Reach block.Insert label []) (past 1 0 (with_label (block_label owner n ty) (with_table (touched_by w.text s) s)))) (sym is)
      (record {
        grows = stays s (past 1 0 (with_label (block_label owner n ty) (with_table (touched_by w.text s) s))) refl refl (block_label owner n ty ∷ [], refl) (begins_itself s.types) (touched_by w.text s ∷ [], refl);
        nodes = refl;
        next = refl;
        shell = λ f at has. low.insert (block_labelled owner n ty s f long has.labels) (touched_there f s.pending.label w.text s.tables has.tables);
      })))

  -- where types were learnt first
  module _ (types : List Ground) where
    abbrev learnt : State
    learnt = with_types types s

    query_grows : (nodes uses : ℕ) → Grows s (past nodes uses (with_label (block_label owner n ty) learnt))
    query_grows nodes uses = stays s (past nodes uses (with_label (block_label owner n ty) learnt)) refl refl (block_label owner n ty ∷ [], refl) (types, refl) (begins_itself s.tables)

    -- what has the learnt types has them later
    has_learnt : (f : Forms) (tables : List Touched) (nodes uses : ℕ) → Begins s.tables tables → Has (record (past nodes uses (with_label (block_label owner n ty) learnt)) { tables = tables }) f → Has learnt f
    has_learnt f tables nodes uses begins has = record {
      locals = has.locals;
      labels = begins_then s.labels (s.labels ++ block_label owner n ty ∷ []) f.labels (block_label owner n ty ∷ [], refl) has.labels;
      types = has.types;
      tables = begins_then s.tables tables f.tables begins has.tables;
    }

    query_is : (keys : List SortKey) (e : Expr) (kept : List Kept) → Captures (captured_query e) (query_uses e (drop 1 s.pending.types)) learnt kept
        → IsShaped owner n ty (Node-F.Query keys e) s (kind.Reach block.Query s.pending.label kept) (past (1 + nodes_in e) (length (uses_in e)) (with_label (block_label owner n ty) learnt))
    query_is keys e kept captures = record {
      grows = query_grows (1 + nodes_in e) (length (uses_in e));
      nodes = refl;
      next = refl;
      shell = λ f at has. low.query (block_labelled owner n ty s f long has.labels) (captures.are f (has_learnt f s.tables (1 + nodes_in e) (length (uses_in e)) (begins_itself s.tables) has));
    }

    change_is : (b : Block) (rows : ChangeExpr) (kept : List Kept) → Captures (captured_change rows) (change_uses rows (drop 1 s.pending.types)) learnt kept
        → IsChange owner n ty b rows s (kind.Reach b s.pending.label kept) (past (1 + nodes_of (change_exprs rows)) (uses_of (change_exprs rows)) (with_label (block_label owner n ty) (with_table (touched_by (out-ChangeExpr rows).table.text learnt) learnt)))
    change_is b rows kept captures = record {
      kept = kept;
      is = refl;
      grows = stays s (past (1 + nodes_of (change_exprs rows)) (uses_of (change_exprs rows)) (with_label (block_label owner n ty) (with_table (touched_by (out-ChangeExpr rows).table.text learnt) learnt))) refl refl (block_label owner n ty ∷ [], refl) (types, refl) (touched_by (out-ChangeExpr rows).table.text learnt ∷ [], refl);
      nodes = refl;
      next = refl;
      pending = refl;
      captured_are = λ f has. captures.are f (has_learnt f (s.tables ++ touched_by (out-ChangeExpr rows).table.text learnt ∷ []) (1 + nodes_of (change_exprs rows)) (uses_of (change_exprs rows)) (touched_by (out-ChangeExpr rows).table.text learnt ∷ [], refl) has);
      labelled = λ f has. block_labelled owner n ty s f long has.labels;
      touched = λ f has. touched_there f s.pending.label (out-ChangeExpr rows).table.text s.tables has.tables;
    }

pub query_shaped : (owner n ty : ℕ) (s mid t : State) → s.pending.label ≡ length s.labels → (keys : List SortKey) (e : Expr) (kept : List Kept) (k : Kind) (nodes uses : ℕ) → Learns s mid
    → Captures (captured_query e) (query_uses e (drop 1 s.pending.types)) mid kept → nodes ≡ nodes_in e → uses ≡ length (uses_in e) → k ≡ kind.Reach block.Query mid.pending.label kept
    → t ≡ past (1 + nodes) uses (with_label (block_label owner n ty) mid) → IsShaped owner n ty (Node-F.Query keys e) s k t
query_shaped owner n ty s mid t long keys e kept k nodes uses learns captures nodes_are uses_are is step =
    subst (IsShaped owner n ty (Node-F.Query keys e) s k) (sym (step ∙ ap (λ m. past (1 + m) uses (with_label (block_label owner n ty) mid)) nodes_are ∙ ap (λ m. past (1 + nodes_in e) m (with_label (block_label owner n ty) mid)) uses_are ∙ ap (λ (mid : State). past (1 + nodes_in e) (length (uses_in e)) (with_label (block_label owner n ty) mid)) learns.1))
    (subst (λ k. IsShaped owner n ty (Node-F.Query keys e) s k (past (1 + nodes_in e) (length (uses_in e)) (with_label (block_label owner n ty) (with_types learns.0 s)))) (sym (is ∙ ap (λ (mid : State). kind.Reach block.Query mid.pending.label kept) learns.1))
    (query_is owner n ty s long learns.0 keys e kept (subst (λ (mid : State). Captures (captured_query e) (query_uses e (drop 1 s.pending.types)) mid kept) learns.1 captures)))

pub change_made : (owner n ty : ℕ) (s mid t : State) → s.pending.label ≡ length s.labels → (b : Block) (rows : ChangeExpr) (kept : List Kept) (k : Kind) (nodes uses : ℕ) → Learns s mid
    → Captures (captured_change rows) (change_uses rows (drop 1 s.pending.types)) mid kept → nodes ≡ nodes_of (change_exprs rows) → uses ≡ uses_of (change_exprs rows)
    → k ≡ kind.Reach b mid.pending.label kept → t ≡ past (1 + nodes) uses (with_label (block_label owner n ty) (with_table (touched_by (out-ChangeExpr rows).table.text mid) mid)) → IsChange owner n ty b rows s k t
change_made owner n ty s mid t long b rows kept k nodes uses learns captures nodes_are uses_are is step =
    let table = (out-ChangeExpr rows).table.text in
    let es = change_exprs rows in
    let labelled = with_label (block_label owner n ty) (with_table (touched_by table mid) mid) in
    subst (IsChange owner n ty b rows s k) (sym (step ∙ ap (λ m. past (1 + m) uses labelled) nodes_are ∙ ap (λ m. past (1 + nodes_of es) m labelled) uses_are ∙ ap (λ (mid : State). past (1 + nodes_of es) (uses_of es) (with_label (block_label owner n ty) (with_table (touched_by table mid) mid))) learns.1))
    (subst (λ k. IsChange owner n ty b rows s k (past (1 + nodes_of es) (uses_of es) (with_label (block_label owner n ty) (with_table (touched_by table (with_types learns.0 s)) (with_types learns.0 s))))) (sym (is ∙ ap (λ (mid : State). kind.Reach b mid.pending.label kept) learns.1))
    (change_is owner n ty s long learns.0 b rows kept (subst (λ (mid : State). Captures (captured_change rows) (change_uses rows (drop 1 s.pending.types)) mid kept) learns.1 captures)))

module _ (owner n ty : ℕ) (rows : ChangeExpr) (s t : State) (k : Kind) where
  pub update_shaped : IsChange owner n ty block.Update rows s k t → IsShaped owner n ty (Node-F.Update rows) s k t
  update_shaped is = subst (λ k. IsShaped owner n ty (Node-F.Update rows) s k t) (sym is.is) (record {
    grows = is.grows;
    nodes = is.nodes;
    next = is.next;
    shell = λ f at has. subst (Shell f owner n ty (Node-F.Update rows) at s.pending (kind.Reach block.Update s.pending.label is.kept)) (sym is.pending) (low.update (is.labelled f has) (is.captured_are f has) (is.touched f has));
  })

  pub delete_shaped : IsChange owner n ty block.Delete rows s k t → IsShaped owner n ty (Node-F.Delete rows) s k t
  delete_shaped is = subst (λ k. IsShaped owner n ty (Node-F.Delete rows) s k t) (sym is.is) (record {
    grows = is.grows;
    nodes = is.nodes;
    next = is.next;
    shell = λ f at has. subst (Shell f owner n ty (Node-F.Delete rows) at s.pending (kind.Reach block.Delete s.pending.label is.kept)) (sym is.pending) (low.delete (is.labelled f has) (is.captured_are f has) (is.touched f has));
  })

-- a state whose walk has one more label, perhaps one that changes a table, one more node, or another form of a node
pub label_pushed : (w : Walk) (labels : List LabelForm × List Touched) (form : LabelForm) → labels ≡ (w.labels.0 ++ form ∷ [], w.labels.1) → state_of (record w { labels = labels }) ≡ with_label form (state_of w)
label_pushed w labels form is =
    ap (λ (ls : List LabelForm × List Touched). state_of (record w { labels = ls })) is
    ∙ ap (λ (k : ℕ). record (with_label form (state_of w)) { pending = record (state_of w).pending { label = k } }) (length-append w.labels.0 (form ∷ []))

pub changing_pushed : (w : Walk) (labels : List LabelForm × List Touched) (form : LabelForm) (table : Touched) → labels ≡ (w.labels.0 ++ form ∷ [], w.labels.1 ++ table ∷ []) → state_of (record w { labels = labels }) ≡ with_label form (with_table table (state_of w))
changing_pushed w labels form table is =
    ap (λ (ls : List LabelForm × List Touched). state_of (record w { labels = ls })) is
    ∙ ap (λ (k : ℕ). record (with_label form (with_table table (state_of w))) { pending = record (state_of w).pending { label = k } }) (length-append w.labels.0 (form ∷ []))

pub node_pushed : (s : State) (nodes : List Form) (form : Form) → s.pending.next ≡ length s.nodes → nodes ≡ s.nodes ++ form ∷ [] → record s { nodes = nodes; pending = record s.pending { next = length nodes } } ≡ with_node form s
node_pushed s nodes form next is =
    ap (λ (ns : List Form). record s { nodes = ns; pending = record s.pending { next = length ns } }) is
    ∙ ap (λ (k : ℕ). record s { nodes = s.nodes ++ form ∷ []; pending = record s.pending { next = k } }) (length-append s.nodes (form ∷ []) ∙ ap (λ (k : ℕ). k + 1) (sym next))

pub form_filled : (s : State) (nodes : List Form) (n : ℕ) (form : Form) → s.pending.next ≡ length s.nodes → nodes ≡ set s.nodes n form → record s { nodes = nodes; pending = record s.pending { next = length nodes } } ≡ with_form s n form
form_filled s nodes n form next is =
    ap (λ (ns : List Form). record s { nodes = ns; pending = record s.pending { next = length ns } }) is
    ∙ ap (λ (k : ℕ). record s { nodes = set s.nodes n form; pending = record s.pending { next = k } }) (length-set s.nodes n form ∙ sym next)
