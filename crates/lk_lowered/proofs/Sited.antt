-- The tour of a ground program's sites goes beside its lowering: it finds what has a label, no body, and a node that reads tables or
-- changes rows that are there, and nothing else.
use Rattle.std.proofs.Common.{◌≡◌, inl, ⊎_elim, refl, sym, ap, subst, ◌∙◌, ℕ, ◌+◌, ◌≤◌, ◌<◌, Bool, true, false, List, [], ◌∷◌, ◌++◌, append-nil, flat_map, length, map, Option, Some, None, arith}
use Rattle.std.proofs.lemmas.Bool.{cases_lt}
use Rattle.std.proofs.lemmas.Option.{none-some, slice_get_within}
use Rattle.std.specs.Option.{option_and_then}
use Rattle.lk_ast.specs.Children.{exprs_of}
use Rattle.lk_ast.specs.Layers.{Layer, layer}
use Rattle.lk_ast.specs.declared.expression.Expr.{Expr}
use Rattle.lk_ast.specs.declared.expression.Node.TheOpen.{Node-F}
use Rattle.lk_ast.specs.declared.place.Loc.{Loc}
use Rattle.lk_ast.specs.declared.place.Span.{Span}
use Rattle.lk_ast.specs.declared.place.Word.{Word}
use Rattle.lk_bag.specs.Legal.{captured_by}
use Rattle.lk_code.specs.Tables.{node_of}
use Rattle.lk_evaluation.specs.Syntax.{parts_of}
use Rattle.lk_ground.proofs.Levels.{own_label}
use Rattle.lk_ground.specs.Language.{function_of}
use Rattle.lk_ground.specs.Sites.{labelled_in, uses_in}
use Rattle.lk_ground.specs.declared.program.GroundFun.{GroundFun}
use Rattle.lk_ground.specs.declared.program.GroundProgram.{GroundProgram}
use Rattle.lk_ir.specs.Tables.{body_at, body_of, form_at, label_at, names_of}
use Rattle.lk_ir.specs.declared.nodes.Block.{Block}
use Rattle.lk_ir.specs.declared.nodes.Block.TheVariants as block
use Rattle.lk_ir.specs.declared.nodes.Body.{Body}
use Rattle.lk_ir.specs.declared.nodes.Form.{Form}
use Rattle.lk_ir.specs.declared.nodes.Forms.{Forms}
use Rattle.lk_ir.specs.declared.nodes.Kept.{Kept}
use Rattle.lk_ir.specs.declared.nodes.Kind.{Kind}
use Rattle.lk_ir.specs.declared.nodes.Kind.TheVariants as kind
use Rattle.lk_ir.specs.declared.nodes.LabelForm.{LabelForm}
use Rattle.lk_ir.specs.declared.nodes.Op.{Op}
use Rattle.lk_lower.proofs.Counted.{all_counted, children_of, counted, more_none, same_last, takes}
use Rattle.lk_lower.specs.Lowering as low
use Rattle.lk_lower.specs.Lowering.{AreForms, AreFuns, AreLocals, AreLowered, IsBlockLabel, IsBodyLabel, IsLowered, Pending, Shell, op_of, tails_of}
use Rattle.lk_lowered.proofs.Inverted.{is_lambda, no_shell}
use Rattle.lk_lowered.proofs.Marks.{body_inside}
use Rattle.lk_lowered.proofs.Standing as standing
use Rattle.lk_lowered.proofs.Standing.{IsRest, all_rest, body_stands, children_inside, first_stands, first_there, others_rest, stands_back, stands_front, two_stand}
use Rattle.lk_lowered.proofs.Telling.{covered}
use Rattle.lk_lowered.proofs.TypedPrograms.{at_block}
use Rattle.lk_lowered.specs.Law.{AreDeclared, IsReached, IsSiteAt, SitedLaw, block_of, has_site, is_reach}
use Rattle.lk_lowered.specs.Meeting.{IsInside, Ready, Stands}
use Rattle.lk_sites.proofs.ClosedSites.{none_in}
use Rattle.lk_sites.proofs.Touring.{by_parts}
use Rattle.lk_sites.proofs.Visiting.{front_and}
use Rattle.lk_sites.specs.SiteKinds.{is_site}
use Rattle.lk_sites.specs.Sites.{Site, Tour, all, entered, in_instance, in_instances, is_closed, site_at, start, visit}
use Rattle.lk_sound.proofs.Inside.{bodies_of, insides}
use Rattle.lk_types.proofs.Members.{each_back, each_both, each_front, one_in_back, one_in_front}
use Rattle.lk_types.proofs.Parts.{same_some}
use Rattle.lk_types.specs.Each.{Each, OneOf}

-- ---- labels of nodes

module _ (f : Forms) where
  -- an instance and a lambda have a body
  no_reach : {owner ty label : ℕ} {node : Option ℕ} {place : Loc} {names : List (List ℕ)} {params : List Word} {body : Body} → IsBodyLabel f owner node ty label place names params body → (k n : ℕ) → label ≡ k → IsReached f k n → ⊥
  no_reach {body = body} of k n same is = none-some body (sym is.body ∙ ap (body_at f) (sym same) ∙ ap body_of of.is ∙ of.body_is)

  only : (p k : ℕ) → p ≤ k → k < p + 1 → p ≡ k
  only p k from to = omega arith

  no_operation : (l : Layer) (o : Op) → op_of l ≡ Some o → is_site l ≡ true → ⊥
  no_operation (Node-F.Query keys e) o is site = none-some o is
  no_operation (Node-F.Table t) o is site = none-some o is
  no_operation (Node-F.Update change) o is site = none-some o is
  no_operation (Node-F.Delete change) o is site = none-some o is
  no_operation other o is site = let wrong : false ≡ true = site in cc

  module _ (owner n ty : ℕ) where
    block_node : {label : ℕ} → IsBlockLabel f owner n ty label → node_of f label ≡ Some n
    block_node of = ap (option_and_then (λ (l : LabelForm). l.node)) of.is ∙ of.node_is

    block_body : {label : ℕ} → IsBlockLabel f owner n ty label → body_at f label ≡ None
    block_body of = ap body_of of.is ∙ of.body_is

    -- the node of a query, a reading, an update or a deletion, with its label
    record IsSiteNode (l : Layer) (label : ℕ) (k : Kind) : Type 0 where
      node : node_of f label ≡ Some n
      body : body_at f label ≡ None
      block : Block
      is : block_of l ≡ Some block
      has : has_site block ≡ true
      kept : List Kept
      kind_is : k ≡ kind.Reach block label kept
      captures : AreLocals f (names_of kept) (captured_by l)

    site_node : {l : Layer} {at : Span} {p q : Pending} {k : Kind} → Shell f owner n ty l at p k q → is_site l ≡ true → IsSiteNode l p.label k
    site_node (low.operation {l = l} {o = o} is) site = absurd (no_operation l o is site)
    site_node (low.table of) site = record { node = block_node of; body = block_body of; block = block.TableRead; is = refl; has = refl; kept = []; kind_is = refl; captures = tt }
    site_node (low.query {kept = kept} of are) site = record { node = block_node of; body = block_body of; block = block.Query; is = refl; has = refl; kept = kept; kind_is = refl; captures = are.names_are }
    site_node (low.update {kept = kept} of are touched) site = record { node = block_node of; body = block_body of; block = block.Update; is = refl; has = refl; kept = kept; kind_is = refl; captures = are.names_are }
    site_node (low.delete {kept = kept} of are touched) site = record { node = block_node of; body = block_body of; block = block.Delete; is = refl; has = refl; kept = kept; kind_is = refl; captures = are.names_are }
    site_node other site = let wrong : false ≡ true = site in absurd cc

    -- such a label is the node's own
    record IsOwn (l : Layer) (label k m : ℕ) : Type 0 where
      site : is_site l ≡ true
      number : n ≡ m
      same : label ≡ k

    own_label_is : {label : ℕ} → IsBlockLabel f owner n ty label → (k m : ℕ) → label ≤ k → k < label + 1 → IsReached f k m → (n ≡ m) × (label ≡ k)
    own_label_is {label} of k m from to is = let same : label ≡ k = only label k from to in (same_some (sym (block_node of) ∙ ap (node_of f) same ∙ is.node), same)

    no_insertion : (form : Form) → form_at f n ≡ Some form → {label m k : ℕ} → form.kind ≡ kind.Reach block.Insert label [] → n ≡ m → IsReached f k m → ⊥
    no_insertion form there kind_is number is =
        let same : form ≡ is.form = same_some (sym there ∙ ap (form_at f) number ∙ is.is) in
        let wrong : false ≡ true = sym (ap is_reach kind_is) ∙ ap (λ (it : Form). is_reach it.kind) same ∙ is.reach in
        cc

    reached_here : {l : Layer} {at : Span} {p q : Pending} {kd : Kind} → Shell f owner n ty l at p kd q → (form : Form) → form_at f n ≡ Some form → form.kind ≡ kd → (k m : ℕ) → p.label ≤ k → k < q.label → IsReached f k m → IsOwn l p.label k m
    reached_here (low.table of) form there kind_is k m from to is = let own = own_label_is of k m from to is in record { site = refl; number = own.0; same = own.1 }
    reached_here (low.query of are) form there kind_is k m from to is = let own = own_label_is of k m from to is in record { site = refl; number = own.0; same = own.1 }
    reached_here (low.update of are touched) form there kind_is k m from to is = let own = own_label_is of k m from to is in record { site = refl; number = own.0; same = own.1 }
    reached_here (low.delete of are touched) form there kind_is k m from to is = let own = own_label_is of k m from to is in record { site = refl; number = own.0; same = own.1 }
    reached_here (low.insert of touched) form there kind_is k m from to is = absurd (no_insertion form there kind_is (own_label_is of k m from to is).0 is)
    reached_here other form there kind_is k m from to is = absurd (omega arith)

    open_shell : {l : Layer} {at : Span} {p q : Pending} {k : Kind} → Shell f owner n ty l at p k q → is_lambda l ≡ false
    open_shell {l = l} shell = by_layer l shell
      where
        by_layer : (l : Layer) {at : Span} {p q : Pending} {k : Kind} → Shell f owner n ty l at p k q → is_lambda l ≡ false
        by_layer (Node-F.Lambda lambda) shell = absurd (no_shell f owner shell)
        by_layer other shell = refl

-- ---- what a tour finds

module _ (i : ℕ) where
  abbrev own_found : Bool → Expr → Tour → List Site
  own_found true e t = site_at i e t ∷ []
  own_found false e t = []

  entered_label : (l : Layer) (e : Expr) (t : Tour) → (entered i l e false t).label ≡ t.label + length (own_label l e.span.start)
  entered_label (Node-F.Lambda lambda) e t = refl
  entered_label (Node-F.Table name) e t = refl
  entered_label (Node-F.Insert name rows) e t = refl
  entered_label (Node-F.Query keys body) e t = refl
  entered_label (Node-F.Update change) e t = refl
  entered_label (Node-F.Delete change) e t = refl
  entered_label (Node-F.Function h) e t = more_none t.label
  entered_label (Node-F.Call h args) e t = more_none t.label
  entered_label other e t = more_none t.label

  entered_found : (l : Layer) (e : Expr) (t : Tour) → (entered i l e false t).found ≡ t.found ++ own_found (is_site l) e t
  entered_found (Node-F.Table name) e t = refl
  entered_found (Node-F.Query keys body) e t = refl
  entered_found (Node-F.Update change) e t = refl
  entered_found (Node-F.Delete change) e t = refl
  entered_found (Node-F.Function h) e t = sym (append-nil t.found)
  entered_found (Node-F.Call h args) e t = sym (append-nil t.found)
  entered_found other e t = sym (append-nil t.found)

module _ (g : GroundProgram) (f : Forms) where
  abbrev HasNode : Site → Type 0
  HasNode site = (n : ℕ) × IsSiteAt g f n site

  abbrev IsOf : ℕ → ℕ → Site → Type 0
  IsOf label n site = (site.label ≡ label) × IsSiteAt g f n site

  -- a tour has come to this label, and has found what the labels before it are
  record AreMet (t : Tour) (bound : ℕ) : Type 0 where
    label_is : t.label ≡ bound
    sites : Each HasNode t.found
    labels : (label n : ℕ) → label < bound → IsReached f label n → OneOf (IsOf label n) t.found

  -- it goes on, and finds these
  further : (t after : Tour) (p q : ℕ) (own : List Site) → after.label ≡ q → after.found ≡ t.found ++ own → Each HasNode own → ((label n : ℕ) → p ≤ label → label < q → IsReached f label n → OneOf (IsOf label n) own) → AreMet t p → AreMet after q
  further t after p q own next found have here met = record {
    label_is = next;
    sites = subst (Each HasNode) (sym found) (each_both HasNode t.found own met.sites have);
    labels = λ label n below is. subst (OneOf (IsOf label n)) (sym found)
        (⊎_elim (λ (before : label < p). one_in_front (IsOf label n) t.found own (met.labels label n before is)) (λ (behind : p ≤ label). one_in_back (IsOf label n) t.found own (here label n behind below is)) (cases_lt label p));
  }

  closed_meets : (i : ℕ) (es : List Expr) (t : Tour) (q : ℕ) → AreMet t q → AreMet (all (map (visit i) es) true t) q
  closed_meets i es t q met =
      let same = none_in i es t in
      record { label_is = same.label ∙ met.label_is; sites = subst (Each HasNode) (sym same.found) met.sites; labels = λ label n below is. subst (OneOf (IsOf label n)) (sym same.found) (met.labels label n below is) }

  -- what stands right inside a node are its children, or it is closed
  from_children : (i : ℕ) (l : Layer) → is_lambda l ≡ false → (t : Tour) (q : ℕ) → AreMet (all (map (visit i) (children_of l)) false t) q → AreMet (all (map (visit i) (insides l)) (is_closed l) t) q
  from_children i (Node-F.Lambda lambda) none t q met = let wrong : true ≡ false = none in absurd cc
  from_children i (Node-F.Query keys d) none t q met = closed_meets i (d ∷ []) t q met
  from_children i (Node-F.Update change) none t q met = closed_meets i (insides (Node-F.Update change)) t q met
  from_children i (Node-F.Delete change) none t q met = closed_meets i (insides (Node-F.Delete change)) t q met
  from_children i (Node-F.Call h args) none t q met = subst (λ es. AreMet (all (map (visit i) es) false t) q) (append-nil args) met
  from_children i (Node-F.Apply h args) none t q met = subst (λ es. AreMet (all (map (visit i) (h ∷ es)) false t) q) (append-nil args) met
  from_children i (Node-F.List items) none t q met = subst (λ es. AreMet (all (map (visit i) es) false t) q) (append-nil items) met
  from_children i (Node-F.Record parts) none t q met = subst (λ es. AreMet (all (map (visit i) es) false t) q) (append-nil (exprs_of parts)) met
  from_children i (Node-F.Extend parts d) none t q met = subst (λ es. AreMet (all (map (visit i) es) false t) q) (append-nil (exprs_of parts ++ d ∷ [])) met
  from_children i (Node-F.Switch d cases last) none t q met = subst (λ es. AreMet (all (map (visit i) (d ∷ (bodies_of cases ++ es))) false t) q) (same_last last) met
  from_children i other none t q met = met

  -- ---- a node

  module _ (i n : ℕ) (e : Expr) (p inside : Pending) (form : Form) (is : form_at f n ≡ Some form) (at : form.at ≡ e.span) (ready : Ready g f i e n) (shell : Shell f i n form.ty (layer e) e.span p form.kind inside) (t : Tour) (met : AreMet t p.label) where
    site_here : is_site (layer e) ≡ true → IsSiteAt g f n (site_at i e t)
    site_here site =
        let own = site_node f i n form.ty shell site in
        let same : p.label ≡ t.label = sym met.label_is in
        record {
          ready = ready;
          reached = record { node = ap (node_of f) (sym same) ∙ own.node; body = ap (body_at f) (sym same) ∙ own.body; form = form; is = is; reach = ap is_reach own.kind_is ∙ own.has };
          at = at;
          block = own.block;
          is = own.is;
          kept = own.kept;
          kind_is = own.kind_is ∙ ap (λ label. kind.Reach own.block label own.kept) same;
          captures = own.captures;
        }

    have_own : (b : Bool) → is_site (layer e) ≡ b → Each HasNode (own_found i b e t)
    have_own true site = ((n, site_here site), tt)
    have_own false site = tt

    find_own : (label m : ℕ) → p.label ≤ label → label < inside.label → IsReached f label m → OneOf (IsOf label m) (own_found i (is_site (layer e)) e t)
    find_own label m from to reached =
        let own = reached_here f i n form.ty shell form is refl label m from to reached in
        subst (λ b. OneOf (IsOf label m) (own_found i b e t)) (sym own.site) (inl (met.label_is ∙ own.same, subst (λ k. IsSiteAt g f k (site_at i e t)) own.number (site_here own.site)))

    node_meets : AreMet (entered i (layer e) e false t) inside.label
    node_meets =
        let taken = takes f i n form.ty shell in
        further t (entered i (layer e) e false t) p.label inside.label (own_found i (is_site (layer e)) e t)
        (entered_label i (layer e) e t ∙ ap (λ k. k + length (own_label (layer e) e.span.start)) met.label_is ∙ sym taken.label)
        (entered_found i (layer e) e t) (have_own (is_site (layer e)) refl) find_own met

  -- ---- expressions

  mutual
    meets : {i within n : ℕ} {e : Expr} {p q : Pending} → IsLowered f i within e p n q → Stands g i (uses_in e) (labelled_in e) p → IsInside g.program.now e → (t : Tour) → AreMet t p.label → AreMet (visit i e false t) q.label
    meets {i = i} {within = within} {n = n} {e = e} {p = p} {q = q} (low.node form inside between number is at in_it has shell parts tails) stands within_program t met =
        let l = layer e in
        let taken = takes f i n form.ty shell in
        let ready : Ready g f i e n = record { within = within; before = p; after = q; lowered = low.node form inside between number is at in_it has shell parts tails; stands = stands; inside = within_program } in
        let two = two_stand g f e p inside taken stands in
        let children = children_inside g f e p inside taken within_program in
        let started = entered i l e false t in
        let first = all_meet parts (stands_front g i _ _ _ _ inside two) (each_front (IsInside g.program.now) (parts_of l) (tails_of l) children) started (node_meets i n e p inside form is at ready shell t met) in
        let second = all_meet tails (stands_back g i _ _ _ _ inside between (all_counted f i parts) two) (each_back (IsInside g.program.now) (parts_of l) (tails_of l) children) (all (map (visit i) (parts_of l)) false started) first in
        subst (λ tour. AreMet tour q.label) (sym (by_parts i e false t)) (from_children i l (open_shell f i n form.ty shell) started q.label (subst (λ go. AreMet (go false started) q.label) (sym (front_and i (parts_of l) (tails_of l))) second))
    meets {i = i} {e = e} {p = p} {q = q} (low.lambda form l xs body layer_is number there at in_it has kind_is locals no_part no_tail label inner) stands within_program t met =
        let lambda : Layer = Node-F.Lambda l in
        let started = entered i lambda e false t in
        let begun : AreMet started (p.label + 1) = further t started p.label (p.label + 1) [] (ap (λ k. k + 1) met.label_is) (sym (append-nil t.found)) tt (λ k n from to is. absurd (no_reach f label k n (only f p.label k from to) is)) met in
        let ended : AreMet (visit i l.body false started) q.label = meets inner (body_stands g f e l p layer_is stands) (standing.body_inside g f e l layer_is within_program) started begun in
        subst (λ tour. AreMet tour q.label) (sym (by_parts i e false t)) (subst (λ m. AreMet (all (map (visit i) (insides m)) (is_closed m) (entered i m e false t)) q.label) (sym layer_is) ended)

    all_meet : {i within : ℕ} {es : List Expr} {p q : Pending} {ns : List ℕ} → AreLowered f i within es p ns q → Stands g i (flat_map uses_in es) (flat_map labelled_in es) p → Each (IsInside g.program.now) es → (t : Tour) → AreMet t p.label → AreMet (all (map (visit i) es) false t) q.label
    all_meet low.none stands inside t met = met
    all_meet {i = i} (low.more {e = e} {es = es} {before = p} {between = q} one rest) stands inside t met =
        let us = flat_map uses_in es in
        let ls = flat_map labelled_in es in
        all_meet rest (stands_back g i (uses_in e) us (labelled_in e) ls p q (counted f i one) stands) inside.1 (visit i e false t) (meets one (stands_front g i (uses_in e) us (labelled_in e) ls p stands) inside.0 t met)

  -- ---- instances

  -- a tour has found what all labels are
  record AreAllMet (t : Tour) : Type 0 where
    sites : Each HasNode t.found
    labels : (label n : ℕ) → IsReached f label n → OneOf (IsOf label n) t.found

  there : (label n : ℕ) (o : Option LabelForm) → label_at f label ≡ o → option_and_then (λ (l : LabelForm). l.node) o ≡ Some n → label < length f.labels
  there label n None at is = absurd (none-some n is)
  there label n (Some l) at is = slice_get_within f.labels label l at

  module _ (of : AreForms g f) (declared : AreDeclared g) where
    funs_meet : {i label next : ℕ} {funs : List GroundFun} → AreFuns f i funs label next → IsRest g i funs label → (t : Tour) → AreMet t label → AreAllMet (in_instances i funs t)
    funs_meet (low.no_fun wholes titles labels nodes) rest t met =
        record { sites = met.sites; labels = λ label n is. met.labels label n (let below : label < length f.labels = there label n (label_at f label) refl is.node in omega (arith, labels, below)) is }
    funs_meet {i = i} {label = label} {next = next} (low.one_fun {fun = fun} {funs = funs} body after ty whole titled type_is has lowered others) rest t met =
        let opened : Tour = record { label = t.label + 1; types = fun.types; calls = fun.calls; found = t.found } in
        let begun : AreMet opened (label + 1) = further t opened label (label + 1) [] (ap (λ k. k + 1) met.label_is) (sym (append-nil t.found)) tt (λ k n from to is. absurd (no_reach f has k n (only f label k from to) is)) met in
        let inside = body_inside g.program.now (function_of fun) (declared i fun (first_there g i fun funs label rest)) in
        let ended : AreMet (in_instance i fun t) after.label = meets lowered (first_stands g i fun funs label rest next) inside opened begun in
        subst (λ k. AreAllMet (in_instances k funs (in_instance i fun t))) (let e : 1 + i ≡ i + 1 = omega arith in e) (funs_meet others (others_rest g i fun funs label rest after.label (counted f i lowered).label) (in_instance i fun t) ended)

    -- label 0 has no node
    no_printer : (label n : ℕ) → label < 1 → IsReached f label n → ⊥
    no_printer label n below is =
        let same : 0 ≡ label = omega arith in
        none-some n (sym of.printer_node ∙ sym (ap (option_and_then (λ (l : LabelForm). l.node)) of.printer_is) ∙ ap (node_of f) same ∙ is.node)

    all_met : AreAllMet (in_instances 0 g.funs start)
    all_met = funs_meet of.funs (all_rest g) start (record { label_is = refl; sites = tt; labels = λ label n below is. absurd (no_printer label n below is) })

pub are_sited : SitedLaw
are_sited g f of declared =
    let met = all_met g f of declared in
    record {
      labels = met.labels;
      nodes = λ n form b label kept is kind_is has.
          let own = at_block f g of (covered f g of n form is).lowered form b label kept is kind_is in
          met.labels label n (record { node = own.0; body = own.1; form = form; is = is; reach = ap is_reach kind_is ∙ has });
      sites = met.sites;
    }
