-- What a visit to a typed expression finds: typed queries, readings of tables, updates and deletions.
use Rattle.lk_ground.proofs.PlacedLevels.{operator_insides}
use Rattle.std.proofs.Common.{◌≡◌, ℕ, Bool, true, false, ◌||◌, List, [], ◌∷◌, ◌++◌, append-nil, map, Some, None, refl, sym, ◌∙◌, ap, subst}
use Rattle.std.proofs.Math.Bool.{or-false, or-true}
use Rattle.std.proofs.lemmas.Option.{none-some}
use Rattle.lk_ast.specs.Children.{exprs_of}
use Rattle.lk_ast.specs.Layers.{Layer, layer}
use Rattle.lk_ast.specs.Tables.{tables_of}
use Rattle.lk_ast.specs.declared.declaration.Program.{Program}
use Rattle.lk_ast.specs.declared.declaration.TableDecl.{TableDecl}
use Rattle.lk_ast.specs.declared.expression.Case.{Case}
use Rattle.lk_ast.specs.declared.expression.ChangeExpr.{ChangeExpr, out-ChangeExpr}
use Rattle.lk_ast.specs.declared.expression.Expr.{Expr}
use Rattle.lk_ast.specs.declared.expression.Node.TheOpen.{Node-F}
use Rattle.lk_bag.specs.Blocks.{acts_on_tables}
use Rattle.lk_sites.proofs.Passing.{Passes, PassesFirst, first_other, first_called, passes_first, passes_behind, passes_block, passes_split, no_nodes}
use Rattle.lk_sites.proofs.Visiting.{by_form, front_and, insides_level, visit_level}
use Rattle.lk_sites.specs.Blocks.{IsBlock}
use Rattle.lk_sites.specs.Pending.{Pending, pending}
use Rattle.lk_sites.specs.SiteKinds.{is_site}
use Rattle.lk_sites.specs.Sites.{Site, Tour, all, at_node, behind_node, behind_type, behind_use, entered, is_closed, site_at, visit}
use Rattle.lk_sites.specs.SitesInside.{within}
use Rattle.lk_sites.specs.Takes.{Takes}
use Rattle.lk_sound.proofs.Inside.{bodies_of, inside_change, insides}
use Rattle.lk_sound.proofs.InsideNodes.{IsInside, inside_nodes, inside_change as inside_changes}
use Rattle.lk_sound.proofs.TextBlocks.{IsBlockOf, insides_blocks, own_block}
use Rattle.lk_sound.specs.Instances.{Instances, IsFine}
use Rattle.lk_sound.specs.Nodes.{TypedNode, Use, compared_by, used_by, nodes_of, each_nodes, case_nodes, change_nodes}
use Rattle.lk_sound.specs.Points.{AreBlocksOf}
use Rattle.lk_types.proofs.Members.{each_front, each_back, each_both}
use Rattle.lk_types.specs.Each.{Each}
use Rattle.lk_types.specs.Rows.{Label, EffectSet}
use Rattle.lk_types.specs.declared.ground.Ground.{Ground}
use Rattle.lk_typing.specs.Heads as operator
use Rattle.lk_typing.specs.Heads.{Head, head, parts}
use Rattle.lk_typing.specs.Names.{Entry, Named}
use Rattle.lk_typing.specs.Rules.{Rule}
use Rattle.lk_typing.specs.Rules as rule
use Rattle.lk_typing.specs.Typing.{HasType, HaveTypes, HaveCases, IsChange, label_of, expr_of, plain, lambda, var, switch, switch_open, for_list, for_table, query, update, delete, none, more, no_cases, case_of, changed}

-- what is still to come
abbrev pub left : Tour → Pending
left t = pending t.types t.calls

-- ---- operators

pub operator_open : (l : Layer) (h : Head) → head label_of expr_of l ≡ Some h → is_closed l ≡ false
operator_open (Node-F.Query keys d) h is = absurd (none-some h is)
operator_open (Node-F.Update change) h is = absurd (none-some h is)
operator_open (Node-F.Delete change) h is = absurd (none-some h is)
operator_open other h is = refl

-- an operator with a site is the reading of a table
record IsReading (l : Layer) (h : Head) : Type 0 where
  table : Label
  is : h ≡ operator.Table table
  empty : parts label_of expr_of l ≡ []

reading : (l : Layer) (h : Head) → head label_of expr_of l ≡ Some h → is_site l ≡ true → IsReading l h
reading (Node-F.Table t) h is site = record { table = t.text; is = let same : h ≡ operator.Table t.text = cc in same; empty = refl }
reading (Node-F.Query keys d) h is site = absurd (none-some h is)
reading (Node-F.Update change) h is site = absurd (none-some h is)
reading (Node-F.Delete change) h is site = absurd (none-some h is)
reading other h is site = let wrong : false ≡ true = site in absurd cc

site_acts : (l : Layer) → is_site l ≡ true → acts_on_tables l ≡ true
site_acts (Node-F.Table t) site = refl
site_acts (Node-F.Query keys d) site = refl
site_acts (Node-F.Update change) site = refl
site_acts (Node-F.Delete change) site = refl
site_acts other site = let wrong : false ≡ true = site in absurd cc

-- ---- which operators use functions

pub data UsesFunction (h : Head) : Type 0 where
  by_name : (g : Label) → h ≡ operator.Function g → UsesFunction h
  by_call : (g : Label) → h ≡ operator.Call g → UsesFunction h

pub uses_function : (functions : Named (Entry Ground)) (tables : List TableDecl) (names : Named Ground) (effects : EffectSet) (h : Head) (ts : List Ground) (t : Ground) (u : Use) (r : Rule functions tables names effects h ts t) → used_by r ≡ Some u → UsesFunction h
uses_function functions tables names effects _ _ t u (rule.function {g = g} may) is = by_name g refl
uses_function functions tables names effects _ ts t u (rule.call {g = g} may) is = by_call g refl
uses_function functions tables names effects h ts t u by is = absurd cc

name_uses : (functions : Named (Entry Ground)) (tables : List TableDecl) (names : Named Ground) (effects : EffectSet) (h : Head) (ts : List Ground) (t : Ground) (g : Label) (r : Rule functions tables names effects h ts t) → h ≡ operator.Function g → used_by r ≡ None → ⊥
name_uses functions tables names effects _ _ t g (rule.function may) is no_use = absurd cc
name_uses functions tables names effects _ ts t g (rule.call may) is no_use = absurd cc
name_uses functions tables names effects h ts t g by is no_use = absurd cc

call_uses : (functions : Named (Entry Ground)) (tables : List TableDecl) (names : Named Ground) (effects : EffectSet) (h : Head) (ts : List Ground) (t : Ground) (g : Label) (r : Rule functions tables names effects h ts t) → h ≡ operator.Call g → used_by r ≡ None → ⊥
call_uses functions tables names effects _ _ t g (rule.function may) is no_use = absurd cc
call_uses functions tables names effects _ ts t g (rule.call may) is no_use = absurd cc
call_uses functions tables names effects h ts t g by is no_use = absurd cc

reading_uses : (functions : Named (Entry Ground)) (tables : List TableDecl) (names : Named Ground) (effects : EffectSet) (h : Head) (ts : List Ground) (t : Ground) (x : Label) (r : Rule functions tables names effects h ts t) → h ≡ operator.Table x → used_by r ≡ None
reading_uses functions tables names effects _ _ t x (rule.function may) is = absurd cc
reading_uses functions tables names effects _ ts t x (rule.call may) is = absurd cc
reading_uses functions tables names effects h ts t x by is = refl

-- what an operator takes
pub takes_none : (functions : Named (Entry Ground)) (tables : List TableDecl) (names : Named Ground) (effects : EffectSet) (l : Layer) (h : Head) (ts : List Ground) (a : Ground) (r : Rule functions tables names effects h ts a) → head label_of expr_of l ≡ Some h → used_by r ≡ None
    → (t : Tour) → behind_node l t ≡ behind_type t
takes_none functions tables names effects (Node-F.Function g) h ts a r is no_use t = absurd (name_uses functions tables names effects h ts a g r (let same : h ≡ operator.Function g = cc in same) no_use)
takes_none functions tables names effects (Node-F.Call g args) h ts a r is no_use t = absurd (call_uses functions tables names effects h ts a g.text r (let same : h ≡ operator.Call g.text = cc in same) no_use)
takes_none functions tables names effects other h ts a r is no_use t = refl

pub takes_use : (l : Layer) (h : Head) → head label_of expr_of l ≡ Some h → UsesFunction h → (t : Tour) → behind_node l t ≡ behind_use t
takes_use (Node-F.Function g) h is uses t = refl
takes_use (Node-F.Call g args) h is uses t = refl
takes_use l h is (by_name g same) t = absurd cc
takes_use l h is (by_call g same) t = absurd cc

-- ---- what an expression takes and finds, without what stands in it

module _ (fun : ℕ) where
  pub entered_left : (l : Layer) (e : Expr) (flag : Bool) (t : Tour) → left (entered fun l e flag t) ≡ left (behind_node l t)
  entered_left l e true t = refl
  entered_left (Node-F.Lambda l) e false t = refl
  entered_left (Node-F.Insert table rows) e false t = refl
  entered_left (Node-F.Table table) e false t = refl
  entered_left (Node-F.Query keys body) e false t = refl
  entered_left (Node-F.Update change) e false t = refl
  entered_left (Node-F.Delete change) e false t = refl
  entered_left other e false t = refl

  behind_found : (l : Layer) (t : Tour) → (behind_node l t).found ≡ t.found
  behind_found (Node-F.Function g) t = refl
  behind_found (Node-F.Call g args) t = refl
  behind_found other t = refl

  module _ (P : Site → Type 0) where
    at_found : (l : Layer) (e : Expr) (t : Tour) → (is_site l ≡ true → P (site_at fun e t)) → Each P t.found → Each P (at_node fun l e t).found
    at_found (Node-F.Table table) e t here before = each_both P t.found (site_at fun e t ∷ []) before (here refl, tt)
    at_found (Node-F.Query keys body) e t here before = each_both P t.found (site_at fun e t ∷ []) before (here refl, tt)
    at_found (Node-F.Update change) e t here before = each_both P t.found (site_at fun e t ∷ []) before (here refl, tt)
    at_found (Node-F.Delete change) e t here before = each_both P t.found (site_at fun e t ∷ []) before (here refl, tt)
    at_found other e t here before = before

    entered_found : (l : Layer) (e : Expr) (flag : Bool) (t : Tour) → (flag ≡ false → is_site l ≡ true → P (site_at fun e t)) → Each P t.found → Each P (entered fun l e flag t).found
    entered_found l e true t here before = subst (Each P) (sym (behind_found l t)) before
    entered_found l e false t here before = subst (Each P) (sym (behind_found l (at_node fun l e t))) (at_found l e t (here refl) before)

    -- ---- visits

    -- it takes what is taken for the nodes, and finds what it should
    pub record IsVisited (t : Tour) (q : Pending) (after : Tour) : Type 0 where
      pub rest : left after ≡ q
      pub sites : Each P t.found → Each P after.found

    pub not_moved : (t : Tour) → IsVisited t (left t) t
    not_moved t = record { rest = refl; sites = λ before. before }

    by_levels : (e : Expr) (l : Layer) (flag closed : Bool) (t : Tour) (q : Pending) → layer e ≡ l → (flag || is_closed l) ≡ closed → (flag ≡ false → is_site l ≡ true → P (site_at fun e t))
        → IsVisited (entered fun l e flag t) q (all (map (visit fun) (insides l)) closed (entered fun l e flag t)) → IsVisited t q (visit fun e flag t)
    by_levels e l flag closed t q is is_inside here inner =
        subst (IsVisited t q)
        (ap (λ go. go closed (entered fun l e flag t)) (sym (insides_level fun l)) ∙ ap (λ b. within fun l b (entered fun l e flag t)) (sym is_inside) ∙ ap (λ l. by_form fun l e flag t) (sym is) ∙ sym (visit_level fun e flag t))
        (record { rest = inner.rest; sites = λ before. inner.sites (entered_found l e flag t here before) })

-- ---- typed expressions

module _ (p : Program) (i : Instances) (fun : ℕ) (P : Site → Type 0) (typed_is : (e : Expr) (t : Tour) → IsBlock p i e t.types t.calls → IsBlockOf p e → P (site_at fun e t)) (functions : Named (Entry Ground)) where
  abbrev Taken : List TypedNode → Pending → Pending → Type 0
  Taken nodes before after = Passes i.mains i.helpers nodes before after

  abbrev at_form : Layer → Expr → Bool → Tour → Tour
  at_form l e flag t = entered fun l e flag t

  abbrev Fine : List TypedNode → Type 0
  Fine nodes = Each (IsFine i) nodes

  abbrev Visited : Tour → Pending → Tour → Type 0
  Visited t q after = IsVisited fun P t q after

  -- first what these nodes are of, later what those are of
  in_turn : (xs ys : List TypedNode) (go next : Tour → Tour) (t : Tour) (q : Pending) → Taken (xs ++ ys) (left t) q
      → ((r : Pending) → Taken xs (left t) r → Visited t r (go t)) → ((m : Tour) → Taken ys (left m) q → Visited m q (next m)) → Visited t q (next (go t))
  in_turn xs ys go next t q passes first second =
      let split = passes_split i.mains i.helpers xs ys (left t) q passes in
      let one = first split.0 split.1 in
      let two = second (go t) (subst (λ l. Taken ys l q) (sym one.rest) split.2) in
      record { rest = two.rest; sites = λ before. two.sites (one.sites before) }

  -- behind a node that uses no function
  pub behind_other : (l : Layer) (e : Expr) (flag : Bool) (node : TypedNode) (nodes : List TypedNode) (t : Tour) (q : Pending) → node.part.use_of ≡ None → behind_node l t ≡ behind_type t → Taken (node ∷ nodes) (left t) q → Taken nodes (left (entered fun l e flag t)) q
  behind_other l e flag node nodes t q no_use takes passes =
      subst (λ r. Taken nodes r q) (sym (entered_left fun l e flag t ∙ ap left takes)) (passes_behind i.mains i.helpers node nodes (left t) q no_use passes)

  not_site : (e : Expr) (flag : Bool) (t : Tour) → flag ≡ false → false ≡ true → P (site_at fun e t)
  not_site e flag t outside wrong = absurd cc

  pub form_blocks : (e : Expr) (l : Layer) → layer e ≡ l → AreBlocksOf p e → Each (AreBlocksOf p) (insides l)
  form_blocks e l is blocks = subst (λ l. Each (AreBlocksOf p) (insides l)) is (insides_blocks p e blocks)

  -- a block outside of others
  typed_block : {effects : EffectSet} {locals : Named Ground} {e : Expr} {a : Ground} {inside : List Ground} (flag : Bool) (d : HasType functions (tables_of p) locals effects e a inside) → Fine (nodes_of flag d) → AreBlocksOf p e
      → (t : Tour) (q : Pending) → Takes i.helpers (nodes_of flag d) (left t) q → flag ≡ false → is_site (layer e) ≡ true → P (site_at fun e t)
  typed_block {effects = effects} {locals = locals} {e = e} {a = a} {inside = inside} flag d fine blocks t q takes outside site =
      typed_is e t
      (record {
        functions = functions;
        locals = locals;
        effects = effects;
        type = a;
        inside = inside;
        typed = d;
        fine = subst (λ b. Fine (nodes_of b d)) outside fine;
        after = q;
        takes = subst (λ b. Takes i.helpers (nodes_of b d) (left t) q) outside takes;
      })
      (own_block p e blocks (site_acts (layer e) site))

  mutual
    unfolding nodes_of

    pub expr_visited : {effects : EffectSet} {locals : Named Ground} {e : Expr} {a : Ground} {inside : List Ground} (flag : Bool) (d : HasType functions (tables_of p) locals effects e a inside) → Fine (nodes_of flag d) → AreBlocksOf p e
        → (t : Tour) (q : Pending) → Taken (nodes_of flag d) (left t) q → Visited t q (visit fun e flag t)
    expr_visited {effects = effects} {locals = locals} {e = e} {a = a} flag (plain h ts is have by) fine blocks t q passes =
        by_levels fun P e (layer e) flag flag t q refl (ap (λ b. flag || b) (operator_open (layer e) h is) ∙ or-false flag) here
        (subst (λ es. Visited t' q (all (map (visit fun) es) flag t')) (sym (operator_insides (layer e) h is))
        (exprs_visited flag have fine.1 (subst (Each (AreBlocksOf p)) (operator_insides (layer e) h is) (insides_blocks p e blocks)) t' q (by_use (passes_first i.mains i.helpers node (each_nodes flag have) (left t) q passes))))
      where
        t' : Tour
        t' = entered fun (layer e) e flag t

        node : TypedNode
        node = record { part = record { span = e.span; type = a; use_of = used_by by; compares = compared_by e by; inside = flag }; block = None }

        by_use : PassesFirst i.mains i.helpers node (each_nodes flag have) (left t) q → Taken (each_nodes flag have) (left t') q
        by_use (first_other no_use behind) =
            subst (λ r. Taken (each_nodes flag have) r q) (sym (entered_left fun (layer e) e flag t ∙ ap left (takes_none functions (tables_of p) locals effects (layer e) h ts a by is no_use t))) behind
        by_use (first_called u uses behind) =
            subst (λ r. Taken (each_nodes flag have) r q) (sym (entered_left fun (layer e) e flag t ∙ ap left (takes_use (layer e) h is (uses_function functions (tables_of p) locals effects h ts a u by uses) t))) behind

        here : flag ≡ false → is_site (layer e) ≡ true → P (site_at fun e t)
        here outside site =
            let table = reading (layer e) h is site in
            let empty : each_nodes flag have ≡ [] = no_nodes flag have table.empty in
            typed_block flag (plain h ts is have by) fine blocks t q
            (passes_block i.mains i.helpers node (each_nodes flag have) (left t) q (reading_uses functions (tables_of p) locals effects h ts a table.table by table.is) (subst (Each IsInside) (sym empty) tt) passes) outside site
    expr_visited {e = e} flag (lambda l params own b is named moves body local) fine blocks t q passes =
        by_levels fun P e (Node-F.Lambda l) flag flag t q is (or-false flag) (not_site e flag t)
        (expr_visited flag body fine.1 (form_blocks e (Node-F.Lambda l) is blocks).0 _ q (behind_other (Node-F.Lambda l) e flag _ (nodes_of flag body) t q refl refl passes))
    expr_visited {e = e} flag (var x d rest b first last is one later) fine blocks t q passes =
        let inner = form_blocks e (Node-F.Var x d rest) is blocks in
        by_levels fun P e (Node-F.Var x d rest) flag flag t q is (or-false flag) (not_site e flag t)
        (in_turn (nodes_of flag one) (nodes_of flag later) (visit fun d flag) (visit fun rest flag) (at_form (Node-F.Var x d rest) e flag t) q
        (behind_other (Node-F.Var x d rest) e flag _ (nodes_of flag one ++ nodes_of flag later) t q refl refl passes)
        (λ r taken. expr_visited flag one (each_front (IsFine i) (nodes_of flag one) (nodes_of flag later) fine.1) inner.0 _ r taken)
        (λ m taken. expr_visited flag later (each_back (IsFine i) (nodes_of flag one) (nodes_of flag later) fine.1) inner.1.0 m q taken))
    expr_visited {e = e} flag (switch d cases row tags ts first bodies is one have same made local) fine blocks t q passes =
        let inner = form_blocks e (Node-F.Switch d cases None) is blocks in
        by_levels fun P e (Node-F.Switch d cases None) flag flag t q is (or-false flag) (not_site e flag t)
        (in_turn (nodes_of flag one) (case_nodes flag have) (visit fun d flag) (λ m. all (map (visit fun) (bodies_of cases ++ [])) flag m) (at_form (Node-F.Switch d cases None) e flag t) q
        (behind_other (Node-F.Switch d cases None) e flag _ (nodes_of flag one ++ case_nodes flag have) t q refl refl passes)
        (λ r taken. expr_visited flag one (each_front (IsFine i) (nodes_of flag one) (case_nodes flag have) fine.1) inner.0 _ r taken)
        (λ m taken. subst (λ es. Visited m q (all (map (visit fun) es) flag m)) (sym (append-nil (bodies_of cases)))
        (cases_visited flag have (each_back (IsFine i) (nodes_of flag one) (case_nodes flag have) fine.1) (each_front (AreBlocksOf p) (bodies_of cases) [] inner.1) m q taken)))
    expr_visited {e = e} flag (switch_open d cases last rest row tags ts first bodies inside is one have same later made local) fine blocks t q passes =
        let inner = form_blocks e (Node-F.Switch d cases (Some last)) is blocks in
        let behind : List TypedNode = case_nodes flag have ++ nodes_of flag later in
        let fine_behind = each_back (IsFine i) (nodes_of flag one) behind fine.1 in
        by_levels fun P e (Node-F.Switch d cases (Some last)) flag flag t q is (or-false flag) (not_site e flag t)
        (in_turn (nodes_of flag one) behind (visit fun d flag) (λ m. all (map (visit fun) (bodies_of cases ++ last.body ∷ [])) flag m) (at_form (Node-F.Switch d cases (Some last)) e flag t) q
        (behind_other (Node-F.Switch d cases (Some last)) e flag _ (nodes_of flag one ++ behind) t q refl refl passes)
        (λ r taken. expr_visited flag one (each_front (IsFine i) (nodes_of flag one) behind fine.1) inner.0 _ r taken)
        (λ m taken. subst (Visited m q) (sym (ap (λ go. go flag m) (front_and fun (bodies_of cases) (last.body ∷ []))))
        (in_turn (case_nodes flag have) (nodes_of flag later) (all (map (visit fun) (bodies_of cases)) flag) (visit fun last.body flag) m q taken
        (λ r first_taken. cases_visited flag have (each_front (IsFine i) (case_nodes flag have) (nodes_of flag later) fine_behind) (each_front (AreBlocksOf p) (bodies_of cases) (last.body ∷ []) inner.1) m r first_taken)
        (λ n second_taken. expr_visited flag later (each_back (IsFine i) (case_nodes flag have) (nodes_of flag later) fine_behind) (each_back (AreBlocksOf p) (bodies_of cases) (last.body ∷ []) inner.1).0 n q second_taken))))
    expr_visited {e = e} flag (for_list x d body b c first inside is one later) fine blocks t q passes =
        let inner = form_blocks e (Node-F.ForList x d body) is blocks in
        by_levels fun P e (Node-F.ForList x d body) flag flag t q is (or-false flag) (not_site e flag t)
        (in_turn (nodes_of flag one) (nodes_of flag later) (visit fun d flag) (visit fun body flag) (at_form (Node-F.ForList x d body) e flag t) q
        (behind_other (Node-F.ForList x d body) e flag _ (nodes_of flag one ++ nodes_of flag later) t q refl refl passes)
        (λ r taken. expr_visited flag one (each_front (IsFine i) (nodes_of flag one) (nodes_of flag later) fine.1) inner.0 _ r taken)
        (λ m taken. expr_visited flag later (each_back (IsFine i) (nodes_of flag one) (nodes_of flag later) fine.1) inner.1.0 m q taken))
    expr_visited {e = e} flag (for_table x rows body b c first inside is one later) fine blocks t q passes =
        let inner = form_blocks e (Node-F.ForTable x rows body) is blocks in
        by_levels fun P e (Node-F.ForTable x rows body) flag flag t q is (or-false flag) (not_site e flag t)
        (in_turn (nodes_of flag one) (nodes_of flag later) (visit fun rows flag) (visit fun body flag) (at_form (Node-F.ForTable x rows body) e flag t) q
        (behind_other (Node-F.ForTable x rows body) e flag _ (nodes_of flag one ++ nodes_of flag later) t q refl refl passes)
        (λ r taken. expr_visited flag one (each_front (IsFine i) (nodes_of flag one) (nodes_of flag later) fine.1) inner.0 _ r taken)
        (λ m taken. expr_visited flag later (each_back (IsFine i) (nodes_of flag one) (nodes_of flag later) fine.1) inner.1.0 m q taken))
    expr_visited {e = e} flag (query keys body b inside is one sorted scans own) fine blocks t q passes =
        by_levels fun P e (Node-F.Query keys body) flag true t q is (or-true flag)
        (λ outside site. typed_block flag (query keys body b inside is one sorted scans own) fine blocks t q (passes_block i.mains i.helpers _ (nodes_of true one) (left t) q refl (inside_nodes one) passes) outside (ap is_site is))
        (expr_visited true one fine.1 (form_blocks e (Node-F.Query keys body) is blocks).0 _ q (behind_other (Node-F.Query keys body) e flag _ (nodes_of true one) t q refl refl passes))
    expr_visited {effects = effects} {e = e} flag (update change is changes writes) fine blocks t q passes =
        by_levels fun P e (Node-F.Update change) flag true t q is (or-true flag)
        (λ outside site. typed_block {effects = effects} flag (update change is changes writes) fine blocks t q (passes_block i.mains i.helpers _ (change_nodes changes) (left t) q refl (inside_changes changes) passes) outside (ap is_site is))
        (change_visited changes fine.1 (form_blocks e (Node-F.Update change) is blocks) _ q (behind_other (Node-F.Update change) e flag _ (change_nodes changes) t q refl refl passes))
    expr_visited {effects = effects} {e = e} flag (delete change is changes writes) fine blocks t q passes =
        by_levels fun P e (Node-F.Delete change) flag true t q is (or-true flag)
        (λ outside site. typed_block {effects = effects} flag (delete change is changes writes) fine blocks t q (passes_block i.mains i.helpers _ (change_nodes changes) (left t) q refl (inside_changes changes) passes) outside (ap is_site is))
        (change_visited changes fine.1 (form_blocks e (Node-F.Delete change) is blocks) _ q (behind_other (Node-F.Delete change) e flag _ (change_nodes changes) t q refl refl passes))

    pub exprs_visited : {effects : EffectSet} {locals : Named Ground} {es : List Expr} {ts inside : List Ground} (flag : Bool) (d : HaveTypes functions (tables_of p) locals effects es ts inside) → Fine (each_nodes flag d) → Each (AreBlocksOf p) es
        → (t : Tour) (q : Pending) → Taken (each_nodes flag d) (left t) q → Visited t q (all (map (visit fun) es) flag t)
    exprs_visited flag none fine blocks t _ Passes.done = not_moved fun P t
    exprs_visited flag (more {e = e} {es = es} inside rest first others) fine blocks t q passes =
        in_turn (nodes_of flag first) (each_nodes flag others) (visit fun e flag) (all (map (visit fun) es) flag) t q passes
        (λ r taken. expr_visited flag first (each_front (IsFine i) (nodes_of flag first) (each_nodes flag others) fine) blocks.0 t r taken)
        (λ m taken. exprs_visited flag others (each_back (IsFine i) (nodes_of flag first) (each_nodes flag others) fine) blocks.1 m q taken)

    pub cases_visited : {effects : EffectSet} {locals : Named Ground} {cases : List Case} {ts : List Ground} {tags : Named Ground} {inside : List Ground} (flag : Bool) (d : HaveCases functions (tables_of p) locals effects cases ts tags inside) → Fine (case_nodes flag d) → Each (AreBlocksOf p) (bodies_of cases)
        → (t : Tour) (q : Pending) → Taken (case_nodes flag d) (left t) q → Visited t q (all (map (visit fun) (bodies_of cases)) flag t)
    cases_visited flag no_cases fine blocks t _ Passes.done = not_moved fun P t
    cases_visited flag (case_of {case = case} {cases = cases} b bound inside rest held body others) fine blocks t q passes =
        in_turn (nodes_of flag body) (case_nodes flag others) (visit fun case.body flag) (all (map (visit fun) (bodies_of cases)) flag) t q passes
        (λ r taken. expr_visited flag body (each_front (IsFine i) (nodes_of flag body) (case_nodes flag others) fine) blocks.0 t r taken)
        (λ m taken. cases_visited flag others (each_back (IsFine i) (nodes_of flag body) (case_nodes flag others) fine) blocks.1 m q taken)

    change_visited : {locals : Named Ground} {change : ChangeExpr} {inside : List Ground} (d : IsChange functions (tables_of p) locals change inside) → Fine (change_nodes d) → Each (AreBlocksOf p) (inside_change change)
        → (t : Tour) (q : Pending) → Taken (change_nodes d) (left t) q → Visited t q (all (map (visit fun) (inside_change change)) true t)
    change_visited {change = change} (changed row sets ts cond rest has holds values named fields) fine blocks t q passes =
        in_turn (nodes_of true holds) (each_nodes true values) (visit fun (out-ChangeExpr change).cond true) (all (map (visit fun) (exprs_of (out-ChangeExpr change).sets)) true) t q passes
        (λ r taken. expr_visited true holds (each_front (IsFine i) (nodes_of true holds) (each_nodes true values) fine) blocks.0 t r taken)
        (λ m taken. exprs_visited true values (each_back (IsFine i) (nodes_of true holds) (each_nodes true values) fine) blocks.1 m q taken)
