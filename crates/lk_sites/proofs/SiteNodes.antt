-- Each query, update and deletion among the nodes of the instances' bodies that stands outside of others is the first node of a site.
use Rattle.std.proofs.Common.{◌≡◌, ℕ, ◌+◌, inl, inr, ⊎_elim, Bool, true, false, List, [], ◌∷◌, ◌++◌, append-nil, map, Option, Some, None, refl, sym, ◌∙◌, ap, subst}
use Rattle.std.proofs.lemmas.Option.{none-some}
use Rattle.lk_ast.specs.Layers.{Layer, layer}
use Rattle.lk_ast.specs.Tables.{tables_of}
use Rattle.lk_ast.specs.declared.declaration.Program.{Program}
use Rattle.lk_ast.specs.declared.expression.Case.{Case}
use Rattle.lk_ast.specs.declared.expression.Expr.{Expr}
use Rattle.lk_ast.specs.declared.expression.Node.TheOpen.{Node-F}
use Rattle.lk_ground.specs.Language.{function_of}
use Rattle.lk_ground.specs.declared.program.GroundFun.{GroundFun}
use Rattle.lk_ground.specs.declared.program.GroundProgram.{GroundProgram}
use Rattle.lk_ground.proofs.PlacedLevels.{operator_insides}
use Rattle.lk_mono.specs.Instanced.{AreInstancesOf, HasInstances, IsInstanceOf, nodes_in}
use Rattle.lk_sites.proofs.Passing.{Passes, PassesFirst, first_other, first_called, passes_all, passes_block, passes_first, passes_split}
use Rattle.lk_sites.proofs.SiteTyping.{behind_other, cases_visited, entered_left, expr_visited, form_blocks, left, operator_open, takes_none, takes_use, uses_function}
use Rattle.lk_sites.proofs.SitesFound.{all_keeps, at_itself, behind_has, instances_keep, keeps}
use Rattle.lk_sites.proofs.Touring.{by_parts}
use Rattle.lk_sites.proofs.Visiting.{front_and}
use Rattle.lk_sites.specs.Law.{IsFirstOf, NodesFoundLaw}
use Rattle.lk_sites.specs.Pending.{Pending, pending}
use Rattle.lk_sites.specs.SiteKinds.{is_site}
use Rattle.lk_sites.specs.Sites.{Site, Tour, all, at_node, behind_node, behind_type, entered, in_instance, in_instances, is_closed, site_at, sites_of, start, visit}
use Rattle.lk_sites.specs.Takes.{Takes}
use Rattle.lk_sound.proofs.Inside.{bodies_of, insides}
use Rattle.lk_types.proofs.Members.{one_of_both, each_front, each_back}
use Rattle.lk_sound.proofs.InsideNodes.{IsInside, inside_nodes, inside_change}
use Rattle.lk_sound.proofs.TextBlocks.{function_blocks, insides_blocks}
use Rattle.lk_sound.specs.Instances.{Instances, IsFine}
use Rattle.lk_sound.specs.Nodes.{Block, TypedNode, Use, compared_by, used_by, nodes_of, each_nodes, case_nodes, change_nodes}
use Rattle.lk_sound.specs.Points.{AreBlocksOf}
use Rattle.lk_types.specs.Each.{Each, OneOf}
use Rattle.lk_types.specs.Rows.{EffectSet}
use Rattle.lk_types.specs.declared.ground.Ground.{Ground}
use Rattle.lk_typing.specs.Names.{Entry, Named}
use Rattle.lk_typing.specs.Typing.{HasType, HaveTypes, HaveCases, plain, lambda, var, switch, switch_open, for_list, for_table, query, update, delete, none, more, no_cases, case_of}

module _ (p : Program) (i : Instances) (fun : ℕ) (node : TypedNode) (outside : node.part.inside ≡ false) (its : Block) (block_is : node.block ≡ Some its) where
  abbrev IsIn : List TypedNode → Type 0
  IsIn nodes = OneOf (λ other. other ≡ node) nodes

  abbrev HasOne : Tour → Type 0
  HasOne t = OneOf (IsFirstOf p i node) t.found

  abbrev Taken : List TypedNode → Pending → Pending → Type 0
  Taken nodes before after = Passes i.mains i.helpers nodes before after

  abbrev Fine : List TypedNode → Type 0
  Fine nodes = Each (IsFine i) nodes

  -- it isn't among what stands inside of others
  none_inside : (nodes : List TypedNode) → Each IsInside nodes → IsIn nodes → ⊥
  none_inside [] all one = one
  none_inside (other ∷ nodes) all (inl is) = let wrong : true ≡ false = sym all.0 ∙ ap (λ (n : TypedNode). n.part.inside) is ∙ outside in absurd cc
  none_inside (other ∷ nodes) all (inr later) = none_inside nodes all.1 later

  -- nor is it a node that is no block
  behind_plain : (other : TypedNode) (nodes : List TypedNode) → other.block ≡ None → IsIn (other ∷ nodes) → IsIn nodes
  behind_plain other nodes no_block (inl is) = let wrong : None ≡ Some its = sym no_block ∙ ap (λ (n : TypedNode). n.block) is ∙ block_is in absurd (none-some its wrong)
  behind_plain other nodes no_block (inr later) = later

  -- ---- visits

  abbrev at_form : Layer → Expr → Tour → Tour
  at_form l e t = entered fun l e false t

  by_level : (e : Expr) (l : Layer) (t : Tour) → layer e ≡ l → is_closed l ≡ false → HasOne (all (map (visit fun) (insides l)) false (entered fun l e false t)) → HasOne (visit fun e false t)
  by_level e l t is is_open one =
      subst HasOne (sym (by_parts fun e false t))
      (subst (λ k. HasOne (all (map (visit fun) (insides k)) (is_closed k) (entered fun k e false t))) (sym is)
      (subst (λ b. HasOne (all (map (visit fun) (insides l)) b (entered fun l e false t))) (sym is_open) one))

  -- the block itself
  own_found : (e : Expr) (t : Tour) → is_site (layer e) ≡ true → IsFirstOf p i node (site_at fun e t) → HasOne (visit fun e false t)
  own_found e t site here =
      subst HasOne (sym (by_parts fun e false t))
      (all_keeps (IsFirstOf p i node) fun (insides (layer e)) (is_closed (layer e)) (entered fun (layer e) e false t)
      (behind_has (IsFirstOf p i node) fun (layer e) (at_node fun (layer e) e t) (at_itself (IsFirstOf p i node) fun (layer e) e t site here)))

  -- first these nodes are taken, later those
  in_turn : (xs ys : List TypedNode) (go next : Tour → Tour) (t : Tour) (q : Pending) → Taken (xs ++ ys) (left t) q
      → ((r : Pending) → Taken xs (left t) r → left (go t) ≡ r) → ((r : Pending) → Taken xs (left t) r → IsIn xs → HasOne (go t))
      → ((m : Tour) → HasOne m → HasOne (next m)) → ((m : Tour) → Taken ys (left m) q → IsIn ys → HasOne (next m)) → IsIn (xs ++ ys) → HasOne (next (go t))
  in_turn xs ys go next t q passes rest first keep second one =
      let (r, front, back) = passes_split i.mains i.helpers xs ys (left t) q passes in
      ⊎_elim (λ (o : IsIn xs). keep (go t) (first r front o)) (λ (o : IsIn ys). second (go t) (subst (λ l. Taken ys l q) (sym (rest r front)) back) o) (one_of_both (λ other. other ≡ node) xs ys one)

  keeps_one : (e : Expr) (t : Tour) → HasOne t → HasOne (visit fun e false t)
  keeps_one e t one = keeps (IsFirstOf p i node) fun e false t one

  keeps_all : (es : List Expr) (t : Tour) → HasOne t → HasOne (all (map (visit fun) es) false t)
  keeps_all es t one = all_keeps (IsFirstOf p i node) fun es false t one

  module _ (functions : Named (Entry Ground)) where
    abbrev any_site : Site → Type 0
    any_site site = Unit {0}

    -- what is left behind a visit
    rest_of : {effects : EffectSet} {locals : Named Ground} {e : Expr} {a : Ground} {inside : List Ground} (d : HasType functions (tables_of p) locals effects e a inside) → Fine (nodes_of false d) → AreBlocksOf p e
        → (t : Tour) (q : Pending) → Taken (nodes_of false d) (left t) q → left (visit fun e false t) ≡ q
    rest_of d fine blocks t q passes = (expr_visited p i fun any_site (λ e t block text. tt) functions false d fine blocks t q passes).rest

    rest_of_cases : {effects : EffectSet} {locals : Named Ground} {cases : List Case} {ts : List Ground} {tags : Named Ground} {inside : List Ground} (d : HaveCases functions (tables_of p) locals effects cases ts tags inside) → Fine (case_nodes false d) → Each (AreBlocksOf p) (bodies_of cases)
        → (t : Tour) (q : Pending) → Taken (case_nodes false d) (left t) q → left (all (map (visit fun) (bodies_of cases)) false t) ≡ q
    rest_of_cases d fine blocks t q passes = (cases_visited p i fun any_site (λ e t block text. tt) functions false d fine blocks t q passes).rest

    blocks_in : (e : Expr) (l : Layer) → layer e ≡ l → AreBlocksOf p e → Each (AreBlocksOf p) (insides l)
    blocks_in = form_blocks p i fun any_site (λ e t block text. tt) functions

    -- behind a node that uses no function
    behind : (l : Layer) (e : Expr) (other : TypedNode) (nodes : List TypedNode) (t : Tour) (q : Pending) → other.part.use_of ≡ None → behind_node l t ≡ behind_type t → Taken (other ∷ nodes) (left t) q → Taken nodes (left (entered fun l e false t)) q
    behind l e other nodes t q no_use takes passes = behind_other p i fun any_site (λ e t block text. tt) functions l e false other nodes t q no_use takes passes

    -- a block that stands outside of others, of which the node is the first
    own : {effects : EffectSet} {locals : Named Ground} {e : Expr} {a : Ground} {inside : List Ground} (d : HasType functions (tables_of p) locals effects e a inside) → Fine (nodes_of false d)
        → (others : List TypedNode) → nodes_of false d ≡ node ∷ others → is_site (layer e) ≡ true
        → (t : Tour) (q : Pending) → Takes i.helpers (nodes_of false d) (left t) q → HasOne (visit fun e false t)
    own {effects = effects} {locals = locals} {e = e} {a = a} {inside = inside} d fine others first site t q takes =
        own_found e t site (record {
          block = record { functions = functions; locals = locals; effects = effects; type = a; inside = inside; typed = d; fine = fine; after = q; takes = takes };
          others = others;
          first = first;
        })

    -- of two expressions, the one after the other
    two_find : {effects others : EffectSet} {locals names : Named Ground} {a b : Ground} {first last : List Ground} (d rest : Expr) (before : HasType functions (tables_of p) locals effects d a first) (later : HasType functions (tables_of p) names others rest b last)
        → Fine (nodes_of false before ++ nodes_of false later) → AreBlocksOf p d
        → (t : Tour) (q : Pending) → Taken (nodes_of false before ++ nodes_of false later) (left t) q
        → ((r : Pending) → Taken (nodes_of false before) (left t) r → IsIn (nodes_of false before) → HasOne (visit fun d false t))
        → ((m : Tour) → Taken (nodes_of false later) (left m) q → IsIn (nodes_of false later) → HasOne (visit fun rest false m))
        → IsIn (nodes_of false before ++ nodes_of false later) → HasOne (visit fun rest false (visit fun d false t))
    two_find d rest before later fine blocks t q taken first second one =
        in_turn (nodes_of false before) (nodes_of false later) (visit fun d false) (visit fun rest false) t q taken
        (λ r some. rest_of before (each_front (IsFine i) (nodes_of false before) (nodes_of false later) fine) blocks t r some)
        first (λ m found. keeps_one rest m found) second one

    mutual
      unfolding nodes_of

      expr_finds : {effects : EffectSet} {locals : Named Ground} {e : Expr} {a : Ground} {inside : List Ground} (d : HasType functions (tables_of p) locals effects e a inside) → Fine (nodes_of false d) → AreBlocksOf p e
          → (t : Tour) (q : Pending) → Taken (nodes_of false d) (left t) q → IsIn (nodes_of false d) → HasOne (visit fun e false t)
      expr_finds {effects = effects} {locals = locals} {e = e} {a = a} (plain h ts is have by) fine blocks t q passes one =
          by_level e (layer e) t refl (operator_open (layer e) h is)
          (subst (λ es. HasOne (all (map (visit fun) es) false t')) (sym (operator_insides (layer e) h is))
          (exprs_finds have fine.1 (subst (Each (AreBlocksOf p)) (operator_insides (layer e) h is) (insides_blocks p e blocks)) t' q (by_use (passes_first i.mains i.helpers first (each_nodes false have) (left t) q passes)) (behind_plain first (each_nodes false have) refl one)))
        where
          t' : Tour
          t' = entered fun (layer e) e false t

          first : TypedNode
          first = record { part = record { span = e.span; type = a; use_of = used_by by; compares = compared_by e by; inside = false }; block = None }

          by_use : PassesFirst i.mains i.helpers first (each_nodes false have) (left t) q → Taken (each_nodes false have) (left t') q
          by_use (first_other no_use later) =
              subst (λ r. Taken (each_nodes false have) r q) (sym (entered_left fun (layer e) e false t ∙ ap left (takes_none functions (tables_of p) locals effects (layer e) h ts a by is no_use t))) later
          by_use (first_called u uses later) =
              subst (λ r. Taken (each_nodes false have) r q) (sym (entered_left fun (layer e) e false t ∙ ap left (takes_use (layer e) h is (uses_function functions (tables_of p) locals effects h ts a u by uses) t))) later
      expr_finds {e = e} (lambda l params own_effects b is named moves body local) fine blocks t q passes one =
          by_level e (Node-F.Lambda l) t is refl
          (expr_finds body fine.1 (blocks_in e (Node-F.Lambda l) is blocks).0 _ q (behind (Node-F.Lambda l) e _ (nodes_of false body) t q refl refl passes) (behind_plain _ (nodes_of false body) refl one))
      expr_finds {e = e} (var x d rest b first last is before later) fine blocks t q passes one =
          let inner = blocks_in e (Node-F.Var x d rest) is blocks in
          by_level e (Node-F.Var x d rest) t is refl
          (two_find d rest before later fine.1 inner.0 _ q (behind (Node-F.Var x d rest) e _ (nodes_of false before ++ nodes_of false later) t q refl refl passes)
          (λ r some o. expr_finds before (each_front (IsFine i) (nodes_of false before) (nodes_of false later) fine.1) inner.0 _ r some o)
          (λ m some o. expr_finds later (each_back (IsFine i) (nodes_of false before) (nodes_of false later) fine.1) inner.1.0 m q some o)
          (behind_plain _ (nodes_of false before ++ nodes_of false later) refl one))
      expr_finds {e = e} (switch d cases row tags ts first bodies is before have same made local) fine blocks t q passes one =
          let inner = blocks_in e (Node-F.Switch d cases None) is blocks in
          by_level e (Node-F.Switch d cases None) t is refl
          (in_turn (nodes_of false before) (case_nodes false have) (visit fun d false) (λ m. all (map (visit fun) (bodies_of cases ++ [])) false m) (at_form (Node-F.Switch d cases None) e t) q
          (behind (Node-F.Switch d cases None) e _ (nodes_of false before ++ case_nodes false have) t q refl refl passes)
          (λ r taken. rest_of before (each_front (IsFine i) (nodes_of false before) (case_nodes false have) fine.1) inner.0 _ r taken)
          (λ r taken o. expr_finds before (each_front (IsFine i) (nodes_of false before) (case_nodes false have) fine.1) inner.0 _ r taken o)
          (λ m found. keeps_all (bodies_of cases ++ []) m found)
          (λ m taken o. subst (λ es. HasOne (all (map (visit fun) es) false m)) (sym (append-nil (bodies_of cases)))
          (cases_find have (each_back (IsFine i) (nodes_of false before) (case_nodes false have) fine.1) (each_front (AreBlocksOf p) (bodies_of cases) [] inner.1) m q taken o))
          (behind_plain _ (nodes_of false before ++ case_nodes false have) refl one))
      expr_finds {e = e} (switch_open d cases last rest row tags ts first bodies inside is before have same later made local) fine blocks t q passes one =
          let inner = blocks_in e (Node-F.Switch d cases (Some last)) is blocks in
          let both : List TypedNode = case_nodes false have ++ nodes_of false later in
          let fine_both = each_back (IsFine i) (nodes_of false before) both fine.1 in
          by_level e (Node-F.Switch d cases (Some last)) t is refl
          (in_turn (nodes_of false before) both (visit fun d false) (λ m. all (map (visit fun) (bodies_of cases ++ last.body ∷ [])) false m) (at_form (Node-F.Switch d cases (Some last)) e t) q
          (behind (Node-F.Switch d cases (Some last)) e _ (nodes_of false before ++ both) t q refl refl passes)
          (λ r taken. rest_of before (each_front (IsFine i) (nodes_of false before) both fine.1) inner.0 _ r taken)
          (λ r taken o. expr_finds before (each_front (IsFine i) (nodes_of false before) both fine.1) inner.0 _ r taken o)
          (λ m found. keeps_all (bodies_of cases ++ last.body ∷ []) m found)
          (λ m taken o. subst HasOne (sym (ap (λ go. go false m) (front_and fun (bodies_of cases) (last.body ∷ []))))
          (in_turn (case_nodes false have) (nodes_of false later) (all (map (visit fun) (bodies_of cases)) false) (visit fun last.body false) m q taken
          (λ r some. rest_of_cases have (each_front (IsFine i) (case_nodes false have) (nodes_of false later) fine_both) (each_front (AreBlocksOf p) (bodies_of cases) (last.body ∷ []) inner.1) m r some)
          (λ r some its. cases_find have (each_front (IsFine i) (case_nodes false have) (nodes_of false later) fine_both) (each_front (AreBlocksOf p) (bodies_of cases) (last.body ∷ []) inner.1) m r some its)
          (λ n found. keeps_one last.body n found)
          (λ n some its. expr_finds later (each_back (IsFine i) (case_nodes false have) (nodes_of false later) fine_both) (each_back (AreBlocksOf p) (bodies_of cases) (last.body ∷ []) inner.1).0 n q some its)
          o))
          (behind_plain _ (nodes_of false before ++ both) refl one))
      expr_finds {e = e} (for_list x d body b c first inside is before later) fine blocks t q passes one =
          let inner = blocks_in e (Node-F.ForList x d body) is blocks in
          by_level e (Node-F.ForList x d body) t is refl
          (two_find d body before later fine.1 inner.0 _ q (behind (Node-F.ForList x d body) e _ (nodes_of false before ++ nodes_of false later) t q refl refl passes)
          (λ r some o. expr_finds before (each_front (IsFine i) (nodes_of false before) (nodes_of false later) fine.1) inner.0 _ r some o)
          (λ m some o. expr_finds later (each_back (IsFine i) (nodes_of false before) (nodes_of false later) fine.1) inner.1.0 m q some o)
          (behind_plain _ (nodes_of false before ++ nodes_of false later) refl one))
      expr_finds {e = e} (for_table x rows body b c first inside is before later) fine blocks t q passes one =
          let inner = blocks_in e (Node-F.ForTable x rows body) is blocks in
          by_level e (Node-F.ForTable x rows body) t is refl
          (two_find rows body before later fine.1 inner.0 _ q (behind (Node-F.ForTable x rows body) e _ (nodes_of false before ++ nodes_of false later) t q refl refl passes)
          (λ r some o. expr_finds before (each_front (IsFine i) (nodes_of false before) (nodes_of false later) fine.1) inner.0 _ r some o)
          (λ m some o. expr_finds later (each_back (IsFine i) (nodes_of false before) (nodes_of false later) fine.1) inner.1.0 m q some o)
          (behind_plain _ (nodes_of false before ++ nodes_of false later) refl one))
      expr_finds {e = e} (query keys body b inside is before sorted scans owns) fine blocks t q passes (inl same) =
          own (query keys body b inside is before sorted scans owns) fine (nodes_of true before) (ap (λ (n : TypedNode). n ∷ nodes_of true before) same) (ap is_site is) t q (passes_block i.mains i.helpers _ (nodes_of true before) (left t) q refl (inside_nodes before) passes)
      expr_finds (query keys body b inside is before sorted scans owns) fine blocks t q passes (inr later) = absurd (none_inside (nodes_of true before) (inside_nodes before) later)
      expr_finds {effects = effects} (update change is changes writes) fine blocks t q passes (inl same) =
          own {effects = effects} (update change is changes writes) fine (change_nodes changes) (ap (λ (n : TypedNode). n ∷ change_nodes changes) same) (ap is_site is) t q (passes_block i.mains i.helpers _ (change_nodes changes) (left t) q refl (inside_change changes) passes)
      expr_finds (update change is changes writes) fine blocks t q passes (inr later) = absurd (none_inside (change_nodes changes) (inside_change changes) later)
      expr_finds {effects = effects} (delete change is changes writes) fine blocks t q passes (inl same) =
          own {effects = effects} (delete change is changes writes) fine (change_nodes changes) (ap (λ (n : TypedNode). n ∷ change_nodes changes) same) (ap is_site is) t q (passes_block i.mains i.helpers _ (change_nodes changes) (left t) q refl (inside_change changes) passes)
      expr_finds (delete change is changes writes) fine blocks t q passes (inr later) = absurd (none_inside (change_nodes changes) (inside_change changes) later)

      exprs_finds : {effects : EffectSet} {locals : Named Ground} {es : List Expr} {ts inside : List Ground} (d : HaveTypes functions (tables_of p) locals effects es ts inside) → Fine (each_nodes false d) → Each (AreBlocksOf p) es
          → (t : Tour) (q : Pending) → Taken (each_nodes false d) (left t) q → IsIn (each_nodes false d) → HasOne (all (map (visit fun) es) false t)
      exprs_finds none fine blocks t q passes one = absurd one
      exprs_finds (more {e = e} {es = es} inside rest first others) fine blocks t q passes one =
          in_turn (nodes_of false first) (each_nodes false others) (visit fun e false) (all (map (visit fun) es) false) t q passes
          (λ r some. rest_of first (each_front (IsFine i) (nodes_of false first) (each_nodes false others) fine) blocks.0 t r some)
          (λ r some o. expr_finds first (each_front (IsFine i) (nodes_of false first) (each_nodes false others) fine) blocks.0 t r some o)
          (λ m found. keeps_all es m found)
          (λ m some o. exprs_finds others (each_back (IsFine i) (nodes_of false first) (each_nodes false others) fine) blocks.1 m q some o)
          one

      cases_find : {effects : EffectSet} {locals : Named Ground} {cases : List Case} {ts : List Ground} {tags : Named Ground} {inside : List Ground} (d : HaveCases functions (tables_of p) locals effects cases ts tags inside) → Fine (case_nodes false d) → Each (AreBlocksOf p) (bodies_of cases)
          → (t : Tour) (q : Pending) → Taken (case_nodes false d) (left t) q → IsIn (case_nodes false d) → HasOne (all (map (visit fun) (bodies_of cases)) false t)
      cases_find no_cases fine blocks t q passes one = absurd one
      cases_find (case_of {case = case} {cases = cases} b bound inside rest held body others) fine blocks t q passes one =
          in_turn (nodes_of false body) (case_nodes false others) (visit fun case.body false) (all (map (visit fun) (bodies_of cases)) false) t q passes
          (λ r some. rest_of body (each_front (IsFine i) (nodes_of false body) (case_nodes false others) fine) blocks.0 t r some)
          (λ r some o. expr_finds body (each_front (IsFine i) (nodes_of false body) (case_nodes false others) fine) blocks.0 t r some o)
          (λ m found. keeps_all (bodies_of cases) m found)
          (λ m some o. cases_find others (each_back (IsFine i) (nodes_of false body) (case_nodes false others) fine) blocks.1 m q some o)
          one

-- ---- instances

module _ (p : Program) (i : Instances) (node : TypedNode) (outside : node.part.inside ≡ false) (its : Block) (block_is : node.block ≡ Some its) where
  in_one : (fun : ℕ) (f : GroundFun) (u : Use) (it : IsInstanceOf p i false (IsFine i) (function_of f) f u) (t : Tour) → OneOf (λ other. other ≡ node) (nodes_of false it.has.typed.body) → OneOf (IsFirstOf p i node) (in_instance fun f t).found
  in_one fun f u it t one =
      let nodes = nodes_of false it.has.typed.body in
      let taken : Passes i.mains i.helpers nodes (pending f.types f.calls) (pending [] []) =
      subst (λ types. Passes i.mains i.helpers nodes (pending types f.calls) (pending [] [])) (sym it.types) (passes_all i.mains i.helpers nodes f.calls it.calls) in
      expr_finds p i fun node outside its block_is it.has.functions it.has.typed.body it.nodes (function_blocks p (function_of f) it.has.declared)
      (record { label = t.label + 1; types = f.types; calls = f.calls; found = t.found }) (pending [] []) taken one

  in_some : (fun : ℕ) (fs : List GroundFun) (us : List Use) (are : AreInstancesOf p i false (λ u. IsFine i) fs us) (t : Tour) → OneOf (λ other. other ≡ node) (nodes_in are) → OneOf (IsFirstOf p i node) (in_instances fun fs t).found
  in_some fun _ _ AreInstancesOf.none t one = absurd one
  in_some fun _ _ (AreInstancesOf.more {f = f} {fs = fs} {u = u} {us = us} it others) t one =
      ⊎_elim (λ (o : OneOf (λ other. other ≡ node) (nodes_of false it.has.typed.body)). instances_keep (IsFirstOf p i node) (fun + 1) fs (in_instance fun f t) (in_one fun f u it t o))
      (λ (o : OneOf (λ other. other ≡ node) (nodes_in others)). in_some (fun + 1) fs us others (in_instance fun f t) o)
      (one_of_both (λ other. other ≡ node) (nodes_of false it.has.typed.body) (nodes_in others) one)

pub nodes_found : NodesFoundLaw
nodes_found p g has node listed outside its block_is =
    in_some p has.shaped.instances node outside its block_is 0 g.funs has.shaped.instances.mains has.mains start (subst (OneOf (λ other. other ≡ node)) has.nodes listed)
