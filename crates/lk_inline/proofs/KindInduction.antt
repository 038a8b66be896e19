-- The kinds of what a walk makes of an expression of a query, by its typing.
use Rattle.std.proofs.Common.{◌≡◌, ℕ, Bool, true, false, List, ◌∷◌, ◌++◌, drop, map, Some, None, refl, sym, ◌∙◌, ap, subst}
use Rattle.std.proofs.lemmas.Bool.{both_ways}
use Rattle.lk_ast.specs.Layers.{layer}
use Rattle.lk_ast.specs.Tables.{tables_of}
use Rattle.lk_ast.specs.declared.declaration.Program.{Program}
use Rattle.lk_ast.specs.declared.expression.Expr.{Expr}
use Rattle.lk_ast.specs.declared.expression.Node.TheOpen.{Node-F}
use Rattle.lk_ast.specs.declared.place.Word.{Word}
use Rattle.lk_bodies.specs.Walk.{Calls, Made, State, all, behind_type, walk}
use Rattle.lk_ground_types.specs.Shapes.{is_query_type}
use Rattle.lk_inline.proofs.CallArms.{TakesFirst, called, other, takes_behind, takes_first}
use Rattle.lk_inline.proofs.Inducing.{walk_form}
use Rattle.lk_inline.proofs.Induction.{CallLayer, UsesBy, call, call_layer, function, next_type, uses_by}
use Rattle.lk_inline.proofs.KindCalls.{CallsKinded, call_kinded}
use Rattle.lk_inline.proofs.KindForms.{type_columns}
use Rattle.lk_inline.proofs.KindLoops.{loop_form}
use Rattle.lk_inline.proofs.KindNodes.{AreOrderedNodes}
use Rattle.lk_inline.proofs.KindOperators.{operator_kinded}
use Rattle.lk_inline.proofs.KindSteps.{kind_behind, known_bound, known_later, more_kinded, none_kinded}
use Rattle.lk_inline.proofs.KindsMade.{AreDescribed, AreKinded, AreKnown, Descriptions, IsKinded, Scope}
use Rattle.lk_inline.proofs.Making.{all_more, left}
use Rattle.lk_inline.proofs.QueryTypes.{list_rows, rows_flat}
use Rattle.lk_inline.specs.KindsOfTypes.{IsInOrder}
use Rattle.lk_query.specs.Order.{AreOrdered}
use Rattle.lk_sites.proofs.Takes.{takes_split}
use Rattle.lk_sites.specs.Pending.{Pending, pending}
use Rattle.lk_sites.specs.Takes.{Takes}
use Rattle.lk_sound.proofs.FlatTypes.{function_not_flat, unit_not_flat}
use Rattle.lk_types.proofs.Members.{each_in, each_front, each_back}
use Rattle.lk_sound.proofs.QueryParts.{AreQueryNodes, IsEarly, IsQueryNode, node_type, part_types}
use Rattle.lk_sound.specs.Instances.{AreClosed, HasBody, Instances, IsHelperNode}
use Rattle.lk_sound.specs.Nodes.{TypedNode, Use, compared_by, each_nodes, nodes_of, used_by}
use Rattle.lk_types.specs.Each.{Each}
use Rattle.lk_types.specs.Rows.{EffectSet, Label}
use Rattle.lk_types.specs.declared.ground.Ground.{Ground}
use Rattle.lk_types.specs.declared.ground.Ground.TheVariants as known_type
use Rattle.lk_types.specs.declared.ty.Effect.TheVariants as effect
use Rattle.lk_typing.specs.Heads.{parts}
use Rattle.lk_typing.specs.Names.{Entry, Named, types_of}
use Rattle.lk_typing.specs.Typing.{HasType, HaveTypes, delete, expr_of, for_list, for_table, label_of, lambda, more, none, plain, query, switch, switch_open, update, var}

-- ---- forms that bind names, and queries

module _ (scope : Scope) (scans : Bool) (makes : Calls) (e : Expr) (numbers : Named ℕ) (known : Descriptions) (s : State) where
  -- a statement that binds a name, and what follows
  var_kinded : (x : Word) (d rest : Expr) (a t : Ground) (q r : Pending) → layer e ≡ Node-F.Var x d rest → (one : IsKinded scope scans a known (behind_type s) q (walk makes d numbers (behind_type s)))
      → IsKinded scope scans t one.has.later (walk makes d numbers (behind_type s)).state r (walk makes rest ((x.text, (walk makes d numbers (behind_type s)).part) ∷ numbers) (walk makes d numbers (behind_type s)).state)
      → IsKinded scope scans t known s r (walk makes e numbers s)
  var_kinded x d rest a t q r is one next =
      let m : Made = walk makes d numbers (behind_type s) in
      let n : Made = walk makes rest ((x.text, m.part) ∷ numbers) m.state in
      subst (λ w. IsKinded scope scans t known s r w) (sym (walk_form makes e (Node-F.Var x d rest) is numbers s))
      (record { left = next.left; has = kind_behind scope scans t known one.has.later s.parts m.state.parts n.part n.state.parts one.has.adds next.has })

  -- where a nested query stands tables may be read
  query_quiet : (inner : Bool) (t : Ground) (q : Pending) (m : Made) → scans ≡ true → IsKinded scope inner t known (behind_type s) q m → IsKinded scope scans t known s q m
  query_quiet inner t q m may is = record {
    left = is.left;
    has = record {
      later = is.has.later;
      adds = record {
        grows = is.has.adds.grows;
        ordered = is.has.adds.ordered;
        same = is.has.adds.same;
        typed = is.has.adds.typed;
        quiet = λ off none. absurd (both_ways scans off may);
      };
      within = is.has.within;
      is = is.has.is;
    };
  }

module _ (p : Program) (i : Instances) (closed : AreClosed p i) (makes : Calls) (n : ℕ) (calls_kinded : CallsKinded p i makes n) (functions : Named (Entry Ground)) where
  abbrev Nodes : List TypedNode → Type 0
  Nodes nodes = AreQueryNodes p i.helpers n nodes

  front_nodes : (xs ys : List TypedNode) → Nodes (xs ++ ys) → Nodes xs
  front_nodes xs ys nodes = each_front (IsQueryNode p i.helpers n) xs ys nodes

  back_nodes : (xs ys : List TypedNode) → Nodes (xs ++ ys) → Nodes ys
  back_nodes xs ys nodes = each_back (IsQueryNode p i.helpers n) xs ys nodes

  front_order : (xs ys : List TypedNode) → AreOrderedNodes (xs ++ ys) → AreOrderedNodes xs
  front_order xs ys order = each_front (λ (node : TypedNode). IsInOrder node.part.type) xs ys order

  back_order : (xs ys : List TypedNode) → AreOrderedNodes (xs ++ ys) → AreOrderedNodes ys
  back_order xs ys order = each_back (λ (node : TypedNode). IsInOrder node.part.type) xs ys order

  -- what is taken for a node that uses no function, and what is behind
  taken_behind : (node : TypedNode) (nodes : List TypedNode) (s : State) (q : Pending) → node.part.use_of ≡ None → TakesFirst i.helpers node nodes (left s) q → Takes i.helpers nodes (left (behind_type s)) q
  taken_behind node nodes s q no_use (other types used own behind) = takes_behind i.helpers nodes s q node.part.type types own behind
  taken_behind node nodes s q no_use (called types calls u h used at own calls_are behind) = let wrong : None ≡ Some u = sym no_use ∙ used in absurd cc

  no_function : (g : Label) (t : Ground) (u : Use) → u ≡ record { name = g; type = t } → is_query_type t ≡ true → IsEarly p i.helpers n u → ⊥
  no_function g t u is flat early =
      let body : HasBody p (IsHelperNode p i.helpers u) u = each_in (λ w. HasBody p (IsHelperNode p i.helpers w) w) i.helpers u early.0 closed.helpers in
      function_not_flat (types_of body.has.typed.params) body.has.typed.effects body.has.typed.answer (subst (λ w. is_query_type w ≡ true) (sym (ap (λ (u : Use). u.type) is) ∙ body.has.typed.is) flat)

  mutual
    unfolding nodes_of

    pub expr_kinded : {effects : EffectSet} {locals : Named Ground} {e : Expr} {t : Ground} {inside : List Ground} (flag : Bool) (d : HasType functions (tables_of p) locals effects e t inside)
        → effects effect.Local ≡ false → effects effect.Trap ≡ false → Nodes (nodes_of flag d) → AreOrderedNodes (nodes_of flag d) → (scope : Scope) (known : Descriptions) (numbers : Named ℕ) (s : State) (q : Pending)
        → AreOrdered s.parts → AreDescribed known s.parts → AreKnown scope known locals numbers s.parts → Takes i.helpers (nodes_of flag d) (left s) q → IsKinded scope (effects effect.Scan) t known s q (walk makes e numbers s)
    expr_kinded {effects = effects} {locals = locals} {e = e} {t = t} flag (plain h ts is have by) own traps nodes order scope known numbers s q ordered typed have_known takes =
        by_use (takes_first i.helpers node (each_nodes flag have) (left s) q takes) (exprs_kinded flag have own traps nodes.1 order.1 scope known numbers)
      where
        node : TypedNode
        node = record { part = record { span = e.span; type = t; use_of = used_by by; compares = compared_by e by; inside = flag }; block = None }

        flat : is_query_type t ≡ true
        flat = nodes.0.type

        flats : Each (λ u. is_query_type u ≡ true) ts
        flats = part_types p i.helpers n flag have nodes.1

        by_use : TakesFirst i.helpers node (each_nodes flag have) (left s) q
            → ((s : State) (q : Pending) → AreOrdered s.parts → AreDescribed known s.parts → AreKnown scope known locals numbers s.parts → Takes i.helpers (each_nodes flag have) (left s) q
            → AreKinded scope (effects effect.Scan) ts known s q (all (map (walk makes) (parts label_of expr_of (layer e))) numbers s))
            → IsKinded scope (effects effect.Scan) t known s q (walk makes e numbers s)
        by_use (other types used own_type behind) parts_kinded =
            let rest : Takes i.helpers (each_nodes flag have) (left (behind_type s)) q = takes_behind i.helpers (each_nodes flag have) s q t types own_type behind in
            operator_kinded functions (tables_of p) locals effects scope makes e numbers known s q own traps ordered typed have_known (layer e) h ts t types refl is
            (record { by = by; uses = used; compares = nodes.0.compares }) own_type flat order.0 flats (λ u us same. next_type i.helpers flag have (left (behind_type s)) q rest u us same)
            (parts_kinded (behind_type s) q ordered typed have_known rest)
        by_use (called types later u hn used at own_type calls_are behind) parts_kinded = by_rule (uses_by functions (tables_of p) locals effects h ts t u by used)
          where
            inner : State
            inner = record { parts = s.parts; types = drop 1 s.types; calls = later }

            rest : Takes i.helpers (each_nodes flag have) (left inner) q
            rest = subst (λ ts. Takes i.helpers (each_nodes flag have) (pending ts later) q) (sym (ap (drop 1) own_type)) behind

            by_rule : UsesBy h ts effects t u → IsKinded scope (effects effect.Scan) t known s q (walk makes e numbers s)
            by_rule (function g head_is use_is) = absurd (no_function g t u use_is flat (nodes.0.calls u used))
            by_rule (call g head_is use_is) =
                let found : CallLayer (layer e) g = call_layer (layer e) h g is head_is in
                call_kinded scope (effects effect.Scan) makes e found.word found.args ts t numbers known s q hn later found.is calls_are
                (subst (λ l. AreKinded scope (effects effect.Scan) ts known inner q (all (map (walk makes) (parts label_of expr_of l)) numbers inner)) found.is (parts_kinded inner q ordered typed have_known rest))
                (calls_kinded u (nodes.0.calls u used) hn at ts effects t (ap (λ (u : Use). u.type) use_is) own traps)
    expr_kinded {effects = effects} flag (lambda l params own_effects a is named moves body local) own traps nodes order scope known numbers s q ordered typed have_known takes = absurd (both_ways (effects effect.Local) own local)
    expr_kinded {effects = effects} {locals = locals} {e = e} {t = t} flag (var x d rest a first last is one next) own traps nodes order scope known numbers s q ordered typed have_known takes =
        let behind = taken_behind _ (nodes_of flag one ++ nodes_of flag next) s q refl (takes_first i.helpers _ (nodes_of flag one ++ nodes_of flag next) (left s) q takes) in
        let split = takes_split i.helpers (nodes_of flag one) (nodes_of flag next) (left (behind_type s)) q behind in
        let m : Made = walk makes d numbers (behind_type s) in
        let first_kinded =
        expr_kinded flag one own traps (front_nodes (nodes_of flag one) (nodes_of flag next) nodes.1) (front_order (nodes_of flag one) (nodes_of flag next) order.1) scope known numbers (behind_type s) split.0 ordered typed have_known split.1 in
        var_kinded scope (effects effect.Scan) makes e numbers known s x d rest a t split.0 q is first_kinded
        (expr_kinded flag next own traps (back_nodes (nodes_of flag one) (nodes_of flag next) nodes.1) (back_order (nodes_of flag one) (nodes_of flag next) order.1) scope first_kinded.has.later ((x.text, m.part) ∷ numbers) m.state q
        first_kinded.has.adds.ordered first_kinded.has.adds.typed
        (known_bound x.text a m.part scope first_kinded.has.later locals numbers m.state.parts first_kinded.has.within first_kinded.has.is
        (known_later scope known first_kinded.has.later locals numbers s.parts m.state.parts (effects effect.Scan) first_kinded.has.adds have_known))
        (subst (λ l. Takes i.helpers (nodes_of flag next) l q) (sym first_kinded.left) split.2))
    expr_kinded {effects = effects} flag (switch d cases row tags ts first bodies is one have same made local) own traps nodes order scope known numbers s q ordered typed have_known takes = absurd (both_ways (effects effect.Local) own local)
    expr_kinded {effects = effects} flag (switch_open d cases last rest row tags ts first bodies inside is one have same next made local) own traps nodes order scope known numbers s q ordered typed have_known takes = absurd (both_ways (effects effect.Local) own local)
    expr_kinded {effects = effects} {locals = locals} {e = e} flag (for_list x d body a b first inside is one next) own traps nodes order scope known numbers s q ordered typed have_known takes =
        let behind = taken_behind _ (nodes_of flag one ++ nodes_of flag next) s q refl (takes_first i.helpers _ (nodes_of flag one ++ nodes_of flag next) (left s) q takes) in
        let split = takes_split i.helpers (nodes_of flag one) (nodes_of flag next) (left (behind_type s)) q behind in
        let list_nodes = front_nodes (nodes_of flag one) (nodes_of flag next) nodes.1 in
        loop_form scope (effects effect.Scan) makes e numbers known s locals x d body a b split.0 q (walk_form makes e (Node-F.ForList x d body) is numbers s) (rows_flat a (list_rows a (node_type p i.helpers n flag one list_nodes)))
        (list_rows b nodes.0.type) (type_columns (known_type.List b) nodes.0.type order.0) have_known
        (expr_kinded flag one own traps list_nodes (front_order (nodes_of flag one) (nodes_of flag next) order.1) scope known numbers (behind_type s) split.0 ordered typed have_known split.1)
        (λ inside_it with_it names bound left_is ordered typed have_known.
        expr_kinded flag next own traps (back_nodes (nodes_of flag one) (nodes_of flag next) nodes.1) (back_order (nodes_of flag one) (nodes_of flag next) order.1) inside_it with_it names bound q ordered typed have_known
        (subst (λ l. Takes i.helpers (nodes_of flag next) l q) (sym left_is) split.2))
    expr_kinded {effects = effects} {locals = locals} {e = e} flag (for_table x d body a b first inside is one next) own traps nodes order scope known numbers s q ordered typed have_known takes =
        let behind = taken_behind _ (nodes_of flag one ++ nodes_of flag next) s q refl (takes_first i.helpers _ (nodes_of flag one ++ nodes_of flag next) (left s) q takes) in
        let split = takes_split i.helpers (nodes_of flag one) (nodes_of flag next) (left (behind_type s)) q behind in
        let list_nodes = front_nodes (nodes_of flag one) (nodes_of flag next) nodes.1 in
        loop_form scope (effects effect.Scan) makes e numbers known s locals x d body a b split.0 q (walk_form makes e (Node-F.ForTable x d body) is numbers s) (rows_flat a (list_rows a (node_type p i.helpers n flag one list_nodes)))
        (list_rows b nodes.0.type) (type_columns (known_type.List b) nodes.0.type order.0) have_known
        (expr_kinded flag one own traps list_nodes (front_order (nodes_of flag one) (nodes_of flag next) order.1) scope known numbers (behind_type s) split.0 ordered typed have_known split.1)
        (λ inside_it with_it names bound left_is ordered typed have_known.
        expr_kinded flag next own traps (back_nodes (nodes_of flag one) (nodes_of flag next) nodes.1) (back_order (nodes_of flag one) (nodes_of flag next) order.1) inside_it with_it names bound q ordered typed have_known
        (subst (λ l. Takes i.helpers (nodes_of flag next) l q) (sym left_is) split.2))
    expr_kinded {effects = effects} {locals = locals} {e = e} flag (query keys body a inside is one sorted scans marked) own traps nodes order scope known numbers s q ordered typed have_known takes =
        subst (λ w. IsKinded scope (effects effect.Scan) (known_type.List a) known s q w) (sym (walk_form makes e (Node-F.Query keys body) is numbers s))
        (query_quiet scope (effects effect.Scan) makes e numbers known s true (known_type.List a) q (walk makes body numbers (behind_type s)) scans
        (expr_kinded true one refl refl nodes.1 order.1 scope known numbers (behind_type s) q ordered typed have_known (taken_behind _ (nodes_of true one) s q refl (takes_first i.helpers _ (nodes_of true one) (left s) q takes))))
    expr_kinded flag (update change is changes writes) own traps nodes order scope known numbers s q ordered typed have_known takes = absurd (unit_not_flat nodes.0.type)
    expr_kinded flag (delete change is changes writes) own traps nodes order scope known numbers s q ordered typed have_known takes = absurd (unit_not_flat nodes.0.type)

    pub exprs_kinded : {effects : EffectSet} {locals : Named Ground} {es : List Expr} {ts inside : List Ground} (flag : Bool) (d : HaveTypes functions (tables_of p) locals effects es ts inside)
        → effects effect.Local ≡ false → effects effect.Trap ≡ false → Nodes (each_nodes flag d) → AreOrderedNodes (each_nodes flag d) → (scope : Scope) (known : Descriptions) (numbers : Named ℕ) (s : State) (q : Pending)
        → AreOrdered s.parts → AreDescribed known s.parts → AreKnown scope known locals numbers s.parts → Takes i.helpers (each_nodes flag d) (left s) q → AreKinded scope (effects effect.Scan) ts known s q (all (map (walk makes) es) numbers s)
    exprs_kinded {effects = effects} flag none own traps nodes order scope known numbers s _ ordered typed have_known Takes.none = none_kinded scope (effects effect.Scan) known s ordered typed
    exprs_kinded {effects = effects} {locals = locals} {es = es} flag (more {e = e} {es = rest_es} {t = t} {ts = ts} inside rest first others) own traps nodes order scope known numbers s q ordered typed have_known takes =
        let split = takes_split i.helpers (nodes_of flag first) (each_nodes flag others) (left s) q takes in
        let m : Made = walk makes e numbers s in
        let one = expr_kinded flag first own traps (front_nodes (nodes_of flag first) (each_nodes flag others) nodes) (front_order (nodes_of flag first) (each_nodes flag others) order) scope known numbers s split.0 ordered typed have_known split.1 in
        subst (λ w. AreKinded scope (effects effect.Scan) (t ∷ ts) known s q w) (sym (all_more (walk makes e) (map (walk makes) rest_es) numbers s))
        (more_kinded scope (effects effect.Scan) t ts known s split.0 q m (all (map (walk makes) rest_es) numbers m.state) one
        (exprs_kinded flag others own traps (back_nodes (nodes_of flag first) (each_nodes flag others) nodes) (back_order (nodes_of flag first) (each_nodes flag others) order) scope one.has.later numbers m.state q one.has.adds.ordered one.has.adds.typed
        (known_later scope known one.has.later locals numbers s.parts m.state.parts (effects effect.Scan) one.has.adds have_known)
        (subst (λ l. Takes i.helpers (each_nodes flag others) l q) (sym one.left) split.2)))
