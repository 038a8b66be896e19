-- The types of captured names: what a query or a change uses of a name from outside has the type that the name has there.
use Rattle.std.proofs.Common.{◌≡◌, ℕ, refl, sym, ap, ◌∙◌, subst, Bool, true, false, List, [], ◌∷◌, ◌++◌, drop, map, Some}
use Rattle.std.proofs.lemmas.Bool.{both_ways}
use Rattle.lk_ast.specs.Children.{exprs_of}
use Rattle.lk_ast.specs.Tables.{tables_of}
use Rattle.lk_ast.specs.declared.declaration.Program.{Program}
use Rattle.lk_ast.specs.declared.declaration.TableDecl.{TableDecl}
use Rattle.lk_ast.specs.declared.expression.ChangeExpr.{ChangeExpr, out-ChangeExpr}
use Rattle.lk_ast.specs.declared.expression.Expr.{Expr}
use Rattle.lk_ast.specs.declared.expression.Node.TheOpen.{Node-F}
use Rattle.lk_ast.specs.declared.place.Word.{Word}
use Rattle.lk_bodies.proofs.UsesLevels.{may_stand, own_use, plain_uses, uses_form, uses_in_change}
use Rattle.lk_bodies.specs.Uses.{Used, all, change_uses, query_uses, uses}
use Rattle.lk_bodies.specs.UsesSeen.{behind_type}
use Rattle.lk_ground_types.specs.Shapes.{is_query_type}
use Rattle.lk_index.specs.Free.{captured_change, captured_query, free, free_change}
use Rattle.lk_inline.proofs.QueryTypes.{variant_not_flat}
use Rattle.lk_inline.proofs.UsesFound.{AreBound, AreFound, among_found, behind_found, both_found, none_bound, none_found, one_bound, outside_found, these_found, use_found}
use Rattle.lk_sound.proofs.OrderedWords.{ordered_of}
use Rattle.lk_scope.specs.Names.{Names, bind, no_names}
use Rattle.lk_sites.proofs.Takes.{takes_split}
use Rattle.lk_sites.specs.Pending.{Pending, pending}
use Rattle.lk_sites.specs.Takes.{Takes}
use Rattle.lk_sites.specs.Takes as takes
use Rattle.lk_sound.proofs.FlatTypes.{unit_not_flat}
use Rattle.lk_sound.proofs.FreeLevels.{change_level, free_all, free_for_list, free_for_table, free_plain, free_query, free_var, own_uses}
use Rattle.lk_types.proofs.Members.{each_weaker, each_front, each_back}
use Rattle.lk_sound.proofs.Names.{IsAmong}
use Rattle.lk_sound.proofs.QueryParts.{AreQueryNodes, IsQueryNode}
use Rattle.lk_sound.specs.Nodes.{TypedNode, Use, change_nodes, each_nodes, nodes_of}
use Rattle.lk_types.specs.Each.{Each}
use Rattle.lk_types.specs.Rows.{Label, EffectSet}
use Rattle.lk_types.specs.declared.ground.Ground.{Ground}
use Rattle.lk_types.specs.declared.ty.Effect.TheVariants as effect
use Rattle.lk_typing.specs.Heads as operator
use Rattle.lk_typing.specs.Heads.{Head}
use Rattle.lk_typing.specs.Names.{Entry, Named, named}
use Rattle.lk_typing.specs.Rules.{Rule}
use Rattle.lk_typing.specs.Rules as rule
use Rattle.lk_typing.specs.Types.{record_of}
use Rattle.lk_typing.specs.Typing.{HasType, HaveTypes, IsChange, plain, lambda, var, switch, switch_open, for_list, for_table, query, update, delete, none, more, changed}

-- each has a type that may stand in a query
abbrev pub AreFlat : List TypedNode → Type 0
AreFlat nodes = Each (λ (node : TypedNode). is_query_type node.part.type ≡ true) nodes

pub flat_nodes : (p : Program) (helpers : List Use) (n : ℕ) (nodes : List TypedNode) → AreQueryNodes p helpers n nodes → AreFlat nodes
flat_nodes p helpers n nodes all = each_weaker (IsQueryNode p helpers n) (λ (node : TypedNode). is_query_type node.part.type ≡ true) (λ node is. is.type) nodes all

-- ---- what is taken for the first node

record TakesNode (helpers : List Use) (node : TypedNode) (nodes : List TypedNode) (p q : Pending) : Type 0 where
  types : List Ground
  calls : List ℕ
  own : p.types ≡ node.part.type ∷ types
  behind : Takes helpers nodes (pending types calls) q

takes_node : (helpers : List Use) (node : TypedNode) (nodes : List TypedNode) (p q : Pending) → Takes helpers (node ∷ nodes) p q → TakesNode helpers node nodes p q
takes_node helpers node nodes _ q (takes.other {types = types} {calls = calls} is rest) = record { types = types; calls = calls; own = refl; behind = rest }
takes_node helpers node nodes _ q (takes.called {types = types} {calls = calls} is at rest) = record { types = types; calls = calls; own = refl; behind = rest }

-- ---- operators

module _ (functions : Named (Entry Ground)) (tables : List TableDecl) where
  -- by its rule an operator may stand in a query
  stands : (locals : Named Ground) (effects : EffectSet) (h : Head) (ts : List Ground) (t : Ground) → effects effect.Local ≡ false → effects effect.Trap ≡ false → is_query_type t ≡ true → Rule functions tables locals effects h ts t → may_stand (Some h) ≡ true
  stands locals effects _ _ t own traps flat (rule.apply local) = absurd (both_ways (effects effect.Local) own local)
  stands locals effects _ _ _ own traps flat (rule.cons local) = absurd (both_ways (effects effect.Local) own local)
  stands locals effects _ _ _ own traps flat (rule.division may) = absurd (both_ways (effects effect.Trap) traps may)
  stands locals effects _ _ t own traps flat (rule.first may local) = absurd (both_ways (effects effect.Trap) traps may)
  stands locals effects _ _ _ own traps flat (rule.rest a may local) = absurd (both_ways (effects effect.Trap) traps may)
  stands locals effects _ _ _ own traps flat (rule.int_to_string local) = absurd (both_ways (effects effect.Local) own local)
  stands locals effects _ _ _ own traps flat (rule.print prints) = absurd (unit_not_flat flat)
  stands locals effects _ _ _ own traps flat (rule.tag other row made) = absurd (variant_not_flat row flat)
  stands locals effects _ _ _ own traps flat (rule.insert row has writes) = absurd (unit_not_flat flat)
  stands locals effects h ts t own traps flat by = refl

  -- the name that it uses itself
  own_found : (locals : Named Ground) (bound : List Label) (effects : EffectSet) (h : Head) (ts : List Ground) (t : Ground) → Rule functions tables locals effects h ts t → (types others : List Ground) → types ≡ t ∷ others
      → (names : Names) → AreBound names bound → (u : Used) → AreFound locals bound (own_uses (Some h) names) u u.types (own_use (Some h) types bound u)
  own_found locals bound effects _ _ t (rule.local {x = x} is) types others first names are u =
      these_found refl (ap (λ own. own_use (Some (operator.Local x)) own bound u) first) (use_found x t others names u are is)
  own_found locals bound effects h ts t by types others first names are u = none_found u

  -- ---- expressions

  module _ (helpers : List Use) where
    front_nodes : (xs ys : List TypedNode) → AreFlat (xs ++ ys) → AreFlat xs
    front_nodes xs ys flat = each_front (λ (node : TypedNode). is_query_type node.part.type ≡ true) xs ys flat

    back_nodes : (xs ys : List TypedNode) → AreFlat (xs ++ ys) → AreFlat ys
    back_nodes xs ys flat = each_back (λ (node : TypedNode). is_query_type node.part.type ≡ true) xs ys flat

    -- behind the first node
    behind_first : {locals : Named Ground} {bound : List Label} (node : TypedNode) (nodes : List TypedNode) (words : List Label) (u w : Used) (calls : List ℕ) (q : Pending) → Takes helpers (node ∷ nodes) (pending u.types calls) q
        → ((later : List ℕ) → Takes helpers nodes (pending (behind_type u).types later) q → AreFound locals bound words (behind_type u) q.types w) → AreFound locals bound words u q.types w
    behind_first node nodes words u w calls q takes found =
        let first = takes_node helpers node nodes (pending u.types calls) q takes in
        behind_found refl (found first.calls (subst (λ ts. Takes helpers nodes (pending ts first.calls) q) (sym (ap (drop 1) first.own)) first.behind))

    -- what is taken for these nodes, and then for those
    two_found : {locals : Named Ground} {bound : List Label} (xs ys : List TypedNode) (front back : List Label) (f g : Used → Used) (u : Used) (calls : List ℕ) (q : Pending) → Takes helpers (xs ++ ys) (pending u.types calls) q
        → ((r : Pending) → Takes helpers xs (pending u.types calls) r → AreFound locals bound front u r.types (f u))
        → ((v : Used) (later : List ℕ) → Takes helpers ys (pending v.types later) q → AreFound locals bound back v q.types (g v)) → AreFound locals bound (front ++ back) u q.types (g (f u))
    two_found xs ys front back f g u calls q takes one next =
        let split = takes_split helpers xs ys (pending u.types calls) q takes in
        let one_is = one split.0 split.1 in
        both_found one_is (next (f u) split.0.calls (subst (λ ts. Takes helpers ys (pending ts split.0.calls) q) (sym one_is.types_left) split.2))

    -- an expression, and then one in which a name is bound
    binder_found : {locals : Named Ground} {bound : List Label} (node : TypedNode) (xs ys : List TypedNode) (x : Word) (a : Ground) (d rest : Expr) (names : Names) (u : Used) (calls : List ℕ) (q : Pending) → Takes helpers (node ∷ (xs ++ ys)) (pending u.types calls) q
        → ((later : List ℕ) (r : Pending) → Takes helpers xs (pending (behind_type u).types later) r → AreFound locals bound (free d names) (behind_type u) r.types (uses d bound (behind_type u)))
        → ((v : Used) (later : List ℕ) → Takes helpers ys (pending v.types later) q → AreFound ((x.text, a) ∷ locals) (x.text ∷ bound) (free rest (bind x names)) v q.types (uses rest (x.text ∷ bound) v))
        → AreFound locals bound (free d names ++ free rest (bind x names)) u q.types (uses rest (x.text ∷ bound) (uses d bound (behind_type u)))
    binder_found {bound = bound} node xs ys x a d rest names u calls q takes one next =
        behind_first node (xs ++ ys) (free d names ++ free rest (bind x names)) u _ calls q takes
        (λ later takes. two_found xs ys (free d names) (free rest (bind x names)) (uses d bound) (uses rest (x.text ∷ bound)) (behind_type u) later q takes (one later) (λ v later takes. outside_found x.text a (next v later takes)))

    mutual
      unfolding nodes_of

      expr_found : {effects : EffectSet} {locals : Named Ground} {e : Expr} {t : Ground} {inside : List Ground} (flag : Bool) (d : HasType functions tables locals effects e t inside) → effects effect.Local ≡ false → effects effect.Trap ≡ false → AreFlat (nodes_of flag d)
          → (bound : List Label) (names : Names) → AreBound names bound → (u : Used) (calls : List ℕ) (q : Pending) → Takes helpers (nodes_of flag d) (pending u.types calls) q → AreFound locals bound (free e names) u q.types (uses e bound u)
      expr_found {effects = effects} {locals = locals} {e = e} {t = t} flag (plain h ts is have by) own traps flat bound names are u calls q takes =
          let first = takes_node helpers _ (each_nodes flag have) (pending u.types calls) q takes in
          let own_is = own_found locals bound effects h ts t by u.types first.types first.own names are (behind_type u) in
          let v : Used = own_use (Some h) u.types bound (behind_type u) in
          these_found (free_plain e h names is) (plain_uses e h is (stands locals effects h ts t own traps flat.0 by) bound u) (behind_first _ (each_nodes flag have) _ u _ calls q takes
          (λ later takes. both_found own_is (exprs_found flag have own traps flat.1 bound names are v later q (subst (λ ts. Takes helpers (each_nodes flag have) (pending ts later) q) (sym own_is.types_left) takes))))
      expr_found {effects = effects} flag (lambda l params own_effects a is named moves body local) own traps flat bound names are u calls q takes = absurd (both_ways (effects effect.Local) own local)
      expr_found {e = e} flag (var x d rest a first last is one next) own traps flat bound names are u calls q takes =
          these_found (free_var e x d rest names is) (uses_form e (Node-F.Var x d rest) is bound u) (binder_found _ (nodes_of flag one) (nodes_of flag next) x a d rest names u calls q takes
          (λ later r takes. expr_found flag one own traps (front_nodes (nodes_of flag one) (nodes_of flag next) flat.1) bound names are (behind_type u) later r takes)
          (λ v later takes. expr_found flag next own traps (back_nodes (nodes_of flag one) (nodes_of flag next) flat.1) (x.text ∷ bound) (bind x names) (one_bound x names bound are) v later q takes))
      expr_found {effects = effects} flag (switch d cases row tags ts first bodies is one have same made local) own traps flat bound names are u calls q takes = absurd (both_ways (effects effect.Local) own local)
      expr_found {effects = effects} flag (switch_open d cases last rest row tags ts first bodies inside is one have same next made local) own traps flat bound names are u calls q takes = absurd (both_ways (effects effect.Local) own local)
      expr_found {e = e} flag (for_list x d body a b first inside is one next) own traps flat bound names are u calls q takes =
          these_found (free_for_list e x d body names is) (uses_form e (Node-F.ForList x d body) is bound u) (binder_found _ (nodes_of flag one) (nodes_of flag next) x a d body names u calls q takes
          (λ later r takes. expr_found flag one own traps (front_nodes (nodes_of flag one) (nodes_of flag next) flat.1) bound names are (behind_type u) later r takes)
          (λ v later takes. expr_found flag next own traps (back_nodes (nodes_of flag one) (nodes_of flag next) flat.1) (x.text ∷ bound) (bind x names) (one_bound x names bound are) v later q takes))
      expr_found {e = e} flag (for_table x d body a b first inside is one next) own traps flat bound names are u calls q takes =
          these_found (free_for_table e x d body names is) (uses_form e (Node-F.ForTable x d body) is bound u) (binder_found _ (nodes_of flag one) (nodes_of flag next) x a d body names u calls q takes
          (λ later r takes. expr_found flag one own traps (front_nodes (nodes_of flag one) (nodes_of flag next) flat.1) bound names are (behind_type u) later r takes)
          (λ v later takes. expr_found flag next own traps (back_nodes (nodes_of flag one) (nodes_of flag next) flat.1) (x.text ∷ bound) (bind x names) (one_bound x names bound are) v later q takes))
      expr_found {e = e} flag (query keys body a inside is one sorted scans marked) own traps flat bound names are u calls q takes =
          these_found (free_query e keys body names is) (uses_form e (Node-F.Query keys body) is bound u) (behind_first _ (nodes_of true one) _ u _ calls q takes
          (λ later takes. expr_found true one refl refl flat.1 bound names are (behind_type u) later q takes))
      expr_found flag (update change is changes writes) own traps flat bound names are u calls q takes = absurd (unit_not_flat flat.0)
      expr_found flag (delete change is changes writes) own traps flat bound names are u calls q takes = absurd (unit_not_flat flat.0)

      exprs_found : {effects : EffectSet} {locals : Named Ground} {es : List Expr} {ts inside : List Ground} (flag : Bool) (d : HaveTypes functions tables locals effects es ts inside) → effects effect.Local ≡ false → effects effect.Trap ≡ false → AreFlat (each_nodes flag d)
          → (bound : List Label) (names : Names) → AreBound names bound → (u : Used) (calls : List ℕ) (q : Pending) → Takes helpers (each_nodes flag d) (pending u.types calls) q → AreFound locals bound (free_all es names) u q.types (all (map uses es) bound u)
      exprs_found flag none own traps flat bound names are u calls _ takes.none = none_found u
      exprs_found flag (more {e = e} {es = es} inside rest first others) own traps flat bound names are u calls q takes =
          two_found (nodes_of flag first) (each_nodes flag others) (free e names) (free_all es names) (uses e bound) (all (map uses es) bound) u calls q takes
          (λ r takes. expr_found flag first own traps (front_nodes (nodes_of flag first) (each_nodes flag others) flat) bound names are u calls r takes)
          (λ v later takes. exprs_found flag others own traps (back_nodes (nodes_of flag first) (each_nodes flag others) flat) bound names are v later q takes)

    -- a change, whose row's name is bound in its condition and in what is set
    change_found : {locals : Named Ground} {change : ChangeExpr} {inside : List Ground} (d : IsChange functions tables locals change inside) → AreFlat (change_nodes d) → (u : Used) (calls : List ℕ) (q : Pending) → Takes helpers (change_nodes d) (pending u.types calls) q
        → AreFound locals [] (free_change change no_names) u q.types
        (all (map uses (exprs_of (out-ChangeExpr change).sets)) ((out-ChangeExpr change).name.text ∷ []) (uses (out-ChangeExpr change).cond ((out-ChangeExpr change).name.text ∷ []) u))
    unfolding nodes_of
    change_found {change = change} (changed row sets ts cond rest rows of_cond of_sets labels each) flat u calls q takes =
        let x : Word = (out-ChangeExpr change).name in
        let bound : List Label = x.text ∷ [] in
        let values : List Expr = exprs_of (out-ChangeExpr change).sets in
        these_found (change_level change no_names) refl (outside_found x.text (record_of row)
        (two_found (nodes_of true of_cond) (each_nodes true of_sets) (free (out-ChangeExpr change).cond (bind x no_names)) (free_all values (bind x no_names)) (uses (out-ChangeExpr change).cond bound) (all (map uses values) bound) u calls q takes
        (λ r takes. expr_found true of_cond refl refl (front_nodes (nodes_of true of_cond) (each_nodes true of_sets) flat) bound (bind x no_names) (one_bound x no_names [] none_bound) u calls r takes)
        (λ v later takes. exprs_found true of_sets refl refl (back_nodes (nodes_of true of_cond) (each_nodes true of_sets) flat) bound (bind x no_names) (one_bound x no_names [] none_bound) v later q takes)))

-- ---- captured names

-- the name has a type round the expression, and its uses have that
abbrev pub IsTypedUse : Named Ground → Named Ground → Label → Type 0
IsTypedUse found locals x = (t : Ground) × (named x found ≡ named x locals) × (named x locals ≡ Some t)

found_typed : (locals : Named Ground) (words : List Label) (types left : List Ground) (v : Used) (entries : Named Ground) → AreFound locals [] words (record { found = []; types = types }) left v → entries ≡ v.found → (x : Label) → IsAmong x words → IsTypedUse entries locals x
found_typed locals words types left v entries all is x among =
    let one = among_found locals [] all.more x all.each (subst (IsAmong x) (sym all.are) among) in
    (one.0, ap (named x) (is ∙ all.found) ∙ one.1 ∙ sym one.2, one.2)

module _ (p : Program) (helpers : List Use) (n : ℕ) {functions : Named (Entry Ground)} where
  -- what a query captures
  pub uses_typed : {effects : EffectSet} {locals : Named Ground} {e : Expr} {t : Ground} {inside : List Ground} (flag : Bool) (d : HasType functions (tables_of p) locals effects e t inside)
      → effects effect.Local ≡ false → effects effect.Trap ≡ false → AreQueryNodes p helpers n (nodes_of flag d) → (types : List Ground) (calls : List ℕ) (q : Pending) → Takes helpers (nodes_of flag d) (pending types calls) q
      → (x : Label) → IsAmong x (captured_query e) → IsTypedUse (query_uses e types) locals x
  uses_typed {locals = locals} {e = e} flag d own traps nodes types calls q takes x among =
      found_typed locals (free e no_names) types q.types _ (query_uses e types)
      (expr_found functions (tables_of p) helpers flag d own traps (flat_nodes p helpers n (nodes_of flag d) nodes) [] no_names none_bound (record { found = []; types = types }) calls q takes) refl
      x (ordered_of (free e no_names) x among)

  -- what a change captures
  pub change_typed : {locals : Named Ground} {change : ChangeExpr} {inside : List Ground} (d : IsChange functions (tables_of p) locals change inside) → AreQueryNodes p helpers n (change_nodes d) → (types : List Ground) (calls : List ℕ) (q : Pending)
      → Takes helpers (change_nodes d) (pending types calls) q → (x : Label) → IsAmong x (captured_change change) → IsTypedUse (change_uses change types) locals x
  change_typed {locals = locals} {change = change} d nodes types calls q takes x among =
      found_typed locals (free_change change no_names) types q.types _ (change_uses change types)
      (change_found functions (tables_of p) helpers d (flat_nodes p helpers n (change_nodes d) nodes) (record { found = []; types = types }) calls q takes) (uses_in_change change types)
      x (ordered_of (free_change change no_names) x among)
