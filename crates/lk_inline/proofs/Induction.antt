-- What a walk makes of an expression of a query, by its typing: parts that stand for what it gives.
use Rattle.std.proofs.Common.{◌≡◌, ℕ, Bool, true, false, List, [], ◌∷◌, ◌++◌, drop, length, map, Some, None, refl, sym, ◌∙◌, ap, subst}
use Rattle.std.proofs.lemmas.Bool.{both_ways}
use Rattle.lk_ast.specs.Layers.{Layer, layer}
use Rattle.lk_ast.specs.Tables.{Tables, tables_of}
use Rattle.lk_ast.specs.declared.declaration.Program.{Program}
use Rattle.lk_ast.specs.declared.declaration.TableDecl.{TableDecl}
use Rattle.lk_ast.specs.declared.expression.Expr.{Expr}
use Rattle.lk_ast.specs.declared.expression.Node.TheOpen.{Node-F}
use Rattle.lk_ast.specs.declared.place.Word.{Word}
use Rattle.lk_ast.specs.declared.value.Value.{Value}
use Rattle.lk_bag.proofs.Given.{all_given, given_for_list, given_for_table}
use Rattle.lk_bag.specs.Bag.{for_each, given, items}
use Rattle.lk_bodies.specs.Walk.{Calls, Made, State, add, all, behind_type, walk}
use Rattle.lk_ground_types.specs.Shapes.{is_query_type}
use Rattle.lk_inline.proofs.Adding.{at_end, grows_one, ordered_add}
use Rattle.lk_inline.proofs.CallArms.{CallsMade, TakesFirst, call_arm, called, other, takes_behind, takes_first}
use Rattle.lk_inline.proofs.Following.{operator_made}
use Rattle.lk_inline.proofs.Inducing.{number_bound, query_made, var_made, walk_form}
use Rattle.lk_inline.proofs.Looping.{loop_made}
use Rattle.lk_inline.proofs.Making.{AreMade, HaveNumbers, IsMade, all_more, left, more_made, none_made, numbers_grow, same_value}
use Rattle.lk_inline.proofs.Operating.{from_behind}
use Rattle.lk_inline.proofs.QueryTypes.{list_rows, rows_flat}
use Rattle.lk_locals.specs.Names.{Names}
use Rattle.lk_query.specs.Order.{AreOrdered}
use Rattle.lk_query.specs.declared.part.Part.TheVariants as part
use Rattle.lk_sites.proofs.Takes.{takes_split}
use Rattle.lk_sites.specs.Pending.{Pending, pending}
use Rattle.lk_sites.specs.Takes.{Takes}
use Rattle.lk_sound.proofs.Bags.{parts_fit, value_fits}
use Rattle.lk_sound.proofs.FlatTypes.{function_not_flat, unit_not_flat}
use Rattle.lk_types.proofs.Members.{each_in, each_front, each_back}
use Rattle.lk_sound.proofs.QueryParts.{AreQueryNodes, IsEarly, IsQueryNode, node_type, part_types}
use Rattle.lk_sound.proofs.QueryValues.{CallsFit}
use Rattle.lk_sound.specs.Instances.{AreClosed, HasBody, Instances, IsHelperNode}
use Rattle.lk_sound.specs.Nodes.{TypedNode, Use, compared_by, each_nodes, nodes_of, used_by}
use Rattle.lk_sound.specs.Points.{AreLocals}
use Rattle.lk_sound.specs.Tables.{AreTables}
use Rattle.lk_sound.specs.Values.{FitEach}
use Rattle.lk_types.specs.Each.{Each}
use Rattle.lk_types.specs.Rows.{Label, EffectSet}
use Rattle.lk_types.specs.declared.ground.Ground.{Ground}
use Rattle.lk_types.specs.declared.ground.Ground.TheVariants as known
use Rattle.lk_types.specs.declared.ty.Effect.TheVariants as effect
use Rattle.lk_typing.specs.Heads as operator
use Rattle.lk_typing.specs.Heads.{Head, head, parts}
use Rattle.lk_typing.specs.Names.{Entry, Named, types_of}
use Rattle.lk_typing.specs.Rules.{Rule}
use Rattle.lk_typing.specs.Rules as rule
use Rattle.lk_typing.specs.Types.{function_of}
use Rattle.lk_typing.specs.Typing.{HasType, HaveTypes, label_of, expr_of, plain, lambda, var, switch, switch_open, for_list, for_table, query, update, delete, none, more}

-- ---- the first node

record FirstNode (nodes : List TypedNode) (t : Ground) : Type 0 where
  node : TypedNode
  rest : List TypedNode
  are : nodes ≡ node ∷ rest
  type : node.part.type ≡ t

module _ {functions : Named (Entry Ground)} {tables : List TableDecl} where
  first_node : {names : Named Ground} {effects : EffectSet} {e : Expr} {t : Ground} {inside : List Ground} (b : Bool) (d : HasType functions tables names effects e t inside) → FirstNode (nodes_of b d) t
  unfolding nodes_of
  first_node b (plain h ts is have by) = record { node = _; rest = _; are = refl; type = refl }
  first_node b (lambda l params own a is named moves body local) = record { node = _; rest = _; are = refl; type = refl }
  first_node b (var x d rest a first last is one then) = record { node = _; rest = _; are = refl; type = refl }
  first_node b (switch d cases row tags ts first bodies is one have same made local) = record { node = _; rest = _; are = refl; type = refl }
  first_node b (switch_open d cases last rest row tags ts first bodies inside is one have same then made local) = record { node = _; rest = _; are = refl; type = refl }
  first_node b (for_list x d body a c first inside is one then) = record { node = _; rest = _; are = refl; type = refl }
  first_node b (for_table x rows body a c first inside is one then) = record { node = _; rest = _; are = refl; type = refl }
  first_node b (query keys body a inside is one sorted scans own) = record { node = _; rest = _; are = refl; type = refl }
  first_node b (update change is changes writes) = record { node = _; rest = _; are = refl; type = refl }
  first_node b (delete change is changes writes) = record { node = _; rest = _; are = refl; type = refl }

  -- the type of the first of several is the next one
  pub next_type : {names : Named Ground} {effects : EffectSet} {es : List Expr} {ts inside : List Ground} (helpers : List Use) (b : Bool) (d : HaveTypes functions tables names effects es ts inside) (p q : Pending) → Takes helpers (each_nodes b d) p q
      → (u : Ground) (us : List Ground) → ts ≡ u ∷ us → (others : List Ground) × (p.types ≡ u ∷ others)
  unfolding nodes_of
  next_type helpers b none p q takes u us same = let wrong : [] ≡ u ∷ us = same in absurd cc
  next_type helpers b (more {t = t} {ts = ts} inside rest first others) p q takes u us same =
      let found = first_node b first in
      let type_is : t ≡ u = cc in
      by found.node (found.rest ++ each_nodes b others) (found.type ∙ type_is) (takes_first helpers found.node (found.rest ++ each_nodes b others) p q (subst (λ nodes. Takes helpers nodes p q) (ap (λ nodes. nodes ++ each_nodes b others) found.are) takes))
    where
      by : (node : TypedNode) (nodes : List TypedNode) → node.part.type ≡ u → TakesFirst helpers node nodes p q → (others : List Ground) × (p.types ≡ u ∷ others)
      by node nodes is (other types used own behind) = (types, own ∙ ap (λ t. t ∷ types) is)
      by node nodes is (called types calls used_of h used at own calls_are behind) = (types, own ∙ ap (λ t. t ∷ types) is)

-- ---- which rules use functions

pub data UsesBy (h : Head) (ts : List Ground) (effects : EffectSet) (t : Ground) (u : Use) : Type 0 where
  function : (g : Label) → h ≡ operator.Function g → u ≡ record { name = g; type = t } → UsesBy h ts effects t u
  call : (g : Label) → h ≡ operator.Call g → u ≡ record { name = g; type = function_of ts effects t } → UsesBy h ts effects t u

pub uses_by : (functions : Named (Entry Ground)) (tables : List TableDecl) (names : Named Ground) (effects : EffectSet) (h : Head) (ts : List Ground) (t : Ground) (u : Use) (r : Rule functions tables names effects h ts t) → used_by r ≡ Some u → UsesBy h ts effects t u
uses_by functions tables names effects _ _ t u (rule.function {g = g} may) is = function g refl (let same : record { name = g; type = t } ≡ u = cc in sym same)
uses_by functions tables names effects _ ts t u (rule.call {g = g} may) is = call g refl (let same : record { name = g; type = function_of ts effects t } ≡ u = cc in sym same)
uses_by functions tables names effects h ts t u by is = absurd cc

pub record CallLayer (l : Layer) (g : Label) : Type 0 where
  pub word : Word
  pub args : List Expr
  pub is : l ≡ Node-F.Call word args
  pub named : word.text ≡ g

pub call_layer : (l : Layer) (h : Head) (g : Label) → head label_of expr_of l ≡ Some h → h ≡ operator.Call g → CallLayer l g
call_layer (Node-F.Call word args) h g is call_is = let same : operator.Call word.text ≡ operator.Call g = cc in record { word = word; args = args; is = refl; named = let it : word.text ≡ g = cc in it }
call_layer l h g is call_is = absurd cc

-- ---- expressions

module _ (p : Program) (i : Instances) (closed : AreClosed p i) (tables : Tables) (rows : AreTables p tables) (calls : List ℕ → List Value → Value) (makes : Calls) (n : ℕ) (calls_fit : CallsFit p i calls n) (calls_made : CallsMade p i tables calls makes n)
    (functions : Named (Entry Ground)) where
  abbrev give : Expr → Names → Value
  give = given tables calls

  abbrev Nodes : List TypedNode → Type 0
  Nodes nodes = AreQueryNodes p i.helpers n nodes

  front_nodes : (xs ys : List TypedNode) → Nodes (xs ++ ys) → Nodes xs
  front_nodes xs ys nodes = each_front (IsQueryNode p i.helpers n) xs ys nodes

  back_nodes : (xs ys : List TypedNode) → Nodes (xs ++ ys) → Nodes ys
  back_nodes xs ys nodes = each_back (IsQueryNode p i.helpers n) xs ys nodes

  -- what is taken for a node that uses no function, and what is behind
  taken_behind : (node : TypedNode) (nodes : List TypedNode) (s : State) (q : Pending) → node.part.use_of ≡ None → TakesFirst i.helpers node nodes (left s) q → Takes i.helpers nodes (left (behind_type s)) q
  taken_behind node nodes s q no_use (other types used own behind) = takes_behind i.helpers nodes s q node.part.type types own behind
  taken_behind node nodes s q no_use (called types calls u h used at own calls_are behind) = let wrong : None ≡ Some u = sym no_use ∙ used in absurd cc

  no_function : (g : Label) (t : Ground) (u : Use) → u ≡ record { name = g; type = t } → is_query_type t ≡ true → IsEarly p i.helpers n u → ⊥
  no_function g t u is flat early =
      let body : HasBody p (IsHelperNode p i.helpers u) u = each_in (λ w. HasBody p (IsHelperNode p i.helpers w) w) i.helpers u early.0 closed.helpers in
      function_not_flat (types_of body.has.typed.params) body.has.typed.effects body.has.typed.answer (subst (λ w. is_query_type w ≡ true) (sym (ap (λ (u : Use). u.type) is) ∙ body.has.typed.is) flat)

  mutual
    unfolding nodes_of

    pub expr_made : {effects : EffectSet} {locals : Named Ground} {e : Expr} {t : Ground} {inside : List Ground} (flag : Bool) (d : HasType functions (tables_of p) locals effects e t inside)
        → effects effect.Local ≡ false → effects effect.Trap ≡ false → Nodes (nodes_of flag d) → (numbers : Named ℕ) (s : State) (q : Pending) → AreOrdered s.parts → HaveNumbers locals numbers s.parts → Takes i.helpers (nodes_of flag d) (left s) q
        → IsMade p i tables calls makes locals numbers t (give e) s q (walk makes e numbers s)
    expr_made {effects = effects} {locals = locals} {e = e} {t = t} flag (plain h ts is have by) own traps nodes numbers s q ordered numbered takes =
        by_use (takes_first i.helpers node (each_nodes flag have) (left s) q takes) (exprs_made flag have own traps nodes.1 numbers)
      where
        node : TypedNode
        node = record { part = record { span = e.span; type = t; use_of = used_by by; compares = compared_by e by; inside = flag }; block = None }

        flat : is_query_type t ≡ true
        flat = nodes.0.type

        flats : Each (λ u. is_query_type u ≡ true) ts
        flats = part_types p i.helpers n flag have nodes.1

        fits : (names : Names) → AreLocals p i locals names → FitEach p i (all_given tables calls names (parts label_of expr_of (layer e))) ts
        fits names fit = parts_fit p i closed tables rows calls n calls_fit functions flag have own traps nodes.1 names fit

        by_use : TakesFirst i.helpers node (each_nodes flag have) (left s) q
            → ((s : State) (q : Pending) → AreOrdered s.parts → HaveNumbers locals numbers s.parts → Takes i.helpers (each_nodes flag have) (left s) q
            → AreMade p i tables calls makes locals numbers ts (λ names. all_given tables calls names (parts label_of expr_of (layer e))) s q (all (map (walk makes) (parts label_of expr_of (layer e))) numbers s))
            → IsMade p i tables calls makes locals numbers t (give e) s q (walk makes e numbers s)
        by_use (other types used own_type behind) parts_made =
            let rest : Takes i.helpers (each_nodes flag have) (left (behind_type s)) q = takes_behind i.helpers (each_nodes flag have) s q t types own_type behind in
            operator_made p i closed tables rows calls makes n calls_fit functions effects own traps locals e numbers s q numbered (layer e) h ts t types refl is
            (record { by = by; uses = used; compares = nodes.0.compares }) own_type flat flats (λ u us same. next_type i.helpers flag have (left (behind_type s)) q rest u us same)
            (parts_made (behind_type s) q ordered numbered rest) fits
        by_use (called types later u hn used at own_type calls_are behind) parts_made = by_rule (uses_by functions (tables_of p) locals effects h ts t u by used)
          where
            inner : State
            inner = record { parts = s.parts; types = drop 1 s.types; calls = later }

            rest : Takes i.helpers (each_nodes flag have) (left inner) q
            rest = subst (λ ts. Takes i.helpers (each_nodes flag have) (pending ts later) q) (sym (ap (drop 1) own_type)) behind

            by_rule : UsesBy h ts effects t u → IsMade p i tables calls makes locals numbers t (give e) s q (walk makes e numbers s)
            by_rule (function g head_is use_is) = absurd (no_function g t u use_is flat (nodes.0.calls u used))
            by_rule (call g head_is use_is) =
                let found : CallLayer (layer e) g = call_layer (layer e) h g is head_is in
                call_arm p i tables calls makes e found.word found.args ts t locals numbers s q hn later u found.is calls_are (ap (λ (u : Use). u.name) use_is ∙ sym found.named)
                (subst (λ l. AreMade p i tables calls makes locals numbers ts (λ names. all_given tables calls names (parts label_of expr_of l)) inner q (all (map (walk makes) (parts label_of expr_of l)) numbers inner)) found.is (parts_made inner q ordered numbered rest))
                (λ names fit. subst (λ l. FitEach p i (all_given tables calls names (parts label_of expr_of l)) ts) found.is (fits names fit))
                (calls_made u (nodes.0.calls u used) hn at ts effects t (ap (λ (u : Use). u.type) use_is) own traps)
    expr_made {effects = effects} flag (lambda l params own_effects a is named moves body local) own traps nodes numbers s q ordered numbered takes = absurd (both_ways (effects effect.Local) own local)
    expr_made {effects = effects} {locals = locals} {e = e} {t = t} flag (var x d rest a first last is one next) own traps nodes numbers s q ordered numbered takes =
        let behind = taken_behind _ (nodes_of flag one ++ nodes_of flag next) s q refl (takes_first i.helpers _ (nodes_of flag one ++ nodes_of flag next) (left s) q takes) in
        let split = takes_split i.helpers (nodes_of flag one) (nodes_of flag next) (left (behind_type s)) q behind in
        let m : Made = walk makes d numbers (behind_type s) in
        let first_made = expr_made flag one own traps (front_nodes (nodes_of flag one) (nodes_of flag next) nodes.1) numbers (behind_type s) split.0 ordered numbered split.1 in
        var_made p i tables calls makes e x d rest a t locals numbers s split.0 q is numbered
        (λ names fit. value_fits p i closed tables rows calls n calls_fit functions flag one own traps (each_front (IsQueryNode p i.helpers n) (nodes_of flag one) (nodes_of flag next) nodes.1) names fit)
        first_made
        (expr_made flag next own traps (back_nodes (nodes_of flag one) (nodes_of flag next) nodes.1) ((x.text, m.part) ∷ numbers) m.state q first_made.ordered
        (number_bound x.text a m.part locals numbers m.state.parts first_made.within (numbers_grow locals numbers s.parts m.state.parts first_made.grows numbered))
        (subst (λ l. Takes i.helpers (nodes_of flag next) l q) (sym first_made.left) split.2))
    expr_made {effects = effects} flag (switch d cases row tags ts first bodies is one have same made local) own traps nodes numbers s q ordered numbered takes = absurd (both_ways (effects effect.Local) own local)
    expr_made {effects = effects} flag (switch_open d cases last rest row tags ts first bodies inside is one have same next made local) own traps nodes numbers s q ordered numbered takes = absurd (both_ways (effects effect.Local) own local)
    expr_made {locals = locals} {e = e} flag (for_list x d body a b first inside is one next) own traps nodes numbers s q ordered numbered takes =
        let behind = taken_behind _ (nodes_of flag one ++ nodes_of flag next) s q refl (takes_first i.helpers _ (nodes_of flag one ++ nodes_of flag next) (left s) q takes) in
        let split = takes_split i.helpers (nodes_of flag one) (nodes_of flag next) (left (behind_type s)) q behind in
        let m : Made = walk makes d numbers (behind_type s) in
        let bound : State = (add part.Bound m.state).state in
        let list_made = expr_made flag one own traps (front_nodes (nodes_of flag one) (nodes_of flag next) nodes.1) numbers (behind_type s) split.0 ordered numbered split.1 in
        let list_flat = list_rows a (node_type p i.helpers n flag one (each_front (IsQueryNode p i.helpers n) (nodes_of flag one) (nodes_of flag next) nodes.1)) in
        subst (λ w. IsMade p i tables calls makes locals numbers (known.List b) (give e) s q w) (sym (walk_form makes e (Node-F.ForList x d body) is numbers s))
        (from_behind p i tables calls makes locals numbers (known.List b) (give e) s q _
        (same_value p i tables calls makes locals numbers (known.List b) (λ names. for_each x.text (items (give d names)) (give body) names) (give e) (behind_type s) q _ (λ names. given_for_list tables calls e x d body names is)
        (loop_made p i tables calls makes e body x a b (rows_flat a list_flat) list_flat (list_rows b nodes.0.type) locals numbers (behind_type s) split.0 q (give d) numbered m
        (walk makes body ((x.text, length m.state.parts) ∷ numbers) bound)
        (λ names fit. value_fits p i closed tables rows calls n calls_fit functions flag one own traps (each_front (IsQueryNode p i.helpers n) (nodes_of flag one) (nodes_of flag next) nodes.1) names fit)
        list_made
        (expr_made flag next own traps (back_nodes (nodes_of flag one) (nodes_of flag next) nodes.1) ((x.text, length m.state.parts) ∷ numbers) bound q
        (ordered_add m.state.parts part.Bound list_made.ordered tt)
        (number_bound x.text a (length m.state.parts) locals numbers bound.parts (at_end m.state.parts part.Bound)
        (numbers_grow locals numbers m.state.parts bound.parts (grows_one m.state.parts part.Bound) (numbers_grow locals numbers s.parts m.state.parts list_made.grows numbered)))
        (subst (λ l. Takes i.helpers (nodes_of flag next) l q) (sym list_made.left) split.2)))))
    expr_made {locals = locals} {e = e} flag (for_table x d body a b first inside is one next) own traps nodes numbers s q ordered numbered takes =
        let behind = taken_behind _ (nodes_of flag one ++ nodes_of flag next) s q refl (takes_first i.helpers _ (nodes_of flag one ++ nodes_of flag next) (left s) q takes) in
        let split = takes_split i.helpers (nodes_of flag one) (nodes_of flag next) (left (behind_type s)) q behind in
        let m : Made = walk makes d numbers (behind_type s) in
        let bound : State = (add part.Bound m.state).state in
        let list_made = expr_made flag one own traps (front_nodes (nodes_of flag one) (nodes_of flag next) nodes.1) numbers (behind_type s) split.0 ordered numbered split.1 in
        let list_flat = list_rows a (node_type p i.helpers n flag one (each_front (IsQueryNode p i.helpers n) (nodes_of flag one) (nodes_of flag next) nodes.1)) in
        subst (λ w. IsMade p i tables calls makes locals numbers (known.List b) (give e) s q w) (sym (walk_form makes e (Node-F.ForTable x d body) is numbers s))
        (from_behind p i tables calls makes locals numbers (known.List b) (give e) s q _
        (same_value p i tables calls makes locals numbers (known.List b) (λ names. for_each x.text (items (give d names)) (give body) names) (give e) (behind_type s) q _ (λ names. given_for_table tables calls e x d body names is)
        (loop_made p i tables calls makes e body x a b (rows_flat a list_flat) list_flat (list_rows b nodes.0.type) locals numbers (behind_type s) split.0 q (give d) numbered m
        (walk makes body ((x.text, length m.state.parts) ∷ numbers) bound)
        (λ names fit. value_fits p i closed tables rows calls n calls_fit functions flag one own traps (each_front (IsQueryNode p i.helpers n) (nodes_of flag one) (nodes_of flag next) nodes.1) names fit)
        list_made
        (expr_made flag next own traps (back_nodes (nodes_of flag one) (nodes_of flag next) nodes.1) ((x.text, length m.state.parts) ∷ numbers) bound q
        (ordered_add m.state.parts part.Bound list_made.ordered tt)
        (number_bound x.text a (length m.state.parts) locals numbers bound.parts (at_end m.state.parts part.Bound)
        (numbers_grow locals numbers m.state.parts bound.parts (grows_one m.state.parts part.Bound) (numbers_grow locals numbers s.parts m.state.parts list_made.grows numbered)))
        (subst (λ l. Takes i.helpers (nodes_of flag next) l q) (sym list_made.left) split.2)))))
    expr_made {locals = locals} {e = e} flag (query keys body a inside is one sorted scans marked) own traps nodes numbers s q ordered numbered takes =
        query_made p i tables calls makes e keys body (known.List a) locals numbers s q is
        (expr_made true one refl refl nodes.1 numbers (behind_type s) q ordered numbered (taken_behind _ (nodes_of true one) s q refl (takes_first i.helpers _ (nodes_of true one) (left s) q takes)))
    expr_made flag (update change is changes writes) own traps nodes numbers s q ordered numbered takes = absurd (unit_not_flat nodes.0.type)
    expr_made flag (delete change is changes writes) own traps nodes numbers s q ordered numbered takes = absurd (unit_not_flat nodes.0.type)

    pub exprs_made : {effects : EffectSet} {locals : Named Ground} {es : List Expr} {ts inside : List Ground} (flag : Bool) (d : HaveTypes functions (tables_of p) locals effects es ts inside)
        → effects effect.Local ≡ false → effects effect.Trap ≡ false → Nodes (each_nodes flag d) → (numbers : Named ℕ) (s : State) (q : Pending) → AreOrdered s.parts → HaveNumbers locals numbers s.parts → Takes i.helpers (each_nodes flag d) (left s) q
        → AreMade p i tables calls makes locals numbers ts (λ names. all_given tables calls names es) s q (all (map (walk makes) es) numbers s)
    exprs_made {locals = locals} flag none own traps nodes numbers s _ ordered numbered Takes.none = none_made p i tables calls makes locals numbers s ordered
    exprs_made {locals = locals} {es = es} flag (more {e = e} {es = rest_es} {t = t} {ts = ts} inside rest first others) own traps nodes numbers s q ordered numbered takes =
        let split = takes_split i.helpers (nodes_of flag first) (each_nodes flag others) (left s) q takes in
        let m : Made = walk makes e numbers s in
        let one = expr_made flag first own traps (front_nodes (nodes_of flag first) (each_nodes flag others) nodes) numbers s split.0 ordered numbered split.1 in
        subst (λ w. AreMade p i tables calls makes locals numbers (t ∷ ts) (λ names. all_given tables calls names (e ∷ rest_es)) s q w) (sym (all_more (walk makes e) (map (walk makes) rest_es) numbers s))
        (more_made p i tables calls makes locals numbers t ts (give e) (λ names. all_given tables calls names rest_es) s split.0 q m (all (map (walk makes) rest_es) numbers m.state) numbered one
        (exprs_made flag others own traps (back_nodes (nodes_of flag first) (each_nodes flag others) nodes) numbers m.state q one.ordered (numbers_grow locals numbers s.parts m.state.parts one.grows numbered)
        (subst (λ l. Takes i.helpers (each_nodes flag others) l q) (sym one.left) split.2)))
