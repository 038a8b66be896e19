-- What a walk makes of an expression of a query, by its typing: of names, of blocks and loops, of operators and calls.
use Rattle.std.proofs.Common.{◌≡◌, ℕ, ◌+◌, ◌<◌, Bool, true, false, cond, List, [], ◌∷◌, ◌++◌, drop, length, map, flat_map, Option, Some, None, unwrap_or, bytes_eq, if◌then◌else◌, refl, sym, ◌∙◌, ap, ap₂, subst, arith}
use Rattle.lk_ast.specs.Layers.{layer, Layer}
use Rattle.lk_ast.specs.Rows.{row_value}
use Rattle.lk_ast.specs.Tables.{Tables, tables_of}
use Rattle.lk_ast.specs.declared.declaration.Program.{Program}
use Rattle.lk_ast.specs.declared.expression.Expr.{Expr}
use Rattle.lk_ast.specs.declared.expression.Node.{Node, out-Node, roll-Node}
use Rattle.lk_ast.specs.declared.expression.Node.TheOpen.{Node-F}
use Rattle.lk_ast.specs.declared.place.Word.{Word}
use Rattle.lk_ast.specs.declared.table.Row.{Row}
use Rattle.lk_ast.specs.declared.value.Value.{Value}
use Rattle.lk_ast.specs.declared.value.Value.TheVariants as value
use Rattle.lk_bag.proofs.Given.{all_given, given_name, given_var, given_for_list, given_for_table, given_query}
use Rattle.lk_bag.specs.Bag.{given, items, for_each}
use Rattle.lk_ast.specs.declared.expression.SortKey.{SortKey}
use Rattle.lk_bodies.proofs.Levels.{walk_expr, walk_out, with_walks}
use Rattle.lk_bodies.specs.Walk.{Calls, Made, Several, State, Walk, add, all, behind_type, local, made, node_level, walk, walk_node}
use Rattle.lk_inline.proofs.Adding.{grows_both, grows_none}
use Rattle.lk_inline.proofs.Making.{AreMade, AreStanding, HaveNumbers, IsMade, all_more, left, more_made, none_made, numbers_grow, same_value, standing_grows}
use Rattle.lk_inline.specs.Stands.{IsRecord, Stands}
use Rattle.lk_locals.specs.Names.{Names, bind, lookup}
use Rattle.lk_query.specs.Given.{Given, Values, gives, of_row}
use Rattle.lk_query.specs.Order.{AreOrdered, Below}
use Rattle.lk_query.specs.declared.part.Part.{Part}
use Rattle.lk_operators.specs.Values.{unit as unit_value}
use Rattle.lk_sites.proofs.Takes.{takes_split}
use Rattle.lk_sites.specs.Pending.{Pending, pending}
use Rattle.lk_sites.specs.Takes.{Takes, none, other, called}
use Rattle.lk_sound.proofs.Bindings.{bound_one, lookup_bound}
use Rattle.lk_sound.specs.Values.{Fits}
use Rattle.lk_sound.specs.Instances.{Instances}
use Rattle.lk_sound.specs.Nodes.{TypedNode, Use, nodes_of, each_nodes}
use Rattle.lk_sound.specs.Points.{AreLocals}
use Rattle.lk_types.specs.Rows.{Label, EffectSet}
use Rattle.lk_types.specs.declared.ground.Ground.{Ground}
use Rattle.lk_types.specs.declared.ground.Ground.TheVariants as known
use Rattle.lk_typing.specs.Names.{Named, named, Entry}

-- a node of this form, with its walks
pub walk_form : (makes : Calls) (e : Expr) (l : Layer) → layer e ≡ l → (names : Named ℕ) (s : State) → walk makes e names s ≡ node_level makes (with_walks makes l) s.types names (behind_type s)
walk_form makes e l is names s = walk_expr makes e names s ∙ walk_out makes e.node s.types names (behind_type s) ∙ ap (λ x. node_level makes (with_walks makes x) s.types names (behind_type s)) is

-- ---- names

-- one name more has a part
pub number_bound : (x : Label) (a : Ground) (n : ℕ) (locals : Named Ground) (numbers : Named ℕ) (parts : List Part) → n < length parts → HaveNumbers locals numbers parts → HaveNumbers ((x, a) ∷ locals) ((x, n) ∷ numbers) parts
number_bound x a n locals numbers parts l have y t is = by (bytes_eq x y) (have y t) is
  where
    by : (b : Bool) → (named y locals ≡ Some t → (k : ℕ) × (named y numbers ≡ Some k) × (k < length parts)) → (if b then Some a else named y locals) ≡ Some t → (k : ℕ) × ((if b then Some n else named y numbers) ≡ Some k) × (k < length parts)
    by true old is = (n, refl, l)
    by false old is = old is

module _ (p : Program) (i : Instances) (tables : Tables) (calls : List ℕ → List Value → Value) (makes : Calls) where
  abbrev give : Expr → Names → Value
  give = given tables calls

  -- one name more, whose part stands for its value
  pub standing_bound : (x : Label) (a : Ground) (n : ℕ) (v : Value) (locals : Named Ground) (numbers : Named ℕ) (names : Names) (parts : List Part) (values : Values) → Stands a v (gives tables parts n values)
      → AreStanding p i tables calls makes locals numbers names parts values → AreStanding p i tables calls makes ((x, a) ∷ locals) ((x, n) ∷ numbers) (bind x v names) parts values
  standing_bound x a n v locals numbers names parts values stands standing y t k w is at value_is = by (bytes_eq x y) (standing y t k w) is at (sym (lookup_bound x v names y) ∙ value_is)
    where
      by : (b : Bool) → (named y locals ≡ Some t → named y numbers ≡ Some k → lookup names y ≡ Some w → Stands t w (gives tables parts k values))
          → (if b then Some a else named y locals) ≡ Some t → (if b then Some n else named y numbers) ≡ Some k → cond b (Some v) (lookup names y) ≡ Some w → Stands t w (gives tables parts k values)
      by true old is at value_is =
          let type_is : a ≡ t = cc in
          let number_is : n ≡ k = cc in
          let same : v ≡ w = cc in
          subst (λ u. Stands u w (gives tables parts k values)) type_is (subst (λ m. Stands a w (gives tables parts m values)) number_is (subst (λ u. Stands a u (gives tables parts n values)) same stands))
      by false old is at value_is = old is at value_is

  -- ---- expressions that bind names

  -- a statement that binds a name, and what follows
  pub var_made : (e : Expr) (x : Word) (d rest : Expr) (a t : Ground) (locals : Named Ground) (numbers : Named ℕ) (s : State) (q r : Pending) → layer e ≡ Node-F.Var x d rest → HaveNumbers locals numbers s.parts
      → ((names : Names) → AreLocals p i locals names → Fits p i (give d names) a)
      → (one : IsMade p i tables calls makes locals numbers a (give d) (behind_type s) q (walk makes d numbers (behind_type s)))
      → IsMade p i tables calls makes ((x.text, a) ∷ locals) ((x.text, (walk makes d numbers (behind_type s)).part) ∷ numbers) t (give rest) (walk makes d numbers (behind_type s)).state r
      (walk makes rest ((x.text, (walk makes d numbers (behind_type s)).part) ∷ numbers) (walk makes d numbers (behind_type s)).state)
      → IsMade p i tables calls makes locals numbers t (give e) s r (walk makes e numbers s)
  var_made e x d rest a t locals numbers s q r is have fits one next =
      let m = walk makes d numbers (behind_type s) in
      subst (λ w. IsMade p i tables calls makes locals numbers t (give e) s r w) (sym (walk_form makes e (Node-F.Var x d rest) is numbers s))
      (record {
        left = next.left;
        grows = grows_both one.grows next.grows;
        ordered = next.ordered;
        within = next.within;
        means = λ values names fit standing.
            subst (λ v. Stands t v (gives tables (walk makes rest ((x.text, m.part) ∷ numbers) m.state).state.parts (walk makes rest ((x.text, m.part) ∷ numbers) m.state).part values)) (sym (given_var tables calls e x d rest names is))
            (next.means values (bind x.text (give d names) names)
            (bound_one p i x.text (give d names) a locals names (fits names fit) fit)
            (standing_bound x.text a m.part (give d names) locals numbers names m.state.parts values (one.means values names fit standing)
            (standing_grows p i tables calls makes locals numbers names s.parts m.state.parts values one.grows have standing)));
      })

  -- a nested query
  pub query_made : (e : Expr) (keys : List SortKey) (body : Expr) (t : Ground) (locals : Named Ground) (numbers : Named ℕ) (s : State) (q : Pending) → layer e ≡ Node-F.Query keys body
      → IsMade p i tables calls makes locals numbers t (give body) (behind_type s) q (walk makes body numbers (behind_type s)) → IsMade p i tables calls makes locals numbers t (give e) s q (walk makes e numbers s)
  query_made e keys body t locals numbers s q is one =
      subst (λ w. IsMade p i tables calls makes locals numbers t (give e) s q w) (sym (walk_form makes e (Node-F.Query keys body) is numbers s))
      (record {
        left = one.left;
        grows = one.grows;
        ordered = one.ordered;
        within = one.within;
        means = λ values names fit standing. subst (λ v. Stands t v (gives tables (walk makes body numbers (behind_type s)).state.parts (walk makes body numbers (behind_type s)).part values)) (sym (given_query tables calls e keys body names is)) (one.means values names fit standing);
      })

  -- a local name
  pub name_made : (e : Expr) (x : Label) (t : Ground) (locals : Named Ground) (numbers : Named ℕ) (s : State) → layer e ≡ Node-F.Name x → named x locals ≡ Some t → AreOrdered s.parts → HaveNumbers locals numbers s.parts
      → IsMade p i tables calls makes locals numbers t (give e) s (left (behind_type s)) (walk makes e numbers s)
  name_made e x t locals numbers s is there ordered have =
      let found = have x t there in
      subst (λ w. IsMade p i tables calls makes locals numbers t (give e) s (left (behind_type s)) w) (sym (walk_form makes e (Node-F.Name x) is numbers s ∙ ap (λ o. local o (behind_type s)) found.1))
      (record {
        left = refl;
        grows = grows_none s.parts;
        ordered = ordered;
        within = found.2;
        means = λ values names fit standing.
            let value_of = fit x t there in
            subst (λ v. Stands t v (gives tables s.parts found.0 values)) (sym (given_name tables calls e x names is ∙ ap (λ o. unwrap_or o unit_value) value_of.1)) (standing x t found.0 value_of.0 there found.1 value_of.1);
      })
