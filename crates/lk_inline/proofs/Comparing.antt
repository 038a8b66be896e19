-- What a walk makes of comparisons, by the type of what is compared, which is the next one behind the node's own.
use Rattle.std.proofs.Common.{◌≡◌, ℕ, ◌<◌, Bool, true, false, not, List, [], ◌∷◌, ◌++◌, length, map, Some, None, refl, sym, ◌∙◌, ap, ap₂, subst, if◌then◌else◌}
use Rattle.lk_ast.specs.Layers.{Layer, layer}
use Rattle.lk_ast.specs.Tables.{Tables, tables_of}
use Rattle.lk_ast.specs.declared.declaration.Program.{Program}
use Rattle.lk_ast.specs.declared.expression.Expr.{Expr}
use Rattle.lk_ast.specs.declared.expression.Node.TheOpen.{Node-F}
use Rattle.lk_ast.specs.declared.table.Base.TheVariants as base
use Rattle.lk_ast.specs.declared.value.Value.{Value}
use Rattle.lk_ast.specs.declared.value.Value.TheVariants as value
use Rattle.lk_bag.proofs.Given.{all_given, given_operation, is_operation, operands}
use Rattle.lk_bag.specs.Bag.{given, value_of}
use Rattle.lk_bodies.proofs.Levels.{with_walks}
use Rattle.lk_bodies.specs.Shapes.{columns_of, labels}
use Rattle.lk_bodies.specs.Walk.{Calls, Made, Several, State, Walk, add, all, behind_type, equality, inequality, node_level, two, walk}
use Rattle.lk_ground_types.specs.Shapes.{is_base, is_flat_row, is_list, is_query_type}
use Rattle.lk_inline.proofs.Adding.{at_end, grows_both, grows_one, ordered_add}
use Rattle.lk_inline.proofs.Arms.{Fitting, Makes, Parts, binary}
use Rattle.lk_inline.proofs.EqualRows.{equal_rows_stand}
use Rattle.lk_inline.proofs.Inducing.{walk_form}
use Rattle.lk_inline.proofs.Making.{AreMade, HaveNumbers, IsMade, finished, same_value}
use Rattle.lk_inline.proofs.Operating.{fit_two, from_behind, two_made}
use Rattle.lk_inline.proofs.OperatorValues.{bool_in_given, eq_stands, ge_stands, gt_stands, le_stands, lt_stands, ne_stands}
use Rattle.lk_inline.proofs.QueryTypes.{QueryType, query_type}
use Rattle.lk_inline.proofs.QueryTypes as query
use Rattle.lk_inline.proofs.Standing.{base_stands, bool_is}
use Rattle.lk_inline.specs.Stands.{Stands}
use Rattle.lk_locals.specs.Names.{Names}
use Rattle.lk_operators.specs.Operators.{operated}
use Rattle.lk_operators.specs.Order.{same}
use Rattle.lk_operators.specs.Values.{bool_in, truth as held_truth}
use Rattle.lk_query.proofs.Growing.{gives_last}
use Rattle.lk_query.specs.Given.{Given, Gives, Values, given_level, gives, of_base}
use Rattle.lk_query.specs.Order.{AreOrdered, Below}
use Rattle.lk_query.specs.declared.part.Part.{Part}
use Rattle.lk_query.specs.declared.part.Part.TheVariants as part
use Rattle.lk_sites.specs.Pending.{Pending}
use Rattle.lk_sound.proofs.Shapes.{truth_fits}
use Rattle.lk_sound.specs.Instances.{Instances}
use Rattle.lk_sound.specs.Points.{AreLocals}
use Rattle.lk_sound.specs.Values.{FitEach, Fits}
use Rattle.lk_sql.specs.Operations.{negation, operation, truth}
use Rattle.lk_sql.specs.declared.tree.SqlOp.TheVariants as op
use Rattle.lk_types.specs.Rows.{Label, EffectSet}
use Rattle.lk_types.specs.declared.ground.Ground.{Ground}
use Rattle.lk_types.specs.declared.ground.Ground.TheVariants as known
use Rattle.lk_typing.specs.Names.{Entry, Named}

module _ (p : Program) (i : Instances) (tables : Tables) (calls : List ℕ → List Value → Value) (makes : Calls) where
  abbrev give : Expr → Names → Value
  give = given tables calls

  -- NOT of a truth value that was made
  pub not_added : (locals : Named Ground) (numbers : Named ℕ) (value_of other : Names → Value) (s : State) (q : Pending) (m : Made) → IsMade p i tables calls makes locals numbers known.Bool value_of s q m
      → ((names : Names) → AreLocals p i locals names → (g : Given) → Stands known.Bool (value_of names) g → Stands known.Bool (other names) (of_base (operation op.Not (g.base ∷ []))))
      → IsMade p i tables calls makes locals numbers known.Bool other s q (add (part.One op.Not m.part) m.state)
  not_added locals numbers value_of other s q m is stands = record {
    left = is.left;
    grows = grows_both is.grows (grows_one m.state.parts (part.One op.Not m.part));
    ordered = ordered_add m.state.parts (part.One op.Not m.part) is.ordered is.within;
    within = at_end m.state.parts (part.One op.Not m.part);
    means = λ values names fit standing. subst (λ g. Stands known.Bool (other names) (g values)) (sym (gives_last tables m.state.parts (part.One op.Not m.part)))
        (stands names fit (gives tables m.state.parts m.part values) (is.means values names fit standing));
  }

  -- two things aren't equal where it isn't true that they are
  not_equal : (a b : Expr) (v w : Value) (g : Given) → Stands known.Bool (value_of (operated (Node-F.Eq a b) (v ∷ w ∷ []))) g → Stands known.Bool (value_of (operated (Node-F.Ne a b) (v ∷ w ∷ []))) (of_base (operation op.Not (g.base ∷ [])))
  not_equal a b v w g stands =
      let shown : bool_in (held_truth (same v w)) ≡ Some (truth g.base) = bool_in_given p i (held_truth (same v w)) g (truth_fits p i (same v w)) stands in
      let itself : bool_in (held_truth (same v w)) ≡ Some (same v w) = simp (value.outs-Base) in
      let told : Some (same v w) ≡ Some (truth g.base) = sym itself ∙ shown in
      let is : same v w ≡ truth g.base = cc in
      base_stands known.Bool (held_truth (not (same v w))) (negation g.base) bool_is (ap (λ b. value.Base (base.Bool (not b))) is)

  module _ (functions : Named (Entry Ground)) (effects : EffectSet) (locals : Named Ground) (e : Expr) (numbers : Named ℕ) (s : State) (q : Pending) (have : HaveNumbers locals numbers s.parts) where
    abbrev Here : Ground → Type 0
    Here t = Makes p i tables calls makes functions effects locals e numbers s q have t

    abbrev Both : Ground → Expr → Expr → Type 0
    Both u a b = Parts p i tables calls makes functions effects locals e numbers s q have (u ∷ u ∷ []) (a ∷ b ∷ [])

    abbrev BothFit : Ground → Expr → Expr → Type 0
    BothFit u a b = Fitting p i tables calls makes functions effects locals e numbers s q have (u ∷ u ∷ []) (a ∷ b ∷ [])

    -- ---- orders

    pub lt_made : (a b : Expr) (u : Ground) → layer e ≡ Node-F.Lt a b → is_base u ≡ true → Both u a b → BothFit u a b → Here known.Bool
    lt_made a b u is flat are fits = binary p i tables calls makes functions effects locals e numbers s q have (Node-F.Lt a b) op.Lt u known.Bool a b is refl refl refl are fits (lt_stands p i a b u flat)

    pub le_made : (a b : Expr) (u : Ground) → layer e ≡ Node-F.Le a b → is_base u ≡ true → Both u a b → BothFit u a b → Here known.Bool
    le_made a b u is flat are fits = binary p i tables calls makes functions effects locals e numbers s q have (Node-F.Le a b) op.Le u known.Bool a b is refl refl refl are fits (le_stands p i a b u flat)

    pub gt_made : (a b : Expr) (u : Ground) → layer e ≡ Node-F.Gt a b → is_base u ≡ true → Both u a b → BothFit u a b → Here known.Bool
    gt_made a b u is flat are fits = binary p i tables calls makes functions effects locals e numbers s q have (Node-F.Gt a b) op.Gt u known.Bool a b is refl refl refl are fits (gt_stands p i a b u flat)

    pub ge_made : (a b : Expr) (u : Ground) → layer e ≡ Node-F.Ge a b → is_base u ≡ true → Both u a b → BothFit u a b → Here known.Bool
    ge_made a b u is flat are fits = binary p i tables calls makes functions effects locals e numbers s q have (Node-F.Ge a b) op.Ge u known.Bool a b is refl refl refl are fits (ge_stands p i a b u flat)

    -- ---- equalities

    apart : (t : Ground) → is_list t ≡ true → is_list t ≡ false → ⊥
    apart t is also = let wrong : true ≡ false = sym is ∙ also in cc

    pub eq_made : (a b : Expr) (u : Ground) (others : List Ground) → layer e ≡ Node-F.Eq a b → (behind_type s).types ≡ u ∷ others → is_query_type u ≡ true → is_list u ≡ false → Both u a b → BothFit u a b → Here known.Bool
    eq_made a b u others is next flat no_list are fits = by_type (query_type u flat)
      where
        walk_is : (x : ℕ → ℕ → Part) → ((k l : ℕ) → equality (u ∷ others) k l ≡ x k l) → node_level makes (with_walks makes (Node-F.Eq a b)) s.types numbers (behind_type s) ≡ two x (walk makes a) (walk makes b) numbers (behind_type s)
        walk_is x one = ap (λ types. two (equality types) (walk makes a) (walk makes b) numbers (behind_type s)) next ∙ (λ d. two (λ k l. one k l d) (walk makes a) (walk makes b) numbers (behind_type s))

        by_type : QueryType u → Here known.Bool
        by_type (query.base base_is) = binary p i tables calls makes functions effects locals e numbers s q have (Node-F.Eq a b) op.Eq u known.Bool a b is refl refl
            (walk_is (part.Two op.Eq) (λ k l. ap (λ x. if x then part.Two op.Eq k l else part.EqRows (labels (columns_of u)) k l) base_is)) are fits (eq_stands p i a b u base_is)
        by_type (query.rows rows_are base_not list_is) = absurd (apart u list_is no_list)
        by_type (query.row row_is base_not list_not) =
            two_made p i tables calls makes e locals numbers s q have a b u u known.Bool (part.EqRows (labels (columns_of u)))
            (walk_form makes e (Node-F.Eq a b) is numbers s ∙ walk_is (part.EqRows (labels (columns_of u))) (λ k l. ap (λ x. if x then part.Two op.Eq k l else part.EqRows (labels (columns_of u)) k l) base_not)) are (λ n k l x y. (x, y)) fits
            (λ names fit own n k l values fa fb sa sb. subst (λ v. Stands known.Bool v (given_level tables own n (part.EqRows (labels (columns_of u)) k l) values)) (sym (given_operation tables calls e (Node-F.Eq a b) names is refl))
            (equal_rows_stand p i a b u row_is (give a names) (give b names) (own k values) (own l values) fa fb sa sb))

    pub ne_made : (a b : Expr) (u : Ground) (others : List Ground) → layer e ≡ Node-F.Ne a b → (behind_type s).types ≡ u ∷ others → is_query_type u ≡ true → is_list u ≡ false → Both u a b → BothFit u a b → Here known.Bool
    ne_made a b u others is next flat no_list are fits = by_type (query_type u flat)
      where
        first : Made
        first = walk makes a numbers (behind_type s)

        second : Made
        second = walk makes b numbers first.state

        walk_is : walk makes e numbers s ≡ inequality (u ∷ others) first.part second.part second.state
        walk_is = walk_form makes e (Node-F.Ne a b) is numbers s ∙ ap (λ types. inequality types first.part second.part second.state) next

        choose : Made → Made → Bool → Made
        choose x y b = if b then x else y

        by_type : QueryType u → Here known.Bool
        by_type (query.base base_is) =
            two_made p i tables calls makes e locals numbers s q have a b u u known.Bool (part.Two op.Ne)
            (walk_is ∙ ap (choose (add (part.Two op.Ne first.part second.part) second.state) (add (part.One op.Not (length second.state.parts)) (add (part.EqRows (labels (columns_of u)) first.part second.part) second.state).state)) base_is)
            are (λ n k l x y. (x, y)) fits
            (λ names fit own n k l values fa fb sa sb. subst (λ v. Stands known.Bool v (given_level tables own n (part.Two op.Ne k l) values)) (sym (given_operation tables calls e (Node-F.Ne a b) names is refl))
            (ne_stands p i a b u base_is (give a names) (give b names) (own k values) (own l values) fa fb sa sb))
        by_type (query.rows rows_are base_not list_is) = absurd (apart u list_is no_list)
        by_type (query.row row_is base_not list_not) =
            let equal : Part = part.EqRows (labels (columns_of u)) first.part second.part in
            subst (λ m. IsMade p i tables calls makes locals numbers known.Bool (give e) s q m)
            (sym (walk_is ∙ ap (choose (add (part.Two op.Ne first.part second.part) second.state) (add (part.One op.Not (length second.state.parts)) (add equal second.state).state)) base_not))
            (from_behind p i tables calls makes locals numbers known.Bool (give e) s q (add (part.One op.Not (length second.state.parts)) (add equal second.state).state)
            (same_value p i tables calls makes locals numbers known.Bool (λ names. value_of (operated (Node-F.Ne a b) (give a names ∷ give b names ∷ []))) (give e) (behind_type s) q (add (part.One op.Not (length second.state.parts)) (add equal second.state).state)
            (λ names. given_operation tables calls e (Node-F.Ne a b) names is refl)
            (not_added locals numbers (λ names. value_of (operated (Node-F.Eq a b) (give a names ∷ give b names ∷ []))) (λ names. value_of (operated (Node-F.Ne a b) (give a names ∷ give b names ∷ []))) (behind_type s) q (add equal second.state)
            (finished p i tables calls makes locals numbers known.Bool (u ∷ u ∷ []) (λ names. value_of (operated (Node-F.Eq a b) (give a names ∷ give b names ∷ []))) (λ names. all_given tables calls names (a ∷ b ∷ [])) (behind_type s) q
            (all (walk makes a ∷ walk makes b ∷ []) numbers (behind_type s)) equal have are (are.within.0, are.within.1.0)
            (λ values names fit each.
            let both = fit_two p i tables calls makes (give a names) (give b names) u u (fits names fit) in
            equal_rows_stand p i a b u row_is (give a names) (give b names) (gives tables second.state.parts first.part values) (gives tables second.state.parts second.part values) both.0 both.1 each.0 each.1.0))
            (λ names fit g stands. not_equal a b (give a names) (give b names) g stands))))
