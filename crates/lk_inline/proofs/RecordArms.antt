-- What a walk makes of records and lists of records.
use Rattle.std.proofs.Common.{◌≡◌, ℕ, ◌<◌, Bool, true, false, List, [], ◌∷◌, ◌++◌, length, map, Option, Some, None, refl, sym, ◌∙◌, ap, ap₂, subst}
use Rattle.std.specs.Option.{option_map}
use Rattle.std.proofs.lemmas.List.{map_push}
use Rattle.lk_mono.proofs.Reaching.{none_at as none_some}
use Rattle.lk_ast.specs.Layers.{Layer, layer}
use Rattle.lk_ast.specs.Tables.{Tables, tables_of}
use Rattle.lk_ast.specs.declared.declaration.Program.{Program}
use Rattle.lk_ast.specs.declared.expression.Expr.{Expr}
use Rattle.lk_ast.specs.declared.expression.Node.TheOpen.{Node-F}
use Rattle.lk_ast.specs.declared.expression.PartExpr.{PartExpr}
use Rattle.lk_ast.specs.declared.value.Value.{Value}
use Rattle.lk_bag.proofs.Given.{all_given, given_operation, is_operation, operands}
use Rattle.lk_bag.specs.Bag.{given, value_of}
use Rattle.lk_bodies.proofs.Levels.{labels_are, walks_are, with_walks}
use Rattle.lk_bodies.specs.Shapes.{columns_of, labels}
use Rattle.lk_bodies.specs.Walk.{Calls, Made, Several, State, Walk, add, all, all_from, behind_type, extended, extension, fields, labelled, walk, walk_part}
use Rattle.lk_ground_types.specs.Shapes.{is_flat_row, is_query_type}
use Rattle.lk_inline.proofs.Adding.{Grows, at_end, grows_both, grows_one, ordered_add, still_stands, still_within}
use Rattle.lk_inline.proofs.Arms.{Fitting, Makes, Parts}
use Rattle.lk_inline.proofs.Extensions.{cells_are, cells_under}
use Rattle.lk_inline.proofs.Inducing.{walk_form}
use Rattle.lk_inline.proofs.Making.{AreMade, AreWithin, HaveNumbers, IsMade, all_from_is, all_more, finished, one_behind}
use Rattle.lk_inline.proofs.Operating.{from_behind}
use Rattle.lk_inline.proofs.QueryTypes.{list_rows, record_row, rows_flat}
use Rattle.lk_inline.proofs.RecordRules.{StandEach, extend_by_rule, items_by_rule, record_by_rule, stand_split}
use Rattle.lk_inline.specs.Stands.{Stands}
use Rattle.lk_locals.specs.Names.{Names}
use Rattle.lk_operators.specs.Operators.{operated}
use Rattle.lk_query.proofs.Growing.{gives_last}
use Rattle.lk_query.specs.Given as given_parts
use Rattle.lk_query.specs.Given.{Given, Gives, Values, given_level, gives, of_list, of_row}
use Rattle.lk_query.specs.Order.{AllBelow, AreOrdered, Below, LabelledBelow}
use Rattle.lk_query.specs.declared.part.Part.{Part}
use Rattle.lk_query.specs.declared.part.Part.TheVariants as part
use Rattle.lk_sites.specs.Pending.{Pending}
use Rattle.lk_sound.proofs.QueryParts.{operands_are}
use Rattle.lk_sound.specs.Instances.{Instances}
use Rattle.lk_sound.specs.Points.{AreLocals}
use Rattle.lk_sound.specs.Values.{FitEach}
use Rattle.lk_types.proofs.Parts.{same_some}
use Rattle.lk_types.specs.Each.{Each}
use Rattle.lk_types.specs.Rows.{Label, EffectSet}
use Rattle.lk_types.specs.declared.ground.Ground.{Ground}
use Rattle.lk_types.specs.declared.ground.Ground.TheVariants as known
use Rattle.lk_typing.specs.Heads as operator
use Rattle.lk_typing.specs.Names.{Entry, Named}
use Rattle.lk_typing.specs.Rules as rule
use Rattle.lk_typing.specs.Types as types
use Rattle.lk_typing.specs.Types.{record_of}
use Rattle.lk_typing.specs.Typing.{expr_of, label_of}

-- ---- numbers of several parts

pub all_below : (ts : List Ground) (numbers : List ℕ) (parts : List Part) → AreWithin ts numbers parts → AllBelow (length parts) numbers
all_below [] [] parts within = tt
all_below [] (k ∷ numbers) parts within = absurd within
all_below (t ∷ ts) [] parts within = absurd within
all_below (t ∷ ts) (k ∷ numbers) parts within = (within.0, all_below ts numbers parts within.1)

pub all_labelled : (ls : List Label) (n : ℕ) (numbers : List ℕ) → AllBelow n numbers → LabelledBelow n (labelled ls numbers)
all_labelled [] n numbers below = tt
all_labelled (l ∷ ls) n [] below = tt
all_labelled (l ∷ ls) n (k ∷ numbers) below = (below.0, all_labelled ls n numbers below.1)

rows_given : (own : ℕ → Gives) (numbers : List ℕ) (values : Values) → map (λ k. (own k values).row) numbers ≡ map (λ (g : Given). g.row) (map (λ k. own k values) numbers)
rows_given own [] values = refl
rows_given own (k ∷ numbers) values = ap (λ rows. (own k values).row ∷ rows) (rows_given own numbers values)

-- the walks of fields, one by one
pub walks_of_fields : (makes : Calls) (items : List PartExpr) → map (λ item. walk makes item.expr) items ≡ map (walk makes) (map expr_of items)
walks_of_fields makes [] = refl
walks_of_fields makes (item ∷ items) = ap (λ walks. walk makes item.expr ∷ walks) (walks_of_fields makes items)

pub all_last : (walks : List Walk) (w : Walk) (names : Named ℕ) (s : State) → all (walks ++ w ∷ []) names s ≡ record { numbers = (all walks names s).numbers ++ (w names (all walks names s).state).part ∷ []; state = (w names (all walks names s).state).state }
all_last [] w names s = refl
all_last (v ∷ walks) w names s =
    let m : Made = v names s in
    all_more v (walks ++ w ∷ []) names s
    ∙ ap (λ (n : Several). record { numbers = m.part ∷ n.numbers; state = n.state }) (all_last walks w names m.state)
    ∙ ap (λ (n : Several). record { numbers = n.numbers ++ (w names n.state).part ∷ []; state = (w names n.state).state }) (sym (all_more v walks names s))

pub below_front : (n : ℕ) (numbers : List ℕ) (k : ℕ) → AllBelow n (numbers ++ k ∷ []) → AllBelow n numbers × (k < n)
below_front n [] k below = (tt, below.0)
below_front n (j ∷ numbers) k below = let rest = below_front n numbers k below.1 in ((below.0, rest.0), rest.1)

-- what holds of each type holds of those behind the fields'
pub rest_each : (P : Ground → Type 0) (labels : List Label) (ts : List Ground) (found : Named Ground) (rest : List Ground) → types.labelled labels ts ≡ Some (found, rest) → Each P ts → Each P rest
rest_each P [] ts found rest is each = subst (Each P) (ap (λ pair. pair.1) (same_some is)) each
rest_each P (l ∷ ls) [] found rest is each = absurd (none_some is)
rest_each P (l ∷ ls) (t ∷ ts) found rest is each = by (types.labelled ls ts) refl is (rest_each P ls ts)
  where
    by : (o : Option (Named Ground × List Ground)) → types.labelled ls ts ≡ o → option_map {U = Named Ground × List Ground} (λ pair. ((l, t) ∷ pair.0, pair.1)) o ≡ Some (found, rest)
        → ((fs : Named Ground) (r : List Ground) → types.labelled ls ts ≡ Some (fs, r) → Each P ts → Each P r) → Each P rest
    by None e is step = absurd (none_some is)
    by (Some pair) e is step = subst (Each P) (ap (λ pair. pair.1) (same_some is)) (step pair.0 pair.1 e each.1)

module _ (p : Program) (i : Instances) (tables : Tables) (calls : List ℕ → List Value → Value) (makes : Calls) (functions : Named (Entry Ground)) (effects : EffectSet) (locals : Named Ground) (e : Expr) (numbers : Named ℕ) (s : State) (q : Pending)
    (have : HaveNumbers locals numbers s.parts) where
  abbrev Here : Ground → Type 0
  Here t = Makes p i tables calls makes functions effects locals e numbers s q have t

  abbrev Own : List Ground → List Expr → Type 0
  Own ts es = Parts p i tables calls makes functions effects locals e numbers s q have ts es

  abbrev Fit : List Ground → List Expr → Type 0
  Fit ts es = Fitting p i tables calls makes functions effects locals e numbers s q have ts es

  abbrev give_all : Names → List Expr → List Value
  give_all names es = all_given tables calls names es

  -- a list of records
  pub items_arm : (es : List Expr) (ts : List Ground) (t : Ground) → layer e ≡ Node-F.List es → rule.Rule functions (tables_of p) locals effects operator.Items ts t → is_query_type t ≡ true → Own ts es → Here t
  items_arm es ts _ is (rule.items a same) flat are =
      let m : Several = all (map (walk makes) es) numbers (behind_type s) in
      let row_is : is_flat_row a ≡ true = rows_flat a (list_rows a flat) in
      subst (λ w. IsMade p i tables calls makes locals numbers (known.List a) (given tables calls e) s q w) (sym (walk_form makes e (Node-F.List es) is numbers s))
      (from_behind p i tables calls makes locals numbers (known.List a) (given tables calls e) s q (add (part.Items m.numbers) m.state)
      (finished p i tables calls makes locals numbers (known.List a) ts (given tables calls e) (λ names. give_all names es) (behind_type s) q m (part.Items m.numbers) have are (all_below ts m.numbers m.state.parts are.within)
      (λ values names fit each.
      subst (λ v. Stands (known.List a) v (given_level tables (gives tables m.state.parts) (length m.state.parts) (part.Items m.numbers) values))
      (sym (given_operation tables calls e (Node-F.List es) names is refl ∙ ap (λ ds. value_of (operated (Node-F.List es) (give_all names ds))) (operands_are (Node-F.List es) refl)))
      (subst (λ rows. Stands (known.List a) (value_of (operated (Node-F.List es) (give_all names es))) (of_list rows)) (sym (rows_given (gives tables m.state.parts) m.numbers values))
      (items_by_rule es a row_is ts (give_all names es) (map (λ k. gives tables m.state.parts k values) m.numbers) same each)))))

  -- a record, whose fields extend an empty one
  pub record_arm : (items : List PartExpr) (ts : List Ground) (t : Ground) (others : List Ground) → layer e ≡ Node-F.Record items → rule.Rule functions (tables_of p) locals effects (operator.Record (map label_of items)) ts t → s.types ≡ t ∷ others
      → is_query_type t ≡ true → Own ts (map expr_of items) → Fit ts (map expr_of items) → Here t
  record_arm items ts _ others is (rule.closed_record found row known_fields made) own flat are fits =
      let t : Ground = record_of row in
      let ls : List Label = map (λ (item : PartExpr). item.label.text) items in
      let es : List Expr = map expr_of items in
      let m : Several = all (map (walk makes) es) numbers (behind_type s) in
      let rest : ℕ = length m.state.parts in
      let last : State = (add (part.Record []) m.state).state in
      let x : Part = part.Extend (labels (columns_of t)) (labelled ls m.numbers) rest in
      let behind : AreMade p i tables calls makes locals numbers ts (λ names. give_all names es) (behind_type s) q (record { numbers = m.numbers; state = last }) =
      one_behind p i tables calls makes locals numbers ts (λ names. give_all names es) (behind_type s) q m (part.Record []) are tt in
      let walk_is : walk makes e numbers s ≡ add x last =
      walk_form makes e (Node-F.Record items) is numbers s
      ∙ ap₂ (λ names walks. fields s.types names walks numbers (behind_type s)) (labels_are makes items) (walks_are makes items ∙ walks_of_fields makes items)
      ∙ ap (λ types. fields types ls (map (walk makes) es) numbers (behind_type s)) own in
      subst (λ w. IsMade p i tables calls makes locals numbers t (given tables calls e) s q w) (sym walk_is)
      (from_behind p i tables calls makes locals numbers t (given tables calls e) s q (add x last)
      (finished p i tables calls makes locals numbers t ts (given tables calls e) (λ names. give_all names es) (behind_type s) q (record { numbers = m.numbers; state = last }) x have behind
      (all_labelled ls (length last.parts) m.numbers (all_below ts m.numbers last.parts behind.within), at_end m.state.parts (part.Record []))
      (λ values names fit each.
      subst (λ v. Stands t v (given_level tables (gives tables last.parts) (length last.parts) x values))
      (sym (given_operation tables calls e (Node-F.Record items) names is refl ∙ ap (λ ds. value_of (operated (Node-F.Record items) (give_all names ds))) (operands_are (Node-F.Record items) refl)))
      (subst (λ row. Stands t (value_of (operated (Node-F.Record items) (give_all names es))) (of_row row))
      (sym (ap₂ (λ cells (g : Given). given_parts.extended (labels (columns_of t)) cells g.row) (cells_are tables (gives tables last.parts) values ls m.numbers) (ap (λ g. g values) (gives_last tables m.state.parts (part.Record [])))))
      (record_by_rule p i items ts found row known_fields made (record_row row flat) (give_all names es) (map (λ k. gives tables last.parts k values) m.numbers) (fits names fit) each)))))

  -- a record that extends another one
  pub extend_arm : (items : List PartExpr) (d : Expr) (ts : List Ground) (t : Ground) (others : List Ground) → layer e ≡ Node-F.Extend items d → rule.Rule functions (tables_of p) locals effects (operator.Extend (map label_of items)) ts t → s.types ≡ t ∷ others
      → is_query_type t ≡ true → Each (λ u. is_query_type u ≡ true) ts → Own ts (map expr_of items ++ d ∷ []) → Fit ts (map expr_of items ++ d ∷ []) → Here t
  extend_arm items d ts _ others is (rule.extend found other row known_fields made) own flat flats are fits =
      let t : Ground = record_of row in
      let ls : List Label = map (λ (item : PartExpr). item.label.text) items in
      let es : List Expr = map expr_of items in
      let m : Several = all (map (walk makes) es) numbers (behind_type s) in
      let rest : Made = walk makes d numbers m.state in
      let x : Part = part.Extend (labels (columns_of t)) (labelled ls m.numbers) rest.part in
      let both : Several = record { numbers = m.numbers ++ rest.part ∷ []; state = rest.state } in
      let both_is : all (map (walk makes) (es ++ d ∷ [])) numbers (behind_type s) ≡ both =
      ap (λ walks. all walks numbers (behind_type s)) (map_push (walk makes) es d) ∙ all_last (map (walk makes) es) (walk makes d) numbers (behind_type s) in
      let made_so : AreMade p i tables calls makes locals numbers ts (λ names. give_all names (es ++ d ∷ [])) (behind_type s) q both =
      subst (λ m. AreMade p i tables calls makes locals numbers ts (λ names. give_all names (es ++ d ∷ [])) (behind_type s) q m) both_is are in
      let below : AllBelow (length rest.state.parts) m.numbers × (rest.part < length rest.state.parts) = below_front (length rest.state.parts) m.numbers rest.part (all_below ts both.numbers rest.state.parts made_so.within) in
      let other_flat : is_query_type (record_of other) ≡ true = (rest_each (λ u. is_query_type u ≡ true) (map label_of items) ts found (record_of other ∷ []) known_fields flats).0 in
      let walk_is : walk makes e numbers s ≡ add x rest.state =
      walk_form makes e (Node-F.Extend items d) is numbers s
      ∙ ap₂ (λ names walks. extension s.types names walks (walk makes d) numbers (behind_type s)) (labels_are makes items) (walks_are makes items ∙ walks_of_fields makes items)
      ∙ ap (λ types. extension types ls (map (walk makes) es) (walk makes d) numbers (behind_type s)) own in
      subst (λ w. IsMade p i tables calls makes locals numbers t (given tables calls e) s q w) (sym walk_is)
      (from_behind p i tables calls makes locals numbers t (given tables calls e) s q (add x rest.state)
      (finished p i tables calls makes locals numbers t ts (given tables calls e) (λ names. give_all names (es ++ d ∷ [])) (behind_type s) q both x have made_so
      (all_labelled ls (length rest.state.parts) m.numbers below.0, below.1)
      (λ values names fit each.
      let own_parts : ℕ → Gives = gives tables rest.state.parts in
      let values_are : give_all names (es ++ d ∷ []) ≡ give_all names es ++ given tables calls d names ∷ [] = map_push (λ (e : Expr). given tables calls e names) es d in
      let given_are : map (λ k. own_parts k values) (m.numbers ++ rest.part ∷ []) ≡ map (λ k. own_parts k values) m.numbers ++ own_parts rest.part values ∷ [] = map_push (λ k. own_parts k values) m.numbers rest.part in
      subst (λ v. Stands t v (given_level tables own_parts (length rest.state.parts) x values))
      (sym (given_operation tables calls e (Node-F.Extend items d) names is refl ∙ ap (λ ds. value_of (operated (Node-F.Extend items d) (give_all names ds))) (operands_are (Node-F.Extend items d) refl)
      ∙ ap (λ vs. value_of (operated (Node-F.Extend items d) vs)) values_are))
      (subst (λ row. Stands t (value_of (operated (Node-F.Extend items d) (give_all names es ++ given tables calls d names ∷ []))) (of_row row))
      (sym (ap (λ cells. given_parts.extended (labels (columns_of t)) cells (own_parts rest.part values).row) (cells_are tables own_parts values ls m.numbers)))
      (extend_by_rule p i items d ts found other row known_fields made (record_row row flat) (record_row other other_flat) (give_all names es) (given tables calls d names)
      (map (λ k. own_parts k values) m.numbers) (own_parts rest.part values)
      (subst (λ vs. FitEach p i vs ts) values_are (fits names fit))
      (subst (λ vs. StandEach ts vs (map (λ k. own_parts k values) m.numbers ++ own_parts rest.part values ∷ [])) values_are (subst (λ gs. StandEach ts (give_all names (es ++ d ∷ [])) gs) given_are each)))))))
