-- What a typed, flat query gives over tables whose rows fit has the query's type: by its typing, where calls give what they
-- should, and these by the number of functions before the one that is called.
use Rattle.std.proofs.Common.{◌≡◌, refl, sym, ap, subst, ◌∙◌, arith, ℕ, zero, suc, ◌+◌, ◌<◌, Bool, true, false, List, [], ◌∷◌, append-nil, map, find, length, Some, None, if◌then◌else◌, bytes_eq}
use Rattle.std.proofs.lemmas.Bool.{both_ways}
use Rattle.lk_ast.specs.Functions.{functions_of, is_named}
use Rattle.lk_ast.specs.Layers.{layer}
use Rattle.lk_ast.specs.Tables.{Tables, tables_of}
use Rattle.lk_ast.specs.declared.declaration.FunDef.{FunDef}
use Rattle.lk_ast.specs.declared.declaration.Program.{Program}
use Rattle.lk_ast.specs.declared.expression.Expr.{Expr}
use Rattle.lk_ast.specs.declared.place.Word.{Word}
use Rattle.lk_ast.specs.declared.value.Value.{Value}
use Rattle.lk_bag.proofs.Given.{all_given, given_var, given_for_list, given_for_table, given_query}
use Rattle.lk_bag.specs.Bag.{given, items, for_each, entered, called_function, called, gives}
use Rattle.lk_locals.specs.Names.{Names, no_names, bind, bind_each, bind_all}
use Rattle.lk_names.specs.Programs.{IsBound}
use Rattle.lk_sound.proofs.Apart.{params_apart}
use Rattle.lk_sound.proofs.Bindings.{bound_one, bound_each}
use Rattle.lk_sound.proofs.Calls.{length_names, length_texts, bound_all, no_locals}
use Rattle.lk_sound.proofs.FlatTypes.{unit_not_flat}
use Rattle.lk_sound.proofs.Fitting.{as_many}
use Rattle.lk_types.proofs.Members.{each_in, each_front, each_back}
use Rattle.lk_sound.proofs.Names.{AreDistinct}
use Rattle.lk_sound.proofs.QueryParts.{IsQueryNode, AreQueryNodes, part_types}
use Rattle.lk_sound.proofs.QueryValues.{CallsFit, items_fit, each_items, operator_value}
use Rattle.lk_sound.proofs.Shapes.{list_fits}
use Rattle.lk_sound.specs.Instances.{Instances, IsListed, number_in, number_of, IsFlatPart, IsHelperNode, HasBody, AreClosed}
use Rattle.lk_sound.specs.Nodes.{TypedNode, Use, nodes_of, each_nodes}
use Rattle.lk_sound.specs.Nodes as nodes
use Rattle.lk_sound.specs.Points.{AreLocals}
use Rattle.lk_sound.specs.Tables.{AreTables}
use Rattle.lk_sound.specs.Values.{Fits, FitEach, none_left, one_more}
use Rattle.lk_types.specs.Each.{Each}
use Rattle.lk_types.specs.Rows.{Label, EffectSet}
use Rattle.lk_types.specs.declared.ground.Ground.{Ground}
use Rattle.lk_types.specs.declared.ground.Ground.TheVariants as known
use Rattle.lk_types.specs.declared.ty.Effect.TheVariants as effect
use Rattle.lk_typing.proofs.Samples.Types.{same_params, same_answer, same_effects}
use Rattle.lk_typing.specs.Names.{Named, names_of, types_of, texts, Entry}
use Rattle.lk_typing.specs.Types.{function_of}
use Rattle.lk_typing.specs.Typing.{HasType, HaveTypes, plain, lambda, var, switch, switch_open, for_list, for_table, query, update, delete, none, more}

-- ---- queries, by their typings

module _ (p : Program) (i : Instances) (closed : AreClosed p i) (tables : Tables) (rows : AreTables p tables) (calls : List ℕ → List Value → Value) (n : ℕ) (calls_fit : CallsFit p i calls n) (functions : Named (Entry Ground)) where
  abbrev give : Expr → Names → Value
  give = given tables calls

  -- what a loop gives, by what its body gives for each element
  loop_fits : (x : Word) (v : Value) (body : Expr) (a b : Ground) (names : Names) → Fits p i v (known.List a) → ((w : Value) → Fits p i w a → Fits p i (give body (bind x.text w names)) (known.List b))
      → Fits p i (for_each x.text (items v) (give body) names) (known.List b)
  loop_fits x v body a b names one fits = list_fits p i _ b (each_items p i (λ w. give body (bind x.text w names)) a b fits (items v) (items_fit p i v a one))

  mutual
    unfolding nodes_of

    pub value_fits : {effects : EffectSet} {locals : Named Ground} {e : Expr} {t : Ground} {inside : List Ground} (flag : Bool) (d : HasType functions (tables_of p) locals effects e t inside)
        → effects effect.Local ≡ false → effects effect.Trap ≡ false → AreQueryNodes p i.helpers n (nodes_of flag d) → (names : Names) → AreLocals p i locals names → Fits p i (give e names) t
    value_fits {effects = effects} {locals = locals} {e = e} {t = t} flag (plain h ts is have by) own traps all names fit =
        operator_value p i closed tables rows calls n calls_fit functions effects own traps locals names fit e (layer e) h ts t refl is (record { by = by; uses = all.0.calls }) all.0.type
        (part_types p i.helpers n flag have all.1) (parts_fit flag have own traps all.1 names fit)
    value_fits {effects = effects} flag (lambda l params own_effects a is named moves body local) own traps all names fit = absurd (both_ways (effects effect.Local) own local)
    value_fits {effects = effects} {locals = locals} {e = e} {t = t} flag (var x d rest a first last is one next) own traps all names fit =
        let v : Fits p i (give d names) a = value_fits flag one own traps (each_front (IsQueryNode p i.helpers n) (nodes_of flag one) (nodes_of flag next) all.1) names fit in
        subst (λ w. Fits p i w t) (sym (given_var tables calls e x d rest names is))
        (value_fits flag next own traps (each_back (IsQueryNode p i.helpers n) (nodes_of flag one) (nodes_of flag next) all.1) (bind x.text (give d names) names) (bound_one p i x.text (give d names) a locals names v fit))
    value_fits {effects = effects} flag (switch d cases row tags ts first bodies is one have same made local) own traps all names fit = absurd (both_ways (effects effect.Local) own local)
    value_fits {effects = effects} flag (switch_open d cases last rest row tags ts first bodies inside is one have same next made local) own traps all names fit = absurd (both_ways (effects effect.Local) own local)
    value_fits {locals = locals} {e = e} flag (for_list x d body a b first inside is one next) own traps all names fit =
        subst (λ w. Fits p i w (known.List b)) (sym (given_for_list tables calls e x d body names is))
        (loop_fits x (give d names) body a b names (value_fits flag one own traps (each_front (IsQueryNode p i.helpers n) (nodes_of flag one) (nodes_of flag next) all.1) names fit)
        (λ w fits. value_fits flag next own traps (each_back (IsQueryNode p i.helpers n) (nodes_of flag one) (nodes_of flag next) all.1) (bind x.text w names) (bound_one p i x.text w a locals names fits fit)))
    value_fits {locals = locals} {e = e} flag (for_table x d body a b first inside is one next) own traps all names fit =
        subst (λ w. Fits p i w (known.List b)) (sym (given_for_table tables calls e x d body names is))
        (loop_fits x (give d names) body a b names (value_fits flag one own traps (each_front (IsQueryNode p i.helpers n) (nodes_of flag one) (nodes_of flag next) all.1) names fit)
        (λ w fits. value_fits flag next own traps (each_back (IsQueryNode p i.helpers n) (nodes_of flag one) (nodes_of flag next) all.1) (bind x.text w names) (bound_one p i x.text w a locals names fits fit)))
    value_fits {e = e} flag (query keys body a inside is one sorted scans marked) own traps all names fit =
        subst (λ w. Fits p i w (known.List a)) (sym (given_query tables calls e keys body names is)) (value_fits true one refl refl all.1 names fit)
    value_fits flag (update change is changes writes) own traps all names fit = absurd (unit_not_flat all.0.type)
    value_fits flag (delete change is changes writes) own traps all names fit = absurd (unit_not_flat all.0.type)

    pub parts_fit : {effects : EffectSet} {locals : Named Ground} {es : List Expr} {ts inside : List Ground} (flag : Bool) (d : HaveTypes functions (tables_of p) locals effects es ts inside)
        → effects effect.Local ≡ false → effects effect.Trap ≡ false → AreQueryNodes p i.helpers n (each_nodes flag d) → (names : Names) → AreLocals p i locals names → FitEach p i (all_given tables calls names es) ts
    parts_fit flag none own traps all names fit = none_left
    parts_fit flag (more inside rest first others) own traps all names fit =
        one_more (value_fits flag first own traps (each_front (IsQueryNode p i.helpers n) (nodes_of flag first) (each_nodes flag others) all) names fit)
        (parts_fit flag others own traps (each_back (IsQueryNode p i.helpers n) (nodes_of flag first) (each_nodes flag others) all) names fit)

-- ---- calls

-- what stands in a helper calls helpers before it
pub before_caller : (p : Program) (i : Instances) (caller : Use) (n : ℕ) (body : List TypedNode) → number_of p caller.name < suc n → Each (IsHelperNode p i.helpers caller) body → AreQueryNodes p i.helpers n body
before_caller p i caller n [] below all = tt
before_caller p i caller n (node ∷ body) below (one, all) =
    (record { type = one.flat.type; compares = one.flat.compares; calls = λ u used. (one.flat.calls u used, earlier u (one.before u used)) }, before_caller p i caller n body below all)
  where
    earlier : (u : Use) → number_of p u.name < number_of p caller.name → number_of p u.name < n
    earlier u before = omega arith

module _ (p : Program) (i : Instances) (bound : IsBound p) (closed : AreClosed p i) (tables : Tables) (rows : AreTables p tables) where
  -- a helper's body with arguments that fit
  entered_fits : (n : ℕ) → CallsFit p i (called p tables n) n → (u : Use) → number_of p u.name < suc n → (body : HasBody p (IsHelperNode p i.helpers u) u)
      → (ts : List Ground) (effects : EffectSet) (a : Ground) → u.type ≡ function_of ts effects a → effects effect.Local ≡ false → effects effect.Trap ≡ false
      → (args : List Value) → FitEach p i args ts → Fits p i (entered (given tables (called p tables n) body.function.body) (bind_all no_names body.function.params args)) a
  entered_fits n calls_fit u below body ts effects a is own traps args fits =
      let typed = body.has.typed in
      let same : function_of ts effects a ≡ function_of (types_of typed.params) typed.effects typed.answer = sym is ∙ typed.is in
      let like = same_effects ts (types_of typed.params) effects typed.effects a typed.answer same in
      let fit_params : FitEach p i args (types_of typed.params) = subst (λ us. FitEach p i args us) (same_params ts (types_of typed.params) effects typed.effects a typed.answer same) fits in
      let many : length body.function.params ≡ length args = sym (length_texts body.function.params) ∙ ap length (sym typed.names) ∙ length_names typed.params ∙ sym (as_many p i args (types_of typed.params) fit_params) in
      let locals : AreLocals p i typed.params (bind_each no_names (texts body.function.params) args) =
      subst (λ xs. AreLocals p i typed.params (bind_each no_names xs args)) typed.names
      (subst (λ types. AreLocals p i types (bind_each no_names (names_of typed.params) args)) (append-nil typed.params)
      (bound_each p i typed.params args [] no_names (subst AreDistinct (sym typed.names) (params_apart p body.function bound body.has.declared)) fit_params (no_locals p i))) in
      subst (λ o. Fits p i (entered (given tables (called p tables n) body.function.body) o) a) (sym (bound_all no_names body.function.params args many))
      (subst (λ t. Fits p i (given tables (called p tables n) body.function.body (bind_each no_names (texts body.function.params) args)) t) (sym (same_answer ts (types_of typed.params) effects typed.effects a typed.answer same))
      (value_fits p i closed tables rows (called p tables n) n calls_fit body.has.functions false typed.body (sym (ap (λ s. s effect.Local) like) ∙ own) (sym (ap (λ s. s effect.Trap) like) ∙ traps)
      (before_caller p i u n (nodes_of false typed.body) below body.nodes) (bind_each no_names (texts body.function.params) args) locals))

  pub called_fits : (n : ℕ) → CallsFit p i (called p tables n) n
  unfolding called
  called_fits zero u (listed, below) ts effects a is own traps args fits = absurd (omega arith)
  called_fits (suc n) u (listed, below) ts effects a is own traps args fits =
      let body : HasBody p (IsHelperNode p i.helpers u) u = each_in (λ w. HasBody p (IsHelperNode p i.helpers w) w) i.helpers u listed closed.helpers in
      subst (λ o. Fits p i (called_function p tables (called p tables n) o args) a) (sym body.named)
      (entered_fits n (called_fits n) u below body ts effects a is own traps args fits)

-- ---- what a query gives

number_below : (fs : List FunDef) (g : Label) (f : FunDef) → find (is_named g) fs ≡ Some f → number_in fs g < length fs
number_below [] g f is = let wrong : None ≡ Some f = is in cc
number_below (h ∷ fs) g f is = by_test (bytes_eq h.name.text g) is (number_below fs g f)
  where
    by_test : (b : Bool) → (if b then Some h else find (is_named g) fs) ≡ Some f → (find (is_named g) fs ≡ Some f → number_in fs g < length fs) → (if b then 0 else 1 + number_in fs g) < suc (length fs)
    by_test true is later = omega arith
    by_test false is later = let below : number_in fs g < length fs = later is in omega arith

-- what stands in a query calls functions of the program
pub all_early : (p : Program) (i : Instances) → AreClosed p i → (body : List TypedNode) → Each (IsFlatPart i.helpers) (nodes.parts_of body) → AreQueryNodes p i.helpers (length (functions_of p)) body
all_early p i closed [] all = tt
all_early p i closed (node ∷ body) (one, all) = (record { type = one.type; compares = one.compares; calls = λ u used. (one.calls u used, early u (one.calls u used)) }, all_early p i closed body all)
  where
    early : (u : Use) → IsListed i.helpers u → number_of p u.name < length (functions_of p)
    early u listed =
        let known_body : HasBody p (IsHelperNode p i.helpers u) u = each_in (λ w. HasBody p (IsHelperNode p i.helpers w) w) i.helpers u listed closed.helpers in
        number_below (functions_of p) u.name known_body.function known_body.named

pub bag_fits : (p : Program) (i : Instances) → IsBound p → AreClosed p i → (tables : Tables) → AreTables p tables
    → (functions : Named (Entry Ground)) (locals : Named Ground) (effects : EffectSet) (e : Expr) (t : Ground) (inside : List Ground) (d : HasType functions (tables_of p) locals effects e t inside)
    → effects effect.Local ≡ false → effects effect.Trap ≡ false → Each (IsFlatPart i.helpers) (nodes.parts_of (nodes_of true d)) → (names : Names) → AreLocals p i locals names → Fits p i (gives p tables e names) t
bag_fits p i bound closed tables rows functions locals effects e t inside d own traps all names fit =
    value_fits p i closed tables rows (called p tables (length (functions_of p))) (length (functions_of p)) (called_fits p i bound closed tables rows (length (functions_of p))) functions
    true d own traps (all_early p i closed (nodes_of true d) all) names fit

-- the same of expressions one after another
pub bags_fit : (p : Program) (i : Instances) → IsBound p → AreClosed p i → (tables : Tables) → AreTables p tables
    → (functions : Named (Entry Ground)) (locals : Named Ground) (effects : EffectSet) (es : List Expr) (ts inside : List Ground) (d : HaveTypes functions (tables_of p) locals effects es ts inside)
    → effects effect.Local ≡ false → effects effect.Trap ≡ false → Each (IsFlatPart i.helpers) (nodes.parts_of (each_nodes true d)) → (names : Names) → AreLocals p i locals names
    → FitEach p i (map (λ e. gives p tables e names) es) ts
bags_fit p i bound closed tables rows functions locals effects es ts inside d own traps all names fit =
    parts_fit p i closed tables rows (called p tables (length (functions_of p))) (length (functions_of p)) (called_fits p i bound closed tables rows (length (functions_of p))) functions
    true d own traps (all_early p i closed (each_nodes true d) all) names fit
