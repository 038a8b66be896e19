-- What calls of helpers make: the parts of their bodies, under names that stand for the arguments.
use Rattle.std.proofs.Common.{◌≡◌, ℕ, zero, suc, ◌+◌, ◌<◌, Bool, true, false, List, [], ◌∷◌, ◌++◌, append-nil, drop, length, map, Option, Some, None, slice_get, bytes_eq, if◌then◌else◌, refl, sym, ◌∙◌, ap, ap₂, subst, arith, inl, inr}
use Rattle.std.proofs.lemmas.Bool.{eq-eqb}
use Rattle.lk_ast.specs.Functions.{function_named}
use Rattle.lk_ast.specs.Tables.{Tables, tables_of}
use Rattle.lk_ast.specs.declared.declaration.FunDef.{FunDef}
use Rattle.lk_ast.specs.declared.declaration.Program.{Program}
use Rattle.lk_ast.specs.declared.place.Word.{Word}
use Rattle.lk_ast.specs.declared.value.Value.{Value}
use Rattle.lk_bag.specs.Bag as bag
use Rattle.lk_bag.specs.Bag.{given}
use Rattle.lk_bodies.proofs.Levels.{called_more}
use Rattle.lk_bodies.specs.Walk.{Calls, Made, State, bound, called, entered, walk}
use Rattle.lk_ground.specs.Language.{function_of}
use Rattle.lk_ground.specs.declared.program.GroundFun.{GroundFun}
use Rattle.lk_inline.proofs.CallArms.{CallsMade, IsCall}
use Rattle.lk_inline.proofs.Inducing.{number_bound, standing_bound}
use Rattle.lk_inline.proofs.Induction.{expr_made}
use Rattle.lk_inline.proofs.Making.{AreStanding, AreWithin, HaveNumbers, IsMade}
use Rattle.lk_inline.proofs.RecordRules.{StandEach}
use Rattle.lk_inline.specs.Stands.{Stands}
use Rattle.lk_locals.specs.Names.{Names, bind, bind_all, bind_each, lookup, no_names}
use Rattle.lk_names.specs.Programs.{IsBound}
use Rattle.lk_query.specs.Given.{Values, gives}
use Rattle.lk_query.specs.Order.{AreOrdered}
use Rattle.lk_query.specs.declared.part.Part.{Part}
use Rattle.lk_sites.specs.Pending.{pending}
use Rattle.lk_sites.specs.Takes.{Takes}
use Rattle.lk_sound.proofs.Apart.{params_apart}
use Rattle.lk_sound.proofs.Bags.{before_caller, called_fits}
use Rattle.lk_sound.proofs.Bindings.{bound_each, moved}
use Rattle.lk_sound.proofs.Calls.{length_names, length_texts, bound_all, no_locals}
use Rattle.lk_sound.proofs.Fitting.{as_many}
use Rattle.lk_sound.proofs.Names.{AreDistinct, IsAmong}
use Rattle.lk_sound.proofs.QueryParts.{AreQueryNodes, IsEarly}
use Rattle.lk_sound.specs.Functions.{HasFunctionType}
use Rattle.lk_sound.specs.Instances.{AreClosed, Instances, IsHelperNode, IsListed, number_of}
use Rattle.lk_sound.specs.Nodes.{TypedNode, Use, nodes_of}
use Rattle.lk_sound.specs.Points.{AreLocals}
use Rattle.lk_sound.specs.Tables.{AreTables}
use Rattle.lk_sound.specs.Values.{FitEach}
use Rattle.lk_types.specs.Each.{Each}
use Rattle.lk_types.specs.Rows.{Label, EffectSet}
use Rattle.lk_types.specs.declared.ground.Ground.{Ground}
use Rattle.lk_types.specs.declared.ty.Effect.TheVariants as effect
use Rattle.lk_typing.proofs.Samples.Types.{same_answer, same_effects, same_params}
use Rattle.lk_typing.specs.Names.{Named, named, names_of, texts, types_of}
use Rattle.lk_typing.specs.Types.{function_of as function_type}

-- ---- names of parameters

-- parts under names
abbrev pub bound_labels : Named ℕ → List Label → List ℕ → Named ℕ
bound_labels names [] numbers = names
bound_labels names (x ∷ xs) [] = names
bound_labels names (x ∷ xs) (n ∷ numbers) = bound_labels ((x, n) ∷ names) xs numbers

pub bound_is : (names : Named ℕ) (params : List Word) (numbers : List ℕ) → bound names params numbers ≡ bound_labels names (texts params) numbers
bound_is names [] numbers = refl
bound_is names (x ∷ params) [] = refl
bound_is names (x ∷ params) (n ∷ numbers) = bound_is ((x.text, n) ∷ names) params numbers

numbers_bound : (params : Named Ground) (ns : List ℕ) (locals : Named Ground) (numbers : Named ℕ) (parts : List Part) → AreDistinct (names_of params) → AreWithin (types_of params) ns parts → HaveNumbers locals numbers parts
    → HaveNumbers (params ++ locals) (bound_labels numbers (names_of params) ns) parts
numbers_bound [] ns locals numbers parts distinct within have y t is = have y t is
numbers_bound (entry ∷ params) [] locals numbers parts distinct within have y t is = absurd within
numbers_bound (entry ∷ params) (n ∷ ns) locals numbers parts (apart, distinct) within have y t is =
    numbers_bound params ns ((entry.0, entry.1) ∷ locals) ((entry.0, n) ∷ numbers) parts distinct within.1 (number_bound entry.0 entry.1 n locals numbers parts within.0 have) y t (moved y entry.0 entry.1 params locals apart ∙ is)

module _ (p : Program) (i : Instances) (tables : Tables) (calls : List ℕ → List Value → Value) (makes : Calls) where
  params_standing : (params : Named Ground) (vs : List Value) (ns : List ℕ) (locals : Named Ground) (numbers : Named ℕ) (names : Names) (parts : List Part) (values : Values) → AreDistinct (names_of params) → StandEach (types_of params) vs (map (λ k. gives tables parts k values) ns)
      → AreStanding p i tables calls makes locals numbers names parts values → AreStanding p i tables calls makes (params ++ locals) (bound_labels numbers (names_of params) ns) (bind_each names (names_of params) vs) parts values
  params_standing [] [] [] locals numbers names parts values distinct each standing y t k w is at value_is = standing y t k w is at value_is
  params_standing [] (v ∷ vs) ns locals numbers names parts values distinct each standing y t k w is at value_is = standing y t k w is at value_is
  params_standing [] [] (n ∷ ns) locals numbers names parts values distinct each standing y t k w is at value_is = standing y t k w is at value_is
  params_standing (entry ∷ params) [] [] locals numbers names parts values distinct each standing y t k w is at value_is = absurd each
  params_standing (entry ∷ params) [] (n ∷ ns) locals numbers names parts values distinct each standing y t k w is at value_is = absurd each
  params_standing (entry ∷ params) (v ∷ vs) [] locals numbers names parts values distinct each standing y t k w is at value_is = absurd each
  params_standing (entry ∷ params) (v ∷ vs) (n ∷ ns) locals numbers names parts values (apart, distinct) each standing y t k w is at value_is =
      params_standing params vs ns ((entry.0, entry.1) ∷ locals) ((entry.0, n) ∷ numbers) (bind entry.0 v names) parts values distinct each.1
      (standing_bound p i tables calls makes entry.0 entry.1 n v locals numbers names parts values each.0 standing) y t k w (moved y entry.0 entry.1 params locals apart ∙ is) at value_is

-- ---- helpers

module _ (p : Program) (i : Instances) (bound_names : IsBound p) (closed : AreClosed p i) (tables : Tables) (rows : AreTables p tables) (helpers : List GroundFun) where
  -- the helper of that number is this instance: its body has the types and calls the helpers that are told
  pub record IsHelperAt (h : ℕ) (u : Use) : Type 0 where
    pub f : GroundFun
    pub is : slice_get helpers h ≡ Some f
    pub named : function_named p u.name ≡ Some (function_of f)
    pub has : HasFunctionType p (function_of f) u.type
    pub flat : Each (IsHelperNode p i.helpers u) (nodes_of false has.typed.body)
    pub takes : Takes i.helpers (nodes_of false has.typed.body) (pending f.types f.calls) (pending [] [])

  abbrev pub AreHelpersAt : Type 0
  AreHelpersAt = (h : ℕ) (u : Use) → slice_get i.helpers h ≡ Some u → IsHelperAt h u

  no_standing : (calls : List ℕ → List Value → Value) (makes : Calls) (names : Names) (parts : List Part) (values : Values) → AreStanding p i tables calls makes [] [] names parts values
  no_standing calls makes names parts values x t k v is at value_is = absurd cc

  no_numbers : (parts : List Part) → HaveNumbers [] [] parts
  no_numbers parts x t is = absurd cc

  -- what a helper's body makes of arguments
  entered_made : (n : ℕ) → CallsMade p i tables (bag.called p tables n) (called helpers n) n → (u : Use) → number_of p u.name < suc n → (h : ℕ) → (at : IsHelperAt h u)
      → (ts : List Ground) (effects : EffectSet) (a : Ground) → u.type ≡ function_type ts effects a → effects effect.Local ≡ false → effects effect.Trap ≡ false
      → (numbers : List ℕ) (parts : List Part) → AreOrdered parts → AreWithin ts numbers parts
      → IsMade p i tables (bag.called p tables n) (called helpers n) at.has.typed.params (bound [] (function_of at.f).params numbers) a (given tables (bag.called p tables n) (function_of at.f).body) (record { parts = parts; types = at.f.types; calls = at.f.calls }) (pending [] [])
      (entered (called helpers n) at.f numbers parts)
  entered_made n calls_made u below h at ts effects a is own traps numbers parts ordered within =
      let typed = at.has.typed in
      let same : function_type ts effects a ≡ function_type (types_of typed.params) typed.effects typed.answer = sym is ∙ typed.is in
      let like = same_effects ts (types_of typed.params) effects typed.effects a typed.answer same in
      let ts_are : ts ≡ types_of typed.params = same_params ts (types_of typed.params) effects typed.effects a typed.answer same in
      let distinct : AreDistinct (names_of typed.params) = subst AreDistinct (sym typed.names) (params_apart p (function_of at.f) bound_names at.has.declared) in
      let numbers_are : bound_labels [] (names_of typed.params) numbers ≡ bound [] (function_of at.f).params numbers = ap (λ xs. bound_labels [] xs numbers) typed.names ∙ sym (bound_is [] (function_of at.f).params numbers) in
      let numbered : HaveNumbers typed.params (bound [] (function_of at.f).params numbers) parts =
      subst (λ ns. HaveNumbers typed.params ns parts) numbers_are
      (subst (λ types. HaveNumbers types (bound_labels [] (names_of typed.params) numbers) parts) (append-nil typed.params)
      (numbers_bound typed.params numbers [] [] parts distinct (subst (λ us. AreWithin us numbers parts) ts_are within) (no_numbers parts))) in
      subst (λ t. IsMade p i tables (bag.called p tables n) (called helpers n) typed.params (bound [] (function_of at.f).params numbers) t (given tables (bag.called p tables n) (function_of at.f).body) (record { parts = parts; types = at.f.types; calls = at.f.calls }) (pending [] [])
      (entered (called helpers n) at.f numbers parts))
      (sym (same_answer ts (types_of typed.params) effects typed.effects a typed.answer same))
      (expr_made p i closed tables rows (bag.called p tables n) (called helpers n) n (called_fits p i bound_names closed tables rows n) calls_made at.has.functions false typed.body
      (sym (ap (λ s. s effect.Local) like) ∙ own) (sym (ap (λ s. s effect.Trap) like) ∙ traps)
      (before_caller p i u n (nodes_of false typed.body) below at.flat)
      (bound [] (function_of at.f).params numbers) (record { parts = parts; types = at.f.types; calls = at.f.calls }) (pending [] []) ordered numbered at.takes)

  -- what such a call gives, where names stand for the arguments
  entered_value : (n : ℕ) (u : Use) (h : ℕ) (at : IsHelperAt h u) (args : List Value) → length (function_of at.f).params ≡ length args
      → bag.called p tables (suc n) u.name args ≡ given tables (bag.called p tables n) (function_of at.f).body (bind_each no_names (texts (function_of at.f).params) args)
  unfolding bag.called
  entered_value n u h at args many =
      ap (λ o. bag.called_function p tables (bag.called p tables n) o args) at.named
      ∙ ap (bag.entered (given tables (bag.called p tables n) (function_of at.f).body)) (bound_all no_names (function_of at.f).params args many)

  called_is : (n h : ℕ) (numbers : List ℕ) (parts : List Part) (f : GroundFun) → slice_get helpers h ≡ Some f → called helpers (suc n) h numbers parts ≡ entered (called helpers n) f numbers parts
  called_is n h numbers parts f is = called_more helpers (suc n) n h numbers parts (Some f) refl is

  pub helpers_made : AreHelpersAt → (n : ℕ) → CallsMade p i tables (bag.called p tables n) (called helpers n) n
  helpers_made helpers_at zero u (listed, below) h is ts effects a type_is own traps numbers parts ordered within = absurd (omega (arith, below))
  helpers_made helpers_at (suc n) u (listed, below) h is ts effects a type_is own traps numbers parts ordered within =
      let at : IsHelperAt h u = helpers_at h u is in
      let typed = at.has.typed in
      let body : Made = entered (called helpers n) at.f numbers parts in
      let ts_are : ts ≡ types_of typed.params = same_params ts (types_of typed.params) effects typed.effects a typed.answer (sym type_is ∙ typed.is) in
      let distinct : AreDistinct (names_of typed.params) = subst AreDistinct (sym typed.names) (params_apart p (function_of at.f) bound_names at.has.declared) in
      let numbers_are : bound_labels [] (names_of typed.params) numbers ≡ bound [] (function_of at.f).params numbers = ap (λ xs. bound_labels [] xs numbers) typed.names ∙ sym (bound_is [] (function_of at.f).params numbers) in
      let made_so = entered_made n (helpers_made helpers_at n) u below h at ts effects a type_is own traps numbers parts ordered within in
      subst (λ m. IsCall p i tables (bag.called p tables (suc n)) (called helpers (suc n)) u ts a numbers parts m) (sym (called_is n h numbers parts at.f at.is))
      (record {
        grows = made_so.grows;
        ordered = made_so.ordered;
        within = made_so.within;
        means = λ values args fit each.
            let fit_params : FitEach p i args (types_of typed.params) = subst (λ us. FitEach p i args us) ts_are fit in
            let many : length (function_of at.f).params ≡ length args = sym (length_texts (function_of at.f).params) ∙ ap length (sym typed.names) ∙ length_names typed.params ∙ sym (as_many p i args (types_of typed.params) fit_params) in
            let names : Names = bind_each no_names (texts (function_of at.f).params) args in
            let locals : AreLocals p i typed.params names =
            subst (λ xs. AreLocals p i typed.params (bind_each no_names xs args)) typed.names
            (subst (λ types. AreLocals p i types (bind_each no_names (names_of typed.params) args)) (append-nil typed.params)
            (bound_each p i typed.params args [] no_names distinct fit_params (no_locals p i))) in
            let standing : AreStanding p i tables (bag.called p tables n) (called helpers n) typed.params (bound [] (function_of at.f).params numbers) names parts values =
            subst (λ xs. AreStanding p i tables (bag.called p tables n) (called helpers n) typed.params (bound [] (function_of at.f).params numbers) (bind_each no_names xs args) parts values) typed.names
            (subst (λ ns. AreStanding p i tables (bag.called p tables n) (called helpers n) typed.params ns (bind_each no_names (names_of typed.params) args) parts values) numbers_are
            (subst (λ types. AreStanding p i tables (bag.called p tables n) (called helpers n) types (bound_labels [] (names_of typed.params) numbers) (bind_each no_names (names_of typed.params) args) parts values) (append-nil typed.params)
            (params_standing p i tables (bag.called p tables n) (called helpers n) typed.params args numbers [] [] no_names parts values distinct
            (subst (λ us. StandEach us args (map (λ k. gives tables parts k values) numbers)) ts_are each) (no_standing (bag.called p tables n) (called helpers n) no_names parts values)))) in
            subst (λ v. Stands a v (gives tables body.state.parts body.part values)) (sym (entered_value n u h at args many)) (made_so.means values names locals standing);
      })
