-- The kinds of what calls of helpers make: the parts of their bodies, under names that are bound to parts of the arguments' kinds.
use Rattle.std.proofs.Common.{◌≡◌, ℕ, zero, suc, ◌<◌, false, List, [], ◌∷◌, ◌++◌, append-nil, Some, refl, sym, ◌∙◌, ap, subst, arith}
use Rattle.lk_ast.specs.Tables.{Tables, table_defs}
use Rattle.lk_ast.specs.declared.declaration.Program.{Program}
use Rattle.lk_bodies.proofs.Levels.{called_more}
use Rattle.lk_bodies.specs.Walk.{Made, bound, called, entered}
use Rattle.lk_ground.specs.Language.{function_of}
use Rattle.lk_ground.specs.declared.program.GroundFun.{GroundFun}
use Rattle.lk_ground.specs.declared.program.GroundProgram.{GroundProgram}
use Rattle.lk_inline.proofs.Entering.{AreHelpersAt, IsHelperAt, bound_is, bound_labels}
use Rattle.lk_inline.proofs.Helpers.{helpers_there}
use Rattle.lk_inline.proofs.KindCalls.{CallsKinded}
use Rattle.lk_inline.proofs.KindInduction.{expr_kinded}
use Rattle.lk_inline.proofs.KindNodes.{taken_in_order}
use Rattle.lk_inline.proofs.KindSteps.{known_bound}
use Rattle.lk_inline.proofs.KindsMade.{AreDescribed, AreKnown, AreSeen, Descriptions, HasKind, Scope}
use Rattle.lk_inline.proofs.Making.{AreWithin}
use Rattle.lk_inline.specs.KindsOfTypes.{IsInOrder}
use Rattle.lk_mono.specs.Instanced.{HasInstances}
use Rattle.lk_names.specs.Programs.{IsBound}
use Rattle.lk_query.specs.Order.{AreOrdered}
use Rattle.lk_query.specs.declared.part.Part.{Part}
use Rattle.lk_sites.specs.Pending.{pending}
use Rattle.lk_sound.proofs.Apart.{params_apart}
use Rattle.lk_sound.proofs.Bags.{before_caller}
use Rattle.lk_sound.proofs.Bindings.{moved}
use Rattle.lk_sound.proofs.Names.{AreDistinct}
use Rattle.lk_sound.proofs.UpdatedRows.{no_rows}
use Rattle.lk_sound.specs.Instances.{AreClosed, Instances, number_of}
use Rattle.lk_sound.specs.Nodes.{Use, nodes_of}
use Rattle.lk_sound.specs.Tables.{AreTables}
use Rattle.lk_types.proofs.Members.{each_at}
use Rattle.lk_types.specs.Each.{Each}
use Rattle.lk_types.specs.Rows.{EffectSet}
use Rattle.lk_types.specs.declared.ground.Ground.{Ground}
use Rattle.lk_types.specs.declared.ty.Effect.TheVariants as effect
use Rattle.lk_typing.proofs.Samples.Types.{same_answer, same_effects, same_params}
use Rattle.lk_typing.specs.Names.{Named, names_of, types_of}
use Rattle.lk_typing.specs.Types.{function_of as function_type}

-- the names of parameters
params_known : (scope : Scope) (known : Descriptions) (params : Named Ground) (ns : List ℕ) (locals : Named Ground) (numbers : Named ℕ) (parts : List Part) → AreDistinct (names_of params) → AreWithin (types_of params) ns parts
    → AreSeen known scope (types_of params) ns → AreKnown scope known locals numbers parts → AreKnown scope known (params ++ locals) (bound_labels numbers (names_of params) ns) parts
params_known scope known [] ns locals numbers parts distinct within seen have y t is = have y t is
params_known scope known (entry ∷ params) [] locals numbers parts distinct within seen have y t is = absurd within
params_known scope known (entry ∷ params) (n ∷ ns) locals numbers parts (apart, distinct) within seen have y t is =
    params_known scope known params ns ((entry.0, entry.1) ∷ locals) ((entry.0, n) ∷ numbers) parts distinct within.1 seen.1
    (known_bound entry.0 entry.1 n scope known locals numbers parts within.0 seen.0 have) y t (moved y entry.0 entry.1 params locals apart ∙ is)

none_known : (scope : Scope) (known : Descriptions) (parts : List Part) → AreKnown scope known [] [] parts
none_known scope known parts x t is = absurd cc

module _ (p : Program) (i : Instances) (bound_names : IsBound p) (closed : AreClosed p i) (tables : Tables) (rows : AreTables p tables) (helpers : List GroundFun) (in_order : Each (λ (f : GroundFun). Each IsInOrder f.types) helpers) where
  abbrev At : ℕ → Use → Type 0
  At h u = IsHelperAt p i bound_names closed tables rows helpers h u

  -- what a helper's body makes of arguments
  entered_kinded : (n : ℕ) → CallsKinded p i (called helpers n) n → (u : Use) → number_of p u.name < suc n → (h : ℕ) → (at : At h u)
      → (ts : List Ground) (effects : EffectSet) (a : Ground) → u.type ≡ function_type ts effects a → effects effect.Local ≡ false → effects effect.Trap ≡ false
      → (scope : Scope) (known : Descriptions) (numbers : List ℕ) (parts : List Part) → AreOrdered parts → AreDescribed known parts → AreWithin ts numbers parts → AreSeen known scope ts numbers
      → HasKind scope (effects effect.Scan) a known parts (entered (called helpers n) at.f numbers parts).part (entered (called helpers n) at.f numbers parts).state.parts
  entered_kinded n calls_kinded u below h at ts effects a is own traps scope known numbers parts ordered described within seen =
      let typed = at.has.typed in
      let body : Made = entered (called helpers n) at.f numbers parts in
      let same : function_type ts effects a ≡ function_type (types_of typed.params) typed.effects typed.answer = sym is ∙ typed.is in
      let like = same_effects ts (types_of typed.params) effects typed.effects a typed.answer same in
      let ts_are : ts ≡ types_of typed.params = same_params ts (types_of typed.params) effects typed.effects a typed.answer same in
      let distinct : AreDistinct (names_of typed.params) = subst AreDistinct (sym typed.names) (params_apart p (function_of at.f) bound_names at.has.declared) in
      let numbers_are : bound_labels [] (names_of typed.params) numbers ≡ bound [] (function_of at.f).params numbers = ap (λ xs. bound_labels [] xs numbers) typed.names ∙ sym (bound_is [] (function_of at.f).params numbers) in
      let have : AreKnown scope known typed.params (bound [] (function_of at.f).params numbers) parts =
      subst (λ ns. AreKnown scope known typed.params ns parts) numbers_are
      (subst (λ types. AreKnown scope known types (bound_labels [] (names_of typed.params) numbers) parts) (append-nil typed.params)
      (params_known scope known typed.params numbers [] [] parts distinct (subst (λ us. AreWithin us numbers parts) ts_are within) (subst (λ us. AreSeen known scope us numbers) ts_are seen) (none_known scope known parts))) in
      subst (λ t. HasKind scope (effects effect.Scan) t known parts body.part body.state.parts) (sym (same_answer ts (types_of typed.params) effects typed.effects a typed.answer same))
      (subst (λ scans. HasKind scope scans typed.answer known parts body.part body.state.parts) (sym (ap (λ s. s effect.Scan) like))
      (expr_kinded p i closed (called helpers n) n calls_kinded at.has.functions false typed.body (sym (ap (λ s. s effect.Local) like) ∙ own) (sym (ap (λ s. s effect.Trap) like) ∙ traps)
      (before_caller p i u n (nodes_of false typed.body) below at.flat)
      (taken_in_order i.helpers (nodes_of false typed.body) (pending at.f.types at.f.calls) (pending [] []) at.takes (each_at (λ (f : GroundFun). Each IsInOrder f.types) helpers h at.f at.is in_order))
      scope known (bound [] (function_of at.f).params numbers) (record { parts = parts; types = at.f.types; calls = at.f.calls }) (pending [] []) ordered described have at.takes).has)

  pub calls_kinded : AreHelpersAt p i bound_names closed tables rows helpers → (n : ℕ) → CallsKinded p i (called helpers n) n
  calls_kinded helpers_at zero u (listed, below) h is ts effects a type_is own traps scope known numbers parts ordered described within seen = absurd (omega (arith, below))
  calls_kinded helpers_at (suc n) u (listed, below) h is ts effects a type_is own traps scope known numbers parts ordered described within seen =
      let at : At h u = helpers_at h u is in
      subst (λ (m : Made). HasKind scope (effects effect.Scan) a known parts m.part m.state.parts) (sym (called_more helpers (suc n) n h numbers parts (Some at.f) refl at.is))
      (entered_kinded n (calls_kinded helpers_at n) u below h at ts effects a type_is own traps scope known numbers parts ordered described within seen)

-- ---- ground programs

-- what calls in a ground program make, where the columns of lists stand in order in its helpers
pub helpers_kinded : (p : Program) (bound : IsBound p) (g : GroundProgram) (has : HasInstances p g) → Each (λ (f : GroundFun). Each IsInOrder f.types) g.helpers → (n : ℕ) → CallsKinded p has.shaped.instances (called g.helpers n) n
helpers_kinded p bound g has in_order n =
    calls_kinded p has.shaped.instances bound has.shaped.closed (λ name. []) (no_rows (table_defs p)) g.helpers in_order (helpers_there p bound g has (λ name. []) (no_rows (table_defs p))) n
