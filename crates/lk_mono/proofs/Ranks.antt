-- A helper calls only helpers whose functions have lower numbers in the program, so no helper calls itself.
use Rattle.std.proofs.Common.{◌≡◌, inl, inr, ℕ, zero, suc, ◌<◌, Bool, true, false, List, [], ◌∷◌, Some, slice_get, refl, sym, ap, subst, ◌∙◌}
use native.Mathlib.Omega.{arith}
use Rattle.std.proofs.lemmas.Option.{none-some}
use Rattle.lk_ast.specs.Functions.{functions_of}
use Rattle.lk_ast.specs.declared.declaration.Program.{Program}
use Rattle.lk_ground.specs.declared.program.GroundFun.{GroundFun}
use Rattle.lk_ground.specs.declared.program.GroundProgram.{GroundProgram}
use Rattle.lk_types.proofs.Parts.{same_some}
use Rattle.lk_infer.specs.Inferred.{HasTypes}
use Rattle.lk_mono.proofs.HelperUses.{IsGood, all_good, body_there, effects_free}
use Rattle.lk_mono.proofs.Loopless.{IsLoopless}
use Rattle.lk_mono.proofs.MayUse.{may_use}
use Rattle.lk_mono.proofs.UsedNames.{uses_named}
use Rattle.lk_mono.specs.Grounded.{Are, AreCalled, IsGrounded}
use Rattle.lk_mono.specs.Grounded as grounded
use Rattle.lk_mono.specs.Instances.{Body, HasBody, IsBody, uses_of}
use Rattle.lk_mono.specs.Order.{AreRanked, Leads, NoHelperCallsItself}
use Rattle.lk_mono.specs.Order as order
use Rattle.lk_mono.specs.Shapes.{IsUsedBy}
use Rattle.lk_names.specs.Programs.{IsBound}
use Rattle.lk_outline.proofs.Outlined.{outline_law}
use Rattle.lk_sound.specs.Nodes.{TypedNode, Use, nodes_of, parts_of}
use Rattle.lk_principal.proofs.FunctionNames.{one_place}
use Rattle.lk_principal.specs.Law.{IsInstanceOf, UseLaw}
use Rattle.lk_sound.proofs.Apart.{functions_apart}
use Rattle.lk_types.specs.Each.{Each, OneOf}
use Rattle.lk_types.specs.Rows.{EffectSet}
use Rattle.lk_types.specs.declared.scheme.Scheme.{Scheme}
use Rattle.lk_types.specs.declared.ty.Effect.TheVariants as effect
use Rattle.lk_types.specs.declared.ty.Ty.{Ty}
use Rattle.lk_typing.specs.Groups.{is_mutual, is_recursive}
use Rattle.lk_typing.specs.Names.{MayBe}
use Rattle.lk_typing.specs.Typing.{HasIf}
use Rattle.lk_typing.specs.Uses.{functions_used}

-- ---- helpers with ranks

module _ (g : GroundProgram) (ranks : AreRanked g) where
  leads_lower : {caller callee : ℕ} → Leads g caller callee → ranks.0 callee < ranks.0 caller
  leads_lower {caller} (order.Leads.directly {callee} calls) = ranks.1 caller callee calls
  leads_lower {caller} (order.Leads.through {other} {callee} leads calls) =
      let first : ranks.0 other < ranks.0 caller = leads_lower leads in
      let second : ranks.0 callee < ranks.0 other = ranks.1 other callee calls in
      omega arith

  pub ranked_apart : NoHelperCallsItself g
  ranked_apart place leads = let lower : ranks.0 place < ranks.0 place = leads_lower leads in absurd (omega arith)

-- ---- what is used

-- what holds of the uses at nodes holds of one that is used there
used_there : (P : Use → Type 0) (nodes : List TypedNode) → Each (λ (node : TypedNode). (u : Use) → node.part.use_of ≡ Some u → P u) nodes → (w : Use) → OneOf (IsUsedBy w) (parts_of nodes) → P w
used_there P [] all w one = absurd one
used_there P (node ∷ nodes) all w (inl here) = all.0 w here
used_there P (node ∷ nodes) all w (inr later) = used_there P nodes all.1 w later

no_recursion : (b : Bool) (effects : EffectSet) → effects effect.Rec ≡ false → HasIf b effects effect.Rec → b ≡ false
no_recursion true effects free recurs = sym recurs ∙ free
no_recursion false effects free recurs = refl

module _ (use_law : UseLaw) (p : Program) (schemes : List Scheme) (types : List Ty) (has : HasTypes p schemes types) (bound : IsBound p) where
  abbrev Has : Body → Type 0
  Has body = HasBody p schemes types body

  module _ {u : Use} {nodes : List TypedNode} (body : IsBody p schemes types u nodes) (loopless : IsLoopless u.type) (w : Use) (uses : OneOf (IsUsedBy w) (parts_of nodes)) where
    uses_typed : OneOf (IsUsedBy w) (parts_of (nodes_of false body.typed.is.typed.body))
    uses_typed = subst (λ ns. OneOf (IsUsedBy w) (parts_of ns)) body.are uses

    may_be : MayBe body.typed.is.functions w.name w.type
    may_be = used_there (λ v. MayBe body.typed.is.functions v.name v.type) (nodes_of false body.typed.is.typed.body) (may_use false body.typed.is.typed.body) w uses_typed

    named_there : OneOf (λ name. name ≡ w.name) (functions_used body.function.body)
    named_there = used_there (λ v. OneOf (λ name. name ≡ v.name) (functions_used body.function.body)) (nodes_of false body.typed.is.typed.body) (uses_named false body.typed.is.typed.body) w uses_typed

    not_recursive : is_recursive (is_mutual body.typed.is.decl) body.function ≡ false
    not_recursive = no_recursion (is_recursive (is_mutual body.typed.is.decl) body.function) body.typed.is.typed.effects (effects_free body loopless) body.typed.is.typed.recurs

    found : (found : IsInstanceOf p schemes w.name w.type) × (found.number < body.number)
    found =
        let both = use_law p schemes types has bound body.function u.type body.typed.nodes body.typed.is w.name w.type may_be in
        (both.0, both.1 body.number body.is not_recursive named_there)

    -- what such an instance uses has a lower number
    pub lower : {others : List TypedNode} (other : IsBody p schemes types w others) → other.number < body.number
    lower other =
        let function : found.0.function ≡ other.function = same_some (sym found.0.named ∙ other.named) in
        let same : found.0.number ≡ other.number = one_place (functions_of p) (functions_apart p bound) found.0.number other.number other.function (found.0.is ∙ ap (λ f. Some f) function) other.is in
        subst (λ n. n < body.number) same found.1

  -- ---- ranks

  -- the numbers of the functions of instances, by their places
  abbrev rank : (bodies : List Body) → Each Has bodies → ℕ → ℕ
  rank [] have place = 0
  rank (body ∷ bodies) have zero = have.0.number
  rank (body ∷ bodies) have (suc place) = rank bodies have.1 place

  rank_is : (bodies : List Body) (have : Each Has bodies) (place : ℕ) (body : Body) → slice_get bodies place ≡ Some body → (is : Has body) × (rank bodies have place ≡ is.number)
  rank_is [] have place body at = absurd (none-some body at)
  rank_is (first ∷ bodies) have zero body at = by_same first have.0 (let same : first ≡ body = cc in same)
    where
      by_same : (b : Body) (is : Has b) → b ≡ body → (its : Has body) × (is.number ≡ its.number)
      by_same b is same = subst (λ other. (its : Has other) × (is.number ≡ its.number)) same (is, refl)
  rank_is (first ∷ bodies) have (suc place) body at = rank_is bodies have.1 place body at

  module _ (mains : List Use) (helpers : List Body) (have : Each Has helpers) (good : Each (IsGood helpers) (uses_of helpers)) where
    -- the helper at a place
    helper_at : (fs : List GroundFun) (bodies : List Body) → Are p mains (uses_of helpers) true fs bodies → (place : ℕ) (f : GroundFun) → slice_get fs place ≡ Some f
        → (body : Body) × (slice_get bodies place ≡ Some body) × AreCalled mains (uses_of helpers) true body.nodes f.calls
    helper_at [] [] grounded.Are.none place f at = absurd (none-some f at)
    helper_at [] (body ∷ bodies) are place f at = elim are [ ]
    helper_at (h ∷ fs) [] are place f at = elim are [ ]
    helper_at (h ∷ fs) (body ∷ bodies) (grounded.Are.more is others) zero f at =
        let same : h ≡ f = cc in
        (body, refl, subst (λ (k : GroundFun). AreCalled mains (uses_of helpers) true body.nodes k.calls) same is.calls)
    helper_at (h ∷ fs) (body ∷ bodies) (grounded.Are.more is others) (suc place) f at = helper_at fs bodies others place f at

    -- what stands at the place that is called is used
    called_used : {nodes : List TypedNode} {places : List ℕ} → AreCalled mains (uses_of helpers) true nodes places → (callee : ℕ) → OneOf (λ place. place ≡ callee) places
        → (w : Use) × (slice_get (uses_of helpers) callee ≡ Some w) × OneOf (IsUsedBy w) (parts_of nodes)
    called_used grounded.AreCalled.none callee one = absurd one
    called_used (grounded.AreCalled.other none others) callee one = let found = called_used others callee one in (found.0, found.1, inr found.2)
    called_used (grounded.AreCalled.called {u = w} is at others) callee (inl here) = (w, sym (ap (slice_get (uses_of helpers)) here) ∙ at, inl is)
    called_used (grounded.AreCalled.called is at others) callee (inr later) = let found = called_used others callee later in (found.0, found.1, inr found.2)

    loopless_at : (bodies : List Body) → Each (IsGood helpers) (uses_of bodies) → (place : ℕ) (body : Body) → slice_get bodies place ≡ Some body → IsLoopless body.use_of.type
    loopless_at [] all place body at = absurd (none-some body at)
    loopless_at (first ∷ bodies) all zero body at = let same : first ≡ body = cc in subst (λ (b : Body). IsLoopless b.use_of.type) same all.0.0
    loopless_at (first ∷ bodies) all (suc place) body at = loopless_at bodies all.1 place body at

    calls_lower : (fs : List GroundFun) → Are p mains (uses_of helpers) true fs helpers → (caller callee : ℕ) (f : GroundFun) → slice_get fs caller ≡ Some f → OneOf (λ place. place ≡ callee) f.calls
        → rank helpers have callee < rank helpers have caller
    calls_lower fs are caller callee f at one =
        let here = helper_at fs helpers are caller f at in
        let used = called_used here.2 callee one in
        let there = body_there helpers callee used.0 used.1 in
        let mine = rank_is helpers have caller here.0 here.1 in
        let its = rank_is helpers have callee there.0 there.2 in
        let below : its.0.number < mine.0.number =
        lower mine.0 (loopless_at helpers good caller here.0 here.1) there.0.use_of (subst (λ w. OneOf (IsUsedBy w) (parts_of here.0.nodes)) (sym there.1) used.2) its.0 in
        subst (λ n. n < rank helpers have caller) (sym its.1) (subst (λ n. its.0.number < n) (sym mine.1) below)

pub ranked : UseLaw → (p : Program) (schemes : List Scheme) (types : List Ty) → HasTypes p schemes types → IsBound p → (g : GroundProgram) → IsGrounded p schemes types g → AreRanked g
ranked use_law p schemes types has bound g is = (
  rank use_law p schemes types has bound is.helpers is.instances.helper_bodies,
  λ caller callee calls.
      calls_lower use_law p schemes types has bound (uses_of is.mains) is.helpers is.instances.helper_bodies
      (all_good outline_law p schemes types bound is.mains is.helpers is.instances is.shaped)
      g.helpers is.others caller callee calls.0 calls.1 calls.2,
)

pub none_calls_itself : UseLaw → (p : Program) (schemes : List Scheme) (types : List Ty) → HasTypes p schemes types → IsBound p → (g : GroundProgram) → IsGrounded p schemes types g → NoHelperCallsItself g
none_calls_itself use_law p schemes types has bound g is = ranked_apart g (ranked use_law p schemes types has bound g is)
