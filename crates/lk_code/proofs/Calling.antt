-- Calls enter bodies under names with values that fit, and what has a label is a value of its type.
use Rattle.std.proofs.Common.{◌≡◌, refl, sym, ap, subst, ◌∙◌, ℕ, List, [], ◌∷◌, Option, Some, None, length}
use Rattle.std.proofs.lemmas.Bool.{eq-eqb}
use Rattle.std.proofs.lemmas.Option.{none-some}
use Rattle.lk_ast.specs.declared.place.Span.{Span}
use Rattle.lk_ast.specs.declared.value.FunValue.{FunValue}
use Rattle.lk_ast.specs.declared.value.Value.{Value}
use Rattle.lk_ast.specs.declared.value.Value.TheVariants as value
use Rattle.lk_evaluation.specs.Evaluation.{Act}
use Rattle.lk_fits.proofs.Fitting.{as_many}
use Rattle.lk_fits.proofs.Shapes.{IsMade, made_of_fits}
use Rattle.lk_fits.specs.Values.{Fits, FitEach, none_left}
use Rattle.lk_ir.specs.Environments.{bind_each, no_names}
use Rattle.lk_ir.specs.LetNormal.{Point, apply, body_entered, call, entered, entered_as, kept_by}
use Rattle.lk_ir.specs.Tables.{body_at, body_of, label_at, mark_of, whole_at}
use Rattle.lk_ir.specs.declared.nodes.Body.{Body}
use Rattle.lk_ir.specs.declared.nodes.Forms.{Forms}
use Rattle.lk_ir.specs.declared.nodes.LabelForm.{LabelForm}
use Rattle.lk_operators.specs.Values.{fun_in}
use Rattle.lk_types.proofs.Parts.{same_some}
use Rattle.lk_types.specs.declared.ground.Ground.{Ground, out-Ground}
use Rattle.lk_types.specs.declared.ground.Ground.TheOpen.{Ground-F}
use Rattle.lk_types.specs.declared.ground.Ground.TheVariants as known
use Rattle.lk_types.specs.declared.ground.GroundField.{GroundField}
use Rattle.lk_types.specs.declared.ty.Effect.{Effect}
use Rattle.lk_code.proofs.Naming.{bound_each}
use Rattle.lk_code.specs.Acting.{ActsWell, AreFunctions}
use Rattle.lk_code.specs.Parts.{AreTypedForms, HasBody, Info, IsTyped, IsTypedBody, function_type, under_names}

-- ---- types of functions

abbrev Sides : Type 0
Sides = List Ground × Ground

abbrev sides : Ground-F Ground GroundField → Option Sides
sides (Ground-F.Fun ts effects t) = Some (ts, t)
sides other = None

same_sides : (ts us : List Ground) (es fs : List Effect) (t u : Ground) → known.Fun ts es t ≡ known.Fun us fs u → ◌≡◌ {A = Sides} (ts, t) (us, u)
same_sides ts us es fs t u is = same_some (sym (ap sides (known.outs-Fun ts es t)) ∙ ap (λ g. sides (out-Ground g)) is ∙ ap sides (known.outs-Fun us fs u))

none_long : (ts : List Ground) → 0 ≡ length ts → ts ≡ []
none_long [] is = refl
none_long (t ∷ ts) is = cc

module _ (IsFun : ℕ → Ground → List Ground → Type 0) (f : Forms) (info : ℕ → Option Info) (functions : AreFunctions IsFun f info) (sound : AreTypedForms f info) where
  abbrev Well : Ground → Act Point → Type 0
  Well t a = ActsWell IsFun f info t a

  -- ---- values

  pub function_fits : (label : ℕ) (of : Info) (env : List Value) → info label ≡ Some of → HasBody f label → FitEach IsFun env of.env → Fits IsFun (value.Fun (record { site = label; env = env })) (function_type of)
  function_fits label of env is has fit = Fits.function (record { site = label; env = env }) of.params of.env of.effects of.result refl (functions.made label of is has) fit refl

  -- ---- bodies

  module _ (label : ℕ) (of : Info) (b : Body) (is : info label ≡ Some of) (there : body_at f label ≡ Some b) where
    abbrev inner : IsTypedBody f info label b
    inner = sound.bodies label b there

    same : inner.of ≡ of
    same = same_some (sym inner.is ∙ is)

    params_long : length b.params ≡ length of.params
    params_long = inner.params_long ∙ ap (λ (i : Info). length i.params) same

    pub names_long : length b.names ≡ length of.env
    names_long = inner.names_long ∙ ap (λ (i : Info). length i.env) same

    body_typed : IsTyped f info (under_names b.params of.params (under_names b.names of.env [])) b.root of.result
    body_typed = subst (λ (i : Info). IsTyped f info (under_names b.params i.params (under_names b.names i.env [])) b.root i.result) same inner.typed

    pub entered_well : (at : Span) (env args : List Value) → FitEach IsFun env of.env → FitEach IsFun args of.params → Well of.result (entered at label env args (Some b))
    entered_well at env args kept passed =
        let long : length b.params ≡ length args = params_long ∙ sym (as_many IsFun args of.params passed) in
        let once = sound.once label b there in
        let captured = bound_each IsFun f info b.names of.env env [] no_names once.1 names_long kept (λ x uses t told. absurd (none-some t told)) in
        let all = bound_each IsFun f info b.params of.params args (under_names b.names of.env []) (bind_each no_names b.names env) once.0 params_long passed captured in
        subst (λ many. Well of.result (body_entered many at label env args b)) (sym (eq-eqb (length b.params) (length args) long))
        (record {
          of = of;
          is = is;
          place = ap mark_of there;
          kept = kept;
          passed = passed;
          result = refl;
          point = record { context = under_names b.params of.params (under_names b.names of.env []); typed = body_typed; names = λ x uses t told. all x tt t told };
        })

  -- ---- calls

  pub call_well : (at : Span) (i label : ℕ) (of : Info) (args : List Value) → whole_at f i ≡ Some label → info label ≡ Some of → of.env ≡ [] → HasBody f label → FitEach IsFun args of.params → Well of.result (call f at args (whole_at f i))
  call_well at i label of args whole is none has passed =
      subst (λ o. Well of.result (call f at args o)) (sym whole)
      (subst (λ o. Well of.result (entered at label [] args o)) (sym has.1)
      (entered_well label of has.0 is has.1 at [] args (subst (FitEach IsFun []) (sym none) none_left) passed))

  kept_fit : (node : Option ℕ) (env : List Value) (of : Info) → (node ≡ None → of.env ≡ []) → FitEach IsFun env of.env → FitEach IsFun (kept_by node env) of.env
  kept_fit None env of top fit = subst (FitEach IsFun []) (sym (top refl)) none_left
  kept_fit (Some n) env of top fit = fit

  value_entered : (at : Span) (g : FunValue) (of : Info) (b : Body) (args : List Value) → info g.site ≡ Some of → body_at f g.site ≡ Some b → FitEach IsFun g.env of.env → FitEach IsFun args of.params
      → Well of.result (entered_as at g args (label_at f g.site))
  value_entered at g of b args is there kept passed = by_label (label_at f g.site) refl there
    where
      top : (l : LabelForm) → label_at f g.site ≡ Some l → l.body ≡ Some b → l.node ≡ None → of.env ≡ []
      top l at_label body none = none_long of.env (sym (ap length (sound.tops g.site l b at_label none body)) ∙ names_long g.site of b is there)

      by_label : (o : Option LabelForm) → label_at f g.site ≡ o → body_of o ≡ Some b → Well of.result (entered_as at g args o)
      by_label None at_label body = absurd (none-some b body)
      by_label (Some l) at_label body =
          subst (λ o. Well of.result (entered at g.site (kept_by l.node g.env) args o)) (sym body)
          (entered_well g.site of b is there at (kept_by l.node g.env) args (kept_fit l.node g.env of (top l at_label body) kept) passed)

  pub apply_well : (at : Span) (ts : List Ground) (effects : List Effect) (t : Ground) (v : Value) (args : List Value) → Fits IsFun v (known.Fun ts effects t) → FitEach IsFun args ts → Well t (apply f at (fun_in v) args)
  apply_well at ts effects t v args fits passed =
      let made : IsMade IsFun v (known.Fun ts effects t) = made_of_fits IsFun v ts effects t fits in
      let shown : fun_in v ≡ Some made.f = ap fun_in made.is ∙ simp (value.outs-Fun) in
      let told = functions.told made.f.site (known.Fun ts effects t) made.kept made.fun in
      let same : ◌≡◌ {A = Sides} (ts, t) (told.0.params, told.0.result) = same_sides ts told.0.params effects told.0.effects t told.0.result told.2 in
      subst (λ o. Well t (apply f at o args)) (sym shown)
      (subst (λ u. Well u (entered_as at made.f args (label_at f made.f.site))) (sym (ap (λ (x : Sides). x.1) same))
      (value_entered at made.f told.0 told.4.0 args told.1 told.4.1 (subst (FitEach IsFun made.f.env) told.3 made.env) (subst (FitEach IsFun args) (ap (λ (x : Sides). x.0) same) passed)))
