-- Instances one after another: what each has in the table, and that its body is typed.
use Rattle.std.proofs.Common.{◌≡◌, ◌⊎◌, inl, inr, refl, sym, ap, subst, ◌∙◌, ℕ, zero, suc, ◌+◌, ◌≤◌, ◌<◌, false, List, [], ◌∷◌, append-nil, length, map, Option, Some, None, slice_get, arith}
use Rattle.std.proofs.lemmas.Bool.{cases_lt}
use Rattle.std.proofs.lemmas.Option.{none-some}
use Rattle.std.specs.Cmp.Lexicographic.{slice_cmp}
use Rattle.std.specs.List.Sorted.{IsStrictlySortedBy}
use Rattle.std.specs.Ordering.{nat_cmp}
use Rattle.lk_ast.specs.Tables.{tables_of}
use Rattle.lk_ast.specs.declared.declaration.Program.{Program}
use Rattle.lk_ast.specs.declared.place.Loc.{Loc}
use Rattle.lk_code.specs.Parts as code
use Rattle.lk_code.specs.Parts.{Info, IsTypedBody, under_names}
use Rattle.lk_ground.specs.Language.{function_of}
use Rattle.lk_ground.specs.declared.program.GroundFun.{GroundFun}
use Rattle.lk_ir.specs.Tables.{body_at, body_of, whole_at}
use Rattle.lk_ir.specs.Uses.{Among}
use Rattle.lk_ir.specs.declared.nodes.Body.{Body}
use Rattle.lk_ir.specs.declared.nodes.Forms.{Forms}
use Rattle.lk_lower.specs.Lowering as low
use Rattle.lk_lower.specs.Lowering.{AreFuns, AreLocals, IsBodyLabel, IsLowered, Pending, TypeIs, text_of}
use Rattle.lk_lowered.proofs.Blocks.{blocks_ok}
use Rattle.lk_lowered.proofs.Contexts as contexts
use Rattle.lk_lowered.proofs.Contexts.{AreNamesOf, params_under}
use Rattle.lk_lowered.proofs.LabelBodies.{IsTypedAt, bodies_typed, nodes_typed}
use Rattle.lk_lowered.proofs.Lambdas as lambdas
use Rattle.lk_lowered.proofs.Locals.{long_locals}
use Rattle.lk_lowered.proofs.OwnBodies.{IsOwnBody, distinct_numbers, own_bodies}
use Rattle.lk_lowered.proofs.Typed.{IsOk}
use Rattle.lk_lowered.proofs.Turning.{IsWholeOf}
use Rattle.lk_lowered.proofs.TypedInside.{typed_in}
use Rattle.lk_lowered.proofs.Told as known_of
use Rattle.lk_lowered.proofs.Told.{AreFromUses, Tells}
use Rattle.lk_mono.proofs.NodeTypes.{types_of as node_types}
use Rattle.lk_mono.specs.Grounded.{AreCalled}
use Rattle.lk_mono.specs.Instanced as instanced
use Rattle.lk_mono.specs.Instanced.{AreInstancesOf, IsInstanceOf}
use Rattle.lk_names.specs.Programs.{IsBound}
use Rattle.lk_sound.proofs.Apart.{params_apart}
use Rattle.lk_sound.proofs.Calls.{length_names}
use Rattle.lk_sound.proofs.Within.{function_within}
use Rattle.lk_sound.specs.Instances.{AreClosed, Instances, IsFine}
use Rattle.lk_sound.specs.Nodes.{Use, nodes_of}
use Rattle.lk_types.proofs.Parts.{same_some}
use Rattle.lk_types.specs.Rows.{EffectSet, effects_of}
use Rattle.lk_types.specs.declared.ground.Ground.{Ground}
use Rattle.lk_types.specs.declared.ground.Ground.TheVariants as known
use Rattle.lk_typing.specs.Names.{Named, names_of, texts, types_of}

nothing_named : (f : Forms) (ks : List ℕ) → AreLocals f ks [] → ks ≡ []
nothing_named f [] are = refl
nothing_named f (k ∷ ks) are = absurd are

nothing_kept : (f : Forms) (root : ℕ) {xs : List ℕ} {ts : List Ground} → AreFromUses f root xs ts → xs ≡ [] → ts ≡ []
nothing_kept f root known_of.no_name is = refl
nothing_kept f root (known_of.one_name {x = x} {xs = xs} ty uses has rest) is = let wrong : x ∷ xs ≡ [] = is in absurd cc

module _ (f : Forms) (rise : IsStrictlySortedBy (slice_cmp nat_cmp) f.locals) (info : ℕ → Option Info) (p : Program) (i : Instances) where
  abbrev Funs : List GroundFun → List Use → Type 0
  Funs = AreInstancesOf p i false (λ u. IsFine i)

  -- ---- what is told of an instance

  record IsToldFun (label : ℕ) (body : Body) (params : Named Ground) (effects : EffectSet) (answer : Ground) : Type 0 where
    no_names : body.names ≡ []
    is : info label ≡ Some (record { params = types_of params; effects = effects_of effects; result = answer; env = [] })

  module _ (tells : Tells f info) where
    told_fun : {fun : GroundFun} {u : Use} (is : IsInstanceOf p i false (IsFine i) (function_of fun) fun u) → {owner label : ℕ} {place : Loc} (ty : ℕ) (body : Body) → TypeIs f ty (fun.ty ∷ []) → IsBodyLabel f owner None ty label place [] (function_of fun).params body
        → IsToldFun label body is.has.typed.params is.has.typed.effects is.has.typed.answer
    told_fun {fun} {u} is {label = label} ty body type_is of =
        let t = is.has.typed in
        let none : body.names ≡ [] = nothing_named f body.names of.names_are in
        let has : slice_get f.types ty ≡ Some (known.Fun (types_of t.params) (effects_of t.effects) t.answer) = type_is.1 ∙ sym type_is.2 ∙ ap (λ a. Some a) (is.type ∙ t.is) in
        let told = tells.bodies label of.form body (types_of t.params) (effects_of t.effects) t.answer of.is of.body_is (ap (slice_get f.types) of.ty_is ∙ has) in
        record {
          no_names = none;
          is = told.1 ∙ ap (λ env. Some (record { params = types_of t.params; effects = effects_of t.effects; result = t.answer; env = env })) (nothing_kept f body.root told.2 none);
        }

    -- ---- what each instance has

    pub wholes : {k label next : ℕ} {funs : List GroundFun} {us : List Use} → AreFuns f k funs label next → Funs funs us → (place : ℕ) (u : Use) → slice_get us place ≡ Some u → IsWholeOf f info (place + k) u
    wholes (low.no_fun a b c d) instanced.none place u at = absurd (none-some u at)
    wholes {k} (low.one_fun {label = label} body after ty whole titled type_is of lowered others) (instanced.more {u = v} is rest) zero u at =
        let told = told_fun is ty body type_is of in
        let same : v ≡ u = same_some at in
        subst (λ (w : Use). IsWholeOf f info (zero + k) w) same
        (record {
          label = label;
          of = record { params = types_of is.has.typed.params; effects = effects_of is.has.typed.effects; result = is.has.typed.answer; env = [] };
          whole = ap (whole_at f) (let e : zero + k ≡ k = omega arith in e) ∙ whole;
          is = told.is;
          no_env = refl;
          has = (body, ap body_of of.is ∙ of.body_is);
          type = is.has.typed.is;
        })
    wholes {k} (low.one_fun body after ty whole titled type_is of lowered others) (instanced.more is rest) (suc place) u at =
        subst (λ n. IsWholeOf f info n u) (let e : place + (1 + k) ≡ suc place + k = omega arith in e) (wholes others rest place u at)

  -- ---- what is bound and kept

  pub own_all : IsBound p → {k label next : ℕ} {funs : List GroundFun} {us : List Use} → AreFuns f k funs label next → Funs funs us → (n : ℕ) → label ≤ n → n < length f.labels → (b : Body) → body_at f n ≡ Some b → IsOwnBody f info n b
  own_all bound (low.no_fun a b labels d) instanced.none n from to body is = absurd (omega (arith, labels))
  own_all bound {label = label} (low.one_fun {fun = fun} own after ty whole titled type_is of lowered others) (instanced.more is rest) n from to body at =
      by_side (cases_lt label n) (cases_lt n after.label)
      (λ here. subst (λ j. IsOwnBody f info j body) here (subst (IsOwnBody f info label) (same_some (sym (ap body_of of.is ∙ of.body_is) ∙ ap (body_at f) here ∙ at)) at_start))
      (λ later before. own_bodies f rise info p bound is.has.functions (tables_of p) lowered (typed_in is.has.functions (tables_of p) is.has.typed.body) (function_within p (function_of fun) is.has.declared) n (let e : label + 1 ≤ n = omega arith in e) before body at)
      (λ behind. own_all bound others rest n behind to body at)
    where
      none : own.names ≡ []
      none = nothing_named f own.names of.names_are

      at_start : IsOwnBody f info label own
      at_start = record {
        params = distinct_numbers f info own.params (texts (function_of fun).params) of.params_are (params_apart p (function_of fun) bound is.has.declared);
        names = subst (code.AreDistinct f info) (sym none) tt;
        used = λ x among. absurd (no_among (subst (Among x) none among));
        top = λ l there unlabelled. none;
      }
        where
          no_among : {x : ℕ} → Among x [] → ⊥
          no_among among = elim among [ ]

      by_side : (label < n) ⊎ (n ≤ label) → (n < after.label) ⊎ (after.label ≤ n) → (label ≡ n → IsOwnBody f info n body) → (label < n → n < after.label → IsOwnBody f info n body) → (after.label ≤ n → IsOwnBody f info n body) → IsOwnBody f info n body
      by_side (inl later) (inl before) first inner others = inner later before
      by_side (inl later) (inr behind) first inner others = others behind
      by_side (inr here) side first inner others = first (let e : label ≡ n = omega arith in e)

  -- ---- bodies and nodes

  module _ (tells : Tells f info) (closed : AreClosed p i) (every : (place : ℕ) (u : Use) → slice_get i.mains place ≡ Some u → IsWholeOf f info place u) where
    -- the body of an instance is typed under its parameters
    body_ok : {fun : GroundFun} {u : Use} (is : IsInstanceOf p i false (IsFine i) (function_of fun) fun u) → {owner within n label next : ℕ} {after : Pending} (ks : List ℕ) → AreLocals f ks (map text_of (function_of fun).params)
        → IsLowered f owner within (function_of fun).body (record { types = fun.types; calls = fun.calls; label = label; next = next }) n after → IsOk f rise info tells i.mains i.helpers owner (under_names ks (types_of is.has.typed.params) []) n is.has.typed.answer [] [] after
    body_ok {fun} is {owner = owner} ks params_are lowered =
        let t = is.has.typed in
        let are : AreLocals f ks (names_of t.params) = subst (AreLocals f ks) (sym t.names) params_are in
        let context : AreNamesOf f t.params (under_names ks (types_of t.params) []) = subst (λ names. AreNamesOf f names (under_names ks (types_of t.params) [])) (append-nil t.params) (params_under f ks t.params [] [] are contexts.no_name) in
        lambdas.typed f rise info tells i.mains i.helpers owner i every (blocks_ok f rise info tells p i closed owner) t.body lowered (under_names ks (types_of t.params) []) context [] []
        (is.types ∙ node_types false t.body ∙ sym (append-nil (t.answer ∷ t.inside))) (subst (λ ns. AreCalled i.mains i.helpers false ns fun.calls) (sym (append-nil (nodes_of false t.body))) is.calls) is.nodes

    -- the bodies of these labels, and these nodes
    pub record AreTypedFrom (label next : ℕ) : Type 0 where
      pub bodies : (n : ℕ) → label ≤ n → n < length f.labels → (b : Body) → body_at f n ≡ Some b → IsTypedBody f info n b
      pub nodes : (n : ℕ) → next ≤ n → n < length f.nodes → IsTypedAt f info n

    -- one instance, and those behind it
    with_others : {fun : GroundFun} {u : Use} (is : IsInstanceOf p i false (IsFine i) (function_of fun) fun u) → {owner label next : ℕ} {place : Loc} (own : Body) (after : Pending) (ty : ℕ) → TypeIs f ty (fun.ty ∷ []) → IsBodyLabel f owner None ty label place [] (function_of fun).params own
        → IsLowered f owner label (function_of fun).body (record { types = fun.types; calls = fun.calls; label = label + 1; next = next }) own.root after → AreTypedFrom after.label after.next → AreTypedFrom label next
    with_others {fun} is {owner = owner} {label = label} {next = next} own after ty type_is of lowered others =
        let ok = body_ok is own.params of.params_are lowered in
        record {
          bodies = λ n from to body at. by_label n (cases_lt label n) (cases_lt n after.label)
              (λ here. subst (λ j. IsTypedBody f info j body) here (subst (IsTypedBody f info label) (same_some (sym (ap body_of of.is ∙ of.body_is) ∙ ap (body_at f) here ∙ at)) (at_start ok.typed)))
              (λ later before. bodies_typed f info lowered ok.bodies n (let e : label + 1 ≤ n = omega arith in e) before body at)
              (λ behind. others.bodies n behind to body at) from;
          nodes = λ n from to. by_node n (cases_lt n after.next) (λ before. nodes_typed f info lowered ok.typed ok.bodies n from before) (λ behind. others.nodes n behind to);
        }
      where
        told : IsToldFun label own is.has.typed.params is.has.typed.effects is.has.typed.answer
        told = told_fun tells is ty own type_is of

        at_start : code.IsTyped f info (under_names own.params (types_of is.has.typed.params) []) own.root is.has.typed.answer → IsTypedBody f info label own
        at_start typed = record {
          of = record { params = types_of is.has.typed.params; effects = effects_of is.has.typed.effects; result = is.has.typed.answer; env = [] };
          is = told.is;
          params_long = long_locals f own.params (names_of is.has.typed.params) (subst (AreLocals f own.params) (sym is.has.typed.names) of.params_are) ∙ length_names is.has.typed.params;
          names_long = ap length told.no_names;
          typed = subst (λ xs. code.IsTyped f info (under_names own.params (types_of is.has.typed.params) (under_names xs [] [])) own.root is.has.typed.answer) (sym told.no_names) typed;
        }

        by_label : {A : Type 0} (n : ℕ) → (label < n) ⊎ (n ≤ label) → (n < after.label) ⊎ (after.label ≤ n) → (label ≡ n → A) → (label < n → n < after.label → A) → (after.label ≤ n → A) → label ≤ n → A
        by_label n (inl later) (inl before) first inner others from = inner later before
        by_label n (inl later) (inr behind) first inner others from = others behind
        by_label n (inr here) side first inner others from = first (let e : label ≡ n = omega arith in e)

        by_node : {A : Type 0} (n : ℕ) → (n < after.next) ⊎ (after.next ≤ n) → (n < after.next → A) → (after.next ≤ n → A) → A
        by_node n (inl before) first others = first before
        by_node n (inr behind) first others = others behind

    pub typed_all : {k label next : ℕ} {funs : List GroundFun} {us : List Use} → AreFuns f k funs label next → Funs funs us → AreTypedFrom label next
    typed_all (low.no_fun a b labels nodes) instanced.none = record {
      bodies = λ n from to body is. absurd (omega (arith, labels));
      nodes = λ n from to. absurd (omega (arith, nodes));
    }
    typed_all (low.one_fun own after ty whole titled type_is of lowered others) (instanced.more is rest) = with_others is own after ty type_is of lowered (typed_all others rest)
