-- What a body binds and captures, by the text: no name twice, and all that is captured is used.
use Rattle.std.proofs.Common.{◌≡◌, ◌⊎◌, inl, inr, ⊎_elim, refl, sym, ap, subst, ◌∙◌, ℕ, ◌+◌, ◌≤◌, ◌<◌, Bool, true, false, List, [], ◌∷◌, ◌++◌, Option, Some, None, if◌then◌else◌, arith}
use Rattle.std.proofs.lemmas.Bool.{cases_lt}
use Rattle.std.proofs.lemmas.Option.{none-some}
use Rattle.std.proofs.lemmas.Slice.Eq.{bytes_eq-Decides}
use Rattle.std.specs.Cmp.Lexicographic.{slice_cmp}
use Rattle.std.specs.List.Sorted.{IsStrictlySortedBy}
use Rattle.std.specs.Ordering.{nat_cmp}
use Rattle.std.specs.Prelude.{bytes_eq}
use Rattle.lk_ast.specs.Layers.{layer}
use Rattle.lk_ast.specs.declared.declaration.Program.{Program}
use Rattle.lk_ast.specs.declared.declaration.TableDecl.{TableDecl}
use Rattle.lk_ast.specs.declared.expression.Expr.{Expr}
use Rattle.lk_ast.specs.declared.expression.LambdaExpr.{LambdaExpr}
use Rattle.lk_ast.specs.declared.place.Loc.{Loc}
use Rattle.lk_code.specs.Parts as code
use Rattle.lk_code.specs.Parts.{Info}
use Rattle.lk_evaluation.specs.Syntax.{parts_of}
use Rattle.lk_index.specs.Free.{captured, free_lambda}
use Rattle.lk_ir.specs.Tables.{body_at, body_of, label_at}
use Rattle.lk_ir.specs.Uses.{Among, Uses}
use Rattle.lk_ir.specs.declared.nodes.Body.{Body}
use Rattle.lk_ir.specs.declared.nodes.Forms.{Forms}
use Rattle.lk_ir.specs.declared.nodes.LabelForm.{LabelForm}
use Rattle.lk_lower.proofs.Counted.{children_of, takes}
use Rattle.lk_lower.specs.Lowering as low
use Rattle.lk_lower.specs.Lowering.{AreLocals, AreLowered, IsBodyLabel, IsLowered, Pending, tails_of}
use Rattle.lk_lowered.proofs.Contexts.{among_local, local_of}
use Rattle.lk_lowered.proofs.LabelBodies.{inside_from, own_step}
use Rattle.lk_lowered.proofs.Lambdas as lambdas
use Rattle.lk_lowered.proofs.TypedInside.{IsTypedIn, children_typed, lambda_typed, typed_in}
use Rattle.lk_lowered.proofs.UsesFree.{uses_free}
use Rattle.lk_names.specs.Programs.{IsBound}
use Rattle.lk_scope.specs.Names.{bind_all, no_names}
use Rattle.lk_sound.proofs.Apart.{captured_apart, lambda_params_apart}
use Rattle.lk_sound.proofs.FreeLevels.{lambda_level}
use Rattle.lk_sound.proofs.Inside.{insides}
use Rattle.lk_sound.proofs.Names.{AreDistinct, IsAmong}
use Rattle.lk_sound.proofs.OrderedWords.{ordered_of}
use Rattle.lk_sound.proofs.Within.{insides_within, lambda_inside}
use Rattle.lk_sound.specs.Within.{IsWithin}
use Rattle.lk_types.proofs.Members.{each_back, each_front}
use Rattle.lk_types.proofs.Parts.{same_some}
use Rattle.lk_types.specs.Each.{Each}
use Rattle.lk_types.specs.Rows.{EffectSet, Label}
use Rattle.lk_types.specs.declared.ground.Ground.{Ground}
use Rattle.lk_typing.specs.Names.{Entry, Named, named, names_of, texts}
use Rattle.lk_typing.specs.Typing.{HasType}

module _ (f : Forms) (info : ℕ → Option Info) where
  pub record IsOwnBody (k : ℕ) (b : Body) : Type 0 where
    pub params : code.AreDistinct f info b.params
    pub names : code.AreDistinct f info b.names
    pub used : (x : ℕ) → Among x b.names → Uses f x b.root × (Among x b.params → ⊥)
    pub top : (l : LabelForm) → label_at f k ≡ Some l → l.node ≡ None → b.names ≡ []

  pub distinct_numbers : (ks : List ℕ) (xs : List Label) → AreLocals f ks xs → AreDistinct xs → code.AreDistinct f info ks
  distinct_numbers [] xs are apart = tt
  distinct_numbers (k ∷ ks) [] are apart = absurd are
  distinct_numbers (k ∷ ks) (x ∷ xs) are apart = (λ among. apart.0 (among_local f ks xs k x are.1 are.0 among), distinct_numbers ks xs are.1 apart.1)

-- a name of which the parameters tell nothing is none of them
no_param : (x : Label) (params : Named Ground) → named x params ≡ None → IsAmong x (names_of params) → ⊥
no_param x [] is among = among
no_param x (p ∷ params) is among = by_test (bytes_eq p.0 x) refl is among (no_param x params)
  where
    by_test : (b : Bool) → bytes_eq p.0 x ≡ b → (if b then Some p.1 else named x params) ≡ None → (p.0 ≡ x) ⊎ IsAmong x (names_of params) → (named x params ≡ None → IsAmong x (names_of params) → ⊥) → ⊥
    by_test true same none among later = (let wrong : Some p.1 ≡ None = none in cc)
    by_test false apart none (inl same) later = (let wrong : true ≡ false = sym ((bytes_eq-Decides p.0 x).1 same) ∙ apart in cc)
    by_test false apart none (inr among) later = later none among

module _ (f : Forms) (rise : IsStrictlySortedBy (slice_cmp nat_cmp) f.locals) (info : ℕ → Option Info) (p : Program) (bound : IsBound p) (functions : Named (Entry Ground)) (tables : List TableDecl) where
  -- what is captured is used by the body, and no parameter
  captured_uses : (names : Named Ground) {own : EffectSet} {b : Ground} {inside : List Ground} {owner within n : ℕ} {before after : Pending} (l : LambdaExpr) (params : Named Ground)
      → names_of params ≡ texts l.params → HasType functions tables (params ++ names) own l.body b inside → IsLowered f owner within l.body before n after → (js ks : List ℕ) → AreLocals f js (names_of params) → AreLocals f ks (captured l)
      → (k : ℕ) → Among k ks → Uses f k n × (Among k js → ⊥)
  captured_uses names {owner = owner} l params are typed lowered js ks params_are captured_are k among =
      let one = local_of f ks (captured l) k captured_are among in (
        uses_free f rise k one.0 one.1 owner typed lowered (bind_all l.params no_names) (subst (IsAmong one.0) (lambda_level l no_names) (ordered_of (free_lambda l no_names) one.0 one.2)),
        λ param. no_param one.0 params (lambdas.captured_apart names l params are typed one.0 one.2) (among_local f js (names_of params) k one.0 params_are one.1 param),
      )

  -- the body of a lambda
  lambda_own : (names : Named Ground) {own : EffectSet} {b : Ground} {inside : List Ground} {owner within n label ty : ℕ} {before after : Pending} (site : ℕ) (place : Loc) (l : LambdaExpr) (params : Named Ground) (body : Body) → names_of params ≡ texts l.params → HasType functions tables (params ++ names) own l.body b inside
      → AreDistinct (texts l.params) → IsBodyLabel f owner (Some n) ty label place (captured l) l.params body → IsLowered f owner within l.body before body.root after → IsOwnBody f info label body
  lambda_own names {n = n} site place l params body are typed apart label lowered = record {
    params = distinct_numbers f info body.params (texts l.params) label.params_are apart;
    names = distinct_numbers f info body.names (captured l) label.names_are (captured_apart l);
    used = captured_uses names l params are typed lowered body.params body.names (subst (AreLocals f body.params) (sym are) label.params_are) label.names_are;
    top = λ other is none. absurd (none-some n (sym none ∙ ap (λ (it : LabelForm). it.node) (same_some (sym is ∙ label.is)) ∙ label.node_is));
  }

  mutual
    pub own_bodies : {owner within n : ℕ} {e : Expr} {before after : Pending} → IsLowered f owner within e before n after → IsTypedIn functions tables e → IsWithin p e → (k : ℕ) → before.label ≤ k → k < after.label → (b : Body) → body_at f k ≡ Some b → IsOwnBody f info k b
    own_bodies {owner = owner} {e = e} {before = before} {after = after} (low.node form inside between number is at in_it has shell parts tails) d within k from to b body =
        let further : inside.label ≤ k = inside_from f before inside (own_step f owner _ _ shell).1 k from b body in
        let all : Each (IsTypedIn functions tables) (children_of (layer e)) = children_typed functions tables d.typed in
        let own : Each (IsWithin p) (children_of (layer e)) = ⊎_elim (λ (same : insides (layer e) ≡ children_of (layer e)). subst (Each (IsWithin p)) same (insides_within p e within)) (λ (nothing : children_of (layer e) ≡ []). subst (Each (IsWithin p)) (sym nothing) tt) (takes f owner _ _ shell).inner in
        by_side (cases_lt k between.label)
        (λ earlier. all_own_bodies parts (each_front (IsTypedIn functions tables) (parts_of (layer e)) (tails_of (layer e)) all) (each_front (IsWithin p) (parts_of (layer e)) (tails_of (layer e)) own) k further earlier b body)
        (λ behind. all_own_bodies tails (each_back (IsTypedIn functions tables) (parts_of (layer e)) (tails_of (layer e)) all) (each_back (IsWithin p) (parts_of (layer e)) (tails_of (layer e)) own) k behind to b body)
      where
        by_side : (k < between.label) ⊎ (between.label ≤ k) → (k < between.label → IsOwnBody f info k b) → (between.label ≤ k → IsOwnBody f info k b) → IsOwnBody f info k b
        by_side (inl earlier) first others = first earlier
        by_side (inr behind) first others = others behind
    own_bodies {e = e} {before = before} {after = after} (low.lambda form l xs own is number there at in_it has kind_is locals no_part no_tail label inner) d within k from to b body =
        let lambda = lambda_typed functions tables d.typed l is in
        let inside = lambda_inside p e is within in
        let own_there : body_at f before.label ≡ Some own = ap body_of label.is ∙ label.body_is in
        by_side (cases_lt before.label k)
        (λ here. subst (λ j. IsOwnBody f info j b) here (subst (IsOwnBody f info before.label) (same_some (sym own_there ∙ ap (body_at f) here ∙ body))
        (lambda_own d.names e.span.start l.place l lambda.params own lambda.are lambda.typed (lambda_params_apart p _ bound inside.0) label inner)))
        (λ later. own_bodies inner (typed_in functions tables lambda.typed) inside.1 k later to b body)
      where
        by_side : (before.label < k) ⊎ (k ≤ before.label) → (before.label ≡ k → IsOwnBody f info k b) → (before.label + 1 ≤ k → IsOwnBody f info k b) → IsOwnBody f info k b
        by_side (inl later) first others = others (let e : before.label + 1 ≤ k = omega arith in e)
        by_side (inr here) first others = first (let e : before.label ≡ k = omega arith in e)

    all_own_bodies : {owner within : ℕ} {es : List Expr} {ns : List ℕ} {before after : Pending} → AreLowered f owner within es before ns after → Each (IsTypedIn functions tables) es → Each (IsWithin p) es → (k : ℕ) → before.label ≤ k → k < after.label → (b : Body) → body_at f k ≡ Some b → IsOwnBody f info k b
    all_own_bodies low.none typed within k from to b body = absurd (omega arith)
    all_own_bodies {before = before} {after = after} (low.more {between = between} one rest) (of_one, of_rest) (in_one, in_rest) k from to b body =
        by_side (cases_lt k between.label) (λ earlier. own_bodies one of_one in_one k from earlier b body) (λ behind. all_own_bodies rest of_rest in_rest k behind to b body)
      where
        by_side : (k < between.label) ⊎ (between.label ≤ k) → (k < between.label → IsOwnBody f info k b) → (between.label ≤ k → IsOwnBody f info k b) → IsOwnBody f info k b
        by_side (inl earlier) first others = first earlier
        by_side (inr behind) first others = others behind
