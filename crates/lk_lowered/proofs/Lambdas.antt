-- The body of a lambda under its parameters and captured names: it is typed there, and each captured name has the type that the names
-- around tell.
use Rattle.std.proofs.Common.{◌≡◌, ◌⊎◌, inl, inr, refl, sym, ap, subst, ◌∙◌, ℕ, suc, length, Bool, true, false, ◌||◌, List, [], ◌∷◌, ◌++◌, Option, Some, None, IsSome, is_some, if◌then◌else◌, ⊎_elim, arith}
use Rattle.std.proofs.lemmas.Option.{none-some}
use Rattle.std.proofs.lemmas.Bool.{eqb-true}
use Rattle.std.specs.Cmp.Lexicographic.{slice_cmp}
use Rattle.std.specs.List.Sorted.{IsStrictlySortedBy}
use Rattle.std.specs.Option.{option_or}
use Rattle.std.specs.Ordering.{nat_cmp}
use Rattle.std.specs.Prelude.{slice_get, ◌==◌}
use Rattle.lk_ast.specs.declared.declaration.TableDecl.{TableDecl}
use Rattle.lk_ast.specs.declared.expression.Expr.{Expr}
use Rattle.lk_ast.specs.declared.expression.LambdaExpr.{LambdaExpr}
use Rattle.lk_index.specs.Free.{captured, free_lambda}
use Rattle.lk_scope.specs.Names.{no_names, is_local, bind_all}
use Rattle.lk_sound.proofs.Calls.{length_names}
use Rattle.lk_sound.proofs.Free.{free_known}
use Rattle.lk_sound.proofs.FreeLevels.{lambda_level}
use Rattle.lk_sound.proofs.Names.{IsAmong}
use Rattle.lk_sound.proofs.OrderedWords.{ordered_of, ordered_holds}
use Rattle.lk_sound.proofs.Standing.{named_behind, binds_all}
use Rattle.lk_ast.specs.Layers.{layer}
use Rattle.lk_mono.specs.Grounded.{AreCalled}
use Rattle.lk_sound.specs.Instances.{Instances, IsFine}
use Rattle.lk_sound.specs.Nodes.{Use, TypedNode, nodes_of}
use Rattle.lk_types.specs.Each.{Each}
use Rattle.lk_types.proofs.Parts.{same_some}
use Rattle.lk_types.specs.Rows.{Label, EffectSet, effects_of}
use Rattle.lk_types.specs.declared.ground.Ground.{Ground}
use Rattle.lk_typing.specs.Names.{Named, Entry, named, names_of, types_of, texts}
use Rattle.lk_typing.specs.Types.{function_of}
use Rattle.lk_typing.specs.Typing.{HasType}
use Rattle.lk_ir.proofs.Lookups.{equal_self, not_equal}
use Rattle.lk_lowered.proofs.Locals.{long_locals}
use Rattle.lk_code.proofs.TypedUnder.{typed_under}
use Rattle.lk_code.proofs.TypedUses.{typed_use}
use Rattle.lk_code.specs.Parts as code
use Rattle.lk_code.specs.Parts.{Context, Info, AreNamed, under_names, IsTyped, HasBodies, type_in}
use Rattle.lk_ir.specs.Tables.{body_at, body_of}
use Rattle.lk_ir.specs.Uses as used_in
use Rattle.lk_ir.specs.Uses.{Among, Uses}
use Rattle.lk_ir.specs.declared.nodes.Body.{Body}
use Rattle.lk_ir.specs.declared.nodes.Forms.{Forms}
use Rattle.lk_ir.specs.declared.nodes.Kind.TheVariants as kind
use Rattle.lk_lower.specs.Lowering.{AreLocals, IsLocal, Pending, IsLowered}
use Rattle.lk_lowered.proofs.Told as told
use Rattle.lk_lowered.proofs.Told.{AreFromUses, Tells}
use Rattle.lk_lowered.proofs.Contexts.{AreNamesOf, among_number, named_alike, nothing_alike, params_under, same_numbers}
use Rattle.lk_lowered.proofs.Contexts as contexts
use Rattle.lk_lowered.proofs.Inverted.{IsLambdaNode}
use Rattle.lk_lowered.proofs.Typed.{IsOk, is_block, type_there, typed_in}
use Rattle.lk_lowered.proofs.Turning.{IsWholeOf}
use Rattle.lk_lowered.proofs.Used.{nothing_local, used}

-- a name that the body uses is a parameter or captured
pub used_in_lambda : {functions : Named (Entry Ground)} {tables : List TableDecl} (names : Named Ground) {own : EffectSet} {b : Ground} {inside : List Ground} (f : Forms) (rise : IsStrictlySortedBy (slice_cmp nat_cmp) f.locals) {owner within n : ℕ} {before after : Pending} (l : LambdaExpr) (params : Named Ground)
    → names_of params ≡ texts l.params → HasType functions tables (params ++ names) own l.body b inside → IsLowered f owner within l.body before n after
    → (k : ℕ) (x : Label) → IsLocal f k x → Uses f k n → IsSome (named x params) ⊎ ((named x params ≡ None) × IsAmong x (captured l))
used_in_lambda names f rise {owner = owner} l params are typed lowered k x local uses = by_type (named x params) refl
  where
    by_type : (o : Option Ground) → named x params ≡ o → IsSome o ⊎ ((o ≡ None) × IsAmong x (captured l))
    by_type (Some t) is = inl refl
    by_type None is =
        let apart : is_local (bind_all l.params no_names) x ≡ false = binds_all l.params params no_names are x ∙ ap (λ o. is_some o || is_local no_names x) is ∙ nothing_local x in
        inr (refl, ordered_holds (free_lambda l no_names) x (subst (IsAmong x) (sym (lambda_level l no_names)) (used f rise k x local owner typed lowered (bind_all l.params no_names) uses apart)))

-- a captured name is no parameter
pub captured_apart : {functions : Named (Entry Ground)} {tables : List TableDecl} (names : Named Ground) {own : EffectSet} {b : Ground} {inside : List Ground} (l : LambdaExpr) (params : Named Ground)
    → names_of params ≡ texts l.params → HasType functions tables (params ++ names) own l.body b inside → (x : Label) → IsAmong x (captured l) → named x params ≡ None
captured_apart names l params are typed x among =
    let free_there = free_known typed (bind_all l.params no_names) x (subst (IsAmong x) (lambda_level l no_names) (ordered_of (free_lambda l no_names) x among)) in
    by_type (named x params) (is_local no_names x) (sym (binds_all l.params params no_names are x) ∙ free_there.0)
  where
    by_type : (o : Option Ground) (b : Bool) → (is_some o || b) ≡ false → o ≡ None
    by_type None b is = refl
    by_type (Some t) b is = absurd cc

-- captured names tell what the names around tell
named_under : (c : Context) (xs : List ℕ) (ts : List Ground) (k : ℕ) → Among k xs → AreNamed c xs ts → type_in k (under_names xs ts []) ≡ type_in k c
named_under c _ [] k used_in.here all = absurd all
named_under c _ (t ∷ ts) k (used_in.here {xs = xs}) all = ap (λ b. if b then Some t else type_in k (under_names xs ts [])) (equal_self k) ∙ sym all.0
named_under c _ [] k (used_in.later among) all = absurd all
named_under c _ (t ∷ ts) k (used_in.later {y = y} {xs = xs} among) all = by_test (y == k) refl (named_under c xs ts k among all.1)
  where
    by_test : (b : Bool) → (y == k) ≡ b → type_in k (under_names xs ts []) ≡ type_in k c → (if b then Some t else type_in k (under_names xs ts [])) ≡ type_in k c
    by_test true is later = sym all.0 ∙ ap (λ z. type_in z c) (eqb-true y k is)
    by_test false is later = later

named_long : (c : Context) (xs : List ℕ) (ts : List Ground) → AreNamed c xs ts → length xs ≡ length ts
named_long c [] [] all = refl
named_long c [] (t ∷ ts) all = absurd all
named_long c (x ∷ xs) [] all = absurd all
named_long c (x ∷ xs) (t ∷ ts) all = ap suc (named_long c xs ts all.1)

kind_label : {a b : ℕ} {xs ys : List ℕ} → kind.Lambda a xs ≡ kind.Lambda b ys → a ≡ b
kind_label same = cc

one_less : (n m : ℕ) → suc n ≡ suc m → n ≡ m
one_less n m same = omega arith

-- where a name that is no parameter is told the same by both
by_params : (params : Named Ground) (ks : List ℕ) (k : ℕ) (c d : Context) → length ks ≡ length (types_of params) → (type_in k (under_names ks (types_of params) []) ≡ None → type_in k c ≡ type_in k d) → type_in k (under_names ks (types_of params) c) ≡ type_in k (under_names ks (types_of params) d)
by_params [] [] k c d long same = same refl
by_params [] (j ∷ ks) k c d long same = let wrong : suc (length ks) ≡ 0 = long in absurd cc
by_params (p ∷ params) [] k c d long same = let wrong : 0 ≡ suc (length (types_of params)) = long in absurd cc
by_params (p ∷ params) (j ∷ ks) k c d long same = by_test (j == k) refl (λ apart. by_params params ks k c d (one_less (length ks) (length (types_of params)) long) apart)
  where
    by_test : (b : Bool) → (j == k) ≡ b → ((type_in k (under_names ks (types_of params) []) ≡ None → type_in k c ≡ type_in k d) → type_in k (under_names ks (types_of params) c) ≡ type_in k (under_names ks (types_of params) d))
        → (if b then Some p.1 else type_in k (under_names ks (types_of params) c)) ≡ (if b then Some p.1 else type_in k (under_names ks (types_of params) d))
    by_test true is rest = refl
    by_test false is rest = rest (λ none. same (ap (λ b. if b then Some p.1 else type_in k (under_names ks (types_of params) [])) is ∙ none))

module _ (f : Forms) (rise : IsStrictlySortedBy (slice_cmp nat_cmp) f.locals) (info : ℕ → Option Info) where
  from_uses : (names params : Named Ground) (c inner : Context) → AreNamesOf f names c → AreNamesOf f (params ++ names) inner → (root : ℕ) (b : Ground) (ks : List ℕ) (xs : List Label) (ts : List Ground) → AreLocals f ks xs → AreFromUses f root ks ts → HasBodies f info root → IsTyped f info inner root b
      → ((x : Label) → IsAmong x xs → named x params ≡ None) → AreNamed c ks ts
  from_uses names params c inner alike inside root b _ xs _ are told.no_name bodies typed apart = tt
  from_uses names params c inner alike inside root b _ [] _ are (told.one_name ty uses has rest) bodies typed apart = absurd are
  from_uses names params c inner alike inside root b _ (x ∷ xs) _ are (told.one_name {x = k} {t = t} ty uses has rest) bodies typed apart =
      let tells_of = typed_use f info k ty uses bodies typed in
      let none : named x params ≡ None = apart x (inl refl) in
      let same : tells_of.0 ≡ t = same_some (sym tells_of.1 ∙ has) in (
        named_alike f rise alike k x are.0 ∙ sym (ap (λ o. option_or o (named x names)) none) ∙ sym (named_behind x params names) ∙ sym (named_alike f rise inside k x are.0) ∙ tells_of.2 ∙ ap (λ u. Some u) same,
        from_uses names params c inner alike inside root b _ xs _ are.1 rest bodies typed (λ y among. apart y (inr among)),
      )

  -- a number that stands for nothing is none of these
  outside : (k : ℕ) (ks : List ℕ) (xs : List Label) (ts : List Ground) → AreLocals f ks xs → slice_get f.locals k ≡ None → type_in k (under_names ks ts []) ≡ None
  outside k [] [] ts are is = refl
  outside k [] (x ∷ xs) ts are is = absurd are
  outside k (j ∷ ks) [] ts are is = absurd are
  outside k (j ∷ ks) (x ∷ xs) [] are is = refl
  outside k (j ∷ ks) (x ∷ xs) (t ∷ ts) are is =
      ap (λ b. if b then Some t else type_in k (under_names ks ts [])) (not_equal j k (λ same. none-some x (sym is ∙ ap (slice_get f.locals) (sym same) ∙ are.0))) ∙ outside k ks xs ts are.1 is

  -- what the body uses and is no parameter is captured
  alike_outside : {functions : Named (Entry Ground)} {tables : List TableDecl} (names : Named Ground) {own : EffectSet} {b : Ground} {inside : List Ground} {owner within n : ℕ} {before after : Pending} (l : LambdaExpr) (params : Named Ground)
      → names_of params ≡ texts l.params → HasType functions tables (params ++ names) own l.body b inside → IsLowered f owner within l.body before n after → (js ks : List ℕ) (ts : List Ground) → AreLocals f js (names_of params) → AreLocals f ks (captured l)
      → (c : Context) → AreNamesOf f names c → AreNamed c ks ts → (k : ℕ) → Uses f k n → type_in k (under_names js (types_of params) []) ≡ None → type_in k c ≡ type_in k (under_names ks ts [])
  alike_outside names {n = n} l params are typed lowered js ks ts params_are captured_are c alike all k uses none = by_text (slice_get f.locals k) refl
    where
      no_param : (x : Label) → IsLocal f k x → IsSome (named x params) → ⊥
      no_param x local some = by_found (named x params) some (sym (named_behind x params []) ∙ sym (named_alike f rise (params_under f js params [] [] params_are contexts.no_name) k x local) ∙ none)
        where
          by_found : (o : Option Ground) → IsSome o → option_or o None ≡ None → ⊥
          by_found None some is = (let wrong : false ≡ true = some in cc)
          by_found (Some t) some is = (let wrong : Some t ≡ None = is in cc)

      by_text : (o : Option Label) → slice_get f.locals k ≡ o → type_in k c ≡ type_in k (under_names ks ts [])
      by_text None is = nothing_alike f rise alike k is ∙ sym (outside k ks (captured l) ts captured_are is)
      by_text (Some x) is =
          ⊎_elim (λ (some : IsSome (named x params)). absurd (no_param x is some))
          (λ (apart : (named x params ≡ None) × IsAmong x (captured l)). sym (named_under c ks ts k (among_number f rise ks (captured l) k x captured_are is apart.1) all))
          (used_in_lambda names f rise l params are typed lowered k x is uses)

module _ (f : Forms) (rise : IsStrictlySortedBy (slice_cmp nat_cmp) f.locals) (info : ℕ → Option Info) (tells : Tells f info) (mains helpers : List Use) (owner : ℕ) {functions : Named (Entry Ground)} {tables : List TableDecl} where
  pub lambda_ok : (names : Named Ground) (l : LambdaExpr) (params : Named Ground) (own : EffectSet) (e : Expr) (b : Ground) (inside : List Ground) (within n : ℕ) (before after : Pending) (m : IsLambdaNode f owner within e l before n after)
      → names_of params ≡ texts l.params → HasType functions tables (params ++ names) own l.body b inside → (c : Context) → AreNamesOf f names c → (types : List Ground) (rest : List TypedNode) → before.types ≡ (function_of (types_of params) own b ∷ (b ∷ inside)) ++ types
      → IsOk f rise info tells mains helpers owner (under_names m.body.params (types_of params) c) m.body.root b types rest after → IsOk f rise info tells mains helpers owner c n (function_of (types_of params) own b) types rest after
  lambda_ok names l params own e b inside within n before after m are typed c alike types rest types_are ok =
      let has = type_there f rise info tells mains helpers owner (function_of (types_of params) own b) (b ∷ inside) types m.form.ty before m.typed types_are in
      let of = tells.bodies before.label m.label.form m.body (types_of params) (effects_of own) b m.label.is m.label.body_is (ap (slice_get f.types) m.label.ty_is ∙ has) in
      let params_are : AreLocals f m.body.params (names_of params) = subst (AreLocals f m.body.params) (sym are) m.label.params_are in
      let long : length m.body.params ≡ length (types_of params) = long_locals f m.body.params (names_of params) params_are ∙ length_names params in
      let names_same : m.body.names ≡ m.xs = same_numbers f rise m.body.names m.xs (captured l) m.label.names_are m.locals in
      let around : Context = under_names m.body.params (types_of params) c in
      let env : AreFromUses f m.body.root m.xs of.0 = subst (λ xs. AreFromUses f m.body.root xs of.0) names_same of.2 in
      let all : AreNamed c m.xs of.0 = from_uses f rise info names params c around alike (params_under f m.body.params params names c params_are alike) m.body.root b m.xs (captured l) of.0 m.locals env ok.bodies ok.typed (captured_apart names l params are typed) in
      let inner : Context = under_names m.xs of.0 [] in
      let same : (k : ℕ) → Uses f k m.body.root → type_in k around ≡ type_in k (under_names m.body.params (types_of params) inner) =
      λ k uses. by_params params m.body.params k c inner long (alike_outside f rise info names l params are typed m.lowered m.body.params m.xs of.0 params_are m.locals c alike all k uses) in
      let body : IsTyped f info (under_names m.body.params (types_of params) inner) m.body.root b = typed_under f info ok.typed same in
      let body_there : body_at f before.label ≡ Some m.body = ap body_of m.label.is ∙ m.label.body_is in
      let context : under_names m.body.params (types_of params) inner ≡ under_names m.body.params (types_of params) (under_names m.body.names of.0 []) = ap (λ xs. under_names m.body.params (types_of params) (under_names xs of.0 [])) (sym names_same) in
      record {
        typed = code.node m.form [] [] m.there has (subst (λ k. code.Rule f info c k [] [] (function_of (types_of params) own b)) (sym m.of) (code.lambda of.1 all (m.body, body_there))) (subst (λ ns. code.AreTyped f info c ns []) (sym m.no_part) code.none) (subst (λ ns. code.HaveTypes f info ns []) (sym m.no_tail) code.no_tail);
        bodies = code.with_bodies m.form m.there
            (λ label xs it kind_is body_is. record {
              of = record { params = types_of params; effects = effects_of own; result = b; env = of.0 };
              is = subst (λ k. info k ≡ Some (record { params = types_of params; effects = effects_of own; result = b; env = of.0 })) (kind_label (sym m.of ∙ kind_is)) of.1;
              params_long = subst (λ (d : Body). length d.params ≡ length (types_of params)) (same_some (sym body_there ∙ ap (body_at f) (kind_label (sym m.of ∙ kind_is)) ∙ body_is)) long;
              names_long = subst (λ (d : Body). length d.names ≡ length of.0) (same_some (sym body_there ∙ ap (body_at f) (kind_label (sym m.of ∙ kind_is)) ∙ body_is)) (ap length names_same ∙ named_long c m.xs of.0 all);
              typed = subst (λ (d : Body). IsTyped f info (under_names d.params (types_of params) (under_names d.names of.0 [])) d.root b) (same_some (sym body_there ∙ ap (body_at f) (kind_label (sym m.of ∙ kind_is)) ∙ body_is)) (subst (λ g. IsTyped f info g m.body.root b) context body);
            })
            (λ label xs it kind_is body_is. subst (λ (d : Body). HasBodies f info d.root) (same_some (sym body_there ∙ ap (body_at f) (kind_label (sym m.of ∙ kind_is)) ∙ body_is)) ok.bodies)
            (subst (code.HaveBodies f info) (sym m.no_part) code.no_bodies) (subst (code.HaveBodies f info) (sym m.no_tail) code.no_bodies);
        types_are = ok.types_are;
        calls = ok.calls;
      }

  -- the whole induction: of what has a type all is typed, and so are the bodies of the lambdas in it; what is left to show is the same of queries, updates and deletions
  module _ (i : Instances) (wholes : (place : ℕ) (u : Use) → slice_get mains place ≡ Some u → IsWholeOf f info place u)
      (blocks : (names : Named Ground) (effects : EffectSet) (e : Expr) (t : Ground) (inside : List Ground) (within n : ℕ) (before after : Pending) (d : HasType functions tables names effects e t inside) → is_block (layer e) ≡ true → IsLowered f owner within e before n after → (c : Context) → AreNamesOf f names c
      → (types : List Ground) (rest : List TypedNode) → before.types ≡ (t ∷ inside) ++ types → AreCalled mains helpers false (nodes_of false d ++ rest) before.calls → Each (IsFine i) (nodes_of false d) → IsOk f rise info tells mains helpers owner c n t types rest after)
    where
      pub typed : {names : Named Ground} {effects : EffectSet} {e : Expr} {t : Ground} {inside : List Ground} {within n : ℕ} {before after : Pending} (d : HasType functions tables names effects e t inside) → IsLowered f owner within e before n after → (c : Context) → AreNamesOf f names c
          → (types : List Ground) (rest : List TypedNode) → before.types ≡ (t ∷ inside) ++ types → AreCalled mains helpers false (nodes_of false d ++ rest) before.calls → Each (IsFine i) (nodes_of false d) → IsOk f rise info tells mains helpers owner c n t types rest after
      typed d lowered c alike types rest types_are calls fine = typed_in f rise info tells mains helpers owner i wholes blocks lambda_ok d lowered c alike types rest types_are calls fine
