-- What an expression is lowered to has its type.
use Rattle.std.proofs.Common.{◌≡◌, refl, sym, ap, subst, ◌∙◌, ℕ, Bool, true, false, List, [], ◌∷◌, ◌++◌, append_assoc, append-nil, drop, Option, Some, None}
use Rattle.std.proofs.lemmas.Option.{none-some}
use Rattle.std.specs.Cmp.Lexicographic.{slice_cmp}
use Rattle.std.specs.List.Sorted.{IsStrictlySortedBy}
use Rattle.std.specs.Ordering.{nat_cmp}
use Rattle.std.specs.Prelude.{slice_get}
use Rattle.lk_evaluation.specs.Laws.{Both}
use Rattle.lk_ast.specs.Layers.{Layer, layer}
use Rattle.lk_ast.specs.declared.declaration.TableDecl.{TableDecl}
use Rattle.lk_ast.specs.declared.expression.Case.{Case}
use Rattle.lk_ast.specs.declared.expression.Expr.{Expr}
use Rattle.lk_ast.specs.declared.expression.LambdaExpr.{LambdaExpr}
use Rattle.lk_ast.specs.declared.expression.LastCase.{LastCase}
use Rattle.lk_ast.specs.declared.expression.Node.TheOpen.{Node-F}
use Rattle.lk_ast.specs.declared.place.Span.{Span}
use Rattle.lk_ast.specs.declared.place.Word.{Word}
use Rattle.lk_sound.specs.Nodes.{Use, TypedNode, used_by, nodes_of, each_nodes, case_nodes}
use Rattle.lk_sound.specs.Instances.{Instances, IsFine}
use Rattle.lk_types.proofs.Members.{each_front, each_back}
use Rattle.lk_types.specs.Each.{Each}
use Rattle.lk_types.specs.Rows.{EffectSet}
use Rattle.lk_types.specs.declared.ground.Ground.{Ground}
use Rattle.lk_types.specs.declared.ground.Ground.TheVariants as known
use Rattle.lk_typing.specs.Names.{Named, Entry, names_of, types_of, texts}
use Rattle.lk_typing.specs.Types.{function_of, variant_of}
use Rattle.lk_typing.specs.Typing.{HasType, HaveTypes, HaveCases}
use Rattle.lk_typing.specs.Typing as typing
use Rattle.lk_code.specs.Parts as code
use Rattle.lk_code.specs.Parts.{Context, Info, Asked, CaseRules, Rule, IsTyped, AreTyped, under_names, HasBodies, HaveBodies}
use Rattle.lk_ir.specs.declared.nodes.CaseForm.{CaseForm}
use Rattle.lk_ir.specs.declared.nodes.Forms.{Forms}
use Rattle.lk_ir.specs.declared.nodes.Kind.{Kind}
use Rattle.lk_ir.specs.declared.nodes.Kind.TheVariants as kind
use Rattle.lk_lower.specs.Lowering as low
use Rattle.lk_lower.specs.Lowering.{Pending, Shell, IsLowered, AreLowered, IsCase, AreLocals, case_bodies}
use Rattle.lk_mono.specs.Grounded.{AreCalled}
use Rattle.lk_lowered.proofs.Told.{Tells}
use Rattle.lk_lower.proofs.Counted.{lowered_both}
use Rattle.lk_lowered.proofs.Contexts.{AreNamesOf, held_case, one_name, params_under}
use Rattle.lk_lowered.proofs.Inverted.{IsNode, as_node, IsLambdaNode, as_lambda, IsOne, as_one, as_none}
use Rattle.lk_lowered.proofs.Operators.{plain_children}
use Rattle.lk_lowered.proofs.Turning.{By, IsWholeOf, by_use, shell_step, shell_turned, skipped}
use Rattle.lk_lowered.proofs.NodeKinds.{closed_kind, list_kind, no_lambda, open_kind, table_kind, var_kind}

abbrev pub is_block : Layer → Bool
is_block (Node-F.Query keys e) = true
is_block (Node-F.Update change) = true
is_block (Node-F.Delete change) = true
is_block other = false

module _ (f : Forms) (rise : IsStrictlySortedBy (slice_cmp nat_cmp) f.locals) (info : ℕ → Option Info) (tells : Tells f info) (mains helpers : List Use) (owner : ℕ) where
  regrouped : (xs0 bs cs : List TypedNode) {calls : List ℕ} → AreCalled mains helpers false ((xs0 ++ bs) ++ cs) calls → AreCalled mains helpers false (xs0 ++ (bs ++ cs)) calls
  regrouped xs0 bs cs {calls} all = subst (λ ns. AreCalled mains helpers false ns calls) (append_assoc xs0 bs cs) all

  bind_pending : {w : Word} {d e : Expr} {at : Span} {n ty : ℕ} {p q : Pending} {k : Kind} → Shell f owner n ty (Node-F.Var w d e) at p k q → (q.types ≡ drop 1 p.types) × (q.calls ≡ p.calls)
  bind_pending (low.operation is) = absurd (none-some _ is)
  bind_pending (low.bind of) = (refl, refl)

  list_pending : {w : Word} {d e : Expr} {at : Span} {n ty : ℕ} {p q : Pending} {k : Kind} → Shell f owner n ty (Node-F.ForList w d e) at p k q → (q.types ≡ drop 1 p.types) × (q.calls ≡ p.calls)
  list_pending (low.operation is) = absurd (none-some _ is)
  list_pending (low.for_list of) = (refl, refl)

  table_pending : {w : Word} {d e : Expr} {at : Span} {n ty : ℕ} {p q : Pending} {k : Kind} → Shell f owner n ty (Node-F.ForTable w d e) at p k q → (q.types ≡ drop 1 p.types) × (q.calls ≡ p.calls)
  table_pending (low.operation is) = absurd (none-some _ is)
  table_pending (low.for_table of) = (refl, refl)

  switch_pending : {d : Expr} {cases : List Case} {last : Option LastCase} {at : Span} {n ty : ℕ} {p q : Pending} {k : Kind} → Shell f owner n ty (Node-F.Switch d cases last) at p k q → (q.types ≡ drop 1 p.types) × (q.calls ≡ p.calls)
  switch_pending (low.operation is) = absurd (none-some _ is)
  switch_pending (low.switch are of) = (refl, refl)

  -- ---- an expression of a type

  -- what has this number has the type, and behind it this is still to come
  pub record IsOk (names : Context) (n : ℕ) (t : Ground) (types : List Ground) (rest : List TypedNode) (after : Pending) : Type 0 where
    pub typed : IsTyped f info names n t
    pub bodies : HasBodies f info n
    pub types_are : after.types ≡ types
    pub calls : AreCalled mains helpers false rest after.calls

  pub record AreOk (names : Context) (ns : List ℕ) (ts : List Ground) (types : List Ground) (rest : List TypedNode) (after : Pending) : Type 0 where
    pub typed : AreTyped f info names ns ts
    pub bodies : HaveBodies f info ns
    pub types_are : after.types ≡ types
    pub calls : AreCalled mains helpers false rest after.calls

  bodies_front : (ns ms : List ℕ) → HaveBodies f info (ns ++ ms) → HaveBodies f info ns
  bodies_front [] ms all = code.no_bodies
  bodies_front (n ∷ ns) ms (code.more_bodies one all) = code.more_bodies one (bodies_front ns ms all)

  bodies_back : (ns ms : List ℕ) → HaveBodies f info (ns ++ ms) → HaveBodies f info ms
  bodies_back [] ms all = all
  bodies_back (n ∷ ns) ms (code.more_bodies one all) = bodies_back ns ms all

  -- the type of a node
  pub type_there : (t : Ground) (inside types : List Ground) (ty : ℕ) (before : Pending) → low.TypeIs f ty before.types → before.types ≡ (t ∷ inside) ++ types → slice_get f.types ty ≡ Some t
  type_there t inside types ty before is types_are = is.1 ∙ sym is.2 ∙ ap (λ ts. slice_get ts 0) types_are

  -- the cases of a switch, and what is left behind them
  record AreCases (names : Context) (t : Ground) (forms : List CaseForm) (tags : Named Ground) (within : ℕ) (es : List Expr) (ns : List ℕ) (types : List Ground) (rest : List TypedNode) (after : Pending) : Type 0 where
    asked : List Asked
    firsts : List ℕ
    lasts : List ℕ
    are : ns ≡ firsts ++ lasts
    rules : CaseRules names t forms tags asked
    tails : code.HaveTypes f info firsts asked
    bodies : HaveBodies f info firsts
    between : Pending
    left : AreLowered f owner within es between lasts after
    types_are : between.types ≡ types
    calls : AreCalled mains helpers false rest between.calls

  tails_both : (ns ms : List ℕ) (rs ss : List Asked) → code.HaveTypes f info ns rs → code.HaveTypes f info ms ss → code.HaveTypes f info (ns ++ ms) (rs ++ ss)
  tails_both _ ms _ ss code.no_tail back = back
  tails_both _ ms _ ss (code.tail one rest) back = code.tail one (tails_both _ ms _ ss rest back)

  bodies_both : (ns ms : List ℕ) → HaveBodies f info ns → HaveBodies f info ms → HaveBodies f info (ns ++ ms)
  bodies_both _ ms code.no_bodies back = back
  bodies_both _ ms (code.more_bodies one rest) back = code.more_bodies one (bodies_both _ ms rest back)

  one_body : {n : ℕ} {ns : List ℕ} → ns ≡ n ∷ [] → HasBodies f info n → HaveBodies f info ns
  one_body are one = subst (HaveBodies f info) (sym are) (code.more_bodies one code.no_bodies)

  one_part : {names : Context} {n : ℕ} {ns : List ℕ} {t : Ground} → ns ≡ n ∷ [] → IsTyped f info names n t → AreTyped f info names ns (t ∷ [])
  one_part {names} {t = t} are one = subst (λ ms. AreTyped f info names ms (t ∷ [])) (sym are) (code.more one code.none)

  one_tail : {names : Context} {n : ℕ} {ns : List ℕ} {t : Ground} → ns ≡ n ∷ [] → IsTyped f info names n t → code.HaveTypes f info ns ((names, t) ∷ [])
  one_tail {names} {t = t} are one = subst (λ ms. code.HaveTypes f info ms ((names, t) ∷ [])) (sym are) (code.tail one code.no_tail)

  -- a node with one position and one tail, no lambda
  bound_ok : {names other : Context} {e c d : Expr} {l : Layer} {within n : ℕ} {before after : Pending} {a b t : Ground} {types : List Ground} {rest : List TypedNode} {k : Kind} {p q : Pending} {middle : List Ground} {nodes : List TypedNode}
      (m : IsNode f owner within e l before n after) (one : IsOne f owner within c p m.form.parts q) (next : IsOne f owner within d m.between m.form.tails after)
      → m.form.kind ≡ k → ((label : ℕ) (xs : List ℕ) → k ≡ kind.Lambda label xs → ⊥) → slice_get f.types m.form.ty ≡ Some t → Rule f info names k (a ∷ []) ((other, b) ∷ []) t
      → IsOk names one.number a middle nodes m.between → IsOk other next.number b types rest after → IsOk names n t types rest after
  bound_ok {names} {other} {a = a} {b = b} {t = t} {k = k} m one next same other_kind has by first last = record {
    typed = code.node m.form _ _ m.there has (subst (λ j. Rule f info names j (a ∷ []) ((other, b) ∷ []) t) (sym same) by) (one_part one.are first.typed) (one_tail next.are last.typed);
    bodies = code.with_bodies m.form m.there (λ label xs b is. absurd (other_kind label xs (sym same ∙ is))) (λ label xs b is. absurd (other_kind label xs (sym same ∙ is))) (one_body one.are first.bodies) (one_body next.are last.bodies);
    types_are = last.types_are;
    calls = last.calls;
  }

  module _ {functions : Named (Entry Ground)} {tables : List TableDecl} (i : Instances) (wholes : (place : ℕ) (u : Use) → slice_get mains place ≡ Some u → IsWholeOf f info place u)
      (blocks : (names : Named Ground) (effects : EffectSet) (e : Expr) (t : Ground) (inside : List Ground) (within n : ℕ) (before after : Pending) (d : HasType functions tables names effects e t inside) → is_block (layer e) ≡ true → IsLowered f owner within e before n after → (c : Context) → AreNamesOf f names c
      → (types : List Ground) (rest : List TypedNode) → before.types ≡ (t ∷ inside) ++ types → AreCalled mains helpers false (nodes_of false d ++ rest) before.calls → Each (IsFine i) (nodes_of false d) → IsOk c n t types rest after)
      (lambdas : (names : Named Ground) (l : LambdaExpr) (params : Named Ground) (own : EffectSet) (e : Expr) (b : Ground) (inside : List Ground) (within n : ℕ) (before after : Pending) (m : IsLambdaNode f owner within e l before n after)
      → names_of params ≡ texts l.params → HasType functions tables (params ++ names) own l.body b inside → (c : Context) → AreNamesOf f names c → (types : List Ground) (rest : List TypedNode) → before.types ≡ (function_of (types_of params) own b ∷ (b ∷ inside)) ++ types
      → IsOk (under_names m.body.params (types_of params) c) m.body.root b types rest after → IsOk c n (function_of (types_of params) own b) types rest after)
    where
      mutual
        unfolding nodes_of

        pub typed_in : {names : Named Ground} {effects : EffectSet} {e : Expr} {t : Ground} {inside : List Ground} {within n : ℕ} {before after : Pending} (d : HasType functions tables names effects e t inside) → IsLowered f owner within e before n after → (c : Context) → AreNamesOf f names c
            → (types : List Ground) (rest : List TypedNode) → before.types ≡ (t ∷ inside) ++ types → AreCalled mains helpers false (nodes_of false d ++ rest) before.calls → Each (IsFine i) (nodes_of false d) → IsOk c n t types rest after
        typed_in {names} {effects} {e} {t} {inside} {within} {n} {before} {after} (typing.plain h ts is have by) lowered c alike types rest types_are calls fine =
            let m = as_node f owner (layer e) refl (no_lambda (layer e) h is) lowered in
            let rule_by : By functions tables names effects h ts t (used_by by) = record { rule = by; is = by_use functions tables names effects by } in
            let step = shell_step f rise info tells mains helpers owner c alike m.shell is rule_by refl calls in
            let children : AreLowered f owner within (typing.parts_of e) m.inside (m.form.parts ++ m.form.tails) after = subst (λ es. AreLowered f owner within es m.inside (m.form.parts ++ m.form.tails) after) (plain_children (layer e) h is) (lowered_both m.parts m.tails) in
            let all = all_typed have children c alike types rest (step.types ∙ ap (drop 1) types_are) step.calls fine.1 in
            let has = type_there t inside types m.form.ty before m.typed types_are in
            let turned = shell_turned f rise info tells mains helpers owner c alike m.form wholes m.shell is rule_by refl calls m.there refl has m.parts m.tails all.typed in
            record {
              typed = code.node m.form turned.positions turned.asked m.there has turned.rule turned.parts turned.tails;
              bodies = code.with_bodies m.form m.there (λ label xs b of. absurd (step.no_body label xs of)) (λ label xs b of. absurd (step.no_body label xs of)) (bodies_front m.form.parts m.form.tails all.bodies) (bodies_back m.form.parts m.form.tails all.bodies);
              types_are = all.types_are;
              calls = all.calls;
            }
        typed_in {names} {e = e} (typing.lambda l params own b is are moves body local) lowered c alike types rest types_are calls fine =
            let m = as_lambda f owner l is lowered in
            lambdas names l params own e b _ _ _ _ _ m are body c alike types rest types_are (typed_in body m.lowered (under_names m.body.params (types_of params) c) (params_under f m.body.params params names c (subst (AreLocals f m.body.params) (sym are) m.label.params_are) alike) types rest (ap (drop 1) types_are) (skipped mains helpers refl calls) fine.1)
        typed_in {t = t} {before = before} (typing.var w d next a first last is of_d of_next) lowered c alike types rest types_are calls fine =
            let m = as_node f owner _ is refl lowered in
            let one = as_one f owner m.parts in
            let second = as_one f owner m.tails in
            let k = var_kind f owner _ _ m.shell in
            let p = bind_pending m.shell in
            let first_ok = typed_in of_d one.lowered c alike ((t ∷ last) ++ types) (nodes_of false of_next ++ rest) (p.0 ∙ ap (drop 1) types_are ∙ append_assoc (a ∷ first) (t ∷ last) types)
            (subst (AreCalled mains helpers false (nodes_of false of_d ++ (nodes_of false of_next ++ rest))) (sym p.1) (regrouped (nodes_of false of_d) (nodes_of false of_next) rest (skipped mains helpers refl calls))) (each_front (IsFine i) (nodes_of false of_d) (nodes_of false of_next) fine.1) in
            let last_ok = typed_in of_next second.lowered ((k.number, a) ∷ c) (one_name k.local alike) types rest first_ok.types_are first_ok.calls (each_back (IsFine i) (nodes_of false of_d) (nodes_of false of_next) fine.1) in
            bound_ok m one second k.is (λ label xs same. cc) (type_there t ((a ∷ first) ++ (t ∷ last)) types m.form.ty before m.typed types_are) code.bind first_ok last_ok
        typed_in {t = t} {before = before} (typing.for_list w d next a b first last is of_d of_next) lowered c alike types rest types_are calls fine =
            let m = as_node f owner _ is refl lowered in
            let one = as_one f owner m.parts in
            let second = as_one f owner m.tails in
            let k = list_kind f owner _ _ m.shell in
            let p = list_pending m.shell in
            let first_ok = typed_in of_d one.lowered c alike ((known.List b ∷ last) ++ types) (nodes_of false of_next ++ rest) (p.0 ∙ ap (drop 1) types_are ∙ append_assoc (known.List a ∷ first) (known.List b ∷ last) types)
            (subst (AreCalled mains helpers false (nodes_of false of_d ++ (nodes_of false of_next ++ rest))) (sym p.1) (regrouped (nodes_of false of_d) (nodes_of false of_next) rest (skipped mains helpers refl calls))) (each_front (IsFine i) (nodes_of false of_d) (nodes_of false of_next) fine.1) in
            let last_ok = typed_in of_next second.lowered ((k.number, a) ∷ c) (one_name k.local alike) types rest first_ok.types_are first_ok.calls (each_back (IsFine i) (nodes_of false of_d) (nodes_of false of_next) fine.1) in
            bound_ok m one second k.is (λ label xs same. cc) (type_there (known.List b) ((known.List a ∷ first) ++ (known.List b ∷ last)) types m.form.ty before m.typed types_are) (code.for_each a b) first_ok last_ok
        typed_in {t = t} {before = before} (typing.for_table w d next a b first last is of_d of_next) lowered c alike types rest types_are calls fine =
            let m = as_node f owner _ is refl lowered in
            let one = as_one f owner m.parts in
            let second = as_one f owner m.tails in
            let k = table_kind f owner _ _ m.shell in
            let p = table_pending m.shell in
            let first_ok = typed_in of_d one.lowered c alike ((known.List b ∷ last) ++ types) (nodes_of false of_next ++ rest) (p.0 ∙ ap (drop 1) types_are ∙ append_assoc (known.List a ∷ first) (known.List b ∷ last) types)
            (subst (AreCalled mains helpers false (nodes_of false of_d ++ (nodes_of false of_next ++ rest))) (sym p.1) (regrouped (nodes_of false of_d) (nodes_of false of_next) rest (skipped mains helpers refl calls))) (each_front (IsFine i) (nodes_of false of_d) (nodes_of false of_next) fine.1) in
            let last_ok = typed_in of_next second.lowered ((k.number, a) ∷ c) (one_name k.local alike) types rest first_ok.types_are first_ok.calls (each_back (IsFine i) (nodes_of false of_d) (nodes_of false of_next) fine.1) in
            bound_ok m one second k.is (λ label xs same. cc) (type_there (known.List b) ((known.List a ∷ first) ++ (known.List b ∷ last)) types m.form.ty before m.typed types_are) (code.for_each a b) first_ok last_ok
        typed_in {names} {t = t} {before = before} (typing.switch d cases row tags ts first inner is of_d of_branches each tagged local) lowered c alike types rest types_are calls fine =
            let m = as_node f owner _ is refl lowered in
            let one = as_one f owner m.parts in
            let k = closed_kind f owner _ _ m.shell in
            let p = switch_pending m.shell in
            let first_ok = typed_in of_d one.lowered c alike (inner ++ types) (case_nodes false of_branches ++ rest) (p.0 ∙ ap (drop 1) types_are ∙ append_assoc (variant_of row ∷ first) inner types)
            (subst (AreCalled mains helpers false (nodes_of false of_d ++ (case_nodes false of_branches ++ rest))) (sym p.1) (regrouped (nodes_of false of_d) (case_nodes false of_branches) rest (skipped mains helpers refl calls))) (each_front (IsFine i) (nodes_of false of_d) (case_nodes false of_branches) fine.1) in
            let all = cases_typed t of_branches k.cases m.tails c alike each types rest first_ok.types_are first_ok.calls (each_back (IsFine i) (nodes_of false of_d) (case_nodes false of_branches) fine.1) in
            let ended = as_none f owner all.left in
            let tails_are : m.form.tails ≡ all.firsts = all.are ∙ ap (λ r. all.firsts ++ r) ended.0 ∙ append-nil all.firsts in
            let other_kind : (label : ℕ) (xs : List ℕ) → m.form.kind ≡ kind.Lambda label xs → ⊥ = λ label xs same. (let other : kind.Switch k.forms None ≡ kind.Lambda label xs = sym k.is ∙ same in cc) in
            record {
              typed = code.node m.form (variant_of row ∷ []) all.asked m.there (type_there t ((variant_of row ∷ first) ++ inner) types m.form.ty before m.typed types_are) (subst (λ j. Rule f info c j (variant_of row ∷ []) all.asked t) (sym k.is) (code.switch row all.rules tagged)) (one_part one.are first_ok.typed) (subst (λ ns. code.HaveTypes f info ns all.asked) (sym tails_are) all.tails);
              bodies = code.with_bodies m.form m.there (λ label xs b of. absurd (other_kind label xs of)) (λ label xs b of. absurd (other_kind label xs of)) (one_body one.are first_ok.bodies) (subst (HaveBodies f info) (sym tails_are) all.bodies);
              types_are = ap (λ (q : Pending). q.types) (sym ended.1) ∙ all.types_are;
              calls = subst (λ (q : Pending). AreCalled mains helpers false rest q.calls) ended.1 all.calls;
            }
        typed_in {names} {t = t} {before = before} (typing.switch_open d cases final other row tags ts first inner last is of_d of_branches each of_last tagged local) lowered c alike types rest types_are calls fine =
            let m = as_node f owner _ is refl lowered in
            let one = as_one f owner m.parts in
            let k = open_kind f owner _ _ m.shell in
            let p = switch_pending m.shell in
            let behind = case_nodes false of_branches ++ nodes_of false of_last in
            let first_ok = typed_in of_d one.lowered c alike ((inner ++ (t ∷ last)) ++ types) (behind ++ rest) (p.0 ∙ ap (drop 1) types_are ∙ append_assoc (variant_of row ∷ first) (inner ++ (t ∷ last)) types)
            (subst (AreCalled mains helpers false (nodes_of false of_d ++ (behind ++ rest))) (sym p.1) (regrouped (nodes_of false of_d) behind rest (skipped mains helpers refl calls))) (each_front (IsFine i) (nodes_of false of_d) behind fine.1) in
            let later : Each (IsFine i) behind = each_back (IsFine i) (nodes_of false of_d) behind fine.1 in
            let all = cases_typed t of_branches k.cases m.tails c alike each ((t ∷ last) ++ types) (nodes_of false of_last ++ rest) (first_ok.types_are ∙ append_assoc inner (t ∷ last) types) (regrouped (case_nodes false of_branches) (nodes_of false of_last) rest first_ok.calls) (each_front (IsFine i) (case_nodes false of_branches) (nodes_of false of_last) later) in
            let asks : List Asked = all.asked ++ ((k.number, variant_of other) ∷ c, t) ∷ [] in
            let ended = as_one f owner all.left in
            let last_ok = typed_in of_last ended.lowered ((k.number, variant_of other) ∷ c) (one_name k.local alike) types rest all.types_are all.calls (each_back (IsFine i) (case_nodes false of_branches) (nodes_of false of_last) later) in
            let other_kind : (label : ℕ) (xs : List ℕ) → m.form.kind ≡ kind.Lambda label xs → ⊥ = λ label xs same. (let wrong : kind.Switch k.forms (Some k.number) ≡ kind.Lambda label xs = sym k.is ∙ same in cc) in
            record {
              typed = code.node m.form (variant_of row ∷ []) asks m.there (type_there t ((variant_of row ∷ first) ++ (inner ++ (t ∷ last))) types m.form.ty before m.typed types_are) (subst (λ j. Rule f info c j (variant_of row ∷ []) asks t) (sym k.is) (code.switch_open other row all.rules tagged)) (one_part one.are first_ok.typed)
                  (subst (λ ns. code.HaveTypes f info ns asks) (sym all.are) (tails_both all.firsts all.lasts all.asked (((k.number, variant_of other) ∷ c, t) ∷ []) all.tails (one_tail ended.are last_ok.typed)));
              bodies = code.with_bodies m.form m.there (λ label xs b of. absurd (other_kind label xs of)) (λ label xs b of. absurd (other_kind label xs of)) (one_body one.are first_ok.bodies) (subst (HaveBodies f info) (sym all.are) (bodies_both all.firsts all.lasts all.bodies (one_body ended.are last_ok.bodies)));
              types_are = last_ok.types_are;
              calls = last_ok.calls;
            }
        typed_in {names} {effects} {e} {t} (typing.query keys body a inside is of_body each scans own) lowered c alike types rest types_are calls fine = blocks names effects e _ _ _ _ _ _ (typing.query keys body a inside is of_body each scans own) (ap is_block is) lowered c alike types rest types_are calls fine
        typed_in {names} {effects} {e} {t} {inside} (typing.update change is of_change writes) lowered c alike types rest types_are calls fine = blocks names effects e _ _ _ _ _ _ (typing.update change is of_change writes) (ap is_block is) lowered c alike types rest types_are calls fine
        typed_in {names} {effects} {e} {t} {inside} (typing.delete change is of_change writes) lowered c alike types rest types_are calls fine = blocks names effects e _ _ _ _ _ _ (typing.delete change is of_change writes) (ap is_block is) lowered c alike types rest types_are calls fine

        all_typed : {names : Named Ground} {effects : EffectSet} {es : List Expr} {ts inside : List Ground} {within : ℕ} {ns : List ℕ} {before after : Pending} (d : HaveTypes functions tables names effects es ts inside) → AreLowered f owner within es before ns after → (c : Context) → AreNamesOf f names c
            → (types : List Ground) (rest : List TypedNode) → before.types ≡ inside ++ types → AreCalled mains helpers false (each_nodes false d ++ rest) before.calls → Each (IsFine i) (each_nodes false d) → AreOk c ns ts types rest after
        all_typed typing.none low.none c alike types rest types_are calls fine = record { typed = code.none; bodies = code.no_bodies; types_are = types_are; calls = calls }
        all_typed (typing.more {t = t} inside behind of_e of_es) (low.more one others) c alike types rest types_are calls fine =
            let first_ok = typed_in of_e one c alike (behind ++ types) (each_nodes false of_es ++ rest) (types_are ∙ append_assoc (t ∷ inside) behind types) (regrouped (nodes_of false of_e) (each_nodes false of_es) rest calls) (each_front (IsFine i) (nodes_of false of_e) (each_nodes false of_es) fine) in
            let all = all_typed of_es others c alike types rest first_ok.types_are first_ok.calls (each_back (IsFine i) (nodes_of false of_e) (each_nodes false of_es) fine) in
            record { typed = code.more first_ok.typed all.typed; bodies = code.more_bodies first_ok.bodies all.bodies; types_are = all.types_are; calls = all.calls }

        cases_typed : {names : Named Ground} {effects : EffectSet} {cases : List Case} {ts : List Ground} {tags : Named Ground} {inside : List Ground} {forms : List CaseForm} {within : ℕ} {es : List Expr} {ns : List ℕ} {before after : Pending} (t : Ground) (d : HaveCases functions tables names effects cases ts tags inside)
            → Both (IsCase f) cases forms → AreLowered f owner within (case_bodies cases ++ es) before ns after → (c : Context) → AreNamesOf f names c → Each (λ u. u ≡ t) ts
            → (types : List Ground) (rest : List TypedNode) → before.types ≡ inside ++ types → AreCalled mains helpers false (case_nodes false d ++ rest) before.calls → Each (IsFine i) (case_nodes false d) → AreCases c t forms tags within es ns types rest after
        cases_typed {forms = []} t typing.no_cases forms_are lowered c alike each types rest types_are calls fine =
            record { asked = []; firsts = []; lasts = _; are = refl; rules = code.no_case; tails = code.no_tail; bodies = code.no_bodies; between = _; left = lowered; types_are = types_are; calls = calls }
        cases_typed {forms = form ∷ forms} t typing.no_cases forms_are lowered c alike each types rest types_are calls fine = absurd forms_are
        cases_typed {forms = []} t (typing.case_of a held inside behind is_held of_body of_branches) forms_are lowered c alike each types rest types_are calls fine = absurd forms_are
        cases_typed {names} {forms = form ∷ forms} t (typing.case_of {case = case} {t = u} {tags = tags} a held inside behind is_held of_body of_branches) forms_are (low.more {n = n} one others) c alike each types rest types_are calls fine =
            let bound = held_case f names c t alike case form forms_are.0 is_held in
            let first_ok = typed_in of_body one bound.held bound.alike (behind ++ types) (case_nodes false of_branches ++ rest) (types_are ∙ append_assoc (u ∷ inside) behind types) (regrouped (nodes_of false of_body) (case_nodes false of_branches) rest calls) (each_front (IsFine i) (nodes_of false of_body) (case_nodes false of_branches) fine) in
            let all = cases_typed t of_branches forms_are.1 others c alike each.1 types rest first_ok.types_are first_ok.calls (each_back (IsFine i) (nodes_of false of_body) (case_nodes false of_branches) fine) in
            record {
              asked = (bound.held, t) ∷ all.asked;
              firsts = n ∷ all.firsts;
              lasts = all.lasts;
              are = ap (λ r. n ∷ r) all.are;
              rules = bound.rules forms tags all.asked all.rules;
              tails = code.tail (subst (λ v. IsTyped f info bound.held n v) each.0 first_ok.typed) all.tails;
              bodies = code.more_bodies first_ok.bodies all.bodies;
              between = all.between;
              left = all.left;
              types_are = all.types_are;
              calls = all.calls;
            }
