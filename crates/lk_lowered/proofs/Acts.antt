-- A node does what its expression does.
use Rattle.std.proofs.Common.{◌≡◌, ◌⊎◌, inl, inr, refl, sym, ap, ap₂, subst, ◌∙◌, ℕ, suc, ◌+◌, ◌≤◌, ◌<◌, ◌==◌, Bool, true, false, cond, if◌then◌else◌, List, [], ◌∷◌, ◌++◌, length, drop, map, Option, Some, None, bytes_eq, arith}
use Rattle.std.specs.Prelude.{option_map}
use Rattle.std.specs.Cmp.Lexicographic.{slice_cmp}
use Rattle.std.specs.List.Sorted.{IsStrictlySortedBy}
use Rattle.std.specs.Ordering.{nat_cmp}
use Rattle.std.proofs.lemmas.List.{length-map}
use Rattle.std.proofs.lemmas.Option.{none-some, slice_get_past}
use Rattle.lk_ast.specs.Layers.{Layer}
use Rattle.lk_ast.specs.declared.expression.Case.{Case}
use Rattle.lk_ast.specs.declared.expression.Expr.{Expr}
use Rattle.lk_ast.specs.declared.expression.LastCase.{LastCase}
use Rattle.lk_ast.specs.declared.expression.Node.TheOpen.{Node-F}
use Rattle.lk_ast.specs.declared.expression.PartExpr.{PartExpr}
use Rattle.lk_ast.specs.declared.place.Loc.{Loc}
use Rattle.lk_ast.specs.declared.place.Span.{Span}
use Rattle.lk_ast.specs.declared.place.Word.{Word}
use Rattle.lk_ast.specs.declared.value.FunValue.{FunValue}
use Rattle.lk_ast.specs.declared.value.Value.{Value}
use Rattle.lk_evaluation.specs.Evaluation.{Act}
use Rattle.lk_evaluation.specs.Laws.{Both, MatchingActs}
use Rattle.lk_evaluation.specs.Source as source
use Rattle.lk_ground.proofs.Labels.{labelled_again, instance_labelled}
use Rattle.lk_ground.proofs.Levels.{own_use, own_label}
use Rattle.lk_ground.specs.Language as language
use Rattle.lk_ground.specs.Language.{Labelled, Whole, Site, act_within, function_of, instance, called_in, at_place, label_of, labels, place_among}
use Rattle.lk_ground.specs.Sites.{PlacedUse, use_at, uses_in}
use Rattle.lk_ground.specs.declared.program.GroundFun.{GroundFun}
use Rattle.lk_ground.specs.declared.program.GroundProgram.{GroundProgram}
use Rattle.lk_index.specs.Free.{captured, captured_change, captured_query}
use Rattle.lk_index.specs.Places.{AreApart, lambda_at}
use Rattle.lk_locals.specs.Names.{Names, no_names, bind, lookup, lookup_all, bind_each, bind_all}
use Rattle.lk_moves.proofs.Equal.{both_same}
use Rattle.lk_moves.specs.Laws.{Equal}
use Rattle.lk_operators.specs.Operators.{operated}
use Rattle.lk_operators.specs.Outcomes.{given, on_one}
use Rattle.lk_operators.specs.Records.{labelled, new_record, extended, record_of}
use Rattle.lk_operators.specs.Values.{bool_in, text_in, list_in, tag_in, fun_in, is_unit, fields_in}
use Rattle.lk_operators.specs.declared.outcome.Outcome.{Outcome}
use Rattle.lk_operators.specs.declared.outcome.Outcome.TheVariants as outcome
use Rattle.lk_types.proofs.Parts.{same_some}
use Rattle.lk_ir.specs.Environments as numbered
use Rattle.lk_ir.specs.Environments.{Env}
use Rattle.lk_ir.specs.LetNormal as forms
use Rattle.lk_ir.specs.Operations.{applied, holes}
use Rattle.lk_ir.specs.Tables.{body_of, label_at, names_of, whole_at}
use Rattle.lk_ir.specs.declared.nodes.CaseForm.{CaseForm}
use Rattle.lk_ir.specs.declared.nodes.Body.{Body}
use Rattle.lk_ir.specs.declared.nodes.Choice.TheVariants as choice
use Rattle.lk_ir.specs.declared.nodes.Forms.{Forms}
use Rattle.lk_ir.specs.declared.nodes.Kind.{Kind}
use Rattle.lk_ir.specs.declared.nodes.Kind.TheVariants as kind
use Rattle.lk_ir.specs.declared.nodes.LabelForm.{LabelForm}
use Rattle.lk_ir.specs.declared.nodes.Op.{Op}
use Rattle.lk_lower.specs.Lowering as low
use Rattle.lk_lower.specs.Lowering.{AreLocals, IsCase, IsLocal, IsMaybeLocal, Pending, Shell, tails_of, op_of, labels_of, last_name, text_of, case_bodies, last_bodies}
use Rattle.lk_lowered.specs.Meeting.{AreAlike, Meets, Ready, Stands}
use Rattle.lk_lowered.proofs.Locals.{all_alike, bind_alike, each_alike, long_locals, none_alike}
use Rattle.lk_lowered.proofs.Labelling.{AreDistinct, AllFrom, placed, called_there, found_all, outside, both_there}
use Rattle.lk_lowered.proofs.Standing.{IsSite, of_lambda, of_block, IsWhole, Described}

-- ---- lists of one length

one_tail : {A B : Type 0} (R : A → B → Type 0) (x : A) (ys : List B) → Both R (x ∷ []) ys → (y : B) × (ys ≡ y ∷ []) × R x y
one_tail R x [] both = absurd both
one_tail R x (y ∷ []) both = (y, refl, both.0)
one_tail R x (y ∷ z ∷ ys) both = absurd both.1

two_tails : {A B : Type 0} (R : A → B → Type 0) (x w : A) (ys : List B) → Both R (x ∷ w ∷ []) ys → (y : B) × (z : B) × (ys ≡ y ∷ z ∷ []) × R x y × R w z
two_tails R x w [] both = absurd both
two_tails R x w (y ∷ []) both = absurd both.1
two_tails R x w (y ∷ z ∷ []) both = (y, z, refl, both.0, both.1.0)
two_tails R x w (y ∷ z ∷ k ∷ ys) both = absurd both.1.1

-- ---- records whose parts are left open

labelled_holes : (parts : List PartExpr) (values : List Value) → labelled (holes (labels_of parts)) values ≡ labelled parts values
labelled_holes parts [] = refl
labelled_holes [] (v ∷ values) = refl
labelled_holes (part ∷ parts) (v ∷ values) = ap (λ fs. record { label = part.label.text; value = v } ∷ fs) (labelled_holes parts values)

long_holes : (parts : List PartExpr) → length (holes (labels_of parts)) ≡ length parts
long_holes [] = refl
long_holes (part ∷ parts) = ap suc (long_holes parts)

record_holes : (parts : List PartExpr) (values : List Value) → new_record parts values ≡ new_record (holes (labels_of parts)) values
record_holes parts values = sym (ap₂ (λ n fs. if n == length values then record_of fs else outcome.NoRule) (long_holes parts) (labelled_holes parts values))

extend_holes : (parts : List PartExpr) (values : List Value) → extended parts values ≡ extended (holes (labels_of parts)) values
extend_holes parts values = sym (ap₂ (λ n fs. on_one (λ r. given (λ gs. record_of (gs ++ fs)) (fields_in r)) (drop n values)) (long_holes parts) (labelled_holes parts values))

module _ (g : GroundProgram) (f : Forms) (rise : IsStrictlySortedBy (slice_cmp nat_cmp) f.locals) where
  abbrev pub Acts : Act language.Point → Act forms.Point → Type 0
  Acts a b = MatchingActs (Meets g f) Equal a b

  -- ---- what depends on values alone

  done_acts : (i : ℕ) (at : Span) (o : Outcome) → Acts (act_within i (source.done at o)) (forms.done at o)
  done_acts i at (outcome.Value v) = refl
  done_acts i at (outcome.Trap trap) = refl
  done_acts i at outcome.NoRule = refl

  by_outcome : (i : ℕ) (at : Span) (a : Act language.Point) (made : Outcome) (o p : Op) (values : List Value) → o ≡ p → a ≡ act_within i (source.done at made) → made ≡ applied o values → Acts a (forms.done at (applied p values))
  by_outcome i at a made o p values same is comes =
      subst (λ q. Acts a (forms.done at (applied q values))) same (subst (λ c. Acts a (forms.done at c)) comes (subst (λ x. Acts x (forms.done at made)) (sym is) (done_acts i at made)))

  operation_acts : (i : ℕ) (at : Span) (l : Layer) (names : Names) (values : List Value) (o : Op) → op_of l ≡ Some o → Acts (language.act g i at l names values) (forms.done at (applied o values))
  operation_acts i at (Node-F.Record parts) names values o is = by_outcome i at _ (new_record parts values) _ o values (same_some is) refl (record_holes parts values)
  operation_acts i at (Node-F.Extend parts e) names values o is = by_outcome i at _ (extended parts values) _ o values (same_some is) refl (extend_holes parts values)
  operation_acts i at (Node-F.Name x) names values o is = absurd (none-some o is)
  operation_acts i at (Node-F.Function h) names values o is = absurd (none-some o is)
  operation_acts i at (Node-F.Lambda l) names values o is = absurd (none-some o is)
  operation_acts i at (Node-F.Call h args) names values o is = absurd (none-some o is)
  operation_acts i at (Node-F.Apply h args) names values o is = absurd (none-some o is)
  operation_acts i at (Node-F.Var x e rest) names values o is = absurd (none-some o is)
  operation_acts i at (Node-F.Seq e rest) names values o is = absurd (none-some o is)
  operation_acts i at (Node-F.If c d e) names values o is = absurd (none-some o is)
  operation_acts i at (Node-F.And a b) names values o is = absurd (none-some o is)
  operation_acts i at (Node-F.Or a b) names values o is = absurd (none-some o is)
  operation_acts i at (Node-F.Print e) names values o is = absurd (none-some o is)
  operation_acts i at (Node-F.Switch e cases last) names values o is = absurd (none-some o is)
  operation_acts i at (Node-F.ForList x e body) names values o is = absurd (none-some o is)
  operation_acts i at (Node-F.ForTable x e body) names values o is = absurd (none-some o is)
  operation_acts i at (Node-F.Table t) names values o is = absurd (none-some o is)
  operation_acts i at (Node-F.Where c e) names values o is = absurd (none-some o is)
  operation_acts i at (Node-F.Query keys e) names values o is = absurd (none-some o is)
  operation_acts i at (Node-F.Insert t e) names values o is = absurd (none-some o is)
  operation_acts i at (Node-F.Update change) names values o is = absurd (none-some o is)
  operation_acts i at (Node-F.Delete change) names values o is = absurd (none-some o is)
  operation_acts i at other names values o is = by_outcome i at _ (operated other values) _ o values (same_some is) refl refl

  given_acts : (i : ℕ) (at : Span) (o : Option Value) → Acts (act_within i (source.given at o)) (forms.given at o)
  given_acts i at None = refl
  given_acts i at (Some v) = refl

  -- ---- forms

  choose_acts : (i : ℕ) (at : Span) (b : Option Bool) (x y : Act source.Point) (v w : Act forms.Point) → Acts (act_within i x) v → Acts (act_within i y) w → Acts (act_within i (source.choose at b x y)) (forms.choose at b v w)
  choose_acts i at None x y v w first second = refl
  choose_acts i at (Some true) x y v w first second = first
  choose_acts i at (Some false) x y v w first second = second

  unit_acts : (i : ℕ) (at : Span) (b : Bool) (x : Act source.Point) (v : Act forms.Point) → Acts (act_within i x) v → Acts (act_within i (source.after_unit at b x)) (forms.after_unit at b v)
  unit_acts i at true x v acts = acts
  unit_acts i at false x v acts = refl

  tail_meets : (i : ℕ) (e : Expr) (n : ℕ) (names : Names) (scope : Env) → AreAlike f names scope → Ready g f i e n → Meets g f (language.within i (source.under names e)) (forms.under scope n)
  tail_meets i e n names scope alike ready = record { names = alike; ready = ready }

  bodies_meet : (i : ℕ) (x : List ℕ) (k : ℕ) → IsLocal f k x → (e : Expr) (n : ℕ) (names : Names) (scope : Env) → AreAlike f names scope → Ready g f i e n → (values : List Value)
      → Both (Meets g f) (map (language.within i) (map (λ v. source.under (bind x v names) e) values)) (map (λ v. forms.under (numbered.bind k v scope) n) values)
  bodies_meet i x k is e n names scope alike ready [] = tt
  bodies_meet i x k is e n names scope alike ready (v ∷ values) =
      (tail_meets i e n (bind x v names) (numbered.bind k v scope) (bind_alike f rise names scope alike k x v is) ready, bodies_meet i x k is e n names scope alike ready values)

  over_acts : (i : ℕ) (at : Span) (x : List ℕ) (k : ℕ) → IsLocal f k x → (o : Option (List Value)) (e : Expr) (n : ℕ) (names : Names) (scope : Env) → AreAlike f names scope → Ready g f i e n
      → Acts (act_within i (source.over at x o e names)) (forms.over at k o n scope)
  over_acts i at x k is None e n names scope alike ready = refl
  over_acts i at x k is (Some values) e n names scope alike ready = (refl, bodies_meet i x k is e n names scope alike ready values)

  print_acts : (i : ℕ) (at : Span) (o : Option (List ℕ)) → Acts (act_within i (source.print at o)) (forms.print at o)
  print_acts i at None = refl
  print_acts i at (Some bytes) = (refl, (refl, refl))

  reads_acts : (i : ℕ) (at : Span) (o : Option (List Value)) → Acts (act_within i (source.reads at o)) (forms.reads at o)
  reads_acts i at None = refl
  reads_acts i at (Some args) = (refl, (refl, both_same args))

  writes_acts : (i : ℕ) (at : Span) (o : Option (List Value)) → Acts (act_within i (source.writes at o)) (forms.writes at o)
  writes_acts i at None = refl
  writes_acts i at (Some args) = (refl, (refl, both_same args))

  -- ---- cases

  case_acts : (i : ℕ) (at : Span) (x : Option Word) (k : Option ℕ) → IsMaybeLocal f k (option_map text_of x) → (e : Expr) (n : ℕ) (held : Value) (names : Names) (scope : Env) → AreAlike f names scope → Ready g f i e n
      → Acts (act_within i (source.in_case at x e held names)) (forms.in_case at k n held scope)
  case_acts i at None None is e n held names scope alike ready = unit_acts i at (is_unit held) _ _ (tail_meets i e n names scope alike ready)
  case_acts i at (Some x) (Some k) is e n held names scope alike ready = tail_meets i e n (bind x.text held names) (numbered.bind k held scope) (bind_alike f rise names scope alike k x.text held is) ready
  case_acts i at None (Some k) is e n held names scope alike ready = absurd is
  case_acts i at (Some x) None is e n held names scope alike ready = absurd is

  module _ (i : ℕ) (at : Span) (v : Value) (t : List ℕ) (held : Value) (names : Names) (scope : Env) (alike : AreAlike f names scope) where
    cases_acts : (cases : List Case) (cs : List CaseForm) → Both (IsCase f) cases cs → (last : Option LastCase) (k : Option ℕ) → IsMaybeLocal f k (option_map last_name last) → (tails : List ℕ) → Both (Ready g f i) (case_bodies cases ++ last_bodies last) tails
        → Acts (act_within i (source.in_cases at (source.case_of t cases) last v held names)) (forms.in_cases at v t held cs k tails scope)
    cases_acts [] [] are None None is [] ready = refl
    cases_acts [] [] are None None is (n ∷ tails) ready = absurd ready
    cases_acts [] [] are None (Some k) is tails ready = absurd is
    cases_acts [] [] are (Some last) None is tails ready = absurd is
    cases_acts [] [] are (Some last) (Some k) is [] ready = absurd ready
    cases_acts [] [] are (Some last) (Some k) is (n ∷ tails) ready = tail_meets i last.body n (bind last.name.text v names) (numbered.bind k v scope) (bind_alike f rise names scope alike k last.name.text v is) ready.0
    cases_acts [] (c ∷ cs) are last k is tails ready = absurd are
    cases_acts (case ∷ cases) [] are last k is tails ready = absurd are
    cases_acts (case ∷ cases) (c ∷ cs) are last k is [] ready = absurd ready
    cases_acts (case ∷ cases) (c ∷ cs) are last k is (n ∷ tails) ready =
        subst (λ tag. Acts (act_within i (source.in_cases at (source.case_of t (case ∷ cases)) last v held names)) (if bytes_eq tag t then forms.in_case at c.name n held scope else forms.in_cases at v t held cs k tails scope)) (sym are.0.tag)
        (by_test (bytes_eq case.tag.text t) (cases_acts cases cs are.1 last k is tails ready.1))
      where
        by_test : (b : Bool) → Acts (act_within i (source.in_cases at (source.case_of t cases) last v held names)) (forms.in_cases at v t held cs k tails scope)
            → Acts (act_within i (source.in_cases at (cond b (Some case) (source.case_of t cases)) last v held names)) (if b then forms.in_case at c.name n held scope else forms.in_cases at v t held cs k tails scope)
        by_test true later = case_acts i at case.name c.name are.0.name case.body n held names scope alike ready.0
        by_test false later = later

  switch_acts : (i : ℕ) (at : Span) (v : Value) (o : Option (List ℕ × Value)) (names : Names) (scope : Env) → AreAlike f names scope → (cases : List Case) (cs : List CaseForm) → Both (IsCase f) cases cs
      → (last : Option LastCase) (k : Option ℕ) → IsMaybeLocal f k (option_map last_name last) → (tails : List ℕ) → Both (Ready g f i) (case_bodies cases ++ last_bodies last) tails
      → Acts (act_within i (source.switch at v o cases last names)) (forms.switch at v o cs k tails scope)
  switch_acts i at v None names scope alike cases cs are last k is tails ready = refl
  switch_acts i at v (Some (t, held)) names scope alike cases cs are last k is tails ready = cases_acts i at v t held names scope alike cases cs are last k is tails ready

  -- ---- functions

  made_acts : (at : Span) (env : List Value) (o : Option ℕ) → Acts (language.made at env o) (forms.made at env o)
  made_acts at env None = refl
  made_acts at env (Some label) = refl

  pub closure_acts : (i : ℕ) (at : Span) (label : ℕ) (o : Option (List Value)) → label_of g (Site i at.start) ≡ Some label → Acts (language.closure g at i o) (forms.closure at label o)
  closure_acts i at label None is = refl
  closure_acts i at label (Some env) is = subst (λ o. Acts (language.made at env o) (forms.made at env (Some label))) (sym is) (made_acts at env (Some label))

  -- the body of a function or a lambda is entered
  went : (j label : ℕ) (e : Expr) (params : List Word) (names : List (List ℕ)) (env args : List Value) (at : Span) (mark : Loc) (b : Body) → b.place ≡ mark → AreLocals f b.names names → AreLocals f b.params (map text_of params) → Ready g f j e b.root
      → Acts (act_within j (source.goto at mark (record { site = label; env = env }) args e (bind_all (bind_each no_names names env) params args))) (forms.entered at label env args (Some b))
  went j label e params names env args at mark b place names_are params_are ready =
      subst (λ n. Acts (act_within j (source.goto at mark (record { site = label; env = env }) args e (bind_all (bind_each no_names names env) params args))) (forms.body_entered (n == length args) at label env args b)) (sym (long_locals f b.params (map text_of params) params_are ∙ length-map params text_of))
      (by_test (length params == length args))
    where
      alike : AreAlike f (bind_each (bind_each no_names names env) (map text_of params) args) (numbered.bind_each (numbered.bind_each numbered.no_names b.names env) b.params args)
      alike = each_alike f rise b.params (map text_of params) params_are args _ _ (each_alike f rise b.names names names_are env no_names numbered.no_names (none_alike f))

      by_test : (t : Bool) → Acts (act_within j (source.goto at mark (record { site = label; env = env }) args e (if t then Some (bind_each (bind_each no_names names env) (map text_of params) args) else None))) (forms.body_entered t at label env args b)
      by_test true = (sym place, refl, both_same args, record { names = alike; ready = ready })
      by_test false = refl

  module _ (uses_apart : (i : ℕ) (fun : GroundFun) → instance g i ≡ Some fun → AreApart (map (λ (u : PlacedUse). u.site) (uses_in (function_of fun).body))) (distinct : AreDistinct (labels g))
      (described : AllFrom (Described g f) 1 (labels g)) (labels_long : length f.labels ≡ 1 + length (labels g)) (wholes_long : length f.wholes ≡ length g.funs)
      (printer : LabelForm) (printer_is : label_at f 0 ≡ Some printer) (printer_body : printer.body ≡ None) where
    -- what a use calls
    called_is : (i : ℕ) (h : List ℕ) (at : Span) (us : List PlacedUse) (ls : List ℕ) (before : Pending) (j : ℕ) (rest : List ℕ) → Stands g i (use_at h at.start ∷ us) ls before → before.calls ≡ j ∷ rest → called_in (instance g i) at.start ≡ Some j
    called_is i h at us ls before j rest s is =
        ap (λ o. called_in o at.start) s.there
        ∙ ap (λ all. at_place all s.fun.calls at.start) s.uses
        ∙ called_there s.uses_front (us ++ s.uses_back) (use_at h at.start) s.fun.calls j rest (subst (λ all. AreApart (map (λ (u : PlacedUse). u.site) all)) s.uses (uses_apart i s.fun s.there)) (sym s.calls ∙ is)

    -- the label of what begins next
    pub label_is : (i site : ℕ) (us : List PlacedUse) (ls : List ℕ) (before : Pending) → Stands g i us (site ∷ ls) before → label_of g (Site i site) ≡ Some before.label
    label_is i site us ls before s =
        ap (λ all. place_among 1 all (Site i site)) s.labelled
        ∙ placed s.labels_front (map (Site i) ls ++ s.labels_back) (Site i site) (subst AreDistinct s.labelled distinct)
        ∙ ap Some (sym s.label)

    -- what has the label of an instance
    whole_of : (j label : ℕ) → label_of g (Whole j) ≡ Some label → IsWhole g f j label
    whole_of j label is = found_all (Described g f) 1 (labels g) label (Whole j) described (labelled_again g (Whole j) label is)

    whole_same : (j : ℕ) → label_of g (Whole j) ≡ whole_at f j
    whole_same j = by_label (label_of g (Whole j)) (whole_at f j) refl refl
      where
        by_label : (o w : Option ℕ) → label_of g (Whole j) ≡ o → whole_at f j ≡ w → o ≡ w
        by_label (Some label) w is also = sym (whole_of j label is).whole ∙ also
        by_label None None is also = refl
        by_label None (Some label) is also =
            let there = both_there f.wholes g.funs j label wholes_long also in
            let has = instance_labelled g j there.0 there.1 in
            absurd (none-some has.0 (sym is ∙ has.1))

    -- an instance is called by its label
    whole_acts : (j label : ℕ) (at : Span) (args : List Value) (w : IsWhole g f j label) (o : Option LabelForm) → label_at f label ≡ o → Acts (language.call_instance at j args (Some label) (instance g j)) (forms.entered at label [] args (body_of o))
    whole_acts j label at args w o is =
        subst (λ q. Acts (language.call_instance at j args (Some label) q) (forms.entered at label [] args (body_of o))) (sym w.there)
        (subst (λ q. Acts (language.call_instance at j args (Some label) (Some w.fun)) (forms.entered at label [] args (body_of q))) (sym w.has.is ∙ is)
        (subst (λ b. Acts (language.call_instance at j args (Some label) (Some w.fun)) (forms.entered at label [] args b)) (sym w.has.body_is)
        (went j label (function_of w.fun).body (function_of w.fun).params [] [] args at (function_of w.fun).place w.body w.has.place_is w.has.names_are w.has.params_are w.ready)))

    call_acts : (j : ℕ) (at : Span) (args : List Value) → Acts (language.call g at args (Some j)) (forms.call f at args (whole_at f j))
    call_acts j at args =
        subst (λ o. Acts (language.call g at args (Some j)) (forms.call f at args o)) (whole_same j) (by_label (label_of g (Whole j)) refl)
      where
        by_label : (o : Option ℕ) → label_of g (Whole j) ≡ o → Acts (language.call_instance at j args o (instance g j)) (forms.call f at args o)
        by_label None is = refl
        by_label (Some label) is = whole_acts j label at args (whole_of j label is) (label_at f label) refl

    -- no label: no body
    no_label : (at : Span) (h : FunValue) (args : List Value) → language.labelled g h.site ≡ None → Acts (language.call_labelled g at h args None) (forms.entered_as at h args (label_at f h.site))
    no_label at h args is = by_side (outside 1 (labels g) h.site is)
      where
        by_side : (h.site < 1) ⊎ (1 + length (labels g) ≤ h.site) → Acts (language.call_labelled g at h args None) (forms.entered_as at h args (label_at f h.site))
        by_side (inl lt) =
            let first : 0 ≡ h.site = omega arith in
            subst (λ o. Acts (language.call_labelled g at h args None) (forms.entered_as at h args o)) (sym printer_is ∙ ap (label_at f) first)
            (subst (λ b. Acts (language.call_labelled g at h args None) (forms.entered at h.site (forms.kept_by printer.node h.env) args b)) (sym printer_body) refl)
        by_side (inr le) =
            let none : label_at f h.site ≡ None = slice_get_past f.labels h.site (let e : length f.labels ≡ 1 + length (labels g) = labels_long in omega arith) in
            subst (λ o. Acts (language.call_labelled g at h args None) (forms.entered_as at h args o)) (sym none) refl

    pub labelled_acts : (at : Span) (h : FunValue) (args : List Value) (o : Option Labelled) → language.labelled g h.site ≡ o → Acts (language.call_labelled g at h args o) (forms.entered_as at h args (label_at f h.site))
    labelled_acts at h args None is = no_label at h args is
    labelled_acts at h args (Some (Whole i)) is =
        let w = found_all (Described g f) 1 (labels g) h.site (Whole i) described is in
        let has : label_of g (Whole i) ≡ Some h.site = whole_same i ∙ w.whole in
        subst (λ q. Acts (language.call_instance at i args q (instance g i)) (forms.entered_as at h args (label_at f h.site))) (sym has)
        (subst (λ q. Acts (language.call_instance at i args (Some h.site) (instance g i)) (forms.entered_as at h args q)) (sym w.has.is)
        (subst (λ n. Acts (language.call_instance at i args (Some h.site) (instance g i)) (forms.entered at h.site (forms.kept_by n h.env) args w.has.form.body)) (sym w.has.node_is)
        (whole_acts i h.site at args w (Some w.has.form) w.has.is)))
    labelled_acts at h args (Some (Site i site)) is = by_site (found_all (Described g f) 1 (labels g) h.site (Site i site) described is)
      where
        by_site : IsSite g f i h.site site → Acts (act_within i (source.enter_lambda at h args (lambda_at g.program.now site))) (forms.entered_as at h args (label_at f h.site))
        by_site (of_lambda n ty l body found has ready) =
            subst (λ q. Acts (act_within i (source.enter_lambda at h args q)) (forms.entered_as at h args (label_at f h.site))) (sym found)
            (subst (λ q. Acts (act_within i (source.enter_lambda at h args (Some l))) (forms.entered_as at h args q)) (sym has.is)
            (subst (λ m. Acts (act_within i (source.enter_lambda at h args (Some l))) (forms.entered at h.site (forms.kept_by m h.env) args has.form.body)) (sym has.node_is)
            (subst (λ b. Acts (act_within i (source.enter_lambda at h args (Some l))) (forms.entered at h.site h.env args b)) (sym has.body_is)
            (went i h.site l.body l.params (captured l) h.env args at l.place body has.place_is has.names_are has.params_are ready))))
        by_site (of_block n ty found has) =
            subst (λ q. Acts (act_within i (source.enter_lambda at h args q)) (forms.entered_as at h args (label_at f h.site))) (sym found)
            (subst (λ q. Acts (act_within i (source.enter_lambda at h args None)) (forms.entered_as at h args q)) (sym has.is)
            (subst (λ b. Acts (act_within i (source.enter_lambda at h args None)) (forms.entered at h.site (forms.kept_by has.form.node h.env) args b)) (sym has.body_is) refl))

    apply_acts : (at : Span) (o : Option FunValue) (args : List Value) → Acts (language.apply g at o args) (forms.apply f at o args)
    apply_acts at None args = refl
    apply_acts at (Some h) args = labelled_acts at h args (language.labelled g h.site) refl

    first_acts : (at : Span) (values : List Value) → Acts (language.apply_first g at values) (forms.apply_first f at values)
    first_acts at [] = refl
    first_acts at (v ∷ args) = apply_acts at (fun_in v) args

    function_acts : (i : ℕ) (at : Span) (j : ℕ) → called_in (instance g i) at.start ≡ Some j → Acts (language.function_value g at (called_in (instance g i) at.start)) (forms.made at [] (whole_at f j))
    function_acts i at j is =
        subst (λ o. Acts (language.function_value g at o) (forms.made at [] (whole_at f j))) (sym is)
        (subst (λ o. Acts (language.made at [] (label_of g (Whole j))) (forms.made at [] o)) (whole_same j) (made_acts at [] (label_of g (Whole j))))

    -- ---- a node with one or two tails

    module _ (i : ℕ) (at : Span) (names : Names) (scope : Env) (alike : AreAlike f names scope) where
      bind_acts : (x : Word) (k : ℕ) → IsLocal f k x.text → (e rest : Expr) (n : ℕ) → Ready g f i rest n → (values : List Value) → Acts (language.act g i at (Node-F.Var x e rest) names values) (forms.act f at (kind.Bind k) (n ∷ []) scope values)
      bind_acts x k is e rest n ready [] = refl
      bind_acts x k is e rest n ready (v ∷ []) = tail_meets i rest n (bind x.text v names) (numbered.bind k v scope) (bind_alike f rise names scope alike k x.text v is) ready
      bind_acts x k is e rest n ready (v ∷ w ∷ values) = refl

      then_acts : (e rest : Expr) (n : ℕ) → Ready g f i rest n → (values : List Value) → Acts (language.act g i at (Node-F.Seq e rest) names values) (forms.act f at kind.Then (n ∷ []) scope values)
      then_acts e rest n ready [] = refl
      then_acts e rest n ready (v ∷ []) = unit_acts i at (is_unit v) _ _ (tail_meets i rest n names scope alike ready)
      then_acts e rest n ready (v ∷ w ∷ values) = refl

      if_acts : (c d e : Expr) (n m : ℕ) → Ready g f i d n → Ready g f i e m → (values : List Value) → Acts (language.act g i at (Node-F.If c d e) names values) (forms.act f at (kind.Choose choice.If) (n ∷ m ∷ []) scope values)
      if_acts c d e n m first second [] = refl
      if_acts c d e n m first second (v ∷ []) = choose_acts i at (bool_in v) _ _ _ _ (tail_meets i d n names scope alike first) (tail_meets i e m names scope alike second)
      if_acts c d e n m first second (v ∷ w ∷ values) = refl

      and_acts : (a b : Expr) (n : ℕ) → Ready g f i b n → (values : List Value) → Acts (language.act g i at (Node-F.And a b) names values) (forms.act f at (kind.Choose choice.And) (n ∷ []) scope values)
      and_acts a b n ready [] = refl
      and_acts a b n ready (v ∷ []) = choose_acts i at (bool_in v) _ _ _ _ (tail_meets i b n names scope alike ready) refl
      and_acts a b n ready (v ∷ w ∷ values) = refl

      or_acts : (a b : Expr) (n : ℕ) → Ready g f i b n → (values : List Value) → Acts (language.act g i at (Node-F.Or a b) names values) (forms.act f at (kind.Choose choice.Or) (n ∷ []) scope values)
      or_acts a b n ready [] = refl
      or_acts a b n ready (v ∷ []) = choose_acts i at (bool_in v) _ _ _ _ refl (tail_meets i b n names scope alike ready)
      or_acts a b n ready (v ∷ w ∷ values) = refl

      where_acts : (c e : Expr) (n : ℕ) → Ready g f i e n → (values : List Value) → Acts (language.act g i at (Node-F.Where c e) names values) (forms.act f at (kind.Choose choice.Where) (n ∷ []) scope values)
      where_acts c e n ready [] = refl
      where_acts c e n ready (v ∷ []) = choose_acts i at (bool_in v) _ _ _ _ (tail_meets i e n names scope alike ready) refl
      where_acts c e n ready (v ∷ w ∷ values) = refl

      printing_acts : (e : Expr) (tails : List ℕ) (values : List Value) → Acts (language.act g i at (Node-F.Print e) names values) (forms.act f at kind.Print tails scope values)
      printing_acts e tails [] = refl
      printing_acts e tails (v ∷ []) = print_acts i at (text_in v)
      printing_acts e tails (v ∷ w ∷ values) = refl

      switching_acts : (e : Expr) (cases : List Case) (cs : List CaseForm) → Both (IsCase f) cases cs → (last : Option LastCase) (k : Option ℕ) → IsMaybeLocal f k (option_map last_name last) → (tails : List ℕ) → Both (Ready g f i) (case_bodies cases ++ last_bodies last) tails → (values : List Value)
          → Acts (language.act g i at (Node-F.Switch e cases last) names values) (forms.act f at (kind.Switch cs k) tails scope values)
      switching_acts e cases cs are last k is tails ready [] = refl
      switching_acts e cases cs are last k is tails ready (v ∷ []) = switch_acts i at v (tag_in v) names scope alike cases cs are last k is tails ready
      switching_acts e cases cs are last k is tails ready (v ∷ w ∷ values) = refl

      list_acts : (x : Word) (k : ℕ) → IsLocal f k x.text → (e body : Expr) (n : ℕ) → Ready g f i body n → (values : List Value) → Acts (language.act g i at (Node-F.ForList x e body) names values) (forms.act f at (kind.For k) (n ∷ []) scope values)
      list_acts x k is e body n ready [] = refl
      list_acts x k is e body n ready (v ∷ []) = over_acts i at x.text k is (list_in v) body n names scope alike ready
      list_acts x k is e body n ready (v ∷ w ∷ values) = refl

      table_acts : (x : Word) (k : ℕ) → IsLocal f k x.text → (e body : Expr) (n : ℕ) → Ready g f i body n → (values : List Value) → Acts (language.act g i at (Node-F.ForTable x e body) names values) (forms.act f at (kind.For k) (n ∷ []) scope values)
      table_acts x k is e body n ready [] = refl
      table_acts x k is e body n ready (v ∷ []) = over_acts i at x.text k is (list_in v) body n names scope alike ready
      table_acts x k is e body n ready (v ∷ w ∷ values) = refl

    -- ---- all kinds

    -- what a node does with one tail, whatever number that has
    by_one : (i : ℕ) (at : Span) (a : Act language.Point) (k : Kind) (scope : Env) (values : List Value) (e : Expr) (tails : List ℕ) → Both (Ready g f i) (e ∷ []) tails
        → ((n : ℕ) → Ready g f i e n → Acts a (forms.act f at k (n ∷ []) scope values)) → Acts a (forms.act f at k tails scope values)
    by_one i at a k scope values e tails ready acts =
        let one = one_tail (Ready g f i) e tails ready in
        subst (λ ts. Acts a (forms.act f at k ts scope values)) (sym one.1) (acts one.0 one.2)

    by_two : (i : ℕ) (at : Span) (a : Act language.Point) (k : Kind) (scope : Env) (values : List Value) (d e : Expr) (tails : List ℕ) → Both (Ready g f i) (d ∷ e ∷ []) tails
        → ((n m : ℕ) → Ready g f i d n → Ready g f i e m → Acts a (forms.act f at k (n ∷ m ∷ []) scope values)) → Acts a (forms.act f at k tails scope values)
    by_two i at a k scope values d e tails ready acts =
        let two = two_tails (Ready g f i) d e tails ready in
        subst (λ ts. Acts a (forms.act f at k ts scope values)) (sym two.2) (acts two.0 two.1 two.3 two.4)

    pub acts_of : {i n ty : ℕ} {l : Layer} {at : Span} {before inside : Pending} {k : Kind} (us : List PlacedUse) (ls : List ℕ) → Stands g i (own_use l at.start ++ us) (own_label l at.start ++ ls) before → Shell f i n ty l at before k inside
        → (tails : List ℕ) → Both (Ready g f i) (tails_of l) tails → (names : Names) (scope : Env) → AreAlike f names scope → (values : List Value) → Acts (language.act g i at l names values) (forms.act f at k tails scope values)
    acts_of {i = i} {l = l} {at = at} us ls stands (low.operation {o = o} is) tails ready names scope alike values = operation_acts i at l names values o is
    acts_of {i = i} {at = at} us ls stands (low.name {x = x} {k = k} is) tails ready names scope alike values =
        subst (λ o. Acts (act_within i (source.given at (lookup names x))) (forms.given at o)) (alike k x is) (given_acts i at (lookup names x))
    acts_of {i = i} {at = at} {before = before} us ls stands (low.function {h = h} {i = j} {rest = rest} is) tails ready names scope alike values = function_acts i at j (called_is i h at us ls before j rest stands is)
    acts_of {i = i} {at = at} {before = before} us ls stands (low.call {h = h} {i = j} {rest = rest} is) tails ready names scope alike values =
        subst (λ o. Acts (language.call g at values o) (forms.call f at values (whole_at f j))) (sym (called_is i h.text at us ls before j rest stands is)) (call_acts j at values)
    acts_of {at = at} us ls stands low.apply tails ready names scope alike values = first_acts at values
    acts_of {i = i} {at = at} us ls stands (low.bind {x = x} {k = k} {e = e} {rest = rest} is) tails ready names scope alike values =
        by_one i at _ (kind.Bind k) scope values rest tails ready (λ m one. bind_acts i at names scope alike x k is e rest m one values)
    acts_of {i = i} {at = at} us ls stands (low.then_next {e = e} {rest = rest}) tails ready names scope alike values = by_one i at _ kind.Then scope values rest tails ready (λ m one. then_acts i at names scope alike e rest m one values)
    acts_of {i = i} {at = at} us ls stands (low.choose_if {c = c} {d = d} {e = e}) tails ready names scope alike values =
        by_two i at _ (kind.Choose choice.If) scope values d e tails ready (λ m k one two. if_acts i at names scope alike c d e m k one two values)
    acts_of {i = i} {at = at} us ls stands (low.choose_and {a = a} {b = b}) tails ready names scope alike values =
        by_one i at _ (kind.Choose choice.And) scope values b tails ready (λ m one. and_acts i at names scope alike a b m one values)
    acts_of {i = i} {at = at} us ls stands (low.choose_or {a = a} {b = b}) tails ready names scope alike values =
        by_one i at _ (kind.Choose choice.Or) scope values b tails ready (λ m one. or_acts i at names scope alike a b m one values)
    acts_of {i = i} {at = at} us ls stands (low.choose_where {c = c} {e = e}) tails ready names scope alike values =
        by_one i at _ (kind.Choose choice.Where) scope values e tails ready (λ m one. where_acts i at names scope alike c e m one values)
    acts_of {i = i} {at = at} us ls stands (low.print {e = e}) tails ready names scope alike values = printing_acts i at names scope alike e tails values
    acts_of {i = i} {at = at} us ls stands (low.switch {e = e} {cases = cases} {last = last} {forms = cs} {k = k} are is) tails ready names scope alike values =
        switching_acts i at names scope alike e cases cs are last k is tails ready values
    acts_of {i = i} {at = at} us ls stands (low.for_list {x = x} {k = k} {e = e} {body = body} is) tails ready names scope alike values =
        by_one i at _ (kind.For k) scope values body tails ready (λ m one. list_acts i at names scope alike x k is e body m one values)
    acts_of {i = i} {at = at} us ls stands (low.for_table {x = x} {k = k} {rows = e} {body = body} is) tails ready names scope alike values =
        by_one i at _ (kind.For k) scope values body tails ready (λ m one. table_acts i at names scope alike x k is e body m one values)
    acts_of {i = i} {at = at} us ls stands (low.table of) tails ready names scope alike values = (refl, (refl, tt))
    acts_of {i = i} {at = at} us ls stands (low.insert of touched) tails ready names scope alike values = (refl, (refl, both_same values))
    acts_of {i = i} {at = at} us ls stands (low.query {e = e} {kept = kept} of captured_are) tails ready names scope alike values =
        subst (λ o. Acts (act_within i (source.reads at (lookup_all names (captured_query e)))) (forms.reads at o)) (all_alike f names scope alike (names_of kept) (captured_query e) captured_are.names_are) (reads_acts i at (lookup_all names (captured_query e)))
    acts_of {i = i} {at = at} us ls stands (low.update {change = change} {kept = kept} of captured_are touched) tails ready names scope alike values =
        subst (λ o. Acts (act_within i (source.writes at (lookup_all names (captured_change change)))) (forms.writes at o)) (all_alike f names scope alike (names_of kept) (captured_change change) captured_are.names_are) (writes_acts i at (lookup_all names (captured_change change)))
    acts_of {i = i} {at = at} us ls stands (low.delete {change = change} {kept = kept} of captured_are touched) tails ready names scope alike values =
        subst (λ o. Acts (act_within i (source.writes at (lookup_all names (captured_change change)))) (forms.writes at o)) (all_alike f names scope alike (names_of kept) (captured_change change) captured_are.names_are) (writes_acts i at (lookup_all names (captured_change change)))
