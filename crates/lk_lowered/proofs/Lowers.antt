-- A table that is one of a ground program means the same: the two languages match.
use Rattle.std.proofs.Common.{◌≡◌, refl, sym, ap, subst, ◌∙◌, ℕ, suc, ◌+◌, List, [], ◌∷◌, ◌++◌, flat_map, length, length-append, map, Some, None, slice_get, arith}
use Rattle.std.proofs.lemmas.List.{length-map}
use Rattle.std.proofs.lemmas.Option.{none-some}
use Rattle.lk_ast.specs.Layers.{Layer, layer}
use Rattle.lk_ast.specs.declared.expression.Expr.{Expr}
use Rattle.lk_ast.specs.declared.expression.Node.TheOpen.{Node-F}
use Rattle.lk_ast.specs.declared.place.Loc.TheVariants.{Client}
use Rattle.lk_ast.specs.declared.place.Span.{Span}
use Rattle.lk_ast.specs.declared.table.Row.{Row}
use Rattle.lk_ast.specs.declared.value.FunValue.{FunValue}
use Rattle.lk_ast.specs.declared.value.Value.{Value}
use Rattle.lk_ast.specs.declared.value.Value.TheVariants as value
use Rattle.lk_evaluation.proofs.Same.{same}
use Rattle.lk_evaluation.specs.Evaluation.{eval}
use Rattle.lk_evaluation.specs.Laws.{Both, Maybe, Match, MatchingActs}
use Rattle.lk_evaluation.specs.Run.{start}
use Rattle.lk_evaluation.specs.Source as source
use Rattle.lk_evaluation.specs.Syntax.{parts_of, is_plain}
use Rattle.lk_ground.proofs.Levels.{own_use, own_label, labelled_level, outer}
use Rattle.lk_ground.specs.Language as language
use Rattle.lk_ground.specs.Language.{Whole, Site, function_of, instance, labels, labelled_from, found_from, ground}
use Rattle.lk_ground.specs.Sites.{uses_in, labelled_in}
use Rattle.lk_ground.specs.declared.program.GroundFun.{GroundFun}
use Rattle.lk_ground.specs.declared.program.GroundProgram.{GroundProgram}
use Rattle.lk_index.specs.Free.{captured}
use Rattle.lk_index.specs.Places.{AreApart, ArePlaced, lambda_at}
use Rattle.lk_locals.specs.Names.{Names, no_names, lookup_all}
use Rattle.lk_moves.proofs.Equal.{maybe_itself, outs_same, values_same}
use Rattle.lk_moves.specs.Laws.{Equal}
use Rattle.lk_operators.specs.Values.{text, list_in}
use Rattle.lk_sound.proofs.Inside.{insides}
use Rattle.lk_types.proofs.Parts.{same_some}
use Rattle.lk_types.specs.Each.{Each}
use Rattle.lk_ir.specs.Environments as numbered
use Rattle.lk_ir.specs.Environments.{Env}
use Rattle.lk_ir.specs.LetNormal as forms
use Rattle.lk_ir.specs.LetNormal.{let_normal, main_point}
use Rattle.lk_ir.specs.Operations as operations
use Rattle.lk_ir.specs.Operations.{is_literal}
use Rattle.lk_ir.specs.Tables.{body_at, body_of, form_at, label_at}
use Rattle.lk_ir.specs.declared.nodes.Body.{Body}
use Rattle.lk_ir.specs.declared.nodes.Forms.{Forms}
use Rattle.lk_ir.specs.declared.nodes.Kind.{Kind}
use Rattle.lk_lower.proofs.Counted.{takes, counted, lowered_both, more_none}
use Rattle.lk_lower.specs.Lowering as low
use Rattle.lk_lower.specs.Lowering.{Pending, Shell, IsLowered, AreLowered, AreFuns, AreForms, tails_of, op_of, text_of}
use Rattle.lk_lowered.proofs.Acts.{closure_acts, acts_of, label_is, labelled_acts}
use Rattle.lk_lowered.specs.Law.{main_at}
use Rattle.lk_lowered.specs.Meeting.{AreAlike, IsBlockOf, IsInside, Meets, Ready, Stands}
use Rattle.lk_lowered.proofs.Locals.{all_alike, each_alike, none_alike}
use Rattle.lk_lowered.proofs.Labelling.{AreDistinct, AllFrom, all_from_both, all_from_map, all_distinct, found_all}
use Rattle.lk_ground.proofs.PlacedLevels.{form_uses}
use Rattle.lk_lowered.proofs.Standing.{IsRest, IsWhole, Described, all_rest, first_stands, first_there, others_rest, ready_all, children_stand, children_inside, sites_of}

-- what a program has to have: each instance is one of a function of the program, and what begins at places begins apart
pub record AreApartThere (g : GroundProgram) : Type 0 where
  pub declared : (i : ℕ) (fun : GroundFun) → instance g i ≡ Some fun → IsInside g.program.now (function_of fun).body
  pub uses : (i : ℕ) (fun : GroundFun) → instance g i ≡ Some fun → AreApart (map (λ u. u.site) (uses_in (function_of fun).body))
  pub sites : (i : ℕ) (fun : GroundFun) → instance g i ≡ Some fun → AreApart (labelled_in (function_of fun).body)
  pub placed : ArePlaced g.program.now
  pub no_lambda : (block : Expr) → IsBlockOf g.program.now block → lambda_at g.program.now block.span.start ≡ None

module _ (g : GroundProgram) (f : Forms) (of : AreForms g f) (apart : AreApartThere g) where
  -- ---- the labels of all instances

  each_instance : {P : GroundFun → Type 0} (funs : List GroundFun) → ((i : ℕ) (fun : GroundFun) → slice_get funs i ≡ Some fun → P fun) → Each P funs
  each_instance [] all = tt
  each_instance (fun ∷ funs) all = (all 0 fun refl, each_instance funs (λ i other is. all (suc i) other is))

  distinct : AreDistinct (labels g)
  distinct = all_distinct 0 g.funs (each_instance g.funs (λ i fun is. apart.sites i fun is))

  record Comes (i : ℕ) (funs : List GroundFun) (label : ℕ) : Type 0 where
    described : AllFrom (Described g f) label (labelled_from i funs)
    labels_long : length f.labels ≡ label + length (labelled_from i funs)
    wholes_long : length f.wholes ≡ i + length funs

  funs_come : (i : ℕ) (funs : List GroundFun) (label next : ℕ) → AreFuns f i funs label next → IsRest g i funs label → Comes i funs label
  funs_come i _ label next (low.no_fun wholes named all nodes) rest = record { described = tt; labels_long = all ∙ more_none label; wholes_long = wholes ∙ more_none i }
  funs_come i _ label next (low.one_fun {fun = fun} {funs = funs} body after ty whole named type has lowered others) rest =
      let sites = labelled_in (function_of fun).body in
      let before : Pending = record { types = fun.types; calls = fun.calls; label = label + 1; next = next } in
      let is = first_there g i fun funs label rest in
      let stands = first_stands g i fun funs label rest next in
      let inside = apart.declared i fun is in
      let after_is : after.label ≡ (label + 1) + length sites = (counted f i lowered).label in
      let sites_long : length (map (Site i) sites) ≡ length sites = length-map sites (Site i) in
      let later : Comes (1 + i) funs after.label = funs_come (1 + i) funs after.label after.next others (others_rest g i fun funs label rest after.label after_is) in
      record {
        described = (
          record { fun = fun; there = is; whole = whole; body = body; ty = ty; has = has; ready = record { within = label; before = before; after = after; lowered = lowered; stands = stands; inside = inside } },
          all_from_both (Described g f) (label + 1) (map (Site i) sites) (labelled_from (1 + i) funs)
              (all_from_map (Described g f) (Site i) (label + 1) sites (sites_of g f apart.placed apart.no_lambda lowered stands inside))
              (subst (λ k. AllFrom (Described g f) k (labelled_from (1 + i) funs)) (let e : after.label ≡ (label + 1) + length (map (Site i) sites) = omega arith in e) later.described),
        );
        labels_long =
            let a : length f.labels ≡ after.label + length (labelled_from (1 + i) funs) = later.labels_long in
            let b : length (map (Site i) sites ++ labelled_from (1 + i) funs) ≡ length (map (Site i) sites) + length (labelled_from (1 + i) funs) = length-append (map (Site i) sites) (labelled_from (1 + i) funs) in
            let c : length (labelled_from i (fun ∷ funs)) ≡ suc (length (map (Site i) sites ++ labelled_from (1 + i) funs)) = refl in
            omega arith;
        wholes_long = let a : length f.wholes ≡ (1 + i) + length funs = later.wholes_long in let c : length (fun ∷ funs) ≡ suc (length funs) = refl in omega arith;
      }

  all_come : Comes 0 g.funs 1
  all_come = funs_come 0 g.funs 1 0 of.funs (all_rest g)

  all_wholes : length f.wholes ≡ length g.funs
  all_wholes = all_come.wholes_long ∙ (let e : 0 + length g.funs ≡ length g.funs = omega arith in e)

  -- ---- plain nodes, parts and acts

  operation_plain : (l : Layer) (o : _) → op_of l ≡ Some o → is_plain l ≡ is_literal o
  operation_plain (Node-F.Name x) o is = absurd (none-some o is)
  operation_plain (Node-F.Function h) o is = absurd (none-some o is)
  operation_plain (Node-F.Lambda l) o is = absurd (none-some o is)
  operation_plain (Node-F.Call h args) o is = absurd (none-some o is)
  operation_plain (Node-F.Apply h args) o is = absurd (none-some o is)
  operation_plain (Node-F.Var x e rest) o is = absurd (none-some o is)
  operation_plain (Node-F.Seq e rest) o is = absurd (none-some o is)
  operation_plain (Node-F.If c d e) o is = absurd (none-some o is)
  operation_plain (Node-F.And a b) o is = absurd (none-some o is)
  operation_plain (Node-F.Or a b) o is = absurd (none-some o is)
  operation_plain (Node-F.Print e) o is = absurd (none-some o is)
  operation_plain (Node-F.Switch e cases last) o is = absurd (none-some o is)
  operation_plain (Node-F.ForList x e body) o is = absurd (none-some o is)
  operation_plain (Node-F.ForTable x e body) o is = absurd (none-some o is)
  operation_plain (Node-F.Table t) o is = absurd (none-some o is)
  operation_plain (Node-F.Where c e) o is = absurd (none-some o is)
  operation_plain (Node-F.Query keys e) o is = absurd (none-some o is)
  operation_plain (Node-F.Insert t e) o is = absurd (none-some o is)
  operation_plain (Node-F.Update change) o is = absurd (none-some o is)
  operation_plain (Node-F.Delete change) o is = absurd (none-some o is)
  operation_plain other o is = ap is_literal (same_some is)

  plain_of : {i n ty : ℕ} {l : Layer} {at : _} {before inside : Pending} {k : Kind} → Shell f i n ty l at before k inside → is_plain l ≡ operations.is_plain k
  plain_of {l = l} (low.operation {o = o} is) = operation_plain l o is
  plain_of (low.name is) = refl
  plain_of (low.function is) = refl
  plain_of (low.call is) = refl
  plain_of low.apply = refl
  plain_of (low.bind is) = refl
  plain_of low.then_next = refl
  plain_of low.choose_if = refl
  plain_of low.choose_and = refl
  plain_of low.choose_or = refl
  plain_of low.choose_where = refl
  plain_of low.print = refl
  plain_of (low.switch cases last) = refl
  plain_of (low.for_list is) = refl
  plain_of (low.for_table is) = refl
  plain_of (low.table of) = refl
  plain_of (low.insert of touched) = refl
  plain_of (low.query of kept) = refl
  plain_of (low.update of kept touched) = refl
  plain_of (low.delete of kept touched) = refl

  abbrev M : language.Point → forms.Point → Type 0
  M = Meets g f

  -- a node as it stands in the table
  record Stated (at : language.Point) (q : forms.Point) : Type 0 where
    plain : is_plain (layer at.point.expr) ≡ forms.plain_in f (form_at f q.node)
    parts : Both M (map (λ e. language.within at.owner (source.under at.point.names e)) (parts_of (layer at.point.expr))) (forms.parts_in f (form_at f q.node) q.names)
    acts : (values : List Value) → MatchingActs M Equal (language.act g at.owner at.point.expr.span (layer at.point.expr) at.point.names values) (forms.act_in f (form_at f q.node) q.names values)

  parts_meet : (i : ℕ) (names : Names) (scope : Env) → AreAlike f names scope → (es : List Expr) (ns : List ℕ) → Both (Ready g f i) es ns → Both M (map (λ e. language.within i (source.under names e)) es) (map (forms.under scope) ns)
  parts_meet i names scope alike [] [] ready = tt
  parts_meet i names scope alike [] (n ∷ ns) ready = absurd ready
  parts_meet i names scope alike (e ∷ es) [] ready = absurd ready
  parts_meet i names scope alike (e ∷ es) (n ∷ ns) ready = (record { names = alike; ready = ready.0 }, parts_meet i names scope alike es ns ready.1)

  both_front : {A B : Type 0} (R : A → B → Type 0) (xs ys : List A) (ns ms : List B) → length xs ≡ length ns → Both R (xs ++ ys) (ns ++ ms) → Both R xs ns × Both R ys ms
  both_front R [] ys [] ms long both = (tt, both)
  both_front R [] ys (n ∷ ns) ms long both = absurd (let e : 0 ≡ suc (length ns) = long in omega arith)
  both_front R (x ∷ xs) ys [] ms long both = absurd (let e : suc (length xs) ≡ 0 = long in omega arith)
  both_front R (x ∷ xs) ys (n ∷ ns) ms long both = let rest = both_front R xs ys ns ms (let e : suc (length xs) ≡ suc (length ns) = long in omega arith) both.1 in ((both.0, rest.0), rest.1)

  lowered_long : {i within : ℕ} {es : List Expr} {p q : Pending} {ns : List ℕ} → AreLowered f i within es p ns q → length es ≡ length ns
  lowered_long low.none = refl
  lowered_long (low.more one rest) = ap suc (lowered_long rest)

  stated : (i : ℕ) (e : Expr) (n : ℕ) (names : Names) (scope : Env) → AreAlike f names scope → Ready g f i e n → Stated (language.within i (source.under names e)) (forms.under scope n)
  stated i e n names scope alike ready = by_lowered ready.lowered ready.stands ready.inside
    where
      by_lowered : {within : ℕ} {before after : Pending} → IsLowered f i within e before n after → Stands g i (uses_in e) (labelled_in e) before → IsInside g.program.now e → Stated (language.within i (source.under names e)) (forms.under scope n)
      by_lowered {before = before} (low.node form inside between number is at in_it has shell parts tails) stands within =
          let t = takes f i n _ shell in
          let all = ready_all g f (lowered_both parts tails) (children_stand g f e before inside t stands) (children_inside g f e before inside t within) in
          let two = both_front (Ready g f i) (parts_of (layer e)) (tails_of (layer e)) form.parts form.tails (lowered_long parts) all in
          let here : Stands g i (own_use (layer e) e.span.start ++ flat_map uses_in (insides (layer e))) (own_label (layer e) e.span.start ++ flat_map labelled_in (outer (layer e))) before =
          subst (λ us. Stands g i us (own_label (layer e) e.span.start ++ flat_map labelled_in (outer (layer e))) before) (form_uses e (layer e) refl) (subst (λ ls. Stands g i (uses_in e) ls before) (labelled_level e) stands) in
          record {
            plain = plain_of shell ∙ ap (forms.plain_in f) (sym is);
            parts = subst (λ o. Both M (map (λ d. language.within i (source.under names d)) (parts_of (layer e))) (forms.parts_in f o scope)) (sym is) (parts_meet i names scope alike (parts_of (layer e)) form.parts two.0);
            acts = λ values. subst (λ o. MatchingActs M Equal (language.act g i e.span (layer e) names values) (forms.act_in f o scope values)) (sym is)
                (subst (λ s. MatchingActs M Equal (language.act g i e.span (layer e) names values) (forms.act f s form.kind form.tails scope values)) (sym at)
                (acts_of g f of.locals apart.uses distinct all_come.described all_come.labels_long all_wholes of.printer of.printer_is of.printer_body (flat_map uses_in (insides (layer e))) (flat_map labelled_in (outer (layer e))) here shell form.tails two.1 names scope alike values));
          }
      by_lowered {before = before} (low.lambda form l xs body layer_is number is at in_it has kind_is locals no_part no_tail label inner) stands within =
          record {
            plain = ap is_plain layer_is ∙ sym (ap (forms.plain_in f) is ∙ ap operations.is_plain kind_is);
            parts = subst (λ o. Both M (map (λ d. language.within i (source.under names d)) (parts_of (layer e))) (forms.parts_in f o scope)) (sym is) (subst (λ ks. Both M (map (λ d. language.within i (source.under names d)) (parts_of (layer e))) (map (forms.under scope) ks)) (sym no_part) (subst (λ m. Both M (map (λ d. language.within i (source.under names d)) (parts_of m)) []) (sym layer_is) tt));
            acts = λ values. subst (λ o. MatchingActs M Equal (language.act g i e.span (layer e) names values) (forms.act_in f o scope values)) (sym is)
                (subst (λ s. MatchingActs M Equal (language.act g i e.span (layer e) names values) (forms.act f s form.kind form.tails scope values)) (sym at)
                (subst (λ k. MatchingActs M Equal (language.act g i e.span (layer e) names values) (forms.act f e.span k form.tails scope values)) (sym kind_is)
                (subst (λ m. MatchingActs M Equal (language.act g i e.span m names values) (forms.closure e.span before.label (numbered.lookup_all scope xs))) (sym layer_is)
                (subst (λ o. MatchingActs M Equal (language.closure g e.span i (lookup_all names (captured l))) (forms.closure e.span before.label o)) (all_alike f names scope alike xs (captured l) locals)
                (closure_acts g f of.locals i e.span before.label (lookup_all names (captured l))
                (label_is g f of.locals apart.uses distinct all_come.described all_come.labels_long all_wholes of.printer of.printer_is of.printer_body i e.span.start (uses_in e) (labelled_in l.body ++ []) before
                (subst (λ ls. Stands g i (uses_in e) ls before) (labelled_level e ∙ ap (λ m. own_label m e.span.start ++ flat_map labelled_in (outer m)) layer_is) stands)))))));
          }

  -- ---- the languages match

  stated_at : (at : language.Point) (q : forms.Point) → M at q → Stated at q
  stated_at at q meets = stated at.owner at.point.expr q.node at.point.names q.names meets.names meets.ready

  pub lowers : Match (ground g) (let_normal f) M Equal
  lowers = record {
    plain = λ at q meets. (stated_at at q meets).plain;
    parts = λ at q meets. (stated_at at q meets).parts;
    acts = λ at q values others meets are. subst (λ vs. MatchingActs M Equal ((ground g).act at values) ((let_normal f).act q vs)) (values_same values others are) ((stated_at at q meets).acts values);
    lists = λ values others are. ap value.List (values_same values others are);
    listed = λ v w is. subst (λ x. Maybe (Both Equal) (list_in v) (list_in x)) is (maybe_itself (list_in v));
    rows = λ rows. refl;
    units = refl;
  }

  -- ---- calls of function values

  -- what has the value's label is called alike: points that meet, or neither goes anywhere
  pub calls_meet : (at : Span) (callee : FunValue) (args : List Value) → MatchingActs M Equal (language.call_labelled g at callee args (language.labelled g callee.site)) (forms.entered_as at callee args (label_at f callee.site))
  calls_meet at callee args = labelled_acts g f of.locals apart.uses distinct all_come.described all_come.labels_long all_wholes of.printer of.printer_is of.printer_body at callee args (language.labelled g callee.site) refl

  -- ---- sessions

  first_whole : (funs : List GroundFun) (fun : GroundFun) → slice_get funs 0 ≡ Some fun → found_from 1 (labelled_from 0 funs) 1 ≡ Some (Whole 0)
  first_whole [] fun is = absurd (none-some fun is)
  first_whole (one ∷ funs) fun is = refl

  main_whole : (main : GroundFun) → instance g 0 ≡ Some main → IsWhole g f 0 1
  main_whole main is = found_all (Described g f) 1 (labels g) 1 (Whole 0) all_come.described (first_whole g.funs main is)

  -- the body of label 1 is that of the first instance
  pub begins : (main : GroundFun) → instance g 0 ≡ Some main → (b : Body) × (body_at f 1 ≡ Some b) × ((arg : List ℕ) → M (main_at main arg) (main_point b arg))
  begins main is =
      let w = main_whole main is in (
        w.body,
        ap body_of w.has.is ∙ w.has.body_is,
        λ arg. subst (λ (m : GroundFun). M (main_at m arg) (main_point w.body arg)) (same_some (sym w.there ∙ is))
            (record { names = each_alike f of.locals w.body.params (map text_of (function_of w.fun).params) w.has.params_are (text arg ∷ []) no_names numbered.no_names (none_alike f); ready = w.ready }),
      )

  session_from : (main : GroundFun) (b : Body) (arg : List ℕ) → M (main_at main arg) (main_point b arg) → (fuel : ℕ) (answers : List (List Row))
      → language.session g (function_of main) arg (start fuel answers) ≡ eval (let_normal f) (main_point b arg) Client (start fuel answers)
  session_from main b arg meets fuel answers =
      outs_same _ _ (same (ground g) (let_normal f) M Equal lowers _ _ Client (start fuel answers) (start fuel answers) meets (record { fuel = refl; steps = refl; log = tt; answers = refl; returns = tt }))

  pub sessions_same : (main : GroundFun) → instance g 0 ≡ Some main → (b : Body) → body_at f 1 ≡ Some b → (arg : List ℕ) (fuel : ℕ) (answers : List (List Row))
      → language.session g (function_of main) arg (start fuel answers) ≡ eval (let_normal f) (main_point b arg) Client (start fuel answers)
  sessions_same main is b body_is arg fuel answers =
      let first = begins main is in
      let it : first.0 ≡ b = same_some (sym first.1 ∙ body_is) in
      session_from main b arg (subst (λ c. M (main_at main arg) (main_point c arg)) it (first.2 arg)) fuel answers
