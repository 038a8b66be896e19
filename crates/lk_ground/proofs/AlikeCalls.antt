-- Nodes that are functions, lambdas and calls: an instance does what its function does, up to what function values stand for.
use Rattle.std.proofs.Common.{◌≡◌, refl, sym, ap, subst, ◌∙◌, ℕ, List, [], Option, Some, None}
use Rattle.lk_ast.specs.Functions.{function_named}
use Rattle.lk_ast.specs.declared.expression.Expr.{Expr}
use Rattle.lk_ast.specs.declared.expression.LambdaExpr.{LambdaExpr}
use Rattle.lk_ast.specs.declared.place.Loc.{Loc}
use Rattle.lk_ast.specs.declared.place.Span.{Span}
use Rattle.lk_ast.specs.declared.value.FunValue.{FunValue}
use Rattle.lk_ast.specs.declared.value.Value.{Value}
use Rattle.lk_ast.specs.declared.value.Value.TheVariants as value
use Rattle.lk_evaluation.specs.Evaluation.{Act}
use Rattle.lk_evaluation.specs.Laws.{Both, Maybe, MatchingActs}
use Rattle.lk_evaluation.specs.Source as source
use Rattle.lk_index.specs.Free.{captured}
use Rattle.lk_index.specs.Places.{ArePlaced, function_at, lambda_at}
use Rattle.lk_locals.specs.Names.{Names, no_names, bind_all}
use Rattle.lk_operators.specs.Values.{fun_in}
use Rattle.lk_sound.proofs.Found.{function_found, lambda_is_there}
use Rattle.lk_sound.proofs.Within.{function_within, lambda_within}
use Rattle.lk_sound.specs.Within.{IsWithin}
use Rattle.lk_types.specs.Each.{OneOf}
use Rattle.lk_types.specs.Rows.{Label}
use Rattle.lk_ground.specs.Alike.{Alike, AllAlike, base, list, fields, tag, function, lambda}
use Rattle.lk_ground.specs.Language.{Point, Whole, Site, act_within, function_of, instance, called_in, label_of, labelled, made, function_value, closure, call, call_instance, call_labelled, apply}
use Rattle.lk_ground.specs.Law.{AreInstances, NamesAlike, IsPointOf}
use Rattle.lk_ground.specs.Sites.{use_at, labelled_in}
use Rattle.lk_ground.specs.Standing.{IsCalled, StandsIn}
use Rattle.lk_ground.specs.declared.program.GroundFun.{GroundFun}
use Rattle.lk_ground.specs.declared.program.GroundProgram.{GroundProgram}
use Rattle.lk_ground.proofs.AlikeNames.{both_of_all, each_alike, all_bound, no_names_alike}
use Rattle.lk_ground.proofs.Labels.{labelled_again, instance_labelled, site_labelled}

fun_shown : (f : FunValue) → fun_in (value.Fun f) ≡ Some f
fun_shown f = simp (value.outs-Fun)

module _ (p : GroundProgram) (placed : ArePlaced p.program.now) (are : AreInstances p) where
  abbrev Acts : Act Point → Act source.Point → Type 0
  Acts a b = MatchingActs (IsPointOf p) (Alike p) a b

  -- ---- bodies

  -- a call of a body in an instance, with arguments that stand for others under names that do
  went : (i : ℕ) (f : GroundFun) (is : instance p i ≡ Some f) (body : Expr) (stands : StandsIn p f body) (inside : IsWithin p.program.now body) (at : Span) (mark : Loc) (g h : FunValue) (args others : List Value)
      → Alike p (value.Fun g) (value.Fun h) → Both (Alike p) args others → (o q : Option Names) → Maybe (NamesAlike p) o q
      → Acts (act_within i (source.goto at mark g args body o)) (source.goto at mark h others body q)
  went i f is body stands inside at mark g h args others alike all None None names = refl
  went i f is body stands inside at mark g h args others alike all None (Some q) names = absurd names
  went i f is body stands inside at mark g h args others alike all (Some o) None names = absurd names
  went i f is body stands inside at mark g h args others alike all (Some o) (Some q) names =
      (refl, alike, all, record { owner = f; is = is; expr = refl; names = names; stands = stands; within = inside })

  -- ---- instances

  function_alike : (i label : ℕ) (f : GroundFun) → instance p i ≡ Some f → label_of p (Whole i) ≡ Some label
      → Alike p (value.Fun (record { site = label; env = [] })) (value.Fun (record { site = (function_of f).name.at.start; env = [] }))
  function_alike i label f is has = function i label f is has (function_found p.program.now (function_of f) placed (are.declared i f is)) refl refl

  -- a call of an instance, and of its function
  called : (i : ℕ) (f : GroundFun) (is : instance p i ≡ Some f) (at : Span) (args others : List Value) → AllAlike p args others
      → Acts (call p at args (Some i)) (source.goto at (function_of f).place (record { site = (function_of f).name.at.start; env = [] }) others (function_of f).body (bind_all no_names (function_of f).params others))
  called i f is at args others all =
      let label = instance_labelled p i f is in
      subst (λ o. Acts (call_instance at i args o (instance p i)) (source.goto at (function_of f).place (record { site = (function_of f).name.at.start; env = [] }) others (function_of f).body (bind_all no_names (function_of f).params others))) (sym label.1)
      (subst (λ o. Acts (call_instance at i args (Some label.0) o) (source.goto at (function_of f).place (record { site = (function_of f).name.at.start; env = [] }) others (function_of f).body (bind_all no_names (function_of f).params others))) (sym is)
      (went i f is (function_of f).body (are.stand i f is) (function_within p.program.now (function_of f) (are.declared i f is)) at (function_of f).place _ _ args others (function_alike i label.0 f is label.1)
      (both_of_all p args others all) _ _ (all_bound p (function_of f).params args others no_names no_names all (no_names_alike p))))

  -- the instance that a use calls, and the function that it names
  module _ (i : ℕ) (owner : GroundFun) (is : instance p i ≡ Some owner) (at : Span) (g : Label) (u : IsCalled p owner (use_at g at.start)) where
    calls_it : called_in (instance p i) at.start ≡ Some u.0
    calls_it = ap (λ o. called_in o at.start) is ∙ u.2

    pub function_acts : Acts (function_value p at (called_in (instance p i) at.start)) (source.function_value at (function_named p.program.now g))
    function_acts =
        let label = instance_labelled p u.0 u.1 u.3 in
        subst (λ o. Acts (function_value p at o) (source.function_value at (function_named p.program.now g))) (sym calls_it)
        (subst (λ q. Acts (made at [] (label_of p (Whole u.0))) (source.function_value at q)) (sym u.4)
        (subst (λ o. Acts (made at [] o) (source.function_value at (Some (function_of u.1)))) (sym label.1) (function_alike u.0 label.0 u.1 u.3 label.1)))

    pub call_acts : (values others : List Value) → AllAlike p values others → Acts (call p at values (called_in (instance p i) at.start)) (source.call at others (function_named p.program.now g))
    call_acts values others all =
        subst (λ o. Acts (call p at values o) (source.call at others (function_named p.program.now g))) (sym calls_it)
        (subst (λ q. Acts (call p at values (Some u.0)) (source.call at others q)) (sym u.4) (called u.0 u.1 u.3 at values others all))

  -- ---- lambdas

  pub closure_acts : (i : ℕ) (owner : GroundFun) (is : instance p i ≡ Some owner) (at : Span) (l : LambdaExpr) → OneOf (λ other. other ≡ at.start) (labelled_in (function_of owner).body) → StandsIn p owner l.body → (function_at p.program.now at.start ≡ None) × (lambda_at p.program.now at.start ≡ Some l) → (o q : Option (List Value)) → Maybe (AllAlike p) o q
      → Acts (closure p at i o) (source.closure at q)
  closure_acts i owner is at l there stands found None None all = refl
  closure_acts i owner is at l there stands found None (Some others) all = absurd all
  closure_acts i owner is at l there stands found (Some values) None all = absurd all
  closure_acts i owner is at l there stands found (Some values) (Some others) all =
      let label = site_labelled p i owner at.start is there in
      subst (λ o. Acts (made at values o) (source.closure at (Some others))) (sym label.1) (lambda i label.0 at.start owner l values others is label.1 found.0 found.1 stands all refl refl)

  -- ---- values that are called

  no_function : (at : Span) (v w : Value) (args others : List Value) → fun_in v ≡ None → fun_in w ≡ None → Acts (apply p at (fun_in v) args) (source.apply p.program.now at (fun_in w) others)
  no_function at v w args others is also =
      subst (λ o. Acts (apply p at o args) (source.apply p.program.now at (fun_in w) others)) (sym is) (subst (λ q. Acts (apply p at None args) (source.apply p.program.now at q others)) (sym also) refl)

  a_function : (at : Span) (v w : Value) (args others : List Value) (g h : FunValue) → fun_in v ≡ Some g → fun_in w ≡ Some h
      → Acts (call_labelled p at g args (labelled p g.site)) (source.enter_made at h others (function_at p.program.now h.site) (lambda_at p.program.now h.site))
      → Acts (apply p at (fun_in v) args) (source.apply p.program.now at (fun_in w) others)
  a_function at v w args others g h is also acts =
      subst (λ o. Acts (apply p at o args) (source.apply p.program.now at (fun_in w) others)) (sym is) (subst (λ q. Acts (apply p at (Some g) args) (source.apply p.program.now at q others)) (sym also) acts)

  pub apply_acts : (at : Span) (v w : Value) (args others : List Value) → Alike p v w → AllAlike p args others → Acts (apply p at (fun_in v) args) (source.apply p.program.now at (fun_in w) others)
  apply_acts at v w args others (base b is also) all = no_function at v w args others (ap fun_in is ∙ simp (value.outs-Base)) (ap fun_in also ∙ simp (value.outs-Base))
  apply_acts at v w args others (list vs ws is also alike) all = no_function at v w args others (ap fun_in is ∙ simp (value.outs-List)) (ap fun_in also ∙ simp (value.outs-List))
  apply_acts at v w args others (fields fs gs is also alike) all = no_function at v w args others (ap fun_in is ∙ simp (value.outs-Fields)) (ap fun_in also ∙ simp (value.outs-Fields))
  apply_acts at v w args others (tag t held other is also alike) all = no_function at v w args others (ap fun_in is ∙ simp (value.outs-Tag)) (ap fun_in also ∙ simp (value.outs-Tag))
  apply_acts at v w args others (function i label f is has there made_by named_by) all =
      a_function at v w args others _ _ (ap fun_in made_by ∙ fun_shown _) (ap fun_in named_by ∙ fun_shown _)
      (subst (λ o. Acts (call_labelled p at (record { site = label; env = [] }) args o) (source.enter_made at (record { site = (function_of f).name.at.start; env = [] }) others (function_at p.program.now (function_of f).name.at.start) (lambda_at p.program.now (function_of f).name.at.start))) (sym (labelled_again p (Whole i) label has))
      (subst (λ q. Acts (call p at args (Some i)) (source.enter_made at (record { site = (function_of f).name.at.start; env = [] }) others q (lambda_at p.program.now (function_of f).name.at.start))) (sym there) (called i f is at args others all)))
  apply_acts at v w args others (lambda i label site f l env kept is has no_name found stands alike made_by named_by) all =
      a_function at v w args others _ _ (ap fun_in made_by ∙ fun_shown _) (ap fun_in named_by ∙ fun_shown _)
      (subst (λ o. Acts (call_labelled p at (record { site = label; env = env }) args o) (source.enter_made at (record { site = site; env = kept }) others (function_at p.program.now site) (lambda_at p.program.now site))) (sym (labelled_again p (Site i site) label has))
      (subst (λ q. Acts (act_within i (source.enter_lambda at (record { site = label; env = env }) args q)) (source.enter_made at (record { site = site; env = kept }) others (function_at p.program.now site) q)) (sym found)
      (subst (λ q. Acts (act_within i (source.enter_lambda at (record { site = label; env = env }) args (Some l))) (source.enter_made at (record { site = site; env = kept }) others q (Some l))) (sym no_name)
      (went i f is l.body stands (lambda_within p.program.now _ (lambda_is_there p.program.now site l found)) at l.place _ _ args others (lambda i label site f l env kept is has no_name found stands alike refl refl)
      (both_of_all p args others all) _ _ (all_bound p l.params args others _ _ all (each_alike p (captured l) env kept no_names no_names alike (no_names_alike p)))))))
