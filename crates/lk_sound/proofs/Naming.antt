-- Nodes that are names, functions and calls.
use Rattle.std.proofs.Common.{◌≡◌, refl, sym, subst, List, [], ◌∷◌, ◌++◌}
use Rattle.std.specs.Prelude.{None}
use Rattle.lk_ast.specs.Layers.{Layer, layer}
use Rattle.lk_ast.specs.Tables.{tables_of}
use Rattle.lk_ast.specs.declared.declaration.FunDef.{FunDef}
use Rattle.lk_ast.specs.declared.declaration.Program.{Program}
use Rattle.lk_ast.specs.declared.expression.Expr.{Expr}
use Rattle.lk_ast.specs.declared.expression.LambdaExpr.{LambdaExpr}
use Rattle.lk_ast.specs.declared.expression.Node.TheOpen.{Node-F}
use Rattle.lk_ast.specs.declared.place.Word.{Word}
use Rattle.lk_ast.specs.declared.value.FunValue.{FunValue}
use Rattle.lk_ast.specs.declared.value.Value.{Value}
use Rattle.lk_evaluation.specs.Source.{Point, act, given, function_value, closure, call, enter_made, apply, apply_first}
use Rattle.lk_evaluation.specs.Syntax.{parts_of}
use Rattle.lk_index.specs.Places.{ArePlaced, lambda_at}
use Rattle.lk_names.specs.Programs.{IsBound}
use Rattle.lk_operators.specs.Values.{fun_in}
use Rattle.lk_types.specs.Rows.{Label, EffectSet}
use Rattle.lk_types.specs.declared.ground.Ground.{Ground}
use Rattle.lk_typing.specs.Heads as head
use Rattle.lk_typing.specs.Names.{Named, named, names_of, types_of, texts, Entry}
use Rattle.lk_typing.specs.Rules.{Rule}
use Rattle.lk_typing.specs.Rules as rule
use Rattle.lk_typing.specs.Types.{function_of}
use Rattle.lk_sound.specs.Acts.{IsAct, IsNode}
use Rattle.lk_sound.specs.Instances.{Instances, IsListed, AreClosed}
use Rattle.lk_sound.specs.Points.{AreLocals}
use Rattle.lk_sound.specs.Values.{FitEach, function, lambda}
use Rattle.lk_sound.proofs.Apart.{lambda_params_apart, captured_apart}
use Rattle.lk_sound.proofs.Bodies.{IsUsed, used_there, listed_body}
use Rattle.lk_sound.proofs.Calls.{function_called, lambda_called}
use Rattle.lk_sound.proofs.Captured.{IsClosure, closure_kept}
use Rattle.lk_sound.proofs.Fitting.{on_first}
use Rattle.lk_sound.proofs.Found.{function_found, function_is_there, lambda_found, lambda_is_there}
use Rattle.lk_sound.proofs.Points as points
use Rattle.lk_sound.proofs.Points.{IsTyped, AreTyped}
use Rattle.lk_sound.proofs.Shapes.{IsMade, function as made_function, lambda as made_lambda, made_of_fits}
use Rattle.lk_sound.proofs.Stands.{StandsIn, lambda_stands}
use Rattle.lk_sound.proofs.Within.{lambda_inside}

module _ (p : Program) (i : Instances) (bound : IsBound p) (placed : ArePlaced p) (closed : AreClosed p i) (functions : Named (Entry Ground)) (effects : EffectSet) (locals : Named Ground) (point : Point) (fit : AreLocals p i locals point.names) (stands : StandsIn p point.expr) where
  alone : (t : Ground) (l : Layer) → layer point.expr ≡ l → parts_of l ≡ [] → IsAct p i effects t (act p point.expr.span l point.names []) → IsNode p i effects t point
  alone = points.alone p i functions effects locals point fit stands

  with_parts : (t : Ground) (l : Layer) (es : List Expr) (ts : List Ground) → layer point.expr ≡ l → parts_of l ≡ es → AreTyped p i functions locals effects es ts → ((values : List Value) → FitEach p i values ts → IsAct p i effects t (act p point.expr.span l point.names values)) → IsNode p i effects t point
  with_parts = points.with_parts p i functions effects locals point fit stands

  -- ---- names

  pub local_node : (x : Label) (ts : List Ground) (t : Ground) → layer point.expr ≡ Node-F.Name x → Rule functions (tables_of p) locals effects (head.Local x) ts t → IsNode p i effects t point
  local_node x _ t is (rule.local known) =
      let found = fit x t known in
      alone t (Node-F.Name x) is refl (subst (λ o. IsAct p i effects t (given point.expr.span o)) (sym found.1) found.2)

  -- a function of the program by its name
  pub function_node : (g : Label) (t : Ground) → layer point.expr ≡ Node-F.Function g → IsListed i.mains (record { name = g; type = t }) → IsNode p i effects t point
  function_node g t is listed =
      let found : IsUsed p i g t = used_there p i closed g t listed in
      let f : FunDef = found.function in
      alone t (Node-F.Function g) is refl
      (subst (λ o. IsAct p i effects t (function_value point.expr.span o)) (sym found.named)
      (function f f.name.at.start (types_of found.has.params) found.has.own found.has.answer refl (function_found p f placed found.has.declared) found.listed found.has.is))

  -- ---- calls

  pub call_node : (g : Word) (args : List Expr) (ts : List Ground) (a : Ground) → layer point.expr ≡ Node-F.Call g args → AreTyped p i functions locals effects args ts → IsListed i.mains (record { name = g.text; type = function_of ts effects a }) → IsNode p i effects a point
  call_node g args ts a is have listed =
      let found : IsUsed p i g.text (function_of ts effects a) = used_there p i closed g.text (function_of ts effects a) listed in
      with_parts a (Node-F.Call g args) args ts is refl have (λ values fits.
      subst (λ o. IsAct p i effects a (call point.expr.span values o)) (sym found.named)
      (function_called p i bound found.function effects ts a found.has values fits point.expr.span _))

  -- a call of a value that was made at a place in the text
  made : (ts : List Ground) (a : Ground) (v : Value) (args : List Value) → IsMade p i v (function_of ts effects a) → FitEach p i args ts → IsAct p i effects a (apply p point.expr.span (fun_in v) args)
  made ts a v args (made_function f site is there listed) fits =
      subst (λ o. IsAct p i effects a (apply p point.expr.span o args)) (sym is)
      (subst (λ o. IsAct p i effects a (enter_made point.expr.span (record { site = site; env = [] }) args o (lambda_at p site))) (sym there)
      (function_called p i bound f effects ts a (listed_body p i bound closed f (function_of ts effects a) (function_is_there p site f there) listed) args fits point.expr.span _))
  made ts a v args (made_lambda f l inner params kept own b inside is no_function there are_kept env named typed fine same) fits =
      let declared = lambda_is_there p f.site l there in
      let body : IsTyped p i inner (params ++ kept) own l.body b = record { inside = inside; typed = typed; fine = fine } in
      subst (λ o. IsAct p i effects a (apply p point.expr.span o args)) (sym is)
      (subst (λ o. IsAct p i effects a (enter_made point.expr.span f args o (lambda_at p f.site))) (sym no_function)
      (subst (λ o. IsAct p i effects a (enter_made point.expr.span f args None o)) (sym there)
      (lambda_called p i point.expr.span f l inner params kept own b are_kept env named body (captured_apart l) (lambda_params_apart p _ bound declared) (lambda_stands p _ declared) effects ts a same args fits)))

  pub apply_node : (f : Expr) (args : List Expr) (ts : List Ground) (a : Ground) → layer point.expr ≡ Node-F.Apply f args → AreTyped p i functions locals effects (f ∷ args) ts → Rule functions (tables_of p) locals effects head.Apply ts a → IsNode p i effects a point
  apply_node f args _ a is have (rule.apply {ts} own) =
      with_parts a (Node-F.Apply f args) (f ∷ args) (function_of ts effects a ∷ ts) is refl have
      (on_first p i (λ values. IsAct p i effects a (apply_first p point.expr.span values)) (function_of ts effects a) ts
      (λ v values fits all. made ts a v values (made_of_fits p i v ts effects a fits) all))

  -- ---- lambdas

  pub lambda_node : (l : LambdaExpr) (params : Named Ground) (own : EffectSet) (b : Ground) → layer point.expr ≡ Node-F.Lambda l → names_of params ≡ texts l.params
      → IsTyped p i functions (params ++ locals) own l.body b → IsNode p i effects (function_of (types_of params) own b) point
  lambda_node l params own b is named body =
      let kept : IsClosure p i functions point.names l params own b = closure_kept p i functions locals point.names l params own b named body fit in
      let there = lambda_found p (record { site = point.expr.span.start; lambda = l }) placed (lambda_inside p point.expr is stands.0).0 in
      let f : FunValue = record { site = point.expr.span.start; env = kept.values } in
      alone (function_of (types_of params) own b) (Node-F.Lambda l) is refl
      (subst (λ o. IsAct p i effects (function_of (types_of params) own b) (closure point.expr.span o)) (sym kept.found)
      (lambda f l functions params kept.kept own b kept.body.inside refl there.0 there.1 kept.named_are kept.fit named kept.body.typed kept.body.fine refl))
