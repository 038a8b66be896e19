-- What is evaluated in a typed expression is typed, and so is the body of a lambda.
use Rattle.std.proofs.Common.{◌≡◌, refl, sym, ap, subst, ◌∙◌, true, false, List, [], ◌∷◌, ◌++◌}
use Rattle.lk_ast.specs.Layers.{Layer, layer}
use Rattle.lk_ast.specs.declared.declaration.TableDecl.{TableDecl}
use Rattle.lk_ast.specs.declared.expression.Case.{Case}
use Rattle.lk_ast.specs.declared.expression.Expr.{Expr}
use Rattle.lk_ast.specs.declared.expression.LambdaExpr.{LambdaExpr}
use Rattle.lk_ast.specs.declared.expression.Node.TheOpen.{Node-F}
use Rattle.lk_lower.proofs.Counted.{children_of}
use Rattle.lk_lower.specs.Lowering.{case_bodies}
use Rattle.lk_lowered.proofs.Inverted.{is_lambda}
use Rattle.lk_lowered.proofs.NodeKinds.{no_lambda}
use Rattle.lk_lowered.proofs.Operators.{plain_children}
use Rattle.lk_types.proofs.Members.{each_both}
use Rattle.lk_types.specs.Each.{Each}
use Rattle.lk_types.specs.Rows.{EffectSet}
use Rattle.lk_types.specs.declared.ground.Ground.{Ground}
use Rattle.lk_typing.specs.Names.{Entry, Named, names_of, texts}
use Rattle.lk_typing.specs.Typing.{HasType, HaveTypes, HaveCases, plain, lambda, var, switch, switch_open, for_list, for_table, query, update, delete, none, more, no_cases, case_of}

module _ (functions : Named (Entry Ground)) (tables : List TableDecl) where
  -- under some names it has some type
  pub record IsTypedIn (e : Expr) : Type 0 where
    pub names : Named Ground
    pub effects : EffectSet
    pub type : Ground
    pub inside : List Ground
    pub typed : HasType functions tables names effects e type inside

  pub typed_in : {names : Named Ground} {effects : EffectSet} {e : Expr} {t : Ground} {inside : List Ground} → HasType functions tables names effects e t inside → IsTypedIn e
  typed_in {names} {effects} {e} {t} {inside} d = record { names = names; effects = effects; type = t; inside = inside; typed = d }

  all_in : {names : Named Ground} {effects : EffectSet} {es : List Expr} {ts inside : List Ground} → HaveTypes functions tables names effects es ts inside → Each IsTypedIn es
  all_in none = tt
  all_in (more inside rest first others) = (typed_in first, all_in others)

  cases_in : {names : Named Ground} {effects : EffectSet} {cases : List Case} {ts : List Ground} {tags : Named Ground} {inside : List Ground} → HaveCases functions tables names effects cases ts tags inside → Each IsTypedIn (case_bodies cases)
  cases_in no_cases = tt
  cases_in (case_of a held inside rest is_held body others) = (typed_in body, cases_in others)

  abbrev ChildrenTyped : Layer → Type 0
  ChildrenTyped l = Each IsTypedIn (children_of l)

  pub children_typed : {names : Named Ground} {effects : EffectSet} {e : Expr} {t : Ground} {inside : List Ground} → HasType functions tables names effects e t inside → ChildrenTyped (layer e)
  children_typed {e = e} (plain h ts is have by) = subst (Each IsTypedIn) (sym (plain_children (layer e) h is)) (all_in have)
  children_typed (lambda l params own b is are moves body local) = subst ChildrenTyped (sym is) tt
  children_typed (var x d rest a first last is one next) = subst ChildrenTyped (sym is) (typed_in one, (typed_in next, tt))
  children_typed (switch d cases row tags ts first bodies is one have same made local) = subst ChildrenTyped (sym is) (typed_in one, each_both IsTypedIn (case_bodies cases) [] (cases_in have) tt)
  children_typed (switch_open d cases last rest row tags ts first bodies inside is one have same next made local) = subst ChildrenTyped (sym is) (typed_in one, each_both IsTypedIn (case_bodies cases) (last.body ∷ []) (cases_in have) (typed_in next, tt))
  children_typed (for_list x d body a b first inside is one next) = subst ChildrenTyped (sym is) (typed_in one, (typed_in next, tt))
  children_typed (for_table x rows body a b first inside is one next) = subst ChildrenTyped (sym is) (typed_in one, (typed_in next, tt))
  children_typed (query keys body a inside is one sorted scans own) = subst ChildrenTyped (sym is) tt
  children_typed (update change is changes writes) = subst ChildrenTyped (sym is) tt
  children_typed (delete change is changes writes) = subst ChildrenTyped (sym is) tt

  -- the body of a lambda under its parameters
  pub record IsTypedLambda (names : Named Ground) (l : LambdaExpr) : Type 0 where
    pub params : Named Ground
    pub own : EffectSet
    pub answer : Ground
    pub inside : List Ground
    pub are : names_of params ≡ texts l.params
    pub typed : HasType functions tables (params ++ names) own l.body answer inside

  other_form : {A : Type 0} {l m : Layer} → l ≡ m → is_lambda l ≡ true → is_lambda m ≡ false → A
  other_form same is other = absurd (let wrong : true ≡ false = sym is ∙ ap is_lambda same ∙ other in cc)

  pub lambda_typed : {names : Named Ground} {effects : EffectSet} {e : Expr} {t : Ground} {inside : List Ground} → HasType functions tables names effects e t inside → (l : LambdaExpr) → layer e ≡ Node-F.Lambda l → IsTypedLambda names l
  lambda_typed {e = e} (plain h ts is have by) l at = other_form refl (ap is_lambda at) (no_lambda (layer e) h is)
  lambda_typed {names} (lambda {inside = inside} k params own b is are moves body local) l at =
      let both : Node-F.Lambda k ≡ Node-F.Lambda l = sym is ∙ at in
      let same : k ≡ l = cc in
      subst (IsTypedLambda names) same (record { params = params; own = own; answer = b; inside = inside; are = are; typed = body })
  lambda_typed (var x d rest a first last is one next) l at = other_form is (ap is_lambda at) refl
  lambda_typed (switch d cases row tags ts first bodies is one have same made local) l at = other_form is (ap is_lambda at) refl
  lambda_typed (switch_open d cases last rest row tags ts first bodies inside is one have same next made local) l at = other_form is (ap is_lambda at) refl
  lambda_typed (for_list x d body a b first inside is one next) l at = other_form is (ap is_lambda at) refl
  lambda_typed (for_table x rows body a b first inside is one next) l at = other_form is (ap is_lambda at) refl
  lambda_typed (query keys body a inside is one sorted scans own) l at = other_form is (ap is_lambda at) refl
  lambda_typed (update change is changes writes) l at = other_form is (ap is_lambda at) refl
  lambda_typed (delete change is changes writes) l at = other_form is (ap is_lambda at) refl
