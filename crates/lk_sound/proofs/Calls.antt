-- Calls with values that fit: the body of what is called is a point that has the answer's type, with the same effects.
use Rattle.std.proofs.Common.{◌≡◌, suc, arith, refl, sym, ◌∙◌, ap, subst, ℕ, true, List, [], ◌∷◌, ◌++◌, append-nil, length, ◌==◌, if◌then◌else◌, Some, None}
use Rattle.std.proofs.lemmas.Bool.Decides.{nat_tests}
use Rattle.lk_ast.specs.declared.declaration.FunDef.{FunDef}
use Rattle.lk_ast.specs.declared.declaration.Program.{Program}
use Rattle.lk_ast.specs.declared.expression.Expr.{Expr}
use Rattle.lk_ast.specs.declared.expression.LambdaExpr.{LambdaExpr}
use Rattle.lk_ast.specs.declared.place.Loc.{Loc}
use Rattle.lk_ast.specs.declared.place.Span.{Span}
use Rattle.lk_ast.specs.declared.place.Word.{Word}
use Rattle.lk_ast.specs.declared.value.FunValue.{FunValue}
use Rattle.lk_ast.specs.declared.value.Value.{Value}
use Rattle.lk_evaluation.specs.Source.{under, goto}
use Rattle.lk_index.specs.Free.{captured}
use Rattle.lk_locals.specs.Names.{Names, no_names, bind_each, bind_all}
use Rattle.lk_names.specs.Programs.{IsBound}
use Rattle.lk_types.specs.Rows.{Label, EffectSet}
use Rattle.lk_types.specs.declared.ground.Ground.{Ground}
use Rattle.lk_typing.proofs.Samples.Types.{same_params, same_answer, same_effects}
use Rattle.lk_typing.specs.Names.{Named, names_of, types_of, texts, Entry}
use Rattle.lk_typing.specs.Types.{function_of}
use Rattle.lk_sound.specs.Acts.{IsAct}
use Rattle.lk_sound.specs.Instances.{Instances}
use Rattle.lk_sound.specs.Points.{IsPoint, AreLocals}
use Rattle.lk_sound.specs.Values.{FitEach}
use Rattle.lk_sound.proofs.Bindings.{bound_each}
use Rattle.lk_sound.proofs.Fitting.{as_many}
use Rattle.lk_sound.proofs.Names.{AreDistinct}
use Rattle.lk_sound.proofs.Apart.{params_apart}
use Rattle.lk_sound.proofs.Bodies.{HasFineBody}
use Rattle.lk_sound.proofs.Points.{at, IsTyped}
use Rattle.lk_sound.proofs.Stands.{StandsIn, function_stands}

pub no_locals : (p : Program) (i : Instances) → AreLocals p i [] no_names
no_locals p i x t is = absurd cc

-- names that stand for the values that are kept
pub kept_fit : (p : Program) (i : Instances) (kept : Named Ground) (xs : List Label) (values : List Value) → names_of kept ≡ xs → AreDistinct xs → FitEach p i values (types_of kept) → AreLocals p i kept (bind_each no_names xs values)
kept_fit p i kept xs values are apart fit =
    subst (λ xs. AreLocals p i kept (bind_each no_names xs values)) are
    (subst (λ locals. AreLocals p i locals (bind_each no_names (names_of kept) values)) (append-nil kept)
    (bound_each p i kept values [] no_names (subst AreDistinct (sym are) apart) fit (no_locals p i)))

pub length_names : (entries : Named Ground) → length (names_of entries) ≡ length (types_of entries)
length_names [] = refl
length_names (entry ∷ entries) = ap suc (length_names entries)

pub length_texts : (words : List Word) → length (texts words) ≡ length words
length_texts [] = refl
length_texts (word ∷ words) = ap suc (length_texts words)

equal_to_itself : (n m : ℕ) → n ≡ m → (n == m) ≡ true
equal_to_itself n m is = grind (arith, nat_tests)

-- as many arguments as parameters
pub bound_all : (names : Names) (params : List Word) (values : List Value) → length params ≡ length values → bind_all names params values ≡ Some (bind_each names (texts params) values)
bound_all names params values is = ap (λ b. if b then Some (bind_each names (texts params) values) else None) (equal_to_itself (length params) (length values) is)

-- What is called: a body with parameters of these types, over names with values that fit.
module _ (p : Program) (i : Instances) (words : List Word) (body : Expr) (functions : Named (Entry Ground))
    (params kept : Named Ground) (own : EffectSet) (b : Ground) (named : names_of params ≡ texts words) (typed : IsTyped p i functions (params ++ kept) own body b)
    (stands : StandsIn p body) (distinct : AreDistinct (texts words)) (names : Names) (fit : AreLocals p i kept names) where
  -- the body with arguments that fit
  entered : (effects : EffectSet) (ts : List Ground) (a : Ground) → function_of ts effects a ≡ function_of (types_of params) own b → (args : List Value) → FitEach p i args ts
      → IsPoint p i effects a (under (bind_each names (texts words) args) body) × (bind_all names words args ≡ Some (bind_each names (texts words) args))
  entered effects ts a is args fits =
      let fits_params : FitEach p i args (types_of params) = subst (λ us. FitEach p i args us) (same_params ts (types_of params) effects own a b is) fits in
      let as_many_words : length words ≡ length args = sym (length_texts words) ∙ ap length (sym named) ∙ length_names params ∙ sym (as_many p i args (types_of params) fits_params) in
      let locals : AreLocals p i (params ++ kept) (bind_each names (texts words) args) =
      subst (λ xs. AreLocals p i (params ++ kept) (bind_each names xs args)) named (bound_each p i params args kept names (subst AreDistinct (sym named) distinct) fits_params fit) in
      let with_effects : IsTyped p i functions (params ++ kept) effects body b =
      subst (λ s. IsTyped p i functions (params ++ kept) s body b) (sym (same_effects ts (types_of params) effects own a b is)) typed in
      let with_answer : IsTyped p i functions (params ++ kept) effects body a =
      subst (λ t. IsTyped p i functions (params ++ kept) effects body t) (sym (same_answer ts (types_of params) effects own a b is)) with_effects in
      (at p i functions effects (params ++ kept) (bind_each names (texts words) args) locals body a with_answer stands, bound_all names words args as_many_words)

  called : (at : Span) (mark : Loc) (f : FunValue) (effects : EffectSet) (ts : List Ground) (a : Ground) → function_of ts effects a ≡ function_of (types_of params) own b → (args : List Value) → FitEach p i args ts
      → IsAct p i effects a (goto at mark f args body (bind_all names words args))
  called at mark f effects ts a is args fits =
      let into = entered effects ts a is args fits in
      subst (λ o. IsAct p i effects a (goto at mark f args body o)) (sym into.1) into.0

module _ (p : Program) (i : Instances) (bound : IsBound p) (f : FunDef) (effects : EffectSet) (ts : List Ground) (a : Ground) (has : HasFineBody p i f (function_of ts effects a)) (args : List Value) (fits : FitEach p i args ts) where
  -- the body of an instance with arguments that fit
  pub function_entered : IsPoint p i effects a (under (bind_each no_names (texts f.params) args) f.body) × (bind_all no_names f.params args ≡ Some (bind_each no_names (texts f.params) args))
  function_entered =
      entered p i f.params f.body has.functions has.params [] has.own has.answer has.named has.body (function_stands p f has.declared) (params_apart p f bound has.declared) no_names (no_locals p i) effects ts a has.is args fits

  -- a call of it
  pub function_called : (at : Span) (site : FunValue) → IsAct p i effects a (goto at f.place site args f.body (bind_all no_names f.params args))
  function_called at site =
      called p i f.params f.body has.functions has.params [] has.own has.answer has.named has.body (function_stands p f has.declared) (params_apart p f bound has.declared) no_names (no_locals p i) at f.place site effects ts a has.is args fits

-- a call of a lambda, with what it keeps
pub lambda_called : (p : Program) (i : Instances) (at : Span) (f : FunValue) (l : LambdaExpr) (functions : Named (Entry Ground)) (params kept : Named Ground) (own : EffectSet) (b : Ground)
    → names_of kept ≡ captured l → FitEach p i f.env (types_of kept) → names_of params ≡ texts l.params → IsTyped p i functions (params ++ kept) own l.body b
    → AreDistinct (captured l) → AreDistinct (texts l.params) → StandsIn p l.body
    → (effects : EffectSet) (ts : List Ground) (a : Ground) → function_of ts effects a ≡ function_of (types_of params) own b → (args : List Value) → FitEach p i args ts
    → IsAct p i effects a (goto at l.place f args l.body (bind_all (bind_each no_names (captured l) f.env) l.params args))
lambda_called p i at f l functions params kept own b are_kept fit named typed apart distinct stands effects ts a is args fits =
    called p i l.params l.body functions params kept own b named typed stands distinct (bind_each no_names (captured l) f.env)
    (kept_fit p i kept (captured l) f.env are_kept apart fit)
    at l.place f effects ts a is args fits
