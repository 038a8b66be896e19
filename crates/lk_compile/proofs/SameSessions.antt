-- Sessions of code are those of its ground program, and so are calls.
use Rattle.std.proofs.Common.{◌≡◌, refl, sym, ap, subst, ◌∙◌, ℕ, true, List, [], ◌∷◌, length, Option, Some, None, slice_get}
use Rattle.std.specs.Option.{option_map}
use Rattle.std.proofs.lemmas.Option.{none-some}
use Rattle.lk_ast.specs.declared.declaration.Program.{Program}
use Rattle.lk_ast.specs.declared.place.Loc.TheVariants.{Client}
use Rattle.lk_ast.specs.declared.table.Row.{Row}
use Rattle.lk_ast.specs.declared.value.Value.{Value}
use Rattle.lk_code.specs.Meaning.{does, language}
use Rattle.lk_code.specs.Parts.{Info}
use Rattle.lk_code.specs.Sound.{AreSound, info_of}
use Rattle.lk_code.specs.Tables.{is_function}
use Rattle.lk_code.specs.TypedLaw.{CallsLaw}
use Rattle.lk_code.specs.declared.infos.FunInfo.{FunInfo}
use Rattle.lk_code.specs.declared.tables.CodeTables.{CodeTables}
use Rattle.lk_evaluation.specs.Evaluation.{eval}
use Rattle.lk_evaluation.specs.Laws.{MatchingOuts}
use Rattle.lk_evaluation.specs.Run.{Out, start}
use Rattle.lk_evaluation.specs.Source as source
use Rattle.lk_ground.specs.Alike.{Alike}
use Rattle.lk_ground.specs.Language as ground
use Rattle.lk_ground.specs.Language.{function_of, instance}
use Rattle.lk_ground.specs.Law.{AreInstances}
use Rattle.lk_ground.specs.declared.program.GroundFun.{GroundFun}
use Rattle.lk_ground.specs.declared.program.GroundProgram.{GroundProgram}
use Rattle.lk_infer.specs.declared.typed.Typed.{Typed}
use Rattle.lk_ir.specs.Environments.{Env, bind_each, no_names}
use Rattle.lk_ir.specs.Law.{ContinuesLaw}
use Rattle.lk_ir.specs.LetNormal.{kept_by, let_normal, main_point, under}
use Rattle.lk_ir.specs.Tables.{body_at, body_of}
use Rattle.lk_ir.specs.declared.nodes.Body.{Body}
use Rattle.lk_ir.specs.declared.nodes.Forms.{Forms}
use Rattle.lk_lower.specs.Lowering as low
use Rattle.lk_lower.specs.Lowering.{AreForms, AreFuns, AreLocals}
use Rattle.lk_lowered.specs.Law.{EntersLaw, IsTableOf, SessionsLaw}
use Rattle.lk_mono.proofs.Keeping.{instances_lemma}
use Rattle.lk_operators.specs.Values.{text}
use Rattle.lk_places.specs.Law.{AreMarksApart}
use Rattle.lk_types.proofs.Parts.{same_some}
use Rattle.lk_ground.specs.UsesApart.{AreUsesApart}
use Rattle.lk_index.specs.Places.{ArePlaced}
use Rattle.lk_compile.specs.Accepted.{IsGround}
use Rattle.lk_compile.specs.Compiled.{AreTablesOf, IsLowered}
use Rattle.lk_compile.specs.Sessions.{ArePlacesApart, DoesAsCalled, HasSessions, code_session}

-- ---- the body of label 1

-- it keeps nothing
record IsMainBody (f : Forms) : Type 0 where
  body : Body
  is : body_at f 1 ≡ Some body
  names : body.names ≡ []

no_locals : (f : Forms) (ks : List ℕ) → AreLocals f ks [] → ks ≡ []
no_locals f [] are = refl
no_locals f (k ∷ ks) are = absurd are

main_body : (f : Forms) (funs : List GroundFun) → AreFuns f 0 funs 1 0 → (main : GroundFun) → slice_get funs 0 ≡ Some main → IsMainBody f
main_body f _ (low.no_fun wholes titles labels nodes) main at = absurd (none-some main at)
main_body f _ (low.one_fun body after ty whole titled type_is of lowered others) main at =
    record { body = body; is = ap body_of of.is ∙ of.body_is; names = no_locals f body.names of.names_are }

-- ---- sessions

module _ (calls : CallsLaw) (continues : ContinuesLaw) (sessions : SessionsLaw) (g : GroundProgram) (c : CodeTables) (sound : AreSound c) (forms : AreForms g c.forms) where
  same_session : IsTableOf g c.forms → (main : GroundFun) → instance g 0 ≡ Some main → (arg : List ℕ) (fuel : ℕ) (answers : List (List Row)) → code_session c arg fuel answers ≡ ground.session g (function_of main) arg (start fuel answers)
  same_session table main at arg fuel answers =
      let own = main_body c.forms g.funs forms.funs main at in
      let b = own.body in
      let info = sound.main in
      let function : is_function info.0.kind ≡ true = ap is_function info.2.kind in
      let called = calls c 1 info.0 b info.1 function own.is [] (text arg ∷ []) (ap length own.names) Client (start fuel answers) in
      let bound = ap (λ xs. eval (language c) (under (bind_each (bind_each no_names xs []) b.params (text arg ∷ [])) b.root) Client (start fuel answers)) own.names in
      let goes_on = continues c.forms c.conts sound.named b.root (bind_each no_names b.params (text arg ∷ [])) Client (start fuel answers) in
      sym called ∙ bound ∙ goes_on ∙ sym (sessions g c.forms table main at b own.is arg fuel answers)

-- ---- calls

-- an instance has no names for what is kept, so whatever a function value keeps is bound to the same
kept_same : (node : Option ℕ) (names : List ℕ) (env : List Value) → (node ≡ None → names ≡ []) → bind_each no_names names (kept_by node env) ≡ bind_each no_names names env
kept_same (Some n) names env none = refl
kept_same None names env none = ap (λ xs. bind_each no_names xs []) (none refl) ∙ sym (ap (λ xs. bind_each no_names xs env) (none refl))

module _ (calls : CallsLaw) (continues : ContinuesLaw) (enters : EntersLaw) (g : GroundProgram) (c : CodeTables) (sound : AreSound c) (table : IsTableOf g c.forms) where
  does_as_called : DoesAsCalled g c
  does_as_called i callee is args mark point to =
      let entered = enters g c.forms table to.at callee args mark to.called to.passed point to.goes in
      let b = entered.body in
      let there : body_at c.forms callee.site ≡ Some b = ap body_of entered.label_is ∙ entered.body_is in
      let typed = sound.forms.bodies callee.site b there in
      let told = sound.bodies callee.site b there in
      let long : length b.names ≡ length callee.env = typed.names_long ∙ ap (λ (j : Info). length j.env) (same_some (sym typed.is ∙ ap (option_map info_of) is.told)) ∙ sym is.keeps in
      let kept = kept_same entered.label.node b.names callee.env (λ none. sound.forms.tops callee.site entered.label b entered.label_is none entered.body_is) in
      let bound : Env = bind_each (bind_each no_names b.names callee.env) b.params args in
      record {
        mark_is = ap (λ (j : FunInfo). j.place) (same_some (sym is.told ∙ told.1)) ∙ sym told.3 ∙ entered.place;
        same = λ place r.
            sym (calls c callee.site i b is.told is.function there callee.env args long place r)
            ∙ continues c.forms c.conts sound.named b.root bound place r
            ∙ sym (entered.same place r ∙ ap (λ names. eval (let_normal c.forms) (under (bind_each names b.params args) b.root) place r) kept);
      }

-- ---- programs

module _ (p : Program) (typed : Typed) (g : GroundProgram) (is : IsGround p typed g) where
  are_instances : AreUsesApart p → AreInstances g
  are_instances apart = instances_lemma g p typed.schemes typed.types is.grounded.mains is.grounded.helpers is.grounded.program is.grounded.funs is.grounded.instances.main_bodies apart

  pub is_table : (f : Forms) → AreForms g f → ArePlacesApart p → IsTableOf g f
  is_table f forms apart = record {
    forms = forms;
    instances = are_instances apart.uses;
    placed = subst ArePlaced (sym is.grounded.program) apart.placed;
    uses = subst AreUsesApart (sym is.grounded.program) apart.uses;
    marks = subst AreMarksApart (sym is.grounded.program) apart.marks;
  }

  pub is_lowered : SessionsLaw → EntersLaw → (f : Forms) → AreForms g f → IsLowered p g f
  is_lowered sessions enters f forms = record {
    forms = forms;
    sessions = λ apart. sessions g f (is_table f forms apart);
    calls = λ apart. enters g f (is_table f forms apart);
  }

  pub has_sessions : CallsLaw → ContinuesLaw → SessionsLaw → EntersLaw → (c : CodeTables) → AreSound c → AreTablesOf g c → HasSessions p g c
  has_sessions calls continues sessions enters c sound of =
      let forms : AreForms g c.forms = subst (AreForms g) (sym of.numbers.forms) of.forms in
      let main = is.keeps.0 in
      let same : ArePlacesApart p → (arg : List ℕ) (fuel : ℕ) (answers : List (List Row)) → code_session c arg fuel answers ≡ ground.session g (function_of main) arg (start fuel answers)
      = λ apart. same_session calls continues sessions g c sound forms (is_table c.forms forms apart) main is.keeps.1.0 in
      record {
        main = main;
        is_main = is.keeps.1;
        same = same;
        keeps = λ apart arg fuel answers. subst (λ (out : Out Value). MatchingOuts (Alike g) Value Value (Alike g) out (source.session p (function_of main) arg (start fuel answers))) (sym (same apart arg fuel answers)) (is.keeps.2 apart.placed apart.uses arg fuel answers);
        calls = λ apart. does_as_called calls continues enters g c sound (is_table c.forms forms apart);
      }
