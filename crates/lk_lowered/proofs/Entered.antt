-- A call of a function value goes, in a ground program, to what the body of its label is in the table.
use Rattle.std.proofs.Common.{◌≡◌, refl, sym, subst, ◌==◌, Bool, true, false, List, length, Option, Some, None}
use Rattle.std.proofs.lemmas.Bool.{eqb-true}
use Rattle.lk_ast.specs.declared.place.Loc.{Loc}
use Rattle.lk_ast.specs.declared.place.Span.{Span}
use Rattle.lk_ast.specs.declared.value.FunValue.{FunValue}
use Rattle.lk_ast.specs.declared.value.Value.{Value}
use Rattle.lk_evaluation.proofs.Same.{same}
use Rattle.lk_evaluation.specs.Evaluation.{Act, Goto}
use Rattle.lk_evaluation.specs.Laws.{MatchingActs}
use Rattle.lk_ground.specs.Language as language
use Rattle.lk_ground.specs.Language.{ground}
use Rattle.lk_ground.specs.declared.program.GroundProgram.{GroundProgram}
use Rattle.lk_ir.specs.LetNormal as forms
use Rattle.lk_ir.specs.LetNormal.{kept_by, let_normal}
use Rattle.lk_ir.specs.Tables.{label_at}
use Rattle.lk_ir.specs.declared.nodes.Body.{Body}
use Rattle.lk_ir.specs.declared.nodes.Forms.{Forms}
use Rattle.lk_ir.specs.declared.nodes.LabelForm.{LabelForm}
use Rattle.lk_lower.specs.Lowering.{AreForms}
use Rattle.lk_lowered.proofs.Lowers.{AreApartThere, calls_meet, lowers}
use Rattle.lk_lowered.specs.Law.{IsEntered, entered_point}
use Rattle.lk_lowered.specs.Meeting.{Meets}
use Rattle.lk_moves.proofs.Equal.{outs_same, run_itself}
use Rattle.lk_moves.specs.Laws.{Equal}

module _ (g : GroundProgram) (f : Forms) (of : AreForms g f) (apart : AreApartThere g) where
  module _ (at : Span) (callee : FunValue) (args : List Value) (mark : Loc) (called : FunValue) (passed : List Value) (point : language.Point) where
    -- where the ground program goes to the point, the table does this
    abbrev Matches : Act forms.Point → Type 0
    Matches act = MatchingActs (Meets g f) Equal (Goto mark called passed point) act

    -- it has a body with as many parameters, or there would be no rule
    with_count : (l : LabelForm) → label_at f callee.site ≡ Some l → (b : Body) → l.body ≡ Some b → (t : Bool) → (length b.params == length args) ≡ t
        → Matches (forms.body_entered t at callee.site (kept_by l.node callee.env) args b) → IsEntered g f callee args mark point
    with_count l there b has false other matching = absurd matching
    with_count l there b has true long matching = record {
      label = l;
      label_is = there;
      body = b;
      body_is = has;
      place = sym matching.0;
      params = eqb-true (length b.params) (length args) long;
      same = λ place r. outs_same _ _ (same (ground g) (let_normal f) (Meets g f) Equal (lowers g f of apart) point (entered_point l b callee.env args) place r r matching.3 (run_itself r));
    }

    with_body : (l : LabelForm) → label_at f callee.site ≡ Some l → (o : Option Body) → l.body ≡ o → Matches (forms.entered at callee.site (kept_by l.node callee.env) args o) → IsEntered g f callee args mark point
    with_body l there None has matching = absurd matching
    with_body l there (Some b) has matching = with_count l there b has (length b.params == length args) refl matching

    with_label : (o : Option LabelForm) → label_at f callee.site ≡ o → Matches (forms.entered_as at callee args o) → IsEntered g f callee args mark point
    with_label None there matching = absurd matching
    with_label (Some l) there matching = with_body l there l.body refl matching

    pub enters : language.call_labelled g at callee args (language.labelled g callee.site) ≡ Goto mark called passed point → IsEntered g f callee args mark point
    enters goes =
        with_label (label_at f callee.site) refl (subst (λ act. MatchingActs (Meets g f) Equal act (forms.entered_as at callee args (label_at f callee.site))) goes (calls_meet g f of apart at callee args))
