-- A plain position of a node is entered, and the node goes on behind it.
use Rattle.std.proofs.Common.{◌≡◌, refl, sym, ap, subst, ◌∙◌, ℕ, suc, true, List, [], ◌∷◌, ◌++◌, Option, Some, drop, take, length, length-append, add-one, slice_get}
use Rattle.std.specs.Option.{option_and_then}
use Rattle.lk_ast.specs.declared.place.Loc.{Loc}
use Rattle.lk_ast.specs.declared.value.Value.{Value}
use Rattle.lk_evaluation.specs.Evaluation.{handed}
use Rattle.lk_evaluation.specs.Run.{Run, and_then}
use Rattle.lk_fits.proofs.Fitting.{fit_both}
use Rattle.lk_fits.specs.Values.{none_left, one_more}
use Rattle.lk_ir.specs.Continuing.{conts_at}
use Rattle.lk_ir.specs.Law.{IsSteady}
use Rattle.lk_ir.specs.LetNormal.{act, under}
use Rattle.lk_ir.specs.Operations.{is_plain}
use Rattle.lk_ir.specs.Tables.{form_at}
use Rattle.lk_ir.specs.Uses.{UsedBehind}
use Rattle.lk_ir.specs.declared.nodes.Cont.{Cont}
use Rattle.lk_ir.specs.declared.nodes.Form.{Form}
use Rattle.lk_ir.specs.declared.nodes.Forms.{Forms}
use Rattle.lk_moves.specs.Courses.{Takes, after, before, entering}
use Rattle.lk_moves.specs.Frames.{Part, continued, handed_by, resumed}
use Rattle.lk_types.specs.declared.ground.Ground.{Ground}
use Rattle.lk_code.specs.Acting.{FitNames}
use Rattle.lk_code.specs.Meaning.{language}
use Rattle.lk_code.specs.Told.{node_types}
use Rattle.lk_code.specs.TypedLaw.{IsWhole}
use Rattle.lk_code.specs.Values.{IsFun}
use Rattle.lk_code.specs.declared.tables.CodeTables.{CodeTables}
use Rattle.lk_machine.proofs.Plainly.{IsPlainOf, does_give, plain_point}
use Rattle.lk_machine.proofs.Positions as positions
use Rattle.lk_machine.proofs.Steady.{none_at, none_steady}
use Rattle.lk_machine.specs.Acts.{IsAct}
use Rattle.lk_machine.specs.Typed.{IsNextPlain, IsNodeOf}
use Rattle.lk_machine.specs.declared.act.Act as acts
use Rattle.lk_machine.specs.declared.act.Act.TheVariants as does
use Rattle.lk_machine.specs.declared.state.Held.{Held}

-- the node with one value more
abbrev pub further : Held → Value → Held
further h v = record h { done = h.done ++ v ∷ [] }

same_given : (v w : Value) → does.Give v ≡ does.Give w → v ≡ w
same_given v w same = cc

module _ (c : CodeTables) (whole : IsWhole c) (place : Loc) (h : Held) (next : IsNextPlain c h) (t : Ground) (node : IsNodeOf c place t h) where
  abbrev n : ℕ
  n = length h.done

  abbrev part : ℕ
  part = next.0

  abbrev here : Ground
  here = (positions.s c whole place h part next.1 t node).here

  abbrev conts : List (Option Cont)
  conts = conts_at c.conts h.node

  abbrev pub plain : IsPlainOf c here (under h.scope part)
  plain = plain_point c whole here (under h.scope part) (positions.part_typed c whole place h part next.1 t node) next.2

  longer : length (h.done ++ plain.v ∷ []) ≡ suc n
  longer = length-append h.done (plain.v ∷ []) ∙ add-one n

  further_node : IsNodeOf c place t (further h plain.v)
  further_node = record {
    here = node.here;
    form = node.form;
    there = node.there;
    context = node.context;
    typed = node.typed;
    names = subst (λ m. FitNames (IsFun c) (UsedBehind c.forms node.form (drop m node.form.parts)) node.context h.scope) (sym longer) (positions.names_later c whole place h part next.1 t node);
    held = node.held ++ here ∷ [];
    types = subst (λ m. node_types c.forms (take m node.form.parts) ≡ Some (node.held ++ here ∷ [])) (sym longer) (positions.types_next c whole place h part next.1 t node);
    fit = fit_both (IsFun c) h.done (plain.v ∷ []) node.held (here ∷ []) node.fit (one_more plain.fits none_left);
    steady = subst (λ m. IsSteady (take m conts) h.scope) (sym longer)
        (none_steady conts h.scope n (none_at c.forms node.form node.form.parts conts (positions.kept_all c whole place h part next.1 t node) n part (positions.position_at c whole place h part next.1 t node) next.2) node.steady);
  }

  -- ---- what the machine finds there

  module _ (f : Forms) (same : f ≡ c.forms) (form : Form) (looked : Some form ≡ option_and_then (form_at f) (option_and_then (λ (g : Form). slice_get g.parts n) (form_at f h.node)))
      (a : acts.Act) (acts : is_plain form.kind ≡ true → IsAct f form h.scope a (act f form.at form.kind form.tails h.scope [])) where
    there : form_at c.forms part ≡ Some form
    there = sym (looked
        ∙ ap (λ g. option_and_then (form_at g) (option_and_then (λ (one : Form). slice_get one.parts n) (form_at g h.node))) same
        ∙ ap (λ o. option_and_then (form_at c.forms) (option_and_then (λ (one : Form). slice_get one.parts n) o)) next.1.1
        ∙ ap (option_and_then (form_at c.forms)) next.1.2)

    -- it gives the position's value
    pub gives_value : a ≡ does.Give plain.v
    gives_value = does_give c here (under h.scope part) plain f form h.scope a same (ap (λ g. form_at g part) same ∙ there) refl acts

    module _ (v : Value) (is : a ≡ does.Give v) where
      value_is : plain.v ≡ v
      value_is = same_given plain.v v (sym gives_value ∙ is)

      -- with which the node is one of the type
      pub goes_further : (done : List Value) → done ≡ h.done ++ v ∷ [] → IsNodeOf c place t (record h { done = done })
      goes_further done more = subst (λ values. IsNodeOf c place t (record h { done = values })) (ap (λ w. h.done ++ w ∷ []) value_is ∙ sym more) further_node

      handed_plainly : (r : Run) → continued (language c) (Part (under h.scope h.node) h.done place) v r ≡ resumed (language c) (under h.scope h.node) (h.done ++ v ∷ []) place r
      handed_plainly r =
          ap (λ o. resumed (language c) (under h.scope h.node) (h.done ++ v ∷ []) place (handed_by (language c) o r)) (positions.position_is c whole place h part next.1 t node)
          ∙ ap (λ b. resumed (language c) (under h.scope h.node) (h.done ++ v ∷ []) place (handed b r)) next.2

      -- and what is left of it is behind the entering of the position
      pub enters_part : (done : List Value) → done ≡ h.done ++ v ∷ [] → Takes (resumed (language c) (under h.scope h.node) h.done place) entering (resumed (language c) (under h.scope h.node) done place)
      enters_part done more r =
          positions.waits_there c whole place h part next.1 t node (before entering r)
          ∙ ap (λ out. and_then out (continued (language c) (Part (under h.scope h.node) h.done place))) (plain.takes place r)
          ∙ ap (λ w. continued (language c) (Part (under h.scope h.node) h.done place) w (after entering r)) value_is
          ∙ handed_plainly (after entering r)
          ∙ ap (λ values. resumed (language c) (under h.scope h.node) values place (after entering r)) (sym more)
