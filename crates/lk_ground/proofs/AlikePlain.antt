-- Where no function stands in a value, what stands for it is the value itself. So a ground program has the very events of its
-- program, where no function stands in these.
use Rattle.std.proofs.Common.{◌≡◌, refl, sym, ap, ap₂, ◌∙◌, Bool, true, false, ◌||◌, List, [], ◌∷◌}
use Rattle.std.specs.List.{list_any}
use Rattle.lk_ast.proofs.PlainLevels.{of_fun, of_list, of_fields, of_tag}
use Rattle.lk_ast.specs.Plain.{holds_function}
use Rattle.lk_ast.specs.declared.event.Event.{Event}
use Rattle.lk_ast.specs.declared.event.Event.TheVariants.{Print, Enter, Leave, Read, Write}
use Rattle.lk_ast.specs.declared.event.ReadEvent.{ReadEvent}
use Rattle.lk_ast.specs.declared.event.WriteEvent.{WriteEvent}
use Rattle.lk_ast.specs.declared.value.Field.{Field}
use Rattle.lk_ast.specs.declared.value.FunValue.{FunValue}
use Rattle.lk_ast.specs.declared.value.Value.{Value}
use Rattle.lk_ast.specs.declared.value.Value.TheVariants as value
use Rattle.lk_evaluation.specs.Laws.{Both, MatchingEvents, MatchingEntries, MatchingOuts, run_of}
use Rattle.lk_evaluation.specs.Run.{Entry, Out, Goes, Stops, events_of}
use Rattle.lk_types.specs.Each.{Each}
use Rattle.lk_ground.specs.Alike.{Alike, AllAlike, FieldsAlike, base, list, fields, tag, function, lambda, none, more, no_field, field}
use Rattle.lk_ground.specs.declared.program.GroundProgram.{GroundProgram}
use Rattle.lk_ground.proofs.AlikeNames.{all_of_both}

first_not : (a b : Bool) → (a || b) ≡ false → a ≡ false
first_not false b plain = refl
first_not true b plain = absurd cc

second_not : (a b : Bool) → (a || b) ≡ false → b ≡ false
second_not false b plain = plain
second_not true b plain = absurd cc

-- a function value holds a function
never : (w : Value) (f : FunValue) → w ≡ value.Fun f → holds_function w ≡ false → ⊥
never w f is plain =
    let not : true ≡ false = sym (of_fun f) ∙ ap holds_function (sym is) ∙ plain in
    cc

same_fields : (f g : Field) → f.label ≡ g.label → f.value ≡ g.value → f ≡ g
same_fields f g label held = λ i. record { label = label i; value = held i }

same_readings : (d e : ReadEvent) → d.site ≡ e.site → d.args ≡ e.args → d.answer ≡ e.answer → Read d ≡ Read e
same_readings d e site args answer = λ i. Read (record { site = site i; args = args i; answer = answer i })

same_writings : (d e : WriteEvent) → d.site ≡ e.site → d.args ≡ e.args → Write d ≡ Write e
same_writings d e site args = λ i. Write (record { site = site i; args = args i })

-- no function stands in the arguments of a reading or a writing
abbrev pub HasPlainArgs : Event → Type 0
HasPlainArgs (Print bytes) = Unit {0}
HasPlainArgs Enter = Unit {0}
HasPlainArgs Leave = Unit {0}
HasPlainArgs (Read read) = list_any holds_function read.args ≡ false
HasPlainArgs (Write write) = list_any holds_function write.args ≡ false

module _ (p : GroundProgram) where
  -- ---- values

  mutual
    pub plain_same : (v w : Value) → Alike p v w → holds_function w ≡ false → v ≡ w
    plain_same v w (base b is also) plain = is ∙ sym also
    plain_same v w (list vs ws is also alike) plain = is ∙ ap value.List (plain_all vs ws alike (sym (ap holds_function also ∙ of_list ws) ∙ plain)) ∙ sym also
    plain_same v w (fields fs gs is also alike) plain = is ∙ ap value.Fields (plain_fields fs gs alike (sym (ap holds_function also ∙ of_fields gs) ∙ plain)) ∙ sym also
    plain_same v w (tag t held other is also alike) plain = is ∙ ap (value.Tag t) (plain_same held other alike (sym (ap holds_function also ∙ of_tag t other) ∙ plain)) ∙ sym also
    plain_same v w (function i label f is has there made_by named_by) plain = absurd (never w _ named_by plain)
    plain_same v w (lambda i label site f l env others is has no_name found stands alike made_by named_by) plain = absurd (never w _ named_by plain)

    plain_all : (vs ws : List Value) → AllAlike p vs ws → list_any holds_function ws ≡ false → vs ≡ ws
    plain_all _ _ none plain = refl
    plain_all _ _ (more {v} {w} {values = vs} {others = ws} alike all) plain = ap₂ (λ x xs. x ∷ xs) (plain_same v w alike (first_not _ _ plain)) (plain_all vs ws all (second_not (holds_function w) _ plain))

    plain_fields : (fs gs : List Field) → FieldsAlike p fs gs → list_any (λ (f : Field). holds_function f.value) gs ≡ false → fs ≡ gs
    plain_fields _ _ no_field plain = refl
    plain_fields _ _ (field {f} {g} {fs} {gs} label alike all) plain =
        ap₂ (λ x xs. x ∷ xs) (same_fields f g label (plain_same f.value g.value alike (first_not _ _ plain))) (plain_fields fs gs all (second_not (holds_function g.value) _ plain))

  -- the same of lists that match one by one
  pub plain_lists : (vs ws : List Value) → Both (Alike p) vs ws → list_any holds_function ws ≡ false → vs ≡ ws
  plain_lists vs ws all plain = plain_all vs ws (all_of_both p vs ws all) plain

  -- ---- events

  pub plain_event : (d e : Event) → MatchingEvents (Alike p) d e → HasPlainArgs e → d ≡ e
  plain_event (Print bytes) (Print others) same plain = ap Print same
  plain_event Enter Enter same plain = refl
  plain_event Leave Leave same plain = refl
  plain_event (Read d) (Read e) same plain = same_readings d e same.0 (plain_lists d.args e.args same.1 plain) same.2
  plain_event (Write d) (Write e) same plain = same_writings d e same.0 (plain_lists d.args e.args same.1 plain)
  plain_event _ _ same plain = absurd same

  -- logs that match, the second of which is plain, have the same events
  pub plain_log : (log others : List Entry) → Both (MatchingEntries (Alike p)) log others → Each HasPlainArgs (events_of others) → events_of log ≡ events_of others
  plain_log [] [] all plain = refl
  plain_log [] (e ∷ others) all plain = absurd all
  plain_log (d ∷ log) [] all plain = absurd all
  plain_log (d ∷ log) (e ∷ others) all plain = ap₂ (λ x xs. x ∷ xs) (plain_event d.event e.event all.0.1 plain.0) (plain_log log others all.1 plain.1)

  -- and so have ends that match
  pub plain_events : (A B : Type 0) (R : A → B → Type 0) (out : Out A) (other : Out B) → MatchingOuts (Alike p) A B R out other → Each HasPlainArgs (events_of (run_of other).log) → events_of (run_of out).log ≡ events_of (run_of other).log
  plain_events A B R (Goes a r) (Goes b s) same plain = plain_log r.log s.log same.1.log plain
  plain_events A B R (Stops x r) (Stops y s) same plain = plain_log r.log s.log same.1.log plain
  plain_events A B R (Goes a r) (Stops y s) same plain = absurd same
  plain_events A B R (Stops x r) (Goes b s) same plain = absurd same
