-- What happens in a run, and outcomes one after another.
use Rattle.std.proofs.Common.{◌≡◌, sym, ◌∙◌, ap, subst, List, [], ◌∷◌, ◌++◌, append_assoc, append-nil}
use Rattle.std.specs.Prelude.{Bool, true, false, None}
use Rattle.lk_ast.specs.declared.declaration.Program.{Program}
use Rattle.lk_ast.specs.declared.event.Event.{Event}
use Rattle.lk_evaluation.specs.Evaluation.{handed}
use Rattle.lk_evaluation.specs.Run.{Run, Entry, Out, Goes, Stops, and_then, step, logs, Crossing}
use Rattle.lk_evaluation.specs.Laws.{run_of, Extends}
use Rattle.lk_types.proofs.Members.{each_front, each_back, each_both}
use Rattle.lk_types.specs.Each.{Each}
use Rattle.lk_types.specs.Rows.{EffectSet}
use Rattle.lk_sound.specs.Instances.{Instances}
use Rattle.lk_sound.specs.Law.{AreAnswered}
use Rattle.lk_sound.specs.Outcomes.{Allows, Happens, IsOutcome}
use Rattle.lk_sound.specs.Tables.{IsAnswered}

-- nothing yet
pub after_itself : (p : Program) (i : Instances) (effects : EffectSet) (r : Run) → r.returns ≡ None → Happens p i effects r r
after_itself p i effects r whole = record { whole = whole; more = []; log = sym (append-nil r.log); allowed = tt }

pub happens_after : (p : Program) (i : Instances) (effects : EffectSet) (before r s : Run) → Happens p i effects before r → Happens p i effects r s → Happens p i effects before s
happens_after p i effects before r s h k = record {
  whole = k.whole;
  more = h.more ++ k.more;
  log = k.log ∙ ap (λ x. x ++ k.more) h.log ∙ append_assoc before.log h.more k.more;
  allowed = each_both (λ (entry : Entry). Allows p i effects entry.event) h.more k.more h.allowed k.allowed;
}

pub stepped : (p : Program) (i : Instances) (effects : EffectSet) (before r : Run) → Happens p i effects before r → Happens p i effects before (step r)
stepped p i effects before r h = record { whole = h.whole; more = h.more; log = h.log; allowed = h.allowed }

-- one event more
pub logged : (p : Program) (i : Instances) (effects : EffectSet) (before : Run) (event : Event) → Allows p i effects event → (crossing : Crossing) (r : Run) → Happens p i effects before r → Happens p i effects before (logs event crossing r)
logged p i effects before event allowed crossing r h =
    let entry : Entry = record { number = r.steps; event = event; crossing = crossing } in
    record {
      whole = h.whole;
      more = h.more ++ entry ∷ [];
      log = ap (λ x. x ++ entry ∷ []) h.log ∙ append_assoc before.log h.more (entry ∷ []);
      allowed = each_both (λ (e : Entry). Allows p i effects e.event) h.more (entry ∷ []) h.allowed (allowed, tt);
    }

-- control passes, with a step
pub passed : (p : Program) (i : Instances) (effects : EffectSet) (before : Run) (event : Event) → Allows p i effects event → (crossing : Crossing) (r : Run) → Happens p i effects before r → Happens p i effects before (logs event crossing (step r))
passed p i effects before event allowed crossing r h = logged p i effects before event allowed crossing (step r) (stepped p i effects before r h)

pub handed_on : (p : Program) (i : Instances) (effects : EffectSet) (before : Run) (plain : Bool) (r : Run) → Happens p i effects before r → Happens p i effects before (handed plain r)
handed_on p i effects before true r h = h
handed_on p i effects before false r h = stepped p i effects before r h

-- an outcome behind what happened before
pub since : {A : Type 0} (p : Program) (i : Instances) (P : A → Type 0) (effects : EffectSet) (before r : Run) → Happens p i effects before r → (out : Out A) → IsOutcome p i effects P r out → IsOutcome p i effects P before out
since p i P effects before r h (Goes a s) (pa, k) = (pa, happens_after p i effects before r s h k)
since p i P effects before r h (Stops stop s) (may, k) = (may, happens_after p i effects before r s h k)

-- ---- answers

-- what comes first was answered where all was: its log is the front of the whole
pub answered_first : (p : Program) (log now : List Entry) → Extends log now → Each (λ (entry : Entry). IsAnswered p entry.event) now → Each (λ (entry : Entry). IsAnswered p entry.event) log
answered_first p log now (more, is) all = each_front (λ (entry : Entry). IsAnswered p entry.event) log more (subst (Each (λ (entry : Entry). IsAnswered p entry.event)) is all)

-- what was done last
pub answered_last : (p : Program) (log : List Entry) (entry : Entry) → Each (λ (entry : Entry). IsAnswered p entry.event) (log ++ entry ∷ []) → IsAnswered p entry.event
answered_last p log entry all = (each_back (λ (entry : Entry). IsAnswered p entry.event) log (entry ∷ []) all).0

-- one after another, where the second only adds to the log
pub then : {A B : Type 0} (p : Program) (i : Instances) (effects : EffectSet) (before : Run) (P : A → Type 0) (Q : B → Type 0) (out : Out A) (next : A → Run → Out B) → ((a : A) (s : Run) → Extends s.log (run_of (next a s)).log)
    → (AreAnswered p out → IsOutcome p i effects P before out)
    → ((a : A) (s : Run) → P a → Happens p i effects before s → AreAnswered p (next a s) → IsOutcome p i effects Q before (next a s)) → AreAnswered p (and_then out next) → IsOutcome p i effects Q before (and_then out next)
then p i effects before P Q (Goes a s) next grows first go answered =
    let outcome : P a × Happens p i effects before s = first (answered_first p s.log (run_of (next a s)).log (grows a s) answered) in
    go a s outcome.0 outcome.1 answered
then p i effects before P Q (Stops stop s) next grows first go answered = first answered
