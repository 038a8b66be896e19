-- What a client does next keeps where its session stands.
use Rattle.std.proofs.Common.{◌≡◌, ℕ, ◌+◌, List, ◌∷◌, refl, sym, ap, ◌∙◌, arith, append-nil}
use Rattle.std.specs.Prelude.{None}
use Rattle.lk_ast.specs.declared.event.Event.TheVariants.{Enter}
use Rattle.lk_ast.specs.declared.place.Loc.TheVariants.{Client, Server}
use Rattle.lk_ast.specs.declared.value.Value.{Value}
use Rattle.lk_evaluation.specs.Evaluation.{call_from, client_call}
use Rattle.lk_evaluation.specs.Run.{Called, Goes, Out, Returned, Run, Stops, and_then, logs, step}
use Rattle.lk_moves.specs.Courses.{Takes, after, before, one_step}
use Rattle.lk_moves.specs.Meaning.{Meaning}
use Rattle.lk_course.specs.Laws.{ClientLaw}
use Rattle.lk_course.specs.Standing.{Asks, Calls, Kept, Resumes, enters, here, kept_rest, leaves, replied, visited, waiting}

pub then_then : {A B C : Type 0} (out : Out A) (f : A → Run → Out B) (g : B → Run → Out C) → and_then (and_then out f) g ≡ and_then out (λ a r. and_then (f a r) g)
then_then (Goes a r) f g = refl
then_then (Stops stop r) f g = refl

pub stepped : (r : Run) → step (before one_step r) ≡ after one_step r
stepped r =
    let fuel : 0 + r.fuel ≡ r.fuel = omega arith in
    ap (λ n. record r { fuel = n; steps = r.steps + 1 }) fuel ∙ ap (λ log. record r { steps = r.steps + 1; log = log }) (sym (append-nil r.log))

module _ {Frame : Type 0} (m : Meaning Frame) where
  calls : (ks : List (Kept Frame)) (own : List Frame) (label : ℕ) (args : List Value)
      → Takes (here m ks (λ r. and_then (call_from Client Server (m.callee label args) (m.passed label args) (m.does label args) r) (m.rest own Client))) one_step (waiting m ks own (visited m (Calls label args)))
  calls ks own label args r =
      then_then (and_then (m.does label args Server (logs Enter (Called (m.callee label args) (m.passed label args)) (step (before one_step r)))) leaves) (m.rest own Client) (kept_rest m ks)
      ∙ ap (waiting m ks own (visited m (Calls label args))) (stepped r)

  answers : (ks : List (Kept Frame)) (k : Kept Frame) (v : Value) → Takes (here m (k ∷ ks) (Goes v)) one_step (waiting m ks k.client (visited m (Resumes k.server v)))
  answers ks k v r = ap shown (stepped r) ∙ sym (then_then (m.rest k.server Server v (logs Enter (Returned v) (after one_step r))) leaves (λ x q. and_then (m.rest k.client Client x q) (kept_rest m ks)))
    where
      shown : Run → Out Value
      shown s = and_then (m.rest k.server Server v (logs Enter (Returned v) s)) (λ u t. and_then (leaves u t) (λ x q. and_then (m.rest k.client Client x q) (kept_rest m ks)))

  call_comes : (ks : List (Kept Frame)) (own frames : List Frame) (label : ℕ) (args : List Value) (r : Run) → r.returns ≡ None
      → waiting m ks own (replied m (Asks label args frames)) r ≡ here m (record { server = frames; client = own } ∷ ks) (m.does label args Client) r
  call_comes ks own frames label args r whole =
      ap (λ returns. and_then (and_then (client_call returns (m.callee label args) (m.passed label args) (m.does label args Client) r) (λ v s. and_then (m.rest frames Server v s) leaves)) last) whole
      ∙ then_then (and_then (m.does label args Client r) enters) (λ v s. and_then (m.rest frames Server v s) leaves) last
      ∙ then_then (m.does label args Client r) enters (λ v s. and_then (and_then (m.rest frames Server v s) leaves) last)
      ∙ under (m.does label args Client r)
    where
      last : Value → Run → Out Value
      last v s = and_then (m.rest own Client v s) (kept_rest m ks)

      under : (out : Out Value) → and_then out (λ v s. and_then (enters v s) (λ w t. and_then (and_then (m.rest frames Server w t) leaves) last)) ≡ and_then out (kept_rest m (record { server = frames; client = own } ∷ ks))
      under (Goes v s) = then_then (m.rest frames Server v (logs Enter (Returned v) (step s))) leaves last
      under (Stops stop s) = refl

  pub client_law : ClientLaw m
  client_law = record {
    goes = λ ks now next c takes r. ap (λ out. and_then out (kept_rest m ks)) (takes r);
    calls = calls;
    answers = answers;
    ends = λ v r. refl;
    traps = λ ks trap r. refl;
    visits = λ ks own q c e takes r. ap (λ out. and_then out (λ v s. and_then (m.rest own Client v s) (kept_rest m ks))) (takes r);
    value_comes = λ ks own v r. refl;
    call_comes = call_comes;
    trap_comes = λ ks own trap r. refl;
  }
