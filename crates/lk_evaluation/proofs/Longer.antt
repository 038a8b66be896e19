-- More fuel, answers or returns only lengthen the log of an evaluation that hasn't ended.
use Rattle.std.proofs.Common.{◌≡◌, ℕ, zero, suc, ◌+◌, ◌≤◌, List, [], ◌∷◌, ◌++◌, refl, sym, ap, subst, arith}
use Rattle.std.specs.Prelude.{Option, Some, None}
use Rattle.lk_ast.specs.declared.event.Event.TheVariants.{Enter, Leave}
use Rattle.lk_ast.specs.declared.place.Loc.{Loc}
use Rattle.lk_ast.specs.declared.table.Row.{Row}
use Rattle.lk_ast.specs.declared.value.Value.{Value}
use Rattle.lk_evaluation.specs.Evaluation.{Language, client_call, reading, node, eval_to, eval}
use Rattle.lk_evaluation.specs.Laws.{run_of, Extends, with_returns, richer, IsRicher}
use Rattle.lk_evaluation.specs.Run.{Run, Entry, Out, Goes, Stops, Spent, Waiting, Trapped, Stuck, Asked, Callee, Called, Returned, and_then, step, logs, enter_with}
use Rattle.lk_evaluation.proofs.Fixpoint.{one_level}
use Rattle.lk_evaluation.proofs.Grows.{extends_itself, extends_later, then_extends, reading_extends, call_extends, enter_extends}
use Rattle.lk_evaluation.proofs.Walk.{Walk, Keeps, node_walks}

-- Both runs together, or, where the poorer one has stopped, the richer one alone past a log.
abbrev Runs : ℕ → List (List Row) → List Value → Option (List Entry) → Run → Run → Type 0
Runs fuel answers returns None r s = s ≡ richer fuel answers returns r
Runs fuel answers returns (Some log) r s = Extends log s.log

abbrev Outs : ℕ → List (List Row) → List Value → Option (List Entry) → (A : Type 0) → Out A → Out A → Type 0
Outs fuel answers returns None A o p = IsRicher fuel answers returns A o p
Outs fuel answers returns (Some log) A o p = Extends log (run_of p).log

module _ (fuel : ℕ) (answers : List (List Row)) (returns : List Value) where
  -- what the relations say at this wealth
  abbrev R : Option (List Entry) → Run → Run → Type 0
  R = Runs fuel answers returns

  abbrev O : Option (List Entry) → (A : Type 0) → Out A → Out A → Type 0
  O = Outs fuel answers returns

  abbrev rich : Run → Run
  rich = richer fuel answers returns

  abbrev IsRich : (A : Type 0) → Out A → Out A → Type 0
  IsRich = IsRicher fuel answers returns

  alone : (log : List Entry) (A B : Type 0) (p : Out A) (j k : A → Run → Out B) → Extends log (run_of p).log → ((i : Option (List Entry)) (a : A) (r s : Run) → R i r s → O i B (j a r) (k a s)) → Extends log (run_of (and_then p k)).log
  alone log A B p j k e jk = then_extends log p k e (λ a s h. jk (Some log) a s s h)

  then_richer : (i : Option (List Entry)) (A B : Type 0) (o p : Out A) (j k : A → Run → Out B) → O i A o p → ((n : Option (List Entry)) (a : A) (r s : Run) → R n r s → O n B (j a r) (k a s)) → O i B (and_then o j) (and_then p k)
  then_richer (Some log) A B o p j k e jk = alone log A B p j k e jk
  then_richer None A B (Goes a r) p j k e jk = subst (λ q. IsRich B (j a r) (and_then q k)) (sym e) (jk None a r _ refl)
  then_richer None A B (Stops (Trapped t) r) p j k e jk = ap (λ q. and_then q k) e
  then_richer None A B (Stops (Stuck at) r) p j k e jk = ap (λ q. and_then q k) e
  then_richer None A B (Stops Spent r) p j k e jk = alone r.log A B p j k e jk
  then_richer None A B (Stops (Waiting site args) r) p j k e jk = alone r.log A B p j k e jk
  then_richer None A B (Stops (Asked c args) r) p j k e jk = alone r.log A B p j k e jk

  reads_richer : (site : ℕ) (args : List Value) (own : List (List Row)) (r : Run) → IsRich Value (reading site args own r) (reading site args (own ++ answers) (rich r))
  reads_richer site args [] r = reading_extends r.log site args answers (rich r) (extends_itself r.log)
  reads_richer site args (answer ∷ later) r = refl

  call_richer : (own : Option (List Value)) (c : Callee) (args : List Value) (b k : Run → Out Value) (r : Run) → ((i : Option (List Entry)) (r s : Run) → R i r s → O i Value (b r) (k s))
      → IsRich Value (client_call own c args b r) (client_call (with_returns returns own) c args k (rich r))
  call_richer None c args b k r bk =
      then_richer None Value Value (b r) (k (rich r)) _ _ (bk None r _ refl)
      (λ n v t u. elim n as (λ i. R i t u → O i Value (Goes v (logs Enter (Returned v) (step t))) (Goes v (logs Enter (Returned v) (step u))))
      [ None ↦ λ e. ap (λ x. Goes v (logs Enter (Returned v) (step x))) e | Some log ↦ λ e. extends_later log _ u.log e ])
  call_richer (Some []) c args b k r bk = call_extends r.log (Some returns) c args k (λ t e. bk (Some r.log) t t e) (rich r) (extends_itself r.log)
  call_richer (Some (v ∷ later)) c args b k r bk = refl

  walk : Walk (Option (List Entry)) R O
  walk = record {
    goes = λ i A a r s. elim i as (λ n. R n r s → O n A (Goes a r) (Goes a s)) [ None ↦ λ e. ap (Goes a) e | Some log ↦ λ e. e ];
    fails = λ i t r s. elim i as (λ n. R n r s → O n Value (Stops (Trapped t) r) (Stops (Trapped t) s)) [ None ↦ λ e. ap (Stops (Trapped t)) e | Some log ↦ λ e. e ];
    lacks = λ i t r s. elim i as (λ n. R n r s → O n Value (Stops (Stuck t) r) (Stops (Stuck t) s)) [ None ↦ λ e. ap (Stops (Stuck t)) e | Some log ↦ λ e. e ];
    steps = λ i r s. elim i as (λ n. R n r s → R n (step r) (step s)) [ None ↦ λ e. ap step e | Some log ↦ λ e. e ];
    logged = λ i v c r s. elim i as (λ n. R n r s → R n (logs v c r) (logs v c s)) [ None ↦ λ e. ap (logs v c) e | Some log ↦ λ e. extends_later log _ s.log e ];
    reads = λ i site args r s. elim i as (λ n. R n r s → O n Value (reading site args r.answers r) (reading site args s.answers s)) [
      | None ↦ λ e. subst (λ x. IsRich Value (reading site args r.answers r) (reading site args x.answers x)) (sym e) (reads_richer site args r.answers r)
      | Some log ↦ λ e. reading_extends log site args s.answers s e
    ];
    calls = λ i c args b k bk r s. elim i as (λ n. R n r s → O n Value (client_call r.returns c args b (logs Leave (Called c args) (step r))) (client_call s.returns c args k (logs Leave (Called c args) (step s)))) [
      | None ↦ λ e. subst (λ x. IsRich Value (client_call r.returns c args b (logs Leave (Called c args) (step r))) (client_call x.returns c args k (logs Leave (Called c args) (step x)))) (sym e)
          (call_richer r.returns c args b k (logs Leave (Called c args) (step r)) bk)
      | Some log ↦ λ e. call_extends log s.returns c args k (λ t h. bk (Some log) t t h) (logs Leave (Called c args) (step s)) (extends_later log _ s.log e)
    ];
    then = then_richer;
  }

  -- entering with more fuel
  enter_richer : (own : ℕ) (r : Run) (j k : Run → Out Value) → ((t : Run) → IsRich Value (j t) (k (rich t))) → Extends r.log (run_of (enter_with (own + fuel) (rich r) k)).log
      → IsRich Value (enter_with own r j) (enter_with (own + fuel) (rich r) k)
  enter_richer zero r j k jk past = past
  enter_richer (suc n) r j k jk past =
      let e : suc n + fuel ≡ suc (n + fuel) = omega arith in
      subst (λ f. IsRich Value (j (record r { fuel = n; steps = r.steps + 1 })) (enter_with f (rich r) k)) (sym e) (jk (record r { fuel = n; steps = r.steps + 1 }))

  module _ (l : Language) where
    nothing : (e : l.Point) (place : Loc) (r : Run) → eval_to zero l e place r ≡ Stops Spent r
    unfolding eval_to
    nothing e place r = refl

    -- both evaluations at once, the richer one at no lesser depth
    richer_to : (c d : ℕ) → d ≤ c → Keeps l (Option (List Entry)) R O (eval_to d l) (eval_to c l)
    richer_to zero d le (Some log) e place r s h = subst (λ o. Extends log (run_of o).log) (sym (nothing e place s)) h
    richer_to zero d le None e place r s h =
        subst (λ n. IsRich Value (eval_to n l e place r) (eval_to zero l e place s)) none
        (subst (λ o. IsRich Value o (eval_to zero l e place s)) (sym (nothing e place r))
        (subst (λ o. Extends r.log (run_of o).log) (sym (nothing e place s)) (subst (λ q. Extends r.log q.log) (sym h) (extends_itself r.log))))
      where
        none : zero ≡ d
        none = omega arith
    richer_to (suc c) d le (Some log) e place r s h =
        subst (λ o. Extends log (run_of o).log) (sym (one_level l c e place s))
        (enter_extends log s.fuel s (node l (eval_to c l) e place) h
        (λ t g. node_walks l (Option (List Entry)) R O walk (eval_to zero l) (eval_to c l) (richer_to c zero (omega arith)) (Some log) e place t t g))
    richer_to (suc c) zero le None e place r s h =
        subst (λ o. IsRich Value o (eval_to (suc c) l e place s)) (sym (nothing e place r))
        (subst (λ o. Extends r.log (run_of o).log) (sym (one_level l c e place s))
        (enter_extends r.log s.fuel s (node l (eval_to c l) e place) (subst (λ q. Extends r.log q.log) (sym h) (extends_itself r.log))
        (λ t g. node_walks l (Option (List Entry)) R O walk (eval_to zero l) (eval_to c l) (richer_to c zero (omega arith)) (Some r.log) e place t t g)))
    richer_to (suc c) (suc d) le None e place r s h =
        subst (λ o. IsRich Value o (eval_to (suc c) l e place s)) (sym (one_level l d e place r))
        (subst (λ q. IsRich Value (enter_with r.fuel r (node l (eval_to d l) e place)) (eval_to (suc c) l e place q)) (sym h)
        (subst (λ o. IsRich Value (enter_with r.fuel r (node l (eval_to d l) e place)) o) (sym (one_level l c e place (rich r)))
        (enter_richer r.fuel r (node l (eval_to d l) e place) (node l (eval_to c l) e place)
        (λ t. node_walks l (Option (List Entry)) R O walk (eval_to d l) (eval_to c l) (richer_to c d (omega arith)) None e place t (rich t) refl)
        (enter_extends r.log (r.fuel + fuel) (rich r) (node l (eval_to c l) e place) (extends_itself r.log)
        (λ t g. node_walks l (Option (List Entry)) R O walk (eval_to d l) (eval_to c l) (richer_to c d (omega arith)) (Some r.log) e place t t g)))))

-- with more fuel, answers and returns: the same end, or a longer log
pub longer : (l : Language) (e : l.Point) (place : Loc) (r : Run) (fuel : ℕ) (answers : List (List Row)) (returns : List Value)
    → IsRicher fuel answers returns Value (eval l e place r) (eval l e place (richer fuel answers returns r))
longer l e place r fuel answers returns = richer_to fuel answers returns l (r.fuel + fuel) r.fuel (omega arith) None e place r (richer fuel answers returns r) refl
