-- The log only grows.
use Rattle.std.proofs.Common.{ℕ, zero, suc, ◌+◌, List, [], ◌∷◌, ◌++◌, sym, ◌∙◌, ap, append_assoc, append-nil}
use Rattle.std.specs.Prelude.{Option, Some, None}
use Rattle.lk_ast.specs.declared.event.Event.TheVariants.{Leave}
use Rattle.lk_ast.specs.declared.place.Loc.{Loc}
use Rattle.lk_ast.specs.declared.table.Row.{Row}
use Rattle.lk_ast.specs.declared.value.Value.{Value}
use Rattle.lk_evaluation.specs.Evaluation.{Language, client_call, reading, node, eval_to, eval}
use Rattle.lk_evaluation.specs.Laws.{run_of, Extends}
use Rattle.lk_evaluation.specs.Run.{Run, Entry, Out, Goes, Stops, and_then, step, logs, enter_with, Callee, Called}
use Rattle.lk_evaluation.proofs.Walk.{Walk, node_walks}

-- the log of a run, and of an outcome, begins with `log`
abbrev pub Runs : List Entry → Run → Run → Type 0
Runs log r s = Extends log s.log

abbrev pub Outs : List Entry → (A : Type 0) → Out A → Out A → Type 0
Outs log A o p = Extends log (run_of p).log

pub extends_itself : (log : List Entry) → Extends log log
extends_itself log = ([], sym (append-nil log))

pub extends_later : (log : List Entry) (entry : Entry) (now : List Entry) → Extends log now → Extends log (now ++ entry ∷ [])
extends_later log entry now (more, e) = (more ++ entry ∷ [], ap (λ q. q ++ entry ∷ []) e ∙ append_assoc log more (entry ∷ []))

pub then_extends : (log : List Entry) {A B : Type 0} (p : Out A) (k : A → Run → Out B) → Extends log (run_of p).log → ((a : A) (s : Run) → Extends log s.log → Extends log (run_of (k a s)).log) → Extends log (run_of (and_then p k)).log
then_extends log (Goes a s) k e kk = kk a s e
then_extends log (Stops t s) k e kk = e

pub reading_extends : (log : List Entry) (site : ℕ) (args : List Value) (answers : List (List Row)) (s : Run) → Extends log s.log → Extends log (run_of (reading site args answers s)).log
reading_extends log site args [] s e = e
reading_extends log site args (answer ∷ later) s e = extends_later log _ s.log e

pub call_extends : (log : List Entry) (returns : Option (List Value)) (c : Callee) (args : List Value) (k : Run → Out Value) → ((s : Run) → Extends log s.log → Extends log (run_of (k s)).log) → (s : Run) → Extends log s.log → Extends log (run_of (client_call returns c args k s)).log
call_extends log None c args k kk s e = then_extends log (k s) _ (kk s e) (λ v t h. extends_later log _ t.log h)
call_extends log (Some []) c args k kk s e = e
call_extends log (Some (v ∷ later)) c args k kk s e = extends_later log _ s.log e

pub enter_extends : (log : List Entry) (fuel : ℕ) (s : Run) (k : Run → Out Value) → Extends log s.log → ((t : Run) → Extends log t.log → Extends log (run_of (k t)).log) → Extends log (run_of (enter_with fuel s k)).log
enter_extends log zero s k e kk = e
enter_extends log (suc n) s k e kk = kk (record s { fuel = n; steps = s.steps + 1 }) e

pub walk : Walk (List Entry) Runs Outs
walk = record {
  goes = λ log A a r s e. e;
  fails = λ log t r s e. e;
  lacks = λ log t r s e. e;
  steps = λ log r s e. e;
  logged = λ log event what r s e. extends_later log _ s.log e;
  reads = λ log site args r s e. reading_extends log site args s.answers s e;
  calls = λ log c args b k bk r s e. call_extends log s.returns c args k (λ t h. bk log t t h) (logs Leave (Called c args) (step s)) (extends_later log _ s.log e);
  then = λ log A B o p j k e jk. then_extends log p k e (λ a s h. jk log a s s h);
}

module _ (l : Language) where
  pub grows_to : (d : ℕ) (log : List Entry) (e : l.Point) (place : Loc) (r s : Run) → Runs log r s → Outs log Value (eval_to d l e place r) (eval_to d l e place s)
  unfolding eval_to
  grows_to zero log e place r s h = h
  grows_to (suc d) log e place r s h = enter_extends log s.fuel s (node l (eval_to d l) e place) h (λ t g. node_walks l (List Entry) Runs Outs walk (eval_to d l) (eval_to d l) (grows_to d) log e place t t g)

  -- an evaluation only adds to its log
  pub grows : (e : l.Point) (place : Loc) (r : Run) → Extends r.log (run_of (eval l e place r)).log
  grows e place r = grows_to r.fuel r.log e place r r (extends_itself r.log)
