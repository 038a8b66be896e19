-- Where an evaluation starts only shifts the numbers of its entries.
use Rattle.std.proofs.Common.{◌≡◌, ℕ, zero, suc, ◌+◌, List, [], ◌∷◌, ◌++◌, refl, sym, ◌∙◌, ap, arith, append_assoc}
use Rattle.std.specs.Prelude.{Option, Some, None}
use Rattle.lk_ast.specs.Rows.{rows_value}
use Rattle.lk_ast.specs.declared.event.Event.{Event}
use Rattle.lk_ast.specs.declared.event.Event.TheVariants.{Enter, Leave, Read}
use Rattle.lk_ast.specs.declared.place.Loc.{Loc}
use Rattle.lk_ast.specs.declared.table.Row.{Row}
use Rattle.lk_ast.specs.declared.value.Value.{Value}
use Rattle.lk_evaluation.specs.Evaluation.{Language, client_call, reading, node, eval_to, eval}
use Rattle.lk_evaluation.specs.Laws.{moved, shift, shifted}
use Rattle.lk_evaluation.specs.Run.{Run, Entry, Out, Goes, Stops, Trapped, Stuck, Spent, Within, Callee, Crossing, Called, Returned, and_then, step, logs, enter_with}
use Rattle.lk_evaluation.proofs.Walk.{Walk, node_walks}

pub moved-append : (n : ℕ) (l m : List Entry) → moved n (l ++ m) ≡ moved n l ++ moved n m
moved-append n [] m = refl
moved-append n (e ∷ l) m = ap (λ k. record e { number = n + e.number } ∷ k) (moved-append n l m)

module _ (n : ℕ) (log : List Entry) where
  abbrev Runs : Unit {0} → Run → Run → Type 0
  Runs i r s = s ≡ shift n log r

  abbrev Outs : Unit {0} → (A : Type 0) → Out A → Out A → Type 0
  Outs i A o p = p ≡ shifted n log o

  stepped : (r : Run) → step (shift n log r) ≡ shift n log (step r)
  stepped r = let e : (n + r.steps) + 1 ≡ n + (r.steps + 1) = omega arith in ap (λ m. record (shift n log r) { steps = m }) e

  logged : (event : Event) (what : Crossing) (r : Run) → logs event what (shift n log r) ≡ shift n log (logs event what r)
  logged event what r =
      ap (λ m. record (shift n log r) { log = m })
      (append_assoc log (moved n r.log) (record { number = n + r.steps; event = event; crossing = what } ∷ [])
      ∙ ap (λ m. log ++ m) (sym (moved-append n r.log (record { number = r.steps; event = event; crossing = what } ∷ []))))

  then_shifts : (A B : Type 0) (o p : Out A) (j k : A → Run → Out B) → p ≡ shifted n log o → ((i : Unit {0}) (a : A) (r s : Run) → s ≡ shift n log r → k a s ≡ shifted n log (j a r)) → and_then p k ≡ shifted n log (and_then o j)
  then_shifts A B (Goes a r) p j k e jk = ap (λ q. and_then q k) e ∙ jk tt a r (shift n log r) refl
  then_shifts A B (Stops t r) p j k e jk = ap (λ q. and_then q k) e

  reads : (site : ℕ) (args : List Value) (answers : List (List Row)) (r : Run) → reading site args answers (shift n log r) ≡ shifted n log (reading site args answers r)
  reads site args [] r = refl
  reads site args (answer ∷ later) r =
      ap (Goes (rows_value answer)) (logged (Read (record { site = site; args = args; answer = answer })) Within (record r { answers = later }))

  -- the entry and the step that a return takes
  entered : (v : Value) (r : Run) → Goes v (logs Enter (Returned v) (step (shift n log r))) ≡ Goes v (shift n log (logs Enter (Returned v) (step r)))
  entered v r = ap (λ x. Goes v (logs Enter (Returned v) x)) (stepped r) ∙ ap (Goes v) (logged Enter (Returned v) (step r))

  calls : (returns : Option (List Value)) (c : Callee) (args : List Value) (b k : Run → Out Value) → ((i : Unit {0}) (r s : Run) → s ≡ shift n log r → k s ≡ shifted n log (b r)) → (r : Run)
      → client_call returns c args k (shift n log r) ≡ shifted n log (client_call returns c args b r)
  calls None c args b k bk r = then_shifts _ _ (b r) (k (shift n log r)) _ _ (bk tt r _ refl) (λ i v t u h. ap (λ x. Goes v (logs Enter (Returned v) (step x))) h ∙ entered v t)
  calls (Some []) c args b k bk r = refl
  calls (Some (v ∷ later)) c args b k bk r = entered v (record r { returns = Some later })

  walk : Walk (Unit {0}) Runs Outs
  walk = record {
    goes = λ i A a r s h. ap (Goes a) h;
    fails = λ i t r s h. ap (Stops (Trapped t)) h;
    lacks = λ i t r s h. ap (Stops (Stuck t)) h;
    steps = λ i r s h. ap step h ∙ stepped r;
    logged = λ i event what r s h. ap (logs event what) h ∙ logged event what r;
    reads = λ i site args r s h. ap (λ x. reading site args x.answers x) h ∙ reads site args r.answers r;
    calls = λ i c args b k bk r s h.
        ap (λ x. client_call x.returns c args k (logs Leave (Called c args) (step x))) h
        ∙ ap (λ x. client_call r.returns c args k (logs Leave (Called c args) x)) (stepped r)
        ∙ ap (client_call r.returns c args k) (logged Leave (Called c args) (step r))
        ∙ calls r.returns c args b k bk (logs Leave (Called c args) (step r));
    then = λ i. then_shifts;
  }

  enters : (fuel : ℕ) (r : Run) (j k : Run → Out Value) → ((t : Run) → k (shift n log t) ≡ shifted n log (j t)) → enter_with fuel (shift n log r) k ≡ shifted n log (enter_with fuel r j)
  enters zero r j k jk = refl
  enters (suc m) r j k jk = ap k (stepped (record r { fuel = m })) ∙ jk (record r { fuel = m; steps = r.steps + 1 })

  module _ (l : Language) where
    shifts_to : (d : ℕ) (i : Unit {0}) (e : l.Point) (place : Loc) (r s : Run) → Runs i r s → Outs i Value (eval_to d l e place r) (eval_to d l e place s)
    unfolding eval_to
    shifts_to zero i e place r s h = ap (Stops Spent) h
    shifts_to (suc d) i e place r s h =
        ap (λ x. enter_with x.fuel x (node l (eval_to d l) e place)) h
        ∙ enters r.fuel r (node l (eval_to d l) e place) (node l (eval_to d l) e place)
        (λ t. node_walks l (Unit {0}) Runs Outs walk (eval_to d l) (eval_to d l) (shifts_to d) tt e place t (shift n log t) refl)

-- after n steps and these entries: the same, with the numbers n higher and the entries after those
pub shifts : (l : Language) (n : ℕ) (log : List Entry) (e : l.Point) (place : Loc) (r : Run) → eval l e place (shift n log r) ≡ shifted n log (eval l e place r)
shifts l n log e place r = shifts_to n log l r.fuel tt e place r (shift n log r) refl
