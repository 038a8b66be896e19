-- The depth is no limit: evaluation enters a point and goes on by itself.
use Rattle.std.proofs.Common.{◌≡◌, ℕ, zero, suc, ◌+◌, ◌-◌, ◌<◌, ◌≤◌, refl, sym, ◌∙◌, ap, subst, arith, List, [], ◌∷◌}
use Rattle.std.specs.Prelude.{Option, Some, None}
use Rattle.lk_ast.specs.declared.event.Event.TheVariants.{Enter, Leave}
use Rattle.lk_ast.specs.declared.place.Loc.{Loc}
use Rattle.lk_ast.specs.declared.table.Row.{Row}
use Rattle.lk_ast.specs.declared.value.Value.{Value}
use Rattle.lk_evaluation.specs.Evaluation.{Language, Evaluates, client_call, reading, node, eval_to, eval}
use Rattle.lk_evaluation.specs.Laws.{run_of}
use Rattle.lk_evaluation.specs.Run.{Run, Out, Goes, Stops, Spent, Trapped, Stuck, and_then, step, logs, enter, enter_with, Callee, Called, Returned}
use Rattle.lk_evaluation.proofs.Walk.{Walk, Keeps, node_walks}

-- the same run, with at most that much fuel
abbrev Below : ℕ → Run → Run → Type 0
Below n r s = (r ≡ s) × (r.fuel ≤ n)

-- the same outcome, with at most that much fuel
abbrev Same : ℕ → (A : Type 0) → Out A → Out A → Type 0
Same n A o p = (o ≡ p) × ((run_of o).fuel ≤ n)

then_same : (n : ℕ) (A B : Type 0) (o p : Out A) (j k : A → Run → Out B) → Same n A o p → ((i : Unit {0}) (a : A) (r s : Run) → Below n r s → Same n B (j a r) (k a s)) → Same n B (and_then o j) (and_then p k)
then_same n A B (Goes a r) p j k (e, le) jk =
    let h = jk tt a r r (refl, le) in (h.0 ∙ ap (λ q. and_then q k) e, h.1)
then_same n A B (Stops t r) p j k (e, le) jk = (ap (λ q. and_then q k) e, le)

call_same : (n : ℕ) (returns : Option (List Value)) (c : Callee) (args : List Value) (b k : Run → Out Value) (r : Run) → r.fuel ≤ n → ((t : Run) → t.fuel ≤ n → Same n Value (b t) (k t))
    → Same n Value (client_call returns c args b r) (client_call returns c args k r)
call_same n None c args b k r le bk = then_same n Value Value (b r) (k r) _ _ (bk r le) (λ i v t u h. (ap (λ x. Goes v (logs Enter (Returned v) (step x))) h.0, h.1))
call_same n (Some []) c args b k r le bk = (refl, le)
call_same n (Some (v ∷ later)) c args b k r le bk = (refl, le)

reads_same : (n site : ℕ) (args : List Value) (answers : List (List Row)) (r : Run) → r.fuel ≤ n → Same n Value (reading site args answers r) (reading site args answers r)
reads_same n site args [] r le = (refl, le)
reads_same n site args (answer ∷ later) r le = (refl, le)

walk : (n : ℕ) → Walk (Unit {0}) (λ i. Below n) (λ i. Same n)
walk n = record {
  goes = λ i A a r s h. (ap (Goes a) h.0, h.1);
  fails = λ i t r s h. (ap (Stops (Trapped t)) h.0, h.1);
  lacks = λ i t r s h. (ap (Stops (Stuck t)) h.0, h.1);
  steps = λ i r s h. (ap step h.0, h.1);
  logged = λ i e c r s h. (ap (logs e c) h.0, h.1);
  reads = λ i site args r s h. subst (λ x. Same n Value (reading site args r.answers r) (reading site args x.answers x)) h.0 (reads_same n site args r.answers r h.1);
  calls = λ i c args b k bk r s h. subst (λ x. Same n Value (client_call r.returns c args b (logs Leave (Called c args) (step r))) (client_call x.returns c args k (logs Leave (Called c args) (step x)))) h.0
      (call_same n r.returns c args b k _ h.1 (λ t le. bk tt t t (refl, le)));
  then = λ i. then_same n;
}

-- at most `n` left, once a point was entered
entered : (n fuel : ℕ) (r : Run) (j k : Run → Out Value) → ((s : Run) → s.fuel < fuel → Same n Value (j s) (k s)) → r.fuel ≤ n → Same n Value (enter_with fuel r j) (enter_with fuel r k)
entered n zero r j k jk le = (refl, le)
entered n (suc m) r j k jk le = jk (record r { fuel = m; steps = r.steps + 1 }) (omega arith)

below : (n m : ℕ) (o p : Out Value) → m ≤ n → Same m Value o p → Same n Value o p
below n m o p le (e, h) = (e, omega arith)

by_ends : (n : ℕ) (o p : Out Value) (r : Run) → o ≡ Stops Spent r → p ≡ Stops Spent r → r.fuel ≤ n → Same n Value o p
by_ends n o p r a b le = (a ∙ sym b, subst (λ x. (run_of x).fuel ≤ n) (sym a) le)

by_levels : (n : ℕ) (o p a b : Out Value) → o ≡ a → p ≡ b → Same n Value a b → Same n Value o p
by_levels n o p a b oa pb (e, le) = (oa ∙ e ∙ sym pb, subst (λ x. (run_of x).fuel ≤ n) (sym oa) le)

module _ (l : Language) where
  node_same : (n : ℕ) (f g : Evaluates l.Point) → Keeps l (Unit {0}) (λ i. Below n) (λ i. Same n) f g → (e : l.Point) (place : Loc) (r s : Run) → Below n r s → Same n Value (node l f e place r) (node l g e place s)
  node_same n f g fg e place r s h = node_walks l (Unit {0}) (λ i. Below n) (λ i. Same n) (walk n) f g fg tt e place r s h

  -- with no fuel, at any depth
  spent : (d : ℕ) (e : l.Point) (place : Loc) (r : Run) → r.fuel ≡ 0 → eval_to d l e place r ≡ Stops Spent r
  unfolding eval_to
  spent zero e place r none = refl
  spent (suc d) e place r none = ap (λ m. enter_with m r (node l (eval_to d l) e place)) none

  pub one_level : (d : ℕ) (e : l.Point) (place : Loc) (r : Run) → eval_to (suc d) l e place r ≡ enter_with r.fuel r (node l (eval_to d l) e place)
  unfolding eval_to
  one_level d e place r = refl

  -- any two depths of at least the fuel give the same, and no more fuel is left than there was
  depths : (d c n : ℕ) → n ≤ d → n ≤ c → (e : l.Point) (place : Loc) (r s : Run) → Below n r s → Same n Value (eval_to d l e place r) (eval_to c l e place s)
  depths zero c n nd nc e place r s (q, le) =
      by_ends n _ _ r (spent zero e place r (omega arith)) (ap (eval_to c l e place) (sym q) ∙ spent c e place r (omega arith)) le
  depths (suc d) zero n nd nc e place r s (q, le) =
      by_ends n _ _ r (spent (suc d) e place r (omega arith)) (ap (eval_to zero l e place) (sym q) ∙ spent zero e place r (omega arith)) le
  depths (suc d) (suc c) n nd nc e place r s (q, le) =
      by_levels n _ _ _ _ (one_level d e place r) (ap (eval_to (suc c) l e place) (sym q) ∙ one_level c e place r)
      (entered n r.fuel r _ _
      (λ t less.
      let m = n - 1 in
      below n m _ _ (omega arith)
      (node_same m (eval_to d l) (eval_to c l) (λ i. depths d c m (omega arith) (omega arith)) e place t t (refl, omega arith)))
      le)

  -- the depth m, and the fuel as the depth
  at_fuel : (m : ℕ) (e : l.Point) (place : Loc) (r s : Run) → Below m r s → Same m Value (eval_to m l e place r) (eval l e place s)
  at_fuel m e place r s (q, le) =
      let same : r.fuel ≡ s.fuel = ap (λ x. x.fuel) q in
      below m r.fuel _ _ le (depths m s.fuel r.fuel le (omega arith) e place r s (q, omega arith))

  level_at : (m : ℕ) (e : l.Point) (place : Loc) (r : Run) → r.fuel ≡ m → eval_to m l e place r ≡ enter_with m r (node l (eval l) e place)
  level_at zero e place r is = spent zero e place r is
  level_at (suc m) e place r is =
      one_level m e place r ∙ ap (λ x. enter_with x r (node l (eval_to m l) e place)) is
      ∙ (node_same m (eval_to m l) (eval l) (λ i. at_fuel m) e place _ _ (refl, omega arith)).0

  -- evaluation is entering the point, and then evaluation inside
  pub eval_is : (e : l.Point) (place : Loc) (r : Run) → eval l e place r ≡ enter r (node l (eval l) e place)
  eval_is e place r = level_at r.fuel e place r refl

  -- no more fuel is left than there was
  pub fuel_falls : (e : l.Point) (place : Loc) (r : Run) → (run_of (eval l e place r)).fuel ≤ r.fuel
  fuel_falls e place r = (at_fuel r.fuel e place r r (refl, omega arith)).1

  -- without fuel nothing is entered
  pub spends : (e : l.Point) (place : Loc) (r : Run) → r.fuel ≡ 0 → eval l e place r ≡ Stops Spent r
  spends e place r none = spent r.fuel e place r none
