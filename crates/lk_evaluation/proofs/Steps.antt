-- Each step of an evaluation is paid by fuel: a unit pays four steps.
use Rattle.std.proofs.Common.{◌≡◌, ℕ, zero, suc, ◌+◌, ◌-◌, ◌*◌, ◌≤◌, List, [], ◌∷◌, ◌++◌, refl, arith}
use Rattle.std.specs.Prelude.{Bool, true, false, Option, Some, None}
use Rattle.lk_ast.specs.declared.place.Loc.{Loc}
use Rattle.lk_ast.specs.declared.place.Loc.TheVariants.{Client, Server, Any}
use Rattle.lk_ast.specs.declared.place.Span.{Span}
use Rattle.lk_ast.specs.declared.table.Row.{Row}
use Rattle.lk_ast.specs.declared.value.Value.{Value}
use Rattle.lk_evaluation.specs.Evaluation.{Primitive, Printing, Reading, Writing, Act, Give, Tail, Goto, Uses, Each, Fails, Lacks, Language, Evaluates, eval_to, eval, handed, part, all_parts, client_call, call_from, reading, used, joined, each, perform, node}
use Rattle.lk_evaluation.specs.Laws.{run_of}
use Rattle.lk_evaluation.specs.Run.{Run, Out, Goes, Stops, and_then, enter_with, Callee}
use Rattle.lk_operators.specs.Values.{list_in}
use Rattle.lk_evaluation.proofs.Fixpoint.{fuel_falls}

-- the steps taken, and those that the fuel left may still pay
abbrev pub pot : Run → ℕ
pot r = r.steps + 4 * r.fuel

-- a value leaves `g` of `n`, and a stop has no more than `n`
abbrev Pays : ℕ → ℕ → {A : Type 0} → Out A → Type 0
Pays g n (Goes a s) = pot s + g ≤ n
Pays g n (Stops t s) = pot s ≤ n

then_pays : {A B : Type 0} (g h m n : ℕ) (o : Out A) (k : A → Run → Out B) → m ≤ n → Pays g m o → ((a : A) (s : Run) → pot s + g ≤ m → Pays h n (k a s)) → Pays h n (and_then o k)
then_pays g h m n (Goes a s) k le p kp = kp a s p
then_pays g h m n (Stops t s) k le p kp = omega arith

weaker : {A : Type 0} (g h m n : ℕ) (o : Out A) → h ≤ g → m ≤ n → Pays g m o → Pays h n o
weaker g h m n (Goes a s) hg le p = omega arith
weaker g h m n (Stops t s) hg le p = omega arith

handed_pays : (plain : Bool) (r : Run) → pot (handed plain r) ≤ pot r + 1
handed_pays true r = omega arith
handed_pays false r = omega arith

reading_pays : (n site : ℕ) (args : List Value) (answers : List (List Row)) (r : Run) → pot r + 1 ≤ n → Pays 1 n (reading site args answers r)
reading_pays n site args [] r le = omega arith
reading_pays n site args (answer ∷ later) r le = omega arith

used_pays : (n : ℕ) (primitive : Primitive) (r : Run) → pot r + 1 ≤ n → Pays 1 n (used primitive r)
used_pays n (Printing bytes) r le = omega arith
used_pays n (Reading site args) r le = reading_pays n site args r.answers r le
used_pays n (Writing site args) r le = omega arith

client_call_pays : (n : ℕ) (returns : Option (List Value)) (c : Callee) (args : List Value) (b : Run → Out Value) (r : Run) → ((m : ℕ) (t : Run) → pot t + 1 ≤ m → Pays 1 m (b t)) → pot r + 2 ≤ n → Pays 1 n (client_call returns c args b r)
client_call_pays n None c args b r bp le = then_pays 1 1 (pot r + 1) n _ _ (omega arith) (bp (pot r + 1) r (omega arith)) (λ v s h. omega arith)
client_call_pays n (Some []) c args b r bp le = omega arith
client_call_pays n (Some (v ∷ later)) c args b r bp le = omega arith

-- where the body pays from what there is, the call does with three more
call_pays : (n : ℕ) (place to : Loc) (c : Callee) (args : List Value) (b : Loc → Run → Out Value) → ((m : ℕ) (at : Loc) (t : Run) → pot t + 1 ≤ m → Pays 1 m (b at t)) → (r : Run) → pot r + 3 ≤ n → Pays 1 n (call_from place to c args b r)
call_pays n Client Server c args b bp r le = then_pays 1 1 (pot r + 2) n _ _ (omega arith) (bp (pot r + 2) Server _ (omega arith)) (λ v s h. omega arith)
call_pays n Server Client c args b bp r le = client_call_pays n r.returns c args (b Client) _ (λ m. bp m Client) (omega arith)
call_pays n Client Client c args b bp r le = bp n Client r (omega arith)
call_pays n Client Any c args b bp r le = bp n Client r (omega arith)
call_pays n Server Server c args b bp r le = bp n Server r (omega arith)
call_pays n Server Any c args b bp r le = bp n Server r (omega arith)
call_pays n Any to c args b bp r le = bp n Any r (omega arith)

module _ (l : Language) (f : Evaluates l.Point) (pays : (e : l.Point) (place : Loc) (r : Run) → Pays 1 (pot r) (f e place r)) where
  pays_of : (n : ℕ) (e : l.Point) (place : Loc) (r : Run) → pot r ≤ n → Pays 1 n (f e place r)
  pays_of n e place r le = weaker 1 1 (pot r) n _ (omega arith) le (pays e place r)

  part_pays : (e : l.Point) (place : Loc) (r : Run) → Pays 0 (pot r) (part l f e place r)
  part_pays e place r = then_pays 1 0 (pot r) (pot r) _ _ (omega arith) (pays e place r) (λ v s h. omega (arith, handed_pays (l.plain e) s))

  all_pay : (n : ℕ) (es : List l.Point) (place : Loc) (done : List Value) (r : Run) → pot r ≤ n → Pays 0 n (all_parts l f es place done r)
  all_pay n [] place done r le = omega arith
  all_pay n (e ∷ es) place done r le =
      then_pays 0 0 (pot r) n _ _ le (part_pays e place r) (λ v s h. all_pay n es place (done ++ v ∷ []) s (omega arith))

  joined_pays : (n : ℕ) (at : Span) (made : List Value) (o : Option (List Value)) (k : List Value → Run → Out Value) (r : Run) → pot r ≤ n → ((all : List Value) → Pays 1 n (k all r)) → Pays 1 n (joined at made o k r)
  joined_pays n at made None k r le kp = le
  joined_pays n at made (Some values) k r le kp = kp (made ++ values)

  each_pays : (n : ℕ) (at : Span) (es : List l.Point) (place : Loc) (made : List Value) (r : Run) → pot r + 1 ≤ n → Pays 1 n (each l f at es place made r)
  each_pays n at [] place made r le = le
  each_pays n at (e ∷ es) place made r le =
      then_pays 0 1 (pot r) n _ _ (omega arith) (part_pays e place r)
      (λ u s h. joined_pays n at made (list_in u) _ s (omega arith) (λ all. each_pays n at es place all s (omega arith)))

  perform_pays : (n : ℕ) (place : Loc) (a : Act l.Point) (r : Run) → pot r + 3 ≤ n → Pays 1 n (perform l f place a r)
  perform_pays n place (Give v) r le = omega arith
  perform_pays n place (Tail e) r le = pays_of n e place r (omega arith)
  perform_pays n place (Goto to x args body) r le = call_pays n place to _ args _ (λ m at t h. pays_of m body at t (omega arith)) r le
  perform_pays n place (Uses to primitive) r le = call_pays n place to _ _ _ (λ m at t h. used_pays m primitive t h) r le
  perform_pays n place (Each at es) r le = each_pays n at es place [] r (omega arith)
  perform_pays n place (Fails trap) r le = omega arith
  perform_pays n place (Lacks at) r le = omega arith

  node_pays : (n : ℕ) (e : l.Point) (place : Loc) (r : Run) → pot r + 3 ≤ n → Pays 1 n (node l f e place r)
  node_pays n e place r le =
      then_pays 0 1 (pot r) n _ _ (omega arith) (all_pay (pot r) (l.parts e) place [] r (omega arith)) (λ values s h. perform_pays n place (l.act e values) s (omega arith))

enter_pays : (fuel : ℕ) (r : Run) (k : Run → Out Value) → r.fuel ≡ fuel → ((s : Run) → pot s + 3 ≤ pot r → Pays 1 (pot r) (k s)) → Pays 1 (pot r) (enter_with fuel r k)
enter_pays zero r k is kp = omega arith
enter_pays (suc n) r k is kp = kp (record r { fuel = n; steps = r.steps + 1 }) (omega arith)

pot_of : (g n : ℕ) (o : Out Value) → Pays g n o → pot (run_of o) ≤ n
pot_of g n (Goes v s) h = omega arith
pot_of g n (Stops t s) h = h

module _ (l : Language) where
  pays_to : (d : ℕ) (e : l.Point) (place : Loc) (r : Run) → Pays 1 (pot r) (eval_to d l e place r)
  unfolding eval_to
  pays_to zero e place r = omega arith
  pays_to (suc d) e place r = enter_pays r.fuel r _ refl (λ s le. node_pays l (eval_to d l) (pays_to d) (pot r) e place s le)

  -- what was paid
  pub steps_paid : (e : l.Point) (place : Loc) (r : Run) → pot (run_of (eval l e place r)) ≤ pot r
  steps_paid e place r = pot_of 1 (pot r) _ (pays_to r.fuel e place r)

  -- the steps are at most 8m + 8 for the m units of fuel used
  pub steps_bounded : (e : l.Point) (place : Loc) (r : Run) → (run_of (eval l e place r)).steps ≤ r.steps + (8 * (r.fuel - (run_of (eval l e place r)).fuel) + 8)
  steps_bounded e place r = omega (arith, steps_paid e place r, fuel_falls l e place r)
