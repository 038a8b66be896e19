-- Two languages that match do the same: end, fuel, steps and answers, and events that match with the same numbers.
use Rattle.std.proofs.Common.{◌≡◌, ℕ, zero, suc, ◌+◌, List, [], ◌∷◌, refl, ap, subst}
use Rattle.std.specs.Prelude.{Option, Some, None}
use Rattle.lk_ast.specs.declared.event.Event.{Event}
use Rattle.lk_ast.specs.declared.event.Event.TheVariants.{Enter, Leave, Read}
use Rattle.lk_ast.specs.declared.place.Loc.{Loc}
use Rattle.lk_ast.specs.declared.table.Row.{Row}
use Rattle.lk_ast.specs.declared.value.Value.{Value}
use Rattle.lk_evaluation.specs.Evaluation.{Language, client_call, reading, eval_to, eval}
use Rattle.lk_evaluation.specs.Laws.{Both, Maybe, MatchingCallees, Match, MatchingCrossings, MatchingEvents, MatchingEntries, MatchingRuns, MatchingOuts}
use Rattle.lk_evaluation.specs.Run.{Run, Out, Goes, Stops, and_then, step, logs, enter_with, Callee, Crossing, Within, Called, Returned}
use Rattle.lk_evaluation.proofs.Matching.{PairWalk, both-push, node_walks}

module _ (l m : Language) (R : l.Point → m.Point → Type 0) (V : Value → Value → Type 0) (h : Match l m R V) where
  logged : (event other : Event) (c d : Crossing) (r s : Run) → MatchingEvents V event other → MatchingCrossings V c d → MatchingRuns V r s → MatchingRuns V (logs event c r) (logs other d s)
  logged event other c d r s same cd k = record { fuel = k.fuel; steps = k.steps; log = both-push (MatchingEntries V) r.log s.log _ _ k.log (k.steps, same, cd); answers = k.answers; returns = k.returns }

  stepped : (r s : Run) → MatchingRuns V r s → MatchingRuns V (step r) (step s)
  stepped r s k = record { fuel = k.fuel; steps = ap (λ n. n + 1) k.steps; log = k.log; answers = k.answers; returns = k.returns }

  then_same : (A B C D : Type 0) (Q : A → B → Type 0) (S : C → D → Type 0) (o : Out A) (p : Out B) (j : A → Run → Out C) (k : B → Run → Out D) → MatchingOuts V A B Q o p
      → ((n : Unit {0}) (a : A) (b : B) (r s : Run) → Q a b → MatchingRuns V r s → MatchingOuts V C D S (j a r) (k b s)) → MatchingOuts V C D S (and_then o j) (and_then p k)
  then_same A B C D Q S (Goes a r) (Goes b s) j k e jk = jk tt a b r s e.0 e.1
  then_same A B C D Q S (Stops x r) (Stops y s) j k e jk = e
  then_same A B C D Q S (Goes a r) (Stops y s) j k e jk = absurd e
  then_same A B C D Q S (Stops x r) (Goes b s) j k e jk = absurd e

  reads : (site : ℕ) (args others : List Value) (answers left : List (List Row)) (r s : Run) → Both V args others → answers ≡ left → MatchingRuns V r s
      → MatchingOuts V Value Value V (reading site args answers r) (reading site others left s)
  reads site args others [] [] r s all e k = ((refl, all), k)
  reads site args others [] (b ∷ later) r s all e k = cc
  reads site args others (a ∷ later) [] r s all e k = cc
  reads site args others (a ∷ left) (b ∷ later) r s all e k =
      let ab : a ≡ b = cc in
      let rest : left ≡ later = cc in
      subst (λ x. MatchingOuts V Value Value V (reading site args (a ∷ left) r) (reading site others (x ∷ later) s)) ab (
        h.rows a,
        logged (Read (record { site = site; args = args; answer = a })) (Read (record { site = site; args = others; answer = a })) Within Within (record r { answers = left }) (record s { answers = later }) (refl, all, refl) tt
            (record { fuel = k.fuel; steps = k.steps; log = k.log; answers = rest; returns = k.returns }),
      )

  calls : (q q' : Option (List Value)) (c d : Callee) (args others : List Value) (b k : Run → Out Value) → Maybe (Both V) q q' → MatchingCallees V c d → Both V args others
      → ((n : Unit {0}) (r s : Run) → MatchingRuns V r s → MatchingOuts V Value Value V (b r) (k s)) → (r s : Run) → MatchingRuns V r s → MatchingOuts V Value Value V (client_call q c args b r) (client_call q' d others k s)
  calls None None c d args others b k e cd ab bk r s x = then_same _ _ _ _ V V (b r) (k s) _ _ (bk tt r s x) (λ n v u r' s' vu x'. (vu, logged Enter Enter (Returned v) (Returned u) _ _ tt vu (stepped r' s' x')))
  calls (Some []) (Some []) c d args others b k e cd ab bk r s x = ((cd, ab), x)
  calls (Some (v ∷ vs)) (Some (u ∷ us)) c d args others b k e cd ab bk r s x =
      (e.0, logged Enter Enter (Returned v) (Returned u) _ _ tt e.0 (stepped _ _ (record { fuel = x.fuel; steps = x.steps; log = x.log; answers = x.answers; returns = e.1 })))
  calls (Some []) (Some (u ∷ us)) c d args others b k e cd ab bk r s x = absurd e
  calls (Some (v ∷ vs)) (Some []) c d args others b k e cd ab bk r s x = absurd e
  calls None (Some us) c d args others b k e cd ab bk r s x = absurd e
  calls (Some vs) None c d args others b k e cd ab bk r s x = absurd e

  walk : PairWalk V (Unit {0}) (λ i. MatchingRuns V) (λ i. MatchingOuts V)
  walk = record {
    goes = λ i A B Q a b r s ab k. (ab, k);
    fails = λ i t r s k. (refl, k);
    lacks = λ i at r s k. (refl, k);
    steps = λ i r s k. stepped r s k;
    logged = λ i. logged;
    reads = λ i site args others r s all k. reads site args others r.answers s.answers r s all k.answers k;
    calls = λ i c d args others b j cd ab bk r s k. calls r.returns s.returns c d args others b j k.returns cd ab bk _ _ (logged Leave Leave (Called c args) (Called d others) _ _ tt (cd, ab) (stepped r s k));
    then = λ i. then_same;
  }

  enters : (n k : ℕ) → n ≡ k → (r s : Run) (j i : Run → Out Value) → MatchingRuns V r s → ((r s : Run) → MatchingRuns V r s → MatchingOuts V Value Value V (j r) (i s)) → MatchingOuts V Value Value V (enter_with n r j) (enter_with k s i)
  enters zero zero e r s j i x ji = (tt, x)
  enters (suc n) (suc k) e r s j i x ji = ji _ _ (record { fuel = cc; steps = ap (λ q. q + 1) x.steps; log = x.log; answers = x.answers; returns = x.returns })
  enters zero (suc k) e r s j i x ji = cc
  enters (suc n) zero e r s j i x ji = cc

  same_to : (d : ℕ) (e : l.Point) (f : m.Point) (place : Loc) (r s : Run) → R e f → MatchingRuns V r s → MatchingOuts V Value Value V (eval_to d l e place r) (eval_to d m f place s)
  unfolding eval_to
  same_to zero e f place r s ef k = (tt, k)
  same_to (suc d) e f place r s ef k =
      enters r.fuel s.fuel k.fuel r s _ _ k
      (λ r' s' k'. node_walks l m R V h (Unit {0}) (λ i. MatchingRuns V) (λ i. MatchingOuts V) walk (eval_to d l) (eval_to d m) (λ i e' f' at r'' s'' ef' k''. same_to d e' f' at r'' s'' ef' k'') tt e f place r' s' ef k')

  -- points that match, in runs that match, come to what matches
  pub same : (e : l.Point) (f : m.Point) (place : Loc) (r s : Run) → R e f → MatchingRuns V r s → MatchingOuts V Value Value V (eval l e place r) (eval m f place s)
  same e f place r s ef k = subst (λ n. MatchingOuts V Value Value V (eval l e place r) (eval_to n m f place s)) k.fuel (same_to r.fuel e f place r s ef k)
