-- One language: what each rule of evaluation keeps, the whole keeps. Each law that speaks of one language is an instance,
-- with a relation of two runs and one of two outcomes.
use Rattle.std.proofs.Common.{ℕ, List, [], ◌∷◌, ◌++◌}
use Rattle.std.specs.Prelude.{Bool, true, false, Option, Some, None}
use Rattle.lk_ast.specs.declared.event.Event.{Event}
use Rattle.lk_ast.specs.declared.event.Event.TheVariants.{Leave}
use Rattle.lk_ast.specs.declared.event.Trap.{Trap}
use Rattle.lk_ast.specs.declared.place.Loc.{Loc}
use Rattle.lk_ast.specs.declared.place.Loc.TheVariants.{Client, Server, Any}
use Rattle.lk_ast.specs.declared.place.Span.{Span}
use Rattle.lk_ast.specs.declared.value.Value.{Value}
use Rattle.lk_evaluation.specs.Evaluation.{Primitive, Printing, Reading, Writing, Act, Give, Tail, Goto, Uses, Each, Fails, Lacks, Language, Evaluates, handed, client_call, call_from, reading, used, joined, part, all_parts, each, perform, node}
use Rattle.lk_evaluation.specs.Run.{Run, Out, Goes, Stops, Stuck, Trapped, and_then, step, logs, Callee, Crossing, Called}
use Rattle.lk_operators.specs.Values.{list_in}

-- a relation of two runs and one of two outcomes, for each index, that each rule keeps
pub record Walk (I : Type 0) (Runs : I → Run → Run → Type 0) (Outs : I → (A : Type 0) → Out A → Out A → Type 0) : Type 1 where
  pub goes : (i : I) (A : Type 0) (a : A) (r s : Run) → Runs i r s → Outs i A (Goes a r) (Goes a s)
  pub fails : (i : I) (trap : Trap) (r s : Run) → Runs i r s → Outs i Value (Stops (Trapped trap) r) (Stops (Trapped trap) s)
  pub lacks : (i : I) (at : Span) (r s : Run) → Runs i r s → Outs i Value (Stops (Stuck at) r) (Stops (Stuck at) s)
  pub steps : (i : I) (r s : Run) → Runs i r s → Runs i (step r) (step s)
  pub logged : (i : I) (event : Event) (what : Crossing) (r s : Run) → Runs i r s → Runs i (logs event what r) (logs event what s)
  pub reads : (i : I) (site : ℕ) (args : List Value) (r s : Run) → Runs i r s → Outs i Value (reading site args r.answers r) (reading site args s.answers s)
  pub calls : (i : I) (c : Callee) (args : List Value) (b k : Run → Out Value) → ((n : I) (r s : Run) → Runs n r s → Outs n Value (b r) (k s)) → (r s : Run) → Runs i r s
      → Outs i Value (client_call r.returns c args b (logs Leave (Called c args) (step r))) (client_call s.returns c args k (logs Leave (Called c args) (step s)))
  pub then : (i : I) (A B : Type 0) (o p : Out A) (j k : A → Run → Out B) → Outs i A o p → ((n : I) (a : A) (r s : Run) → Runs n r s → Outs n B (j a r) (k a s)) → Outs i B (and_then o j) (and_then p k)

-- two evaluations of points that keep the relations
abbrev pub Keeps : (l : Language) (I : Type 0) (Runs : I → Run → Run → Type 0) (Outs : I → (A : Type 0) → Out A → Out A → Type 0) → Evaluates l.Point → Evaluates l.Point → Type 0
Keeps l I Runs Outs f g = (i : I) (e : l.Point) (place : Loc) (r s : Run) → Runs i r s → Outs i Value (f e place r) (g e place s)

module _ (l : Language) (I : Type 0) (Runs : I → Run → Run → Type 0) (Outs : I → (A : Type 0) → Out A → Out A → Type 0) (w : Walk I Runs Outs)
    (f g : Evaluates l.Point) (fg : Keeps l I Runs Outs f g) where
  handed_walks : (i : I) (plain : Bool) (r s : Run) → Runs i r s → Runs i (handed plain r) (handed plain s)
  handed_walks i true r s h = h
  handed_walks i false r s h = w.steps i r s h

  part_walks : (i : I) (e : l.Point) (place : Loc) (r s : Run) → Runs i r s → Outs i Value (part l f e place r) (part l g e place s)
  part_walks i e place r s h = w.then i _ _ _ _ _ _ (fg i e place r s h) (λ n v r' s' h'. w.goes n _ v _ _ (handed_walks n (l.plain e) r' s' h'))

  pub all_walk : (i : I) (es : List l.Point) (place : Loc) (done : List Value) (r s : Run) → Runs i r s → Outs i (List Value) (all_parts l f es place done r) (all_parts l g es place done s)
  all_walk i [] place done r s h = w.goes i _ done r s h
  all_walk i (e ∷ es) place done r s h = w.then i _ _ _ _ _ _ (part_walks i e place r s h) (λ n v r' s' h'. all_walk n es place (done ++ v ∷ []) r' s' h')

  call_walks : (i : I) (place to : Loc) (c : Callee) (args : List Value) (b k : Loc → Run → Out Value) → ((i : I) (at : Loc) (r s : Run) → Runs i r s → Outs i Value (b at r) (k at s))
      → (r s : Run) → Runs i r s → Outs i Value (call_from place to c args b r) (call_from place to c args k s)
  call_walks i Client Server c args b k bk r s h =
      w.then i _ _ _ _ _ _ (bk i Server _ _ (w.logged i _ _ _ _ (w.steps i r s h))) (λ n v r' s' h'. w.goes n _ v _ _ (w.logged n _ _ _ _ (w.steps n r' s' h')))
  call_walks i Server Client c args b k bk r s h = w.calls i c args (b Client) (k Client) (λ n. bk n Client) r s h
  call_walks i Client Client c args b k bk r s h = bk i Client r s h
  call_walks i Client Any c args b k bk r s h = bk i Client r s h
  call_walks i Server Server c args b k bk r s h = bk i Server r s h
  call_walks i Server Any c args b k bk r s h = bk i Server r s h
  call_walks i Any to c args b k bk r s h = bk i Any r s h

  pub used_walks : (i : I) (primitive : Primitive) (r s : Run) → Runs i r s → Outs i Value (used primitive r) (used primitive s)
  used_walks i (Printing bytes) r s h = w.goes i _ _ _ _ (w.logged i _ _ r s h)
  used_walks i (Reading site args) r s h = w.reads i site args r s h
  used_walks i (Writing site args) r s h = w.goes i _ _ _ _ (w.logged i _ _ r s h)

  joined_walks : (i : I) (at : Span) (made : List Value) (o : Option (List Value)) (j k : List Value → Run → Out Value) (r s : Run) → Runs i r s → ((all : List Value) → Outs i Value (j all r) (k all s))
      → Outs i Value (joined at made o j r) (joined at made o k s)
  joined_walks i at made None j k r s h jk = w.lacks i at r s h
  joined_walks i at made (Some values) j k r s h jk = jk (made ++ values)

  pub each_walks : (i : I) (at : Span) (es : List l.Point) (place : Loc) (made : List Value) (r s : Run) → Runs i r s → Outs i Value (each l f at es place made r) (each l g at es place made s)
  each_walks i at [] place made r s h = w.goes i _ _ r s h
  each_walks i at (e ∷ es) place made r s h =
      w.then i _ _ _ _ _ _ (part_walks i e place r s h) (λ n u r' s' h'. joined_walks n at made (list_in u) _ _ r' s' h' (λ all. each_walks n at es place all r' s' h'))

  pub perform_walks : (i : I) (place : Loc) (a : Act l.Point) (r s : Run) → Runs i r s → Outs i Value (perform l f place a r) (perform l g place a s)
  perform_walks i place (Give v) r s h = w.goes i _ v r s h
  perform_walks i place (Tail e) r s h = fg i e place r s h
  perform_walks i place (Goto to x args body) r s h = call_walks i place to _ args _ _ (λ n at r' s' h'. fg n body at r' s' h') r s h
  perform_walks i place (Uses to primitive) r s h = call_walks i place to _ _ _ _ (λ n at r' s' h'. used_walks n primitive r' s' h') r s h
  perform_walks i place (Each at es) r s h = each_walks i at es place [] r s h
  perform_walks i place (Fails trap) r s h = w.fails i trap r s h
  perform_walks i place (Lacks at) r s h = w.lacks i at r s h

  pub node_walks : (i : I) (e : l.Point) (place : Loc) (r s : Run) → Runs i r s → Outs i Value (node l f e place r) (node l g e place s)
  node_walks i e place r s h = w.then i _ _ _ _ _ _ (all_walk i (l.parts e) place [] r s h) (λ n values r' s' h'. perform_walks n place (l.act e values) r' s' h')
