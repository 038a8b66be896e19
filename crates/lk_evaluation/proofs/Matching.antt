-- Two languages: where their points match, what each rule of evaluation keeps, both evaluations keep.
use Rattle.std.proofs.Common.{◌≡◌, ℕ, List, [], ◌∷◌, ◌++◌, subst}
use Rattle.std.specs.Prelude.{Bool, true, false, Option, Some, None}
use Rattle.lk_ast.specs.declared.event.Event.{Event}
use Rattle.lk_ast.specs.declared.event.Event.TheVariants.{Print, Enter, Leave, Write}
use Rattle.lk_ast.specs.declared.event.Trap.{Trap}
use Rattle.lk_ast.specs.declared.place.Loc.{Loc}
use Rattle.lk_ast.specs.declared.place.Loc.TheVariants.{Client, Server, Any}
use Rattle.lk_ast.specs.declared.place.Span.{Span}
use Rattle.lk_ast.specs.declared.value.FunValue.{FunValue}
use Rattle.lk_ast.specs.declared.value.Value.{Value}
use Rattle.lk_ast.specs.declared.value.Value.TheVariants as value
use Rattle.lk_evaluation.specs.Evaluation.{Primitive, Printing, Reading, Writing, Act, Give, Tail, Goto, Uses, Each, Fails, Lacks, Language, Evaluates, handed, client_call, call_from, reading, used, callee_of, args_of, joined, part, all_parts, each, perform, node}
use Rattle.lk_evaluation.specs.Laws.{Both, Maybe, MatchingCallees, MatchingPrimitives, MatchingActs, MatchingCrossings, MatchingEvents, Match}
use Rattle.lk_evaluation.specs.Run.{Run, Out, Goes, Stops, Stuck, Trapped, and_then, step, logs, Callee, Function, Crossing, Within, Called, Returned}
use Rattle.lk_operators.specs.Values.{list_in}

-- a relation of two runs and one of two outcomes, for each index, that each rule keeps
pub record PairWalk (V : Value → Value → Type 0) (I : Type 0) (Runs : I → Run → Run → Type 0) (Outs : I → (A B : Type 0) → (A → B → Type 0) → Out A → Out B → Type 0) : Type 1 where
  pub goes : (i : I) (A B : Type 0) (R : A → B → Type 0) (a : A) (b : B) (r s : Run) → R a b → Runs i r s → Outs i A B R (Goes a r) (Goes b s)
  pub fails : (i : I) (trap : Trap) (r s : Run) → Runs i r s → Outs i Value Value V (Stops (Trapped trap) r) (Stops (Trapped trap) s)
  pub lacks : (i : I) (at : Span) (r s : Run) → Runs i r s → Outs i Value Value V (Stops (Stuck at) r) (Stops (Stuck at) s)
  pub steps : (i : I) (r s : Run) → Runs i r s → Runs i (step r) (step s)
  pub logged : (i : I) (event other : Event) (c d : Crossing) (r s : Run) → MatchingEvents V event other → MatchingCrossings V c d → Runs i r s → Runs i (logs event c r) (logs other d s)
  pub reads : (i : I) (site : ℕ) (args others : List Value) (r s : Run) → Both V args others → Runs i r s → Outs i Value Value V (reading site args r.answers r) (reading site others s.answers s)
  pub calls : (i : I) (c d : Callee) (args others : List Value) (b k : Run → Out Value) → MatchingCallees V c d → Both V args others → ((n : I) (r s : Run) → Runs n r s → Outs n Value Value V (b r) (k s))
      → (r s : Run) → Runs i r s → Outs i Value Value V (client_call r.returns c args b (logs Leave (Called c args) (step r))) (client_call s.returns d others k (logs Leave (Called d others) (step s)))
  pub then : (i : I) (A B C D : Type 0) (R : A → B → Type 0) (S : C → D → Type 0) (o : Out A) (p : Out B) (j : A → Run → Out C) (k : B → Run → Out D) → Outs i A B R o p
      → ((n : I) (a : A) (b : B) (r s : Run) → R a b → Runs n r s → Outs n C D S (j a r) (k b s)) → Outs i C D S (and_then o j) (and_then p k)

-- ---- lists that match

pub both-push : {A B : Type 0} (R : A → B → Type 0) (xs : List A) (ys : List B) (x : A) (y : B) → Both R xs ys → R x y → Both R (xs ++ x ∷ []) (ys ++ y ∷ [])
both-push R [] [] x y b e = (e, tt)
both-push R [] (z ∷ ys) x y b e = absurd b
both-push R (z ∷ xs) [] x y b e = absurd b
both-push R (z ∷ xs) (u ∷ ys) x y b e = (b.0, both-push R xs ys x y b.1 e)

pub both-append : {A B : Type 0} (R : A → B → Type 0) (vs : List A) (ws : List B) (xs : List A) (ys : List B) → Both R vs ws → Both R xs ys → Both R (vs ++ xs) (ws ++ ys)
both-append R [] [] xs ys b c = c
both-append R [] (y ∷ ws) xs ys b c = absurd b
both-append R (x ∷ vs) [] xs ys b c = absurd b
both-append R (x ∷ vs) (y ∷ ws) xs ys b c = (b.0, both-append R vs ws xs ys b.1 c)

module _ (l m : Language) (R : l.Point → m.Point → Type 0) (V : Value → Value → Type 0) (h : Match l m R V)
    (I : Type 0) (Runs : I → Run → Run → Type 0) (Outs : I → (A B : Type 0) → (A → B → Type 0) → Out A → Out B → Type 0) (w : PairWalk V I Runs Outs)
    (f : Evaluates l.Point) (g : Evaluates m.Point) (fg : (i : I) (e : l.Point) (e' : m.Point) (place : Loc) (r s : Run) → R e e' → Runs i r s → Outs i Value Value V (f e place r) (g e' place s)) where
  handed_walks : (i : I) (b c : Bool) → b ≡ c → (r s : Run) → Runs i r s → Runs i (handed b r) (handed c s)
  handed_walks i true true e r s k = k
  handed_walks i false false e r s k = w.steps i r s k
  handed_walks i true false e r s k = cc
  handed_walks i false true e r s k = cc

  part_walks : (i : I) (e : l.Point) (e' : m.Point) (place : Loc) (r s : Run) → R e e' → Runs i r s → Outs i Value Value V (part l f e place r) (part m g e' place s)
  part_walks i e e' place r s re k =
      w.then i _ _ _ _ V V _ _ _ _ (fg i e e' place r s re k) (λ n v u r' s' vu k'. w.goes n _ _ V v u _ _ vu (handed_walks n (l.plain e) (m.plain e') (h.plain e e' re) r' s' k'))

  pub all_walk : (i : I) (es : List l.Point) (es' : List m.Point) (place : Loc) (done done' : List Value) (r s : Run) → Both R es es' → Both V done done' → Runs i r s
      → Outs i (List Value) (List Value) (Both V) (all_parts l f es place done r) (all_parts m g es' place done' s)
  all_walk i [] [] place done done' r s es d k = w.goes i _ _ (Both V) done done' r s d k
  all_walk i [] (e' ∷ es') place done done' r s es d k = absurd es
  all_walk i (e ∷ es) [] place done done' r s b d k = absurd b
  all_walk i (e ∷ es) (e' ∷ es') place done done' r s b d k =
      w.then i _ _ _ _ V (Both V) _ _ _ _ (part_walks i e e' place r s b.0 k) (λ n v u r' s' vu k'. all_walk n es es' place (done ++ v ∷ []) (done' ++ u ∷ []) r' s' b.1 (both-push V done done' v u d vu) k')

  call_walks : (i : I) (place to : Loc) (c d : Callee) (args others : List Value) (b k : Loc → Run → Out Value) → MatchingCallees V c d → Both V args others
      → ((i : I) (at : Loc) (r s : Run) → Runs i r s → Outs i Value Value V (b at r) (k at s)) → (r s : Run) → Runs i r s → Outs i Value Value V (call_from place to c args b r) (call_from place to d others k s)
  call_walks i Client Server c d args others b k cd ab bk r s q =
      w.then i _ _ _ _ V V _ _ _ _ (bk i Server _ _ (w.logged i Enter Enter (Called c args) (Called d others) _ _ tt (cd, ab) (w.steps i r s q))) (λ n v u r' s' vu k'. w.goes n _ _ V v u _ _ vu (w.logged n Leave Leave (Returned v) (Returned u) _ _ tt vu (w.steps n r' s' k')))
  call_walks i Server Client c d args others b k cd ab bk r s q = w.calls i c d args others (b Client) (k Client) cd ab (λ n. bk n Client) r s q
  call_walks i Client Client c d args others b k cd ab bk r s q = bk i Client r s q
  call_walks i Client Any c d args others b k cd ab bk r s q = bk i Client r s q
  call_walks i Server Server c d args others b k cd ab bk r s q = bk i Server r s q
  call_walks i Server Any c d args others b k cd ab bk r s q = bk i Server r s q
  call_walks i Any to c d args others b k cd ab bk r s q = bk i Any r s q

  pub used_walks : (i : I) (one other : Primitive) (r s : Run) → MatchingPrimitives V one other → Runs i r s → Outs i Value Value V (used one r) (used other s)
  used_walks i (Printing bytes) (Printing others) r s ab k = w.goes i _ _ V _ _ _ _ h.units (w.logged i (Print bytes) (Print others) Within Within r s ab.0 tt k)
  used_walks i (Reading site args) (Reading at others) r s ab k =
      subst (λ x. Outs i Value Value V (reading site args r.answers r) (reading x others s.answers s)) ab.0 (w.reads i site args others r s ab.1 k)
  used_walks i (Writing site args) (Writing at others) r s ab k =
      w.goes i _ _ V _ _ _ _ h.units (w.logged i (Write (record { site = site; args = args })) (Write (record { site = at; args = others })) Within Within r s ab tt k)
  used_walks i _ _ r s ab k = absurd ab

  joined_walks : (i : I) (at : Span) (made made' : List Value) (o o' : Option (List Value)) (j k : List Value → Run → Out Value) (r s : Run) → Both V made made' → Maybe (Both V) o o' → Runs i r s
      → ((all all' : List Value) → Both V all all' → Outs i Value Value V (j all r) (k all' s)) → Outs i Value Value V (joined at made o j r) (joined at made' o' k s)
  joined_walks i at made made' None None j k r s b c q jk = w.lacks i at r s q
  joined_walks i at made made' (Some vs) (Some ws) j k r s b c q jk = jk (made ++ vs) (made' ++ ws) (both-append V made made' vs ws b c)
  joined_walks i at made made' None (Some ws) j k r s b c q jk = absurd c
  joined_walks i at made made' (Some vs) None j k r s b c q jk = absurd c

  pub each_walks : (i : I) (at : Span) (es : List l.Point) (es' : List m.Point) (place : Loc) (made made' : List Value) (r s : Run) → Both R es es' → Both V made made' → Runs i r s
      → Outs i Value Value V (each l f at es place made r) (each m g at es' place made' s)
  each_walks i at [] [] place made made' r s b c q = w.goes i _ _ V _ _ r s (h.lists made made' c) q
  each_walks i at [] (e' ∷ es') place made made' r s b c q = absurd b
  each_walks i at (e ∷ es) [] place made made' r s b c q = absurd b
  each_walks i at (e ∷ es) (e' ∷ es') place made made' r s b c q =
      w.then i _ _ _ _ V V _ _ _ _ (part_walks i e e' place r s b.0 q)
      (λ n v u r' s' vu k'. joined_walks n at made made' (list_in v) (list_in u) _ _ r' s' c (h.listed v u vu) k' (λ all all' d. each_walks n at es es' place all all' r' s' b.1 d k'))

  callees_match : (one other : Primitive) → MatchingPrimitives V one other → MatchingCallees V (callee_of one) (callee_of other)
  callees_match (Printing bytes) (Printing others) ab = tt
  callees_match (Reading site args) (Reading at others) ab = ab.0
  callees_match (Writing site args) (Writing at others) ab = ab.0
  callees_match _ _ ab = absurd ab

  args_match : (one other : Primitive) → MatchingPrimitives V one other → Both V (args_of one) (args_of other)
  args_match (Printing bytes) (Printing others) ab = (ab.1, tt)
  args_match (Reading site args) (Reading at others) ab = ab.1
  args_match (Writing site args) (Writing at others) ab = ab.1
  args_match _ _ ab = absurd ab

  uses_walk : (i : I) (place to at : Loc) (one other : Primitive) (r s : Run) → to ≡ at → MatchingPrimitives V one other → Runs i r s
      → Outs i Value Value V (perform l f place (Uses to one) r) (perform m g place (Uses at other) s)
  uses_walk i place to at one other r s there ab q =
      subst (λ x. Outs i Value Value V (perform l f place (Uses to one) r) (perform m g place (Uses x other) s)) there
      (call_walks i place to (callee_of one) (callee_of other) (args_of one) (args_of other) _ _ (callees_match one other ab) (args_match one other ab) (λ n at' r' s' k'. used_walks n one other r' s' ab k') r s q)

  goto_walks : (i : I) (place to at : Loc) (x y : FunValue) (args others : List Value) (e : l.Point) (e' : m.Point) (r s : Run) → to ≡ at → V (value.Fun x) (value.Fun y) → Both V args others → R e e' → Runs i r s
      → Outs i Value Value V (perform l f place (Goto to x args e) r) (perform m g place (Goto at y others e') s)
  goto_walks i place to at x y args others e e' r s there xy ab re q =
      subst (λ z. Outs i Value Value V (perform l f place (Goto to x args e) r) (perform m g place (Goto z y others e') s)) there
      (call_walks i place to (Function x) (Function y) args others _ _ xy ab (λ n at' r' s' k'. fg n e e' at' r' s' re k') r s q)

  pub perform_walks : (i : I) (place : Loc) (a : Act l.Point) (b : Act m.Point) (r s : Run) → MatchingActs R V a b → Runs i r s → Outs i Value Value V (perform l f place a r) (perform m g place b s)
  perform_walks i place (Give v) (Give u) r s ab q = w.goes i _ _ V v u r s ab q
  perform_walks i place (Tail e) (Tail e') r s ab q = fg i e e' place r s ab q
  perform_walks i place (Goto to x args e) (Goto at y others e') r s ab q = goto_walks i place to at x y args others e e' r s ab.0 ab.1 ab.2 ab.3 q
  perform_walks i place (Uses to one) (Uses at other) r s ab q = uses_walk i place to at one other r s ab.0 ab.1 q
  perform_walks i place (Each at es) (Each bt es') r s ab q =
      subst (λ z. Outs i Value Value V (each l f at es place [] r) (each m g z es' place [] s)) ab.0 (each_walks i at es es' place [] [] r s ab.1 tt q)
  perform_walks i place (Fails t) (Fails u) r s ab q = subst (λ z. Outs i Value Value V (Stops (Trapped t) r) (Stops (Trapped z) s)) ab (w.fails i t r s q)
  perform_walks i place (Lacks at) (Lacks bt) r s ab q = subst (λ z. Outs i Value Value V (Stops (Stuck at) r) (Stops (Stuck z) s)) ab (w.lacks i at r s q)
  perform_walks i place _ _ r s ab q = absurd ab

  pub node_walks : (i : I) (e : l.Point) (e' : m.Point) (place : Loc) (r s : Run) → R e e' → Runs i r s → Outs i Value Value V (node l f e place r) (node m g e' place s)
  node_walks i e e' place r s re q =
      w.then i _ _ _ _ (Both V) V _ _ _ _ (all_walk i (l.parts e) (m.parts e') place [] [] r s (h.parts e e' re) tt q)
      (λ n vs ws r' s' vw k'. perform_walks n place (l.act e vs) (m.act e' ws) r' s' (h.acts e e' vs ws re vw) k')
