-- What an evaluation does next, for any language.
use Rattle.std.proofs.Common.{◌≡◌, ℕ, zero, suc, ◌+◌, List, [], ◌∷◌, ◌++◌, length, drop, refl, sym, ◌∙◌, ap, length-append, add-one, append-nil, arith}
use Rattle.std.specs.Prelude.{Some, None, slice_get}
use Rattle.lk_ast.specs.declared.event.Event.TheVariants.{Enter, Leave}
use Rattle.lk_ast.specs.declared.place.Loc.{Loc}
use Rattle.lk_ast.specs.declared.place.Loc.TheVariants.{Client, Server}
use Rattle.lk_ast.specs.declared.place.Span.{Span}
use Rattle.lk_ast.specs.declared.value.FunValue.{FunValue}
use Rattle.lk_ast.specs.declared.value.Value.{Value}
use Rattle.lk_evaluation.proofs.Fixpoint.{eval_is}
use Rattle.lk_evaluation.specs.Evaluation.{Language, Goto, client_call, all_parts, each, eval, handed, joined, node, perform}
use Rattle.lk_evaluation.specs.Run.{Run, Out, Goes, Stops, and_then, enter_with, Function, Called, logs, step}
use Rattle.lk_operators.specs.Values.{list_in}
use Rattle.lk_moves.specs.Courses.{Evaluation, Takes, before, entering, one_step}
use Rattle.lk_moves.specs.Frames.{Part, Turn, Back, continued, handed_by, rest, resumed}
use Rattle.lk_moves.specs.Laws.{MovesLaw}

drop_past : {A : Type 0} (xs : List A) (n : ℕ) → slice_get xs n ≡ None → drop n xs ≡ []
drop_past [] zero is = refl
drop_past [] (suc n) is = refl
drop_past (x ∷ xs) zero is = cc
drop_past (x ∷ xs) (suc n) is = drop_past xs n is

drop_at : {A : Type 0} (xs : List A) (n : ℕ) (x : A) → slice_get xs n ≡ Some x → drop n xs ≡ x ∷ drop (suc n) xs
drop_at [] n x is = cc
drop_at (y ∷ xs) zero x is = let same : y ≡ x = cc in ap (λ z. z ∷ xs) same
drop_at (y ∷ xs) (suc n) x is = drop_at xs n x is

module _ (l : Language) where
  -- a point is entered where there is fuel
  pub entered_with : (e : l.Point) (place : Loc) (r : Run) (n : ℕ) → r.fuel ≡ suc n → eval l e place r ≡ resumed l e [] place (record r { fuel = n; steps = r.steps + 1 })
  entered_with e place r n is = eval_is l e place r ∙ ap (λ m. enter_with m r (node l (eval l) e place)) is

  pub enters : (e : l.Point) (place : Loc) → Takes (eval l e place) entering (resumed l e [] place)
  enters e place r =
      entered_with e place (before entering r) r.fuel (let fuel : 1 + r.fuel ≡ suc r.fuel = omega arith in fuel)
      ∙ ap (λ log. resumed l e [] place (record r { steps = r.steps + 1; log = log })) (sym (append-nil r.log))

  -- all parts have their values, and the point acts
  pub acts : (e : l.Point) (done : List Value) (place : Loc) (r : Run) → slice_get (l.parts e) (length done) ≡ None → resumed l e done place r ≡ perform l (eval l) place (l.act e done) r
  acts e done place r past = ap (λ es. rest l es e place done r) (drop_past (l.parts e) (length done) past)

  -- the next part is evaluated, and the point waits
  pub waits : (e x : l.Point) (done : List Value) (place : Loc) (r : Run) → slice_get (l.parts e) (length done) ≡ Some x → resumed l e done place r ≡ and_then (eval l x place r) (continued l (Part e done place))
  waits e x done place r is = ap (λ es. rest l es e place done r) (drop_at (l.parts e) (length done) x is) ∙ go (eval l x place r)
    where
      one_more : (v : Value) → suc (length done) ≡ length (done ++ v ∷ [])
      one_more v = sym (length-append done (v ∷ []) ∙ add-one (length done))

      go : (o : Out Value) → and_then (and_then (and_then o (λ v s. Goes v (handed (l.plain x) s))) (λ v s. all_parts l (eval l) (drop (suc (length done)) (l.parts e)) place (done ++ v ∷ []) s)) (λ vs s. perform l (eval l) place (l.act e vs) s) ≡ and_then o (continued l (Part e done place))
      go (Goes v s) =
          ap (λ n. rest l (drop n (l.parts e)) e place (done ++ v ∷ []) (handed (l.plain x) s)) (one_more v)
          ∙ ap (λ q. resumed l e (done ++ v ∷ []) place (handed_by l q s)) (sym is)
      go (Stops t s) = refl

  -- the next body is evaluated, and those behind it wait
  pub turns : (at : Span) (e : l.Point) (es : List l.Point) (place : Loc) (made : List Value) (r : Run) → each l (eval l) at (e ∷ es) place made r ≡ and_then (eval l e place r) (continued l (Turn at e es place made))
  turns at e es place made r = go (eval l e place r)
    where
      go : (o : Out Value) → and_then (and_then o (λ u s. Goes u (handed (l.plain e) s))) (λ u s. joined at made (list_in u) (each l (eval l) at es place) s) ≡ and_then o (continued l (Turn at e es place made))
      go (Goes u s) = refl
      go (Stops z s) = refl

  pub to_server : (function : FunValue) (args : List Value) (body : l.Point) (r : Run) → perform l (eval l) Client (Goto Server function args body) r ≡ and_then (eval l body Server (logs Enter (Called (Function function) args) (step r))) (continued l (Back Client))
  to_server function args body r = refl

  pub to_client : (function : FunValue) (args : List Value) (body : l.Point) (r : Run) → r.returns ≡ None → perform l (eval l) Server (Goto Client function args body) r ≡ and_then (eval l body Client (logs Leave (Called (Function function) args) (step r))) (continued l (Back Server))
  to_client function args body r whole = ap (λ returns. client_call returns (Function function) args (eval l body Client) (logs Leave (Called (Function function) args) (step r))) whole

  pub steps : (e : Evaluation) → Takes (λ r. e (step r)) one_step e
  steps e r =
      let fuel : 0 + r.fuel ≡ r.fuel = omega arith in
      ap (λ n. e (step (record r { fuel = n }))) fuel ∙ ap (λ log. e (record r { steps = r.steps + 1; log = log })) (sym (append-nil r.log))

  pub moves_law : MovesLaw l
  moves_law = record { enters = enters; acts = acts; waits = waits; turns = turns; to_server = to_server; to_client = to_client; steps = steps }
