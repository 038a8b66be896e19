-- What frames do with an outcome, for any language: each lemma is one move of an evaluation.
use Rattle.std.proofs.Common.{◌≡◌, ℕ, zero, suc, ◌+◌, List, [], ◌∷◌, ◌++◌, length, drop, refl, sym, ◌∙◌, ap, length-append, add-one}
use Rattle.std.specs.Prelude.{Some, None, slice_get}
use Rattle.lk_ast.specs.declared.place.Loc.{Loc}
use Rattle.lk_ast.specs.declared.place.Span.{Span}
use Rattle.lk_ast.specs.declared.value.Value.{Value}
use Rattle.lk_evaluation.specs.Evaluation.{Language, handed, all_parts, joined, each, perform, node, eval}
use Rattle.lk_sem.specs.Frames.{Frame, Part, Turn, rest, resumed, handed_by, continued, wound}
use Rattle.lk_evaluation.specs.Run.{Run, Out, Goes, Stops, Stop, and_then, enter_with}
use Rattle.lk_operators.specs.Values.{list_in}
use Rattle.lk_evaluation.proofs.Fixpoint.{eval_is}

drop-past : {A : Type 0} (xs : List A) (n : ℕ) → slice_get xs n ≡ None → drop n xs ≡ []
drop-past [] zero e = refl
drop-past [] (suc n) e = refl
drop-past (x ∷ xs) zero e = cc
drop-past (x ∷ xs) (suc n) e = drop-past xs n e

drop-at : {A : Type 0} (xs : List A) (n : ℕ) (x : A) → slice_get xs n ≡ Some x → drop n xs ≡ x ∷ drop (suc n) xs
drop-at [] n x e = cc
drop-at (y ∷ xs) zero x e = let same : y ≡ x = cc in ap (λ z. z ∷ xs) same
drop-at (y ∷ xs) (suc n) x e = drop-at xs n x e

module _ (l : Language) where
  -- the last frame gets the outcome first
  pub wound-push : (fs : List (Frame l.Point)) (f : Frame l.Point) (o : Out Value) → wound l (fs ++ f ∷ []) o ≡ wound l fs (and_then o (continued l f))
  wound-push [] f o = refl
  wound-push (g ∷ fs) f o = ap (λ q. and_then q (continued l g)) (wound-push fs f o)

  -- a stop passes all frames
  pub wound-stops : (fs : List (Frame l.Point)) (s : Stop) (r : Run) → wound l fs (Stops s r) ≡ Stops s r
  wound-stops [] s r = refl
  wound-stops (f ∷ fs) s r = ap (λ q. and_then q (continued l f)) (wound-stops fs s r)

  -- a point is entered
  pub enters : (e : l.Point) (place : Loc) (r : Run) (n : ℕ) → r.fuel ≡ suc n → eval l e place r ≡ resumed l e [] place (record r { fuel = n; steps = r.steps + 1 })
  enters e place r n is = eval_is l e place r ∙ ap (λ m. enter_with m r (node l (eval l) e place)) is

  -- all parts have their values: the act
  pub acts : (e : l.Point) (done : List Value) (place : Loc) (r : Run) → slice_get (l.parts e) (length done) ≡ None → resumed l e done place r ≡ perform l (eval l) place (l.act e done) r
  acts e done place r past = ap (λ es. rest l es e place done r) (drop-past (l.parts e) (length done) past)

  -- the next part is evaluated, and the point waits
  pub waits : (e x : l.Point) (done : List Value) (place : Loc) (r : Run) → slice_get (l.parts e) (length done) ≡ Some x → resumed l e done place r ≡ and_then (eval l x place r) (continued l (Part e done place))
  waits e x done place r is = ap (λ es. rest l es e place done r) (drop-at (l.parts e) (length done) x is) ∙ go (eval l x place r)
    where
      one_more : (v : Value) → suc (length done) ≡ length (done ++ v ∷ [])
      one_more v = sym (length-append done (v ∷ []) ∙ add-one (length done))

      go : (o : Out Value) → and_then (and_then (and_then o (λ v s. Goes v (handed (l.plain x) s))) (λ v s. all_parts l (eval l) (drop (suc (length done)) (l.parts e)) place (done ++ v ∷ []) s)) (λ vs s. perform l (eval l) place (l.act e vs) s) ≡ and_then o (continued l (Part e done place))
      go (Goes v s) =
          ap (λ n. rest l (drop n (l.parts e)) e place (done ++ v ∷ []) (handed (l.plain x) s)) (one_more v)
          ∙ ap (λ q. resumed l e (done ++ v ∷ []) place (handed_by l q s)) (sym is)
      go (Stops t s) = refl

  -- the next body is evaluated
  pub turns : (at : Span) (e : l.Point) (es : List l.Point) (place : Loc) (made : List Value) (r : Run) → each l (eval l) at (e ∷ es) place made r ≡ and_then (eval l e place r) (continued l (Turn at e es place made))
  turns at e es place made r = go (eval l e place r)
    where
      go : (o : Out Value) → and_then (and_then o (λ u s. Goes u (handed (l.plain e) s))) (λ u s. joined at made (list_in u) (each l (eval l) at es place) s) ≡ and_then o (continued l (Turn at e es place made))
      go (Goes u s) = refl
      go (Stops z s) = refl
