-- Stretches follow one another, under any frames.
use Rattle.std.proofs.Common.{◌≡◌, ℕ, ◌+◌, List, [], ◌∷◌, ◌++◌, refl, sym, ◌∙◌, ap, arith, append_assoc, append-nil}
use Rattle.lk_ast.specs.declared.value.Value.{Value}
use Rattle.lk_evaluation.proofs.Shift.{moved-append}
use Rattle.lk_evaluation.specs.Evaluation.{Language}
use Rattle.lk_evaluation.specs.Laws.{moved}
use Rattle.lk_evaluation.specs.Run.{Entry, Run, Out, Stops, Stop, and_then}
use Rattle.lk_moves.specs.Courses.{Course, Evaluation, Takes, TakesWhole, after, before, followed, nothing}
use Rattle.lk_moves.specs.Frames.{Frame, continued, wound}
use Rattle.lk_moves.specs.Laws.{FramesLaw}

-- ---- one after another

moved_twice : (n m : ℕ) (log : List Entry) → moved n (moved m log) ≡ moved (n + m) log
moved_twice n m [] = refl
moved_twice n m (entry ∷ log) =
    let same : n + (m + entry.number) ≡ (n + m) + entry.number = omega arith in
    ap (λ k. record entry { number = k } ∷ moved n (moved m log)) same ∙ ap (λ rest. record entry { number = (n + m) + entry.number } ∷ rest) (moved_twice n m log)

before_both : (c d : Course) (r : Run) → before (followed c d) r ≡ before c (before d r)
before_both c d r =
    let fuel : (c.fuel + d.fuel) + r.fuel ≡ c.fuel + (d.fuel + r.fuel) = omega arith in
    ap (λ n. record r { fuel = n; answers = (c.answers ++ d.answers) ++ r.answers }) fuel
    ∙ ap (λ answers. record r { fuel = c.fuel + (d.fuel + r.fuel); answers = answers }) (append_assoc c.answers d.answers r.answers)

after_both : (c d : Course) (r : Run) → after d (after c r) ≡ after (followed c d) r
after_both c d r =
    let steps : (r.steps + c.steps) + d.steps ≡ r.steps + (c.steps + d.steps) = omega arith in
    ap (λ n. record r { steps = n; log = (r.log ++ moved r.steps c.log) ++ moved (r.steps + c.steps) d.log }) steps
    ∙ ap (λ log. record r { steps = r.steps + (c.steps + d.steps); log = log }) logged
  where
    logged : (r.log ++ moved r.steps c.log) ++ moved (r.steps + c.steps) d.log ≡ r.log ++ moved r.steps (c.log ++ moved c.steps d.log)
    logged =
        append_assoc r.log (moved r.steps c.log) (moved (r.steps + c.steps) d.log)
        ∙ ap (λ log. r.log ++ (moved r.steps c.log ++ log)) (sym (moved_twice r.steps c.steps d.log))
        ∙ ap (λ log. r.log ++ log) (sym (moved-append r.steps c.log (moved c.steps d.log)))

-- one stretch and then another
pub takes_then : (e f g : Evaluation) (c d : Course) → Takes e c f → Takes f d g → Takes e (followed c d) g
takes_then e f g c d first second r = ap e (before_both c d r) ∙ first (before d r) ∙ second (after c r) ∙ ap g (after_both c d r)

pub whole_then : (e f g : Evaluation) (c d : Course) → TakesWhole e c f → TakesWhole f d g → TakesWhole e (followed c d) g
whole_then e f g c d first second r whole = ap e (before_both c d r) ∙ first (before d r) whole ∙ second (after c r) whole ∙ ap g (after_both c d r)

-- ---- nothing

-- the same said otherwise
pub takes_as : (e f : Evaluation) → ((r : Run) → e r ≡ f r) → Takes e nothing f
takes_as e f same r = ap e (needless r) ∙ same r ∙ ap f (unmoved r)
  where
    needless : (r : Run) → before nothing r ≡ r
    needless r = let fuel : 0 + r.fuel ≡ r.fuel = omega arith in ap (λ n. record r { fuel = n }) fuel

    unmoved : (r : Run) → r ≡ after nothing r
    unmoved r =
        let steps : r.steps ≡ r.steps + 0 = omega arith in
        ap (λ n. record r { steps = n }) steps ∙ ap (λ log. record r { steps = r.steps + 0; log = log }) (sym (append-nil r.log))

-- what comes before or behind is said otherwise
pub takes_from : (e d f : Evaluation) (c : Course) → ((r : Run) → e r ≡ d r) → Takes d c f → Takes e c f
takes_from e d f c same takes r = same (before c r) ∙ takes r

pub takes_to : (e f g : Evaluation) (c : Course) → ((r : Run) → f r ≡ g r) → Takes e c f → Takes e c g
takes_to e f g c same takes r = takes r ∙ same (after c r)

-- ---- under frames

module _ (l : Language) where
  pub under : (frames : List (Frame l.Point)) (e f : Evaluation) (c : Course) → Takes e c f → Takes (λ r. wound l frames (e r)) c (λ r. wound l frames (f r))
  under frames e f c takes r = ap (wound l frames) (takes r)

  -- one stack on another
  pub stacked : (outer inner : List (Frame l.Point)) (out : Out Value) → wound l (outer ++ inner) out ≡ wound l outer (wound l inner out)
  stacked [] inner out = refl
  stacked (frame ∷ outer) inner out = ap (λ o. and_then o (continued l frame)) (stacked outer inner out)

  -- what ends an evaluation passes all frames
  pub stopped : (frames : List (Frame l.Point)) (stop : Stop) (r : Run) → wound l frames (Stops stop r) ≡ Stops stop r
  stopped [] stop r = refl
  stopped (frame ∷ frames) stop r = ap (λ o. and_then o (continued l frame)) (stopped frames stop r)

  pub frames_law : FramesLaw l
  frames_law = record { under = under; stacked = stacked; stopped = stopped }
