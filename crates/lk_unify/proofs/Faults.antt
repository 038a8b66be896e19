-- First ones of equations that have no solution, where it is searched for the first equation with which there is none.
use Rattle.std.proofs.Common.{◌≡◌, ℕ, ◌<◌, ◌≤◌, ⊎_elim, List, length, take, sym, subst, arith}
use Rattle.std.proofs.lemmas.Bool.{cases_lt}
use Rattle.std.proofs.lemmas.List.{length-take-le}
use Rattle.lk_types.specs.Solutions.{HasSolution}
use Rattle.lk_types.specs.declared.equation.Equation.{Equation}
use Rattle.lk_unify.proofs.Firsts.{first_of_first, solution_first}

-- more than have a solution
pub more_unsolved : (es : List Equation) (low n : ℕ) → HasSolution (take low es) → (HasSolution (take n es) → ⊥) → low < n
more_unsolved es low n solution never =
    ⊎_elim
    (λ (more : low < n). more)
    (λ (few : n ≤ low). absurd (never (subst HasSolution (first_of_first es n low few) (solution_first (take low es) n solution))))
    (cases_lt low n)

-- first ones of first ones
pub fewer_unsolved : (es : List Equation) (m n : ℕ) → m ≤ length es → (n ≤ length (take m es)) × (HasSolution (take n (take m es)) → ⊥) → (n ≤ m) × (HasSolution (take n es) → ⊥)
fewer_unsolved es m n within unsolved =
    let count : length (take m es) ≡ m = length-take-le m es within in
    let first = unsolved.0 in
    let few : n ≤ m = omega arith in
    (few, λ solution. unsolved.1 (subst HasSolution (sym (first_of_first es n m few)) solution))
