-- Numbers of a log, worked by hand. A client calls the server in its third step. Two steps later the server asks the client to print, which
-- takes no step; with the next step control is back at the server, and with one more the value is. Two steps later the client prints by
-- itself.
use Rattle.std.proofs.Common.{◌≡◌, refl, ℕ, List, [], ◌∷◌}
use Rattle.std.specs.Prelude.{Some, None, codes}
use Rattle.lk_ast.specs.declared.event.Event.{Event}
use Rattle.lk_ast.specs.declared.event.Event.TheVariants.{Enter, Leave, Print}
use Rattle.lk_evaluation.specs.Run.{Entry, Goes, Run, Spent, Stops, Within}
use Rattle.lk_operators.specs.Values.{unit}
use Rattle.lk_course.specs.Counting.{next_enter, prints_between, stop_behind}

abbrev at : ℕ → Event → Entry
at n event = record { number = n; event = event; crossing = Within }

abbrev told : List Entry
told = at 3 Enter ∷ at 5 Leave ∷ at 5 (Print (codes "a")) ∷ at 6 Enter ∷ at 7 Leave ∷ at 9 (Print (codes "b")) ∷ []

abbrev last : Run
last = record { fuel = 0; steps = 10; log = told; answers = []; returns = None }

-- the Enter with the number of the steps taken isn't the next one
pub first_enter : next_enter 2 told ≡ Some (at 3 Enter)
first_enter = refl

pub second_enter : next_enter 3 told ≡ Some (at 6 Enter)
second_enter = refl

pub no_third : next_enter 6 told ≡ None
no_third = refl

-- a print with the number of the steps taken was there before; one with that of the steps to come is among them
pub none_before : prints_between 0 3 told ≡ []
none_before = refl

pub one_asked : prints_between 3 5 told ≡ Print (codes "a") ∷ []
one_asked = refl

pub none_again : prints_between 5 6 told ≡ []
none_again = refl

pub one_own : prints_between 7 9 told ≡ Print (codes "b") ∷ []
one_own = refl

pub none_too_early : prints_between 7 8 told ≡ []
none_too_early = refl

-- none of those behind the next Enter counts, whatever its number
pub none_behind_enter : prints_between 2 9 told ≡ []
none_behind_enter = refl

-- where a client stops: at the next Enter, else at the end, and nowhere where fuel ran out
pub stops_at_enter : stop_behind 0 (Goes unit last) ≡ Some 3
stops_at_enter = refl

pub stops_at_end : stop_behind 6 (Goes unit last) ≡ Some 10
stops_at_end = refl

pub stops_nowhere : stop_behind 6 (Stops Spent last) ≡ None
stops_nowhere = refl
