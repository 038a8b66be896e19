-- What a walk in code has come to, in the words of its definition.
use Rattle.std.specs.Prelude.{ℕ, List}
use Rattle.lk_bodies.specs.Walk.{Calls, Made, Several, State, called, made}
use Rattle.lk_bodies.specs.declared.walk.Over.{Over}
use Rattle.lk_bodies.specs.declared.walk.Walked.{Walked}

abbrev pub state_of : Walked → State
state_of w = record { parts = w.parts; types = w.types.now; calls = w.calls.now }

abbrev pub made_of : ℕ → Walked → Made
made_of n w = made n (state_of w)

abbrev pub several_of : List ℕ → Walked → Several
several_of numbers w = record { numbers = numbers; state = state_of w }

abbrev pub calls_in : Over → ℕ → Calls
calls_in over n = called over.helpers.now n
