-- Events as stretches.
use Rattle.std.specs.Prelude.{◌≡◌, [], ◌∷◌, List}
use Rattle.lk_ast.specs.declared.event.Event.{Event}
use Rattle.lk_evaluation.specs.Run.{Crossing, answers_in, events_of}
use Rattle.lk_moves.specs.Courses.{Course, followed, one_step}

-- an event without a step; a reading takes its answer
abbrev pub happening : Event → Crossing → Course
happening event crossing = record { fuel = 0; steps = 0; log = record { number = 0; event = event; crossing = crossing } ∷ []; answers = answers_in (event ∷ []) }

-- an event behind a step
abbrev pub stepping : Event → Crossing → Course
stepping event crossing = followed one_step (happening event crossing)

-- the stretch has these events, and reads the answers in them and no others
pub record HasEvents (c : Course) (events : List Event) : Type 0 where
  pub logged : events_of c.log ≡ events
  pub read : c.answers ≡ answers_in events
