-- What a machine still has to do, as a part of the evaluation that its code stands for: the step that comes next and then the frames that
-- wait (states of an abstract machine unloaded into evaluations: G. D. Plotkin, Call-by-Name, Call-by-Value and the Lambda-Calculus,
-- 1975, section 5).
use Rattle.std.specs.Prelude.{ℕ, ◌-◌, Bool, true, false, List, ◌∷◌, Option, Some, None, drop, if◌then◌else◌, length, map, nat_lt, reverse, take}
use Rattle.lk_ast.specs.declared.place.Loc.{Loc}
use Rattle.lk_ast.specs.declared.place.Loc.TheVariants.{Client, Server, Any}
use Rattle.lk_ast.specs.declared.value.Value.{Value}
use Rattle.lk_ast.specs.declared.value.Value.TheVariants as value
use Rattle.lk_code.specs.Meaning.{callee, does, language, nothing, passed, rest}
use Rattle.lk_code.specs.Tables.{home_of}
use Rattle.lk_code.specs.declared.tables.CodeTables.{CodeTables}
use Rattle.lk_code.specs.declared.tables.Frame.{Frame}
use Rattle.lk_code.specs.declared.tables.Home.{Home}
use Rattle.lk_evaluation.specs.Evaluation.{call_from, each, eval}
use Rattle.lk_evaluation.specs.Run.{Goes, and_then}
use Rattle.lk_ir.specs.Environments.{bind, bind_each, no_names}
use Rattle.lk_ir.specs.LetNormal.{Point, under}
use Rattle.lk_ir.specs.Tables.{form_at}
use Rattle.lk_ir.specs.declared.nodes.Body.{Body}
use Rattle.lk_ir.specs.declared.nodes.Form.{Form}
use Rattle.lk_moves.specs.Courses.{Evaluation}
use Rattle.lk_moves.specs.Frames.{resumed}
use Rattle.lk_operators.specs.Values.{list_in}
use Rattle.lk_machine.specs.declared.state.Now.{Now}
use Rattle.lk_machine.specs.declared.state.Now.TheVariants as now
use Rattle.lk_machine.specs.declared.state.State.{State}
use Rattle.lk_machine.specs.declared.state.Turns.{Turns}

abbrev pub other : Loc → Loc
other Client = Server
other Server = Client
other Any = Any

-- the plain bodies for the elements that are left
abbrev pub bodies : Turns → List Point
bodies t = map (λ v. under (bind t.name v t.scope) t.body) (reverse t.left)

-- What comes first where what has a label is called: its body, with the values of what it captured and then of its parameters; or what
-- only one place can do.
abbrev pub begun : Option Body → ℕ → List Value → Now
begun None label args = now.First label args
begun (Some b) label args = now.Enter b.root (bind_each (bind_each no_names b.names (take (length args - length b.params) args)) b.params (drop (length args - length b.params) args))

-- ---- the frame of a `for`, which holds the list made so far, the elements left, and what it keeps

abbrev pub list_round : Value → Option (List Value) → Value
list_round v None = v
list_round v (Some left) = value.List (reverse left)

abbrev pub turned_round : Value → Value
turned_round v = list_round v (list_in v)

abbrev pub left_round : List Value → List Value
left_round (made ∷ left ∷ kept) = made ∷ turned_round left ∷ kept
left_round env = env

-- the list made so far, the elements left, and what is kept
abbrev pub both_lists : Option (List Value) → Option (List Value) → List Value → Option (List Value × List Value × List Value)
both_lists (Some made) (Some left) kept = Some (made, left, kept)
both_lists made left kept = None

abbrev pub lists_held : List Value → Option (List Value × List Value × List Value)
lists_held (made ∷ left ∷ kept) = both_lists (list_in made) (list_in left) kept
lists_held env = None

module _ (c : CodeTables) where
  -- ---- frames

  abbrev pub is_behind : Home → Option Form → Bool
  is_behind h None = false
  is_behind h (Some form) = if nat_lt h.position (length form.parts) then false else true

  abbrev pub is_turn_at : Option Home → Bool
  is_turn_at None = false
  is_turn_at (Some h) = is_behind h (form_at c.forms h.node)

  -- the frame waits at the body of a `for`
  abbrev pub is_turn : Frame → Bool
  is_turn f = is_turn_at (home_of c f.number)

  -- A frame as others see it. While the machine runs, that of a `for` holds the elements left backwards, since it takes the last.
  abbrev pub forward : Frame → Frame
  forward f = if is_turn f then record f { env = left_round f.env } else f

  -- the frames that wait, the next one first
  abbrev pub waiting : List Frame → List Frame
  waiting stack = map forward (reverse stack)

  -- ---- what comes next

  -- a call of what has a label at the other place
  abbrev pub crossing : Loc → ℕ → List Value → Evaluation
  crossing place label args = call_from place (other place) (callee c label args) (passed c label args) (does c label args)

  abbrev pub here : Loc → Now → Evaluation
  here place (now.Enter n scope) = eval (language c) (under scope n) place
  here place (now.Hold h) = resumed (language c) (under h.scope h.node) h.done place
  here place (now.Turn t) = each (language c) (eval (language c)) t.at (bodies t) place t.made
  here place (now.Give v) = Goes v
  here place (now.Cross label args) = crossing place label args
  here place (now.First label args) = does c label args place
  here place now.Waits = nothing c
  here place now.Over = nothing c

  -- what the machine still has to do
  abbrev pub doing : State → Evaluation
  doing m = λ r. and_then (here m.place m.now r) (rest c (waiting m.stack) m.place)

  -- what it does with a value that it waits for
  abbrev pub given : State → Value → Evaluation
  given m v = rest c (waiting m.stack) m.place v
