-- Located evaluation (Cooper and Wadler, The RPC Calculus, 2009, section 2: call by value, from left to right, the body
-- of each function at the place of its mark or, without a mark, where it is called), with fuel, steps and a log, for any
-- language whose points have parts and an act.
use Rattle.std.specs.Prelude.{ℕ, zero, suc, Bool, true, false, List, [], ◌∷◌, ◌++◌, Option, Some, None}
use Rattle.lk_ast.specs.Rows.{rows_value}
use Rattle.lk_ast.specs.declared.event.Event.TheVariants.{Print, Enter, Leave, Read, Write}
use Rattle.lk_ast.specs.declared.event.Trap.{Trap}
use Rattle.lk_ast.specs.declared.place.Loc.{Loc}
use Rattle.lk_ast.specs.declared.place.Loc.TheVariants.{Client, Server}
use Rattle.lk_ast.specs.declared.place.Span.{Span}
use Rattle.lk_ast.specs.declared.table.Row.{Row}
use Rattle.lk_ast.specs.declared.value.FunValue.{FunValue}
use Rattle.lk_ast.specs.declared.value.Value.{Value}
use Rattle.lk_ast.specs.declared.value.Value.TheVariants as value
use Rattle.lk_evaluation.specs.Run.{Run, Out, Goes, Stops, Spent, Waiting, Stuck, Trapped, Asked, and_then, step, logs, enter, Callee, Function, Printer, Site, Within, Called, Returned}
use Rattle.lk_operators.specs.Values.{text, unit, list_in}

-- What only one place can do: the client prints; the server reads and writes tables, for what begins at that place in the text,
-- with what that captured, or with the rows of an insertion.
pub data Primitive : Type 0 where
  Printing : (bytes : List ℕ) → Primitive
  Reading : (site : ℕ) (args : List Value) → Primitive
  Writing : (site : ℕ) (args : List Value) → Primitive

-- what a point does once its parts have their values
pub data Act (P : Type 0) : Type 0 where
  -- has this value
  Give : (v : Value) → Act P
  -- goes on with this point in its stead
  Tail : (point : P) → Act P
  -- calls a function of that mark with those arguments, whose body is this point
  Goto : (mark : Loc) (function : FunValue) (args : List Value) (body : P) → Act P
  -- uses what only that place can do
  Uses : (mark : Loc) (primitive : Primitive) → Act P
  -- goes on with each of these points in turn, and joins their lists
  Each : (at : Span) (bodies : List P) → Act P
  -- traps
  Fails : (trap : Trap) → Act P
  -- has no rule
  Lacks : (at : Span) → Act P

-- A language: its points (an expression with the values of its names), the parts that a point evaluates first, which
-- points are so plain that they hand their value on without a step, and what a point does with the values of its parts.
pub record Language : Type 1 where
  pub Point : Type 0
  pub parts : Point → List Point
  pub plain : Point → Bool
  pub act : Point → List Value → Act Point

-- what evaluates a point at a place, client or server
abbrev pub Evaluates : Type 0 → Type 0
Evaluates P = P → Loc → Run → Out Value

-- a plain point's value is there at once, another's takes a step
abbrev pub handed : Bool → Run → Run
handed true r = r
handed false r = step r

-- A call from the server of what is the client's, a function or `print`, once control has left: a whole evaluation evaluates the body, enters and goes
-- on; the server's part of one gets the next return, or ends with the question.
abbrev pub client_call : Option (List Value) → Callee → List Value → (Run → Out Value) → Run → Out Value
client_call None callee args body r = and_then (body r) (λ v s. Goes v (logs Enter (Returned v) (step s)))
client_call (Some []) callee args body r = Stops (Asked callee args) r
client_call (Some (v ∷ later)) callee args body r = Goes v (logs Enter (Returned v) (step (record r { returns = Some later })))

-- A call from a place to a mark: control that passes from client to server enters and, with the value, leaves; from
-- server to client it leaves and enters. Each takes a step. All else stays where it is.
abbrev pub call_from : Loc → Loc → Callee → List Value → (Loc → Run → Out Value) → Run → Out Value
call_from Client Server callee args body r = and_then (body Server (logs Enter (Called callee args) (step r))) (λ v s. Goes v (logs Leave (Returned v) (step s)))
call_from Server Client callee args body r = client_call r.returns callee args (body Client) (logs Leave (Called callee args) (step r))
call_from place mark callee args body r = body place r

-- a reading has the next answer as its value
abbrev pub reading : ℕ → List Value → List (List Row) → Run → Out Value
reading site args [] r = Stops (Waiting site args) r
reading site args (answer ∷ later) r = Goes (rows_value answer) (logs (Read (record { site = site; args = args; answer = answer })) Within (record r { answers = later }))

abbrev pub used : Primitive → Run → Out Value
used (Printing bytes) r = Goes unit (logs (Print bytes) Within r)
used (Reading site args) r = reading site args r.answers r
used (Writing site args) r = Goes unit (logs (Write (record { site = site; args = args })) Within r)

abbrev pub callee_of : Primitive → Callee
callee_of (Printing bytes) = Printer
callee_of (Reading site args) = Site site
callee_of (Writing site args) = Site site

abbrev pub args_of : Primitive → List Value
args_of (Printing bytes) = text bytes ∷ []
args_of (Reading site args) = args
args_of (Writing site args) = args

-- A body's list after those made so far. Another value has no rule, and the bodies that are left aren't evaluated.
abbrev pub joined : Span → List Value → Option (List Value) → (List Value → Run → Out Value) → Run → Out Value
joined at made None next r = Stops (Stuck at) r
joined at made (Some values) next r = next (made ++ values) r

module _ (l : Language) where
  -- a part, and its value handed on
  abbrev pub part : Evaluates l.Point → Evaluates l.Point
  part rec point place r = and_then (rec point place r) (λ v s. Goes v (handed (l.plain point) s))

  -- the parts in order, after the values that are there
  abbrev pub all_parts : Evaluates l.Point → List l.Point → Loc → List Value → Run → Out (List Value)
  all_parts rec [] place done r = Goes done r
  all_parts rec (point ∷ points) place done r = and_then (part rec point place r) (λ v s. all_parts rec points place (done ++ v ∷ []) s)

  -- the bodies in order, after the list made so far; their values are handed on as those of parts are
  abbrev pub each : Evaluates l.Point → Span → List l.Point → Loc → List Value → Run → Out Value
  each rec at [] place made r = Goes (value.List made) r
  each rec at (point ∷ points) place made r = and_then (part rec point place r) (λ v s. joined at made (list_in v) (each rec at points place) s)

  abbrev pub perform : Evaluates l.Point → Loc → Act l.Point → Run → Out Value
  perform rec place (Give v) r = Goes v r
  perform rec place (Tail point) r = rec point place r
  perform rec place (Goto mark function args body) r = call_from place mark (Function function) args (rec body) r
  perform rec place (Uses mark primitive) r = call_from place mark (callee_of primitive) (args_of primitive) (λ _. used primitive) r
  perform rec place (Each at bodies) r = each rec at bodies place [] r
  perform rec place (Fails trap) r = Stops (Trapped trap) r
  perform rec place (Lacks at) r = Stops (Stuck at) r

  -- a point that was entered: its parts, then its act; `rec` evaluates points inside
  abbrev pub node : Evaluates l.Point → Evaluates l.Point
  node rec point place r = and_then (all_parts rec (l.parts point) place [] r) (λ values s. perform rec place (l.act point values) s)

-- evaluation down to a depth
unfoldable pub eval_to : ℕ → (l : Language) → Evaluates l.Point
eval_to zero l point place r = Stops Spent r
eval_to (suc depth) l point place r = enter r (node l (eval_to depth l) point place)

-- Evaluation. Each level enters a node, so the fuel is depth enough: `eval_is` says that evaluation is entering a point
-- and `node` over evaluation itself, and no depth is seen.
abbrev pub eval : (l : Language) → Evaluates l.Point
eval l point place r = eval_to r.fuel l point place r
