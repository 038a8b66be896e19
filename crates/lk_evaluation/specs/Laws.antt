-- The laws of evaluation, and the words in which they are stated; their proofs stand in proofs/.
use Rattle.std.specs.Prelude.{◌≡◌, ℕ, ◌+◌, ◌-◌, ◌*◌, ◌≤◌, List, [], ◌∷◌, ◌++◌, map, Option, Some, None}
use Rattle.lk_ast.specs.Rows.{rows_value}
use Rattle.lk_ast.specs.declared.declaration.Program.{Program}
use Rattle.lk_ast.specs.declared.event.Event.{Event}
use Rattle.lk_ast.specs.declared.event.Event.TheVariants.{Print, Enter, Leave, Read, Write}
use Rattle.lk_ast.specs.declared.place.Loc.{Loc}
use Rattle.lk_ast.specs.declared.table.Row.{Row}
use Rattle.lk_ast.specs.declared.value.Value.{Value}
use Rattle.lk_ast.specs.declared.value.Value.TheVariants as value
use Rattle.lk_evaluation.specs.Evaluation.{Act, Give, Tail, Goto, Uses, Each, Fails, Lacks, Language, Primitive, Printing, Reading, Writing, node, eval}
use Rattle.lk_evaluation.specs.Run.{Run, Entry, enter, start, Out, Goes, Stops, Stop, Trapped, Spent, Waiting, Stuck, Asked, Callee, Function, Printer, Site, Crossing, Within, Called, Returned, events_of, answers_in}
use Rattle.lk_evaluation.specs.Source.{source}
use Rattle.lk_operators.specs.Values.{unit, list_in, text}

-- ---- the run at an end

abbrev pub run_of : {A : Type 0} → Out A → Run
run_of (Goes a r) = r
run_of (Stops stop r) = r

-- ---- the log only grows

-- a log begins with another
abbrev pub Extends : List Entry → List Entry → Type 0
Extends log longer = (more : List Entry) × (longer ≡ log ++ more)

-- these events come first in the evaluation over the answers of the readings among them
abbrev pub HasBegun : (Run → Out Value) → ℕ → List Event → Type 0
HasBegun evaluation fuel events = (more : List Event) × (events_of (run_of (evaluation (start fuel (answers_in events)))).log ≡ events ++ more)

-- ---- more fuel, more answers, more returns

abbrev pub with_returns : List Value → Option (List Value) → Option (List Value)
with_returns more None = None
with_returns more (Some returns) = Some (returns ++ more)

abbrev pub richer : ℕ → List (List Row) → List Value → Run → Run
richer fuel answers returns r = record r { fuel = r.fuel + fuel; answers = r.answers ++ answers; returns = with_returns returns r.returns }

-- an evaluation that has ended with a value, a trap or for want of a rule ends so again; another one has a longer log
abbrev pub IsRicher : ℕ → List (List Row) → List Value → (A : Type 0) → Out A → Out A → Type 0
IsRicher fuel answers returns A (Goes a r) out = out ≡ Goes a (richer fuel answers returns r)
IsRicher fuel answers returns A (Stops (Trapped trap) r) out = out ≡ Stops (Trapped trap) (richer fuel answers returns r)
IsRicher fuel answers returns A (Stops (Stuck at) r) out = out ≡ Stops (Stuck at) (richer fuel answers returns r)
IsRicher fuel answers returns A (Stops Spent r) out = Extends r.log (run_of out).log
IsRicher fuel answers returns A (Stops (Waiting site args) r) out = Extends r.log (run_of out).log
IsRicher fuel answers returns A (Stops (Asked callee args) r) out = Extends r.log (run_of out).log

-- ---- a later start

-- these entries, so many steps later
abbrev pub moved : ℕ → List Entry → List Entry
moved steps log = map {A = Entry} (λ entry. record entry { number = steps + entry.number }) log

-- the same run, so many steps later and after these entries
abbrev pub shift : ℕ → List Entry → Run → Run
shift steps log r = record r { steps = steps + r.steps; log = log ++ moved steps r.log }

abbrev pub shifted : ℕ → List Entry → {A : Type 0} → Out A → Out A
shifted steps log (Goes a r) = Goes a (shift steps log r)
shifted steps log (Stops stop r) = Stops stop (shift steps log r)

-- ---- two languages that match

-- lists that match one by one
abbrev pub Both : {A B : Type 0} → (A → B → Type 0) → List A → List B → Type 0
Both R [] [] = Unit {0}
Both R [] (y ∷ ys) = ⊥
Both R (x ∷ xs) [] = ⊥
Both R (x ∷ xs) (y ∷ ys) = R x y × Both R xs ys

abbrev pub Maybe : {A B : Type 0} → (A → B → Type 0) → Option A → Option B → Type 0
Maybe R None None = Unit {0}
Maybe R (Some x) (Some y) = R x y
Maybe R None (Some y) = ⊥
Maybe R (Some x) None = ⊥

abbrev pub MatchingCallees : (Value → Value → Type 0) → Callee → Callee → Type 0
MatchingCallees V (Function f) (Function g) = V (value.Fun f) (value.Fun g)
MatchingCallees V Printer Printer = Unit {0}
MatchingCallees V (Site a) (Site b) = a ≡ b
MatchingCallees V _ _ = ⊥

-- the same is printed; tables are read or written for what begins at the same place, with arguments that match
abbrev pub MatchingPrimitives : (Value → Value → Type 0) → Primitive → Primitive → Type 0
MatchingPrimitives V (Printing bytes) (Printing others) = (bytes ≡ others) × V (text bytes) (text others)
MatchingPrimitives V (Reading site args) (Reading other_site others) = (site ≡ other_site) × Both V args others
MatchingPrimitives V (Writing site args) (Writing other_site others) = (site ≡ other_site) × Both V args others
MatchingPrimitives V _ _ = ⊥

abbrev pub MatchingActs : {P Q : Type 0} → (P → Q → Type 0) → (Value → Value → Type 0) → Act P → Act Q → Type 0
MatchingActs R V (Give v) (Give w) = V v w
MatchingActs R V (Tail e) (Tail f) = R e f
MatchingActs R V (Goto mark g args e) (Goto other_mark h others f) = (mark ≡ other_mark) × V (value.Fun g) (value.Fun h) × Both V args others × R e f
MatchingActs R V (Uses mark one) (Uses other_mark other) = (mark ≡ other_mark) × MatchingPrimitives V one other
MatchingActs R V (Each at es) (Each other_at fs) = (at ≡ other_at) × Both R es fs
MatchingActs R V (Fails trap) (Fails other) = trap ≡ other
MatchingActs R V (Lacks at) (Lacks other_at) = at ≡ other_at
MatchingActs R V _ _ = ⊥

-- Two languages match by a relation of their points and one of their values: points that match are plain alike, their
-- parts match, and with values that match they do what matches.
pub record Match (l m : Language) (R : l.Point → m.Point → Type 0) (V : Value → Value → Type 0) : Type 0 where
  pub plain : (e : l.Point) (f : m.Point) → R e f → l.plain e ≡ m.plain f
  pub parts : (e : l.Point) (f : m.Point) → R e f → Both R (l.parts e) (m.parts f)
  pub acts : (e : l.Point) (f : m.Point) (values others : List Value) → R e f → Both V values others → MatchingActs R V (l.act e values) (m.act f others)
  -- lists of values that match do, those that tables give match themselves, and so does the unit value
  pub lists : (values others : List Value) → Both V values others → V (value.List values) (value.List others)
  pub listed : (v w : Value) → V v w → Maybe (Both V) (list_in v) (list_in w)
  pub rows : (rows : List Row) → V (rows_value rows) (rows_value rows)
  pub units : V unit unit

abbrev pub MatchingCrossings : (Value → Value → Type 0) → Crossing → Crossing → Type 0
MatchingCrossings V Within Within = Unit {0}
MatchingCrossings V (Called c args) (Called d others) = MatchingCallees V c d × Both V args others
MatchingCrossings V (Returned v) (Returned w) = V v w
MatchingCrossings V _ _ = ⊥

-- the same, with arguments of readings and writings that match
abbrev pub MatchingEvents : (Value → Value → Type 0) → Event → Event → Type 0
MatchingEvents V (Print bytes) (Print others) = bytes ≡ others
MatchingEvents V Enter Enter = Unit {0}
MatchingEvents V Leave Leave = Unit {0}
MatchingEvents V (Read d) (Read e) = (d.site ≡ e.site) × Both V d.args e.args × (d.answer ≡ e.answer)
MatchingEvents V (Write d) (Write e) = (d.site ≡ e.site) × Both V d.args e.args
MatchingEvents V _ _ = ⊥

abbrev pub MatchingEntries : (Value → Value → Type 0) → Entry → Entry → Type 0
MatchingEntries V d e = (d.number ≡ e.number) × MatchingEvents V d.event e.event × MatchingCrossings V d.crossing e.crossing

-- the same fuel, steps and answers; events with the same numbers and what crossed match
pub record MatchingRuns (V : Value → Value → Type 0) (r s : Run) : Type 0 where
  pub fuel : r.fuel ≡ s.fuel
  pub steps : r.steps ≡ s.steps
  pub log : Both (MatchingEntries V) r.log s.log
  pub answers : r.answers ≡ s.answers
  pub returns : Maybe (Both V) r.returns s.returns

abbrev pub MatchingStops : (Value → Value → Type 0) → Stop → Stop → Type 0
MatchingStops V (Trapped trap) (Trapped other) = trap ≡ other
MatchingStops V Spent Spent = Unit {0}
MatchingStops V (Waiting site args) (Waiting other_site others) = (site ≡ other_site) × Both V args others
MatchingStops V (Stuck at) (Stuck other_at) = at ≡ other_at
MatchingStops V (Asked c args) (Asked d others) = MatchingCallees V c d × Both V args others
MatchingStops V _ _ = ⊥

-- the same end up to what matches, in runs that match
abbrev pub MatchingOuts : (Value → Value → Type 0) → (A B : Type 0) → (A → B → Type 0) → Out A → Out B → Type 0
MatchingOuts V A B R (Goes a r) (Goes b s) = R a b × MatchingRuns V r s
MatchingOuts V A B R (Stops x r) (Stops y s) = MatchingStops V x y × MatchingRuns V r s
MatchingOuts V A B R _ _ = ⊥

-- ---- the laws, each of any language

-- Evaluation enters a point, and then it is evaluation of the parts and what the point does with their values; no depth is
-- seen.
abbrev pub EnteredLaw : Language → Type 0
EnteredLaw l = (point : l.Point) (place : Loc) (r : Run) → eval l point place r ≡ enter r (node l (eval l) point place)

-- The log that there was stays the first part of the log.
abbrev pub GrowsLaw : Language → Type 0
GrowsLaw l = (point : l.Point) (place : Loc) (r : Run) → Extends r.log (run_of (eval l point place r)).log

-- With more fuel, answers and returns an evaluation that has ended with a value, a trap or for want of a rule
-- ends so again, with as much more left, and another one has a longer log.
abbrev pub RicherLaw : Language → Type 0
RicherLaw l = (point : l.Point) (place : Loc) (r : Run) (fuel : ℕ) (answers : List (List Row)) (returns : List Value)
    → IsRicher fuel answers returns Value (eval l point place r) (eval l point place (richer fuel answers returns r))

-- An evaluation that begins so many steps later and after some entries is the same, so many steps later and after them.
abbrev pub ShiftedLaw : Language → Type 0
ShiftedLaw l = (point : l.Point) (place : Loc) (r : Run) (steps : ℕ) (log : List Entry)
    → eval l point place (shift steps log r) ≡ shifted steps log (eval l point place r)

-- An evaluation takes at most eight steps for each unit of fuel that it uses, and eight more.
abbrev pub BoundedLaw : Language → Type 0
BoundedLaw l = (point : l.Point) (place : Loc) (r : Run)
    → (run_of (eval l point place r)).steps ≤ r.steps + (8 * (r.fuel - (run_of (eval l point place r)).fuel) + 8)

-- ---- the laws of programs

-- a law of the language of each program
abbrev pub OfPrograms : (Language → Type 0) → Type 0
OfPrograms Law = (p : Program) → Law (source p)
