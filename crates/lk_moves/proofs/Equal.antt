-- What matches by equality is equal, and everything matches itself.
use Rattle.std.proofs.Common.{◌≡◌, refl, sym, ap, ap₂, ◌∙◌, List, [], ◌∷◌, Option, Some, None}
use Rattle.lk_ast.specs.declared.event.Event.{Event}
use Rattle.lk_ast.specs.declared.event.Event.TheVariants.{Print, Enter, Leave, Read, Write}
use Rattle.lk_ast.specs.declared.event.ReadEvent.{ReadEvent}
use Rattle.lk_ast.specs.declared.event.WriteEvent.{WriteEvent}
use Rattle.lk_ast.specs.declared.value.FunValue.{FunValue}
use Rattle.lk_ast.specs.declared.value.Value.{Value}
use Rattle.lk_ast.specs.declared.value.Value.TheVariants as value
use Rattle.lk_evaluation.specs.Laws.{Both, Maybe, MatchingCallees, MatchingCrossings, MatchingEvents, MatchingEntries, MatchingRuns, MatchingStops, MatchingOuts}
use Rattle.lk_evaluation.specs.Run.{Run, Entry, Out, Goes, Stops, Stop, Trapped, Spent, Waiting, Stuck, Asked, Callee, Function, Printer, Site, Crossing, Within, Called, Returned}
use Rattle.lk_operators.specs.Values.{fun_in}
use Rattle.lk_moves.specs.Laws.{Equal}

-- ---- lists

pub both_same : (values : List Value) → Both Equal values values
both_same [] = tt
both_same (v ∷ values) = (refl, both_same values)

pub values_same : (values others : List Value) → Both Equal values others → values ≡ others
values_same [] [] both = refl
values_same [] (w ∷ others) both = absurd both
values_same (v ∷ values) [] both = absurd both
values_same (v ∷ values) (w ∷ others) both = ap₂ (λ x xs. x ∷ xs) both.0 (values_same values others both.1)

maybe_values : (o q : Option (List Value)) → Maybe (Both Equal) o q → o ≡ q
maybe_values None None is = refl
maybe_values None (Some others) is = absurd is
maybe_values (Some values) None is = absurd is
maybe_values (Some values) (Some others) is = ap Some (values_same values others is)

pub maybe_itself : (o : Option (List Value)) → Maybe (Both Equal) o o
maybe_itself None = tt
maybe_itself (Some values) = both_same values

-- ---- entries

fun_shown : (f : FunValue) → fun_in (value.Fun f) ≡ Some f
fun_shown f = simp (value.outs-Fun)

same_some : {A : Type 0} {x y : A} → Some x ≡ Some y → x ≡ y
same_some is = cc

functions_same : (f g : FunValue) → value.Fun f ≡ value.Fun g → f ≡ g
functions_same f g is = same_some (sym (fun_shown f) ∙ ap fun_in is ∙ fun_shown g)

callees_same : (c d : Callee) → MatchingCallees Equal c d → c ≡ d
callees_same (Function f) (Function g) is = ap Function (functions_same f g is)
callees_same Printer Printer is = refl
callees_same (Site a) (Site b) is = ap Site is
callees_same (Function f) Printer is = absurd is
callees_same (Function f) (Site b) is = absurd is
callees_same Printer (Function g) is = absurd is
callees_same Printer (Site b) is = absurd is
callees_same (Site a) (Function g) is = absurd is
callees_same (Site a) Printer is = absurd is

callee_itself : (c : Callee) → MatchingCallees Equal c c
callee_itself (Function f) = refl
callee_itself Printer = tt
callee_itself (Site a) = refl

crossings_same : (c d : Crossing) → MatchingCrossings Equal c d → c ≡ d
crossings_same Within Within is = refl
crossings_same (Called c args) (Called d others) is = ap₂ Called (callees_same c d is.0) (values_same args others is.1)
crossings_same (Returned v) (Returned w) is = ap Returned is
crossings_same Within (Called d others) is = absurd is
crossings_same Within (Returned w) is = absurd is
crossings_same (Called c args) Within is = absurd is
crossings_same (Called c args) (Returned w) is = absurd is
crossings_same (Returned v) Within is = absurd is
crossings_same (Returned v) (Called d others) is = absurd is

crossing_itself : (c : Crossing) → MatchingCrossings Equal c c
crossing_itself Within = tt
crossing_itself (Called c args) = (callee_itself c, both_same args)
crossing_itself (Returned v) = refl

readings_same : (d e : ReadEvent) → d.site ≡ e.site → d.args ≡ e.args → d.answer ≡ e.answer → d ≡ e
readings_same d e site args answer i = record { site = site i; args = args i; answer = answer i }

writings_same : (d e : WriteEvent) → d.site ≡ e.site → d.args ≡ e.args → d ≡ e
writings_same d e site args i = record { site = site i; args = args i }

events_same : (d e : Event) → MatchingEvents Equal d e → d ≡ e
events_same (Print bytes) (Print others) is = ap Print is
events_same Enter Enter is = refl
events_same Leave Leave is = refl
events_same (Read d) (Read e) is = ap Read (readings_same d e is.0 (values_same d.args e.args is.1) is.2)
events_same (Write d) (Write e) is = ap Write (writings_same d e is.0 (values_same d.args e.args is.1))
events_same _ _ is = absurd is

event_itself : (d : Event) → MatchingEvents Equal d d
event_itself (Print bytes) = refl
event_itself Enter = tt
event_itself Leave = tt
event_itself (Read d) = (refl, both_same d.args, refl)
event_itself (Write d) = (refl, both_same d.args)

entries_same : (d e : Entry) → MatchingEntries Equal d e → d ≡ e
entries_same d e is =
    let event : d.event ≡ e.event = events_same d.event e.event is.1 in
    let crossing : d.crossing ≡ e.crossing = crossings_same d.crossing e.crossing is.2 in
    λ i. record { number = is.0 i; event = event i; crossing = crossing i }

logs_same : (log others : List Entry) → Both (MatchingEntries Equal) log others → log ≡ others
logs_same [] [] is = refl
logs_same [] (e ∷ others) is = absurd is
logs_same (d ∷ log) [] is = absurd is
logs_same (d ∷ log) (e ∷ others) is = ap₂ (λ x xs. x ∷ xs) (entries_same d e is.0) (logs_same log others is.1)

log_itself : (log : List Entry) → Both (MatchingEntries Equal) log log
log_itself [] = tt
log_itself (d ∷ log) = ((refl, event_itself d.event, crossing_itself d.crossing), log_itself log)

-- ---- runs and ends

pub run_itself : (r : Run) → MatchingRuns Equal r r
run_itself r = record { fuel = refl; steps = refl; log = log_itself r.log; answers = refl; returns = maybe_itself r.returns }

pub runs_same : (r s : Run) → MatchingRuns Equal r s → r ≡ s
runs_same r s is =
    let log : r.log ≡ s.log = logs_same r.log s.log is.log in
    let returns : r.returns ≡ s.returns = maybe_values r.returns s.returns is.returns in
    λ i. record { fuel = is.fuel i; steps = is.steps i; log = log i; answers = is.answers i; returns = returns i }

stops_same : (x y : Stop) → MatchingStops Equal x y → x ≡ y
stops_same (Trapped trap) (Trapped other) is = ap Trapped is
stops_same Spent Spent is = refl
stops_same (Waiting site args) (Waiting other others) is = ap₂ Waiting is.0 (values_same args others is.1)
stops_same (Stuck at) (Stuck other) is = ap Stuck is
stops_same (Asked c args) (Asked d others) is = ap₂ Asked (callees_same c d is.0) (values_same args others is.1)
stops_same _ _ is = absurd is

pub outs_same : (a b : Out Value) → MatchingOuts Equal Value Value Equal a b → a ≡ b
outs_same (Goes v r) (Goes w s) is = ap₂ Goes is.0 (runs_same r s is.1)
outs_same (Stops x r) (Stops y s) is = ap₂ Stops (stops_same x y is.0) (runs_same r s is.1)
outs_same (Goes v r) (Stops y s) is = absurd is
outs_same (Stops x r) (Goes w s) is = absurd is
