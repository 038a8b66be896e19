-- What labels and frames do only gets later, and frames behind others go on where those end.
use Rattle.std.proofs.Common.{◌≡◌, refl, sym, ℕ, ◌≤◌, Bool, true, false, List, [], ◌∷◌, ◌++◌, Option, Some, None, append-nil, arith}
use Rattle.std.specs.Prelude.{nat_lt, if◌then◌else◌}
use Rattle.lk_ast.specs.declared.event.Event.{Event}
use Rattle.lk_ast.specs.declared.place.Loc.{Loc}
use Rattle.lk_ast.specs.declared.table.Row.{Row}
use Rattle.lk_ast.specs.declared.value.Value.{Value}
use Rattle.lk_evaluation.specs.Evaluation.{Primitive, Printing, Reading, Writing, reading}
use Rattle.lk_evaluation.specs.Laws.{run_of}
use Rattle.lk_evaluation.specs.Run.{Crossing, Entry, Out, Goes, Run, Stops, and_then, logs}
use Rattle.lk_ir.specs.LetNormal.{Point}
use Rattle.lk_ir.specs.Tables.{body_at}
use Rattle.lk_ir.specs.declared.nodes.Body.{Body}
use Rattle.lk_moves.proofs.Rising.{evaluated, later_law}
use Rattle.lk_moves.specs.Frames as frames
use Rattle.lk_moves.specs.Later.{Later, Reaches}
use Rattle.lk_code.specs.Law.{AreLater}
use Rattle.lk_code.specs.Meaning.{continues_as, does_body, does_kind, does_primitive, entered, frame_meant, goes_on, kind_at, language, primitive, rest}
use Rattle.lk_code.specs.Tables.{first_frame}
use Rattle.lk_code.specs.declared.infos.FunKind.{FunKind}
use Rattle.lk_code.specs.declared.infos.FunKind.TheVariants as fun
use Rattle.lk_code.specs.declared.tables.CodeTables.{CodeTables}
use Rattle.lk_code.specs.declared.tables.Frame.{Frame}

-- ---- frames behind others

behind_both : (out : Out Value) (k l m : Value → Run → Out Value) → ((v : Value) (r : Run) → l v r ≡ and_then (k v r) m) → and_then out l ≡ and_then (and_then out k) m
behind_both (Goes v r) k l m same = same v r
behind_both (Stops stop r) k l m same = refl

pub frames_law : (c : CodeTables) (fs gs : List Frame) (place : Loc) (v : Value) (r : Run) → rest c (fs ++ gs) place v r ≡ and_then (rest c fs place v r) (rest c gs place)
frames_law c [] gs place v r = refl
frames_law c (f ∷ fs) gs place v r = behind_both (goes_on c place f v r) (rest c fs place) (rest c (fs ++ gs) place) (rest c gs place) (frames_law c fs gs place)

-- ---- later

at_once : (r : Run) → Reaches r.steps r.log r
at_once r = record { more = []; logged = sym (append-nil r.log); rise = let e : r.steps ≤ r.steps = omega arith in e }

with_entry : (event : Event) (what : Crossing) (r : Run) → Reaches r.steps r.log (logs event what r)
with_entry event what r =
    let same : r.steps ≤ r.steps = omega arith in
    record { more = record { number = r.steps; event = event; crossing = what } ∷ []; logged = refl; rise = (same, same) }

reading_later : (site : ℕ) (args : List Value) (answers : List (List Row)) (r : Run) → Later r.steps r (reading site args answers r)
reading_later site args [] r = at_once r
reading_later site args (answer ∷ later) r = let one = with_entry _ _ (record r { answers = later }) in record { more = one.more; logged = one.logged; rise = one.rise }

primitive_later : (c : CodeTables) (p : Option Primitive) (r : Run) → Later r.steps r (does_primitive c p r)
primitive_later c None r = at_once r
primitive_later c (Some (Printing bytes)) r = with_entry _ _ r
primitive_later c (Some (Reading site args)) r = reading_later site args r.answers r
primitive_later c (Some (Writing site args)) r = with_entry _ _ r

body_later : (c : CodeTables) (b : Option Body) (args : List Value) (place : Loc) (r : Run) → Later r.steps r (does_body c b args place r)
body_later c None args place r = at_once r
body_later c (Some b) args place r = evaluated (language c) (entered c b args) place r

kind_later : (c : CodeTables) (kind : Option FunKind) (label : ℕ) (args : List Value) (place : Loc) (r : Run) → Later r.steps r (does_kind c kind label args place r)
kind_later c None label args place r = at_once r
kind_later c (Some fun.Top) label args place r = body_later c (body_at c.forms label) args place r
kind_later c (Some fun.Lambda) label args place r = body_later c (body_at c.forms label) args place r
kind_later c (Some fun.Print) label args place r = primitive_later c (primitive c fun.Print label args) r
kind_later c (Some fun.Query) label args place r = primitive_later c (primitive c fun.Query label args) r
kind_later c (Some fun.TableRead) label args place r = primitive_later c (primitive c fun.TableRead label args) r
kind_later c (Some fun.Insert) label args place r = primitive_later c (primitive c fun.Insert label args) r
kind_later c (Some fun.Update) label args place r = primitive_later c (primitive c fun.Update label args) r
kind_later c (Some fun.Delete) label args place r = primitive_later c (primitive c fun.Delete label args) r

module _ (c : CodeTables) (place : Loc) (first : ℕ) (log : List Entry) where
  abbrev Gets : Out Value → Type 0
  Gets out = Reaches first log (run_of out)

  continues_reaches : (frame : Option (frames.Frame Point)) (v : Value) (r : Run) → Reaches first log r → Gets (continues_as c frame v r)
  continues_reaches None v r reached = reached
  continues_reaches (Some frame) v r reached = (later_law (language c)).wound_later (frame ∷ []) first (record r { log = log }) (Goes v r) reached

  goes_on_reaches : (b : Bool) (frame : Option (frames.Frame Point)) (v : Value) (r : Run) → Reaches first log r → Gets ((if b then Goes v else continues_as c frame v) r)
  goes_on_reaches true frame v r reached = reached
  goes_on_reaches false frame v r reached = continues_reaches frame v r reached

  pub then_reaches : (out : Out Value) (k : Value → Run → Out Value) → Gets out → ((v : Value) (r : Run) → Reaches first log r → Gets (k v r)) → Gets (and_then out k)
  then_reaches (Goes v r) k reached next = next v r reached
  then_reaches (Stops stop r) k reached next = reached

  pub rest_reaches : (fs : List Frame) (v : Value) (r : Run) → Reaches first log r → Gets (rest c fs place v r)
  rest_reaches [] v r reached = reached
  rest_reaches (f ∷ fs) v r reached = then_reaches (goes_on c place f v r) (rest c fs place) (goes_on_reaches (nat_lt f.number (first_frame c)) (frame_meant c place f) v r reached) (rest_reaches fs)

pub are_later : (c : CodeTables) → AreLater c
are_later c = record {
  label = λ label args place r. kind_later c (kind_at c label) label args place r;
  frames = λ fs place v r. rest_reaches c place r.steps r.log fs v r (at_once r);
}
