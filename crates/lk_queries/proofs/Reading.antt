-- Evaluations that only read, one after another.
use Rattle.std.proofs.Common.{◌≡◌, arith, refl, sym, ap, ap₂, ◌∙◌, subst, ℕ, zero, suc, ◌+◌, Bool, true, false, List, [], ◌∷◌, ◌++◌, append_assoc, append-nil, map, Some}
use Rattle.lk_ast.specs.Rows.{row_value, rows_value}
use Rattle.lk_ast.specs.Tables.{Tables}
use Rattle.lk_ast.specs.declared.declaration.Program.{Program}
use Rattle.lk_ast.specs.declared.event.Event.{Event}
use Rattle.lk_ast.specs.declared.event.Event.TheVariants.{Print, Enter, Leave, Read, Write}
use Rattle.lk_ast.specs.declared.expression.Expr.{Expr}
use Rattle.lk_ast.specs.declared.table.Row.{Row}
use Rattle.lk_ast.specs.declared.value.Value.{Value}
use Rattle.lk_bag.specs.Blocks.{block_at}
use Rattle.lk_bag.specs.Legal.{bag}
use Rattle.lk_evaluation.specs.Evaluation.{handed, reading}
use Rattle.lk_evaluation.specs.Run.{Run, Entry, Out, Goes, Stops, Trapped, Spent, Waiting, Stuck, Asked, and_then, enter, enter_with, Within, answers_in, events_of}
use Rattle.lk_types.proofs.Members.{each_both}
use Rattle.lk_queries.specs.Law.{IsListed, Reads, EndsWith, Ends}

-- the answers of entries one after another
pub answers_both : (es fs : List Entry) → answers_in (events_of (es ++ fs)) ≡ answers_in (events_of es) ++ answers_in (events_of fs)
answers_both [] fs = refl
answers_both (e ∷ es) fs = by_event e.event (answers_both es fs)
  where
    by_event : (event : Event) → answers_in (events_of (es ++ fs)) ≡ answers_in (events_of es) ++ answers_in (events_of fs)
        → answers_in (event ∷ events_of (es ++ fs)) ≡ answers_in (event ∷ events_of es) ++ answers_in (events_of fs)
    by_event (Print bytes) is = is
    by_event Enter is = is
    by_event Leave is = is
    by_event (Read read) is = ap (λ xs. read.answer ∷ xs) is
    by_event (Write write) is = is

module _ (p : Program) (tables : Tables) where
  -- another run with the same log, answers and returns
  pub reads_same : (r s : Run) → s.log ≡ r.log → s.answers ≡ r.answers → s.returns ≡ r.returns → Reads p tables r s
  reads_same r s log answers returns = record { more = []; log = log ∙ sym (append-nil r.log); listed = tt; taken = sym answers; returns = returns }

  pub reads_itself : (r : Run) → Reads p tables r r
  reads_itself r = reads_same r r refl refl refl

  pub reads_then : (r s u : Run) → Reads p tables r s → Reads p tables s u → Reads p tables r u
  reads_then r s u one two = record {
    more = one.more ++ two.more;
    log = two.log ∙ ap (λ x. x ++ two.more) one.log ∙ append_assoc r.log one.more two.more;
    listed = each_both (IsListed p tables) one.more two.more one.listed two.listed;
    taken = one.taken ∙ ap (λ x. answers_in (events_of one.more) ++ x) two.taken
        ∙ sym (append_assoc (answers_in (events_of one.more)) (answers_in (events_of two.more)) u.answers)
        ∙ ap (λ x. x ++ u.answers) (sym (answers_both one.more two.more));
    returns = two.returns ∙ one.returns;
  }

  -- what comes behind a run that has used so much fuel
  pub after : (B : Type 0) (b : B) (m n total : ℕ) (later : List (List Row)) (r s : Run) (out : Out B) → total ≡ m + n → r.fuel ≡ m + s.fuel → Reads p tables r s
      → EndsWith p tables B b n later s out → EndsWith p tables B b total later r out
  after B b m n total later r s (Goes w u) all used reads (same, left, answers, more) = (same, omega arith, answers, reads_then r s u reads more)
  after B b m n total later r s (Stops Spent u) all used reads (less, left, more) = (omega arith, left, reads_then r s u reads more)
  after B b m n total later r s (Stops (Trapped trap) u) all used reads never = never
  after B b m n total later r s (Stops (Waiting site args) u) all used reads never = never
  after B b m n total later r s (Stops (Stuck at) u) all used reads never = never
  after B b m n total later r s (Stops (Asked callee args) u) all used reads never = never

  -- what is evaluated, where tables may be scanned or not
  module _ (scans : Bool) where
    module _ {A B : Type 0} (a : A) (b : B) (f : Run → Out A) (k : A → Run → Out B) (one : Ends p tables scans A a f) (two : Ends p tables scans B b (k a)) where
      joined : (r : Run) (later : List (List Row)) (out : Out A) → EndsWith p tables A a one.fuel (two.answers ++ later) r out → EndsWith p tables B b (one.fuel + two.fuel) later r (and_then out k)
      joined r later (Goes w s) (same, used, left, reads) =
          subst (λ x. EndsWith p tables B b (one.fuel + two.fuel) later r (k x s)) (sym same)
          (after B b one.fuel two.fuel (one.fuel + two.fuel) later r s (k a s) refl used reads (two.ends s later left))
      joined r later (Stops Spent s) (less, (left, is), reads) = (omega arith, (left ++ two.answers, is ∙ sym (append_assoc left two.answers later)), reads)
      joined r later (Stops (Trapped trap) s) never = never
      joined r later (Stops (Waiting site args) s) never = never
      joined r later (Stops (Stuck at) s) never = never
      joined r later (Stops (Asked callee args) s) never = never

      -- one after another
      pub then : Ends p tables scans B b (λ r. and_then (f r) k)
      then = record {
        fuel = one.fuel + two.fuel;
        answers = one.answers ++ two.answers;
        silent = λ off. ap₂ (λ xs ys. xs ++ ys) (one.silent off) (two.silent off);
        ends = λ r later is. joined r later (f r) (one.ends r (two.answers ++ later) (is ∙ append_assoc one.answers two.answers later));
      }

    -- a value that is there
    pub gone : (A : Type 0) (a : A) → Ends p tables scans A a (Goes a)
    gone A a = record { fuel = 0; answers = []; silent = λ off. refl; ends = λ r later is. (refl, omega arith, is, reads_itself r) }

    handed_reads : (plain : Bool) (r : Run) → Reads p tables r (handed plain r)
    handed_reads true r = reads_itself r
    handed_reads false r = reads_same r _ refl refl refl

    handed_fuel : (plain : Bool) (r : Run) → r.fuel ≡ 0 + (handed plain r).fuel
    handed_fuel true r = omega arith
    handed_fuel false r = omega arith

    handed_answers : (plain : Bool) (r : Run) → (handed plain r).answers ≡ r.answers
    handed_answers true r = refl
    handed_answers false r = refl

    -- a value that is handed on
    pub handed_on : (v : Value) (plain : Bool) → Ends p tables scans Value v (λ r. Goes v (handed plain r))
    handed_on v plain = record { fuel = 0; answers = []; silent = λ off. refl; ends = λ r later is. (refl, handed_fuel plain r, handed_answers plain r ∙ is, handed_reads plain r) }

    -- a point that is entered
    pub entered : (v : Value) (f : Run → Out Value) → Ends p tables scans Value v f → Ends p tables scans Value v (λ r. enter r f)
    entered v f one = record { fuel = suc one.fuel; answers = one.answers; silent = one.silent; ends = λ r later is. by_fuel r later is r.fuel refl }
      where
        by_fuel : (r : Run) (later : List (List Row)) → r.answers ≡ one.answers ++ later → (n : ℕ) → r.fuel ≡ n → EndsWith p tables Value v (suc one.fuel) later r (enter_with n r f)
        by_fuel r later is zero none = (omega arith, (one.answers, is), reads_itself r)
        by_fuel r later is (suc left) some =
            let s : Run = record r { fuel = left; steps = r.steps + 1 } in
            after Value v 1 one.fuel (suc one.fuel) later r s (f s) (omega arith) (omega arith) (reads_same r s refl refl refl) (one.ends s later is)

    -- a reading whose answer is what is listed
    pub read : scans ≡ true → (site : ℕ) (args : List Value) (answer : List Row) (block : Expr) → block_at p site ≡ Some block → bag p tables block args ≡ map row_value answer
        → Ends p tables scans Value (rows_value answer) (λ r. reading site args r.answers r)
    read on site args answer block there listing = record {
      fuel = 0;
      answers = answer ∷ [];
      silent = λ off. let wrong : true ≡ false = sym on ∙ off in absurd cc;
      ends = λ r later is. subst (λ x. EndsWith p tables Value (rows_value answer) 0 later r (reading site args x r)) (sym is) (
        refl,
        omega arith,
        refl,
        record {
          more = record { number = r.steps; event = Read (record { site = site; args = args; answer = answer }); crossing = Within } ∷ [];
          log = refl;
          listed = (((block, there, listing), refl), tt);
          taken = is;
          returns = refl;
        },
      );
    }

    -- the same evaluation, the same value
    pub same_run : (v : Value) (f g : Run → Out Value) → ((r : Run) → f r ≡ g r) → Ends p tables scans Value v g → Ends p tables scans Value v f
    same_run v f g same one = record { fuel = one.fuel; answers = one.answers; silent = one.silent; ends = λ r later is. subst (EndsWith p tables Value v one.fuel later r) (sym (same r)) (one.ends r later is) }

    pub same_value : (A : Type 0) (v w : A) (f : Run → Out A) → v ≡ w → Ends p tables scans A v f → Ends p tables scans A w f
    same_value A v w f same one = subst (λ x. Ends p tables scans A x f) same one
