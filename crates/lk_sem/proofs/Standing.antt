-- What the evaluator's loop keeps.
use Rattle.std.proofs.Common.{◌≡◌, ℕ, ◌+◌, ◌-◌, List, [], ◌∷◌, ◌++◌, Option, Some, None, sym, ◌∙◌, subst}
use Rattle.std.specs.Borrow.{Bor}
use Rattle.std.specs.Prelude.{IfSome}
use Rattle.lk_ast.specs.Tables.{Tables}
use Rattle.lk_ast.specs.declared.declaration.Program.{Program}
use Rattle.lk_ast.specs.declared.event.Event.{Event}
use Rattle.lk_ast.specs.declared.event.Event.TheVariants as event
use Rattle.lk_ast.specs.declared.expression.Expr.{Expr}
use Rattle.lk_ast.specs.declared.place.Loc.{Loc}
use Rattle.lk_ast.specs.declared.table.Row.{Row}
use Rattle.lk_ast.specs.declared.value.Value.{Value}
use Rattle.lk_evaluation.specs.Evaluation.{eval}
use Rattle.lk_evaluation.specs.Run.{Run, Out}
use Rattle.lk_evaluation.specs.Source.{source, under}
use Rattle.lk_locals.specs.Names.{Names}
use Rattle.lk_operators.specs.Values.{unit}
use Rattle.lk_ast.specs.Rows.{rows_value}
use Rattle.lk_types.proofs.Members.{each_both}
use Rattle.lk_types.specs.Each.{Each}
use Rattle.lk_sem.specs.Frames.{returned}
use Rattle.lk_sem.specs.Machine.{Leads, LeadsWhole, after_read, after_write, frame_rest}
use Rattle.lk_sem.specs.Standing.{Stands}
use Rattle.lk_sem.specs.Writings.{HasChanged}
use Rattle.lk_sem.specs.declared.machine.Frame.{Frame as MachineFrame}
use Rattle.lk_sem.specs.declared.machine.Machine.{Machine}
use Rattle.lk_sem.specs.declared.machine.Next.{Next}
use Rattle.lk_sem.specs.declared.machine.Next.TheVariants as now
use Rattle.lk_sound.proofs.Legality.{past_quietly, past_followed}
use Rattle.lk_sound.specs.Histories.{AreFit, GoesQuietly, HasAnswer, HasFollowed, HasPast, IsQuiet, KeepsOthers, read_event, write_event}
use Rattle.lk_sem.proofs.Whole as whole

quiet_answered : (p : Program) (more : List Event) → Each IsQuiet more → Each (HasAnswer p) more
quiet_answered p [] calm = tt
quiet_answered p (e ∷ more) calm = (go e calm.0, quiet_answered p more calm.1)
  where
    go : (e : Event) → IsQuiet e → HasAnswer p e
    go (event.Print bytes) h = tt
    go event.Enter h = tt
    go event.Leave h = tt
    go (event.Read r) h = absurd h
    go (event.Write w) h = absurd h

answered_quietly : (p : Program) (before after : List Event) → Each (HasAnswer p) before → GoesQuietly before after → Each (HasAnswer p) after
answered_quietly p before after all q = subst (Each (HasAnswer p)) (sym q.log) (each_both (HasAnswer p) before q.more all (quiet_answered p q.more q.quiet))

-- where the tables are told after a writing, what it makes of them
followed_by : (p : Program) (site : ℕ) (args : List Value) (old new : Option Tables) → HasChanged p site args old new → HasFollowed p old new (write_event site args)
followed_by p site args None new changed = tt
followed_by p site args (Some before) None changed = absurd changed
followed_by p site args (Some before) (Some after) changed = changed.follows

-- and they fit, as before
pub fit_by : (p : Program) (site : ℕ) (args : List Value) (old new : Option Tables) → HasChanged p site args old new → AreFit p old → AreFit p new
fit_by p site args None new changed fit = subst (AreFit p) (sym changed) tt
fit_by p site args (Some before) None changed fit = absurd changed
fit_by p site args (Some before) (Some after) changed fit = changed.fit fit

pub past_written : (p : Program) (old mid new : Option Tables) (site : ℕ) (args : List Value) (log : List Event) → HasPast p old mid log → HasChanged p site args mid new → HasPast p old new (log ++ write_event site args ∷ [])
past_written p old mid new site args log past changed = past_followed p old mid new log (write_event site args) past (followed_by p site args mid new changed)

-- tables that the program doesn't declare are as they were, also after a writing
kept_on : (p : Program) (site : ℕ) (args : List Value) (old told after : Option Tables) → KeepsOthers p old told → HasChanged p site args told after → KeepsOthers p old after
kept_on p site args None told after keeps changed x undeclared = tt
kept_on p site args (Some before) None after keeps changed x undeclared = subst (λ o. IfSome o (λ tables. tables x ≡ before x)) (sym changed) tt
kept_on p site args (Some before) (Some tables) None keeps changed x undeclared = absurd changed
kept_on p site args (Some before) (Some tables) (Some last) keeps changed x undeclared = changed.others x undeclared ∙ keeps x undeclared

module _ (p : Program) (first : Machine) (o : Run → Out Value) (old told : Option Tables) where
  -- nothing of tables was done
  stands_quietly : (m new : Machine) (last next : Next) → LeadsWhole p first o new next → GoesQuietly m.log new.log → Stands p first o old told m last → Stands p first o old told new next
  stands_quietly m new last next g q s = record {
    leads = g;
    answered = answered_quietly p m.log new.log s.answered q;
    past = past_quietly p old told m.log new.log s.past q;
    fit = s.fit;
    others = s.others;
  }

  pub stands_enter : (m new : Machine) (last next : Next) (e : Bor Expr) (scope : Names) (place : Loc) → last ≡ now.Enter e scope place → Stands p first o old told m last → Leads p m (eval (source p) (under scope e.now) place) new next → Stands p first o old told new next
  stands_enter m new last next e scope place is s l = stands_quietly m new last next (whole.goes_enter p first o m new last next e scope place is s.leads l) l.quiet s

  pub stands_give : (m new : Machine) (last next : Next) (f : MachineFrame) (v : Value) (stack : List MachineFrame) → last ≡ now.Give v → m.stack ≡ stack ++ f ∷ [] → Stands p first o old told m last
      → Leads p (record { stack = stack; log = m.log; fuel = m.fuel }) (frame_rest p f v) new next → Stands p first o old told new next
  stands_give m new last next f v stack is popped s l = stands_quietly m new last next (whole.goes_give p first o m new last next f v stack is popped s.leads l) l.quiet s

  pub stands_read : (m new : Machine) (last next : Next) (back : Loc) (site : ℕ) (args : List Value) (rows : List Row) → last ≡ now.Read back site args → Stands p first o old told m last
      → HasAnswer p (read_event site args rows) → HasFollowed p told told (read_event site args rows)
      → Leads p (after_read site args rows m) (returned back (rows_value rows)) new next → Stands p first o old told new next
  stands_read m new last next back site args rows is s answer followed l = record {
    leads = whole.goes_read p first o m new last next back site args rows is s.leads l;
    answered = answered_quietly p (m.log ++ read_event site args rows ∷ []) new.log (each_both (HasAnswer p) m.log (read_event site args rows ∷ []) s.answered (answer, tt)) l.quiet;
    past = past_quietly p old told (m.log ++ read_event site args rows ∷ []) new.log (past_followed p old told told m.log (read_event site args rows) s.past followed) l.quiet;
    fit = s.fit;
    others = s.others;
  }

  pub stands_write : (after : Option Tables) (m new : Machine) (last next : Next) (back : Loc) (site : ℕ) (args : List Value) → last ≡ now.Write back site args → Stands p first o old told m last
      → HasChanged p site args told after → Leads p (after_write site args m) (returned back unit) new next → Stands p first o old after new next
  stands_write after m new last next back site args is s changed l = record {
    leads = whole.goes_write p first o m new last next back site args is s.leads l;
    answered = answered_quietly p (m.log ++ write_event site args ∷ []) new.log (each_both (HasAnswer p) m.log (write_event site args ∷ []) s.answered (tt, tt)) l.quiet;
    past = past_quietly p old after (m.log ++ write_event site args ∷ []) new.log (past_written p old told after site args m.log s.past changed) l.quiet;
    fit = fit_by p site args told after changed s.fit;
    others = kept_on p site args old told after s.others changed;
  }
