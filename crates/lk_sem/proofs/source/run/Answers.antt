use Rattle.std.proofs.Common.{rules, refl, sym, subst, ◌∙◌}
use Rattle.std.proofs.lemmas.Result.{IfOk-weaker}
use Rattle.lk_sem.specs.Machine.{outcome}
use Rattle.lk_sem.specs.SourceRuns.{IsOverfull}
use Rattle.lk_sem.specs.Standing.{Ends, Stands}
use Rattle.lk_sem.specs.declared.run.SourceEnd.TheVariants.{TableFull}
use Rattle.lk_sound.specs.Tables.{IsReading, IsWriting}
use Rattle.lk_sem.proofs.Begun.{first_history, first_read, first_written}
use Rattle.lk_sem.proofs.Commits.{commits_quietly, commits_read, commits_write}
use Rattle.lk_sem.proofs.Ending.{ends_as, ends_full, ends_halt, ends_read, ends_value, ends_write, if_err, never_stuck}
use Rattle.lk_sem.proofs.Sound.{reading_here, writing_here}
use Rattle.lk_sem.proofs.Standing.{stands_enter, stands_give, stands_read, stands_write}
use Rattle.lk_sem.proofs.Whole.{give_smaller}
use Rattle.lk_sem.proofs.source.run.Goals as goal

pub returns-in_err-next-in-Enter-clause-refused : goal.returns-in_err-next-in-Enter-clause-refused
returns-in_err-next-in-Enter-clause-refused g c =
    if_err _ c.from_residual.result (first_history c.args.catalog.now c.args.machine.now c.loop-next.machine (outcome c.args.catalog.now c.args.first) c.args.machine.now.fuel c.requires.log refl c.requires.sound c.loop-next.next _ _ c.loop-next.invariant.stands
    ((goal.Store-dyn g c.args.store.now).commits c.args.store.now.1) _ _ refl c.loop-next.invariant.commits)

pub returns-in_err-next-in-Some-clause-refused : goal.returns-in_err-next-in-Some-clause-refused
returns-in_err-next-in-Some-clause-refused g c =
    if_err _ c.from_residual-in_err-next-in-Some.result (first_history c.args.catalog.now c.args.machine.now c.loop-next.machine (outcome c.args.catalog.now c.args.first) c.args.machine.now.fuel c.requires.log refl c.requires.sound c.loop-next.next _ _ c.loop-next.invariant.stands
    ((goal.Store-dyn g c.args.store.now).commits c.args.store.now.1) _ _ refl c.loop-next.invariant.commits)

pub returns-in-None-clause-ends : goal.returns-in-None-clause-ends
returns-in-None-clause-ends g c = ends_value c.args.catalog.now c.args.machine.now c.loop-next.machine (outcome c.args.catalog.now c.args.first) c.args.machine.now.fuel c.requires.log refl c.requires.sound c.loop-next.next _ _ c.loop-next.invariant.stands c.in-Give.value c.pop.new.self c.in-Give.is c.in-None.ensures.0

pub read_at-requires-clause-reading : goal.read_at-requires-clause-reading
read_at-requires-clause-reading g c =
    subst (IsReading c.args.catalog.now c.in-Read.site) (sym c.as_slice.ensures)
    (reading_here c.args.catalog.now c.args.machine.now c.loop-next.machine (outcome c.args.catalog.now c.args.first) c.args.machine.now.fuel c.requires.log refl c.requires.sound c.loop-next.next c.loop-next.invariant.stands.leads c.loop-next.invariant.stands.answered c.in-Read.back c.in-Read.site c.in-Read.args c.in-Read.is)

pub returns-in_err-next-in-Ok-clause-refused : goal.returns-in_err-next-in-Ok-clause-refused
returns-in_err-next-in-Ok-clause-refused g c =
    if_err _ c.from_residual-in_err-next-in-Ok.result (first_read c.args.catalog.now c.args.machine.now c.loop-next.machine (outcome c.args.catalog.now c.args.first) c.args.machine.now.fuel c.requires.log refl c.requires.sound c.loop-next.next _ _ c.loop-next.invariant.stands
    ((goal.Store-dyn g c.args.store.now).commits c.args.store.now.1) _ _ _ c.in-Read.back c.in-Read.site c.in-Read.args c.in-Ok.rows c.in-Read.is c.read_at.ensures.tables
    (rw c.as_slice.ensures at c.in-Ok.ensures.answered) (rw c.as_slice.ensures at c.in-Ok.ensures.follows) c.loop-next.invariant.commits c.in-Ok.ensures.counted)

pub returns-in-Err-clause-refused : goal.returns-in-Err-clause-refused
returns-in-Err-clause-refused g c =
    if_err _ c.refused.result (first_history c.args.catalog.now c.args.machine.now c.loop-next.machine (outcome c.args.catalog.now c.args.first) c.args.machine.now.fuel c.requires.log refl c.requires.sound c.loop-next.next _ _ c.loop-next.invariant.stands
    ((goal.Store-dyn g c.args.store.now).commits c.args.store.now.1) _ _ c.read_at.ensures.tables (c.in-Err.ensures.uncounted ∙ c.loop-next.invariant.commits))

pub write_at-requires-clause-writing : goal.write_at-requires-clause-writing
write_at-requires-clause-writing g c =
    subst (IsWriting c.args.catalog.now c.in-Write.site) (sym c.as_slice-in-Write.ensures)
    (writing_here c.args.catalog.now c.args.machine.now c.loop-next.machine (outcome c.args.catalog.now c.args.first) c.args.machine.now.fuel c.requires.log refl c.requires.sound c.loop-next.next c.loop-next.invariant.stands.leads c.loop-next.invariant.stands.answered c.in-Write.back c.in-Write.site c.in-Write.args c.in-Write.is)

pub returns-in_err-next-in-Ok-Done-clause-refused : goal.returns-in_err-next-in-Ok-Done-clause-refused
returns-in_err-next-in-Ok-Done-clause-refused g c =
    if_err _ c.from_residual-in_err-next-in-Ok-Done.result (first_written c.args.catalog.now c.args.machine.now c.loop-next.machine (outcome c.args.catalog.now c.args.first) c.args.machine.now.fuel c.requires.log refl c.requires.sound c.loop-next.next _ _ c.loop-next.invariant.stands
    ((goal.Store-dyn g c.args.store.now).commits c.args.store.now.1) _ _ _ c.in-Write.back c.in-Write.site c.in-Write.args c.in-Write.is
    (rw (c.in-Ok-Done.field-0-is, c.as_slice-in-Write.ensures) at c.in-Ok-Done.ensures.written) c.loop-next.invariant.commits (rw c.in-Ok-Done.field-0-is at c.in-Ok-Done.ensures.counted))

pub returns-in-Ok-Full-clause-ends : goal.returns-in-Ok-Full-clause-ends
returns-in-Ok-Full-clause-ends g c =
    let full = rw c.in-Ok-Full.field-0-is at c.in-Ok-Full.ensures.written in
    subst (λ told. Ends c.args.catalog.now (outcome c.args.catalog.now c.args.first) c.args.machine.now.fuel ((goal.Store-dyn g c.args.store.now).tables c.args.store.now.1) told c.loop-next.machine (TableFull c.in-Ok-Full.size)) (sym full.0)
    (ends_full c.args.catalog.now c.args.machine.now c.loop-next.machine (outcome c.args.catalog.now c.args.first) c.args.machine.now.fuel c.requires.log refl c.requires.sound c.loop-next.next ((goal.Store-dyn g c.args.store.now).tables c.args.store.now.1) ((goal.Store-dyn g c.loop-next.store.now).tables c.loop-next.store.now.1) c.loop-next.invariant.stands c.in-Write.back c.in-Write.site c.in-Write.args c.in-Ok-Full.size c.in-Write.is
    (subst (λ args. IsOverfull c.args.catalog.now c.in-Write.site args ((goal.Store-dyn g c.loop-next.store.now).tables c.loop-next.store.now.1) c.in-Ok-Full.size) c.as_slice-in-Write.ensures full.1))

pub returns-in-Ok-Full-clause-committed : goal.returns-in-Ok-Full-clause-committed
returns-in-Ok-Full-clause-committed g c =
    let same = rw c.in-Ok-Full.field-0-is at c.in-Ok-Full.ensures.counted in
    same ∙ c.loop-next.invariant.commits

pub returns-in-Some-end-clause-ends : goal.returns-in-Some-end-clause-ends
returns-in-Some-end-clause-ends g c = ends_halt c.args.catalog.now c.args.machine.now c.loop-next.machine (outcome c.args.catalog.now c.args.first) c.args.machine.now.fuel c.requires.log refl c.requires.sound c.loop-next.next _ _ c.loop-next.invariant.stands c.in-Stop.halt c.in-Some-end.end c.in-Stop.is (sym c.end.ensures ∙ c.in-Some-end.is)

pub unreachable-requires : goal.unreachable-requires
unreachable-requires g c = never_stuck c.args.catalog.now c.args.machine.now c.loop-next.machine (outcome c.args.catalog.now c.args.first) c.args.machine.now.fuel c.requires.log refl c.requires.sound c.loop-next.next _ _ c.loop-next.invariant.stands c.in-Stop.halt c.in-Stop.is (sym c.end.ensures ∙ c.in-None-end.is)

pub loop-next-preserved-in_ok-next-in-Enter : goal.loop-next-preserved-in_ok-next-in-Enter
loop-next-preserved-in_ok-next-in-Enter g c = record {
  stands = stands_enter _ _ _ _ _ c.loop-next.machine _ _ _ c.in-Enter.e c.in-Enter.scope c.in-Enter.place c.in-Enter.is c.loop-next.invariant.stands (rw c.index.ensures at c.in_ok-next-in-Enter.ensures.leads);
  name = c.loop-next.invariant.name;
  idle = c.loop-next.invariant.idle;
  faults = c.loop-next.invariant.faults;
  commits = commits_quietly ((goal.Store-dyn g c.args.store.now).commits c.args.store.now.1) _ c.loop-next.machine.log _ c.in_ok-next-in-Enter.ensures.leads.quiet c.loop-next.invariant.commits;
}

pub loop-next-smaller-in_ok-next-in-Some : goal.loop-next-smaller-in_ok-next-in-Some
loop-next-smaller-in_ok-next-in-Some g c = give_smaller c.loop-next.machine c.give.new.self c.loop-next.next c.in_ok-next-in-Some.next c.in-Some.frame c.in-Give.value c.pop.new.self c.in-Give.is c.in-Some.ensures c.in_ok-next-in-Some.ensures.falls

pub loop-next-preserved-in_ok-next-in-Some : goal.loop-next-preserved-in_ok-next-in-Some
loop-next-preserved-in_ok-next-in-Some g c = record {
  stands = stands_give _ _ _ _ _ c.loop-next.machine _ _ _ c.in-Some.frame c.in-Give.value c.pop.new.self c.in-Give.is c.in-Some.ensures c.loop-next.invariant.stands (rw c.index-in-Some.ensures at c.in_ok-next-in-Some.ensures.leads);
  name = c.loop-next.invariant.name;
  idle = c.loop-next.invariant.idle;
  faults = c.loop-next.invariant.faults;
  commits = commits_quietly ((goal.Store-dyn g c.args.store.now).commits c.args.store.now.1) _ c.loop-next.machine.log _ c.in_ok-next-in-Some.ensures.leads.quiet c.loop-next.invariant.commits;
}

pub loop-next-preserved-in_ok-next-in-Ok : goal.loop-next-preserved-in_ok-next-in-Ok
loop-next-preserved-in_ok-next-in-Ok g c = record {
  stands = subst (λ told. Stands c.args.catalog.now c.args.machine.now (outcome c.args.catalog.now c.args.first) ((goal.Store-dyn g c.args.store.now).tables c.args.store.now.1) told c.answered.new.self c.in_ok-next-in-Ok.next) (sym c.read_at.ensures.tables)
      (stands_read _ _ _ _ _ c.loop-next.machine _ _ _ c.in-Read.back c.in-Read.site c.in-Read.args c.in-Ok.rows c.in-Read.is c.loop-next.invariant.stands
      (rw c.as_slice.ensures at c.in-Ok.ensures.answered)
      (rw c.as_slice.ensures at c.in-Ok.ensures.follows)
      (rw c.index-in-Ok.ensures at c.in_ok-next-in-Ok.ensures.leads));
  name = search rules;
  idle = search rules;
  faults = search rules;
  commits = commits_quietly ((goal.Store-dyn g c.args.store.now).commits c.args.store.now.1) _ _ _ c.in_ok-next-in-Ok.ensures.leads.quiet
      (commits_read ((goal.Store-dyn g c.args.store.now).commits c.args.store.now.1) _ c.loop-next.machine.log c.in-Read.site c.in-Read.args c.in-Ok.rows _ c.loop-next.invariant.commits c.in-Ok.ensures.counted);
}

pub loop-next-preserved : goal.loop-next-preserved
loop-next-preserved g c = record {
  stands = stands_write _ _ _ _ _ _ c.loop-next.machine _ _ _ c.in-Write.back c.in-Write.site c.in-Write.args c.in-Write.is c.loop-next.invariant.stands
      (rw (c.in-Ok-Done.field-0-is, c.as_slice-in-Write.ensures) at c.in-Ok-Done.ensures.written)
      (rw c.index-in-Ok-Done.ensures at c.in_ok-next-in-Ok-Done.ensures.leads);
  name = search rules;
  idle = search rules;
  faults = search rules;
  commits = commits_quietly ((goal.Store-dyn g c.args.store.now).commits c.args.store.now.1) _ _ _ c.in_ok-next-in-Ok-Done.ensures.leads.quiet
      (commits_write ((goal.Store-dyn g c.args.store.now).commits c.args.store.now.1) _ c.loop-next.machine.log c.in-Write.site c.in-Write.args _ c.loop-next.invariant.commits (rw c.in-Ok-Done.field-0-is at c.in-Ok-Done.ensures.counted));
}

pub returns-in-Err-clause-ends : goal.returns-in-Err-clause-ends
returns-in-Err-clause-ends g c =
    IfOk-weaker c.refused.result _ _
    (λ end is. ends_as _ _ _ _ _ _ _ _ _ c.read_at.ensures.tables is.0 (ends_read c.args.catalog.now c.args.machine.now c.loop-next.machine (outcome c.args.catalog.now c.args.first) c.args.machine.now.fuel c.requires.log refl c.requires.sound c.loop-next.next _ _ c.loop-next.invariant.stands c.in-Read.back c.in-Read.site c.in-Read.args c.in-Read.is))
    c.refused.ensures

pub returns-in-Err-clause-passed : goal.returns-in-Err-clause-passed
returns-in-Err-clause-passed g c = IfOk-weaker c.refused.result _ _ (λ end is other. absurd (other is.0)) c.refused.ensures

pub returns-in-Err-write_at-clause-refused : goal.returns-in-Err-write_at-clause-refused
returns-in-Err-write_at-clause-refused g c =
    if_err _ c.refused-in-Err-write_at.result (first_history c.args.catalog.now c.args.machine.now c.loop-next.machine (outcome c.args.catalog.now c.args.first) c.args.machine.now.fuel c.requires.log refl c.requires.sound c.loop-next.next _ _ c.loop-next.invariant.stands
    ((goal.Store-dyn g c.args.store.now).commits c.args.store.now.1) _ _ c.in-Err-write_at.ensures.refused (c.in-Err-write_at.ensures.uncounted ∙ c.loop-next.invariant.commits))

pub returns-in-Err-write_at-clause-ends : goal.returns-in-Err-write_at-clause-ends
returns-in-Err-write_at-clause-ends g c =
    IfOk-weaker c.refused-in-Err-write_at.result _ _
    (λ end is. ends_as _ _ _ _ _ _ _ _ _ c.in-Err-write_at.ensures.refused is.0 (ends_write c.args.catalog.now c.args.machine.now c.loop-next.machine (outcome c.args.catalog.now c.args.first) c.args.machine.now.fuel c.requires.log refl c.requires.sound c.loop-next.next _ _ c.loop-next.invariant.stands c.in-Write.back c.in-Write.site c.in-Write.args c.in-Write.is))
    c.refused-in-Err-write_at.ensures

pub returns-in-Err-write_at-clause-passed : goal.returns-in-Err-write_at-clause-passed
returns-in-Err-write_at-clause-passed g c = IfOk-weaker c.refused-in-Err-write_at.result _ _ (λ end is other. absurd (other is.0)) c.refused-in-Err-write_at.ensures
