use Rattle.std.proofs.Common.{◌≡◌, inl, inr, refl, subst, sym}
use Rattle.lk_cli.proofs.Stages.{handed_back, none_or_some, over_picked, reads_earlier, whole_answer, with_itself}
use Rattle.lk_cli.specs.Seen.{seen}
use Rattle.lk_sound.specs.Instances.{IsShaped}
use Rattle.lk_cli.proofs.top.answer_source.Goals as goal

pub answer_session-requires-clause-shaped : goal.answer_session-requires-clause-shaped
answer_session-requires-clause-shaped g c = subst IsShaped (sym c.program.ensures.same) c.in-Ok.ensures.accepted.1.1.instances.shaped

pub answer_session-requires-clause-named : goal.answer_session-requires-clause-named
answer_session-requires-clause-named g c = rw c.as_str.ensures at c.ready-picked.ensures.named

pub returns-in-Ok-clause-answers : goal.returns-in-Ok-clause-answers
returns-in-Ok-clause-answers g c =
    whole_answer (g.F.Files.contents c.args.files.now) (g.F.Files.contents c.accepted_program.new.files) (g.F.Files.failed c.answer_session.new.files) (g.F.Files.faults c.args.files.now) (g.F.Files.faults c.accepted_program.new.files) (g.F.Files.faults c.answer_session.new.files)
    c.in-Ok.ensures.contents c.in-Ok.ensures.later _ c.args.command.now c.in-Ok.checked.program c.answer_session.result.answer
    (rw c.as_str-2.ensures at c.in-Ok.ensures.program, (c.in-Ok.checked.typed, c.in-Ok.checked.queries, c.in-Ok.ensures.accepted))
    (over_picked (λ store. (goal.Store-dyn g (store.vtable, store.value)).name store.value) (λ store. (goal.Store-dyn g (store.vtable, store.value)).tables store.value) (λ store. (goal.Store-dyn g (store.vtable, store.value)).commits store.value) (λ store. (goal.Store-dyn g (store.vtable, store.value)).faults store.value) c.args.stores.items c.args.command.now.store
    (seen g.F.Files.contents g.F.Files.failed g.F.Files.faults c.accepted_program.new.files c.answer_session.new.files) c.args.command.now c.in-Ok.checked.program c.answer_session.result.answer c.ready-picked.result c.answer_session.result.store
    (rw c.as_str.ensures at c.ready-picked.ensures.first) (rw c.program.ensures.same at c.answer_session.ensures.answers))

pub returns-in-Ok-clause-reads : goal.returns-in-Ok-clause-reads
returns-in-Ok-clause-reads g c =
    reads_earlier (g.F.Files.faults c.args.files.now) (g.F.Files.faults c.accepted_program.new.files) (g.F.Files.faults c.answer_session.new.files)
    c.answer_session.result.answer c.in-Ok.ensures.reads c.answer_session.ensures.reads

pub returns-in-Ok-clause-kind : goal.returns-in-Ok-clause-kind
returns-in-Ok-clause-kind g c = rw (rw c.as_str.ensures at c.ready-picked.ensures.first) at c.answer_session.ensures.kind

pub returns-in-Ok-clause-back : goal.returns-in-Ok-clause-back
returns-in-Ok-clause-back g c = rw (rw c.as_str.ensures at c.ready-picked.ensures.first) at c.answer_session.ensures.back

pub returns-in-Err-clause-answers : goal.returns-in-Err-clause-answers
returns-in-Err-clause-answers g c =
    inr (inl (
      handed_back (λ store. (goal.Store-dyn g (store.vtable, store.value)).name store.value) (λ store. (goal.Store-dyn g (store.vtable, store.value)).tables store.value) (λ store. (goal.Store-dyn g (store.vtable, store.value)).commits store.value) (λ store. (goal.Store-dyn g (store.vtable, store.value)).faults store.value) c.args.stores.items c.args.command.now.store c.ready-picked.result (rw c.as_str.ensures at c.ready-picked.ensures.first),
      rw c.as_str-2.ensures at c.in-Err.ensures.refused,
    ))

pub returns-in-Err-clause-kind : goal.returns-in-Err-clause-kind
returns-in-Err-clause-kind g c = with_itself (λ back given. back.vtable ≡ given.vtable) (λ store. refl) c.ready-picked.result _ (rw c.as_str.ensures at c.ready-picked.ensures.first)

pub returns-in-Err-clause-back : goal.returns-in-Err-clause-back
returns-in-Err-clause-back g c = none_or_some c.ready-picked.result _ (rw c.as_str.ensures at c.ready-picked.ensures.first)
