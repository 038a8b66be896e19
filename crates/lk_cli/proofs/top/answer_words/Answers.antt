use Rattle.std.proofs.Common.{◌≡◌, rules, Some, bytes_eq, find, map, string_bytes}
use Rattle.std.specs.Prelude.{IfSome}
use Rattle.lk_words.specs.Words.{form_of}
use Rattle.lk_cli.proofs.Stages.{form_answer, form_store}
use Rattle.lk_cli.specs.Seen.{seen}
use Rattle.lk_words.specs.declared.command.Command.TheVariants.{Source}
use Rattle.lk_cli.proofs.top.answer_words.Goals as goal

pub returns-clause-answers : goal.returns-clause-answers
returns-clause-answers g c =
    form_answer (seen g.F.Files.contents g.F.Files.failed g.F.Files.faults c.args.files.now c.answer_source.new.files)
    (λ store. (goal.Store-dyn g (store.vtable, store.value)).name store.value) (λ store. (goal.Store-dyn g (store.vtable, store.value)).tables store.value) (λ store. (goal.Store-dyn g (store.vtable, store.value)).commits store.value) (λ store. (goal.Store-dyn g (store.vtable, store.value)).faults store.value) c.args.stores.items c.answer_source.result.store
    (Some (Source c.in-Ok-Source.command)) (form_of (map string_bytes c.args.words.now)) c.answer_source.result.answer (search rules) c.answer_source.ensures.answers

pub returns-clause-kind : goal.returns-clause-kind
returns-clause-kind g c =
    form_store (λ wanted. IfSome c.answer_source.result.store (λ back. IfSome (find (λ store. bytes_eq wanted ((goal.Store-dyn g (store.vtable, store.value)).name store.value)) c.args.stores.items) (λ given. back.vtable ≡ given.vtable)))
    (Some (Source c.in-Ok-Source.command)) (form_of (map string_bytes c.args.words.now)) (search rules) c.answer_source.ensures.kind
