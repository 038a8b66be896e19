use Rattle.std.proofs.Common.{◌≡◌, sym, ap, subst, ◌∙◌, ◌+◌, ◌++◌, ◌∷◌, [], Some, None, length}
use Rattle.std.proofs.lemmas.Option.{none-some}
use Rattle.lk_code.specs.Law.{frame}
use Rattle.lk_code.specs.Meaning.{language}
use Rattle.lk_code.specs.Tables.{cont_at, first_frame}
use Rattle.lk_ir.specs.Environments.{lookup_all}
use Rattle.lk_ir.specs.LetNormal.{under}
use Rattle.lk_ir.specs.Tables.{names_of}
use Rattle.lk_moves.specs.Frames.{resumed}
use Rattle.lk_machine.proofs.Positions.{hold_kept, values_kept, wait_kept, wait_leads}
use Rattle.lk_machine.specs.Moves.{Leads, Moves}
use Rattle.lk_machine.specs.Typed.{IsNodeOf}
use Rattle.lk_machine.specs.declared.state.Next.TheVariants as next
use Rattle.lk_machine.specs.declared.state.Now.TheVariants as now
use Rattle.lk_machine.specs.declared.state.State.{State}
use Rattle.lk_machine.proofs.state.State.wait.Goals as goal

pub returns-in_default-clause-kept : goal.returns-in_default-clause-kept
returns-in_default-clause-kept c =
    let held = c.args.held in
    let none : cont_at c.args.tables.now (record { node = held.node; position = length held.done }) ≡ None =
    sym (c.in_default.ensures ∙ ap (λ n. cont_at c.args.tables.now (record { node = held.node; position = n })) c.len.ensures) in
    hold_kept c.args.tables.now c.requires.run c.args.self.now held c.args.part c.requires.next none c.requires.typed.4.0

pub unreachable-requires : goal.unreachable-requires
unreachable-requires c =
    let held = c.args.held in
    let cont = c.in-Some.cont.now in
    let is : cont_at c.args.tables.now (record { node = held.node; position = length held.done }) ≡ Some cont =
    sym (c.in-Some.ensures ∙ ap (λ n. cont_at c.args.tables.now (record { node = held.node; position = n })) c.len.ensures) in
    let names : c.as_slice-2.result.now ≡ names_of cont.keeps = c.as_slice-2.ensures ∙ c.in_ok-names.ensures ∙ ap names_of c.as_slice.ensures in
    let kept = values_kept c.args.tables.now c.requires.run c.args.self.now.place held c.args.part c.requires.next c.requires.typed.0 c.requires.typed.2 cont is in
    none-some kept.0 (sym c.in_default-2.is ∙ c.in_ok-kept.ensures ∙ ap (lookup_all held.scope) names ∙ kept.1)

pub returns-clause-leads : goal.returns-clause-leads
returns-clause-leads c =
    let held = c.args.held in
    let cont = c.in-Some.cont.now in
    let is : cont_at c.args.tables.now (record { node = held.node; position = length held.done }) ≡ Some cont =
    sym (c.in-Some.ensures ∙ ap (λ n. cont_at c.args.tables.now (record { node = held.node; position = n })) c.len.ensures) in
    let names : c.as_slice-2.result.now ≡ names_of cont.keeps = c.as_slice-2.ensures ∙ c.in_ok-names.ensures ∙ ap names_of c.as_slice.ensures in
    let kept_is : lookup_all held.scope (names_of cont.keeps) ≡ Some c.in-Some-2.kept = sym (ap (lookup_all held.scope) names) ∙ sym c.in_ok-kept.ensures ∙ c.in-Some-2.is in
    let pushed : c.push.new.self ≡ record c.args.self.now { stack = c.args.self.now.stack ++ frame (first_frame c.args.tables.now + cont.order) (held.done ++ c.in-Some-2.kept) ∷ [] } =
    c.in_ok-push.ensures ∙ ap (λ env. record c.args.self.now { stack = c.args.self.now.stack ++ frame (first_frame c.args.tables.now + cont.order) env ∷ [] }) c.in_ok-env.ensures in
    subst (λ (m : State). Leads c.args.tables.now c.args.self.now (resumed (language c.args.tables.now) (under held.scope held.node) held.done c.args.self.now.place) (record m { now = now.Enter c.args.part held.scope }) next.More) (sym pushed)
    (wait_leads c.args.tables.now c.requires.run c.args.self.now held c.args.part c.requires.next cont is c.in-Some-2.kept kept_is c.requires.typed.0 c.requires.typed.2 c.requires.typed.4.1)

pub returns-clause-kept : goal.returns-clause-kept
returns-clause-kept c =
    let held = c.args.held in
    let cont = c.in-Some.cont.now in
    let is : cont_at c.args.tables.now (record { node = held.node; position = length held.done }) ≡ Some cont =
    sym (c.in-Some.ensures ∙ ap (λ n. cont_at c.args.tables.now (record { node = held.node; position = n })) c.len.ensures) in
    let names : c.as_slice-2.result.now ≡ names_of cont.keeps = c.as_slice-2.ensures ∙ c.in_ok-names.ensures ∙ ap names_of c.as_slice.ensures in
    let kept_is : lookup_all held.scope (names_of cont.keeps) ≡ Some c.in-Some-2.kept = sym (ap (lookup_all held.scope) names) ∙ sym c.in_ok-kept.ensures ∙ c.in-Some-2.is in
    let pushed : c.push.new.self ≡ record c.args.self.now { stack = c.args.self.now.stack ++ frame (first_frame c.args.tables.now + cont.order) (held.done ++ c.in-Some-2.kept) ∷ [] } =
    c.in_ok-push.ensures ∙ ap (λ env. record c.args.self.now { stack = c.args.self.now.stack ++ frame (first_frame c.args.tables.now + cont.order) env ∷ [] }) c.in_ok-env.ensures in
    subst (λ (m : State). Moves c.args.tables.now (λ t. IsNodeOf c.args.tables.now c.args.self.now.place t held) c.args.self.now (record m { now = now.Enter c.args.part held.scope }) next.More) (sym pushed)
    (wait_kept c.args.tables.now c.requires.run c.args.self.now held c.args.part c.requires.next cont is c.in-Some-2.kept kept_is c.requires.typed.4.0)
