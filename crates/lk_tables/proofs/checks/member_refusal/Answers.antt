use Rattle.std.proofs.Common.{ap, ◌∙◌}
use Rattle.serde_json.specs.View.{view}
use Rattle.lk_tables.specs.Choices.{first_some}
use Rattle.lk_tables.specs.Named.{own_refusal, shown}
use Rattle.lk_tables.proofs.NamesFound.{known, unknown}
use Rattle.lk_tables.proofs.checks.member_refusal.Goals as goal

pub returns-in-Some : goal.returns-in-Some
returns-in-Some c =
    c.named_refusal.ensures
    ∙ ap (λ tables. first_some (own_refusal (view c.args.value.now)) (shown tables)) c.as_slice.ensures
    ∙ known c.args.name.now (view c.args.value.now) c.args.tables.now _ c.in-Some.ensures

pub returns-in-None : goal.returns-in-None
returns-in-None c = unknown c.args.name.now (view c.args.value.now) c.args.tables.now c.in-None.ensures
