use Rattle.std.proofs.Common.{sym, ◌∙◌}
use Rattle.lk_mono.proofs.MainAnswers.{is_instance, is_main_use}
use Rattle.lk_mono.proofs.MainUses.{first_found, never_missing}
use Rattle.lk_mono.specs.Members.{as_member}
use Rattle.lk_mono.proofs.listing.main_use.Goals as goal

pub unreachable-requires-in_default-find : goal.unreachable-requires-in_default-find
unreachable-requires-in_default-find c =
    never_missing _ _ _ c.requires.source.bound c.requires.source.typed c.principal_laws.ensures.schemes c.principal_laws.ensures.least c.principal_laws.ensures.body
    c.in-Some.main.now (sym c.in-Some.ensures) _ c.requires.source.members c.in_default-find.ensures

pub returns-clause-main : goal.returns-clause-main
returns-clause-main c =
    let first = (first_found _ _ _ c.requires.source.bound c.requires.source.typed c.principal_laws.ensures.schemes c.principal_laws.ensures.least c.principal_laws.ensures.body
    c.in-Some.main.now (sym c.in-Some.ensures) _ c.requires.source.members (as_member c.in-Some-find.member.now) c.in-Some-find.ensures) in
    is_main_use _ _ _ c.in-Some.main.now _ (sym c.in-Some.ensures) first c.in_ok-ty.ty (c.in_ok-ty.ensures ∙ c.get.ensures ∙ c.in_ok-number.ensures.made _ first.instance.body)

pub returns-clause-sound : goal.returns-clause-sound
returns-clause-sound c =
    let first = (first_found _ _ _ c.requires.source.bound c.requires.source.typed c.principal_laws.ensures.schemes c.principal_laws.ensures.least c.principal_laws.ensures.body
    c.in-Some.main.now (sym c.in-Some.ensures) _ c.requires.source.members (as_member c.in-Some-find.member.now) c.in-Some-find.ensures) in
    is_instance _ _ _ c.in-Some.main.now _ (sym c.in-Some.ensures) first c.in_ok-ty.ty (c.in_ok-ty.ensures ∙ c.get.ensures ∙ c.in_ok-number.ensures.made _ first.instance.body)

pub returns-clause-numbered : goal.returns-clause-numbered
returns-clause-numbered c = record { within = c.in_ok-number.ensures.within; is = sym c.get.ensures ∙ sym c.in_ok-ty.ensures }
