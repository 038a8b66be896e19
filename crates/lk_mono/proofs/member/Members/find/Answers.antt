use Rattle.std.proofs.Common.{ap, map, ◌∙◌}
use Rattle.std.specs.Option.{option_map}
use Rattle.lk_mono.specs.Members.{as_member, named_member}
use Rattle.lk_mono.specs.Places.{member_there}
use Rattle.lk_mono.proofs.FindingMembers.{find_shown, through}
use Rattle.lk_mono.proofs.member.Members.find.Goals as goal

pub returns-in-Some : goal.returns-in-Some
returns-in-Some c =
    through c.get-in-Some.result ∙ ap (option_map as_member) (c.get-in-Some.ensures ∙ ap (member_there c.self.inside.list) c.in-Some.ensures.value ∙ c.self.invariant c.as_str.result.now)
    ∙ find_shown c.as_str.result.now c.self.inside.list
    ∙ ap (λ name. named_member name (map as_member c.self.inside.list)) c.as_str.ensures ∙ ap (λ members. named_member c.args.name.now (map as_member members)) c.self.view_is

pub returns-in-None : goal.returns-in-None
returns-in-None c =
    ap (option_map as_member) (ap (member_there c.self.inside.list) c.in-None.ensures.value ∙ c.self.invariant c.as_str.result.now)
    ∙ find_shown c.as_str.result.now c.self.inside.list
    ∙ ap (λ name. named_member name (map as_member c.self.inside.list)) c.as_str.ensures ∙ ap (λ members. named_member c.args.name.now (map as_member members)) c.self.view_is
