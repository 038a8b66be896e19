use Rattle.std.proofs.Common.{◌≡◌}
use Rattle.serde_json.specs.View.{members_view}
use Rattle.lk_tables.specs.Choices.{first_some}
use Rattle.lk_tables.specs.Reading.{entries, member_refusal}
use Rattle.lk_tables.proofs.checks.members_refusal.Given as goal

abbrev pub invariant-loop-name : goal.invariant-loop-name
invariant-loop-name l = first_some (member_refusal l.tables) (entries (members_view l.name-iterator)) ≡ first_some (member_refusal l.fn.tables) (entries (members_view l.fn.members.entries))
