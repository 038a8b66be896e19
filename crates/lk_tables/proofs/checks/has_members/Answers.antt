use Rattle.std.proofs.Common.{◌∙◌, ap, ℕ, nat_eq}
use Rattle.lk_tables.proofs.Members.{has_members_of}
use Rattle.lk_tables.proofs.checks.has_members.Goals as goal

pub returns-in-Some : goal.returns-in-Some
returns-in-Some c = ap (λ (n : ℕ). nat_eq n c.args.count) c.len.ensures.len ∙ has_members_of _ _ _ c.in-Some.ensures
