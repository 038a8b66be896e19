use Rattle.std.proofs.Common.{ℕ, Option, Some, None, sym, subst}
use Rattle.lk_cps.proofs.Entries.{all_left, left_out}
use Rattle.lk_cps.proofs.live.Live.without.Goals as goal
use Rattle.lk_cps.specs.Live.{Leaves, Live}

pub returns-in-Some : goal.returns-in-Some
returns-in-Some c =
    subst (λ (bound : Option ℕ). Leaves c.args.self bound c.remove.new.self.entries) (sym c.in-Some.is)
    (subst (λ (es : Live). Leaves es (Some c.in-Some.name) c.remove.new.self.entries) c.self.view_is (left_out c.in-Some.name c.self.inside.types c.remove.new.self c.remove.ensures.updates))

pub returns-in-None : goal.returns-in-None
returns-in-None c =
    subst (λ (bound : Option ℕ). Leaves c.args.self bound c.self.inside.types.entries) (sym c.in-None.is)
    (subst (λ (es : Live). Leaves es None c.self.inside.types.entries) c.self.view_is (all_left c.self.inside.types.entries))
