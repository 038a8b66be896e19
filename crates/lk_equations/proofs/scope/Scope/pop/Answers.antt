use Rattle.std.proofs.Common.{subst, sym, rules}
use Rattle.lk_equations.proofs.Hiding.{Moves, never_absent, popped}
use Rattle.lk_equations.specs.Places.{IsIndex, links}
use Rattle.lk_equations.proofs.scope.Scope.pop.Goals as goal

pub invariant_of-self-in-Some-get_mut : goal.invariant_of-self-in-Some-get_mut
invariant_of-self-in-Some-get_mut g c =
    let place = c.in-Some-hidden.place in
    popped c.pop.new.self.items c.in-Some.entry (subst (λ items. IsIndex c.self.inside.last (links items)) c.in-Some.ensures.items c.self.invariant)
    (subst (Moves c.in-Some.entry.name.now c.self.inside.last (c.get_mut.follows.lender place)) (sym c.in-Some-hidden.is) ((c.get_mut.follows.holds place).3 (search rules)))

pub invariant_of-self-in-Some-hidden : goal.invariant_of-self-in-Some-hidden
invariant_of-self-in-Some-hidden g c =
    absurd (never_absent c.pop.new.self.items c.in-Some.entry (subst (λ items. IsIndex c.self.inside.last (links items)) c.in-Some.ensures.items c.self.invariant) c.in_default-get_mut.ensures.value)

pub invariant_of-self-in-None : goal.invariant_of-self-in-None
invariant_of-self-in-None g c =
    popped c.pop.new.self.items c.in-Some.entry (subst (λ items. IsIndex c.self.inside.last (links items)) c.in-Some.ensures.items c.self.invariant)
    (subst (Moves c.in-Some.entry.name.now c.self.inside.last c.remove.new.self) (sym c.in-None.is) c.remove.ensures.updates)
