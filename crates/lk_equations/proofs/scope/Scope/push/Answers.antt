use Rattle.std.proofs.Common.{◌≡◌, ◌∙◌, subst, sym, Some, length, arith}
use Rattle.lk_equations.proofs.Hiding.{Moves, pushed}
use Rattle.lk_equations.specs.Places.{IsIndex, links}
use Rattle.lk_equations.proofs.scope.Scope.push.Goals as goal

pub invariant_of-self-in-Ok : goal.invariant_of-self-in-Ok
invariant_of-self-in-Ok g c =
    let place : c.len-place.result ≡ length c.self.inside.entries.items = omega (arith, c.len-place.ensures, c.self.inside.entries.ok.0) in
    subst (λ items. IsIndex c.insert.new.self (links items)) (sym c.in_ok-push.ensures.items)
    (pushed c.self.inside.entries.items _ c.self.invariant (c.copied-hidden.ensures ∙ c.get.ensures.value)
    (subst (λ n. Moves c.args.name.now c.self.inside.last c.insert.new.self (Some n)) place c.in-Ok.ensures.updates))
