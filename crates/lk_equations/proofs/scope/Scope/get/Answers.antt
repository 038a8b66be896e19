use Rattle.std.proofs.Common.{◌∙◌, ap, Some, arith}
use Rattle.lk_typing.specs.Names.{named}
use Rattle.lk_equations.proofs.Hiding.{found, missing, within}
use Rattle.lk_equations.proofs.scope.Scope.get.Goals as goal

pub index-requires : goal.index-requires
index-requires g c =
    let h = within c.self.inside.entries.items c.args.name.now c.in-Some.place.now c.self.invariant c.in-Some.ensures.value in
    omega (arith, h, c.self.inside.entries.ok.0)

pub returns-in-Some : goal.returns-in-Some
returns-in-Some g c =
    ap (λ entry. Some entry.value) c.index.ensures
    ∙ found c.self.inside.entries.items c.args.name.now c.in-Some.place.now c.index.result.now c.self.invariant c.in-Some.ensures.value
    ∙ ap (named c.args.name.now) c.self.view_is

pub returns-in-None : goal.returns-in-None
returns-in-None g c = missing c.self.inside.entries.items c.args.name.now c.self.invariant c.in-None.ensures.value ∙ ap (named c.args.name.now) c.self.view_is
