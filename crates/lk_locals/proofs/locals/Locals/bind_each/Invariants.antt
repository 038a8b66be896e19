use Rattle.std.proofs.Common.{◌≡◌, drop, map}
use Rattle.std.specs.Prelude.{reverse}
use Rattle.lk_locals.specs.Names.{bind_each}
use Rattle.lk_locals.proofs.locals.Locals.bind_each.Given as goal

abbrev pub invariant-loop-name : goal.invariant-loop-name
invariant-loop-name l =
    bind_each l.locals (map (λ name. name.now) (drop l.name-index l.names)) (reverse l.left) ≡ bind_each l.fn.self (map (λ name. name.now) l.names) l.fn.values
