use Rattle.std.proofs.Common.{◌≡◌, ◌++◌, drop, map}
use Rattle.std.specs.Option.{option_map}
use Rattle.lk_locals.specs.Names.{lookup_all}
use Rattle.lk_locals.proofs.locals.Locals.get_all.Given as goal

abbrev pub invariant-loop-name : goal.invariant-loop-name
invariant-loop-name l =
    option_map (λ later. l.values ++ later) (lookup_all l.self (map (λ name. name.now) (drop l.name-index l.names)))
    ≡ lookup_all l.self (map (λ name. name.now) l.names)
