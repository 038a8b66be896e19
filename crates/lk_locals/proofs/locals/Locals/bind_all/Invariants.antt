use Rattle.std.proofs.Common.{◌≡◌, ◌+◌, drop, length, map}
use Rattle.std.specs.Prelude.{reverse}
use Rattle.lk_locals.specs.Names.{bind_each}
use Rattle.lk_locals.proofs.locals.Locals.bind_all.Given as goal

abbrev pub invariant-loop-param : goal.invariant-loop-param
invariant-loop-param l = record {
  left : length l.left + l.param-index ≡ length l.params;
  bound : bind_each l.locals (map (λ x. x.text) (drop l.param-index l.params)) (reverse l.left) ≡ bind_each l.fn.self (map (λ x. x.text) l.params) l.fn.args;
}
