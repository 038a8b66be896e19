use Rattle.std.proofs.Common.{◌≡◌, ◌++◌, map, take}
use Rattle.lk_types.specs.declared.ty.Variable.TheVariants as variable
use Rattle.lk_equations.proofs.renamed.push_lacking.Given as goal

abbrev pub invariant-loop-lack : goal.invariant-loop-lack
invariant-loop-lack l = l.found ≡ l.fn.found ++ map (λ lack. variable.Row lack.var) (take l.lack-index l.lacks)
