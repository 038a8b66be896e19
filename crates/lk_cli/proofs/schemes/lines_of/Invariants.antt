use Rattle.std.proofs.Common.{◌≡◌, map, ◌++◌}
use Rattle.std.specs.Iterator.Adapters.{zip_first, zip_second}
use Rattle.std.specs.Slice.Iter.{iter_rest}
use Rattle.lk_cli.specs.Report.{lines_of}
use Rattle.lk_cli.proofs.schemes.lines_of.Given as goal

abbrev pub invariant-loop-function : goal.invariant-loop-function
invariant-loop-function l = l.text ++ lines_of (map (λ f. f.now) (iter_rest (zip_first l.function-iterator))) (iter_rest (zip_second l.function-iterator)) ≡ lines_of (map (λ f. f.now) l.functions) l.schemes
