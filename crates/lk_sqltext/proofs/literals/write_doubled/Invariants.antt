use Rattle.std.proofs.Common.{◌≡◌, ◌++◌, length}
use Rattle.std.specs.Prelude.{flat_map}
use denote.Text.{Utf8}
use denote.Shadow.{shadow}
use Rattle.lk_sql.specs.Text.{quoted}
use Rattle.lk_sqltext.proofs.literals.write_doubled.Given as goal

abbrev pub invariant-loop-before : goal.invariant-loop-before
invariant-loop-before l = shadow (Utf8 l.rest) × (l.text ++ flat_map quoted l.rest ≡ l.fn.text ++ flat_map quoted l.fn.literal)

abbrev pub decreases-loop-before : goal.decreases-loop-before
decreases-loop-before l = length l.rest
