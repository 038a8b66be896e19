use Rattle.std.proofs.Common.{◌≡◌, ◌++◌, ◌∷◌, [], take}
use Rattle.std.specs.Prelude.{flat_map}
use Rattle.lk_print.specs.Printed.{name_kind}
use Rattle.lk_print.specs.Written.{after_comma}
use Rattle.lk_print.proofs.words.more_names.Given as goal

abbrev pub invariant-loop-name : goal.invariant-loop-name
invariant-loop-name l = l.line ≡ l.fn.line ++ flat_map (λ x. after_comma (name_kind x ∷ [])) (take l.name-index l.words)
