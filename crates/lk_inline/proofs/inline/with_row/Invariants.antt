use Rattle.std.proofs.Common.{◌≡◌, ◌∷◌, take}
use Rattle.lk_index.specs.Free.{texts}
use Rattle.lk_inline.proofs.inline.with_row.Given as goal

abbrev pub invariant-loop-name : goal.invariant-loop-name
invariant-loop-name l = texts l.all ≡ l.row ∷ texts (take l.name-index l.names)
