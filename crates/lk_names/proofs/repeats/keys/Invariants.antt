use Rattle.std.proofs.Common.{◌≡◌, map, drop}
use Rattle.lk_names.specs.Repeats.{items_fault, key_item, keys_fault}
use Rattle.lk_names.proofs.repeats.keys.Given as goal

abbrev pub invariant-loop-key : goal.invariant-loop-key
invariant-loop-key l = items_fault l.met (map key_item (drop l.key-index l.list)) ≡ keys_fault l.list
