use Rattle.std.proofs.Common.{subst, sym}
use Rattle.lk_ground_types.proofs.Entering.{counted, pushed, pushed_types}
use Rattle.lk_ground_types.specs.Grounds.{AreCounted}
use Rattle.lk_ground_types.proofs.grounds.push.Goals as goal

pub entry_of-requires : goal.entry_of-requires
entry_of-requires c = subst AreCounted (sym c.as_slice-before.ensures.value) (counted c.requires.table)

pub returns-in-Ok-clause-table : goal.returns-in-Ok-clause-table
returns-in-Ok-clause-table c =
    pushed c.args.entries.now.items c.as_slice-before.result.now c.push.new.self.items c.args.numbers.now c.put.new.self c.in_ok-entry.entry c.args.level c.args.key c.in_ok-number.number
    c.requires.table c.requires.below c.requires.lacks c.requires.key c.as_slice-before.ensures.value c.in_ok-entry.ensures.ty c.in_ok-entry.ensures.level c.in_ok-entry.ensures.nodes
    c.in_ok-number.ensures c.in_ok-push.ensures.items c.in-Ok.ensures.put

pub returns-in-Ok-clause-added : goal.returns-in-Ok-clause-added
returns-in-Ok-clause-added c =
    pushed_types c.args.entries.now.items c.as_slice-before.result.now c.push.new.self.items c.args.numbers.now c.put.new.self c.in_ok-entry.entry c.args.level c.args.key c.in_ok-number.number
    c.requires.table c.requires.below c.requires.lacks c.requires.key c.as_slice-before.ensures.value c.in_ok-entry.ensures.ty c.in_ok-entry.ensures.level c.in_ok-entry.ensures.nodes
    c.in_ok-number.ensures c.in_ok-push.ensures.items c.in-Ok.ensures.put
