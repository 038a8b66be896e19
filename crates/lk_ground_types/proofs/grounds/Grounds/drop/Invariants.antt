use Rattle.lk_ground_types.proofs.grounds.Grounds.drop.Given as goal

abbrev pub decreases-loop-entry : goal.decreases-loop-entry
decreases-loop-entry l = l.entries.len
