use Rattle.std.proofs.Common.{refl}
use Rattle.lk_arena.proofs.clean.is_clean_at.Goals as goal

pub returns-in_default-found-clause-never : goal.returns-in_default-found-clause-never
returns-in_default-found-clause-never c _ v fits = (rw c.in_default-found.is at c.in_ok-found-in-Row.ensures.none) v fits refl
