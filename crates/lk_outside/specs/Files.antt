-- Files by name.
use Rattle.std.specs.Prelude.{◌≡◌, ℕ, List, Result, Ok, Err, take, IsSomeAnd}
use Rattle.std.specs.Ordering.{nat_cmp}
use Rattle.std.specs.Cmp.Lexicographic.{slice_cmp}
use Rattle.std.specs.FinMap.{FinMap, get}
use Rattle.lk_outside.specs.declared.fault.OutFault.{OutFault}
use Rattle.lk_outside.specs.declared.fault.OutFault.TheVariants.{Failed, NoMemory}

-- what files contain, by their names: a list of bytes each
abbrev pub Contents : Type 0
Contents = FinMap (slice_cmp nat_cmp) (List ℕ)

-- there is a file of that name, and these are its first `max` bytes, or all where it has fewer
abbrev pub IsFront : Contents → List ℕ → ℕ → List ℕ → Type 0
IsFront contents name max bytes = IsSomeAnd (get contents name) (λ content. bytes ≡ take max content)

-- the name of the last failed read, after a read of this name
abbrev pub last_failed : {T : Type 0} → Result T OutFault → List ℕ → List ℕ → List ℕ
last_failed (Err Failed) name before = name
last_failed (Err NoMemory) name before = before
last_failed (Ok x) name before = before
