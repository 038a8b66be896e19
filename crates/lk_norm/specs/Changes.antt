-- What the code makes of an update or a deletion, and when it refuses to.
use Rattle.std.specs.Prelude.{◌≡◌, ℕ, ◌+◌, ◌<◌, List, [], ◌∷◌, Option, Some, Result, Ok, Err, length}
use Rattle.lk_sql.specs.Bags.{total}
use Rattle.lk_sql.specs.Text.{scalar_text}
use Rattle.lk_sql.specs.declared.tree.Change.{Change}
use Rattle.lk_sql.specs.declared.tree.Out.{Out}
use Rattle.lk_query.specs.declared.part.Part.{Part}
use Rattle.lk_query.specs.declared.query.InlinedChange.{InlinedChange}
use Rattle.lk_norm.specs.Limits.{most_bytes}
use Rattle.lk_norm.specs.Made.{StopsFor, behind, paid}
use Rattle.lk_norm.specs.Normal.{Names, norms, outputs}
use Rattle.lk_norm.specs.declared.error.NormError.{NormError}
use Rattle.lk_norm.specs.declared.error.NormError.TheVariants as error
use Rattle.lk_norm.specs.declared.stop.Stop.{Stop}

-- the scalars of a change over these parts
abbrev pub change_of : List Part → InlinedChange → Names → Change
change_of parts change names = record { cond = (norms parts change.cond names).base 1; sets = outputs (norms parts) change.sets names 1 }

-- ---- bytes

-- of the texts of these scalars
abbrev pub sets_bytes : List Out → ℕ
sets_bytes sets = total (λ (set : Out). length (scalar_text set.scalar)) sets

abbrev pub change_bytes : Change → ℕ
change_bytes change = length (scalar_text change.cond) + sets_bytes change.sets

-- it is refused where there are more
abbrev pub RefusesChange : NormError → Change → Type 0
RefusesChange error.Branches change = ⊥
RefusesChange error.SqlTooLong change = most_bytes < change_bytes change
RefusesChange error.NoMemory change = Unit {0}

-- ---- what is left behind them

abbrev pub sets_paid : List Out → ℕ → Option ℕ
sets_paid [] left = Some left
sets_paid (set ∷ sets) left = behind (paid set.scalar left) (sets_paid sets)

abbrev pub change_paid : Change → ℕ → Option ℕ
change_paid change left = behind (paid change.cond left) (sets_paid change.sets)

-- it makes these sets, and this is what is left behind them
abbrev pub MakesSets : Result (List Out) Stop → ℕ → List Out → ℕ → Type 0
MakesSets (Ok sets) after is before = (sets ≡ is) × (sets_paid is before ≡ Some after)
MakesSets (Err why) after is before = StopsFor why (sets_paid is before)

abbrev pub MakesChange : Result Change Stop → ℕ → Change → ℕ → Type 0
MakesChange (Ok change) after is before = (change ≡ is) × (change_paid is before ≡ Some after)
MakesChange (Err why) after is before = StopsFor why (change_paid is before)
