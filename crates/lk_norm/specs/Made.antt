-- What the code makes: scalars and selects, as long as bytes are left for their texts.
use Rattle.std.specs.Prelude.{◌≡◌, ℕ, zero, suc, Option, Some, None, Result, Ok, Err, Bool, true, false, List, [], ◌∷◌, if◌then◌else◌, bytes_eq, length}
use Rattle.lk_sql.specs.Text.{scalar_text}
use Rattle.lk_sql.specs.declared.tree.Scalar.{Scalar}
use Rattle.lk_sql.specs.declared.tree.Out.{Out}
use Rattle.lk_norm.specs.Normal.{equal_at}
use Rattle.lk_norm.specs.declared.stop.Stop.{Stop}
use Rattle.lk_norm.specs.declared.stop.Stop.TheVariants as stop

-- what is left of these bytes behind so many, and None where there aren't as many
unfoldable pub taken : ℕ → ℕ → Option ℕ
taken zero left = Some left
taken (suc n) zero = None
taken (suc n) (suc left) = taken n left

-- one after the other
abbrev pub behind : Option ℕ → (ℕ → Option ℕ) → Option ℕ
behind None next = None
behind (Some left) next = next left

-- what is left behind the text of a scalar
unfoldable pub paid : Scalar → ℕ → Option ℕ
paid s left = taken (length (scalar_text s)) left

-- whether one of the labels is this one
abbrev pub has_label : List (List ℕ) → List ℕ → Bool
has_label [] label = false
has_label (l ∷ labels) label = if bytes_eq l label then true else has_label labels label

-- what is left behind the tests of these labels, each with ` AND ` and brackets
abbrev pub more_paid : List Out → List Out → List (List ℕ) → ℕ → Option ℕ
more_paid outs others [] left = Some left
more_paid outs others (label ∷ labels) left = behind (taken 7 left) (λ l. behind (paid (equal_at outs others label) l) (more_paid outs others labels))

abbrev pub StopsFor : Stop → Option ℕ → Type 0
StopsFor stop.TooLong left = left ≡ None
StopsFor stop.NoMemory left = Unit {0}

-- the code stops for want of bytes exactly where none are left
abbrev pub Charged : {X : Type 0} → Result X Stop → ℕ → Option ℕ → Type 0
Charged (Ok x) after left = left ≡ Some after
Charged (Err why) after left = StopsFor why left

-- it makes this, and this is what is left behind it
abbrev pub MakesBy : {X : Type 0} → Result X Stop → ℕ → X → Option ℕ → Type 0
MakesBy (Ok x) after is left = (x ≡ is) × (left ≡ Some after)
MakesBy (Err why) after is left = StopsFor why left

abbrev pub Makes : Result Scalar Stop → ℕ → Scalar → ℕ → Type 0
Makes result after is before = MakesBy result after is (paid is before)
