-- The order of parts: a part's number is its place in the list of parts, and its own parts have lower numbers. So what is to be found
-- for parts is found for one after the other, for each by what was found for its own parts.
use Rattle.std.specs.Prelude.{◌≡◌, ℕ, ◌+◌, ◌<◌, ◌==◌, List, [], ◌∷◌, Some, slice_get, if◌then◌else◌}
use Rattle.lk_query.specs.declared.part.Labelled.{Labelled}
use Rattle.lk_query.specs.declared.part.Part.{Part}
use Rattle.lk_query.specs.declared.part.Part.TheVariants as part

-- ---- the order

abbrev pub AllBelow : ℕ → List ℕ → Type 0
AllBelow n [] = Unit {0}
AllBelow n (e ∷ items) = (e < n) × AllBelow n items

abbrev pub LabelledBelow : ℕ → List Labelled → Type 0
LabelledBelow n [] = Unit {0}
LabelledBelow n (item ∷ items) = (item.part < n) × LabelledBelow n items

-- all that a part names is below n
abbrev pub Below : ℕ → Part → Type 0
Below n (part.Lit b) = Unit {0}
Below n part.Bound = Unit {0}
Below n (part.Case c a b) = (c < n) × (a < n) × (b < n)
Below n (part.If c a b) = (c < n) × (a < n) × (b < n)
Below n (part.IfRow labels c a b) = (c < n) × (a < n) × (b < n)
Below n (part.One o a) = a < n
Below n (part.Two o a b) = (a < n) × (b < n)
Below n (part.EqRows labels a b) = (a < n) × (b < n)
Below n (part.Empty columns list) = list < n
Below n (part.Record items) = LabelledBelow n items
Below n (part.Extend labels items rest) = LabelledBelow n items × (rest < n)
Below n (part.Project a label) = a < n
Below n (part.Items items) = AllBelow n items
Below n (part.Append a b) = (a < n) × (b < n)
Below n (part.ForList list x body) = (list < n) × (x < n) × (body < n)
Below n (part.Table table labels) = Unit {0}
Below n (part.Where c list) = (c < n) × (list < n)

abbrev pub AreOrdered : List Part → Type 0
AreOrdered parts = (n : ℕ) (x : Part) → slice_get parts n ≡ Some x → Below n x

-- ---- one part after the other

-- x at n, and what was there at other numbers
abbrev pub bind : {X : Type 0} → ℕ → X → (ℕ → X) → ℕ → X
bind n x others k = if k == n then x else others k

-- what is found for all, where the first of these parts has the number n
abbrev pub filled_from : {X : Type 0} → ((ℕ → X) → ℕ → Part → X) → ℕ → (ℕ → X) → List Part → ℕ → X
filled_from level n found [] = found
filled_from level n found (x ∷ parts) = filled_from level (n + 1) (bind n (level found n x) found) parts

-- what is found for the part of each number by one level; at other numbers nothing is
abbrev pub filled : {X : Type 0} → ((ℕ → X) → ℕ → Part → X) → X → List Part → ℕ → X
filled level nothing parts = filled_from level 0 (λ n. nothing) parts
