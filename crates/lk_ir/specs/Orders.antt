-- The order of continuations: they are numbered one by one.
use Rattle.std.specs.Prelude.{◌≡◌, ℕ, ◌+◌, List, [], ◌∷◌, Option, Some, None, map}
use Rattle.std.specs.List.{flat_map}
use Rattle.lk_ir.specs.declared.nodes.Cont.{Cont}
use Rattle.lk_ir.specs.declared.nodes.Conts.{Conts}

-- numbers from this one on, one by one
abbrev pub CountFrom : ℕ → List ℕ → Type 0
CountFrom n [] = Unit {0}
CountFrom n (k ∷ ks) = (k ≡ n) × CountFrom (n + 1) ks

-- those that there are
abbrev pub present : List (Option Cont) → List Cont
present [] = []
present (None ∷ cs) = present cs
present (Some c ∷ cs) = c ∷ present cs

abbrev pub orders : List (Option Cont) → List ℕ
orders cs = map (λ (c : Cont). c.order) (present cs)

-- in the order of the nodes and of their positions
abbrev pub all_orders : List Conts → List ℕ
all_orders all = flat_map (λ (c : Conts). orders c.of) all
