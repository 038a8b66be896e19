-- What stands for variables by what is known of them.
use Rattle.std.specs.Prelude.{◌≡◌, ℕ, ◌<◌, ◌==◌, List, [], Some, not, if◌then◌else◌}
use Rattle.std.specs.BTreeMap.{get}
use Rattle.std.specs.FinMap as fin
use Rattle.std.specs.List.{filter, list_any}
use Rattle.std.specs.Option.{option_map, unwrap_or}
use Rattle.std.specs.Ordering.{nat_cmp}
use Rattle.lk_types.specs.Grounding.{Grounding}
use Rattle.lk_types.specs.Rows.{EffectSet, Label, Row, no_fields, same_effect}
use Rattle.lk_types.specs.declared.ground.Ground.{Ground}
use Rattle.lk_types.specs.declared.ty.Effect.{Effect}
use Rattle.lk_ground_types.specs.Grounds.{Parts, at, row_in}
use Rattle.lk_ground_types.specs.Least.{unit}
use Rattle.lk_ground_types.specs.declared.bindings.Bindings.{Bindings}

-- the set of these effects
abbrev pub is_listed : List Effect → EffectSet
is_listed es e = list_any (same_effect e) es

-- the first ones without the others
abbrev pub without : List Effect → List Effect → List Effect
without es others = filter (λ e. not (is_listed others e)) es

-- what the bindings say, where these are the types by their numbers, and the least for a variable that they don't have
unfoldable pub grounding_in : List Ground → Bindings → Grounding
grounding_in ts b = record {
  plain = λ n. unwrap_or (option_map (at ts) (get nat_cmp b.plain n)) unit;
  rows = λ n. unwrap_or (option_map (row_in ts) (get nat_cmp b.rows n)) no_fields;
  effects = λ n. is_listed (unwrap_or (get nat_cmp b.effects n) []);
}

-- all numbers are below this one
abbrev pub IsRowWithin : ℕ → Parts → Type 0
IsRowWithin k row = (l : Label) (m : ℕ) → fin.get row l ≡ Some m → m < k

pub record AreWithin (k : ℕ) (b : Bindings) : Type 0 where
  pub plain : (n m : ℕ) → get nat_cmp b.plain n ≡ Some m → m < k
  pub rows : (n : ℕ) (row : Parts) → get nat_cmp b.rows n ≡ Some row → IsRowWithin k row

-- ---- the same, with something else for one variable

abbrev pub with_plain : ℕ → Ground → Grounding → Grounding
with_plain n t σ = record { plain = λ m. if m == n then t else σ.plain m; rows = σ.rows; effects = σ.effects }

abbrev pub with_row : ℕ → Row → Grounding → Grounding
with_row n row σ = record { plain = σ.plain; rows = λ m. if m == n then row else σ.rows m; effects = σ.effects }

abbrev pub with_effects : ℕ → EffectSet → Grounding → Grounding
with_effects n s σ = record { plain = σ.plain; rows = σ.rows; effects = λ m. if m == n then s else σ.effects m }
