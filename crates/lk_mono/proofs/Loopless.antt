-- Types that aren't those of functions that may call themselves, and that what may stand in a query has such a type.
use Rattle.std.proofs.Common.{◌≡◌, Bool, true, false, ◌&&◌, ◌||◌, List, refl, ap, ◌∙◌}
use Rattle.lk_ground_types.proofs.EffectLists.{in_list}
use Rattle.lk_ground_types.specs.Bound.{is_listed}
use Rattle.lk_ground_types.specs.Shapes.{base_level, row_level, rows_level, is_query_type}
use Rattle.lk_types.specs.Rows.{EffectSet, effects_of}
use Rattle.lk_types.specs.declared.ground.Ground.{Ground, out-Ground}
use Rattle.lk_types.specs.declared.ground.Ground.TheOpen.{Ground-F}
use Rattle.lk_types.specs.declared.ground.Ground.TheVariants as known
use Rattle.lk_types.specs.declared.ground.GroundField.{GroundField}
use Rattle.lk_types.specs.declared.ty.Effect.{Effect}
use Rattle.lk_types.specs.declared.ty.Effect.TheVariants as effect
use Rattle.lk_typing.specs.Types.{function_of}

-- whether functions of this type may call themselves
abbrev pub may_recur : List Effect → Bool
may_recur effects = is_listed effects effect.Rec

abbrev pub recursive_level : Ground-F Ground GroundField → Bool
recursive_level (Ground-F.Fun params effects answer) = may_recur effects
recursive_level other = false

abbrev pub is_recursive_type : Ground → Bool
is_recursive_type t = recursive_level (out-Ground t)

abbrev pub IsLoopless : Ground → Type 0
IsLoopless t = is_recursive_type t ≡ false

pub function_recurs : (params : List Ground) (effects : EffectSet) (answer : Ground) → is_recursive_type (function_of params effects answer) ≡ effects effect.Rec
function_recurs params effects answer = ap recursive_level (known.outs-Fun params (effects_of effects) answer) ∙ in_list effects effect.Rec

-- ---- what stands in queries

abbrev query_level : Ground-F Ground GroundField → Bool
query_level level = (base_level level || row_level level) || rows_level level

level_loopless : (level : Ground-F Ground GroundField) → query_level level ≡ true → recursive_level level ≡ false
level_loopless (Ground-F.Fun params effects answer) is = cc
level_loopless Ground-F.Int is = refl
level_loopless Ground-F.Bool is = refl
level_loopless Ground-F.Text is = refl
level_loopless (Ground-F.List t) is = refl
level_loopless (Ground-F.Fields fields) is = refl
level_loopless (Ground-F.Tags tags) is = refl

pub query_loopless : (t : Ground) → is_query_type t ≡ true → IsLoopless t
query_loopless t is = level_loopless (out-Ground t) is

-- the type of what may stand in a query
pub flat_type : (t : Ground) (compares : Bool) → (is_query_type t && compares) ≡ true → is_query_type t ≡ true
flat_type t compares is = first_holds (is_query_type t) is
  where
    first_holds : (a : Bool) → (a && compares) ≡ true → a ≡ true
    first_holds true both = refl
    first_holds false both = both
