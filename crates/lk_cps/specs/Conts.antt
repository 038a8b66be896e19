-- What is said of the continuations of a table: the types of what they and lambdas keep.
use Rattle.std.specs.Prelude.{◌≡◌, ℕ, List, [], Option, Some, None}
use Rattle.lk_evaluation.specs.Laws.{Both}
use Rattle.lk_ir.specs.TypedUses.{AreNamedAs, UseCaptured, UsesAs}
use Rattle.lk_ir.specs.Uses.{Uses}
use Rattle.lk_ir.specs.declared.nodes.Body.{Body}
use Rattle.lk_ir.specs.declared.nodes.Conts.{Conts}
use Rattle.lk_ir.specs.declared.nodes.Forms.{Forms}
use Rattle.lk_ir.specs.declared.nodes.LabelForm.{LabelForm}

-- ---- types of what continuations keep

-- each kept name has the type of a use behind its position, if lambdas use what they capture
abbrev pub AreTyped : Forms → List Conts → Type 0
AreTyped f all = UseCaptured f → AreNamedAs f all

-- ---- types of what lambdas capture

-- the type of a use in what has this number, if the name is used there
abbrev pub IsTypeOf : Forms → ℕ → ℕ → ℕ → Type 0
IsTypeOf f n x ty = UseCaptured f → Uses f x n → UsesAs f x ty n

-- one for each name that a body captures
abbrev pub IsEnv : Forms → Option Body → List ℕ → Type 0
IsEnv f None tys = tys ≡ []
IsEnv f (Some b) tys = Both (IsTypeOf f b.root) b.names tys

abbrev pub IsEnvOf : Forms → LabelForm → List ℕ → Type 0
IsEnvOf f l tys = IsEnv f l.body tys

-- by label
abbrev pub AreEnvs : Forms → List (List ℕ) → Type 0
AreEnvs f envs = Both (IsEnvOf f) f.labels envs
