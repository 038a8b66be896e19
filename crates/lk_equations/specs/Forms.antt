-- What is said of forms that bind names, as the code makes it.
use Rattle.std.specs.Prelude.{ℕ, ◌+◌, List, [], ◌∷◌, ◌++◌}
use Rattle.lk_ast.specs.declared.expression.SortKey.{SortKey}
use Rattle.lk_types.specs.declared.equation.Equation.{Equation}
use Rattle.lk_types.specs.declared.ty.Effect.TheVariants as effect
use Rattle.lk_types.specs.declared.ty.Effects.{Effects}
use Rattle.lk_types.specs.declared.ty.RowTail.TheVariants.{Var}
use Rattle.lk_types.specs.declared.ty.Ty.{Ty}
use Rattle.lk_types.specs.declared.ty.Ty.TheVariants as ty
use Rattle.lk_types.specs.declared.ty.TyField.{TyField}
use Rattle.lk_types.specs.declared.ty.TyRow.{roll-TyRow}
use Rattle.lk_typing.specs.Equations.{Own, own}
use Rattle.lk_typing.specs.Typing.{is_there}
use Rattle.lk_typing.specs.Unknowns.{has, same, unit}
use Rattle.lk_typing.specs.Walk.{Told, told, has_if, keys_told}
use Rattle.lk_equations.specs.declared.told.Told.{Told as TheTold}

abbrev pub as_told : TheTold → Told
as_told made = told made.equations made.next

-- a lambda with parameters of these types
abbrev pub lambda_own : Effects → List Ty → Effects → Ty → ℕ → Own
lambda_own effects params own_effects body n = own (ty.Fun params own_effects body) (has effects effect.Local n ∷ []) (1 + n)

-- a `for`, of which these equations are said before
abbrev pub for_own : List Equation → Ty → ℕ → Own
for_own equations body n = own (ty.List (ty.Var n)) (equations ++ same body (ty.List (ty.Var n)) ∷ []) (1 + n)

abbrev pub switch_own : Effects → Ty → Ty → Own → Own
switch_own effects value variant bodies = own bodies.ty (same value variant ∷ bodies.equations ++ has effects effect.Local bodies.next ∷ []) (1 + bodies.next)

abbrev pub query_told : List SortKey → Effects → Ty → ℕ → Told
query_told keys effects body n =
    let ordered : Told = keys_told body keys (1 + n) in
    let by_client : Told = has_if (is_there keys) effects effect.Local (1 + ordered.next) in
    told (same body (ty.List (ty.Var n)) ∷ ordered.equations ++ has effects effect.Scan ordered.next ∷ by_client.equations) by_client.next

abbrev pub query_own : List SortKey → Effects → Ty → ℕ → Own
query_own keys effects body n = own body (query_told keys effects body n).equations (query_told keys effects body n).next

-- each of these fields is one of the rows
abbrev pub sets_said : Ty → List TyField → ℕ → Told
sets_said t [] n = told [] n
sets_said t (set ∷ sets) n =
    let rest : Told = sets_said t sets (1 + n) in
    told (same t (ty.Fields (roll-TyRow (record { fields = set ∷ []; tail = Var n }))) ∷ rest.equations) rest.next

-- an update of these fields
abbrev pub sets_own : Effects → Ty → Ty → List TyField → ℕ → Own
sets_own effects t cond sets n =
    let said : Told = sets_said t sets n in
    own unit (same cond ty.Bool ∷ said.equations ++ has effects effect.Write said.next ∷ []) (1 + said.next)
