-- Operators that have a number of parts each, apart from those over any number of parts.
use Rattle.std.specs.Prelude.{◌≡◌, ℕ, List, Option, Some}
use Rattle.lk_ast.specs.declared.declaration.TableDecl.{TableDecl}
use Rattle.lk_types.specs.declared.ty.Effects.{Effects}
use Rattle.lk_types.specs.declared.ty.Ty.{Ty}
use Rattle.lk_typing.specs.Equations.{Own, never}
use Rattle.lk_typing.specs.Heads as head
use Rattle.lk_typing.specs.Heads.{Head}
use Rattle.lk_typing.specs.Names.{Named, Entry}
use Rattle.lk_equations.specs.Seen.{own_at}

-- what is said of an expression that binds no name, but nothing of calls, records and lists
abbrev pub fixed_at : Named (Entry Ty) → List TableDecl → Named Ty → Effects → Option Head → List Ty → ℕ → Own
fixed_at functions tables names effects (Some (head.Call g)) types n = never n
fixed_at functions tables names effects (Some head.Apply) types n = never n
fixed_at functions tables names effects (Some (head.Record labels)) types n = never n
fixed_at functions tables names effects (Some (head.Extend labels)) types n = never n
fixed_at functions tables names effects (Some head.Items) types n = never n
fixed_at functions tables names effects h types n = own_at functions tables names effects h types n

-- what is said whatever functions, tables and names there are
abbrev pub IsSaid : Effects → Option Head → List Ty → ℕ → Own → Type 0
IsSaid effects h types n said = (functions : Named (Entry Ty)) (tables : List TableDecl) (names : Named Ty) → said ≡ fixed_at functions tables names effects h types n
