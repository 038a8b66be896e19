-- What functions, tables and names a group of functions sees, in the words of the walk.
use Rattle.std.specs.Prelude.{ℕ, List, ◌++◌, map, Option, Some, None}
use Rattle.lk_ast.specs.declared.declaration.TableDecl.{TableDecl}
use Rattle.lk_types.specs.declared.scheme.Scheme.{Scheme}
use Rattle.lk_types.specs.declared.ty.Effects.{Effects}
use Rattle.lk_types.specs.declared.ty.Ty.{Ty}
use Rattle.lk_typing.specs.Equations.{Own, own, never, equations_of}
use Rattle.lk_typing.specs.Groups.{scheme_entries}
use Rattle.lk_typing.specs.Heads.{Head}
use Rattle.lk_typing.specs.Names.{Named, Entry, One}

-- the functions of a group, each with its one type, before those of earlier groups
abbrev pub functions_seen : Named Ty → Named Scheme → Named (Entry Ty)
functions_seen own earlier = map (λ entry. (entry.0, One entry.1)) own ++ scheme_entries earlier

-- what is said of an expression that binds no name
abbrev pub own_at : Named (Entry Ty) → List TableDecl → Named Ty → Effects → Option Head → List Ty → ℕ → Own
own_at functions tables names effects None types n = never n
own_at functions tables names effects (Some h) types n = equations_of functions tables names effects h types n
