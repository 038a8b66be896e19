-- What a pass through the declarations keeps: those so far are accepted, each after those before it.
use Rattle.std.specs.Prelude.{Bool, false, ◌||◌, List, [], ◌∷◌, ◌++◌}
use Rattle.lk_ast.specs.Functions.{functions_in}
use Rattle.lk_ast.specs.declared.declaration.Decl.{Decl}
use Rattle.lk_ast.specs.declared.declaration.TableDecl.{TableDecl}
use Rattle.lk_infer.specs.Inferred.{IsInferred}
use Rattle.lk_infer.specs.Refusals.{AllFine, some_large}
use Rattle.lk_types.specs.declared.scheme.Scheme.{Scheme}
use Rattle.lk_types.specs.declared.ty.Ty.{Ty}
use Rattle.lk_typing.specs.Groups.{group_walked}
use Rattle.lk_typing.specs.Names.{Named}
use Rattle.lk_typing.specs.Programs.{entries}

-- These declarations are done. With them some type of a node is too large or not, later functions see these schemes, and the
-- functions have these schemes and the nodes these types, in text order.
pub data Accepted (tables : List TableDecl) : List Decl → Bool → Named Scheme → List Scheme → List Ty → Type 0 where
  nothing : Accepted tables [] false [] [] []
  another : {done : List Decl} {large : Bool} {earlier : Named Scheme} {schemes : List Scheme} {types : List Ty} (decl : Decl) (own : List Scheme) (inside : List Ty)
      → Accepted tables done large earlier schemes types → IsInferred earlier tables decl own inside → AllFine large (group_walked earlier tables decl).steps
      → Accepted tables (done ++ decl ∷ []) (large || some_large inside) (entries (functions_in decl) own ++ earlier) (schemes ++ own) (types ++ inside)
