-- Where the walk through a program ends: at a declaration of which something is said, after others that have principal schemes.
use Rattle.std.specs.Prelude.{Bool, false, ◌||◌, List, [], ◌∷◌, ◌++◌}
use Rattle.lk_ast.specs.Functions.{functions_in}
use Rattle.lk_ast.specs.declared.declaration.Decl.{Decl}
use Rattle.lk_ast.specs.declared.declaration.Program.{Program}
use Rattle.lk_ast.specs.declared.declaration.TableDecl.{TableDecl}
use Rattle.lk_ast.specs.declared.place.Span.{Span}
use Rattle.lk_types.specs.declared.scheme.Scheme.{Scheme}
use Rattle.lk_types.specs.declared.ty.Ty.{Ty}
use Rattle.lk_typing.specs.Groups.{group_walked}
use Rattle.lk_typing.specs.Names.{Named}
use Rattle.lk_typing.specs.Programs.{entries}
use Rattle.lk_ast.specs.Tables.{tables_of}
use Rattle.lk_typing.specs.declared.step.Step.{Step}
use Rattle.lk_infer.specs.Inferred.{IsInferred}
use Rattle.lk_infer.specs.Refusals.{AllFine, IsIllTyped, IsTooLarge, some_large}

-- P holds of the walk through one of the declarations, and those before it are accepted
pub data Ends (tables : List TableDecl) (P : Bool → List Step → Type 0) : Bool → Named Scheme → List Decl → Type 0 where
  here : {large : Bool} {earlier : Named Scheme} {decl : Decl} {decls : List Decl} → P large (group_walked earlier tables decl).steps → Ends tables P large earlier (decl ∷ decls)
  later : {large : Bool} {earlier : Named Scheme} {decl : Decl} {decls : List Decl} (schemes : List Scheme) (types : List Ty)
      → IsInferred earlier tables decl schemes types → AllFine large (group_walked earlier tables decl).steps
      → Ends tables P (large || some_large types) (entries (functions_in decl) schemes ++ earlier) decls
      → Ends tables P large earlier (decl ∷ decls)

-- the first place at which what the walk says can't hold is this one
abbrev pub EndsIllTyped : Program → Span → Type 0
EndsIllTyped program at = Ends (tables_of program) (λ large steps. IsIllTyped large steps at) false [] program.decls

-- the first place at which a type that matters is too large is this one
abbrev pub EndsTooLarge : Program → Span → Type 0
EndsTooLarge program at = Ends (tables_of program) (λ large steps. IsTooLarge large steps at) false [] program.decls
