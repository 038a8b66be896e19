-- Principal schemes of functions together with principal types of nodes: each typing by the rules is an instance of them, and
-- each instance in which the variables of rows lack some labels is a typing.
use Rattle.std.specs.Prelude.{◌≡◌, ℕ, Bool, true, false, ◌||◌, ◌<◌, ◌≤◌, List, [], ◌∷◌, ◌++◌}
use Rattle.std.specs.List.{list_any}
use Rattle.lk_ast.specs.Functions.{functions_in}
use Rattle.lk_ast.specs.declared.declaration.Decl.{Decl}
use Rattle.lk_ast.specs.declared.declaration.Program.{Program}
use Rattle.lk_ast.specs.declared.declaration.TableDecl.{TableDecl}
use Rattle.lk_types.specs.Each.{Each}
use Rattle.lk_types.specs.Grounding.{Grounding}
use Rattle.lk_types.specs.Schemes.{IsLacking}
use Rattle.lk_types.specs.Sizes.{most_nodes, nodes}
use Rattle.lk_types.specs.declared.ground.Ground.{Ground}
use Rattle.lk_types.specs.declared.scheme.Lack.{Lack}
use Rattle.lk_types.specs.declared.scheme.Scheme.{Scheme}
use Rattle.lk_types.specs.declared.ty.Ty.{Ty}
use Rattle.lk_typing.specs.Groups.{IsGroup, group_walked}
use Rattle.lk_typing.specs.Law.{Become}
use Rattle.lk_typing.specs.Names.{Named}
use Rattle.lk_typing.specs.Programs.{AreAt, Hold, entries}
use Rattle.lk_ast.specs.Tables.{tables_of}
use Rattle.lk_infer.specs.Generalised.{HasOwnLacks}
use Rattle.lk_infer.specs.Refusals.{AllFine, some_large}

-- the functions of a declaration have these principal schemes, and the nodes in them these principal types
pub record IsInferred (earlier : Named Scheme) (tables : List TableDecl) (decl : Decl) (schemes : List Scheme) (types : List Ty) : Type 0 where
  pub hold : Hold earlier tables decl schemes
  pub own : Each HasOwnLacks schemes
  pub lacks : List Lack
  pub general : (ts inside : List Ground) → IsGroup earlier tables decl ts inside → (τ : Grounding) × AreAt τ schemes ts × Become τ types inside × Each (IsLacking τ) lacks
  pub sound : (τ : Grounding) (ts inside : List Ground) → AreAt τ schemes ts → Become τ types inside → Each (IsLacking τ) lacks → IsGroup earlier tables decl ts inside

-- the same of declarations, after functions with schemes; all that is said in them is fine
pub data AreInferred (tables : List TableDecl) : Bool → Named Scheme → List Decl → List Scheme → List Ty → Type 0 where
  none : {large : Bool} {earlier : Named Scheme} → AreInferred tables large earlier [] [] []
  more : {large : Bool} {earlier : Named Scheme} {decl : Decl} {decls : List Decl} (schemes rest : List Scheme) (types others : List Ty)
      → IsInferred earlier tables decl schemes types → AllFine large (group_walked earlier tables decl).steps
      → AreInferred tables (large || some_large types) (entries (functions_in decl) schemes ++ earlier) decls rest others
      → AreInferred tables large earlier (decl ∷ decls) (schemes ++ rest) (types ++ others)

-- the functions of the program have these principal schemes in text order, and its nodes these principal types in pre-order
abbrev pub HasTypes : Program → List Scheme → List Ty → Type 0
HasTypes program schemes types = AreInferred (tables_of program) false [] program.decls schemes types
