-- Types of the functions of a program: a function has a type where its body has it by the rules, and the names of functions
-- stand in it for what they do in its declaration.
use Rattle.std.specs.Prelude.{Bool, List, [], ◌∷◌, ◌++◌}
use Rattle.lk_ast.specs.Functions.{functions_in}
use Rattle.lk_ast.specs.declared.declaration.Decl.{Decl}
use Rattle.lk_ast.specs.declared.declaration.FunDef.{FunDef}
use Rattle.lk_ast.specs.declared.declaration.Program.{Program}
use Rattle.lk_ast.specs.declared.declaration.TableDecl.{TableDecl}
use Rattle.lk_types.specs.declared.ground.Ground.{Ground}
use Rattle.lk_types.specs.declared.scheme.Scheme.{Scheme}
use Rattle.lk_typing.specs.Groups.{IsFunction, IsGroup, own_entries, scheme_entries}
use Rattle.lk_typing.specs.Names.{Named, Entry}
use Rattle.lk_typing.specs.Programs.{Hold, entries}
use Rattle.lk_ast.specs.Tables.{tables_of}
use Rattle.lk_sound.specs.Within.{IsFunctionOf}

-- What names of functions stand for in the bodies of one of these declarations: its own functions have types that they have
-- together, and those before it have schemes that hold.
pub data AreSeen (tables : List TableDecl) : Named Scheme → List Decl → Named (Entry Ground) → Type 0 where
  here : {earlier : Named Scheme} {decl : Decl} {decls : List Decl} (ts nodes : List Ground)
      → IsGroup earlier tables decl ts nodes
      → AreSeen tables earlier (decl ∷ decls) (own_entries (functions_in decl) ts ++ scheme_entries earlier)
  later : {earlier : Named Scheme} {decl : Decl} {decls : List Decl} {functions : Named (Entry Ground)} (schemes : List Scheme)
      → Hold earlier tables decl schemes → AreSeen tables (entries (functions_in decl) schemes ++ earlier) decls functions
      → AreSeen tables earlier (decl ∷ decls) functions

-- the same in a program
abbrev pub IsContext : Program → Named (Entry Ground) → Type 0
IsContext p functions = AreSeen (tables_of p) [] p.decls functions

-- a function of the program has this type
pub record HasFunctionType (p : Program) (f : FunDef) (t : Ground) : Type 0 where
  pub declared : IsFunctionOf p f
  pub functions : Named (Entry Ground)
  pub seen : IsContext p functions
  pub in_mutual : Bool
  pub nodes : List Ground
  pub typed : IsFunction functions (tables_of p) in_mutual f t nodes
