-- Typed functions of a program with principal schemes, and the principal types of their nodes.
use Rattle.std.specs.Prelude.{◌≡◌, ℕ, List, [], ◌∷◌, ◌++◌, length, take, drop}
use Rattle.lk_ast.specs.Functions.{functions_in}
use Rattle.lk_ast.specs.declared.declaration.Decl.{Decl}
use Rattle.lk_ast.specs.declared.declaration.FunDef.{FunDef}
use Rattle.lk_ast.specs.declared.declaration.Program.{Program}
use Rattle.lk_ast.specs.declared.declaration.TableDecl.{TableDecl}
use Rattle.lk_ground_types.specs.Least.{IsLeastBut}
use Rattle.lk_outline.specs.Outline.{body_outline}
use Rattle.lk_types.specs.Each.{OneOf}
use Rattle.lk_types.specs.Grounding.{Grounding}
use Rattle.lk_types.specs.Schemes.{IsInstance}
use Rattle.lk_types.specs.Variables.{variables_of}
use Rattle.lk_types.specs.declared.ground.Ground.{Ground}
use Rattle.lk_types.specs.declared.scheme.Scheme.{Scheme}
use Rattle.lk_types.specs.declared.ty.Ty.{Ty}
use Rattle.lk_typing.specs.Groups.{IsFunction, IsGroup, is_mutual, own_entries, scheme_entries}
use Rattle.lk_typing.specs.Law.{Become}
use Rattle.lk_typing.specs.Names.{Named, Entry}
use Rattle.lk_typing.specs.Programs.{entries}
use Rattle.lk_ast.specs.Tables.{tables_of}

-- how many nodes the body of a function has
abbrev pub body_size : FunDef → ℕ
body_size f = length (body_outline f.params f.body)

-- the types of nodes by functions, where those of each function stand behind those of the functions before it
abbrev pub shares : {A : Type 0} → List FunDef → List A → List (List A)
shares [] types = []
shares (f ∷ fs) types = take (body_size f) types ∷ shares fs (drop (body_size f) types)

-- What names of functions stand for in the bodies of this one of the declarations: its own functions have types that they
-- have together, and those before it have these schemes.
pub data IsSeenBy (tables : List TableDecl) (decl : Decl) : Named Scheme → List Decl → List Scheme → Named (Entry Ground) → Type 0 where
  here : {earlier : Named Scheme} {decls : List Decl} {schemes : List Scheme} (ts nodes : List Ground)
      → IsGroup earlier tables decl ts nodes
      → IsSeenBy tables decl earlier (decl ∷ decls) schemes (own_entries (functions_in decl) ts ++ scheme_entries earlier)
  later : {earlier : Named Scheme} {other : Decl} {decls : List Decl} {functions : Named (Entry Ground)} (schemes rest : List Scheme)
      → length schemes ≡ length (functions_in other)
      → IsSeenBy tables decl (entries (functions_in other) schemes ++ earlier) decls rest functions
      → IsSeenBy tables decl earlier (other ∷ decls) (schemes ++ rest) functions

-- a function of the program has this type by the rules, and its nodes these, where functions have these schemes
pub record IsTyped (p : Program) (schemes : List Scheme) (f : FunDef) (t : Ground) (nodes : List Ground) : Type 0 where
  pub decl : Decl
  pub member : OneOf (λ other. other ≡ f) (functions_in decl)
  pub functions : Named (Entry Ground)
  pub seen : IsSeenBy (tables_of p) decl [] p.decls schemes functions
  pub typed : IsFunction functions (tables_of p) (is_mutual decl) f t nodes

-- The same where the nodes have their principal types, with the least for the variables of which the type of the function
-- says nothing.
pub record IsTypedLeast (p : Program) (schemes : List Scheme) (f : FunDef) (scheme : Scheme) (types : List Ty) (t : Ground) : Type 0 where
  pub σ : Grounding
  pub instance : IsInstance σ scheme t
  pub least : IsLeastBut (variables_of scheme.body) σ
  pub nodes : List Ground
  pub become : Become σ types nodes
  pub is : IsTyped p schemes f t nodes
