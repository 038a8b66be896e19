-- Well typed programs, and their principal schemes (Damas and Milner, Principal type-schemes for functional programs, 1982;
-- with mutual recursion as in Milner, A theory of type polymorphism in programming, 1978): the functions of a program by
-- groups in text order, where a group has a scheme for each function and sees the schemes of the groups before it.
use Rattle.std.specs.Prelude.{◌≡◌, ℕ, Some, slice_get, List, [], ◌∷◌, ◌++◌, length}
use Rattle.lk_ast.specs.Functions.{functions_in}
use Rattle.lk_ast.specs.Tables.{tables_of}
use Rattle.lk_ast.specs.declared.declaration.Decl.{Decl}
use Rattle.lk_ast.specs.declared.declaration.FunDef.{FunDef}
use Rattle.lk_ast.specs.declared.declaration.Program.{Program}
use Rattle.lk_ast.specs.declared.declaration.TableDecl.{TableDecl}
use Rattle.lk_types.specs.Grounding.{Grounding}
use Rattle.lk_types.specs.Schemes.{IsInstance}
use Rattle.lk_types.specs.declared.ground.Ground.{Ground}
use Rattle.lk_types.specs.declared.scheme.Scheme.{Scheme}
use Rattle.lk_typing.specs.Groups.{IsGroup}
use Rattle.lk_typing.specs.Names.{Named}

-- ---- instances of several schemes

abbrev pub AreAt : Grounding → List Scheme → List Ground → Type 0
AreAt σ [] [] = Unit {0}
AreAt σ [] (t ∷ ts) = ⊥
AreAt σ (scheme ∷ schemes) [] = ⊥
AreAt σ (scheme ∷ schemes) (t ∷ ts) = IsInstance σ scheme t × AreAt σ schemes ts

-- an instance of all of them taken together: a number names one variable in all of them, which stands for the same in each
abbrev pub AreInstances : List Scheme → List Ground → Type 0
AreInstances schemes ts = (σ : Grounding) × AreAt σ schemes ts

-- ---- groups

-- functions with their schemes, for those that come later
abbrev pub entries : List FunDef → List Scheme → Named Scheme
entries [] schemes = []
entries (f ∷ fs) [] = []
entries (f ∷ fs) (scheme ∷ schemes) = (f.name.text, scheme) ∷ entries fs schemes

-- Each instance of one of them is part of an instance of all. Later groups use each scheme alone. So where the body of one
-- function forbids something to a variable that another function has too, the scheme of that one has to say so as well.
abbrev pub StandAlone : List Scheme → Type 0
StandAlone schemes = (i : ℕ) (scheme : Scheme) (σ : Grounding) (t : Ground) → slice_get schemes i ≡ Some scheme → IsInstance σ scheme t
    → (ts : List Ground) × AreInstances schemes ts × (slice_get ts i ≡ Some t)

-- The schemes of the functions of a declaration hold if there are instances of all of them, and at each the rules hold.
pub record Hold (earlier : Named Scheme) (tables : List TableDecl) (decl : Decl) (schemes : List Scheme) : Type 0 where
  pub some : (ts : List Ground) × AreInstances schemes ts
  pub alone : StandAlone schemes
  pub each : (ts : List Ground) → AreInstances schemes ts → (nodes : List Ground) × IsGroup earlier tables decl ts nodes

-- ---- programs

-- declarations whose functions have these schemes, after functions with others
pub data HaveSchemes (tables : List TableDecl) : Named Scheme → List Decl → List Scheme → Type 0 where
  none : {earlier : Named Scheme} → HaveSchemes tables earlier [] []
  more : {earlier : Named Scheme} {decl : Decl} {decls : List Decl} (schemes rest : List Scheme)
      → Hold earlier tables decl schemes → HaveSchemes tables (entries (functions_in decl) schemes ++ earlier) decls rest
      → HaveSchemes tables earlier (decl ∷ decls) (schemes ++ rest)

-- the functions of the program, in text order, have these schemes
abbrev pub IsTypedBy : Program → List Scheme → Type 0
IsTypedBy program schemes = HaveSchemes (tables_of program) [] program.decls schemes

abbrev pub IsWellTyped : Program → Type 0
IsWellTyped program = (schemes : List Scheme) × IsTypedBy program schemes

-- instances of the schemes of a program, those of each group taken together
pub data AreInstancesOf : List Decl → List Scheme → List Ground → Type 0 where
  none : AreInstancesOf [] [] []
  more : {decl : Decl} {decls : List Decl} (schemes rest : List Scheme) (ts others : List Ground)
      → length schemes ≡ length (functions_in decl) → AreInstances schemes ts → AreInstancesOf decls rest others
      → AreInstancesOf (decl ∷ decls) (schemes ++ rest) (ts ++ others)

-- schemes that the program has, and of which all instances of others that it has are instances too
pub record ArePrincipal (program : Program) (schemes : List Scheme) : Type 0 where
  pub typed : IsTypedBy program schemes
  pub most_general : (others : List Scheme) (ts : List Ground) → IsTypedBy program others → AreInstancesOf program.decls others ts → AreInstancesOf program.decls schemes ts
