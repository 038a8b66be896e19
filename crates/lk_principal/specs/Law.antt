-- The laws of functions with principal schemes.
use Rattle.std.specs.Prelude.{◌≡◌, ℕ, ◌<◌, false, List, Some, length, slice_get}
use Rattle.lk_ast.specs.Functions.{functions_of, function_named}
use Rattle.lk_ast.specs.declared.declaration.FunDef.{FunDef}
use Rattle.lk_ast.specs.declared.declaration.Program.{Program}
use Rattle.lk_ground_types.specs.Least.{least}
use Rattle.lk_infer.specs.Inferred.{HasTypes}
use Rattle.lk_names.specs.Programs.{IsBound}
use Rattle.lk_principal.specs.Bodies.{IsTyped, IsTypedLeast, shares}
use Rattle.lk_types.specs.Each.{OneOf}
use Rattle.lk_types.specs.Grounding.{Grounding}
use Rattle.lk_types.specs.Rows.{Label}
use Rattle.lk_types.specs.Schemes.{IsInstance}
use Rattle.lk_types.specs.declared.ground.Ground.{Ground}
use Rattle.lk_types.specs.declared.scheme.Scheme.{Scheme}
use Rattle.lk_types.specs.declared.ty.Ty.{Ty}
use Rattle.lk_typing.specs.Groups.{is_mutual, is_recursive}
use Rattle.lk_typing.specs.Names.{MayBe}
use Rattle.lk_typing.specs.Uses.{functions_used}

-- each function of the program has a scheme
abbrev pub SchemesLaw : Type 0
SchemesLaw = (p : Program) (schemes : List Scheme) (types : List Ty) → HasTypes p schemes types → length schemes ≡ length (functions_of p)

-- each has an instance in which the least stands for all variables
abbrev pub LeastLaw : Type 0
LeastLaw = (p : Program) (schemes : List Scheme) (types : List Ty) → HasTypes p schemes types
    → (i : ℕ) (scheme : Scheme) → slice_get schemes i ≡ Some scheme → (t : Ground) × IsInstance least scheme t

-- at each instance of its scheme a function is typed with the principal types of its nodes
abbrev pub BodyLaw : Type 0
BodyLaw = (p : Program) (schemes : List Scheme) (types : List Ty) → HasTypes p schemes types
    → (i : ℕ) (f : FunDef) (scheme : Scheme) (own : List Ty) → slice_get (functions_of p) i ≡ Some f → slice_get schemes i ≡ Some scheme → slice_get (shares (functions_of p) types) i ≡ Some own
    → (σ : Grounding) (t : Ground) → IsInstance σ scheme t → IsTypedLeast p schemes f scheme own t

-- the function of that name, at an instance of its scheme
pub record IsInstanceOf (p : Program) (schemes : List Scheme) (g : Label) (t : Ground) : Type 0 where
  pub number : ℕ
  pub function : FunDef
  pub scheme : Scheme
  pub σ : Grounding
  pub is : slice_get (functions_of p) number ≡ Some function
  pub named : function_named p g ≡ Some function
  pub has : slice_get schemes number ≡ Some scheme
  pub instance : IsInstance σ scheme t

-- what a typed function uses is an instance of the scheme of the function of that name; where the one isn't taken as one that
-- may call itself, what its body names stands before it
abbrev pub UseLaw : Type 0
UseLaw = (p : Program) (schemes : List Scheme) (types : List Ty) → HasTypes p schemes types → IsBound p
    → (f : FunDef) (t : Ground) (nodes : List Ground) (typed : IsTyped p schemes f t nodes)
    → (g : Label) (u : Ground) → MayBe typed.functions g u
    → (found : IsInstanceOf p schemes g u)
    × ((i : ℕ) → slice_get (functions_of p) i ≡ Some f → is_recursive (is_mutual typed.decl) f ≡ false → OneOf (λ name. name ≡ g) (functions_used f.body) → found.number < i)
