-- Functions and groups of them: which ground types they have by the rules, and what a walk through a group says. A group is a
-- function alone or a `mutual` block; in it each function has one type.
use Rattle.std.specs.Prelude.{◌≡◌, ℕ, ◌+◌, Bool, true, false, ◌||◌, List, [], ◌∷◌, ◌++◌, Option, Some, None, map, length, bytes_eq}
use Rattle.std.specs.List.{list_any}
use Rattle.lk_ast.specs.Functions.{functions_in, is_main}
use Rattle.lk_ast.specs.declared.declaration.Decl.{Decl}
use Rattle.lk_ast.specs.declared.declaration.Decl.TheVariants.{Table, Fun, Mutual}
use Rattle.lk_ast.specs.declared.declaration.FunDef.{FunDef}
use Rattle.lk_ast.specs.declared.declaration.TableDecl.{TableDecl}
use Rattle.lk_ast.specs.declared.signature.Sig.{Sig}
use Rattle.lk_types.specs.Each.{Each}
use Rattle.lk_types.specs.Rows.{EffectSet}
use Rattle.lk_types.specs.declared.equation.Equation.{Equation}
use Rattle.lk_types.specs.declared.ground.Ground.{Ground}
use Rattle.lk_types.specs.declared.ground.Ground.TheVariants as known
use Rattle.lk_types.specs.declared.scheme.Scheme.{Scheme}
use Rattle.lk_types.specs.declared.ty.Effect.TheVariants as effect
use Rattle.lk_types.specs.declared.ty.Effects.{Effects}
use Rattle.lk_types.specs.declared.ty.RowTail.TheVariants.{Var}
use Rattle.lk_types.specs.declared.ty.Ty.{Ty}
use Rattle.lk_types.specs.declared.ty.Ty.TheVariants as ty
use Rattle.lk_typing.specs.Names.{Named, names_of, types_of, texts, Entry, One, Many}
use Rattle.lk_typing.specs.Signatures.{HasSignature, signing}
use Rattle.lk_typing.specs.Steps.{same_at}
use Rattle.lk_typing.specs.declared.step.Step.{Step}
use Rattle.lk_typing.specs.Types.{function_of}
use Rattle.lk_typing.specs.Typing.{HasType, HasIf, is_marked}
use Rattle.lk_typing.specs.Unknowns.{effects_of, same}
use Rattle.lk_typing.specs.Uses.{functions_used}
use Rattle.lk_typing.specs.Walk.{Walked, Told, told, has_if, params_from, all_types, walk}

-- whether functions of this declaration may call one another
abbrev pub is_mutual : Decl → Bool
is_mutual (Table table) = false
is_mutual (Fun f) = false
is_mutual (Mutual functions) = true

-- a function is taken as one that may call itself if it stands in `mutual` or names itself
abbrev pub is_recursive : Bool → FunDef → Bool
is_recursive in_mutual f = in_mutual || list_any (λ g. bytes_eq g f.name.text) (functions_used f.body)

-- the functions of a group, each with its one type
abbrev pub own_entries : {A : Type 0} → List FunDef → List A → Named (Entry A)
own_entries [] types = []
own_entries (f ∷ fs) [] = []
own_entries (f ∷ fs) (t ∷ ts) = (f.name.text, One t) ∷ own_entries fs ts

-- functions of earlier groups: a later one may use any instance of their schemes
abbrev pub scheme_entries : {A : Type 0} → Named Scheme → Named (Entry A)
scheme_entries earlier = map (λ entry. (entry.0, Many entry.1)) earlier

-- ---- by the rules

-- A function of this type whose nodes have these types. `main` takes a text.
pub record IsFunction (functions : Named (Entry Ground)) (tables : List TableDecl) (in_mutual : Bool) (f : FunDef) (t : Ground) (nodes : List Ground) : Type 0 where
  pub params : Named Ground
  pub effects : EffectSet
  pub answer : Ground
  pub inside : List Ground
  pub is : t ≡ function_of (types_of params) effects answer
  pub names : names_of params ≡ texts f.params
  pub signature : HasSignature f.sig t
  pub main : is_main f ≡ true → Each (λ p. p ≡ known.Text) (types_of params)
  pub moves : HasIf (is_marked f.place) effects effect.Move
  pub recurs : HasIf (is_recursive in_mutual f) effects effect.Rec
  pub body : HasType functions tables params effects f.body answer inside
  pub all : nodes ≡ answer ∷ inside

pub data AreFunctions (functions : Named (Entry Ground)) (tables : List TableDecl) (in_mutual : Bool) : List FunDef → List Ground → List Ground → Type 0 where
  none : AreFunctions functions tables in_mutual [] [] []
  more : {f : FunDef} {fs : List FunDef} {t : Ground} {ts : List Ground} (nodes rest : List Ground)
      → IsFunction functions tables in_mutual f t nodes → AreFunctions functions tables in_mutual fs ts rest
      → AreFunctions functions tables in_mutual (f ∷ fs) (t ∷ ts) (nodes ++ rest)

-- the functions of a declaration have these types together, and their nodes these, after functions with schemes
abbrev pub IsGroup : Named Scheme → List TableDecl → Decl → List Ground → List Ground → Type 0
IsGroup earlier tables decl ts nodes = AreFunctions (own_entries (functions_in decl) ts ++ scheme_entries earlier) tables (is_mutual decl) (functions_in decl) ts nodes

-- ---- the walk

-- a function's parameters, effects and answer, each of which may be anything
pub record Unknown : Type 0 where
  pub params : Named Ty
  pub effects : Effects
  pub answer : Ty

abbrev pub unknown : FunDef → ℕ → Unknown
unknown f n = record { params = params_from (2 + n) f.params; effects = effects_of [] (Var n); answer = ty.Var (1 + n) }

abbrev pub after_unknown : FunDef → ℕ → ℕ
after_unknown f n = length f.params + (2 + n)

abbrev pub type_of : Unknown → Ty
type_of u = ty.Fun (types_of u.params) u.effects u.answer

abbrev pub unknowns : List FunDef → ℕ → List Unknown
unknowns [] n = []
unknowns (f ∷ fs) n = unknown f n ∷ unknowns fs (after_unknown f n)

abbrev pub after_unknowns : List FunDef → ℕ → ℕ
after_unknowns [] n = n
after_unknowns (f ∷ fs) n = after_unknowns fs (after_unknown f n)

abbrev pub signature_told : Option Sig → Ty → ℕ → Told
signature_told None t n = told [] n
signature_told (Some sig) t n = told (same t (signing sig.ty n).ty ∷ []) (signing sig.ty n).next

abbrev pub main_told : Bool → Named Ty → List Equation
main_told true params = map (λ p. same p ty.Text) (types_of params)
main_told false params = []

pub record FunctionWalked : Type 0 where
  pub nodes : List Ty
  pub steps : List Step
  pub next : ℕ

-- what is said of the function before its body, the body, and that its type is the answer
abbrev pub function_ended : FunDef → Unknown → List Equation → Walked → FunctionWalked
function_ended f u before body = record {
  nodes = all_types body;
  steps = same_at f.name.at before ++ (body.steps ++ same_at f.name.at (same u.answer body.ty ∷ []));
  next = body.next;
}

abbrev pub function_walked : Named (Entry Ty) → List TableDecl → Bool → FunDef → Unknown → ℕ → FunctionWalked
function_walked functions tables in_mutual f u n =
    let signature : Told = signature_told f.sig (type_of u) n in
    let moves : Told = has_if (is_marked f.place) u.effects effect.Move signature.next in
    let recurs : Told = has_if (is_recursive in_mutual f) u.effects effect.Rec moves.next in
    function_ended f u (signature.equations ++ (main_told (is_main f) u.params ++ (moves.equations ++ recurs.equations))) (walk functions tables f.body u.params u.effects recurs.next)

abbrev pub functions_before : FunctionWalked → FunctionWalked → FunctionWalked
functions_before first rest = record { nodes = first.nodes ++ rest.nodes; steps = first.steps ++ rest.steps; next = rest.next }

abbrev pub functions_walked : Named (Entry Ty) → List TableDecl → Bool → List FunDef → List Unknown → ℕ → FunctionWalked
functions_walked functions tables in_mutual [] us n = record { nodes = []; steps = []; next = n }
functions_walked functions tables in_mutual (f ∷ fs) [] n = record { nodes = []; steps = []; next = n }
functions_walked functions tables in_mutual (f ∷ fs) (u ∷ us) n =
    let w : FunctionWalked = function_walked functions tables in_mutual f u n in
    functions_before w (functions_walked functions tables in_mutual fs us w.next)

-- the types of the functions of a declaration, with variables
abbrev pub group_types : Decl → List Ty
group_types decl = map type_of (unknowns (functions_in decl) 0)

-- the walk through the functions of a declaration, in text order
abbrev pub group_walked : Named Scheme → List TableDecl → Decl → FunctionWalked
group_walked earlier tables decl =
    let us : List Unknown = unknowns (functions_in decl) 0 in
    functions_walked (own_entries (functions_in decl) (map type_of us) ++ scheme_entries earlier) tables (is_mutual decl) (functions_in decl) us (after_unknowns (functions_in decl) 0)
