-- What is inferred of the functions of a declaration, by what is made of their walk.
use Rattle.std.proofs.Common.{◌≡◌, ℕ, ◌+◌, List, [], ◌∷◌, ◌++◌, map, length, Option, Some, None, IsSome, refl, sym, ap, ap₂, subst, ◌∙◌}
use Rattle.std.specs.Prelude.{Result, IfOk, Ok, Err}
use Rattle.lk_ast.specs.Functions.{functions_in}
use Rattle.lk_ast.specs.declared.declaration.Decl.{Decl}
use Rattle.lk_ast.specs.declared.declaration.FunDef.{FunDef}
use Rattle.lk_ast.specs.declared.declaration.TableDecl.{TableDecl}
use Rattle.lk_ast.specs.declared.place.Word.{Word}
use Rattle.lk_types.proofs.Unfold.{under_function, under_variable}
use Rattle.lk_types.specs.Each.{Each}
use Rattle.lk_types.specs.Grounding.{Grounding, under, all_of}
use Rattle.lk_types.specs.declared.equation.Equation.{Equation}
use Rattle.lk_types.specs.declared.ground.Ground.{Ground}
use Rattle.lk_types.specs.declared.scheme.Scheme.{Scheme}
use Rattle.lk_types.specs.declared.ty.RowTail.TheVariants.{Var}
use Rattle.lk_types.specs.declared.ty.Ty.{Ty}
use Rattle.lk_types.specs.declared.ty.Ty.TheVariants as ty
use Rattle.lk_typing.specs.EffectRows.{EffectsLaw, IsEvenScheme}
use Rattle.lk_typing.specs.Groups.{unknown, unknowns, type_of, after_unknown, group_types, group_walked}
use Rattle.lk_typing.specs.Law.{WalkLaw}
use Rattle.lk_typing.specs.Names.{Named, types_of}
use Rattle.lk_typing.specs.Steps.{equation_of}
use Rattle.lk_typing.specs.Unknowns.{same, effects_of}
use Rattle.lk_typing.specs.Walk.{params_from}
use Rattle.lk_typing.specs.declared.step.Step.{Step}
use Rattle.lk_unify.specs.Constraints.{AreSides, equations_of}
use Rattle.lk_unify.specs.declared.constraint.Constraint.{Constraint}
use Rattle.lk_infer.proofs.GroupInferred.{group_inferred}
use Rattle.lk_infer.proofs.NodeVariables.{IsVariable, nodes_named}
use Rattle.lk_infer.specs.Inferred.{IsInferred}
use Rattle.lk_infer.specs.declared.error.InferError.{InferError}
use Rattle.lk_infer.specs.declared.group.Group.{Group}
use Rattle.lk_infer.specs.Refusals.{constraints_of}
use Rattle.lk_infer.specs.Walked.{asked, walk_constraints, IsPlain, IsSolved}
use Rattle.lk_walk.specs.declared.group.GroupWalk.{GroupWalk}

-- ---- types of functions and of nodes mean something whatever stands for their variables

there : {A : Type 0} (o : Option A) (a : A) → o ≡ Some a → IsSome o
there None a is = cc
there (Some b) a is = cc

params_there : (σ : Grounding) (n : ℕ) (words : List Word) → (gs : List Ground) × (all_of (map (under σ) (types_of (params_from n words))) ≡ Some gs)
params_there σ n [] = ([], refl)
params_there σ n (x ∷ words) =
    let rest = params_there σ (1 + n) words in
    (σ.plain n ∷ rest.0, ap₂ (λ o os. all_of (o ∷ os)) (under_variable σ n) refl ∙ ap (λ os. Rattle.std.specs.Option.option_map (λ more. σ.plain n ∷ more) os) rest.1)

unknown_plain : (f : FunDef) (n : ℕ) → IsPlain (type_of (unknown f n))
unknown_plain f n σ =
    let params = params_there σ (2 + n) f.params in
    there _ _ (under_function σ (types_of (params_from (2 + n) f.params)) (effects_of [] (Var n)) (ty.Var (1 + n))
    ∙ ap₂ (λ ps answer. Rattle.lk_types.specs.Grounding.function_of ps (Some (σ.effects n)) answer) params.1 (under_variable σ (1 + n)))

unknowns_plain : (fs : List FunDef) (n : ℕ) → Each IsPlain (map type_of (unknowns fs n))
unknowns_plain [] n = tt
unknowns_plain (f ∷ fs) n = (unknown_plain f n, unknowns_plain fs (after_unknown f n))

variables_plain : (ts : List Ty) → Each IsVariable ts → Each IsPlain ts
variables_plain [] each = tt
variables_plain (t ∷ ts) each = (λ σ. there (under σ t) (σ.plain each.0.0) (ap (under σ) each.0.1 ∙ under_variable σ each.0.0), variables_plain ts each.1)

pub functions_plain : (decl : Decl) (types : List Ty) → types ≡ group_types decl → Each IsPlain types
functions_plain decl types are = subst (Each IsPlain) (sym are) (unknowns_plain (functions_in decl) 0)

pub nodes_plain : (earlier : Named Scheme) (tables : List TableDecl) (decl : Decl) (types : List Ty) → types ≡ (group_walked earlier tables decl).nodes → Each IsPlain types
nodes_plain earlier tables decl types are = subst (Each IsPlain) (sym are) (variables_plain (group_walked earlier tables decl).nodes (nodes_named earlier tables decl))

-- ---- equations

asked_equations : (ts : List Ty) (cs : List Constraint) → equations_of (map asked ts ++ cs) ≡ map (λ t. same t t) ts ++ equations_of cs
asked_equations [] cs = refl
asked_equations (t ∷ ts) cs = ap (λ es. same t t ∷ es) (asked_equations ts cs)

step_equations : (steps : List Step) → equations_of (constraints_of steps) ≡ map (λ step. equation_of step.said) steps
step_equations [] = refl
step_equations (step ∷ steps) = ap (λ es. equation_of step.said ∷ es) (step_equations steps)

walk_equations : (walk : GroupWalk) → equations_of (walk_constraints walk)
    ≡ map (λ t. same t t) walk.functions ++ (map (λ t. same t t) walk.nodes ++ map (λ step. equation_of step.said) walk.steps)
walk_equations walk =
    asked_equations walk.functions (map asked walk.nodes ++ constraints_of walk.steps)
    ∙ ap (λ es. map (λ t. same t t) walk.functions ++ es) (asked_equations walk.nodes (constraints_of walk.steps) ∙ ap (λ es. map (λ t. same t t) walk.nodes ++ es) (step_equations walk.steps))

-- ---- what is inferred

pub inferred_of : WalkLaw → EffectsLaw → (earlier : Named Scheme) (tables : List TableDecl) (decl : Decl) → Each (λ entry. IsEvenScheme entry.1) earlier
    → (walk : GroupWalk) → walk.functions ≡ group_types decl → walk.nodes ≡ (group_walked earlier tables decl).nodes → walk.steps ≡ (group_walked earlier tables decl).steps
    → (schemes : List Scheme) (types : List Ty) → IsSolved walk schemes types → IsInferred earlier tables decl schemes types × Each IsEvenScheme schemes
inferred_of law effects earlier tables decl even walk functions nodes steps schemes types solved =
    let equations = walk_equations walk
    ∙ ap₂ (λ fs rest. map (λ t. same t t) fs ++ rest) functions
    (ap₂ (λ ns ss. map (λ t. same t t) ns ++ map (λ (step : Step). equation_of step.said) ss) nodes steps) in
    group_inferred law effects earlier tables decl even solved.bodies types solved.rest schemes (subst (λ es. AreSides es (solved.bodies ++ (types ++ solved.rest))) equations solved.sides)
    (solved.functions ∙ ap length functions) (solved.nodes ∙ ap length nodes) solved.generalised

-- ---- answers

abbrev pub Inference : Type 0
Inference = Result Group InferError

pub if_ok_map : (r : Inference) (P Q : Group → Type 0) → ((group : Group) → P group → Q group) → IfOk r P → IfOk r Q
if_ok_map (Ok group) P Q map if_ok = map group if_ok
if_ok_map (Err error) P Q map if_ok = if_ok
