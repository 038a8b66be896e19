-- The lacks of schemes are of their own variables of rows, so that a new instance takes no more numbers than the type has variables.
use Rattle.std.proofs.Common.{◌≡◌, ◌≤◌, ℕ, ◌+◌, Bool, ◌||◌, List, [], ◌∷◌, ◌++◌, length, map, sym, ap, subst, ◌∙◌}
use native.Mathlib.Omega.{arith}
use Rattle.lk_types.proofs.Members.{each_both, each_in, each_of_in, each_weaker}
use Rattle.lk_types.proofs.VariableCounts.{variables_within}
use Rattle.lk_types.specs.Each.{Each}
use Rattle.lk_types.specs.Sizes.{nodes}
use Rattle.lk_types.specs.Variables.{firsts, variables_of}
use Rattle.lk_types.specs.declared.scheme.Lack.{Lack}
use Rattle.lk_types.specs.declared.scheme.Scheme.{Scheme}
use Rattle.lk_types.specs.declared.ty.Ty.{Ty}
use Rattle.lk_types.specs.declared.ty.Variable.{Variable}
use Rattle.lk_types.specs.declared.ty.Variable.TheVariants as variable
use Rattle.lk_typing.proofs.Places.{firsts_have, firsts_same, firsts_shorter, IsThere}
use Rattle.lk_types.specs.Renamed.{scheme_variables, width}
use Rattle.lk_infer.specs.Generalised.{AreGeneralised, HasOwnLacks, HasRow, IsGeneralised, IsIn, IsNarrow}
use Rattle.lk_infer.specs.Inferred.{AreInferred}
use Rattle.lk_infer.specs.Lacks.{shown}
use Rattle.lk_ast.specs.declared.declaration.Decl.{Decl}
use Rattle.lk_ast.specs.declared.declaration.TableDecl.{TableDecl}
use Rattle.lk_typing.specs.Names.{Named}

own_lacks : (types : List Ty) (body : Ty) (scheme : Scheme) → IsGeneralised types body scheme → HasOwnLacks scheme
own_lacks types body scheme is = each_of_in (λ lack. HasRow lack.var scheme.body × (IsIn lack (shown scheme.body) → ⊥)) scheme.lacks (λ lack there.
    let said = (is.lacks lack).0 there in
    (subst (HasRow lack.var) (sym is.body_is) said.1, λ own. said.2 (subst (λ t. IsIn lack (shown t)) is.body_is own)))

pub all_own : (types bodies : List Ty) (schemes : List Scheme) → AreGeneralised types bodies schemes → Each HasOwnLacks schemes
all_own types [] [] made = tt
all_own types (body ∷ bodies) (scheme ∷ schemes) made = (own_lacks types body scheme made.0, all_own types bodies schemes made.1)
all_own types [] (scheme ∷ schemes) made = absurd made
all_own types (body ∷ bodies) [] made = absurd made

-- of all declarations
pub inferred_own : {tables : List TableDecl} {large : Bool} {earlier : Named Scheme} {decls : List Decl} {schemes : List Scheme} {types : List Ty}
    → AreInferred tables large earlier decls schemes types → Each HasOwnLacks schemes
inferred_own AreInferred.none = tt
inferred_own (AreInferred.more schemes rest types others inferred fine later) = each_both HasOwnLacks schemes rest inferred.own (inferred_own later)

-- ---- how many numbers an instance takes

lacking_there : (body : Ty) (lacks : List Lack) → Each (λ lack. HasRow lack.var body × (IsIn lack (shown body) → ⊥)) lacks
    → Each (IsThere (firsts (variables_of body))) (map (λ lack. variable.Row lack.var) lacks)
lacking_there body [] own = tt
lacking_there body (lack ∷ lacks) own =
    (each_in (IsThere (firsts (variables_of body))) (variables_of body) (variable.Row lack.var) own.0.0 (firsts_have (variables_of body)), lacking_there body lacks own.1)

pub is_narrow : (scheme : Scheme) → HasOwnLacks scheme → IsNarrow scheme
is_narrow scheme own =
    let none_more : width scheme ≡ length (firsts (variables_of scheme.body)) =
    ap length (firsts_same (variables_of scheme.body) (map (λ lack. variable.Row lack.var) scheme.lacks) (lacking_there scheme.body scheme.lacks own)) in
    let shorter : length (firsts (variables_of scheme.body)) ≤ length (variables_of scheme.body) = firsts_shorter (variables_of scheme.body) in
    let within : length (variables_of scheme.body) ≤ nodes scheme.body = variables_within scheme.body in
    omega arith

pub all_narrow : (schemes : List Scheme) → Each HasOwnLacks schemes → Each IsNarrow schemes
all_narrow schemes own = each_weaker HasOwnLacks IsNarrow is_narrow schemes own
