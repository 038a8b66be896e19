-- A pass through the declarations, from the start to one declaration more and to each of its ends.
use Rattle.std.proofs.Common.{◌≡◌, ℕ, ◌+◌, ◌<◌, Bool, false, ◌||◌, List, [], ◌∷◌, ◌++◌, length, take, drop, get_or, sym, subst, subst₂, ap, ◌∙◌, append_assoc, append-nil, take-append-drop}
use Rattle.std.proofs.lemmas.List.{drop_more}
use Rattle.lk_ast.specs.Functions.{functions_in}
use Rattle.lk_ast.specs.declared.declaration.Decl.{Decl}
use Rattle.lk_ast.specs.declared.declaration.Program.{Program}
use Rattle.lk_ast.specs.declared.declaration.TableDecl.{TableDecl}
use Rattle.lk_ast.specs.declared.place.Span.{Span}
use Rattle.lk_infer.proofs.Accepting.{Accepted, nothing, another}
use Rattle.lk_infer.proofs.IllTyped.{not_well_typed}
use Rattle.lk_infer.proofs.Principal.{inferred_principal}
use Rattle.lk_infer.specs.Inferred.{AreInferred, HasTypes, IsInferred}
use Rattle.lk_infer.specs.Programs.{Ends, EndsIllTyped, EndsTooLarge}
use Rattle.lk_infer.specs.Refusals.{AllFine, IsIllTyped, IsTooLarge, some_large}
use Rattle.lk_types.specs.declared.scheme.Scheme.{Scheme}
use Rattle.lk_types.specs.declared.ty.Ty.{Ty}
use Rattle.lk_typing.specs.Groups.{group_walked}
use Rattle.lk_typing.specs.Law.{WalkLaw}
use Rattle.lk_typing.specs.Names.{Named}
use Rattle.lk_typing.specs.Programs.{ArePrincipal, IsWellTyped, entries}
use Rattle.lk_ast.specs.Tables.{tables_of}
use Rattle.lk_typing.specs.declared.step.Step.{Step}

-- ---- from the start

pub accepted_none : (tables : List TableDecl) (done : List Decl) (large : Bool) (earlier : Named Scheme) (schemes : List Scheme) (types : List Ty)
    → done ≡ [] → large ≡ false → earlier ≡ [] → schemes ≡ [] → types ≡ [] → Accepted tables done large earlier schemes types
accepted_none tables done large earlier schemes types d l e s t =
    let first : Accepted tables [] large [] [] [] = subst (λ b. Accepted tables [] b [] [] []) (sym l) nothing in
    let second : Accepted tables done large earlier [] [] = subst₂ (λ ds es. Accepted tables ds large es [] []) (sym d) (sym e) first in
    subst₂ (λ ss ts. Accepted tables done large earlier ss ts) (sym s) (sym t) second

-- one declaration more
pub accepted_more : (tables : List TableDecl) (done more : List Decl) (large then : Bool) (earlier later : Named Scheme) (schemes own all : List Scheme) (types inside nodes : List Ty) (decl : Decl)
    → Accepted tables done large earlier schemes types → IsInferred earlier tables decl own inside → AllFine large (group_walked earlier tables decl).steps
    → more ≡ done ++ decl ∷ [] → then ≡ (large || some_large inside) → later ≡ entries (functions_in decl) own ++ earlier → all ≡ schemes ++ own → nodes ≡ types ++ inside
    → Accepted tables more then later all nodes
accepted_more tables done more large then earlier later schemes own all types inside nodes decl accepted inferred fine d l e s t =
    let first : Accepted tables more then (entries (functions_in decl) own ++ earlier) (schemes ++ own) (types ++ inside) =
    subst₂ (λ ds b. Accepted tables ds b (entries (functions_in decl) own ++ earlier) (schemes ++ own) (types ++ inside)) (sym d) (sym l) (another decl own inside accepted inferred fine) in
    let second : Accepted tables more then later all (types ++ inside) = subst₂ (λ es ss. Accepted tables more then es ss (types ++ inside)) (sym e) (sym s) first in
    subst (λ ts. Accepted tables more then later all ts) (sym t) second

-- ---- what comes behind

module _ (tables : List TableDecl) where
  -- whatever is inferred of the rest
  pub inferred_behind : (done : List Decl) (large : Bool) (earlier : Named Scheme) (schemes : List Scheme) (types : List Ty) (rest : List Decl) (others : List Scheme) (more_types : List Ty)
      → Accepted tables done large earlier schemes types → AreInferred tables large earlier rest others more_types
      → AreInferred tables false [] (done ++ rest) (schemes ++ others) (types ++ more_types)
  inferred_behind _ _ _ _ _ rest others more_types nothing inferred = inferred
  inferred_behind _ _ _ _ _ rest others more_types (another {done} {large} {earlier} {schemes} {types} decl own inside accepted here fine) inferred =
      let before : AreInferred tables false [] (done ++ decl ∷ rest) (schemes ++ (own ++ others)) (types ++ (inside ++ more_types)) =
      inferred_behind done large earlier schemes types (decl ∷ rest) (own ++ others) (inside ++ more_types) accepted (AreInferred.more own others inside more_types here fine inferred) in
      let declared : AreInferred tables false [] ((done ++ decl ∷ []) ++ rest) (schemes ++ (own ++ others)) (types ++ (inside ++ more_types)) =
      subst (λ ds. AreInferred tables false [] ds (schemes ++ (own ++ others)) (types ++ (inside ++ more_types))) (sym (append_assoc done (decl ∷ []) rest)) before in
      subst₂ (λ ss ts. AreInferred tables false [] ((done ++ decl ∷ []) ++ rest) ss ts) (sym (append_assoc schemes own others)) (sym (append_assoc types inside more_types)) declared

  -- wherever the walk through the rest ends
  pub ends_behind : (P : Bool → List Step → Type 0) (done : List Decl) (large : Bool) (earlier : Named Scheme) (schemes : List Scheme) (types : List Ty) (rest : List Decl)
      → Accepted tables done large earlier schemes types → Ends tables P large earlier rest → Ends tables P false [] (done ++ rest)
  ends_behind P _ _ _ _ _ rest nothing ends = ends
  ends_behind P _ _ _ _ _ rest (another {done} {large} {earlier} {schemes} {types} decl own inside accepted here fine) ends =
      subst (λ ds. Ends tables P false [] ds) (sym (append_assoc done (decl ∷ []) rest)) (ends_behind P done large earlier schemes types (decl ∷ rest) accepted (Ends.later own inside here fine ends))

-- ---- the ends

module _ (program : Program) (done : List Decl) (large : Bool) (earlier : Named Scheme) (schemes : List Scheme) (types : List Ty)
    (accepted : Accepted (tables_of program) done large earlier schemes types) where
  -- all declarations are done
  pub accepted_types : program.decls ≡ done → HasTypes program schemes types
  accepted_types all =
      let behind : AreInferred (tables_of program) false [] (done ++ []) (schemes ++ []) (types ++ []) =
      inferred_behind (tables_of program) done large earlier schemes types [] [] [] accepted AreInferred.none in
      let declared : AreInferred (tables_of program) false [] program.decls (schemes ++ []) (types ++ []) =
      subst (λ ds. AreInferred (tables_of program) false [] ds (schemes ++ []) (types ++ [])) (append-nil done ∙ sym all) behind in
      subst₂ (λ ss ts. AreInferred (tables_of program) false [] program.decls ss ts) (append-nil schemes) (append-nil types) declared

  pub accepted_principal : program.decls ≡ done → ArePrincipal program schemes
  accepted_principal all = inferred_principal program schemes types (accepted_types all)

  -- at a declaration behind them
  module _ (decl : Decl) (rest : List Decl) (at : Span) (here : program.decls ≡ done ++ decl ∷ rest) where
    ends_here : (P : Bool → List Step → Type 0) → P large (group_walked earlier (tables_of program) decl).steps → Ends (tables_of program) P false [] program.decls
    ends_here P holds = subst (λ ds. Ends (tables_of program) P false [] ds) (sym here) (ends_behind (tables_of program) P done large earlier schemes types (decl ∷ rest) accepted (Ends.here holds))

    pub ends_ill_typed : IsIllTyped large (group_walked earlier (tables_of program) decl).steps at → EndsIllTyped program at
    ends_ill_typed ill = ends_here (λ large steps. IsIllTyped large steps at) ill

    pub ends_not_well_typed : WalkLaw → IsIllTyped large (group_walked earlier (tables_of program) decl).steps at → IsWellTyped program → ⊥
    ends_not_well_typed law ill = not_well_typed law program at (ends_ill_typed ill)

    pub ends_too_large : IsTooLarge large (group_walked earlier (tables_of program) decl).steps at → EndsTooLarge program at
    ends_too_large too_large = ends_here (λ large steps. IsTooLarge large steps at) too_large

-- ---- the declaration at a number

-- it stands behind those that are done
pub taken_at : {A : Type 0} (xs : List A) (i : ℕ) (x : A) → i < length xs → x ≡ get_or xs i x → xs ≡ take i xs ++ x ∷ drop (i + 1) xs
taken_at xs i x within is = sym (take-append-drop i xs) ∙ ap (λ r. take i xs ++ r) (drop_more xs i x within ∙ ap (λ y. y ∷ drop (i + 1) xs) (sym is))
