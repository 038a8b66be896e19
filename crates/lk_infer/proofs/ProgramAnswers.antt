-- What the loop over the declarations of a program keeps, and what it comes to.
use Rattle.std.proofs.Common.{◌≡◌, ℕ, zero, suc, ◌+◌, ◌<◌, ◌≤◌, Bool, false, ◌||◌, List, [], ◌∷◌, ◌++◌, length, take, drop, get_or, refl, sym, ap, subst}
use Rattle.lk_unify.proofs.Loadeds.{taken}
use native.Mathlib.Omega.{arith}
use Rattle.lk_ast.specs.Functions.{functions_in}
use Rattle.lk_ast.specs.declared.declaration.Decl.{Decl}
use Rattle.lk_ast.specs.declared.declaration.Program.{Program}
use Rattle.lk_ast.specs.declared.declaration.TableDecl.{TableDecl}
use Rattle.lk_ast.specs.declared.place.Span.{Span}
use Rattle.lk_infer.proofs.Accepting.{Accepted}
use Rattle.lk_infer.proofs.Continued.{accepted_none, accepted_more, accepted_types, accepted_principal, ends_behind, ends_ill_typed, ends_not_well_typed, ends_too_large, taken_at}
use Rattle.lk_infer.proofs.EvenEntries.{even_entries}
use Rattle.lk_types.proofs.Members.{each_both}
use Rattle.lk_infer.specs.Inferred.{IsInferred, HasTypes}
use Rattle.lk_infer.specs.LacksInOrder.{IsSchemeInOrder}
use Rattle.lk_infer.specs.Programs.{Ends, EndsIllTyped, EndsTooLarge}
use Rattle.lk_infer.specs.Refusals.{AllFine, IsIllTyped, IsTooLarge, some_large}
use Rattle.lk_types.specs.Each.{Each}
use Rattle.lk_types.specs.declared.scheme.Scheme.{Scheme}
use Rattle.lk_types.specs.declared.ty.Ty.{Ty}
use Rattle.lk_typing.specs.EffectRows.{IsEvenScheme}
use Rattle.lk_typing.specs.Groups.{group_walked}
use Rattle.lk_typing.specs.Law.{WalkLaw}
use Rattle.lk_typing.specs.Names.{Named}
use Rattle.lk_typing.specs.Programs.{entries, ArePrincipal, IsWellTyped}
use Rattle.lk_ast.specs.Tables.{tables_of}
use Rattle.lk_typing.specs.declared.step.Step.{Step}

-- the first n declarations are accepted, and all schemes are even and in order
pub record IsDone (program : Program) (n : ℕ) (large : Bool) (earlier : Named Scheme) (schemes : List Scheme) (types : List Ty) : Type 0 where
  pub accepted : Accepted (tables_of program) (take n program.decls) large earlier schemes types
  pub even : Each (λ entry. IsEvenScheme entry.1) earlier
  pub in_order : Each IsSchemeInOrder schemes
  pub all_even : Each IsEvenScheme schemes

pub nothing_done : (program : Program) (large : Bool) (earlier : Named Scheme) (schemes : List Scheme) (types : List Ty) → large ≡ false → earlier ≡ [] → schemes ≡ [] → types ≡ []
    → IsDone program 0 large earlier schemes types
nothing_done program large earlier schemes types l e s t = record {
  accepted = accepted_none (tables_of program) [] large earlier schemes types refl l e s t;
  even = subst (Each (λ entry. IsEvenScheme entry.1)) (sym e) tt;
  in_order = subst (Each IsSchemeInOrder) (sym s) tt;
  all_even = subst (Each IsEvenScheme) (sym s) tt;
}

module _ (program : Program) (tables : List TableDecl) (tables_are : tables ≡ tables_of program) (n : ℕ) (decl : Decl) (within : n < length program.decls) (is : decl ≡ get_or program.decls n decl)
    (large : Bool) (earlier : Named Scheme) (schemes : List Scheme) (types : List Ty) (done : IsDone program n large earlier schemes types) where
  pub one_more : (own : List Scheme) (inside : List Ty) → IsInferred earlier tables decl own inside → Each IsEvenScheme own → Each IsSchemeInOrder own → AllFine large (group_walked earlier tables decl).steps
      → (then : Bool) (later : Named Scheme) (all : List Scheme) (nodes : List Ty) → later ≡ entries (functions_in decl) own ++ earlier → all ≡ schemes ++ own → nodes ≡ types ++ inside
      → then ≡ (large || some_large inside) → IsDone program (n + 1) then later all nodes
  one_more own inside inferred even in_order fine then later all nodes later_is all_is nodes_is then_is = record {
    accepted = accepted_more (tables_of program) (take n program.decls) (take (n + 1) program.decls) large then earlier later schemes own all types inside nodes decl done.accepted
        (subst (λ ts. IsInferred earlier ts decl own inside) tables_are inferred) (subst (λ ts. AllFine large (group_walked earlier ts decl).steps) tables_are fine)
        (taken program.decls n decl within is) then_is later_is all_is nodes_is;
    even = subst (Each (λ entry. IsEvenScheme entry.1)) (sym later_is) (even_entries (functions_in decl) own earlier even done.even);
    in_order = subst (Each IsSchemeInOrder) (sym all_is) (each_both IsSchemeInOrder schemes own done.in_order in_order);
    all_even = subst (Each IsEvenScheme) (sym all_is) (each_both IsEvenScheme schemes own done.all_even even);
  }

  -- whatever is so of the walk through this declaration
  pub ends_there : (P : Bool → List Step → Type 0) → P large (group_walked earlier tables decl).steps → Ends (tables_of program) P false [] program.decls
  ends_there P holds =
      subst (λ ds. Ends (tables_of program) P false [] ds) (sym (taken_at program.decls n decl within is))
      (ends_behind (tables_of program) P (take n program.decls) large earlier schemes types (decl ∷ drop (n + 1) program.decls) done.accepted
      (Ends.here (subst (λ ts. P large (group_walked earlier ts decl).steps) tables_are holds)))

  pub ill_typed_there : (at : Span) → IsIllTyped large (group_walked earlier tables decl).steps at → EndsIllTyped program at
  ill_typed_there at ill =
      ends_ill_typed program (take n program.decls) large earlier schemes types done.accepted decl (drop (n + 1) program.decls) at (taken_at program.decls n decl within is)
      (subst (λ ts. IsIllTyped large (group_walked earlier ts decl).steps at) tables_are ill)

  pub not_well_typed_there : WalkLaw → (at : Span) → IsIllTyped large (group_walked earlier tables decl).steps at → IsWellTyped program → ⊥
  not_well_typed_there law at ill =
      ends_not_well_typed program (take n program.decls) large earlier schemes types done.accepted decl (drop (n + 1) program.decls) at (taken_at program.decls n decl within is) law
      (subst (λ ts. IsIllTyped large (group_walked earlier ts decl).steps at) tables_are ill)

  pub too_large_there : (at : Span) → IsTooLarge large (group_walked earlier tables decl).steps at → EndsTooLarge program at
  too_large_there at far =
      ends_too_large program (take n program.decls) large earlier schemes types done.accepted decl (drop (n + 1) program.decls) at (taken_at program.decls n decl within is)
      (subst (λ ts. IsTooLarge large (group_walked earlier ts decl).steps at) tables_are far)

all_taken : (n : ℕ) (decls : List Decl) → length decls ≤ n → decls ≡ take n decls
all_taken zero [] le = refl
all_taken zero (decl ∷ decls) le = absurd (omega arith)
all_taken (suc n) [] le = refl
all_taken (suc n) (decl ∷ decls) le = ap (λ ds. decl ∷ ds) (all_taken n decls (omega arith))

module _ (program : Program) (n : ℕ) (all : length program.decls ≤ n) (large : Bool) (earlier : Named Scheme) (schemes : List Scheme) (types : List Ty)
    (done : IsDone program n large earlier schemes types) where
  whole : program.decls ≡ take n program.decls
  whole = all_taken n program.decls all

  pub has_types : HasTypes program schemes types
  has_types = accepted_types program (take n program.decls) large earlier schemes types done.accepted whole

  pub are_principal : ArePrincipal program schemes
  are_principal = accepted_principal program (take n program.decls) large earlier schemes types done.accepted whole
