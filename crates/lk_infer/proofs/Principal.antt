-- Schemes that are inferred are principal.
use Rattle.std.proofs.Common.{◌≡◌, suc, Bool, List, [], ◌∷◌, ◌++◌, length, refl, sym, subst, ap, ap₂, ◌∙◌}
use native.Mathlib.Omega.{arith}
use Rattle.lk_ast.specs.Functions.{functions_in}
use Rattle.lk_ast.specs.declared.declaration.Decl.{Decl}
use Rattle.lk_ast.specs.declared.declaration.Program.{Program}
use Rattle.lk_ast.specs.declared.declaration.TableDecl.{TableDecl}
use Rattle.lk_infer.proofs.Further.{AreGeneral, inferred_general, instances_more, further}
use Rattle.lk_infer.proofs.More.{IsMore, same_is_more}
use Rattle.lk_infer.specs.Inferred.{AreInferred, HasTypes}
use Rattle.lk_types.specs.declared.ground.Ground.{Ground}
use Rattle.lk_types.specs.declared.scheme.Scheme.{Scheme}
use Rattle.lk_types.specs.declared.ty.Ty.{Ty}
use Rattle.lk_typing.proofs.SchemeCounts.{as_many_schemes}
use Rattle.lk_typing.specs.Names.{Named}
use Rattle.lk_typing.specs.Programs.{AreInstances, HaveSchemes, AreInstancesOf, ArePrincipal}
use Rattle.lk_ast.specs.Tables.{tables_of}

-- ---- two lists one after the other

module _ {A : Type 0} where
  abbrev first_or : A → List A → A
  first_or a [] = a
  first_or a (x ∷ xs) = x

  abbrev rest_of : List A → List A
  rest_of [] = []
  rest_of (x ∷ xs) = xs

  -- where the first ones have the same length
  split_first : (xs ys us vs : List A) → length xs ≡ length us → xs ++ ys ≡ us ++ vs → xs ≡ us
  split_first [] ys [] vs n is = refl
  split_first [] ys (u ∷ us) vs n is = absurd (let wrong : 0 ≡ suc (length us) = n in omega arith)
  split_first (x ∷ xs) ys [] vs n is = absurd (let wrong : suc (length xs) ≡ 0 = n in omega arith)
  split_first (x ∷ xs) ys (u ∷ us) vs n is = ap₂ (λ a as'. a ∷ as') (ap (first_or x) is) (split_first xs ys us vs (omega arith) (ap rest_of is))

  split_rest : (xs ys us vs : List A) → length xs ≡ length us → xs ++ ys ≡ us ++ vs → ys ≡ vs
  split_rest [] ys [] vs n is = is
  split_rest [] ys (u ∷ us) vs n is = absurd (let wrong : 0 ≡ suc (length us) = n in omega arith)
  split_rest (x ∷ xs) ys [] vs n is = absurd (let wrong : suc (length xs) ≡ 0 = n in omega arith)
  split_rest (x ∷ xs) ys (u ∷ us) vs n is = split_rest xs ys us vs (omega arith) (ap rest_of is)

-- ---- instances

-- what instances of the schemes of a declaration and of those behind it are
record Split (decl : Decl) (decls : List Decl) (schemes rest : List Scheme) (ts : List Ground) : Type 0 where
  here : List Ground
  others : List Ground
  is : ts ≡ here ++ others
  now : AreInstances schemes here
  later : AreInstancesOf decls rest others

split_all : (decl : Decl) (decls : List Decl) (schemes rest all : List Scheme) (ts : List Ground) → length schemes ≡ length (functions_in decl) → all ≡ schemes ++ rest
    → AreInstancesOf (decl ∷ decls) all ts → Split decl decls schemes rest ts
split_all decl decls schemes rest _ _ as_many is (AreInstancesOf.more own_schemes own_rest here others own_many now later) =
    let same_many : length own_schemes ≡ length schemes = own_many ∙ sym as_many in
    record {
      here = here;
      others = others;
      is = refl;
      now = subst (λ ss. AreInstances ss here) (split_first own_schemes own_rest schemes rest same_many is) now;
      later = subst (λ ss. AreInstancesOf decls ss others) (split_rest own_schemes own_rest schemes rest same_many is) later;
    }

none_left : (schemes : List Scheme) (ts : List Ground) → AreInstancesOf [] schemes ts → AreInstancesOf [] [] ts
none_left _ _ AreInstancesOf.none = AreInstancesOf.none

-- ---- programs

have_schemes : (tables : List TableDecl) (large : Bool) (earlier : Named Scheme) (decls : List Decl) (schemes : List Scheme) (types : List Ty)
    → AreInferred tables large earlier decls schemes types → HaveSchemes tables earlier decls schemes
have_schemes tables large earlier _ _ _ AreInferred.none = HaveSchemes.none
have_schemes tables large earlier _ _ _ (AreInferred.more schemes rest types others inferred fine later) = HaveSchemes.more schemes rest inferred.hold (have_schemes tables _ _ _ _ _ later)

module _ (tables : List TableDecl) where
  most_general : (large : Bool) (our_earlier earlier : Named Scheme) (decls : List Decl) (ours others : List Scheme) (types : List Ty) (ts : List Ground) → IsMore our_earlier earlier
      → AreInferred tables large our_earlier decls ours types → HaveSchemes tables earlier decls others → AreInstancesOf decls others ts → AreInstancesOf decls ours ts
  most_general large our_earlier earlier _ _ others _ ts is_more AreInferred.none have are = none_left others ts are
  most_general large our_earlier earlier _ _ _ _ ts is_more (AreInferred.more {decl} {decls} schemes rest types more_types inferred fine later)
      (HaveSchemes.more other_schemes other_rest hold have) are =
      let split : Split decl decls other_schemes other_rest ts = split_all decl decls other_schemes other_rest _ ts (as_many_schemes earlier tables decl other_schemes hold) refl are in
      let general : AreGeneral our_earlier tables decl schemes = inferred_general our_earlier tables decl schemes types inferred in
      let as_many : length schemes ≡ length (functions_in decl) = as_many_schemes our_earlier tables decl schemes inferred.hold in
      subst (λ us. AreInstancesOf (decl ∷ decls) (schemes ++ rest) us) (sym split.is)
      (AreInstancesOf.more schemes rest split.here split.others as_many
      (instances_more tables decl our_earlier earlier schemes other_schemes is_more general hold split.here split.now)
      (most_general _ _ _ decls rest other_rest more_types split.others (further tables decl our_earlier earlier schemes other_schemes is_more general hold as_many) later have split.later))

pub inferred_principal : (program : Program) (schemes : List Scheme) (types : List Ty) → HasTypes program schemes types → ArePrincipal program schemes
inferred_principal program schemes types has = record {
  typed = have_schemes (tables_of program) _ _ _ _ _ has;
  most_general = λ others ts typed are. most_general (tables_of program) _ [] [] program.decls schemes others types ts (same_is_more []) has typed are;
}
