-- The walk through the functions of a declaration is even, if the schemes of those before it are.
use Rattle.std.proofs.Common.{ℕ, ◌+◌, Bool, true, false, List, [], ◌∷◌, ◌++◌, map}
use native.Mathlib.Omega.{arith}
use Rattle.lk_ast.specs.Functions.{functions_in, is_main}
use Rattle.lk_ast.specs.declared.declaration.Decl.{Decl}
use Rattle.lk_ast.specs.declared.declaration.FunDef.{FunDef}
use Rattle.lk_ast.specs.declared.declaration.TableDecl.{TableDecl}
use Rattle.lk_ast.specs.declared.place.Span.{Span}
use Rattle.lk_types.proofs.Members.{each_both}
use Rattle.lk_types.specs.Each.{Each}
use Rattle.lk_types.specs.Rows.{no_effects}
use Rattle.lk_types.specs.declared.equation.Equation.{Equation}
use Rattle.lk_types.specs.declared.scheme.Scheme.{Scheme}
use Rattle.lk_types.specs.declared.ty.Effect.TheVariants as effect
use Rattle.lk_types.specs.declared.ty.Ty.{Ty}
use Rattle.lk_types.specs.declared.ty.Ty.TheVariants as ty
use Rattle.lk_typing.proofs.Even.Expressions.{expression_even}
use Rattle.lk_typing.proofs.Even.Forms.{params_even, types_even}
use Rattle.lk_typing.proofs.Even.Found.{Before, Stays, Found, now, mapped, weaker, here, onward, beside, new, any_sets, nothing_known}
use Rattle.lk_typing.proofs.Even.Nodes.{AreEvenEntries, IsEvenEntry, EvenTold, EvenWalked, all_even, steps_both, said_at, has_if_found}
use Rattle.lk_typing.proofs.Even.Signatures.{signature_found}
use Rattle.lk_typing.proofs.Even.Types.{HasRow, AreEvenTypes, AreEvenNames, IsEvenEquation, even_text, even_variable, even_function, alone}
use Rattle.lk_typing.proofs.Even.Loose.{same_loosely, holds_loosely}
use Rattle.lk_typing.specs.EffectRows.{IsEven, AreEven, IsEvenScheme, EffectsLaw}
use Rattle.lk_typing.specs.Groups.{is_mutual, is_recursive, own_entries, scheme_entries, Unknown, after_unknown, type_of, unknowns, after_unknowns, signature_told, main_told, FunctionWalked, function_walked, functions_walked, group_types, group_walked}
use Rattle.lk_typing.specs.Names.{Named, Entry, types_of}
use Rattle.lk_typing.specs.Steps.{same_at}
use Rattle.lk_typing.specs.Typing.{is_marked}
use Rattle.lk_typing.specs.Unknowns.{same}
use Rattle.lk_typing.specs.Walk.{Walked, Told, has_if, walk}
use Rattle.lk_typing.specs.declared.step.Step.{Step}

-- ---- what is unknown of a function

record EvenUnknown (u : Unknown) (c : Before) : Type 0 where
  locals : AreEvenNames c u.params
  row : HasRow c u.effects
  answers : IsEven c u.answer

abbrev AreEvenUnknowns : List Unknown → Before → Type 0
AreEvenUnknowns us c = Each (λ u. EvenUnknown u c) us

unknowns_found : (fs : List FunDef) (n : ℕ) (b : Before) → Found n b (after_unknowns fs n) (AreEvenUnknowns (unknowns fs n))
unknowns_found [] n b = mapped (any_sets n n b (omega arith)) (λ c all. tt)
unknowns_found (f ∷ fs) n b =
    onward (nothing_known n b) (new n b no_effects) (λ c one.
    onward one (any_sets (1 + n) (after_unknown f n) c (omega arith)) (λ c two.
    mapped (beside two (unknowns_found fs (after_unknown f n) c)) (λ d all. (record { locals = params_even d (2 + n) f.params; row = alone d n all.0.0.1; answers = even_variable d (1 + n) }, all.1))))

type_even : (u : Unknown) (c : Before) → EvenUnknown u c → IsEven c (type_of u)
type_even u c even = even_function c (types_of u.params) u.effects u.answer (types_even c u.params even.locals) even.row even.answers

group_types_even : (us : List Unknown) (c : Before) → AreEvenUnknowns us c → AreEvenTypes c (map type_of us)
group_types_even [] c even = tt
group_types_even (u ∷ us) c even = (type_even u c even.0, group_types_even us c even.1)

own_entries_even : (fs : List FunDef) (types : List Ty) (c : Before) → AreEvenTypes c types → AreEvenEntries c (own_entries fs types)
own_entries_even [] types c even = tt
own_entries_even (f ∷ fs) [] c even = tt
own_entries_even (f ∷ fs) (t ∷ types) c even = (even.0, own_entries_even fs types c even.1)

scheme_entries_even : (earlier : Named Scheme) (c : Before) → Each (λ entry. IsEvenScheme entry.1) earlier → AreEvenEntries c (scheme_entries earlier)
scheme_entries_even [] c even = tt
scheme_entries_even (entry ∷ earlier) c even = (even.0, scheme_entries_even earlier c even.1)

-- ---- functions

main_even : (b : Bool) (params : Named Ty) (c : Before) → AreEvenNames c params → Each (IsEvenEquation c) (main_told b params)
main_even true params c even = texts_even (types_of params) (types_even c params even)
  where
    texts_even : (types : List Ty) → AreEvenTypes c types → Each (IsEvenEquation c) (map (λ p. same p ty.Text) types)
    texts_even [] even = tt
    texts_even (t ∷ types) even = ((even.0, even_text c), texts_even types even.1)
main_even false params c even = tt

record EvenFunction (w : FunctionWalked) (c : Before) : Type 0 where
  types : AreEvenTypes c w.nodes
  said : AreEven c w.steps

module _ (functions : Named (Entry Ty)) (tables : List TableDecl) (in_mutual : Bool) where
  -- a function, the entries and what is unknown of it being even
  function_found : (f : FunDef) (u : Unknown) (n : ℕ) (b : Before) → Stays n b (λ c. AreEvenEntries c functions × EvenUnknown u c)
      → Found n b (function_walked functions tables in_mutual f u n).next (EvenFunction (function_walked functions tables in_mutual f u n))
  function_found f u n b known =
      let at : Span = f.name.at in
      let signature : Told = signature_told f.sig (type_of u) n in
      let moves : Told = has_if (is_marked f.place) u.effects effect.Move signature.next in
      let recurs : Told = has_if (is_recursive in_mutual f) u.effects effect.Rec moves.next in
      let main : List Equation = main_told (is_main f) u.params in
      let before : List Equation = signature.equations ++ (main ++ (moves.equations ++ recurs.equations)) in
      let body : Walked = walk functions tables f.body u.params u.effects recurs.next in
      let last : List Step = same_at at (same u.answer body.ty ∷ []) in
      onward known (signature_found f.sig (type_of u) n b known (λ c given. type_even u c given.1)) (λ c two.
      onward two (has_if_found (is_marked f.place) u.effects effect.Move signature.next c two (λ d all. all.0.1.row)) (λ c three.
      onward three (has_if_found (is_recursive in_mutual f) u.effects effect.Rec moves.next c three (λ d all. all.0.0.1.row)) (λ c four.
      mapped (beside four (expression_even functions tables f.body u.params u.effects recurs.next c (weaker four (λ d all. record { entries = all.0.0.0.0; locals = all.0.0.0.1.locals; row = all.0.0.0.1.row })))) (λ d all. (
      let u_is : EvenUnknown u d = all.0.0.0.0.1 in
      let signature_is : EvenTold signature d = all.0.0.0.1 in
      let moves_is : EvenTold moves d = all.0.0.1 in
      let recurs_is : EvenTold recurs d = all.0.1 in
      let body_is : EvenWalked body d = all.1 in
      let before_is : Each (IsEvenEquation d) before =
      each_both (IsEvenEquation d) signature.equations (main ++ (moves.equations ++ recurs.equations)) signature_is.equations
      (each_both (IsEvenEquation d) main (moves.equations ++ recurs.equations) (main_even (is_main f) u.params d u_is.locals)
      (each_both (IsEvenEquation d) moves.equations recurs.equations moves_is.equations recurs_is.equations)) in
      record {
        types = all_even body d body_is;
        said = steps_both (same_at at before) (body.steps ++ last) d (said_at at before d before_is) (steps_both body.steps last d body_is.said ((u_is.answers, body_is.is), tt));
      })))))

  functions_found : (fs : List FunDef) (us : List Unknown) (n : ℕ) (b : Before) → Stays n b (λ c. AreEvenEntries c functions × AreEvenUnknowns us c)
      → Found n b (functions_walked functions tables in_mutual fs us n).next (EvenFunction (functions_walked functions tables in_mutual fs us n))
  functions_found [] us n b known = mapped (here known) (λ c given. record { types = tt; said = tt })
  functions_found (f ∷ fs) [] n b known = mapped (here known) (λ c given. record { types = tt; said = tt })
  functions_found (f ∷ fs) (u ∷ us) n b known =
      let w : FunctionWalked = function_walked functions tables in_mutual f u n in
      let rest : FunctionWalked = functions_walked functions tables in_mutual fs us w.next in
      onward known (function_found f u n b (weaker known (λ c given. (given.0, given.1.0)))) (λ c two.
      mapped (beside two (functions_found fs us w.next c (weaker two (λ d all. (all.0.0, all.0.1.1))))) (λ d all. record {
        types = each_both (IsEven d) w.nodes rest.nodes all.0.1.types all.1.types;
        said = steps_both w.steps rest.steps d all.0.1.said all.1.said;
      }))

-- ---- the law

-- all of a walk through a declaration is even, its functions' types and its nodes' too
pub group_even : (earlier : Named Scheme) (tables : List TableDecl) (decl : Decl) → Each (λ entry. IsEvenScheme entry.1) earlier
    → (before : Before) × AreEven before (group_walked earlier tables decl).steps × Each (IsEven before) (group_types decl) × Each (IsEven before) (group_walked earlier tables decl).nodes
group_even earlier tables decl schemes =
    let fs : List FunDef = functions_in decl in
    let us : List Unknown = unknowns fs 0 in
    let functions : Named (Entry Ty) = own_entries fs (map type_of us) ++ scheme_entries earlier in
    let start : Before = λ v. no_effects in
    let k : ℕ = after_unknowns fs 0 in
    let w : FunctionWalked = group_walked earlier tables decl in
    let found : Found 0 start w.next (λ d. AreEvenTypes d (map type_of us) × EvenFunction w d) =
    onward (nothing_known 0 start) (unknowns_found fs 0 start) (λ c two.
    mapped (beside two (functions_found functions tables (is_mutual decl) fs us k c (weaker two (λ d all. (
      each_both (λ entry. IsEvenEntry d entry.1) (own_entries fs (map type_of us)) (scheme_entries earlier) (own_entries_even fs (map type_of us) d (group_types_even us d all.1)) (scheme_entries_even earlier d schemes),
      all.1,
    ))))) (λ d all. (group_types_even us d all.0.1, all.1))) in
    let even : AreEvenTypes found.after (map type_of us) × EvenFunction w found.after = now found.holds in
    (found.after, even.1.said, even.0, even.1.types)

pub effects_law : EffectsLaw
effects_law = record {
  even = λ earlier tables decl schemes.
      let all : (before : Before) × AreEven before (group_walked earlier tables decl).steps × Each (IsEven before) (group_types decl) × Each (IsEven before) (group_walked earlier tables decl).nodes = group_even earlier tables decl schemes in
      (all.0, all.1, all.2);
  same = same_loosely;
  holds = holds_loosely;
}
