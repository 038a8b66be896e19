-- A program of which some walk says what can't hold, after declarations with principal schemes, isn't well typed.
use Rattle.std.proofs.Common.{ℕ, ◌+◌, Bool, List, [], take, drop, sym, subst, take-append-drop}
use Rattle.lk_ast.specs.declared.declaration.Decl.{Decl}
use Rattle.lk_ast.specs.declared.declaration.Program.{Program}
use Rattle.lk_ast.specs.declared.declaration.TableDecl.{TableDecl}
use Rattle.lk_ast.specs.declared.place.Span.{Span}
use Rattle.lk_infer.proofs.Further.{AreGeneral, inferred_general, further}
use Rattle.lk_infer.proofs.More.{IsMore, same_is_more, group_more}
use Rattle.lk_infer.specs.Programs.{Ends, EndsIllTyped}
use Rattle.lk_infer.specs.Refusals.{IsIllTyped}
use Rattle.lk_types.proofs.Members.{each_front}
use Rattle.lk_types.specs.Grounding.{Grounding}
use Rattle.lk_types.specs.declared.ground.Ground.{Ground}
use Rattle.lk_types.specs.declared.scheme.Scheme.{Scheme}
use Rattle.lk_typing.proofs.SchemeCounts.{as_many_schemes}
use Rattle.lk_typing.specs.Groups.{IsGroup, group_walked}
use Rattle.lk_typing.specs.Law.{IsMetBy, WalkLaw}
use Rattle.lk_typing.specs.Names.{Named}
use Rattle.lk_typing.specs.Programs.{AreInstances, Hold, HaveSchemes, IsWellTyped}
use Rattle.lk_ast.specs.Tables.{tables_of}
use Rattle.lk_typing.specs.Steps.{CanBeMet, Holds, Meets}
use Rattle.lk_typing.specs.declared.step.Step.{Step}

-- what meets all of a walk meets its first part
pub first_met : (σ : Grounding) (k : ℕ) (steps : List Step) → Meets σ steps → Meets σ (take k steps)
first_met σ k steps met =
    each_front (λ step. Holds σ step.said) (take k steps) (drop k steps) (subst (λ all. Meets σ all) (sym (take-append-drop k steps)) met)

module _ (law : WalkLaw) (tables : List TableDecl) where
  -- the walk through a group can be met where other schemes of its functions hold
  can_be_met : (decl : Decl) (our_earlier earlier : Named Scheme) (others : List Scheme) → IsMore our_earlier earlier → Hold earlier tables decl others
      → CanBeMet (group_walked our_earlier tables decl).steps
  can_be_met decl our_earlier earlier others is_more hold =
      let some : (ts : List Ground) × AreInstances others ts = hold.some in
      let typed : (nodes : List Ground) × IsGroup earlier tables decl some.0 nodes = hold.each some.0 some.1 in
      let met : (σ : Grounding) × IsMetBy σ our_earlier tables decl some.0 typed.0 =
      (law our_earlier tables decl some.0 typed.0).0 (group_more our_earlier earlier tables decl some.0 typed.0 is_more typed.1) in
      (met.0, met.1.met)

  never : (at : Span) (large : Bool) (our_earlier earlier : Named Scheme) (decls : List Decl) (others : List Scheme) → IsMore our_earlier earlier
      → Ends tables (λ large steps. IsIllTyped large steps at) large our_earlier decls → HaveSchemes tables earlier decls others → ⊥
  never at large our_earlier earlier _ _ is_more (Ends.here {decl} ill) (HaveSchemes.more others rest hold have) =
      let met : CanBeMet (group_walked our_earlier tables decl).steps = can_be_met decl our_earlier earlier others is_more hold in
      ill.none (met.0, first_met met.0 (ill.number + 1) (group_walked our_earlier tables decl).steps met.1)
  never at large our_earlier earlier _ _ is_more (Ends.later {decl} {decls} schemes types inferred fine ends) (HaveSchemes.more others rest hold have) =
      let general : AreGeneral our_earlier tables decl schemes = inferred_general our_earlier tables decl schemes types inferred in
      never at _ _ _ decls rest (further tables decl our_earlier earlier schemes others is_more general hold (as_many_schemes our_earlier tables decl schemes inferred.hold)) ends have

pub not_well_typed : WalkLaw → (program : Program) (at : Span) → EndsIllTyped program at → IsWellTyped program → ⊥
not_well_typed law program at ends (schemes, typed) = never law (tables_of program) at _ [] [] program.decls schemes (same_is_more []) ends typed
