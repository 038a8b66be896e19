-- A function has just one list of nodes at each type.
use Rattle.std.proofs.Common.{◌≡◌, List, Some, slice_get, sym, ap, subst, ◌∙◌}
use Rattle.lk_ast.specs.Functions.{functions_of}
use Rattle.lk_ast.specs.declared.declaration.Program.{Program}
use Rattle.lk_types.proofs.Parts.{same_some}
use Rattle.lk_ground_types.proofs.Variables.{agree_law}
use Rattle.lk_ground_types.specs.Least.{AreSameAt, IsLeastBut}
use Rattle.lk_mono.proofs.SameEverywhere.{become_same}
use Rattle.lk_mono.proofs.SameGroundings.{same_groundings}
use Rattle.lk_mono.specs.Instances.{IsBody}
use Rattle.lk_names.specs.Programs.{IsBound}
use Rattle.lk_outline.specs.Law.{OutlineLaw}
use Rattle.lk_sound.specs.Nodes.{TypedNode, Use}
use Rattle.lk_outline.specs.Outline.{body_outline}
use Rattle.lk_outline.specs.Typed.{effects_in, typed_nodes}
use Rattle.lk_principal.proofs.FunctionNames.{one_place}
use Rattle.lk_principal.specs.Bodies.{shares}
use Rattle.lk_sound.proofs.Apart.{functions_apart}
use Rattle.lk_types.specs.Grounding.{under}
use Rattle.lk_types.specs.Rows.{effects_of}
use Rattle.lk_types.specs.Variables.{variables_of}
use Rattle.lk_types.specs.declared.ground.Ground.{out-Ground}
use Rattle.lk_types.specs.declared.ground.Ground.TheVariants as known
use Rattle.lk_types.specs.declared.scheme.Scheme.{Scheme}
use Rattle.lk_types.specs.declared.ty.Ty.{Ty}
use Rattle.lk_typing.proofs.Operators.{become_same as become_one}
use Rattle.lk_typing.specs.Law.{Become}
use Rattle.lk_typing.specs.Names.{types_of}
use Rattle.lk_ast.specs.Tables.{tables_of}

module _ (outline_law : OutlineLaw) {p : Program} {schemes : List Scheme} {types : List Ty} where
  -- the nodes by the outline of the function and their types
  outlined : {u : Use} {nodes : List TypedNode} (body : IsBody p schemes types u nodes) → nodes ≡ typed_nodes (effects_in (out-Ground u.type)) body.typed.nodes (body_outline body.function.params body.function.body)
  outlined {u} {nodes} body =
      let effects : effects_in (out-Ground u.type) ≡ effects_of body.typed.is.typed.effects =
      ap (λ t. effects_in (out-Ground t)) body.typed.is.typed.is ∙ ap effects_in (known.outs-Fun (types_of body.typed.is.typed.params) (effects_of body.typed.is.typed.effects) body.typed.is.typed.answer) in
      body.are
      ∙ outline_law body.typed.is.functions (tables_of p) body.typed.is.typed.params body.function.params body.typed.is.typed.effects body.function.body body.typed.is.typed.answer body.typed.is.typed.inside body.typed.is.typed.names body.typed.is.typed.body
      ∙ (λ i. typed_nodes (sym effects i) (sym body.typed.is.typed.all i) (body_outline body.function.params body.function.body))

  module _ (bound : IsBound p) {u : Use} {nodes others : List TypedNode} (a : IsBody p schemes types u nodes) (b : IsBody p schemes types u others) where
    same_function : a.function ≡ b.function
    same_function = same_some (sym a.named ∙ b.named)

    same_number : a.number ≡ b.number
    same_number = one_place (functions_of p) (functions_apart p bound) a.number b.number b.function (a.is ∙ ap (λ f. Some f) same_function) b.is

    same_scheme : a.scheme ≡ b.scheme
    same_scheme = same_some (sym a.has ∙ ap (slice_get schemes) same_number ∙ b.has)

    same_own : a.own ≡ b.own
    same_own = same_some (sym a.share ∙ ap (slice_get (shares (functions_of p) types)) same_number ∙ b.share)

    same_at : AreSameAt (variables_of a.scheme.body) a.typed.σ b.typed.σ
    same_at = same_groundings a.typed.σ b.typed.σ a.scheme.body u.type a.typed.instance.body (ap (λ (s : Scheme). under b.typed.σ s.body) same_scheme ∙ b.typed.instance.body)

    least_too : IsLeastBut (variables_of a.scheme.body) b.typed.σ
    least_too = subst (λ (s : Scheme). IsLeastBut (variables_of s.body) b.typed.σ) (sym same_scheme) b.typed.least

    same_types : a.typed.nodes ≡ b.typed.nodes
    same_types =
        become_one a.typed.σ a.own a.typed.nodes b.typed.nodes a.typed.become
        (become_same a.typed.least least_too same_at agree_law a.own b.typed.nodes (subst (λ own. Become b.typed.σ own b.typed.nodes) (sym same_own) b.typed.become))

    pub same_nodes : nodes ≡ others
    same_nodes = outlined a ∙ (λ i. typed_nodes (effects_in (out-Ground u.type)) (same_types i) (body_outline (same_function i).params (same_function i).body)) ∙ sym (outlined b)
