-- Where the parts of a `switch` have types, what stands for its variables makes all that is said of it hold.
use Rattle.std.proofs.Common.{◌≡◌, ℕ, ◌+◌, true, List, [], ◌∷◌, ◌++◌, length, refl, ap, ◌∙◌, Some, None}
use native.Mathlib.Omega.{arith}
use Rattle.std.specs.Option.{option_map}
use Rattle.lk_ast.specs.declared.declaration.TableDecl.{TableDecl}
use Rattle.lk_ast.specs.declared.place.Span.{Span}
use Rattle.lk_types.proofs.Members.{each_both}
use Rattle.lk_types.specs.Each.{Each}
use Rattle.lk_types.specs.Grounding.{Grounding, under, row_tail}
use Rattle.lk_types.specs.Rows.{Label, Row, EffectSet, no_fields}
use Rattle.lk_types.specs.Solutions.{IsMet}
use Rattle.lk_types.specs.declared.ground.Ground.{Ground}
use Rattle.lk_types.specs.declared.ty.Effect.TheVariants as effect
use Rattle.lk_types.specs.declared.ty.RowTail.{RowTail}
use Rattle.lk_types.specs.declared.ty.RowTail.TheVariants.{Closed, Var}
use Rattle.lk_types.specs.declared.ty.Ty.{Ty}
use Rattle.lk_typing.proofs.EffectRows.{without, has_complete}
use Rattle.lk_typing.proofs.Groups.Functions.{stand_next}
use Rattle.lk_typing.proofs.Lists.{length_append, stand_front, become_more, become_both}
use Rattle.lk_typing.proofs.Complete.Sequences.{CompleteCases, MetCases, letters_of_none, one_type_complete}
use Rattle.lk_typing.proofs.Meaning.{Letter, row, effects, Stand, Names, Met, Complete, OwnMet}
use Rattle.lk_typing.proofs.Nodes.{with_node, stand_before, ended_holds, one_more, nodes_of}
use Rattle.lk_typing.proofs.Values.{meets, under_variant}
use Rattle.lk_typing.specs.Equations.{Own, own}
use Rattle.lk_typing.specs.Law.{Become}
use Rattle.lk_typing.specs.Names.{Named, Entry}
use Rattle.lk_typing.specs.Steps.{Holds}
use Rattle.lk_typing.specs.Types.{variant_of, with_fields}
use Rattle.lk_typing.specs.Unknowns as unknown
use Rattle.lk_typing.specs.Walk.{Walking, Walked, all_types, CaseWalk, WalkedCases, walk_cases, one_type, switch_walked}

module _ (functions : Named (Entry Ty)) (known_functions : Named (Entry Ground)) (tables : List TableDecl) where
  abbrev IsComplete : Walking → Named Ground → EffectSet → Ground → List Ground → Type 0
  IsComplete = Complete functions known_functions tables

  abbrev AreComplete : List CaseWalk → Named Ground → EffectSet → List Ground → Named Ground → List Ground → Type 0
  AreComplete = CompleteCases functions known_functions tables

  variant_is : (σ : Grounding) (tags : Named Ty) (known_tags : Named Ground) (tail : RowTail) (r : Row) → Names σ tags known_tags → with_fields known_tags (row_tail σ tail) ≡ Some r
      → under σ (unknown.variant_of tags tail) ≡ Some (variant_of r)
  variant_is σ tags known_tags tail r ns is = under_variant σ tags known_tags tail ns.same ∙ ap (option_map variant_of) is

  pub switch_complete : (at : Span) (value : Walking) (cs : List CaseWalk) (names : Named Ground) (s : EffectSet) (t : Ground) (r : Row) (tags : Named Ground) (ts inside bodies : List Ground)
      → IsComplete value names s (variant_of r) inside → AreComplete cs names s ts tags bodies → Each (λ u. u ≡ t) ts → with_fields tags no_fields ≡ Some r → s effect.Local ≡ true
      → IsComplete (switch_walked at value cs None) names s t ((variant_of r ∷ inside) ++ bodies)
  switch_complete at value cs names s t r tags ts inside bodies (la, met_value) (lc, met_cases) each tagged local =
      let lo : List Letter = letters_of_none ts t in
      let ll : List Letter = effects (without effect.Local s) ∷ [] in (
        with_node (la ++ (lc ++ (lo ++ ll))) t,
        λ σ open_names f n fs ns es all_stand.
            let stands : Stand σ n (la ++ (lc ++ (lo ++ ll))) = stand_before σ (la ++ (lc ++ (lo ++ ll))) t n all_stand in
            let w : Walked = value open_names f n in
            let c : WalkedCases = walk_cases cs open_names f w.next in
            let m : ℕ = c.bodies.next in
            let one : Own = one_type c.bodies.types m in
            let v : Met σ w (length la + n) (variant_of r) inside = met_value σ open_names f n fs ns es (stand_front σ la (lc ++ (lo ++ ll)) n stands) in
            let second : Stand σ w.next (lc ++ (lo ++ ll)) = stand_next σ la (lc ++ (lo ++ ll)) n w.next v.next stands in
            let g : MetCases σ c (length lc + w.next) ts tags bodies = met_cases σ open_names f w.next fs ns es (stand_front σ lc (lo ++ ll) w.next second) in
            let third : Stand σ m (lo ++ ll) = stand_next σ lc (lo ++ ll) w.next m g.bodies.next second in
            let b : OwnMet σ one (length lo + m) t = one_type_complete σ c.bodies.types ts t m each g.bodies.types (stand_front σ lo ll m third) in
            let last : Stand σ one.next ll = stand_next σ lo ll m one.next b.next third in
            let variant : Ty = unknown.variant_of c.tags Closed in
            let o : Own = own one.ty (unknown.same w.ty variant ∷ (one.equations ++ unknown.has f effect.Local one.next ∷ [])) (1 + one.next) in
            let next_1 : w.next ≡ length la + n = v.next in
            let next_2 : m ≡ length lc + w.next = g.bodies.next in
            let next_3 : one.next ≡ length lo + m = b.next in
            let sum_1 : length (lo ++ ll) ≡ length lo + length ll = length_append lo ll in
            let sum_2 : length (lc ++ (lo ++ ll)) ≡ length lc + length (lo ++ ll) = length_append lc (lo ++ ll) in
            let sum_3 : length (la ++ (lc ++ (lo ++ ll))) ≡ length la + length (lc ++ (lo ++ ll)) = length_append la (lc ++ (lo ++ ll)) in
            let behind : 1 + one.next ≡ length (la ++ (lc ++ (lo ++ ll))) + n = omega arith in
            ended_holds σ at (all_types w ++ c.bodies.inside) (w.steps ++ c.bodies.steps) o (la ++ (lc ++ (lo ++ ll))) n t ((variant_of r ∷ inside) ++ bodies) all_stand
            (each_both (λ step. Holds σ step.said) w.steps c.bodies.steps v.met g.bodies.met)
            (record {
              next = behind;
              equations = (meets σ w.ty variant (variant_of r) v.ty (variant_is σ c.tags tags Closed r g.seen_tags tagged), each_both (IsMet σ) one.equations (unknown.has f effect.Local one.next ∷ []) b.equations (has_complete σ f s effect.Local one.next es local last.0.effects, tt));
              ty = b.ty;
            })
            (become_both σ (all_types w) c.bodies.inside (variant_of r ∷ inside) bodies (nodes_of σ w (variant_of r) inside v.ty v.nodes) g.bodies.nodes),
      )

  pub switch_open_complete : (at : Span) (value : Walking) (cs : List CaseWalk) (x : Label) (body : Walking) (names : Named Ground) (s : EffectSet) (t : Ground) (other r : Row) (tags : Named Ground) (ts inside bodies more : List Ground)
      → IsComplete value names s (variant_of r) inside → AreComplete cs names s ts tags bodies → Each (λ u. u ≡ t) ts → IsComplete body ((x, variant_of other) ∷ names) s t more
      → with_fields tags other ≡ Some r → s effect.Local ≡ true
      → IsComplete (switch_walked at value cs (Some (x, body))) names s t ((variant_of r ∷ inside) ++ (bodies ++ (t ∷ more)))
  switch_open_complete at value cs x body names s t other r tags ts inside bodies more (la, met_value) (lc, met_cases) each (lb, met_body) tagged local =
      let ts' : List Ground = ts ++ t ∷ [] in
      let lo : List Letter = letters_of_none ts' t in
      let ll : List Letter = effects (without effect.Local s) ∷ [] in (
        with_node (la ++ (lc ++ (row other ∷ (lb ++ (lo ++ ll))))) t,
        λ σ open_names f n fs ns es all_stand.
            let stands : Stand σ n (la ++ (lc ++ (row other ∷ (lb ++ (lo ++ ll))))) = stand_before σ (la ++ (lc ++ (row other ∷ (lb ++ (lo ++ ll))))) t n all_stand in
            let w : Walked = value open_names f n in
            let c : WalkedCases = walk_cases cs open_names f w.next in
            let m : ℕ = c.bodies.next in
            let others : Ty = unknown.variant_of [] (Var m) in
            let z : Walked = body ((x, others) ∷ open_names) f (1 + m) in
            let types : List Ty = c.bodies.types ++ z.ty ∷ [] in
            let one : Own = one_type types z.next in
            let v : Met σ w (length la + n) (variant_of r) inside = met_value σ open_names f n fs ns es (stand_front σ la (lc ++ (row other ∷ (lb ++ (lo ++ ll)))) n stands) in
            let second : Stand σ w.next (lc ++ (row other ∷ (lb ++ (lo ++ ll)))) = stand_next σ la (lc ++ (row other ∷ (lb ++ (lo ++ ll)))) n w.next v.next stands in
            let g : MetCases σ c (length lc + w.next) ts tags bodies = met_cases σ open_names f w.next fs ns es (stand_front σ lc (row other ∷ (lb ++ (lo ++ ll))) w.next second) in
            let third : Stand σ m (row other ∷ (lb ++ (lo ++ ll))) = stand_next σ lc (row other ∷ (lb ++ (lo ++ ll))) w.next m g.bodies.next second in
            let is_other : σ.rows m ≡ other = third.0.row in
            let others_are : under σ others ≡ Some (variant_of other) = variant_is σ [] [] (Var m) other (record { same = refl }) (ap (λ q. Some q) is_other) in
            let y : Met σ z (length lb + (1 + m)) t more = met_body σ ((x, others) ∷ open_names) f (1 + m) fs (one_more σ open_names names x others (variant_of other) others_are ns) es (stand_front σ lb (lo ++ ll) (1 + m) third.1) in
            let fourth : Stand σ z.next (lo ++ ll) = stand_next σ lb (lo ++ ll) (1 + m) z.next y.next third.1 in
            let become : Become σ types ts' = become_both σ c.bodies.types (z.ty ∷ []) ts (t ∷ []) g.bodies.types (become_more σ z.ty [] t [] y.ty refl) in
            let b : OwnMet σ one (length lo + z.next) t = one_type_complete σ types ts' t z.next (each_both (λ u. u ≡ t) ts (t ∷ []) each (refl, tt)) become (stand_front σ lo ll z.next fourth) in
            let last : Stand σ one.next ll = stand_next σ lo ll z.next one.next b.next fourth in
            let variant : Ty = unknown.variant_of c.tags (Var m) in
            let o : Own = own one.ty (unknown.same w.ty variant ∷ (one.equations ++ unknown.has f effect.Local one.next ∷ [])) (1 + one.next) in
            let next_1 : w.next ≡ length la + n = v.next in
            let next_2 : m ≡ length lc + w.next = g.bodies.next in
            let next_3 : z.next ≡ length lb + (1 + m) = y.next in
            let next_4 : one.next ≡ length lo + z.next = b.next in
            let sum_1 : length (lo ++ ll) ≡ length lo + length ll = length_append lo ll in
            let sum_2 : length (lb ++ (lo ++ ll)) ≡ length lb + length (lo ++ ll) = length_append lb (lo ++ ll) in
            let sum_3 : length (lc ++ (row other ∷ (lb ++ (lo ++ ll)))) ≡ length lc + length (row other ∷ (lb ++ (lo ++ ll))) = length_append lc (row other ∷ (lb ++ (lo ++ ll))) in
            let sum_4 : length (la ++ (lc ++ (row other ∷ (lb ++ (lo ++ ll))))) ≡ length la + length (lc ++ (row other ∷ (lb ++ (lo ++ ll)))) = length_append la (lc ++ (row other ∷ (lb ++ (lo ++ ll)))) in
            let behind : 1 + one.next ≡ length (la ++ (lc ++ (row other ∷ (lb ++ (lo ++ ll))))) + n = omega arith in
            ended_holds σ at (all_types w ++ (c.bodies.inside ++ all_types z)) (w.steps ++ (c.bodies.steps ++ z.steps)) o (la ++ (lc ++ (row other ∷ (lb ++ (lo ++ ll))))) n t ((variant_of r ∷ inside) ++ (bodies ++ (t ∷ more))) all_stand
            (each_both (λ step. Holds σ step.said) w.steps (c.bodies.steps ++ z.steps) v.met (each_both (λ step. Holds σ step.said) c.bodies.steps z.steps g.bodies.met y.met))
            (record {
              next = behind;
              equations = (meets σ w.ty variant (variant_of r) v.ty (variant_is σ c.tags tags (Var m) r g.seen_tags (ap (with_fields tags) is_other ∙ tagged)), each_both (IsMet σ) one.equations (unknown.has f effect.Local one.next ∷ []) b.equations (has_complete σ f s effect.Local one.next es local last.0.effects, tt));
              ty = b.ty;
            })
            (become_both σ (all_types w) (c.bodies.inside ++ all_types z) (variant_of r ∷ inside) (bodies ++ (t ∷ more)) (nodes_of σ w (variant_of r) inside v.ty v.nodes)
            (become_both σ c.bodies.inside (all_types z) bodies (t ∷ more) g.bodies.nodes (nodes_of σ z t more y.ty y.nodes))),
      )
