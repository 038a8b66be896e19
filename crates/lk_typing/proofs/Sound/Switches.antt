-- Where all that is said of a `switch` holds, it has types by the rules if its parts have them.
use Rattle.std.proofs.Common.{◌≡◌, ℕ, ◌+◌, List, [], ◌∷◌, ◌++◌, refl, sym, subst, ap, ◌∙◌, Some, None}
use Rattle.lk_ast.specs.Layers.{layer}
use Rattle.lk_ast.specs.declared.declaration.TableDecl.{TableDecl}
use Rattle.lk_ast.specs.declared.expression.Case.{Case}
use Rattle.lk_ast.specs.declared.expression.Expr.{Expr}
use Rattle.lk_ast.specs.declared.expression.LastCase.{LastCase}
use Rattle.lk_ast.specs.declared.expression.Node.TheOpen.{Node-F}
use Rattle.lk_types.proofs.Members.{each_front, each_back}
use Rattle.lk_types.proofs.Parts.{mapped}
use Rattle.lk_types.specs.Each.{Each}
use Rattle.lk_types.specs.Grounding.{Grounding, under, row_tail}
use Rattle.lk_types.specs.Rows.{Row, EffectSet}
use Rattle.lk_types.specs.Solutions.{IsMet}
use Rattle.lk_types.specs.declared.equation.Equation.{Equation}
use Rattle.lk_types.specs.declared.ground.Ground.{Ground}
use Rattle.lk_types.specs.declared.ty.Effect.TheVariants as effect
use Rattle.lk_types.specs.declared.ty.RowTail.{RowTail}
use Rattle.lk_types.specs.declared.ty.RowTail.TheVariants.{Closed, Var}
use Rattle.lk_types.specs.declared.ty.Ty.{Ty}
use Rattle.lk_typing.proofs.EffectRows.{has_sound}
use Rattle.lk_typing.proofs.Lists.{become_both, become_more}
use Rattle.lk_typing.proofs.Sound.Sequences.{AreSoundCases, FoundCases, cases_sound, one_type_sound}
use Rattle.lk_typing.proofs.Meaning.{Names, Found, Sound}
use Rattle.lk_typing.proofs.Nodes.{EndedMet, ended_met, one_more, nodes_of}
use Rattle.lk_typing.proofs.Values.{met, under_variant}
use Rattle.lk_typing.specs.Equations.{Own, own}
use Rattle.lk_typing.specs.Names.{Named, Entry}
use Rattle.lk_typing.specs.Steps.{Meets, Holds}
use Rattle.lk_typing.specs.Types.{variant_of, with_fields}
use Rattle.lk_typing.specs.Typing.{HasType, switch, switch_open}
use Rattle.lk_typing.specs.Unknowns as unknown
use Rattle.lk_typing.specs.Walk.{Walking, Walked, all_types, CaseWalk, WalkedCases, walk_cases, one_type, switch_walked}
use Rattle.lk_typing.specs.declared.step.Step.{Step}

-- all of two lists
pub each_parted : {A : Type 0} (P : A → Type 0) (xs ys : List A) → Each P (xs ++ ys) → Each P xs × Each P ys
each_parted P xs ys all = (each_front P xs ys all, each_back P xs ys all)

-- what the tags and the value that is looked at come to
pub record Looked (σ : Grounding) (value : Walked) (tags : Named Ground) (tail : RowTail) (t : Ground) : Type 0 where
  pub row : Row
  pub tagged : with_fields tags (row_tail σ tail) ≡ Some row
  pub is : t ≡ variant_of row

looked : (σ : Grounding) (value : Walked) (tags : Named Ty) (known_tags : Named Ground) (tail : RowTail) (t : Ground)
    → Names σ tags known_tags → under σ value.ty ≡ Some t → IsMet σ (unknown.same value.ty (unknown.variant_of tags tail)) → Looked σ value known_tags tail t
looked σ value tags known_tags tail t ns ty equal =
    let found : (row : Row) × (with_fields known_tags (row_tail σ tail) ≡ Some row) × (t ≡ variant_of row) =
    mapped variant_of (with_fields known_tags (row_tail σ tail)) t (sym (under_variant σ tags known_tags tail ns.same) ∙ met σ value.ty (unknown.variant_of tags tail) t ty equal) in
    record { row = found.0; tagged = found.1; is = found.2 }

module _ (functions : Named (Entry Ty)) (known_functions : Named (Entry Ground)) (tables : List TableDecl) where
  abbrev IsSound : Walking → Expr → Type 0
  IsSound = Sound functions known_functions tables

  abbrev Finds : Grounding → Walked → Expr → Named Ground → EffectSet → Type 0
  Finds = Found functions known_functions tables

  abbrev Typing : Named Ground → EffectSet → Expr → Ground → List Ground → Type 0
  Typing = HasType known_functions tables

  abbrev FindsCases : Grounding → WalkedCases → List Case → Named Ground → EffectSet → Type 0
  FindsCases = FoundCases functions known_functions tables

  pub switch_sound : (e d : Expr) (cases : List Case) (value : Walking) (cs : List CaseWalk) → layer e ≡ Node-F.Switch d cases None
      → IsSound value d → AreSoundCases functions known_functions tables cs cases → IsSound (switch_walked e.span value cs None) e
  switch_sound e d cases value cs is sound_d sound_cases σ names known_names effects s n fs ns es meets =
      let w : Walked = value names effects n in
      let c : WalkedCases = walk_cases cs names effects w.next in
      let variant : Ty = unknown.variant_of c.tags Closed in
      let bodies : Own = one_type c.bodies.types c.bodies.next in
      let local : Equation = unknown.has effects effect.Local bodies.next in
      let o : Own = own bodies.ty (unknown.same w.ty variant ∷ (bodies.equations ++ local ∷ [])) (1 + bodies.next) in
      let parts : EndedMet σ (w.steps ++ c.bodies.steps) o = ended_met σ e.span (all_types w ++ c.bodies.inside) (w.steps ++ c.bodies.steps) o meets in
      let has_d : Finds σ w d known_names s = sound_d σ names known_names effects s n fs ns es (each_front (λ step. Holds σ step.said) w.steps c.bodies.steps parts.before) in
      let has_cases : FindsCases σ c cases known_names s =
      cases_sound functions known_functions tables cs cases sound_cases σ names known_names effects s w.next fs ns es (each_back (λ step. Holds σ step.said) w.steps c.bodies.steps parts.before) in
      let seen : Looked σ w has_cases.tags Closed has_d.t = looked σ w c.tags has_cases.tags Closed has_d.t has_cases.seen_tags has_d.ty parts.equations.0 in
      let rest : Each (IsMet σ) bodies.equations × Each (IsMet σ) (local ∷ []) = each_parted (IsMet σ) bodies.equations (local ∷ []) parts.equations.1 in
      let one : (t : Ground) × (under σ bodies.ty ≡ Some t) × Each (λ u. u ≡ t) has_cases.ts = one_type_sound σ c.bodies.types has_cases.ts c.bodies.next has_cases.types rest.0 in
      record {
        t = one.0;
        inside = (variant_of seen.row ∷ has_d.inside) ++ has_cases.inside;
        ty = parts.node ∙ one.1;
        nodes = become_both σ (all_types w) c.bodies.inside (variant_of seen.row ∷ has_d.inside) has_cases.inside (nodes_of σ w (variant_of seen.row) has_d.inside (has_d.ty ∙ ap (λ t. Some t) seen.is) has_d.nodes) has_cases.nodes;
        typed = switch d cases seen.row has_cases.tags has_cases.ts has_d.inside has_cases.inside is (subst (λ t. Typing known_names s d t has_d.inside) seen.is has_d.typed) has_cases.typed one.2 seen.tagged (has_sound σ effects s effect.Local bodies.next es rest.1.0);
      }

  pub switch_open_sound : (e d : Expr) (cases : List Case) (last : LastCase) (value body : Walking) (cs : List CaseWalk) → layer e ≡ Node-F.Switch d cases (Some last)
      → IsSound value d → AreSoundCases functions known_functions tables cs cases → IsSound body last.body → IsSound (switch_walked e.span value cs (Some (last.name.text, body))) e
  switch_open_sound e d cases last value body cs is sound_d sound_cases sound_last σ names known_names effects s n fs ns es meets =
      let w : Walked = value names effects n in
      let c : WalkedCases = walk_cases cs names effects w.next in
      let m : ℕ = c.bodies.next in
      let others : Ty = unknown.variant_of [] (Var m) in
      let v : Walked = body ((last.name.text, others) ∷ names) effects (1 + m) in
      let types : List Ty = c.bodies.types ++ v.ty ∷ [] in
      let variant : Ty = unknown.variant_of c.tags (Var m) in
      let bodies : Own = one_type types v.next in
      let local : Equation = unknown.has effects effect.Local bodies.next in
      let o : Own = own bodies.ty (unknown.same w.ty variant ∷ (bodies.equations ++ local ∷ [])) (1 + bodies.next) in
      let later : List Step = c.bodies.steps ++ v.steps in
      let parts : EndedMet σ (w.steps ++ later) o = ended_met σ e.span (all_types w ++ (c.bodies.inside ++ all_types v)) (w.steps ++ later) o meets in
      let later_met : Meets σ later = each_back (λ step. Holds σ step.said) w.steps later parts.before in
      let has_d : Finds σ w d known_names s = sound_d σ names known_names effects s n fs ns es (each_front (λ step. Holds σ step.said) w.steps later parts.before) in
      let has_cases : FindsCases σ c cases known_names s =
      cases_sound functions known_functions tables cs cases sound_cases σ names known_names effects s w.next fs ns es (each_front (λ step. Holds σ step.said) c.bodies.steps v.steps later_met) in
      let other : Row = σ.rows m in
      let has_last : Finds σ v last.body ((last.name.text, variant_of other) ∷ known_names) s =
      sound_last σ ((last.name.text, others) ∷ names) ((last.name.text, variant_of other) ∷ known_names) effects s (1 + m) fs
      (one_more σ names known_names last.name.text others (variant_of other) (under_variant σ [] [] (Var m) refl) ns) es (each_back (λ step. Holds σ step.said) c.bodies.steps v.steps later_met) in
      let seen : Looked σ w has_cases.tags (Var m) has_d.t = looked σ w c.tags has_cases.tags (Var m) has_d.t has_cases.seen_tags has_d.ty parts.equations.0 in
      let rest : Each (IsMet σ) bodies.equations × Each (IsMet σ) (local ∷ []) = each_parted (IsMet σ) bodies.equations (local ∷ []) parts.equations.1 in
      let ts : List Ground = has_cases.ts ++ has_last.t ∷ [] in
      let one : (t : Ground) × (under σ bodies.ty ≡ Some t) × Each (λ u. u ≡ t) ts =
      one_type_sound σ types ts v.next (become_both σ c.bodies.types (v.ty ∷ []) has_cases.ts (has_last.t ∷ []) has_cases.types (become_more σ v.ty [] has_last.t [] has_last.ty refl)) rest.0 in
      let each : Each (λ u. u ≡ one.0) has_cases.ts × Each (λ u. u ≡ one.0) (has_last.t ∷ []) = each_parted (λ u. u ≡ one.0) has_cases.ts (has_last.t ∷ []) one.2 in
      record {
        t = one.0;
        inside = (variant_of seen.row ∷ has_d.inside) ++ (has_cases.inside ++ (one.0 ∷ has_last.inside));
        ty = parts.node ∙ one.1;
        nodes = become_both σ (all_types w) (c.bodies.inside ++ all_types v) (variant_of seen.row ∷ has_d.inside) (has_cases.inside ++ (one.0 ∷ has_last.inside))
            (nodes_of σ w (variant_of seen.row) has_d.inside (has_d.ty ∙ ap (λ t. Some t) seen.is) has_d.nodes)
            (become_both σ c.bodies.inside (all_types v) has_cases.inside (one.0 ∷ has_last.inside) has_cases.nodes (nodes_of σ v one.0 has_last.inside (has_last.ty ∙ ap (λ t. Some t) each.1.0) has_last.nodes));
        typed = switch_open d cases last other seen.row has_cases.tags has_cases.ts has_d.inside has_cases.inside has_last.inside is (subst (λ t. Typing known_names s d t has_d.inside) seen.is has_d.typed) has_cases.typed each.0
            (subst (λ t. Typing ((last.name.text, variant_of other) ∷ known_names) s last.body t has_last.inside) each.1.0 has_last.typed) seen.tagged (has_sound σ effects s effect.Local bodies.next es rest.1.0);
      }
