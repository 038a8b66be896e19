-- Where the parts of a query, an update or a deletion have types, what stands for its variables makes all that is said of it
-- hold.
use Rattle.std.proofs.Common.{◌≡◌, ℕ, ◌+◌, true, List, [], ◌∷◌, ◌++◌, map, length, sym, subst, ap, ◌∙◌, Option, Some, None}
use native.Mathlib.Omega.{arith}
use Rattle.std.specs.Option.{option_map}
use Rattle.lk_ast.specs.declared.declaration.TableDecl.{TableDecl}
use Rattle.lk_ast.specs.declared.expression.SortKey.{SortKey}
use Rattle.lk_ast.specs.declared.place.Span.{Span}
use Rattle.lk_types.proofs.Members.{each_both}
use Rattle.lk_types.proofs.Unfold.{under_bool}
use Rattle.lk_types.specs.Each.{Each}
use Rattle.lk_types.specs.Grounding.{Grounding, under}
use Rattle.lk_types.specs.Rows.{Label, Row, EffectSet, no_effects}
use Rattle.lk_types.specs.Solutions.{IsMet}
use Rattle.lk_types.specs.declared.equation.Equation.{Equation}
use Rattle.lk_types.specs.declared.ground.Ground.{Ground}
use Rattle.lk_types.specs.declared.ground.Ground.TheVariants as known
use Rattle.lk_types.specs.declared.ty.Effect.TheVariants as effect
use Rattle.lk_types.specs.declared.ty.Effects.{Effects}
use Rattle.lk_types.specs.declared.ty.RowTail.TheVariants.{Closed, Var}
use Rattle.lk_types.specs.declared.ty.Ty.{Ty}
use Rattle.lk_types.specs.declared.ty.Ty.TheVariants as ty
use Rattle.lk_typing.proofs.EffectRows.{without, has_complete}
use Rattle.lk_typing.proofs.Groups.Functions.{stand_next}
use Rattle.lk_typing.proofs.Lists.{length_append, stand_front, become_both}
use Rattle.lk_typing.proofs.Complete.Sequences.{CompleteAll, MetAll}
use Rattle.lk_typing.proofs.Meaning.{Letter, plain, row, effects, Stand, Names, HasEffects, Met, Complete, OwnMet, seen}
use Rattle.lk_typing.proofs.Nodes.{with_node, stand_before, ended_holds, one_more, nodes_of, letters_if, has_if_complete, ToldMet}
use Rattle.lk_typing.proofs.Operators.{labelled_both, Labelled, under_row_of}
use Rattle.lk_typing.proofs.Sound.Queries.{scan_only, none_at_all}
use Rattle.lk_typing.proofs.Values.{meets, list_is, variable_is, under_record, under_unit}
use Rattle.lk_typing.specs.Equations.{Own, own}
use Rattle.lk_typing.specs.Law.{Become}
use Rattle.lk_typing.specs.Names.{Named, Entry, IsRowOf}
use Rattle.lk_typing.specs.Steps.{Holds}
use Rattle.lk_typing.specs.Types.{record_of, with_fields, labelled, only_scan, unit}
use Rattle.lk_typing.specs.Typing.{HasField, IsKeyOf, HasIf, is_there}
use Rattle.lk_typing.specs.Unknowns as unknown
use Rattle.lk_typing.specs.Walk.{Walking, Walked, WalkedAll, walk_all, all_types, Told, has_if, keys_told, query_walked, ChangeWalk, sets_told, set_own, change_in}

-- ---- keys

pub letters_of_keys : (a : Ground) (keys : List SortKey) → Each (IsKeyOf a) keys → List Letter
letters_of_keys a [] each = []
letters_of_keys a (key ∷ keys) each = plain each.0.0 ∷ row each.0.1.0 ∷ letters_of_keys a keys each.1

module _ (σ : Grounding) where
  -- a record with one field before others
  record_is : (l : Label) (u : Ty) (b : Ground) (n : ℕ) (other r : Row) → under σ u ≡ Some b → σ.rows n ≡ other → with_fields ((l, b) ∷ []) other ≡ Some r
      → under σ (unknown.record_of ((l, u) ∷ []) (Var n)) ≡ Some (record_of r)
  record_is l u b n other r of_field stands is = under_record σ ((l, u) ∷ []) ((l, b) ∷ []) (Var n) (ap (λ o. (l, o) ∷ []) of_field) ∙ ap (λ q. option_map record_of (with_fields ((l, b) ∷ []) q)) stands ∙ ap (option_map record_of) is

  pub keys_complete : (t : Ty) (a : Ground) (keys : List SortKey) (each : Each (IsKeyOf a) keys) (n : ℕ) → under σ t ≡ Some (known.List a) → Stand σ n (letters_of_keys a keys each)
      → ToldMet σ (keys_told t keys n) (length (letters_of_keys a keys each) + n)
  unfolding letters_of_keys
  keys_complete t a [] each n becomes stands = record { next = omega arith; equations = tt }
  keys_complete t a (key ∷ keys) each n becomes stands =
      let l : Label = key.label.text in
      let rest : List Letter = letters_of_keys a keys each.1 in
      let two : 1 + (1 + n) ≡ 2 + n = omega arith in
      let more : ToldMet σ (keys_told t keys (2 + n)) (length rest + (2 + n)) = keys_complete t a keys each.1 (2 + n) becomes (subst (λ k. Stand σ k rest) two stands.1.1) in
      let field : HasField a l each.0.0 = each.0.1 in
      let is_record : under σ (unknown.record_of ((l, ty.Var n) ∷ []) (Var (1 + n))) ≡ Some a =
      record_is l (ty.Var n) each.0.0 (1 + n) field.0 field.1 (variable_is σ n each.0.0 stands.0.plain) stands.1.0.row field.3 ∙ ap (λ g. Some g) (sym field.2) in
      let behind : length rest + (2 + n) ≡ length (letters_of_keys a (key ∷ keys) each) + n = omega arith in
      record { next = more.next ∙ behind; equations = (meets σ t (ty.List (unknown.record_of ((l, ty.Var n) ∷ []) (Var (1 + n)))) (known.List a) becomes (list_is σ _ a is_record), more.equations) }

-- ---- what is set

pub letters_of_sets : (g : Ground) (sets : Named Ground) → Each (λ set. HasField g set.0 set.1) sets → List Letter
letters_of_sets g [] each = []
letters_of_sets g (set ∷ sets) each = row each.0.0 ∷ letters_of_sets g sets each.1

module _ (σ : Grounding) where
  sets_complete : (t : Ty) (g : Ground) (sets : Named Ty) (known_sets : Named Ground) (each : Each (λ set. HasField g set.0 set.1) known_sets) (n : ℕ)
      → under σ t ≡ Some g → seen (under σ) sets ≡ seen (λ a. Some a) known_sets → Stand σ n (letters_of_sets g known_sets each)
      → ToldMet σ (sets_told t sets n) (length (letters_of_sets g known_sets each) + n)
  unfolding letters_of_sets
  sets_complete t g [] [] each n becomes same stands = record { next = omega arith; equations = tt }
  sets_complete t g [] (set ∷ known_sets) each n becomes same stands = cc
  sets_complete t g (set ∷ sets) [] each n becomes same stands = cc
  sets_complete t g (set ∷ sets) (known_set ∷ known_sets) each n becomes same stands =
      let pair : ◌≡◌ {A = Label × Option Ground} (set.0, under σ set.1) (known_set.0, Some known_set.1) = cc in
      let label : set.0 ≡ known_set.0 = ap (λ p. p.0) pair in
      let value : under σ set.1 ≡ Some known_set.1 = ap (λ p. p.1) pair in
      let others : seen (under σ) sets ≡ seen (λ a. Some a) known_sets = cc in
      let more : ToldMet σ (sets_told t sets (1 + n)) (length (letters_of_sets g known_sets each.1) + (1 + n)) = sets_complete t g sets known_sets each.1 (1 + n) becomes others stands.1 in
      let field : HasField g known_set.0 known_set.1 = each.0 in
      let is_record : under σ (unknown.record_of (set ∷ []) (Var n)) ≡ Some g =
      record_is σ set.0 set.1 known_set.1 n field.0 field.1 value stands.0.row (ap (λ l. with_fields ((l, known_set.1) ∷ []) field.0) label ∙ field.3) ∙ ap (λ q. Some q) (sym field.2) in
      let behind : length (letters_of_sets g known_sets each.1) + (1 + n) ≡ length (letters_of_sets g (known_set ∷ known_sets) each) + n = omega arith in
      record { next = more.next ∙ behind; equations = (meets σ t (unknown.record_of (set ∷ []) (Var n)) g becomes is_record, more.equations) }

  -- what is said behind the condition and what is set
  set_own_complete : (f : Effects) (s : EffectSet) (labels : List Label) (t : Ty) (g : Ground) (cond : Ty) (types : List Ty) (ts : List Ground) (sets : Named Ground) (each : Each (λ set. HasField g set.0 set.1) sets) (n : ℕ)
      → HasEffects σ f s → under σ t ≡ Some g → under σ cond ≡ Some known.Bool → Become σ types ts → labelled labels ts ≡ Some (sets, []) → s effect.Write ≡ true
      → Stand σ n (letters_of_sets g sets each ++ effects (without effect.Write s) ∷ [])
      → OwnMet σ (set_own f t cond (labelled labels types) n) (length (letters_of_sets g sets each ++ effects (without effect.Write s) ∷ []) + n) unit
  set_own_complete f s labels t g cond types ts sets each n es becomes is_test become labelled_are writes stands =
      by_labels (labelled labels types) (subst (Labelled σ (labelled labels types)) labelled_are (labelled_both σ labels types ts become))
    where
      ls : List Letter
      ls = letters_of_sets g sets each

      lw : List Letter
      lw = effects (without effect.Write s) ∷ []

      by_labels : (o : Option (Named Ty × List Ty)) → Labelled σ o (Some (sets, [])) → OwnMet σ (set_own f t cond o n) (length (letters_of_sets g sets each ++ effects (without effect.Write s) ∷ []) + n) unit
      by_labels None both = absurd both
      by_labels (Some (open_sets, a ∷ rest)) both = let wrong : under σ a ∷ map (under σ) rest ≡ [] = both.1 in cc
      by_labels (Some (open_sets, [])) both =
          let told_sets : Told = sets_told t open_sets n in
          let m : ToldMet σ told_sets (length (letters_of_sets g sets each) + n) = sets_complete t g open_sets sets each n becomes both.0 (stand_front σ (letters_of_sets g sets each) (effects (without effect.Write s) ∷ []) n stands) in
          let last : Stand σ told_sets.next (effects (without effect.Write s) ∷ []) = stand_next σ (letters_of_sets g sets each) (effects (without effect.Write s) ∷ []) n told_sets.next m.next stands in
          let next_1 : told_sets.next ≡ length (letters_of_sets g sets each) + n = m.next in
          let sum_1 : length (letters_of_sets g sets each ++ effects (without effect.Write s) ∷ []) ≡ length (letters_of_sets g sets each) + length (effects (without effect.Write s) ∷ []) = length_append (letters_of_sets g sets each) (effects (without effect.Write s) ∷ []) in
          record {
            next = omega arith;
            equations = (meets σ cond ty.Bool known.Bool is_test (under_bool σ), each_both (IsMet σ) told_sets.equations (unknown.has f effect.Write told_sets.next ∷ []) m.equations (has_complete σ f s effect.Write told_sets.next es writes last.0.effects, tt));
            ty = under_unit σ;
          }

module _ (functions : Named (Entry Ty)) (known_functions : Named (Entry Ground)) (tables : List TableDecl) where
  abbrev IsComplete : Walking → Named Ground → EffectSet → Ground → List Ground → Type 0
  IsComplete = Complete functions known_functions tables

  pub query_complete : (at : Span) (keys : List SortKey) (body : Walking) (names : Named Ground) (s : EffectSet) (a : Ground) (inside : List Ground)
      → IsComplete body names only_scan (known.List a) inside → Each (IsKeyOf a) keys → s effect.Scan ≡ true → HasIf (is_there keys) s effect.Local
      → IsComplete (query_walked at keys body) names s (known.List a) (known.List a ∷ inside)
  query_complete at keys body names s a inside (lb, met_body) each scans by_client =
      let lk : List Letter = letters_of_keys a keys each in
      let ls : Letter = effects (without effect.Scan s) in
      let lc : List Letter = letters_if (is_there keys) effect.Local s in (
        with_node (lb ++ (plain a ∷ (lk ++ (ls ∷ lc)))) (known.List a),
        λ σ open_names f n fs ns es all_stand.
            let stands : Stand σ n (lb ++ (plain a ∷ (lk ++ (ls ∷ lc)))) = stand_before σ (lb ++ (plain a ∷ (lk ++ (ls ∷ lc)))) (known.List a) n all_stand in
            let scanning : Effects = unknown.effects_of (effect.Scan ∷ []) Closed in
            let w : Walked = body open_names scanning n in
            let m : ℕ = w.next in
            let v : Met σ w (length lb + n) (known.List a) inside = met_body σ open_names scanning n fs ns (scan_only σ) (stand_front σ lb (plain a ∷ (lk ++ (ls ∷ lc))) n stands) in
            let second : Stand σ m (plain a ∷ (lk ++ (ls ∷ lc))) = stand_next σ lb (plain a ∷ (lk ++ (ls ∷ lc))) n m v.next stands in
            let ordered : Told = keys_told w.ty keys (1 + m) in
            let k : ToldMet σ ordered (length lk + (1 + m)) = keys_complete σ w.ty a keys each (1 + m) v.ty (stand_front σ lk (ls ∷ lc) (1 + m) second.1) in
            let third : Stand σ ordered.next (ls ∷ lc) = stand_next σ lk (ls ∷ lc) (1 + m) ordered.next k.next second.1 in
            let client : Told = has_if (is_there keys) f effect.Local (1 + ordered.next) in
            let c : ToldMet σ client (length lc + (1 + ordered.next)) = has_if_complete σ f s effect.Local (1 + ordered.next) es (is_there keys) by_client third.1 in
            let scan : Equation = unknown.has f effect.Scan ordered.next in
            let o : Own = own w.ty (unknown.same w.ty (ty.List (ty.Var m)) ∷ (ordered.equations ++ scan ∷ client.equations)) client.next in
            let next_1 : m ≡ length lb + n = v.next in
            let next_2 : ordered.next ≡ length lk + (1 + m) = k.next in
            let next_3 : client.next ≡ length lc + (1 + ordered.next) = c.next in
            let sum_1 : length (lk ++ (ls ∷ lc)) ≡ length lk + length (ls ∷ lc) = length_append lk (ls ∷ lc) in
            let sum_2 : length (lb ++ (plain a ∷ (lk ++ (ls ∷ lc)))) ≡ length lb + length (plain a ∷ (lk ++ (ls ∷ lc))) = length_append lb (plain a ∷ (lk ++ (ls ∷ lc))) in
            let behind : client.next ≡ length (lb ++ (plain a ∷ (lk ++ (ls ∷ lc)))) + n = omega arith in
            ended_holds σ at (all_types w) w.steps o (lb ++ (plain a ∷ (lk ++ (ls ∷ lc)))) n (known.List a) (known.List a ∷ inside) all_stand v.met
            (record {
              next = behind;
              equations = (meets σ w.ty (ty.List (ty.Var m)) (known.List a) v.ty (list_is σ (ty.Var m) a (variable_is σ m a second.0.plain)), each_both (IsMet σ) ordered.equations (scan ∷ client.equations) k.equations (has_complete σ f s effect.Scan ordered.next es scans third.0.effects, c.equations));
              ty = v.ty;
            })
            (nodes_of σ w (known.List a) inside v.ty v.nodes),
      )

  -- an update or a deletion of that table
  pub change_complete : (at : Span) (c : ChangeWalk) (x : Label) (labels : List Label) (names : Named Ground) (s : EffectSet) (r : Row) (sets : Named Ground) (ts cond rest : List Ground)
      → c.name ≡ x → map (λ set. set.0) c.sets ≡ labels
      → IsComplete c.cond ((x, record_of r) ∷ names) no_effects known.Bool cond
      → CompleteAll functions known_functions tables (map (λ set. set.1) c.sets) ((x, record_of r) ∷ names) no_effects ts rest
      → labelled labels ts ≡ Some (sets, []) → Each (λ set. HasField (record_of r) set.0 set.1) sets → s effect.Write ≡ true
      → (o : Option TableDecl) → IsRowOf o r → IsComplete (λ open_names. change_in at c o open_names) names s unit ((known.Bool ∷ cond) ++ rest)
  change_complete at c x labels names s r sets ts cond rest name are (lc, met_cond) (la, met_sets) labelled_are each writes None is = absurd is
  change_complete at c x labels names s r sets ts cond rest name are (lc, met_cond) (la, met_sets) labelled_are each writes (Some table) is =
      let lo : List Letter = letters_of_sets (record_of r) sets each ++ effects (without effect.Write s) ∷ [] in (
        with_node (lc ++ (la ++ lo)) unit,
        λ σ open_names f n fs ns es all_stand.
            let stands : Stand σ n (lc ++ (la ++ lo)) = stand_before σ (lc ++ (la ++ lo)) unit n all_stand in
            let t : Ty = unknown.row_of table in
            let g : Ground = record_of r in
            let becomes : under σ t ≡ Some g = under_row_of σ table ∙ ap (option_map record_of) is in
            let inner : Named Ty = (c.name, t) ∷ open_names in
            let seen_inner : Names σ inner ((x, g) ∷ names) = subst (λ y. Names σ inner ((y, g) ∷ names)) name (one_more σ open_names names c.name t g becomes ns) in
            let none : Effects = unknown.effects_of [] Closed in
            let w : Walked = c.cond inner none n in
            let ws : List Walking = map (λ set. set.1) c.sets in
            let all : WalkedAll = walk_all ws inner none w.next in
            let v : Met σ w (length lc + n) known.Bool cond = met_cond σ inner none n fs seen_inner (none_at_all σ) (stand_front σ lc (la ++ lo) n stands) in
            let second : Stand σ w.next (la ++ lo) = stand_next σ lc (la ++ lo) n w.next v.next stands in
            let a : MetAll σ all (length la + w.next) ts rest = met_sets σ inner none w.next fs seen_inner (none_at_all σ) (stand_front σ la lo w.next second) in
            let third : Stand σ all.next lo = stand_next σ la lo w.next all.next a.next second in
            let found_labels : List Label = map (λ set. set.0) c.sets in
            let o : Own = set_own f t w.ty (labelled found_labels all.types) all.next in
            let b : OwnMet σ o (length lo + all.next) unit =
            set_own_complete σ f s found_labels t g w.ty all.types ts sets each all.next es becomes v.ty a.types (ap (λ ls. labelled ls ts) are ∙ labelled_are) writes third in
            let next_1 : w.next ≡ length lc + n = v.next in
            let next_2 : all.next ≡ length la + w.next = a.next in
            let next_3 : o.next ≡ length lo + all.next = b.next in
            let sum_1 : length (la ++ lo) ≡ length la + length lo = length_append la lo in
            let sum_2 : length (lc ++ (la ++ lo)) ≡ length lc + length (la ++ lo) = length_append lc (la ++ lo) in
            let behind : o.next ≡ length (lc ++ (la ++ lo)) + n = omega arith in
            ended_holds σ at (all_types w ++ all.inside) (w.steps ++ all.steps) o (lc ++ (la ++ lo)) n unit ((known.Bool ∷ cond) ++ rest) all_stand
            (each_both (λ step. Holds σ step.said) w.steps all.steps v.met a.met)
            (record { next = behind; equations = b.equations; ty = b.ty })
            (become_both σ (all_types w) all.inside (known.Bool ∷ cond) rest (nodes_of σ w known.Bool cond v.ty v.nodes) a.nodes),
      )
