-- Where the parts of a form have types and what stands for their variables makes all hold, so has the form.
use Rattle.std.proofs.Common.{◌≡◌, ℕ, ◌+◌, true, List, [], ◌∷◌, ◌++◌, length, refl, sym, subst, ap, ap₂, ◌∙◌, Some}
use native.Mathlib.Omega.{arith}
use Rattle.lk_ast.specs.declared.declaration.TableDecl.{TableDecl}
use Rattle.lk_ast.specs.declared.place.Loc.{Loc}
use Rattle.lk_ast.specs.declared.place.Span.{Span}
use Rattle.lk_ast.specs.declared.place.Word.{Word}
use Rattle.lk_types.proofs.Members.{each_both}
use Rattle.lk_types.specs.Grounding.{Grounding, under}
use Rattle.lk_types.specs.Rows.{Label, EffectSet}
use Rattle.lk_types.specs.declared.ground.Ground.{Ground}
use Rattle.lk_types.specs.declared.ground.Ground.TheVariants as known
use Rattle.lk_types.specs.declared.ty.Effect.TheVariants as effect
use Rattle.lk_types.specs.declared.ty.Effects.{Effects}
use Rattle.lk_types.specs.declared.ty.RowTail.TheVariants.{Var}
use Rattle.lk_types.specs.declared.ty.Ty.{Ty}
use Rattle.lk_types.specs.declared.ty.Ty.TheVariants as ty
use Rattle.lk_typing.proofs.EffectRows.{without, has_complete}
use Rattle.lk_typing.proofs.Lists.{length_append, length_both, stand_front, stand_back}
use Rattle.lk_typing.proofs.Meaning.{Letter, plain, effects, Stand, Names, HasEffects, Met, Complete}
use Rattle.lk_typing.proofs.Nodes.{with_node, stand_before, ended_holds, equations_hold, one_more, nodes_of, nodes_both, letters_if, has_if_complete, ToldMet}
use Rattle.lk_typing.proofs.Scopes.{names_both, same_types}
use Rattle.lk_typing.proofs.Values.{meets, list_is, function_is, variable_is}
use Rattle.lk_typing.specs.Equations.{Own, own}
use Rattle.lk_typing.specs.Names.{Named, Entry, names_of, types_of, texts}
use Rattle.lk_typing.specs.Steps.{Holds, same_at}
use Rattle.lk_typing.specs.Types.{function_of}
use Rattle.lk_typing.specs.Typing.{HasIf, is_marked}
use Rattle.lk_typing.specs.Unknowns as unknown
use Rattle.lk_typing.specs.Walk.{Walking, Walked, Told, all_types, has_if, params_from, lambda_walked, var_walked, for_list_walked, for_table_walked}
use Rattle.lk_typing.specs.declared.step.Step.{Step}

-- what stands for parameters of these types
abbrev pub letters_of_params : Named Ground → List Letter
letters_of_params [] = []
letters_of_params (p ∷ ps) = plain p.1 ∷ letters_of_params ps

pub params_stand : (σ : Grounding) (n : ℕ) (xs : List Word) (params : Named Ground) → names_of params ≡ texts xs → Stand σ n (letters_of_params params) → Names σ (params_from n xs) params
params_stand σ n [] [] names stands = record { same = refl }
params_stand σ n [] (p ∷ ps) names stands = cc
params_stand σ n (x ∷ xs) [] names stands = cc
params_stand σ n (x ∷ xs) (p ∷ ps) names stands =
    let name : x.text ≡ p.0 = cc in
    let more : names_of ps ≡ texts xs = cc in
    record { same = ap₂ (λ entry rest. entry ∷ rest) (ap₂ (λ l o. (l, o)) name (variable_is σ n p.1 stands.0.plain)) (params_stand σ (1 + n) xs ps more stands.1).same }

pub as_many : (xs : List Word) (params : Named Ground) → names_of params ≡ texts xs → length xs ≡ length (letters_of_params params)
as_many [] [] names = refl
as_many [] (p ∷ ps) names = cc
as_many (x ∷ xs) [] names = cc
as_many (x ∷ xs) (p ∷ ps) names = let more : length xs ≡ length (letters_of_params ps) = as_many xs ps cc in omega arith

module _ (functions : Named (Entry Ty)) (known_functions : Named (Entry Ground)) (tables : List TableDecl) where
  abbrev IsComplete : Walking → Named Ground → EffectSet → Ground → List Ground → Type 0
  IsComplete = Complete functions known_functions tables

  pub var_complete : (at : Span) (x : Label) (first last : Walking) (names : Named Ground) (s : EffectSet) (a t : Ground) (inside more : List Ground)
      → IsComplete first names s a inside → IsComplete last ((x, a) ∷ names) s t more → IsComplete (var_walked at x first last) names s t ((a ∷ inside) ++ (t ∷ more))
  var_complete at x first last names s a t inside more (la, met_first) (lb, met_last) = (
    with_node (la ++ lb) t,
    λ σ open_names row n fs ns es all_stand.
        let stands : Stand σ n (la ++ lb) = stand_before σ (la ++ lb) t n all_stand in
        let w : Walked = first open_names row n in
        let v : Walked = last ((x, w.ty) ∷ open_names) row w.next in
        let f : Met σ w (length la + n) a inside = met_first σ open_names row n fs ns es (stand_front σ la lb n stands) in
        let g : Met σ v (length lb + w.next) t more =
        met_last σ ((x, w.ty) ∷ open_names) row w.next fs (one_more σ open_names names x w.ty a f.ty ns) es (subst (λ k. Stand σ k lb) (sym f.next) (stand_back σ la lb n stands)) in
        ended_holds σ at (all_types w ++ all_types v) (w.steps ++ v.steps) (own v.ty [] v.next) (la ++ lb) n t ((a ∷ inside) ++ (t ∷ more)) all_stand
        (each_both (λ step. Holds σ step.said) w.steps v.steps f.met g.met)
        (record { next = g.next ∙ ap (λ k. length lb + k) f.next ∙ length_both la lb n; equations = tt; ty = g.ty })
        (nodes_both σ w v a t inside more f.ty f.nodes g.ty g.nodes),
  )

  pub lambda_complete : (at : Span) (xs : List Word) (place : Loc) (body : Walking) (params names : Named Ground) (own_set s : EffectSet) (b : Ground) (inside : List Ground)
      → names_of params ≡ texts xs → HasIf (is_marked place) own_set effect.Move → IsComplete body (params ++ names) own_set b inside → s effect.Local ≡ true
      → IsComplete (lambda_walked at xs place body) names s (function_of (types_of params) own_set b) (b ∷ inside)
  lambda_complete at xs place body params names own_set s b inside named moves (lb, met_body) local =
      let lp : List Letter = letters_of_params params in
      let lm : List Letter = letters_if (is_marked place) effect.Move own_set in
      let ll : List Letter = effects (without effect.Local s) ∷ [] in (
        with_node (effects own_set ∷ (lp ++ (lm ++ (lb ++ ll)))) (function_of (types_of params) own_set b),
        λ σ open_names row n fs ns es all_stand.
            let stands : Stand σ n (effects own_set ∷ (lp ++ (lm ++ (lb ++ ll)))) = stand_before σ (effects own_set ∷ (lp ++ (lm ++ (lb ++ ll)))) (function_of (types_of params) own_set b) n all_stand in
            let own_row : Effects = unknown.effects_of [] (Var n) in
            let own_has : HasEffects σ own_row own_set = record { same = ap (λ u. Some u) stands.0.effects } in
            let open_params : Named Ty = params_from (1 + n) xs in
            let seen_params : Names σ open_params params = params_stand σ (1 + n) xs params named (stand_front σ lp (lm ++ (lb ++ ll)) (1 + n) stands.1) in
            let k : ℕ = length xs + (1 + n) in
            let many : length xs ≡ length lp = as_many xs params named in
            let after_params : Stand σ k (lm ++ (lb ++ ll)) = subst (λ m. Stand σ (m + (1 + n)) (lm ++ (lb ++ ll))) (sym many) (stand_back σ lp (lm ++ (lb ++ ll)) (1 + n) stands.1) in
            let marked : Told = has_if (is_marked place) own_row effect.Move k in
            let told : ToldMet σ marked (length lm + k) = has_if_complete σ own_row own_set effect.Move k own_has (is_marked place) moves (stand_front σ lm (lb ++ ll) k after_params) in
            let after_mark : Stand σ marked.next (lb ++ ll) = subst (λ m. Stand σ m (lb ++ ll)) (sym told.next) (stand_back σ lm (lb ++ ll) k after_params) in
            let w : Walked = body (open_params ++ open_names) own_row marked.next in
            let g : Met σ w (length lb + marked.next) b inside = met_body σ (open_params ++ open_names) own_row marked.next fs (names_both σ open_params open_names params names seen_params ns) own_has (stand_front σ lb ll marked.next after_mark) in
            let last : Stand σ w.next ll = subst (λ m. Stand σ m ll) (sym g.next) (stand_back σ lb ll marked.next after_mark) in
            let o : Own = own (ty.Fun (types_of open_params) own_row w.ty) (unknown.has row effect.Local w.next ∷ []) (1 + w.next) in
            let next_told : marked.next ≡ length lm + k = told.next in
            let next_body : w.next ≡ length lb + marked.next = g.next in
            let sum_1 : length (lb ++ ll) ≡ length lb + length ll = length_append lb ll in
            let sum_2 : length (lm ++ (lb ++ ll)) ≡ length lm + length (lb ++ ll) = length_append lm (lb ++ ll) in
            let sum_3 : length (lp ++ (lm ++ (lb ++ ll))) ≡ length lp + length (lm ++ (lb ++ ll)) = length_append lp (lm ++ (lb ++ ll)) in
            let behind : 1 + w.next ≡ length (effects own_set ∷ (lp ++ (lm ++ (lb ++ ll)))) + n = omega arith in
            ended_holds σ at (all_types w) (same_at at marked.equations ++ w.steps) o (effects own_set ∷ (lp ++ (lm ++ (lb ++ ll)))) n (function_of (types_of params) own_set b) (b ∷ inside) all_stand
            (each_both (λ step. Holds σ step.said) (same_at at marked.equations) w.steps (equations_hold σ at marked.equations told.equations) g.met)
            (record { next = behind; equations = (has_complete σ row s effect.Local w.next es local last.0.effects, tt); ty = function_is σ (types_of open_params) (types_of params) own_row own_set w.ty b (same_types σ open_params params seen_params) own_has g.ty })
            (nodes_of σ w b inside g.ty g.nodes),
      )

  -- what stands for the variables of a loop: an element, those of both parts, and what the body's elements are
  pub for_list_complete : (at : Span) (x : Label) (first body : Walking) (names : Named Ground) (s : EffectSet) (a b : Ground) (inside more : List Ground)
      → IsComplete first names s (known.List a) inside → IsComplete body ((x, a) ∷ names) s (known.List b) more
      → IsComplete (for_list_walked at x first body) names s (known.List b) ((known.List a ∷ inside) ++ (known.List b ∷ more))
  for_list_complete at x first body names s a b inside more (la, met_first) (lb, met_body) =
      let ll : List Letter = plain b ∷ [] in (
        with_node (plain a ∷ (la ++ (lb ++ ll))) (known.List b),
        λ σ open_names row n fs ns es all_stand.
            let stands : Stand σ n (plain a ∷ (la ++ (lb ++ ll))) = stand_before σ (plain a ∷ (la ++ (lb ++ ll))) (known.List b) n all_stand in
            let element : Ty = ty.Var n in
            let is_element : under σ element ≡ Some a = variable_is σ n a stands.0.plain in
            let w : Walked = first open_names row (1 + n) in
            let v : Walked = body ((x, element) ∷ open_names) row w.next in
            let f : Met σ w (length la + (1 + n)) (known.List a) inside = met_first σ open_names row (1 + n) fs ns es (stand_front σ la (lb ++ ll) (1 + n) stands.1) in
            let then : Stand σ w.next (lb ++ ll) = subst (λ k. Stand σ k (lb ++ ll)) (sym f.next) (stand_back σ la (lb ++ ll) (1 + n) stands.1) in
            let g : Met σ v (length lb + w.next) (known.List b) more = met_body σ ((x, element) ∷ open_names) row w.next fs (one_more σ open_names names x element a is_element ns) es (stand_front σ lb ll w.next then) in
            let last : Stand σ v.next ll = subst (λ k. Stand σ k ll) (sym g.next) (stand_back σ lb ll w.next then) in
            let answer : Ty = ty.List (ty.Var v.next) in
            let is_answer : under σ answer ≡ Some (known.List b) = list_is σ (ty.Var v.next) b (variable_is σ v.next b last.0.plain) in
            let next_first : w.next ≡ length la + (1 + n) = f.next in
            let next_body : v.next ≡ length lb + w.next = g.next in
            let sum_1 : length (lb ++ ll) ≡ length lb + length ll = length_append lb ll in
            let sum_2 : length (la ++ (lb ++ ll)) ≡ length la + length (lb ++ ll) = length_append la (lb ++ ll) in
            let behind : 1 + v.next ≡ length (plain a ∷ (la ++ (lb ++ ll))) + n = omega arith in
            ended_holds σ at (all_types w ++ all_types v) (w.steps ++ v.steps) (own answer (unknown.same w.ty (ty.List element) ∷ unknown.same v.ty answer ∷ []) (1 + v.next)) (plain a ∷ (la ++ (lb ++ ll))) n (known.List b) ((known.List a ∷ inside) ++ (known.List b ∷ more)) all_stand
            (each_both (λ step. Holds σ step.said) w.steps v.steps f.met g.met)
            (record { next = behind; equations = (meets σ w.ty (ty.List element) (known.List a) f.ty (list_is σ element a is_element), (meets σ v.ty answer (known.List b) g.ty is_answer, tt)); ty = is_answer })
            (nodes_both σ w v (known.List a) (known.List b) inside more f.ty f.nodes g.ty g.nodes),
      )

  pub for_table_complete : (at : Span) (x : Label) (first body : Walking) (names : Named Ground) (s : EffectSet) (a b : Ground) (inside more : List Ground)
      → IsComplete first names s (known.List a) inside → IsComplete body ((x, a) ∷ names) s (known.List b) more
      → IsComplete (for_table_walked at x first body) names s (known.List b) ((known.List a ∷ inside) ++ (known.List b ∷ more))
  for_table_complete at x first body names s a b inside more (la, met_first) (lb, met_body) =
      let ll : List Letter = plain b ∷ [] in (
        with_node (plain a ∷ (la ++ (lb ++ ll))) (known.List b),
        λ σ open_names row n fs ns es all_stand.
            let stands : Stand σ n (plain a ∷ (la ++ (lb ++ ll))) = stand_before σ (plain a ∷ (la ++ (lb ++ ll))) (known.List b) n all_stand in
            let element : Ty = ty.Var n in
            let is_element : under σ element ≡ Some a = variable_is σ n a stands.0.plain in
            let w : Walked = first open_names row (1 + n) in
            let v : Walked = body ((x, element) ∷ open_names) row w.next in
            let f : Met σ w (length la + (1 + n)) (known.List a) inside = met_first σ open_names row (1 + n) fs ns es (stand_front σ la (lb ++ ll) (1 + n) stands.1) in
            let then : Stand σ w.next (lb ++ ll) = subst (λ k. Stand σ k (lb ++ ll)) (sym f.next) (stand_back σ la (lb ++ ll) (1 + n) stands.1) in
            let g : Met σ v (length lb + w.next) (known.List b) more = met_body σ ((x, element) ∷ open_names) row w.next fs (one_more σ open_names names x element a is_element ns) es (stand_front σ lb ll w.next then) in
            let last : Stand σ v.next ll = subst (λ k. Stand σ k ll) (sym g.next) (stand_back σ lb ll w.next then) in
            let answer : Ty = ty.List (ty.Var v.next) in
            let is_answer : under σ answer ≡ Some (known.List b) = list_is σ (ty.Var v.next) b (variable_is σ v.next b last.0.plain) in
            let next_first : w.next ≡ length la + (1 + n) = f.next in
            let next_body : v.next ≡ length lb + w.next = g.next in
            let sum_1 : length (lb ++ ll) ≡ length lb + length ll = length_append lb ll in
            let sum_2 : length (la ++ (lb ++ ll)) ≡ length la + length (lb ++ ll) = length_append la (lb ++ ll) in
            let behind : 1 + v.next ≡ length (plain a ∷ (la ++ (lb ++ ll))) + n = omega arith in
            let rows : List Step = same_at at (unknown.same w.ty (ty.List element) ∷ []) in
            ended_holds σ at (all_types w ++ all_types v) (w.steps ++ (rows ++ v.steps)) (own answer (unknown.same v.ty answer ∷ []) (1 + v.next)) (plain a ∷ (la ++ (lb ++ ll))) n (known.List b) ((known.List a ∷ inside) ++ (known.List b ∷ more)) all_stand
            (each_both (λ step. Holds σ step.said) w.steps (rows ++ v.steps) f.met (meets σ w.ty (ty.List element) (known.List a) f.ty (list_is σ element a is_element), g.met))
            (record { next = behind; equations = (meets σ v.ty answer (known.List b) g.ty is_answer, tt); ty = is_answer })
            (nodes_both σ w v (known.List a) (known.List b) inside more f.ty f.nodes g.ty g.nodes),
      )
