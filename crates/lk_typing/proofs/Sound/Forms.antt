-- Where all that is said of a form holds, it has types by the rules if its parts have them.
use Rattle.std.proofs.Common.{◌≡◌, ℕ, ◌+◌, List, [], ◌∷◌, ◌++◌, length, refl, sym, subst, ap, ◌∙◌, Some}
use Rattle.lk_ast.specs.Layers.{layer}
use Rattle.lk_ast.specs.declared.declaration.TableDecl.{TableDecl}
use Rattle.lk_ast.specs.declared.expression.Expr.{Expr}
use Rattle.lk_ast.specs.declared.expression.LambdaExpr.{LambdaExpr}
use Rattle.lk_ast.specs.declared.expression.Node.TheOpen.{Node-F}
use Rattle.lk_ast.specs.declared.place.Word.{Word}
use Rattle.lk_types.proofs.Members.{each_front, each_back}
use Rattle.lk_types.proofs.Parts.{same_some}
use Rattle.lk_types.proofs.Unfold.{under_variable}
use Rattle.lk_types.specs.Grounding.{Grounding}
use Rattle.lk_types.specs.Rows.{EffectSet}
use Rattle.lk_types.specs.declared.ground.Ground.{Ground}
use Rattle.lk_types.specs.declared.ground.Ground.TheVariants as known
use Rattle.lk_types.specs.declared.ty.Effect.TheVariants as effect
use Rattle.lk_types.specs.declared.ty.Effects.{Effects}
use Rattle.lk_types.specs.declared.ty.RowTail.TheVariants.{Var}
use Rattle.lk_types.specs.declared.ty.Ty.{Ty}
use Rattle.lk_types.specs.declared.ty.Ty.TheVariants as ty
use Rattle.lk_typing.proofs.EffectRows.{has_sound}
use Rattle.lk_typing.proofs.Meaning.{Names, HasEffects, Found, Sound}
use Rattle.lk_typing.proofs.Nodes.{EndedMet, ended_met, equations_met, has_if_sound, one_more, nodes_of, nodes_both}
use Rattle.lk_typing.proofs.Scopes.{names_both, same_types, params_known, params_seen, params_named}
use Rattle.lk_typing.proofs.Values.{met, list_is, function_is}
use Rattle.lk_typing.specs.Equations.{Own, own}
use Rattle.lk_typing.specs.Names.{Named, Entry, types_of}
use Rattle.lk_typing.specs.Steps.{Meets, Holds, same_at}
use Rattle.lk_typing.specs.Types.{function_of}
use Rattle.lk_typing.specs.Typing.{HasType, lambda, var, for_list, for_table, HasIf, is_marked}
use Rattle.lk_typing.specs.Unknowns as unknown
use Rattle.lk_typing.specs.Walk.{Walking, Walked, Told, all_types, has_if, params_from, lambda_walked, var_walked, for_list_walked, for_table_walked}
use Rattle.lk_typing.specs.declared.step.Step.{Step}

module _ (functions : Named (Entry Ty)) (known_functions : Named (Entry Ground)) (tables : List TableDecl) where
  abbrev IsSound : Walking → Expr → Type 0
  IsSound = Sound functions known_functions tables

  abbrev Finds : Grounding → Walked → Expr → Named Ground → EffectSet → Type 0
  Finds = Found functions known_functions tables

  abbrev Typing : Named Ground → EffectSet → Expr → Ground → List Ground → Type 0
  Typing = HasType known_functions tables

  pub var_sound : (e d rest : Expr) (x : Word) (first last : Walking) → layer e ≡ Node-F.Var x d rest → IsSound first d → IsSound last rest
      → IsSound (var_walked e.span x.text first last) e
  var_sound e d rest x first last is sound_d sound_rest σ names known_names effects s n fs ns es meets =
      let w : Walked = first names effects n in
      let v : Walked = last ((x.text, w.ty) ∷ names) effects w.next in
      let parts : EndedMet σ (w.steps ++ v.steps) (own v.ty [] v.next) = ended_met σ e.span (all_types w ++ all_types v) (w.steps ++ v.steps) (own v.ty [] v.next) meets in
      let has_d : Finds σ w d known_names s = sound_d σ names known_names effects s n fs ns es (each_front _ w.steps v.steps parts.before) in
      let has_rest : Finds σ v rest ((x.text, has_d.t) ∷ known_names) s =
      sound_rest σ ((x.text, w.ty) ∷ names) ((x.text, has_d.t) ∷ known_names) effects s w.next fs (one_more σ names known_names x.text w.ty has_d.t has_d.ty ns) es (each_back _ w.steps v.steps parts.before) in
      record {
        t = has_rest.t;
        inside = (has_d.t ∷ has_d.inside) ++ (has_rest.t ∷ has_rest.inside);
        ty = parts.node ∙ has_rest.ty;
        nodes = nodes_both σ w v has_d.t has_rest.t has_d.inside has_rest.inside has_d.ty has_d.nodes has_rest.ty has_rest.nodes;
        typed = var x d rest has_d.t has_d.inside has_rest.inside is has_d.typed has_rest.typed;
      }

  pub lambda_sound : (e : Expr) (l : LambdaExpr) (body : Walking) → layer e ≡ Node-F.Lambda l → IsSound body l.body
      → IsSound (lambda_walked e.span l.params l.place body) e
  lambda_sound e l body is sound_body σ names known_names effects s n fs ns es meets =
      let own_effects : Effects = unknown.effects_of [] (Var n) in
      let own_set : EffectSet = σ.effects n in
      let own_has : HasEffects σ own_effects own_set = record { same = refl } in
      let params : Named Ty = params_from (1 + n) l.params in
      let known_params : Named Ground = params_known σ (1 + n) l.params in
      let seen_params : Names σ params known_params = params_seen σ (1 + n) l.params in
      let k : ℕ = length l.params + (1 + n) in
      let marked : Told = has_if (is_marked l.place) own_effects effect.Move k in
      let w : Walked = body (params ++ names) own_effects marked.next in
      let o : Own = own (ty.Fun (types_of params) own_effects w.ty) (unknown.has effects effect.Local w.next ∷ []) (1 + w.next) in
      let parts : EndedMet σ (same_at e.span marked.equations ++ w.steps) o = ended_met σ e.span (all_types w) (same_at e.span marked.equations ++ w.steps) o meets in
      let has_body : Finds σ w l.body (known_params ++ known_names) own_set =
      sound_body σ (params ++ names) (known_params ++ known_names) own_effects own_set marked.next fs (names_both σ params names known_params known_names seen_params ns) own_has (each_back _ (same_at e.span marked.equations) w.steps parts.before) in
      let moves : HasIf (is_marked l.place) own_set effect.Move =
      has_if_sound σ own_effects own_set effect.Move k own_has (is_marked l.place) (equations_met σ e.span marked.equations (each_front _ (same_at e.span marked.equations) w.steps parts.before)) in
      record {
        t = function_of (types_of known_params) own_set has_body.t;
        inside = has_body.t ∷ has_body.inside;
        ty = parts.node ∙ function_is σ (types_of params) (types_of known_params) own_effects own_set w.ty has_body.t (same_types σ params known_params seen_params) own_has has_body.ty;
        nodes = nodes_of σ w has_body.t has_body.inside has_body.ty has_body.nodes;
        typed = lambda l known_params own_set has_body.t is (params_named σ (1 + n) l.params) moves has_body.typed (has_sound σ effects s effect.Local w.next es parts.equations.0);
      }

  pub for_list_sound : (e d inner : Expr) (x : Word) (first body : Walking) → layer e ≡ Node-F.ForList x d inner → IsSound first d → IsSound body inner
      → IsSound (for_list_walked e.span x.text first body) e
  for_list_sound e d inner x first body is sound_d sound_body σ names known_names effects s n fs ns es meets =
      let element : Ty = ty.Var n in
      let a : Ground = σ.plain n in
      let w : Walked = first names effects (1 + n) in
      let v : Walked = body ((x.text, element) ∷ names) effects w.next in
      let answer : Ty = ty.List (ty.Var v.next) in
      let b : Ground = σ.plain v.next in
      let o : Own = own answer (unknown.same w.ty (ty.List element) ∷ unknown.same v.ty answer ∷ []) (1 + v.next) in
      let parts : EndedMet σ (w.steps ++ v.steps) o = ended_met σ e.span (all_types w ++ all_types v) (w.steps ++ v.steps) o meets in
      let has_d : Finds σ w d known_names s = sound_d σ names known_names effects s (1 + n) fs ns es (each_front _ w.steps v.steps parts.before) in
      let has_body : Finds σ v inner ((x.text, a) ∷ known_names) s =
      sound_body σ ((x.text, element) ∷ names) ((x.text, a) ∷ known_names) effects s w.next fs (one_more σ names known_names x.text element a (under_variable σ n) ns) es (each_back _ w.steps v.steps parts.before) in
      let is_list : has_d.t ≡ known.List a = same_some (sym (met σ w.ty (ty.List element) has_d.t has_d.ty parts.equations.0) ∙ list_is σ element a (under_variable σ n)) in
      let is_answer : has_body.t ≡ known.List b = same_some (sym (met σ v.ty answer has_body.t has_body.ty parts.equations.1.0) ∙ list_is σ (ty.Var v.next) b (under_variable σ v.next)) in
      record {
        t = known.List b;
        inside = (known.List a ∷ has_d.inside) ++ (known.List b ∷ has_body.inside);
        ty = parts.node ∙ list_is σ (ty.Var v.next) b (under_variable σ v.next);
        nodes = nodes_both σ w v (known.List a) (known.List b) has_d.inside has_body.inside (has_d.ty ∙ ap (λ t. Some t) is_list) has_d.nodes (has_body.ty ∙ ap (λ t. Some t) is_answer) has_body.nodes;
        typed = for_list x d inner a b has_d.inside has_body.inside is (subst (λ t. Typing known_names s d t has_d.inside) is_list has_d.typed) (subst (λ t. Typing ((x.text, a) ∷ known_names) s inner t has_body.inside) is_answer has_body.typed);
      }

  pub for_table_sound : (e d inner : Expr) (x : Word) (first body : Walking) → layer e ≡ Node-F.ForTable x d inner → IsSound first d → IsSound body inner
      → IsSound (for_table_walked e.span x.text first body) e
  for_table_sound e d inner x first body is sound_d sound_body σ names known_names effects s n fs ns es meets =
      let element : Ty = ty.Var n in
      let a : Ground = σ.plain n in
      let w : Walked = first names effects (1 + n) in
      let v : Walked = body ((x.text, element) ∷ names) effects w.next in
      let answer : Ty = ty.List (ty.Var v.next) in
      let b : Ground = σ.plain v.next in
      let o : Own = own answer (unknown.same v.ty answer ∷ []) (1 + v.next) in
      let rows : List Step = same_at e.span (unknown.same w.ty (ty.List element) ∷ []) in
      let parts : EndedMet σ (w.steps ++ (rows ++ v.steps)) o = ended_met σ e.span (all_types w ++ all_types v) (w.steps ++ (rows ++ v.steps)) o meets in
      let later : Meets σ (rows ++ v.steps) = each_back (λ step. Holds σ step.said) w.steps (rows ++ v.steps) parts.before in
      let has_d : Finds σ w d known_names s = sound_d σ names known_names effects s (1 + n) fs ns es (each_front _ w.steps (rows ++ v.steps) parts.before) in
      let has_body : Finds σ v inner ((x.text, a) ∷ known_names) s =
      sound_body σ ((x.text, element) ∷ names) ((x.text, a) ∷ known_names) effects s w.next fs (one_more σ names known_names x.text element a (under_variable σ n) ns) es (each_back _ rows v.steps later) in
      let is_list : has_d.t ≡ known.List a = same_some (sym (met σ w.ty (ty.List element) has_d.t has_d.ty later.0) ∙ list_is σ element a (under_variable σ n)) in
      let is_answer : has_body.t ≡ known.List b = same_some (sym (met σ v.ty answer has_body.t has_body.ty parts.equations.0) ∙ list_is σ (ty.Var v.next) b (under_variable σ v.next)) in
      record {
        t = known.List b;
        inside = (known.List a ∷ has_d.inside) ++ (known.List b ∷ has_body.inside);
        ty = parts.node ∙ list_is σ (ty.Var v.next) b (under_variable σ v.next);
        nodes = nodes_both σ w v (known.List a) (known.List b) has_d.inside has_body.inside (has_d.ty ∙ ap (λ t. Some t) is_list) has_d.nodes (has_body.ty ∙ ap (λ t. Some t) is_answer) has_body.nodes;
        typed = for_table x d inner a b has_d.inside has_body.inside is (subst (λ t. Typing known_names s d t has_d.inside) is_list has_d.typed) (subst (λ t. Typing ((x.text, a) ∷ known_names) s inner t has_body.inside) is_answer has_body.typed);
      }
