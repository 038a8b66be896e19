-- A visit finds nothing inside of queries, updates and deletions.
use Rattle.std.proofs.Common.{◌≡◌, ℕ, true, List, [], ◌∷◌, map, refl, sym, ◌∙◌, subst}
use Rattle.lk_ast.specs.Layers.{Layer, layer}
use Rattle.lk_ast.specs.declared.expression.Expr.{Expr}
use Rattle.lk_ast.specs.declared.expression.Node.TheOpen.{Node-F}
use Rattle.lk_sites.proofs.Touring.{by_parts}
use Rattle.lk_sites.specs.Sites.{Tour, all, behind_node, visit}
use Rattle.lk_sound.proofs.Inside.{by_insides, insides}
use Rattle.lk_types.specs.Each.{Each}

-- the same but for what is still to come
pub record IsSame (t after : Tour) : Type 0 where
  pub label : after.label ≡ t.label
  pub found : after.found ≡ t.found

pub behind_same : (l : Layer) (t : Tour) → IsSame t (behind_node l t)
behind_same (Node-F.Function h) t = record { label = refl; found = refl }
behind_same (Node-F.Call h args) t = record { label = refl; found = refl }
behind_same other t = record { label = refl; found = refl }

both_same : {a b c : Tour} → IsSame a b → IsSame b c → IsSame a c
both_same one two = record { label = two.label ∙ one.label; found = two.found ∙ one.found }

module _ (fun : ℕ) where
  abbrev pub FindsNothing : Expr → Type 0
  FindsNothing e = (t : Tour) → IsSame t (visit fun e true t)

  all_same : (es : List Expr) → Each FindsNothing es → (t : Tour) → IsSame t (all (map (visit fun) es) true t)
  all_same [] same t = record { label = refl; found = refl }
  all_same (e ∷ es) same t = both_same (same.0 t) (all_same es same.1 (visit fun e true t))

  pub finds_nothing : (e : Expr) → FindsNothing e
  finds_nothing = by_insides FindsNothing (λ e same t. subst (IsSame t) (sym (by_parts fun e true t)) (both_same (behind_same (layer e) t) (all_same (insides (layer e)) same (behind_node (layer e) t))))

  nothing_each : (es : List Expr) → Each FindsNothing es
  nothing_each [] = tt
  nothing_each (e ∷ es) = (finds_nothing e, nothing_each es)

  pub none_in : (es : List Expr) (t : Tour) → IsSame t (all (map (visit fun) es) true t)
  none_in es = all_same es (nothing_each es)
