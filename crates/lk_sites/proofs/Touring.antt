-- What each entering of an expression keeps, a visit keeps.
use Rattle.std.proofs.Common.{◌≡◌, ℕ, Bool, ◌||◌, List, [], ◌∷◌, map, sym, ◌∙◌, ap, subst}
use Rattle.lk_ast.specs.Layers.{Layer, layer}
use Rattle.lk_ast.specs.declared.expression.Expr.{Expr}
use Rattle.lk_sites.proofs.Visiting.{insides_level, visit_level}
use Rattle.lk_sites.specs.Sites.{Tour, all, entered, is_closed, visit}
use Rattle.lk_sound.proofs.Inside.{by_insides, insides}
use Rattle.lk_types.specs.Each.{Each}

-- the expression itself, and then those right inside it
pub by_parts : (fun : ℕ) (e : Expr) (flag : Bool) (t : Tour) → visit fun e flag t ≡ all (map (visit fun) (insides (layer e))) (flag || is_closed (layer e)) (entered fun (layer e) e flag t)
by_parts fun e flag t = visit_level fun e flag t ∙ ap (λ go. go (flag || is_closed (layer e)) (entered fun (layer e) e flag t)) (insides_level fun (layer e))

module _ (fun : ℕ) (Q : Tour → Type 0) (kept : (l : Layer) (e : Expr) (flag : Bool) (t : Tour) → Q t → Q (entered fun l e flag t)) where
  abbrev Keeps : Expr → Type 0
  Keeps e = (flag : Bool) (t : Tour) → Q t → Q (visit fun e flag t)

  in_turn : (es : List Expr) → Each Keeps es → (flag : Bool) (t : Tour) → Q t → Q (all (map (visit fun) es) flag t)
  in_turn [] keep flag t one = one
  in_turn (e ∷ es) keep flag t one = in_turn es keep.1 flag (visit fun e flag t) (keep.0 flag t one)

  pub visit_keeps : (e : Expr) (flag : Bool) (t : Tour) → Q t → Q (visit fun e flag t)
  visit_keeps = by_insides Keeps (λ e keep flag t one.
      subst Q (sym (by_parts fun e flag t)) (in_turn (insides (layer e)) keep (flag || is_closed (layer e)) (entered fun (layer e) e flag t) (kept (layer e) e flag t one)))

  keep_each : (es : List Expr) → Each Keeps es
  keep_each [] = tt
  keep_each (e ∷ es) = (visit_keeps e, keep_each es)

  pub all_keep : (es : List Expr) (flag : Bool) (t : Tour) → Q t → Q (all (map (visit fun) es) flag t)
  all_keep es flag t one = in_turn es (keep_each es) flag t one
