-- What acts on tables in an expression is the expression itself, where it does, and what does so in those right inside it. So what passes from expressions to those right inside them
-- holds of all that acts on tables in them.
use Rattle.std.proofs.Common.{◌≡◌, refl, sym, ap, ◌∙◌, subst, Bool, true, false, List, [], ◌∷◌, ◌++◌, flat_map}
use Rattle.lk_ast.specs.Layers.{Layer, layer}
use Rattle.lk_ast.specs.declared.declaration.FunDef.{FunDef}
use Rattle.lk_ast.specs.declared.expression.Expr.{Expr}
use Rattle.lk_ast.specs.declared.expression.Node.TheOpen.{Node-F}
use Rattle.lk_bag.proofs.Levels.{inside, itself, blocks_level}
use Rattle.lk_bag.specs.Blocks.{acts_on_tables, blocks_in}
use Rattle.lk_sound.proofs.Inside.{insides, by_insides}
use Rattle.lk_types.proofs.Members.{each_both}
use Rattle.lk_types.specs.Each.{Each}

same_insides : (l : Layer) → inside l ≡ insides l
same_insides (Node-F.Lambda l) = refl
same_insides (Node-F.Call g args) = refl
same_insides (Node-F.Apply f args) = refl
same_insides (Node-F.Record fields) = refl
same_insides (Node-F.Extend fields e) = refl
same_insides (Node-F.List items) = refl
same_insides (Node-F.Switch d cases last) = refl
same_insides (Node-F.Update change) = refl
same_insides (Node-F.Delete change) = refl
same_insides other = refl

pub blocks_inside : (e : Expr) → blocks_in e ≡ itself (acts_on_tables (layer e)) e ++ flat_map blocks_in (insides (layer e))
blocks_inside e = blocks_level e ∙ ap (λ es. itself (acts_on_tables (layer e)) e ++ flat_map blocks_in es) (same_insides (layer e))

module _ (Q : Expr → Type 0) (passes : (e : Expr) → Q e → Each Q (insides (layer e))) where
  abbrev BlocksHold : Expr → Type 0
  BlocksHold e = Q e → Each Q (blocks_in e)

  all_hold : (es : List Expr) → Each BlocksHold es → Each Q es → Each Q (flat_map blocks_in es)
  all_hold [] all hold = tt
  all_hold (e ∷ es) all hold = each_both Q (blocks_in e) (flat_map blocks_in es) (all.0 hold.0) (all_hold es all.1 hold.1)

  itself_holds : (e : Expr) (b : Bool) → Q e → Each Q (itself b e)
  itself_holds e true holds = (holds, tt)
  itself_holds e false holds = tt

  blocks_step : (e : Expr) → Each BlocksHold (insides (layer e)) → BlocksHold e
  blocks_step e all holds =
      subst (Each Q) (sym (blocks_inside e))
      (each_both Q (itself (acts_on_tables (layer e)) e) (flat_map blocks_in (insides (layer e))) (itself_holds e (acts_on_tables (layer e)) holds) (all_hold (insides (layer e)) all (passes e holds)))

  -- where it holds of the bodies of functions, it holds of what acts on tables in them
  pub bodies_blocks : (fs : List FunDef) → Each (λ (f : FunDef). Q f.body) fs → Each Q (flat_map (λ (f : FunDef). blocks_in f.body) fs)
  bodies_blocks [] all = tt
  bodies_blocks (f ∷ fs) all = each_both Q (blocks_in f.body) (flat_map (λ (f : FunDef). blocks_in f.body) fs) (by_insides BlocksHold blocks_step f.body all.0) (bodies_blocks fs all.1)
