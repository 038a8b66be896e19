-- What is still to come at a site is a rest of the types and calls of its instance.
use Rattle.std.proofs.Common.{◌≡◌, ℕ, zero, suc, ◌+◌, Bool, true, false, List, [], ◌∷◌, ◌++◌, drop, Some, slice_get, refl, sym, ◌∙◌, ap, subst, arith}
use Rattle.lk_ast.specs.Layers.{Layer}
use Rattle.lk_ast.specs.declared.expression.Expr.{Expr}
use Rattle.lk_ast.specs.declared.expression.Node.TheOpen.{Node-F}
use Rattle.lk_ground.specs.Language.{function_of}
use Rattle.lk_ground.specs.declared.program.GroundFun.{GroundFun}
use Rattle.lk_ground.specs.declared.program.GroundProgram.{GroundProgram}
use Rattle.lk_sites.proofs.Touring.{visit_keeps}
use Rattle.lk_sites.specs.Sites.{Site, Tour, at_node, behind_node, entered, in_instance, in_instances, site_at, sites_of, start}
use Rattle.lk_types.proofs.Members.{each_both}
use Rattle.lk_types.specs.Each.{Each}
use Rattle.lk_types.specs.declared.ground.Ground.{Ground}

drop_more : {A : Type 0} (n : ℕ) (xs : List A) → drop 1 (drop n xs) ≡ drop (suc n) xs
drop_more zero xs = refl
drop_more (suc n) [] = refl
drop_more (suc n) (x ∷ xs) = drop_more n xs

pub record IsRest (function : GroundFun) (types : List Ground) (calls : List ℕ) : Type 0 where
  pub nodes : ℕ
  pub uses : ℕ
  pub types_are : types ≡ drop nodes function.types
  pub calls_are : calls ≡ drop uses function.calls

module _ (g : GroundProgram) where
  pub record IsOfInstance (site : Site) : Type 0 where
    pub function : GroundFun
    pub there : slice_get g.funs site.fun ≡ Some function
    pub rest : IsRest function site.types site.calls

  module _ (fun : ℕ) (f : GroundFun) (there : slice_get g.funs fun ≡ Some f) where
    record IsWithin (t : Tour) : Type 0 where
      rest : IsRest f t.types t.calls
      found : Each IsOfInstance t.found

    behind_within : (l : Layer) (t : Tour) → IsWithin t → IsWithin (behind_node l t)
    behind_within (Node-F.Function name) t within = record {
      rest = record {
        nodes = suc within.rest.nodes;
        uses = suc within.rest.uses;
        types_are = ap (drop 1) within.rest.types_are ∙ drop_more within.rest.nodes f.types;
        calls_are = ap (drop 1) within.rest.calls_are ∙ drop_more within.rest.uses f.calls;
      };
      found = within.found;
    }
    behind_within (Node-F.Call name args) t within = record {
      rest = record {
        nodes = suc within.rest.nodes;
        uses = suc within.rest.uses;
        types_are = ap (drop 1) within.rest.types_are ∙ drop_more within.rest.nodes f.types;
        calls_are = ap (drop 1) within.rest.calls_are ∙ drop_more within.rest.uses f.calls;
      };
      found = within.found;
    }
    behind_within other t within = record {
      rest = record {
        nodes = suc within.rest.nodes;
        uses = within.rest.uses;
        types_are = ap (drop 1) within.rest.types_are ∙ drop_more within.rest.nodes f.types;
        calls_are = within.rest.calls_are;
      };
      found = within.found;
    }

    noted_within : (e : Expr) (t after : Tour) → IsWithin t → after.types ≡ t.types → after.calls ≡ t.calls → after.found ≡ t.found ++ site_at fun e t ∷ [] → IsWithin after
    noted_within e t after within types_are calls_are found_is = record {
      rest = record { nodes = within.rest.nodes; uses = within.rest.uses; types_are = types_are ∙ within.rest.types_are; calls_are = calls_are ∙ within.rest.calls_are };
      found = subst (Each IsOfInstance) (sym found_is)
          (each_both IsOfInstance t.found (site_at fun e t ∷ []) within.found (record { function = f; there = there; rest = within.rest }, tt));
    }

    labelled_within : (t after : Tour) → IsWithin t → after.types ≡ t.types → after.calls ≡ t.calls → after.found ≡ t.found → IsWithin after
    labelled_within t after within types_are calls_are found_is = record {
      rest = record { nodes = within.rest.nodes; uses = within.rest.uses; types_are = types_are ∙ within.rest.types_are; calls_are = calls_are ∙ within.rest.calls_are };
      found = subst (Each IsOfInstance) (sym found_is) within.found;
    }

    at_within : (l : Layer) (e : Expr) (t : Tour) → IsWithin t → IsWithin (at_node fun l e t)
    at_within (Node-F.Lambda lambda) e t within = labelled_within t _ within refl refl refl
    at_within (Node-F.Insert table rows) e t within = labelled_within t _ within refl refl refl
    at_within (Node-F.Table table) e t within = noted_within e t _ within refl refl refl
    at_within (Node-F.Query keys body) e t within = noted_within e t _ within refl refl refl
    at_within (Node-F.Update change) e t within = noted_within e t _ within refl refl refl
    at_within (Node-F.Delete change) e t within = noted_within e t _ within refl refl refl
    at_within other e t within = within

    entered_within : (l : Layer) (e : Expr) (flag : Bool) (t : Tour) → IsWithin t → IsWithin (entered fun l e flag t)
    entered_within l e true t within = behind_within l t within
    entered_within l e false t within = behind_within l (at_node fun l e t) (at_within l e t within)

    instance_within : (t : Tour) → Each IsOfInstance t.found → Each IsOfInstance (in_instance fun f t).found
    instance_within t before =
        (visit_keeps fun IsWithin entered_within (function_of f).body false (record { label = t.label + 1; types = f.types; calls = f.calls; found = t.found })
        (record { rest = record { nodes = 0; uses = 0; types_are = refl; calls_are = refl }; found = before })).found

  instances_within : (fun : ℕ) (fs : List GroundFun) → ((j : ℕ) (f : GroundFun) → slice_get fs j ≡ Some f → slice_get g.funs (j + fun) ≡ Some f) → (t : Tour) → Each IsOfInstance t.found → Each IsOfInstance (in_instances fun fs t).found
  instances_within fun [] at t before = before
  instances_within fun (f ∷ fs) at t before =
      let first : zero + fun ≡ fun = omega arith in
      instances_within (fun + 1) fs (λ j h is. let next : suc j + fun ≡ j + (fun + 1) = omega arith in subst (λ n. slice_get g.funs n ≡ Some h) next (at (suc j) h is))
      (in_instance fun f t) (instance_within fun f (subst (λ n. slice_get g.funs n ≡ Some f) first (at zero f refl)) t before)

  pub sites_rests : Each IsOfInstance (sites_of g)
  sites_rests =
      let same : (j : ℕ) (f : GroundFun) → slice_get g.funs j ≡ Some f → slice_get g.funs (j + 0) ≡ Some f = λ j f is. (let number : j ≡ j + 0 = omega arith in subst (λ n. slice_get g.funs n ≡ Some f) number is) in
      instances_within 0 g.funs same start tt
