-- The sites of a ground program are all that there are: each query, reading of a table, update and deletion that stands outside of
-- others in an instance is found.
use Rattle.std.proofs.Common.{◌≡◌, ℕ, zero, suc, ◌+◌, inl, inr, Bool, true, false, List, [], ◌∷◌, ◌++◌, flat_map, map, Some, None, slice_get, refl, sym, ap, subst, arith}
use Rattle.lk_ast.specs.Children.{exprs_of}
use Rattle.lk_ast.specs.Layers.{Layer, layer}
use Rattle.lk_ast.specs.declared.expression.Case.{Case}
use Rattle.lk_ast.specs.declared.expression.Expr.{Expr}
use Rattle.lk_ast.specs.declared.expression.Node.TheOpen.{Node-F}
use Rattle.lk_ast.specs.declared.expression.PartExpr.{PartExpr}
use Rattle.lk_ground.specs.Language.{function_of}
use Rattle.lk_ground.specs.declared.program.GroundFun.{GroundFun}
use Rattle.lk_sites.proofs.Touring.{all_keep, by_parts, visit_keeps}
use Rattle.lk_sites.specs.Law.{SitesFoundLaw, StandsOutside, outer_parts}
use Rattle.lk_sites.specs.SiteKinds.{is_site}
use Rattle.lk_sites.specs.Sites.{Site, Tour, all, at_node, behind_node, entered, in_instance, in_instances, is_closed, site_at, start, visit}
use Rattle.lk_sound.proofs.Inside.{bodies_of, insides}
use Rattle.lk_sound.proofs.QueryParts.{each_itself}
use Rattle.lk_types.proofs.Members.{one_in_back, one_in_front}
use Rattle.lk_types.specs.Each.{OneOf}

-- ---- the parts of a node

parts_alone : (parts : List PartExpr) → flat_map (λ (part : PartExpr). part.expr ∷ []) parts ≡ exprs_of parts
parts_alone [] = refl
parts_alone (part ∷ parts) = ap (λ more. part.expr ∷ more) (parts_alone parts)

cases_alone : (cases : List Case) → flat_map (λ (case : Case). case.body ∷ []) cases ≡ bodies_of cases
cases_alone [] = refl
cases_alone (case ∷ cases) = ap (λ more. case.body ∷ more) (cases_alone cases)

-- where it isn't closed
record IsOpen (l : Layer) : Type 0 where
  open_node : is_closed l ≡ false
  parts : outer_parts l ≡ insides l

opened : (l : Layer) (d : Expr) → OneOf (λ other. other ≡ d) (outer_parts l) → IsOpen l
opened (Node-F.Query keys body) d one = absurd one
opened (Node-F.Update change) d one = absurd one
opened (Node-F.Delete change) d one = absurd one
opened (Node-F.Call g args) d one = record { open_node = refl; parts = each_itself args }
opened (Node-F.Apply f args) d one = record { open_node = refl; parts = ap (λ es. f ∷ es) (each_itself args) }
opened (Node-F.Record fields) d one = record { open_node = refl; parts = parts_alone fields }
opened (Node-F.Extend fields e) d one = record { open_node = refl; parts = ap (λ es. es ++ e ∷ []) (parts_alone fields) }
opened (Node-F.List items) d one = record { open_node = refl; parts = each_itself items }
opened (Node-F.Switch e cases None) d one = record { open_node = refl; parts = ap (λ es. e ∷ (es ++ [])) (cases_alone cases) }
opened (Node-F.Switch e cases (Some last)) d one = record { open_node = refl; parts = ap (λ es. e ∷ (es ++ last.body ∷ [])) (cases_alone cases) }
opened other d one = record { open_node = refl; parts = refl }

-- ---- what was found stays

module _ (P : Site → Type 0) (fun : ℕ) where
  abbrev HasOne : Tour → Type 0
  HasOne t = OneOf P t.found

  pub behind_has : (l : Layer) (t : Tour) → HasOne t → HasOne (behind_node l t)
  behind_has (Node-F.Function g) t one = one
  behind_has (Node-F.Call g args) t one = one
  behind_has other t one = one

  at_has : (l : Layer) (e : Expr) (t : Tour) → HasOne t → HasOne (at_node fun l e t)
  at_has (Node-F.Table table) e t one = one_in_front P t.found (site_at fun e t ∷ []) one
  at_has (Node-F.Query keys body) e t one = one_in_front P t.found (site_at fun e t ∷ []) one
  at_has (Node-F.Update change) e t one = one_in_front P t.found (site_at fun e t ∷ []) one
  at_has (Node-F.Delete change) e t one = one_in_front P t.found (site_at fun e t ∷ []) one
  at_has other e t one = one

  entered_has : (l : Layer) (e : Expr) (flag : Bool) (t : Tour) → HasOne t → HasOne (entered fun l e flag t)
  entered_has l e true t one = behind_has l t one
  entered_has l e false t one = behind_has l (at_node fun l e t) (at_has l e t one)

  pub keeps : (e : Expr) (flag : Bool) (t : Tour) → HasOne t → HasOne (visit fun e flag t)
  keeps = visit_keeps fun HasOne entered_has

  pub all_keeps : (es : List Expr) (flag : Bool) (t : Tour) → HasOne t → HasOne (all (map (visit fun) es) flag t)
  all_keeps = all_keep fun HasOne entered_has

  -- ---- what stands outside of others is found

  pub at_itself : (l : Layer) (e : Expr) (t : Tour) → is_site l ≡ true → P (site_at fun e t) → HasOne (at_node fun l e t)
  at_itself (Node-F.Table table) e t site here = one_in_back P t.found (site_at fun e t ∷ []) (inl here)
  at_itself (Node-F.Query keys body) e t site here = one_in_back P t.found (site_at fun e t ∷ []) (inl here)
  at_itself (Node-F.Update change) e t site here = one_in_back P t.found (site_at fun e t ∷ []) (inl here)
  at_itself (Node-F.Delete change) e t site here = one_in_back P t.found (site_at fun e t ∷ []) (inl here)
  at_itself other e t site here = let wrong : false ≡ true = site in absurd cc

  among : (es : List Expr) (d : Expr) → OneOf (λ other. other ≡ d) es → ((t : Tour) → HasOne (visit fun d false t)) → (t : Tour) → HasOne (all (map (visit fun) es) false t)
  among [] d one finds t = absurd one
  among (e ∷ es) d (inl is) finds t = all_keeps es false (visit fun e false t) (subst (λ x. HasOne (visit fun x false t)) (sym is) (finds t))
  among (e ∷ es) d (inr later) finds t = among es d later finds (visit fun e false t)

  module _ (block : Expr) (site : is_site (layer block) ≡ true) (is_it : (t : Tour) → P (site_at fun block t)) where
    finds : (e : Expr) → StandsOutside block e → (t : Tour) → HasOne (visit fun e false t)
    finds _ StandsOutside.itself t =
        subst HasOne (sym (by_parts fun block false t))
        (all_keeps (insides (layer block)) (is_closed (layer block)) (entered fun (layer block) block false t)
        (behind_has (layer block) (at_node fun (layer block) block t) (at_itself (layer block) block t site (is_it t))))
    finds _ (StandsOutside.within {e = e} {d = d} one stands) t =
        let open_here = opened (layer e) d one in
        subst HasOne (sym (by_parts fun e false t))
        (subst (λ flag. HasOne (all (map (visit fun) (insides (layer e))) flag (entered fun (layer e) e false t))) (sym open_here.open_node)
        (among (insides (layer e)) d (subst (OneOf (λ other. other ≡ d)) open_here.parts one) (finds d stands) (entered fun (layer e) e false t)))

  instance_keeps : (f : GroundFun) (t : Tour) → HasOne t → HasOne (in_instance fun f t)
  instance_keeps f t one = keeps (function_of f).body false (record { label = t.label + 1; types = f.types; calls = f.calls; found = t.found }) one

module _ (P : Site → Type 0) where
  pub instances_keep : (fun : ℕ) (fs : List GroundFun) (t : Tour) → OneOf P t.found → OneOf P (in_instances fun fs t).found
  instances_keep fun [] t one = one
  instances_keep fun (f ∷ fs) t one = instances_keep (fun + 1) fs (in_instance fun f t) (instance_keeps P fun f t one)

  in_place : (fun j : ℕ) (fs : List GroundFun) (f : GroundFun) → slice_get fs j ≡ Some f → ((t : Tour) → OneOf P (in_instance (j + fun) f t).found) → (t : Tour) → OneOf P (in_instances fun fs t).found
  in_place fun j [] f is finds t = let wrong : None ≡ Some f = is in absurd cc
  in_place fun zero (g ∷ fs) f is finds t =
      let number : zero + fun ≡ fun = omega arith in
      let same : g ≡ f = cc in
      instances_keep (fun + 1) fs (in_instance fun g t) (subst (λ k. OneOf P (in_instance k g t).found) number (subst (λ h. OneOf P (in_instance (zero + fun) h t).found) (sym same) (finds t)))
  in_place fun (suc j) (g ∷ fs) f is finds t =
      let number : suc j + fun ≡ j + (fun + 1) = omega arith in
      in_place (fun + 1) j fs f is (λ t. subst (λ k. OneOf P (in_instance k f t).found) number (finds t)) (in_instance fun g t)

pub sites_found : SitesFoundLaw
sites_found g fun f there block stands site =
    let number : fun ≡ fun + 0 = omega arith in
    let P : Site → Type 0 = λ (s : Site). (s.fun ≡ fun) × (s.block ≡ block) in
    in_place P 0 fun g.funs f there
    (λ t. subst (λ k. OneOf P (in_instance k f t).found) number (finds P fun block site (λ t. (refl, refl)) (function_of f).body stands (record { label = t.label + 1; types = f.types; calls = f.calls; found = t.found }))) start
