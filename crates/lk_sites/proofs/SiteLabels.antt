-- The labels of what a visit finds: each is that of the place where the block begins, in its instance.
use Rattle.std.proofs.Common.{◌≡◌, ℕ, ◌+◌, ◌==◌, true, false, List, [], ◌∷◌, ◌++◌, append_assoc, append-nil, flat_map, length, length-append, map, Some, if◌then◌else◌, refl, sym, ◌∙◌, ap, subst, arith}
use Rattle.std.proofs.lemmas.Bool.Decides.{nat_tests}
use Rattle.lk_typing.proofs.Levels.{map_joined}
use Rattle.lk_ast.specs.Layers.{Layer, layer}
use Rattle.lk_ast.specs.declared.expression.Expr.{Expr}
use Rattle.lk_ast.specs.declared.expression.Node.TheOpen.{Node-F}
use Rattle.lk_ground.proofs.Levels.{labelled_level, outer, own_label}
use Rattle.lk_ground.specs.Language as language
use Rattle.lk_ground.specs.Language.{Labelled, Whole, found_from, function_of, labelled_from, labelled_of, labels}
use Rattle.lk_ground.specs.Sites.{labelled_in}
use Rattle.lk_ground.specs.declared.program.GroundFun.{GroundFun}
use Rattle.lk_ground.specs.declared.program.GroundProgram.{GroundProgram}
use Rattle.lk_sites.proofs.ClosedSites.{behind_same, none_in}
use Rattle.lk_sites.proofs.Touring.{by_parts}
use Rattle.lk_sites.specs.Sites.{Site, Tour, all, at_node, entered, in_instance, in_instances, is_closed, site_at, sites_of, start, visit}
use Rattle.lk_sound.proofs.Inside.{by_insides, insides}
use Rattle.lk_types.proofs.Members.{each_weaker, each_both}
use Rattle.lk_types.specs.Each.{Each}

-- ---- numbers

equal_self : (n : ℕ) → (n == n + 0) ≡ true
equal_self n = grind (arith, nat_tests)

less_apart : (n k : ℕ) → (n == n + (1 + k)) ≡ false
less_apart n k = grind (arith, nat_tests)

-- what stands at the end has the number of those before it
at_end : (n : ℕ) (ls : List Labelled) (x : Labelled) (more : List Labelled) → found_from n ((ls ++ x ∷ []) ++ more) (n + length ls) ≡ Some x
at_end n [] x more = ap (λ b. if b then Some x else found_from (1 + n) more (n + 0)) (equal_self n)
at_end n (l ∷ ls) x more =
    let number : n + length (l ∷ ls) ≡ n + (1 + length ls) = omega arith in
    let next : n + (1 + length ls) ≡ (1 + n) + length ls = omega arith in
    ap (found_from n (l ∷ ((ls ++ x ∷ []) ++ more))) number
    ∙ ap (λ b. if b then Some l else found_from (1 + n) ((ls ++ x ∷ []) ++ more) (n + (1 + length ls))) (less_apart n (length ls))
    ∙ ap (found_from (1 + n) ((ls ++ x ∷ []) ++ more)) next
    ∙ at_end (1 + n) ls x more

-- ---- what is labelled so far, the first with label 1

-- its label is that of the place where it begins, whatever comes behind
abbrev IsLabelled : List Labelled → Site → Type 0
IsLabelled ls site = (more : List Labelled) → found_from 1 (ls ++ more) site.label ≡ Some (language.Site site.fun site.block.span.start)

record AreLabelled (ls : List Labelled) (t : Tour) : Type 0 where
  next : t.label ≡ 1 + length ls
  found : Each (IsLabelled ls) t.found

still_labelled : (ls xs : List Labelled) (sites : List Site) → Each (IsLabelled ls) sites → Each (IsLabelled (ls ++ xs)) sites
still_labelled ls xs = each_weaker (IsLabelled ls) (IsLabelled (ls ++ xs)) (λ site is more. ap (λ all. found_from 1 all site.label) (append_assoc ls xs more) ∙ is (xs ++ more))

-- one more
with_label : (ls : List Labelled) (x : Labelled) (t : Tour) (after : Tour) → AreLabelled ls t → after.label ≡ t.label + 1 → after.found ≡ t.found → AreLabelled (ls ++ x ∷ []) after
with_label ls x t after are label_is found_is =
    let before : t.label ≡ 1 + length ls = are.next in
    let longer : length (ls ++ x ∷ []) ≡ length ls + length (x ∷ []) = length-append ls (x ∷ []) in
    record {
      next = omega arith;
      found = subst (Each (IsLabelled (ls ++ x ∷ []))) (sym found_is) (still_labelled ls (x ∷ []) t.found are.found);
    }

-- the same but for what is still to come
moved : (ls : List Labelled) (t after : Tour) → AreLabelled ls t → after.label ≡ t.label → after.found ≡ t.found → AreLabelled ls after
moved ls t after are label_is found_is = record { next = label_is ∙ are.next; found = subst (Each (IsLabelled ls)) (sym found_is) are.found }

module _ (fun : ℕ) where
  -- a site
  with_site : (ls : List Labelled) (e : Expr) (t after : Tour) → AreLabelled ls t → after.label ≡ t.label + 1 → after.found ≡ t.found ++ site_at fun e t ∷ [] → AreLabelled (ls ++ language.Site fun e.span.start ∷ []) after
  with_site ls e t after are label_is found_is =
      let x : Labelled = language.Site fun e.span.start in
      let before : t.label ≡ 1 + length ls = are.next in
      let longer : length (ls ++ x ∷ []) ≡ length ls + length (x ∷ []) = length-append ls (x ∷ []) in
      record {
        next = omega arith;
        found = subst (Each (IsLabelled (ls ++ x ∷ []))) (sym found_is)
            (each_both (IsLabelled (ls ++ x ∷ [])) t.found (site_at fun e t ∷ []) (still_labelled ls (x ∷ []) t.found are.found)
            ((λ more. ap (found_from 1 ((ls ++ x ∷ []) ++ more)) before ∙ at_end 1 ls x more), tt));
      }

  -- ---- an expression without what stands in it

  at_labelled : (l : Layer) (e : Expr) (ls : List Labelled) (t : Tour) → AreLabelled ls t → AreLabelled (ls ++ map (language.Site fun) (own_label l e.span.start)) (at_node fun l e t)
  at_labelled (Node-F.Lambda lambda) e ls t are = with_label ls (language.Site fun e.span.start) t _ are refl refl
  at_labelled (Node-F.Insert table rows) e ls t are = with_label ls (language.Site fun e.span.start) t _ are refl refl
  at_labelled (Node-F.Table table) e ls t are = with_site ls e t _ are refl refl
  at_labelled (Node-F.Query keys body) e ls t are = with_site ls e t _ are refl refl
  at_labelled (Node-F.Update change) e ls t are = with_site ls e t _ are refl refl
  at_labelled (Node-F.Delete change) e ls t are = with_site ls e t _ are refl refl
  at_labelled other e ls t are = subst (λ all. AreLabelled all t) (sym (append-nil ls)) are

  entered_labelled : (l : Layer) (e : Expr) (ls : List Labelled) (t : Tour) → AreLabelled ls t → AreLabelled (ls ++ map (language.Site fun) (own_label l e.span.start)) (entered fun l e false t)
  entered_labelled l e ls t are = moved _ (at_node fun l e t) _ (at_labelled l e ls t are) (behind_same l (at_node fun l e t)).label (behind_same l (at_node fun l e t)).found

  -- ---- outside of them

  abbrev Labels : Expr → Type 0
  Labels e = (ls : List Labelled) (t : Tour) → AreLabelled ls t → AreLabelled (ls ++ map (language.Site fun) (labelled_in e)) (visit fun e false t)

  all_labels : (es : List Expr) → Each Labels es → (ls : List Labelled) (t : Tour) → AreLabelled ls t → AreLabelled (ls ++ map (language.Site fun) (flat_map labelled_in es)) (all (map (visit fun) es) false t)
  all_labels [] label ls t are = subst (λ all. AreLabelled all t) (sym (append-nil ls)) are
  all_labels (e ∷ es) label ls t are =
      subst (λ more. AreLabelled more (all (map (visit fun) es) false (visit fun e false t)))
      (append_assoc ls (map (language.Site fun) (labelled_in e)) (map (language.Site fun) (flat_map labelled_in es)) ∙ ap (λ more. ls ++ more) (sym (map_joined (language.Site fun) (labelled_in e) (flat_map labelled_in es))))
      (all_labels es label.1 (ls ++ map (language.Site fun) (labelled_in e)) (visit fun e false t) (label.0 ls t are))

  closed_labels : (es : List Expr) (ls : List Labelled) (t : Tour) → AreLabelled ls t → AreLabelled (ls ++ []) (all (map (visit fun) es) true t)
  closed_labels es ls t are =
      let same = none_in fun es t in
      subst (λ more. AreLabelled more (all (map (visit fun) es) true t)) (sym (append-nil ls)) (moved ls t (all (map (visit fun) es) true t) are same.label same.found)

  -- what is labelled in it, where nothing is inside of what is closed
  inner_labels : (l : Layer) → Each Labels (insides l) → (ls : List Labelled) (t : Tour) → AreLabelled ls t → AreLabelled (ls ++ map (language.Site fun) (flat_map labelled_in (outer l))) (all (map (visit fun) (insides l)) (is_closed l) t)
  inner_labels (Node-F.Query keys body) label ls t are = closed_labels (body ∷ []) ls t are
  inner_labels (Node-F.Update change) label ls t are = closed_labels (insides (Node-F.Update change)) ls t are
  inner_labels (Node-F.Delete change) label ls t are = closed_labels (insides (Node-F.Delete change)) ls t are
  inner_labels other label ls t are = all_labels (insides other) label ls t are

  visit_labels : (e : Expr) → Labels e
  visit_labels = by_insides Labels (λ e label ls t are.
      let site = language.Site fun in
      let own = own_label (layer e) e.span.start in
      let inner = flat_map labelled_in (outer (layer e)) in
      subst (λ all. AreLabelled (ls ++ all) (visit fun e false t)) (sym (ap (map (language.Site fun)) (labelled_level e) ∙ map_joined (language.Site fun) own inner))
      (subst (AreLabelled (ls ++ (map (language.Site fun) own ++ map (language.Site fun) inner))) (sym (by_parts fun e false t))
      (subst (λ all_labels. AreLabelled all_labels (all (map (visit fun) (insides (layer e))) (is_closed (layer e)) (entered fun (layer e) e false t))) (append_assoc ls (map (language.Site fun) own) (map (language.Site fun) inner))
      (inner_labels (layer e) label (ls ++ map (language.Site fun) own) (entered fun (layer e) e false t) (entered_labelled (layer e) e ls t are)))))

  instance_labels : (f : GroundFun) (ls : List Labelled) (t : Tour) → AreLabelled ls t → AreLabelled (ls ++ labelled_of fun f) (in_instance fun f t)
  instance_labels f ls t are =
      subst (λ all. AreLabelled all (in_instance fun f t)) (append_assoc ls (Whole fun ∷ []) (map (language.Site fun) (labelled_in (function_of f).body)))
      (visit_labels (function_of f).body (ls ++ Whole fun ∷ []) (record { label = t.label + 1; types = f.types; calls = f.calls; found = t.found }) (with_label ls (Whole fun) t _ are refl refl))

instances_labels : (fun : ℕ) (fs : List GroundFun) (ls : List Labelled) (t : Tour) → AreLabelled ls t → AreLabelled (ls ++ labelled_from fun fs) (in_instances fun fs t)
instances_labels fun [] ls t are = subst (λ all. AreLabelled all t) (sym (append-nil ls)) are
instances_labels fun (f ∷ fs) ls t are =
    let number : fun + 1 ≡ 1 + fun = omega arith in
    subst (λ all. AreLabelled all (in_instances (fun + 1) fs (in_instance fun f t))) (append_assoc ls (labelled_of fun f) (labelled_from (fun + 1) fs) ∙ ap (λ k. ls ++ (labelled_of fun f ++ labelled_from k fs)) number)
    (instances_labels (fun + 1) fs (ls ++ labelled_of fun f) (in_instance fun f t) (instance_labels fun f ls t are))

-- what has the label of a site is what begins where it does, in its instance
pub sites_labelled : (g : GroundProgram) → Each (λ site. language.labelled g site.label ≡ Some (language.Site site.fun site.block.span.start)) (sites_of g)
sites_labelled g =
    let are = instances_labels 0 g.funs [] start (record { next = refl; found = tt }) in
    each_weaker (IsLabelled (labels g)) (λ (site : Site). language.labelled g site.label ≡ Some (language.Site site.fun site.block.span.start)) (λ site is. ap (λ all. found_from 1 all site.label) (sym (append-nil (labels g))) ∙ is []) (sites_of g) are.found
