-- The labels of the sites rise: what a tour has found so far has labels below the next one.
use Rattle.std.proofs.Common.{◌≡◌, ℕ, ◌+◌, ◌<◌, Bool, true, false, ◌||◌, List, [], ◌∷◌, ◌++◌, map, sym, ◌∙◌, ap, subst, arith}
use Rattle.std.proofs.lemmas.Map.Keys.{IsStrictlyIncreasing-from_sorted}
use Rattle.std.specs.Cmp.{nat_cmp_is}
use Rattle.std.specs.List.{AllByRecursion}
use Rattle.std.specs.List.Sorted.{IsStrictlySortedBy}
use Rattle.std.specs.Ordering.{nat_cmp}
use Rattle.std.specs.declared.cmp.Ordering.TheVariants.{Less}
use Rattle.lk_ast.specs.Layers.{Layer, layer}
use Rattle.lk_ast.specs.declared.expression.Expr.{Expr}
use Rattle.lk_ast.specs.declared.expression.Node.TheOpen.{Node-F}
use Rattle.lk_ground.specs.Language.{function_of}
use Rattle.lk_ground.specs.declared.program.GroundFun.{GroundFun}
use Rattle.lk_sites.proofs.Visiting.{insides_level, visit_level}
use Rattle.lk_sites.specs.Law.{SitesOrderLaw}
use Rattle.lk_sites.specs.Sites.{Site, Tour, all, at_node, behind_node, entered, in_instance, in_instances, is_closed, labelled, noted, site_at, sites_of, start, visit}
use Rattle.lk_sound.proofs.Inside.{by_insides, insides}
use Rattle.lk_types.proofs.Members.{each_weaker, each_both}
use Rattle.lk_types.specs.Each.{Each}

-- ---- lists that rise

abbrev label_of : Site → ℕ
label_of site = site.label

abbrev IsBelow : ℕ → Site → Type 0
IsBelow n site = site.label < n

below_another : (n : ℕ) (sites : List Site) (site : Site) → n < site.label → AllByRecursion (λ m. nat_cmp n m ≡ Less) (map label_of sites) → AllByRecursion (λ m. nat_cmp n m ≡ Less) (map label_of (sites ++ site ∷ []))
below_another n [] site less below = (sym (nat_cmp_is n site.label Less less), tt)
below_another n (first ∷ sites) site less below = (below.0, below_another n sites site less below.1)

-- one more, with a label above all others
one_more : (sites : List Site) (site : Site) → IsStrictlySortedBy nat_cmp (map label_of sites) → Each (IsBelow site.label) sites → IsStrictlySortedBy nat_cmp (map label_of (sites ++ site ∷ []))
unfolding IsStrictlySortedBy
one_more [] site rise below = (tt, tt)
one_more (first ∷ sites) site rise below = (below_another first.label sites site below.0 rise.0, one_more sites site rise.1 below.1)

none_rise : IsStrictlySortedBy nat_cmp []
unfolding IsStrictlySortedBy
none_rise = tt

-- ---- what is found so far

record AreRising (t : Tour) : Type 0 where
  rise : IsStrictlySortedBy nat_cmp (map label_of t.found)
  below : Each (IsBelow t.label) t.found

next_above : (t : Tour) → Each (IsBelow t.label) t.found → Each (IsBelow (t.label + 1)) t.found
next_above t = each_weaker (IsBelow t.label) (IsBelow (t.label + 1)) (λ site less. omega (arith, less)) t.found

with_label : (t : Tour) → AreRising t → AreRising (labelled t)
with_label t are = record { rise = are.rise; below = next_above t are.below }

behind_rising : (l : Layer) (t : Tour) → AreRising t → AreRising (behind_node l t)
behind_rising (Node-F.Function g) t are = record { rise = are.rise; below = are.below }
behind_rising (Node-F.Call g args) t are = record { rise = are.rise; below = are.below }
behind_rising other t are = record { rise = are.rise; below = are.below }

module _ (fun : ℕ) where
  with_site : (e : Expr) (t : Tour) → AreRising t → AreRising (noted fun e t)
  with_site e t are = record {
    rise = one_more t.found (site_at fun e t) are.rise are.below;
    below = each_both (IsBelow (t.label + 1)) t.found (site_at fun e t ∷ []) (next_above t are.below) (omega arith, tt);
  }

  at_rising : (l : Layer) (e : Expr) (t : Tour) → AreRising t → AreRising (at_node fun l e t)
  at_rising (Node-F.Lambda lambda) e t are = with_label t are
  at_rising (Node-F.Insert table rows) e t are = with_label t are
  at_rising (Node-F.Table table) e t are = with_site e t are
  at_rising (Node-F.Query keys body) e t are = with_site e t are
  at_rising (Node-F.Update change) e t are = with_site e t are
  at_rising (Node-F.Delete change) e t are = with_site e t are
  at_rising other e t are = are

  entered_rising : (l : Layer) (e : Expr) (inside : Bool) (t : Tour) → AreRising t → AreRising (entered fun l e inside t)
  entered_rising l e true t are = behind_rising l t are
  entered_rising l e false t are = behind_rising l (at_node fun l e t) (at_rising l e t are)

  -- ---- a whole expression

  abbrev KeepsRising : Expr → Type 0
  KeepsRising e = (inside : Bool) (t : Tour) → AreRising t → AreRising (visit fun e inside t)

  all_rising : (es : List Expr) → Each KeepsRising es → (inside : Bool) (t : Tour) → AreRising t → AreRising (all (map (visit fun) es) inside t)
  all_rising [] keep inside t are = are
  all_rising (e ∷ es) keep inside t are = all_rising es keep.1 inside (visit fun e inside t) (keep.0 inside t are)

  visit_rising : (e : Expr) → KeepsRising e
  visit_rising = by_insides KeepsRising (λ e keep inside t are.
      let by_parts = visit_level fun e inside t ∙ ap (λ go. go (inside || is_closed (layer e)) (entered fun (layer e) e inside t)) (insides_level fun (layer e)) in
      subst AreRising (sym by_parts) (all_rising (insides (layer e)) keep (inside || is_closed (layer e)) (entered fun (layer e) e inside t) (entered_rising (layer e) e inside t are)))

  instance_rising : (f : GroundFun) (t : Tour) → AreRising t → AreRising (in_instance fun f t)
  instance_rising f t are =
      visit_rising (function_of f).body false (record { label = t.label + 1; types = f.types; calls = f.calls; found = t.found })
      (record { rise = are.rise; below = next_above t are.below })

instances_rising : (fun : ℕ) (fs : List GroundFun) (t : Tour) → AreRising t → AreRising (in_instances fun fs t)
instances_rising fun [] t are = are
instances_rising fun (f ∷ fs) t are = instances_rising (fun + 1) fs (in_instance fun f t) (instance_rising fun f t are)

pub sites_rise : SitesOrderLaw
sites_rise g = IsStrictlyIncreasing-from_sorted (map label_of (sites_of g)) (instances_rising 0 g.funs start (record { rise = none_rise; below = tt })).rise
