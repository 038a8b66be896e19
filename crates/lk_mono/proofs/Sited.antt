-- What is looked for among the uses of nodes is what is taken of those that are found.
use Rattle.std.proofs.Common.{◌≡◌, Bool, true, false, List, [], ◌∷◌, Option, Some, None, refl, sym, ap, subst, ◌∙◌}
use Rattle.lk_mono.specs.Held.{AreSited}
use Rattle.lk_mono.specs.Held as held
use Rattle.lk_mono.specs.Instances.{Wanted, uses_among, with_use}
use Rattle.lk_mono.specs.Looks.{TheFound}
use Rattle.lk_mono.specs.Queues.{AreFoundOf}
use Rattle.lk_mono.specs.Queues as queues
use Rattle.lk_sound.specs.Nodes.{TypedNode, Use}

no_use : (b : Bool) (o : Option Use) (rest : List Use) → o ≡ None → with_use b o rest ≡ rest
no_use true o rest is = ap (λ use_of. with_use true use_of rest) is
no_use false o rest is = refl

one_use : (b : Bool) (o : Option Use) (u : Use) (rest : List Use) → b ≡ true → o ≡ Some u → with_use b o rest ≡ u ∷ rest
one_use b o u rest wanted is = ap (λ wants. with_use wants o rest) wanted ∙ ap (λ use_of. with_use true use_of rest) is

not_wanted : (b : Bool) (o : Option Use) (rest : List Use) → b ≡ false → with_use b o rest ≡ rest
not_wanted b o rest wanted = ap (λ wants. with_use wants o rest) wanted

module _ (wanted : Wanted) where
  by_test : (b : Bool) (node : TypedNode) (nodes : List TypedNode) (u : Use) (f : TheFound) (found : List TheFound) → wanted node.part.inside ≡ b → node.part.use_of ≡ Some u
      → f.inside ≡ node.part.inside → f.name ≡ u.name → f.type ≡ u.type → AreFoundOf wanted found (uses_among wanted nodes) → AreFoundOf wanted (f ∷ found) (uses_among wanted (node ∷ nodes))
  by_test true node nodes u f found wants is inside named typed more =
      subst (AreFoundOf wanted (f ∷ found)) (sym (one_use _ _ u (uses_among wanted nodes) wants is)) (queues.taken (ap wanted inside ∙ wants) named typed more)
  by_test false node nodes u f found wants is inside named typed more =
      subst (AreFoundOf wanted (f ∷ found)) (sym (not_wanted _ node.part.use_of (uses_among wanted nodes) wants)) (queues.passed (ap wanted inside ∙ wants) more)

  pub sited_found : (nodes : List TypedNode) (found : List TheFound) → AreSited nodes found → AreFoundOf wanted found (uses_among wanted nodes)
  sited_found [] [] held.none = queues.none
  sited_found [] (f ∷ found) sited = elim sited [ ]
  sited_found (node ∷ nodes) found (held.other is more) = subst (AreFoundOf wanted found) (sym (no_use (wanted node.part.inside) node.part.use_of (uses_among wanted nodes) is)) (sited_found nodes found more)
  sited_found (node ∷ nodes) (f ∷ found) (held.use_at {u} is inside named typed more) =
      by_test (wanted node.part.inside) node nodes u f found refl is inside named typed (sited_found nodes found more)
