-- Uses among nodes.
use Rattle.std.proofs.Common.{◌≡◌, Bool, true, false, List, [], ◌∷◌, Option, Some, None, refl}
use Rattle.lk_mono.specs.Instances.{Wanted, uses_among, with_use}
use Rattle.lk_sound.specs.Nodes.{TypedNode, Use}
use Rattle.lk_types.specs.Each.{Each}

-- what holds of the uses at nodes holds of those that are looked for
module _ (P : Use → Type 0) (wanted : Wanted) where
  with_each : (b : Bool) (o : Option Use) (rest : List Use) → ((u : Use) → o ≡ Some u → P u) → Each P rest → Each P (with_use b o rest)
  with_each true (Some u) rest first each = (first u refl, each)
  with_each true None rest first each = each
  with_each false o rest first each = each

  pub each_among : (nodes : List TypedNode) → Each (λ (node : TypedNode). (u : Use) → node.part.use_of ≡ Some u → P u) nodes → Each P (uses_among wanted nodes)
  each_among [] each = tt
  each_among (node ∷ nodes) each = with_each (wanted node.part.inside) node.part.use_of (uses_among wanted nodes) each.0 (each_among nodes each.1)
