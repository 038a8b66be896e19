-- A list of instances as the code has it, beside the one of the definition, with the room that is left.
use Rattle.std.specs.Prelude.{◌≡◌, ℕ, ◌+◌, Bool, true, false, List, [], ◌∷◌, map, length}
use Rattle.lk_mono.specs.Instances.{IsWith, IsFull, Wanted, most_instances}
use Rattle.lk_mono.specs.Looks.{IsNumbered, TheFound}
use Rattle.lk_mono.specs.declared.queue.Queue.{Queue}
use Rattle.lk_mono.specs.declared.queue.Use.{Use as TheUse}
use Rattle.lk_mono.specs.declared.queue.Wanted.{Wanted as TheWanted}
use Rattle.lk_mono.specs.declared.queue.Wanted.TheVariants as wanted
use Rattle.lk_mono.specs.Instances as instances
use Rattle.lk_sound.specs.Nodes.{Use}
use Rattle.lk_types.specs.Each.{Each}
use Rattle.lk_types.specs.declared.ground.Ground.{Ground}

abbrev pub as_use : TheUse → Use
as_use u = record { name = u.name.now; type = u.ty }

abbrev pub as_list : List TheUse → List Use
as_list listed = map as_use listed

abbrev pub as_wanted : TheWanted → Wanted
as_wanted wanted.Outside = instances.outside
as_wanted wanted.Inside = instances.within_blocks
as_wanted wanted.Everywhere = instances.everywhere

pub record IsQueueOf (others : ℕ) (list : List Use) (queue : Queue) : Type 0 where
  pub listed : as_list queue.listed ≡ list
  pub room : others + (length list + queue.room) ≡ most_instances

-- each use has the number of its type
abbrev pub AreUsesNumbered : List Ground → List TheUse → Type 0
AreUsesNumbered ts listed = Each (λ u. IsNumbered ts u.number u.ty) listed

-- these uses are those that are found, but for those that aren't looked for
pub data AreFoundOf (looked_for : Wanted) : List TheFound → List Use → Type 0 where
  none : AreFoundOf looked_for [] []
  passed : {f : TheFound} {found : List TheFound} {us : List Use} → looked_for f.inside ≡ false → AreFoundOf looked_for found us → AreFoundOf looked_for (f ∷ found) us
  taken : {f : TheFound} {found : List TheFound} {u : Use} {us : List Use} → looked_for f.inside ≡ true → f.name ≡ u.name → f.type ≡ u.type → AreFoundOf looked_for found us → AreFoundOf looked_for (f ∷ found) (u ∷ us)

-- what comes of adding these uses, whether there was room or not
pub data IsAdded (others : ℕ) (list us : List Use) (queue : Queue) : Bool → Type 0 where
  all : {longer : List Use} → IsWith others list us longer → IsQueueOf others longer queue → IsAdded others list us queue true
  full : IsFull others list us → IsAdded others list us queue false
