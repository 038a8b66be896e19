-- Both lists of instances as the code has them, and what is asked of the places of what is called.
use Rattle.std.specs.Prelude.{◌≡◌, ◌<◌, ◌≤◌, length, Bool, true, false, ◌||◌, List, Some, if◌then◌else◌}
use Rattle.lk_mono.specs.Held.{AreHeld}
use Rattle.lk_mono.specs.Instances.{AreDistinct, AreInstances, Body, most_instances, uses_of}
use Rattle.lk_mono.specs.Queues.{as_list}
use Rattle.lk_mono.specs.declared.body.Source.{Source}
use Rattle.lk_mono.specs.declared.listing.Instances.{Instances}
use Rattle.lk_sound.specs.Nodes.{Use, TypedNode}
use Rattle.lk_types.specs.Each.{Each, OneOf}

-- what the node uses, if anything, is listed where it belongs
abbrev pub IsListedAt : List Use → List Use → Bool → TypedNode → Type 0
IsListedAt mains helpers in_helper node = (u : Use) → node.part.use_of ≡ Some u → OneOf (λ other. other ≡ u) (if in_helper || node.part.inside then helpers else mains)

abbrev pub AreListedIn : List Use → List Use → Bool → Body → Type 0
AreListedIn mains helpers in_helper body = Each (IsListedAt mains helpers in_helper) body.nodes

pub record AreFound (source : Source) (i : Instances) : Type 0 where
  pub mains : List Body
  pub helpers : List Body
  pub main_uses : uses_of mains ≡ as_list i.mains
  pub helper_uses : uses_of helpers ≡ as_list i.helpers
  pub mains_held : AreHeld source i.main_bodies mains
  pub helpers_held : AreHeld source i.helper_bodies helpers
  pub instances : AreInstances source.program.now source.typed.now.schemes source.typed.now.types mains helpers
  pub distinct : AreDistinct (uses_of helpers)
  pub some_main : 0 < length i.mains
  pub few_mains : length i.mains ≤ most_instances
  pub few_helpers : length i.helpers ≤ most_instances
  pub mains_listed : Each (AreListedIn (uses_of mains) (uses_of helpers) false) mains
  pub helpers_listed : Each (AreListedIn (uses_of mains) (uses_of helpers) true) helpers
