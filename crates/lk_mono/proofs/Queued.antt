-- A list of instances is the code's own list, and stays so with others behind it.
use Rattle.std.proofs.Common.{◌≡◌, ℕ, ◌+◌, List, length, refl, sym, ap, subst, ◌∙◌}
use native.Mathlib.Omega.{arith}
use Rattle.std.proofs.lemmas.List.{length-map}
use Rattle.lk_mono.proofs.Distinct.{distinct_with, each_with}
use Rattle.lk_mono.specs.Held.{IsSound}
use Rattle.lk_mono.specs.Instances.{IsWith, most_instances}
use Rattle.lk_mono.specs.Queues.{IsQueueOf, as_list, as_use}
use Rattle.lk_mono.specs.declared.body.Source.{Source}
use Rattle.lk_mono.specs.declared.queue.Queue.{Queue}
use Rattle.lk_mono.specs.declared.queue.Use.{Use as TheUse}
use Rattle.lk_sound.specs.Nodes.{Use}
use Rattle.lk_principal.specs.Law.{IsInstanceOf}
use Rattle.lk_types.specs.Each.{Each}

pub as_many : (listed : List TheUse) → length (as_list listed) ≡ length listed
as_many listed = length-map listed as_use

room_kept : (others n m room : ℕ) → n ≡ m → others + (n + room) ≡ most_instances → others + (m + room) ≡ most_instances
room_kept others n m room same is = omega arith

module _ (source : Source) (others : ℕ) where
  pub sound_queue : (queue : Queue) → IsSound source others queue → IsQueueOf others (as_list queue.listed) queue
  sound_queue queue sound = record {
    listed = refl;
    room = room_kept others (length queue.listed) (length (as_list queue.listed)) queue.room (sym (as_many queue.listed)) sound.room;
  }

  -- with instances behind it
  module _ (old new : Queue) (us longer : List Use) (sound : IsSound source others old) (more : IsWith others (as_list old.listed) us longer) (queue : IsQueueOf others longer new) where
    pub more_listed : IsWith others (as_list old.listed) us (as_list new.listed)
    more_listed = subst (IsWith others (as_list old.listed) us) (sym queue.listed) more

    pub more_sound : Each (λ u. IsInstanceOf source.program.now source.typed.now.schemes u.name u.type) us → IsSound source others new
    more_sound instances = record {
      room = room_kept others (length longer) (length new.listed) new.room (ap length (sym queue.listed) ∙ as_many new.listed) queue.room;
      instances = each_with (λ u. IsInstanceOf source.program.now source.typed.now.schemes u.name u.type) (as_list old.listed) us (as_list new.listed) more_listed instances sound.instances;
      distinct = distinct_with (as_list old.listed) us (as_list new.listed) more_listed sound.distinct;
    }
