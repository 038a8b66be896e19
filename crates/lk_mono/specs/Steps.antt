-- What comes of walking instances, as the code does it.
use Rattle.std.specs.Prelude.{◌≡◌, ℕ, Bool, true, false, List, ◌++◌, Some, slice_get}
use Rattle.lk_ast.specs.declared.place.Span.{Span}
use Rattle.lk_mono.specs.Held.{AreHeld, IsHeld, IsSound}
use Rattle.lk_mono.specs.Instances.{Body, EndsFull, EndsLarge, IsBody, IsDone, IsFull, IsWith, Wanted, before_large, first_large, own_turn, turn_of, uses_among, uses_of, within_blocks}
use Rattle.lk_mono.specs.Queues.{as_list}
use Rattle.lk_mono.specs.declared.body.Body.{Body as TheBody}
use Rattle.lk_mono.specs.declared.body.Source.{Source}
use Rattle.lk_mono.specs.declared.queue.Queue.{Queue}
use Rattle.lk_sound.specs.Nodes.{Use, TypedNode}
use Rattle.lk_types.specs.Each.{Each, OneOf}

module _ (source : Source) (wanted : Wanted) (others : ℕ) (old : Queue) where
  -- the instance of that number has been walked
  pub record IsStep (number : ℕ) (held : TheBody) (new : Queue) : Type 0 where
    pub body : Body
    pub turned : slice_get (as_list old.listed) number ≡ Some body.use_of
    pub is_held : IsHeld source held body
    pub more : IsWith others (as_list old.listed) (uses_among wanted body.nodes) (as_list new.listed)
    pub sound : IsSound source others new

  -- it uses more than there is room for
  pub record IsFullAt (number : ℕ) : Type 0 where
    pub use_of : Use
    pub nodes : List TypedNode
    pub turned : slice_get (as_list old.listed) number ≡ Some use_of
    pub body : IsBody source.program.now source.typed.now.schemes source.typed.now.types use_of nodes
    pub full : IsFull others (as_list old.listed) (uses_among wanted (before_large nodes))

  -- a node of it has too large a type
  pub record IsLargeAt (number : ℕ) (at : Span) : Type 0 where
    pub use_of : Use
    pub nodes : List TypedNode
    pub longer : List Use
    pub turned : slice_get (as_list old.listed) number ≡ Some use_of
    pub body : IsBody source.program.now source.typed.now.schemes source.typed.now.types use_of nodes
    pub more : IsWith others (as_list old.listed) (uses_among wanted (before_large nodes)) longer
    pub large : first_large nodes ≡ Some at

  -- all instances of the list have been walked
  pub record AllWalked (helds : List TheBody) (new : Queue) : Type 0 where
    pub bodies : List Body
    pub are_held : AreHeld source helds bodies
    pub uses : uses_of bodies ≡ as_list new.listed
    -- what they use is listed
    pub listed : Each (λ (body : Body). Each (λ u. OneOf (λ other. other ≡ u) (as_list new.listed)) (uses_among wanted body.nodes)) bodies
    -- the list has only grown at its end
    pub grown : (rest : List Use) × (as_list new.listed ≡ as_list old.listed ++ rest)
    pub done : IsDone source.program.now source.typed.now.schemes source.typed.now.types own_turn wanted others (as_list old.listed) (as_list new.listed)
    pub sound : IsSound source others new

  abbrev pub StopsFull : Type 0
  StopsFull = EndsFull source.program.now source.typed.now.schemes source.typed.now.types own_turn wanted others (as_list old.listed)

  abbrev pub StopsLarge : Span → Type 0
  StopsLarge at = EndsLarge source.program.now source.typed.now.schemes source.typed.now.types own_turn wanted others (as_list old.listed) at

-- what these instances use inside of queries, updates and deletions has been listed, or there was no room for it
pub data Gathered (source : Source) (others : ℕ) (bodies : List Body) (old new : Queue) : Bool → Type 0 where
  all : IsDone source.program.now source.typed.now.schemes source.typed.now.types (turn_of (uses_of bodies)) within_blocks others (as_list old.listed) (as_list new.listed) → IsSound source others new
      → Each (λ (body : Body). Each (λ u. OneOf (λ other. other ≡ u) (as_list new.listed)) (uses_among within_blocks body.nodes)) bodies → Gathered source others bodies old new true
  full : EndsFull source.program.now source.typed.now.schemes source.typed.now.types (turn_of (uses_of bodies)) within_blocks others (as_list old.listed) → Gathered source others bodies old new false
