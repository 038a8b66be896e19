-- Walking the instances of a list in turn.
use Rattle.std.proofs.Common.{◌≡◌, ℕ, zero, suc, ◌+◌, ◌-◌, ◌<◌, ◌≤◌, List, [], ◌∷◌, ◌++◌, length, take, Err, Result, Some, slice_get, refl, sym, ap, ap₂, subst, ◌∙◌, append_assoc, append-nil}
use native.Mathlib.Omega.{arith}
use Rattle.std.proofs.lemmas.List.{length-append, length-map}
use Rattle.std.proofs.lemmas.Option.{none-some, slice_get_past}
use Rattle.lk_ast.specs.declared.place.Span.{Span}
use Rattle.lk_mono.proofs.Growing.{AreIn, IsIn, all_in, appended, still_are}
use Rattle.lk_mono.specs.Held.{AreHeld, IsHeld, IsSound}
use Rattle.lk_mono.specs.Held as held
use Rattle.lk_mono.specs.Instances.{Body, IsWalked, Wanted, most_instances, own_turn, uses_among, uses_of}
use Rattle.lk_mono.specs.Instances as instances
use Rattle.lk_mono.specs.Queues.{as_list, as_use}
use Rattle.lk_mono.specs.Steps.{AllWalked, IsFullAt, IsLargeAt, IsStep, StopsFull, StopsLarge}
use Rattle.lk_mono.specs.declared.body.Body.{Body as TheBody}
use Rattle.lk_mono.specs.declared.body.Source.{Source}
use Rattle.lk_mono.specs.declared.queue.Queue.{Queue}
use Rattle.lk_sound.specs.Nodes.{Use}
use Rattle.lk_types.proofs.Members.{each_both}
use Rattle.lk_types.proofs.Parts.{same_some}
use Rattle.lk_types.specs.Each.{Each}
use Rattle.lk_typing.proofs.Levels.{map_joined}

-- what is handed on by `?` is what came
pub handed_on : {A B E : Type 0} (r : Result A E) (e why : E) → (y : E) × (r ≡ Err y) × (y ≡ e) → r ≡ Err why → ◌≡◌ {A = Result B E} (Err e) (Err why)
handed_on r e why error is =
    let same : Err error.0 ≡ Err why = sym error.1 ∙ is in
    let its : error.0 ≡ why = cc in
    ap Err (sym error.2 ∙ its)

-- ---- lists

one_more : {A : Type 0} (xs : List A) (x : A) → 1 + length xs ≡ length (xs ++ x ∷ [])
one_more xs x = let both : length (xs ++ x ∷ []) ≡ length xs + 1 = length-append xs (x ∷ []) in omega arith

last_further : {A : Type 0} (xs : List A) (x : A) → suc (length xs) ≡ length (xs ++ x ∷ [])
last_further xs x = let both : length (xs ++ x ∷ []) ≡ length xs + 1 = length-append xs (x ∷ []) in omega arith

take_next : {A : Type 0} (xs rest : List A) (n : ℕ) (x : A) → slice_get xs n ≡ Some x → take n xs ++ x ∷ [] ≡ take (suc n) (xs ++ rest)
take_next [] rest n x is = absurd (none-some x is)
take_next (y ∷ xs) rest zero x is = ap (λ z. z ∷ []) (sym (same_some is))
take_next (y ∷ xs) rest (suc n) x is = ap (λ ys. y ∷ ys) (take_next xs rest n x is)

take_all : {A : Type 0} (xs : List A) (n : ℕ) → length xs ≤ n → take n xs ≡ xs
take_all [] zero few = refl
take_all [] (suc n) few = refl
take_all (x ∷ xs) zero few = absurd (omega arith)
take_all (x ∷ xs) (suc n) few = ap (λ ys. x ∷ ys) (take_all xs n (omega arith))

pub held_last : (source : Source) (helds : List TheBody) (bodies : List Body) (one : TheBody) (body : Body) → AreHeld source helds bodies → IsHeld source one body → AreHeld source (helds ++ one ∷ []) (bodies ++ body ∷ [])
held_last source _ _ one body held.AreHeld.none is = held.AreHeld.more is held.AreHeld.none
held_last source _ _ one body (held.AreHeld.more {helds = helds} {bodies = bodies} this are) is = held.AreHeld.more this (held_last source helds bodies one body are is)

-- ---- on the way

module _ (source : Source) (wanted : Wanted) (others : ℕ) (start : Queue) where
  -- these have been walked, and the list has become this one
  pub record IsOnWay (helds : List TheBody) (now : Queue) : Type 0 where
    pub bodies : List Body
    pub are_held : AreHeld source helds bodies
    pub uses : uses_of bodies ≡ take (length helds) (as_list now.listed)
    pub listed : AreIn (as_list now.listed) wanted bodies
    pub grown : (rest : List Use) × (as_list now.listed ≡ as_list start.listed ++ rest)
    pub walked : IsWalked source.program.now source.typed.now.schemes source.typed.now.types own_turn wanted others (as_list start.listed) (length helds) (as_list now.listed)
    pub sound : IsSound source others now

  pub starts : (helds : List TheBody) → helds ≡ [] → IsSound source others start → IsOnWay helds start
  starts helds none sound = subst (λ helds. IsOnWay helds start) (sym none) (record { bodies = []; are_held = held.AreHeld.none; uses = refl; listed = tt; grown = ([], sym (append-nil (as_list start.listed))); walked = instances.IsWalked.start; sound = sound })

  module _ (helds : List TheBody) (now : Queue) (way : IsOnWay helds now) where
    with_one : (one : TheBody) (new : Queue) → IsStep source wanted others now (length helds) one new → IsOnWay (helds ++ one ∷ []) new
    with_one one new step =
        let more : (more : List Use) × (as_list new.listed ≡ as_list now.listed ++ more) = appended (as_list now.listed) (uses_among wanted step.body.nodes) (as_list new.listed) step.more in
        record {
          bodies = way.bodies ++ step.body ∷ [];
          are_held = held_last source helds way.bodies one step.body way.are_held step.is_held;
          uses =
              map_joined (λ (body : Body). body.use_of) way.bodies (step.body ∷ []) ∙ ap (λ us. us ++ step.body.use_of ∷ []) way.uses
              ∙ take_next (as_list now.listed) more.0 (length helds) step.body.use_of step.turned
              ∙ ap₂ take (last_further helds one) (sym more.1);
          listed =
              each_both (λ (body : Body). Each (IsIn (as_list new.listed)) (uses_among wanted body.nodes)) way.bodies (step.body ∷ [])
              (still_are (as_list now.listed) (uses_among wanted step.body.nodes) (as_list new.listed) step.more wanted way.bodies way.listed)
              (all_in (as_list now.listed) (uses_among wanted step.body.nodes) (as_list new.listed) step.more, tt);
          grown = (way.grown.0 ++ more.0, more.1 ∙ ap (λ list. list ++ more.0) way.grown.1 ∙ append_assoc (as_list start.listed) way.grown.0 more.0);
          walked = subst (λ n. IsWalked source.program.now source.typed.now.schemes source.typed.now.types own_turn wanted others (as_list start.listed) n (as_list new.listed)) (one_more helds one)
              (instances.IsWalked.next way.walked step.turned step.is_held.instance step.is_held.fits step.more);
          sound = step.sound;
        }

    full_there : IsFullAt source wanted others now (length helds) → StopsFull source wanted others start
    full_there at = record {
      number = length helds;
      list = as_list now.listed;
      walked = way.walked;
      use_of = at.use_of;
      nodes = at.nodes;
      turned = at.turned;
      body = at.body;
      full = at.full;
    }

    large_there : (span : Span) → IsLargeAt source wanted others now (length helds) span → StopsLarge source wanted others start span
    large_there span at = record {
      number = length helds;
      list = as_list now.listed;
      longer = at.longer;
      walked = way.walked;
      use_of = at.use_of;
      nodes = at.nodes;
      turned = at.turned;
      body = at.body;
      more = at.more;
      large = at.large;
    }

    -- what comes of the next one
    module _ (number : ℕ) (is : number ≡ length helds) where
      pub goes_on : (one : TheBody) (new : Queue) (longer : List TheBody) → longer ≡ helds ++ one ∷ [] → (IsSound source others now → IsStep source wanted others now number one new) → IsOnWay longer new
      goes_on one new longer pushed step =
          subst (λ helds. IsOnWay helds new) (sym pushed) (with_one one new (subst (λ n. IsStep source wanted others now n one new) is (step way.sound)))

      pub stops_full : (IsSound source others now → IsFullAt source wanted others now number) → StopsFull source wanted others start
      stops_full at = full_there (subst (λ n. IsFullAt source wanted others now n) is (at way.sound))

      pub stops_large : (span : Span) → (IsSound source others now → IsLargeAt source wanted others now number span) → StopsLarge source wanted others start span
      stops_large span at = large_there span (subst (λ n. IsLargeAt source wanted others now n span) is (at way.sound))

    -- no more can have been walked than there is room for
    pub is_smaller : (one : TheBody) (longer : List TheBody) → longer ≡ helds ++ one ∷ [] → length helds < length now.listed → most_instances - length longer < most_instances - length helds
    is_smaller one longer pushed left =
        let room : others + (length now.listed + now.room) ≡ most_instances = way.sound.room in
        let further : length longer ≡ length helds + 1 = ap length pushed ∙ length-append helds (one ∷ []) in
        omega arith

    pub ends : length now.listed ≤ length helds → AllWalked source wanted others start helds now
    ends few =
        let none : length (as_list now.listed) ≤ length helds = subst (λ n. n ≤ length helds) (sym (length-map now.listed as_use)) few in
        record {
          bodies = way.bodies;
          are_held = way.are_held;
          uses = way.uses ∙ take_all (as_list now.listed) (length helds) none;
          listed = way.listed;
          grown = way.grown;
          done = record { number = length helds; walked = way.walked; none = slice_get_past (as_list now.listed) (length helds) none };
          sound = way.sound;
        }
