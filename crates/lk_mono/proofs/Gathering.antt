-- Listing what instances use inside of queries, updates and deletions.
use Rattle.std.proofs.Common.{◌≡◌, ℕ, zero, suc, ◌+◌, ◌<◌, ◌≤◌, Bool, true, false, List, [], ◌∷◌, get_or, length, take, Some, slice_get, refl, sym, ap, subst, ◌∙◌}
use native.Mathlib.Omega.{arith}
use Rattle.std.proofs.lemmas.List.{length-map}
use Rattle.std.proofs.lemmas.Option.{none-some, slice_get-map, slice_get_past}
use Rattle.std.specs.Option.{option_map}
use Rattle.lk_mono.proofs.Growing.{AreIn, IsGrown, IsIn, all_in, filled, grown, still_are}
use Rattle.lk_mono.proofs.Queued.{sound_queue}
use Rattle.lk_mono.proofs.Sited.{sited_found}
use Rattle.lk_mono.proofs.Siting.{all_before}
use Rattle.lk_mono.proofs.Stepping.{Adds, added_slice}
use Rattle.lk_mono.specs.Held.{AreHeld, IsHeld, IsSound, IsSource}
use Rattle.lk_mono.specs.Held as held
use Rattle.lk_mono.specs.Instances.{Body, EndsFull, IsDone, IsFull, IsWalked, turn_of, uses_among, uses_of, within_blocks}
use Rattle.lk_mono.specs.Instances as instances
use Rattle.lk_mono.specs.Looks.{as_uses}
use Rattle.lk_mono.specs.Queues.{IsAdded, as_list}
use Rattle.lk_mono.specs.Steps.{Gathered}
use Rattle.lk_mono.specs.Steps as steps
use Rattle.lk_mono.specs.declared.body.Body.{Body as TheBody}
use Rattle.lk_mono.specs.declared.body.Source.{Source}
use Rattle.lk_mono.specs.declared.look.Found.{Found}
use Rattle.lk_mono.specs.declared.queue.Queue.{Queue}
use Rattle.lk_principal.specs.Law.{UseLaw}
use Rattle.lk_types.proofs.Parts.{same_some}
use Rattle.lk_types.specs.Each.{Each}

-- ---- lists

item_at : {A : Type 0} (xs : List A) (i : ℕ) (x : A) → i < length xs → x ≡ get_or xs i x → slice_get xs i ≡ Some x
item_at [] i x within is = absurd (omega arith)
item_at (y ∷ xs) zero x within is = ap (λ z. Some z) (sym is)
item_at (y ∷ xs) (suc i) x within is = item_at xs i x (omega arith) is

-- what holds of the first ones, and of the next one
each_next : {A : Type 0} (P : A → Type 0) (xs : List A) (n : ℕ) (x : A) → slice_get xs n ≡ Some x → Each P (take n xs) → P x → Each P (take (suc n) xs)
each_next P [] n x is all this = tt
each_next P (y ∷ xs) zero x is all this = (subst P (sym (same_some is)) this, tt)
each_next P (y ∷ xs) (suc n) x is all this = (all.0, each_next P xs n x is all.1 this)

each_whole : {A : Type 0} (P : A → Type 0) (xs : List A) (n : ℕ) → length xs ≤ n → Each P (take n xs) → Each P xs
each_whole P [] n few all = tt
each_whole P (x ∷ xs) zero few all = absurd (omega arith)
each_whole P (x ∷ xs) (suc n) few all = (all.0, each_whole P xs n (omega arith) all.1)

as_many : (source : Source) (helds : List TheBody) (bodies : List Body) → AreHeld source helds bodies → length bodies ≡ length helds
as_many source _ _ held.AreHeld.none = refl
as_many source _ _ (held.AreHeld.more {helds = helds} {bodies = bodies} is are) = ap (λ n. suc n) (as_many source helds bodies are)

-- the instance beside one that the code has
record IsBeside (source : Source) (one : TheBody) (bodies : List Body) (i : ℕ) : Type 0 where
  body : Body
  there : slice_get bodies i ≡ Some body
  is_held : IsHeld source one body

beside : (source : Source) (helds : List TheBody) (bodies : List Body) → AreHeld source helds bodies → (i : ℕ) (one : TheBody) → slice_get helds i ≡ Some one → IsBeside source one bodies i
beside source _ _ held.AreHeld.none i one is = absurd (none-some one is)
beside source _ _ (held.AreHeld.more {body = body} this are) zero one is = record { body = body; there = refl; is_held = subst (λ first. IsHeld source first body) (same_some is) this }
beside source _ _ (held.AreHeld.more {helds = helds} {bodies = bodies} this are) (suc i) one is =
    let later : IsBeside source one bodies i = beside source helds bodies are i one is in
    record { body = later.body; there = later.there; is_held = later.is_held }

-- ---- on the way

-- what that many of the instances use is listed
pub record IsGathering (source : Source) (others : ℕ) (bodies : List Body) (start : Queue) (number : ℕ) (now : Queue) : Type 0 where
  pub walked : IsWalked source.program.now source.typed.now.schemes source.typed.now.types (turn_of (uses_of bodies)) within_blocks others (as_list start.listed) number (as_list now.listed)
  pub sound : IsSound source others now
  pub listed : AreIn (as_list now.listed) within_blocks (take number bodies)

-- the same for all that may be known of these
abbrev pub Gathers : List TheBody → Queue → ℕ → Queue → Type 0
Gathers helds start number now = (source : Source) (others : ℕ) (bodies : List Body) → IsSource source → IsSound source others start → AreHeld source helds bodies → IsGathering source others bodies start number now

pub starts : (helds : List TheBody) (start : Queue) → Gathers helds start 0 start
starts helds start source others bodies is sound are = record { walked = instances.IsWalked.start; sound = sound; listed = tt }

module _ (helds : List TheBody) (start : Queue) (number : ℕ) (now : Queue) (gathers : Gathers helds start number now) where
  module _ (law : UseLaw) (one : TheBody) (within : number < length helds) (item : one ≡ get_or helds number one) (slice : List Found) (same : slice ≡ one.uses) (new : Queue)
      (ok : Bool) (adds : Adds within_blocks (as_uses slice) now new ok) where
    module _ (source : Source) (others : ℕ) (bodies : List Body) (is : IsSource source) (sound : IsSound source others start) (are : AreHeld source helds bodies) where
      abbrev so_far : IsGathering source others bodies start number now
      so_far = gathers source others bodies is sound are

      abbrev its : IsBeside source one bodies number
      its = beside source helds bodies are number one (item_at helds number one within item)

      turned : slice_get (uses_of bodies) number ≡ Some its.body.use_of
      turned = slice_get-map (λ (body : Body). body.use_of) bodies number ∙ ap (option_map (λ (body : Body). body.use_of)) its.there

      added : (b : Bool) → ok ≡ b → IsAdded others (as_list now.listed) (uses_among within_blocks its.body.nodes) new b
      added b known =
          added_slice within_blocks slice one.uses now new ok b same known adds others (as_list now.listed) (uses_among within_blocks its.body.nodes)
          (sited_found within_blocks its.body.nodes (as_uses one.uses) its.is_held.uses) (sound_queue source others now so_far.sound)

      further : ok ≡ true → IsGathering source others bodies start (1 + number) new
      further all =
          let more : IsGrown law source is its.body.use_of its.body.nodes its.is_held.instance within_blocks others now new =
          grown law source is its.body.use_of its.body.nodes its.is_held.instance within_blocks others now new so_far.sound (added true all) in
          let first : AreIn (as_list new.listed) within_blocks (take number bodies) =
          still_are (as_list now.listed) (uses_among within_blocks its.body.nodes) (as_list new.listed) more.more within_blocks (take number bodies) so_far.listed in
          let next : suc number ≡ 1 + number = omega arith in
          record {
            walked = instances.IsWalked.next so_far.walked turned its.is_held.instance its.is_held.fits more.more;
            sound = more.sound;
            listed = subst (λ n. AreIn (as_list new.listed) within_blocks (take n bodies)) next
                (each_next (λ (body : Body). Each (IsIn (as_list new.listed)) (uses_among within_blocks body.nodes)) bodies number its.body its.there first
                (all_in (as_list now.listed) (uses_among within_blocks its.body.nodes) (as_list new.listed) more.more));
          }

      too_many : ok ≡ false → Gathered source others bodies start new false
      too_many full = steps.Gathered.full (record {
        number = number;
        list = as_list now.listed;
        walked = so_far.walked;
        use_of = its.body.use_of;
        nodes = its.body.nodes;
        turned = turned;
        body = its.is_held.instance;
        full = subst (λ nodes. IsFull others (as_list now.listed) (uses_among within_blocks nodes)) (sym (all_before its.body.nodes its.is_held.fits))
            (filled (as_list now.listed) (uses_among within_blocks its.body.nodes) new (added false full));
      })

    pub goes_on : ok ≡ true → Gathers helds start (number + 1) new
    goes_on all source others bodies is sound are =
        let next : 1 + number ≡ number + 1 = omega arith in
        subst (λ n. IsGathering source others bodies start n new) next (further source others bodies is sound are all)

    pub stops : ok ≡ false → (source : Source) (others : ℕ) (bodies : List Body) → IsSource source → IsSound source others start → AreHeld source helds bodies → Gathered source others bodies start new false
    stops full source others bodies is sound are = too_many source others bodies is sound are full

  pub ends : length helds ≤ number → (source : Source) (others : ℕ) (bodies : List Body) → IsSource source → IsSound source others start → AreHeld source helds bodies → Gathered source others bodies start now true
  ends all source others bodies is sound are =
      let so_far : IsGathering source others bodies start number now = gathers source others bodies is sound are in
      let many : length (uses_of bodies) ≡ length helds = length-map bodies (λ (body : Body). body.use_of) ∙ as_many source helds bodies are in
      let few : length bodies ≤ number = let same : length bodies ≡ length helds = as_many source helds bodies are in omega arith in
      steps.Gathered.all (record { number = number; walked = so_far.walked; none = slice_get_past (uses_of bodies) number (omega arith) }) so_far.sound
      (each_whole (λ (body : Body). Each (IsIn (as_list now.listed)) (uses_among within_blocks body.nodes)) bodies number few so_far.listed)
