-- What adding uses to a list of instances does, to the code's list and to the definition's.
use Rattle.std.proofs.Common.{◌≡◌, inl, inr, ℕ, zero, suc, ◌+◌, ◌-◌, ◌<◌, Bool, true, false, ◌==◌, cond, List, [], ◌∷◌, ◌++◌, length, Option, Some, None, slice_get, bytes_eq, refl, sym, ap, ap₂, subst, ◌∙◌}
use native.Mathlib.Omega.{arith}
use Rattle.std.proofs.lemmas.Bool.{false≢true, and_from}
use Rattle.std.proofs.lemmas.Bool.Decides.{nat_tests}
use Rattle.std.specs.Cmp.Lexicographic.{bytes_decides}
use Rattle.lk_ground_types.specs.Grounds.{AreDistinct, at}
use Rattle.lk_ground_types.proofs.LevelKeys.{at_there}
use Rattle.std.specs.List.{position}
use Rattle.std.specs.Option.{is_some, option_map}
use Rattle.lk_mono.proofs.Lookups.{position-cons, same_key}
use Rattle.lk_mono.specs.Instances.{IsFull, IsListed, IsWith, Wanted, most_instances}
use Rattle.lk_mono.specs.Instances as instances
use Rattle.lk_mono.specs.Looks.{IsNumbered, TheFound}
use Rattle.lk_mono.specs.Places.{is_use}
use Rattle.lk_mono.specs.Queues.{AreFoundOf, AreUsesNumbered, IsAdded, IsQueueOf, as_list, as_use}
use Rattle.lk_mono.specs.Queues as queues
use Rattle.lk_mono.specs.declared.queue.Queue.{Queue}
use Rattle.lk_mono.specs.declared.queue.Use.{Use as TheUse}
use Rattle.lk_sound.specs.Nodes.{Use}
use Rattle.lk_types.specs.Each.{Each, OneOf}
use Rattle.lk_types.specs.Rows.{Label}
use Rattle.lk_types.specs.declared.ground.Ground.{Ground}
use Rattle.lk_types.proofs.Parts.{same_some}
use Rattle.lk_typing.proofs.Levels.{map_joined}

-- ---- one use

-- the instance of which this is a name and a type
pub same_use : (u : Use) (name : Label) (ty : Ground) → name ≡ u.name → ty ≡ u.type → record { name = name; type = ty } ≡ u
same_use u name ty named typed = λ i. record { name = named i; type = typed i }

abbrev IsIn : List Use → Use → Type 0
IsIn list u = OneOf (λ other. other ≡ u) list

module _ (others : ℕ) (list : List Use) (queue : Queue) (q : IsQueueOf others list queue) (u : Use) where
  module _ (name : Label) (ty : Ground) (named : name ≡ u.name) (typed : ty ≡ u.type) where
    abbrev one : Use
    one = record { name = name; type = ty }

    pub there_is_listed : IsIn (as_list queue.listed) one → IsListed list u
    there_is_listed there = subst (λ xs. IsIn xs u) q.listed (subst (IsIn (as_list queue.listed)) (same_use u name ty named typed) there)

    pub lacking_not_listed : (IsIn (as_list queue.listed) one → ⊥) → IsListed list u → ⊥
    lacking_not_listed lacks listed = lacks (subst (IsIn (as_list queue.listed)) (sym (same_use u name ty named typed)) (subst (λ xs. IsIn xs u) (sym q.listed) listed))

  pub listed_added : IsListed list u → IsAdded others list (u ∷ []) queue true
  listed_added listed = queues.all (instances.IsWith.there listed instances.IsWith.nothing) q

  pub full_added : (IsListed list u → ⊥) → queue.room ≡ 0 → IsAdded others list (u ∷ []) queue false
  full_added lacks none = queues.full (instances.IsFull.now lacks (let room : others + (length list + queue.room) ≡ most_instances = q.room in omega arith))

  module _ (lacks : IsListed list u → ⊥) (room : queue.room ≡ 0 → ⊥) where
    there_is_room : others + length list < most_instances
    there_is_room = let all : others + (length list + queue.room) ≡ most_instances = q.room in omega arith

    one_less : (n : ℕ) → n ≡ length list + 1 → others + (n + (queue.room - 1)) ≡ most_instances
    one_less n is = let all : others + (length list + queue.room) ≡ most_instances = q.room in omega arith

    added_by : (listed : List TheUse) → as_list listed ≡ list ++ u ∷ [] → IsAdded others list (u ∷ []) (record { listed = listed; room = queue.room - 1 }) true
    added_by listed are = queues.all (instances.IsWith.lacking lacks there_is_room instances.IsWith.nothing) (record { listed = are; room = one_less (length (list ++ u ∷ [])) (longer list) })
      where
        longer : (xs : List Use) → length (xs ++ u ∷ []) ≡ length xs + 1
        longer [] = omega arith
        longer (x ∷ xs) = let more : length (xs ++ u ∷ []) ≡ length xs + 1 = longer xs in omega arith

    pub made_added : (x : TheUse) → x.ty ≡ u.type → x.name.now ≡ u.name → IsAdded others list (u ∷ []) (record { listed = queue.listed ++ x ∷ []; room = queue.room - 1 }) true
    made_added x typed named = added_by (queue.listed ++ x ∷ [])
        (map_joined as_use queue.listed (x ∷ []) ∙ ap₂ (λ xs v. xs ++ v ∷ []) q.listed (same_use u x.name.now x.ty named typed))

-- ---- by numbers

pub each_last : {A : Type 0} (P : A → Type 0) (xs : List A) (x : A) → Each P xs → P x → Each P (xs ++ x ∷ [])
each_last P [] x all one = (one, tt)
each_last P (y ∷ xs) x all one = (all.0, each_last P xs x all.1 one)

same_number : (ts : List Ground) → AreDistinct ts → (n m : ℕ) → n < length ts → m < length ts → at ts n ≡ at ts m → n ≡ m
same_number ts distinct n m less small same = distinct n m (at ts m) (at_there ts n less ∙ ap Some same) (at_there ts m small)

number_test : (n m : ℕ) → n ≡ m → (n == m) ≡ true
number_test n m same = grind (arith, nat_tests, same)

module _ (ts : List Ground) (distinct : AreDistinct ts) (name : Label) (number : ℕ) (ty : Ground) (is : IsNumbered ts number ty) where
  abbrev It : Use
  It = record { name = name; type = ty }

  -- an instance has that name and number just where it is the one of that name and type
  pub same_one : (x : TheUse) → IsNumbered ts x.number x.ty → is_use name number x ≡ true → as_use x ≡ It
  same_one x own passes =
      let (names, numbers) = same_key name number x passes in
      same_use It x.name.now x.ty (sym names) (sym own.is ∙ ap (at ts) (sym numbers) ∙ is.is)

  pub other_one : (x : TheUse) → IsNumbered ts x.number x.ty → is_use name number x ≡ false → as_use x ≡ It → ⊥
  other_one x own fails same =
      let names : x.name.now ≡ name = ap (λ (u : Use). u.name) same in
      let types : x.ty ≡ ty = ap (λ (u : Use). u.type) same in
      let numbers : x.number ≡ number = same_number ts distinct x.number number own.within is.within (own.is ∙ types ∙ sym is.is) in
      false≢true (sym fails ∙ and_from (bytes_eq x.name.now name) (x.number == number) ((bytes_decides x.name.now name).1 names) (number_test x.number number numbers))

  -- the place of the one that is listed is found
  pub listed_place : (xs : List TheUse) → AreUsesNumbered ts xs → IsIn (as_list xs) It → (n : ℕ) × (position (is_use name number) xs ≡ Some n) × (slice_get (as_list xs) n ≡ Some It)
  listed_place [] all one = absurd one
  listed_place (x ∷ xs) all one = by_test (is_use name number x) refl one (listed_place xs all.1)
    where
      one_more : (n : ℕ) → 1 + n ≡ suc n
      one_more n = omega arith

      by_test : (b : Bool) → is_use name number x ≡ b → IsIn (as_list (x ∷ xs)) It → (IsIn (as_list xs) It → (n : ℕ) × (position (is_use name number) xs ≡ Some n) × (slice_get (as_list xs) n ≡ Some It))
          → (n : ℕ) × (position (is_use name number) (x ∷ xs) ≡ Some n) × (slice_get (as_list (x ∷ xs)) n ≡ Some It)
      by_test true passes one behind = (
        0,
        position-cons (is_use name number) x xs ∙ ap (λ b. cond b (Some 0) (option_map (λ n. 1 + n) (position (is_use name number) xs))) passes,
        ap Some (same_one x all.0 passes),
      )
      by_test false fails (inl same) behind = absurd (other_one x all.0 fails same)
      by_test false fails (inr one) behind =
          let (n, found, has) = behind one in (
            suc n,
            position-cons (is_use name number) x xs ∙ ap (λ b. cond b (Some 0) (option_map (λ n. 1 + n) (position (is_use name number) xs))) fails ∙ ap (option_map (λ n. 1 + n)) found ∙ ap Some (one_more n),
            has,
          )

  -- where one is found, it is listed
  pub some_listed : (xs : List TheUse) → AreUsesNumbered ts xs → is_some (position (is_use name number) xs) ≡ true → IsIn (as_list xs) It
  some_listed [] all some = absurd (false≢true some)
  some_listed (x ∷ xs) all some = by_test (is_use name number x) refl (some_listed xs all.1)
    where
      behind_first : (o : Option ℕ) → is_some (option_map (λ n. 1 + n) o) ≡ true → is_some o ≡ true
      behind_first None some = some
      behind_first (Some n) some = refl

      by_test : (b : Bool) → is_use name number x ≡ b → (is_some (position (is_use name number) xs) ≡ true → IsIn (as_list xs) It) → IsIn (as_list (x ∷ xs)) It
      by_test true passes behind = inl (same_one x all.0 passes)
      by_test false fails behind =
          inr (behind (behind_first (position (is_use name number) xs)
          (sym (ap is_some (position-cons (is_use name number) x xs ∙ ap (λ b. cond b (Some 0) (option_map (λ n. 1 + n) (position (is_use name number) xs))) fails)) ∙ some)))

  -- where none is, it isn't
  pub none_listed : (xs : List TheUse) → AreUsesNumbered ts xs → is_some (position (is_use name number) xs) ≡ false → IsIn (as_list xs) It → ⊥
  none_listed xs all none one = let (n, found, has) = listed_place xs all one in false≢true (sym none ∙ ap is_some found)

pub listed_number : (ts : List Ground) (xs : List TheUse) (k : ℕ) (x : TheUse) → AreUsesNumbered ts xs → slice_get xs k ≡ Some x → IsNumbered ts x.number x.ty
listed_number ts [] k x all is = cc
listed_number ts (y ∷ xs) zero x all is = subst (λ (y : TheUse). IsNumbered ts y.number y.ty) (same_some is) all.0
listed_number ts (y ∷ xs) (suc k) x all is = listed_number ts xs k x all.1 is

-- ---- several uses

-- Those that are left are those of which this is a list, which the queue is of; what comes of adding them to it comes of adding
-- all to the first one.
pub record IsOn (others : ℕ) (wanted : Wanted) (list us : List Use) (left : List TheFound) (queue : Queue) : Type 0 where
  pub so_far : List Use
  pub rest : List Use
  pub found : AreFoundOf wanted left rest
  pub queued : IsQueueOf others so_far queue
  pub whole : (now : Queue) (ok : Bool) → IsAdded others so_far rest now ok → IsAdded others list us now ok

abbrev pub Goes : Wanted → List TheFound → Queue → List TheFound → Queue → Type 0
Goes wanted all start left now = (others : ℕ) (list us : List Use) → AreFoundOf wanted all us → IsQueueOf others list start → IsOn others wanted list us left now

pub starts : (wanted : Wanted) (all : List TheFound) (queue : Queue) → Goes wanted all queue all queue
starts wanted all queue others list us found q = record { so_far = list; rest = us; found = found; queued = q; whole = λ now ok added. added }

-- what adding one that is looked for does
abbrev pub AddsOne : TheFound → Queue → Queue → Bool → Type 0
AddsOne f before after ok = (others : ℕ) (list : List Use) (u : Use) → f.name ≡ u.name → f.type ≡ u.type → IsQueueOf others list before → IsAdded others list (u ∷ []) after ok

module _ {others : ℕ} where
  -- these before others, where they could be added
  pub added_behind : (list longer : List Use) (u : Use) (us : List Use) (q now : Queue) (ok : Bool) → IsWith others list (u ∷ []) longer → IsAdded others longer us now ok → IsAdded others list (u ∷ us) now ok
  added_behind list longer u us q now ok (instances.IsWith.there listed instances.IsWith.nothing) (queues.all more queued) = queues.all (instances.IsWith.there listed more) queued
  added_behind list longer u us q now ok (instances.IsWith.there listed instances.IsWith.nothing) (queues.full full) = queues.full (instances.IsFull.there listed full)
  added_behind list longer u us q now ok (instances.IsWith.lacking lacks room instances.IsWith.nothing) (queues.all more queued) = queues.all (instances.IsWith.lacking lacks room more) queued
  added_behind list longer u us q now ok (instances.IsWith.lacking lacks room instances.IsWith.nothing) (queues.full full) = queues.full (instances.IsFull.lacking lacks room full)

  -- with the first they would be too many
  pub full_behind : (list : List Use) (u : Use) (us : List Use) → IsFull others list (u ∷ []) → IsFull others list (u ∷ us)
  full_behind list u us (instances.IsFull.now lacks full) = instances.IsFull.now lacks full
  full_behind list u us (instances.IsFull.there listed full) = absurd (none_full full)
    where
      none_full : IsFull others list [] → ⊥
      none_full full = elim full [ ]
  full_behind list u us (instances.IsFull.lacking lacks room full) = absurd (none_full full)
    where
      none_full : IsFull others (list ++ u ∷ []) [] → ⊥
      none_full full = elim full [ ]

module _ (wanted : Wanted) (all : List TheFound) (start : Queue) (f : TheFound) (left : List TheFound) (now : Queue) (goes : Goes wanted all start (f ∷ left) now) where
  pub passes : wanted f.inside ≡ false → Goes wanted all start left now
  passes not others list us found q = by_found (goes others list us found q).so_far (goes others list us found q).rest (goes others list us found q).found (goes others list us found q).queued (goes others list us found q).whole
    where
      by_found : (so_far rest : List Use) → AreFoundOf wanted (f ∷ left) rest → IsQueueOf others so_far now
          → ((after : Queue) (ok : Bool) → IsAdded others so_far rest after ok → IsAdded others list us after ok) → IsOn others wanted list us left now
      by_found so_far rest (queues.passed not_this found) q whole = record { so_far = so_far; rest = rest; found = found; queued = q; whole = whole }
      by_found so_far (u ∷ rest) (queues.taken this named typed found) q whole = absurd (false≢true (sym not ∙ this))

  module _ (looked_for : wanted f.inside ≡ true) (after : Queue) where
    pub takes : AddsOne f now after true → Goes wanted all start left after
    takes adds others list us found q = by_found (goes others list us found q).so_far (goes others list us found q).rest (goes others list us found q).found (goes others list us found q).queued (goes others list us found q).whole
      where
        by_added : (so_far : List Use) (u : Use) (rest : List Use) → AreFoundOf wanted left rest → IsAdded others so_far (u ∷ []) after true
            → ((last : Queue) (ok : Bool) → IsAdded others so_far (u ∷ rest) last ok → IsAdded others list us last ok) → IsOn others wanted list us left after
        by_added so_far u rest found (queues.all {longer} more queued) whole = record {
          so_far = longer;
          rest = rest;
          found = found;
          queued = queued;
          whole = λ last ok added. whole last ok (added_behind so_far longer u rest after last ok more added);
        }

        by_found : (so_far rest : List Use) → AreFoundOf wanted (f ∷ left) rest → IsQueueOf others so_far now
            → ((last : Queue) (ok : Bool) → IsAdded others so_far rest last ok → IsAdded others list us last ok) → IsOn others wanted list us left after
        by_found so_far rest (queues.passed not_this found) q whole = absurd (false≢true (sym not_this ∙ looked_for))
        by_found so_far (u ∷ rest) (queues.taken this named typed found) q whole = by_added so_far u rest found (adds others so_far u named typed q) whole

    -- there was no room for it
    pub stops : AddsOne f now after false → (others : ℕ) (list us : List Use) → AreFoundOf wanted all us → IsQueueOf others list start → IsAdded others list us after false
    stops adds others list us found q = by_found (goes others list us found q).so_far (goes others list us found q).rest (goes others list us found q).found (goes others list us found q).queued (goes others list us found q).whole
      where
        by_added : (so_far : List Use) (u : Use) (rest : List Use) → IsAdded others so_far (u ∷ []) after false
            → ((last : Queue) (ok : Bool) → IsAdded others so_far (u ∷ rest) last ok → IsAdded others list us last ok) → IsAdded others list us after false
        by_added so_far u rest (queues.full full) whole = whole after false (queues.full (full_behind so_far u rest full))

        by_found : (so_far rest : List Use) → AreFoundOf wanted (f ∷ left) rest → IsQueueOf others so_far now
            → ((last : Queue) (ok : Bool) → IsAdded others so_far rest last ok → IsAdded others list us last ok) → IsAdded others list us after false
        by_found so_far rest (queues.passed not_this found) q whole = absurd (false≢true (sym not_this ∙ looked_for))
        by_found so_far (u ∷ rest) (queues.taken this named typed found) q whole = by_added so_far u rest (adds others so_far u named typed q) whole

pub ends : (wanted : Wanted) (all : List TheFound) (start now : Queue) → Goes wanted all start [] now → (others : ℕ) (list us : List Use) → AreFoundOf wanted all us → IsQueueOf others list start → IsAdded others list us now true
ends wanted all start now goes others list us found q = by_found (goes others list us found q).so_far (goes others list us found q).rest (goes others list us found q).found (goes others list us found q).queued (goes others list us found q).whole
  where
    by_found : (so_far rest : List Use) → AreFoundOf wanted [] rest → IsQueueOf others so_far now
        → ((after : Queue) (ok : Bool) → IsAdded others so_far rest after ok → IsAdded others list us after ok) → IsAdded others list us now true
    by_found so_far [] queues.none q whole = whole now true (queues.all instances.IsWith.nothing q)
    by_found so_far (u ∷ rest) found q whole = elim found [ ]
