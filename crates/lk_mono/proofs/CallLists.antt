-- What the uses among nodes call, found one after another.
use Rattle.std.proofs.Common.{◌≡◌, ℕ, Bool, ◌||◌, List, [], ◌∷◌, ◌++◌, Some, if◌then◌else◌, append_assoc, slice_get, sym, subst}
use Rattle.std.proofs.lemmas.List.{append-nil}
use Rattle.lk_mono.specs.Grounded.{AreAllCalled, AreCalled}
use Rattle.lk_mono.specs.Held.{AreHeld, AreSited}
use Rattle.lk_mono.specs.Instances.{Body}
use Rattle.lk_mono.specs.Listed.{AreListedIn, IsListedAt}
use Rattle.lk_mono.specs.Looks.{TheFound, as_uses}
use Rattle.lk_mono.specs.declared.body.Body.{Body as TheBody}
use Rattle.lk_mono.specs.declared.body.Source.{Source}
use Rattle.lk_sound.specs.Nodes.{Use, TypedNode}
use Rattle.lk_types.specs.Each.{Each, OneOf}

module _ (mains helpers : List Use) (in_helper : Bool) where
  -- the list in which it stands
  abbrev pub list_for : Bool → List Use
  list_for inside = if in_helper || inside then helpers else mains

  -- With these places for what has been found, the others are for what is left, and so for all.
  pub record Ahead (nodes : List TypedNode) (places : List ℕ) (found : List TheFound) : Type 0 where
    pub left : List TypedNode
    pub sited : AreSited left found
    pub listed : Each (IsListedAt mains helpers in_helper) left
    pub whole : (rest : List ℕ) → AreCalled mains helpers in_helper left rest → AreCalled mains helpers in_helper nodes (places ++ rest)

  pub begins : (nodes : List TypedNode) (found : List TheFound) → AreSited nodes found → Each (IsListedAt mains helpers in_helper) nodes → Ahead nodes [] found
  begins nodes found sited listed = record { left = nodes; sited = sited; listed = listed; whole = λ rest called. called }

  -- the place is that of what is found, where that is listed
  abbrev pub IsPlaceOf : ℕ → TheFound → Type 0
  IsPlaceOf n f = (u : Use) → f.name ≡ u.name → f.type ≡ u.type → OneOf (λ other. other ≡ u) (list_for f.inside) → slice_get (list_for f.inside) n ≡ Some u

  next : (f : TheFound) (found : List TheFound) (n : ℕ) → IsPlaceOf n f → (left : List TypedNode) → AreSited left (f ∷ found) → Each (IsListedAt mains helpers in_helper) left → Ahead left (n ∷ []) found
  next f found n place [] sited _ = elim sited [ ]
  next f found n place (node ∷ left) (AreSited.other none sited) (first, listed) =
      let behind : Ahead left (n ∷ []) found = next f found n place left sited listed in
      record { left = behind.left; sited = behind.sited; listed = behind.listed; whole = λ rest called. AreCalled.other none (behind.whole rest called) }
  next f found n place (node ∷ left) (AreSited.use_at {u = u} uses inside name type sited) (first, listed) =
      let here : slice_get (list_for f.inside) n ≡ Some u = place u name type (subst (λ i. OneOf (λ other. other ≡ u) (list_for i)) (sym inside) (first u uses)) in
      record { left = left; sited = sited; listed = listed; whole = λ rest called. AreCalled.called uses (subst (λ i. slice_get (list_for i) n ≡ Some u) inside here) called }

  pub goes : (nodes : List TypedNode) (places : List ℕ) (f : TheFound) (found : List TheFound) (n : ℕ) → IsPlaceOf n f → Ahead nodes places (f ∷ found) → Ahead nodes (places ++ n ∷ []) found
  goes nodes places f found n place so_far =
      let one : Ahead so_far.left (n ∷ []) found = next f found n place so_far.left so_far.sited so_far.listed in
      record {
        left = one.left;
        sited = one.sited;
        listed = one.listed;
        whole = λ rest called. subst (AreCalled mains helpers in_helper nodes) (sym (append_assoc places (n ∷ []) rest)) (so_far.whole (n ∷ rest) (one.whole rest called));
      }

  none_called : (left : List TypedNode) → AreSited left [] → AreCalled mains helpers in_helper left []
  none_called [] AreSited.none = AreCalled.none
  none_called (node ∷ left) (AreSited.other none sited) = AreCalled.other none (none_called left sited)

  pub ends : (nodes : List TypedNode) (places : List ℕ) → Ahead nodes places [] → AreCalled mains helpers in_helper nodes places
  ends nodes places so_far = subst (AreCalled mains helpers in_helper nodes) (append-nil places) (so_far.whole [] (none_called so_far.left so_far.sited))

  -- The same of instances one after another.
  pub record AllAhead (source : Source) (bodies : List Body) (all : List (List ℕ)) (held : List TheBody) : Type 0 where
    pub left : List Body
    pub held_left : AreHeld source held left
    pub listed : Each (AreListedIn mains helpers in_helper) left
    pub whole : (rest : List (List ℕ)) → AreAllCalled mains helpers in_helper left rest → AreAllCalled mains helpers in_helper bodies (all ++ rest)

  pub all_begin : (source : Source) (bodies : List Body) (held : List TheBody) → AreHeld source held bodies → Each (AreListedIn mains helpers in_helper) bodies → AllAhead source bodies [] held
  all_begin source bodies held are listed = record { left = bodies; held_left = are; listed = listed; whole = λ rest called. called }

  pub all_go : (source : Source) (bodies : List Body) (all : List (List ℕ)) (one : TheBody) (held : List TheBody) (places : List ℕ)
      → ((nodes : List TypedNode) → AreSited nodes (as_uses one.uses) → Each (IsListedAt mains helpers in_helper) nodes → AreCalled mains helpers in_helper nodes places)
      → AllAhead source bodies all (one ∷ held) → AllAhead source bodies (all ++ places ∷ []) held
  all_go source bodies all one held places called so_far = step so_far.left so_far.held_left so_far.listed so_far.whole where
    step : (left : List Body) → AreHeld source (one ∷ held) left → Each (AreListedIn mains helpers in_helper) left
        → ((rest : List (List ℕ)) → AreAllCalled mains helpers in_helper left rest → AreAllCalled mains helpers in_helper bodies (all ++ rest))
        → AllAhead source bodies (all ++ places ∷ []) held
    step [] are _ whole = elim are [ ]
    step (body ∷ left) (AreHeld.more is are) (first, listed) whole = record {
      left = left;
      held_left = are;
      listed = listed;
      whole = λ rest others. subst (AreAllCalled mains helpers in_helper bodies) (sym (append_assoc all (places ∷ []) rest)) (whole (places ∷ rest) (AreAllCalled.more (called body.nodes is.uses first) others));
    }

  pub all_end : (source : Source) (bodies : List Body) (all : List (List ℕ)) → AllAhead source bodies all [] → AreAllCalled mains helpers in_helper bodies all
  all_end source bodies all so_far = subst (AreAllCalled mains helpers in_helper bodies) (append-nil all) (so_far.whole [] (none_left so_far.left so_far.held_left)) where
    none_left : (left : List Body) → AreHeld source [] left → AreAllCalled mains helpers in_helper left []
    none_left [] are = AreAllCalled.none
    none_left (_ ∷ _) are = elim are [ ]
