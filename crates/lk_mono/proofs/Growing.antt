-- Lists of instances that grow by what an instance uses.
use Rattle.std.proofs.Common.{◌≡◌, inl, inr, ℕ, true, false, List, [], ◌∷◌, ◌++◌, Some, refl, sym, subst, ◌∙◌, append_assoc, append-nil}
use Rattle.lk_mono.proofs.Among.{each_among}
use Rattle.lk_mono.proofs.MayUse.{may_use}
use Rattle.lk_mono.proofs.Queued.{more_listed, more_sound}
use Rattle.lk_mono.specs.Held.{IsSound, IsSource}
use Rattle.lk_mono.specs.Instances.{Body, IsBody, IsFull, IsWith, Wanted, uses_among}
use Rattle.lk_mono.specs.Instances as instances
use Rattle.lk_mono.specs.Queues.{IsAdded, IsQueueOf, as_list}
use Rattle.lk_mono.specs.Queues as queues
use Rattle.lk_mono.specs.declared.body.Source.{Source}
use Rattle.lk_mono.specs.declared.queue.Queue.{Queue}
use Rattle.lk_sound.specs.Nodes.{TypedNode, Use}
use Rattle.lk_principal.specs.Law.{IsInstanceOf, UseLaw}
use Rattle.lk_types.specs.Each.{Each, OneOf}
use Rattle.lk_typing.specs.Names.{MayBe}

-- a list only grows at its end
pub appended : {others : ℕ} (list us longer : List Use) → IsWith others list us longer → (more : List Use) × (longer ≡ list ++ more)
appended list [] longer instances.IsWith.nothing = ([], sym (append-nil list))
appended list (u ∷ us) longer (instances.IsWith.there listed more) = appended list us longer more
appended list (u ∷ us) longer (instances.IsWith.lacking lacks room more) =
    let rest : (rest : List Use) × (longer ≡ (list ++ u ∷ []) ++ rest) = appended (list ++ u ∷ []) us longer more in
    (u ∷ rest.0, rest.1 ∙ append_assoc list (u ∷ []) rest.0)

-- ---- what is listed

abbrev pub IsIn : List Use → Use → Type 0
IsIn list u = OneOf (λ other. other ≡ u) list

-- what these use is listed
abbrev pub AreIn : List Use → Wanted → List Body → Type 0
AreIn list wanted bodies = Each (λ (body : Body). Each (IsIn list) (uses_among wanted body.nodes)) bodies

pub in_front : (list rest : List Use) (u : Use) → IsIn list u → IsIn (list ++ rest) u
in_front [] rest u none = absurd none
in_front (v ∷ list) rest u (inl here) = inl here
in_front (v ∷ list) rest u (inr later) = inr (in_front list rest u later)

at_end : (list : List Use) (u : Use) → IsIn (list ++ u ∷ []) u
at_end [] u = inl refl
at_end (v ∷ list) u = inr (at_end list u)

-- it stays listed
still_in : {others : ℕ} (list us longer : List Use) → IsWith others list us longer → (u : Use) → IsIn list u → IsIn longer u
still_in list us longer more u there =
    let rest : (rest : List Use) × (longer ≡ list ++ rest) = appended list us longer more in
    subst (λ list. IsIn list u) (sym rest.1) (in_front list rest.0 u there)

-- each of those that were to be in it is
pub all_in : {others : ℕ} (list us longer : List Use) → IsWith others list us longer → Each (IsIn longer) us
all_in list [] longer instances.IsWith.nothing = tt
all_in list (u ∷ us) longer (instances.IsWith.there listed more) = (still_in list us longer more u listed, all_in list us longer more)
all_in list (u ∷ us) longer (instances.IsWith.lacking lacks room more) = (still_in (list ++ u ∷ []) us longer more u (at_end list u), all_in (list ++ u ∷ []) us longer more)

still_each : {others : ℕ} (list us longer : List Use) → IsWith others list us longer → (them : List Use) → Each (IsIn list) them → Each (IsIn longer) them
still_each list us longer more [] all = tt
still_each list us longer more (u ∷ them) all = (still_in list us longer more u all.0, still_each list us longer more them all.1)

pub still_are : {others : ℕ} (list us longer : List Use) → IsWith others list us longer → (wanted : Wanted) (bodies : List Body) → AreIn list wanted bodies → AreIn longer wanted bodies
still_are list us longer more wanted [] all = tt
still_are list us longer more wanted (body ∷ bodies) all = (still_each list us longer more (uses_among wanted body.nodes) all.0, still_are list us longer more wanted bodies all.1)

-- they would have become too many
pub filled : {others : ℕ} (list us : List Use) (new : Queue) → IsAdded others list us new false → IsFull others list us
filled list us new (queues.full full) = full

module _ (law : UseLaw) (source : Source) (is : IsSource source) where
  abbrev IsIt : Use → Type 0
  IsIt w = IsInstanceOf source.program.now source.typed.now.schemes w.name w.type

  abbrev AreInstances : List Use → Type 0
  AreInstances us = Each IsIt us

  module _ (u : Use) (nodes : List TypedNode) (body : IsBody source.program.now source.typed.now.schemes source.typed.now.types u nodes) (wanted : Wanted) where
    -- what an instance uses is an instance
    uses_instances : AreInstances (uses_among wanted nodes)
    uses_instances = subst (λ nodes. AreInstances (uses_among wanted nodes)) (sym body.are) (each_among IsIt wanted _ (each_becomes _ (may_use false body.typed.is.typed.body)))
      where
        each_becomes : (nodes : List TypedNode) → Each (λ (node : TypedNode). (w : Use) → node.part.use_of ≡ Some w → MayBe body.typed.is.functions w.name w.type) nodes
            → Each (λ (node : TypedNode). (w : Use) → node.part.use_of ≡ Some w → IsIt w) nodes
        each_becomes [] all = tt
        each_becomes (node ∷ nodes) all = (
          λ w uses. (law source.program.now source.typed.now.schemes source.typed.now.types is.typed is.bound body.function u.type body.typed.nodes body.typed.is w.name w.type (all.0 w uses)).0,
          each_becomes nodes all.1,
        )

    -- the list with what the instance uses
    pub record IsGrown (others : ℕ) (old new : Queue) : Type 0 where
      pub more : IsWith others (as_list old.listed) (uses_among wanted nodes) (as_list new.listed)
      pub sound : IsSound source others new

    pub grown : (others : ℕ) (old new : Queue) → IsSound source others old → IsAdded others (as_list old.listed) (uses_among wanted nodes) new true → IsGrown others old new
    grown others old new sound (queues.all {longer} more queued) = record {
      more = more_listed source others old new (uses_among wanted nodes) longer sound more queued;
      sound = more_sound source others old new (uses_among wanted nodes) longer sound more queued uses_instances;
    }
