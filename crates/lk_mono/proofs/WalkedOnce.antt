-- Walks through instances are fixed: what is listed once that many have been walked, and where and how the walk ends.
use Rattle.std.proofs.Common.{◌≡◌, ℕ, ◌+◌, ◌<◌, zero, suc, List, Some, None, refl, sym, ap, ap₂, subst, ◌∙◌, ◌⊎◌, inl, inr, arith}
use Rattle.std.proofs.lemmas.Option.{none-some}
use Rattle.lk_ast.specs.declared.declaration.Program.{Program}
use Rattle.lk_ast.specs.declared.place.Span.{Span}
use Rattle.lk_types.proofs.Parts.{same_some}
use Rattle.lk_mono.proofs.GrowingOnce.{grown_once, grown_within}
use Rattle.lk_mono.proofs.SameNodes.{same_nodes}
use Rattle.lk_mono.proofs.Siting.{all_before}
use Rattle.lk_mono.specs.Instances.{EndsFull, EndsLarge, IsBody, IsDone, IsFull, IsWalked, IsWith, Turn, Wanted, before_large, first_large, uses_among}
use Rattle.lk_names.specs.Programs.{IsBound}
use Rattle.lk_outline.specs.Law.{OutlineLaw}
use Rattle.lk_sound.specs.Nodes.{TypedNode, Use}
use Rattle.lk_types.specs.declared.scheme.Scheme.{Scheme}
use Rattle.lk_types.specs.declared.ty.Ty.{Ty}

no_next : (n : ℕ) → 0 ≡ 1 + n → ⊥
no_next n is = omega arith

one_less : (n m : ℕ) → 1 + n ≡ 1 + m → n ≡ m
one_less n m is = omega arith

before_or_at : (m n : ℕ) → m < 1 + n → (m < n) ⊎ (m ≡ n)
before_or_at zero zero less = inr refl
before_or_at zero (suc n) less = inl (omega arith)
before_or_at (suc m) zero less = absurd (omega arith)
before_or_at (suc m) (suc n) less = further (before_or_at m n (omega arith))
  where
    further : (m < n) ⊎ (m ≡ n) → (suc m < suc n) ⊎ (suc m ≡ suc n)
    further (inl before) = inl (omega arith)
    further (inr at) = inr (ap (λ k. suc k) at)

neither_before : (n m : ℕ) → (n < m → ⊥) → (m < n → ⊥) → n ≡ m
neither_before zero zero first second = refl
neither_before zero (suc m) first second = absurd (first (omega arith))
neither_before (suc n) zero first second = absurd (second (omega arith))
neither_before (suc n) (suc m) first second = ap (λ k. suc k) (neither_before n m (λ less. first (omega arith)) (λ less. second (omega arith)))

module _ (outline_law : OutlineLaw) (p : Program) (schemes : List Scheme) (types : List Ty) (bound : IsBound p) (turn : Turn) (wanted : Wanted) (others : ℕ) (first : List Use) where
  abbrev Walked : ℕ → List Use → Type 0
  Walked n list = IsWalked p schemes types turn wanted others first n list

  abbrev Body : Use → List TypedNode → Type 0
  Body u nodes = IsBody p schemes types u nodes

  same_body : (u v : Use) (nodes them : List TypedNode) → u ≡ v → Body u nodes → Body v them → nodes ≡ them
  same_body u v nodes them is one other = same_nodes outline_law bound one (subst (λ w. Body w them) (sym is) other)

  same_turn : (a b : List Use) (n m : ℕ) (u v : Use) → a ≡ b → n ≡ m → turn a n ≡ Some u → turn b m ≡ Some v → u ≡ v
  same_turn a b n m u v lists numbers one other = same_some (sym one ∙ ap₂ turn lists numbers ∙ other)

  same_growth : (a b : List Use) (us vs : List Use) (longer longest : List Use) → a ≡ b → us ≡ vs → IsWith others a us longer → IsWith others b vs longest → longer ≡ longest
  same_growth a b us vs longer longest lists uses one other =
      grown_once a us longer longest one (subst (λ l. IsWith others l us longest) (sym lists) (subst (λ ws. IsWith others b ws longest) (sym uses) other))

  same_walk : (n m : ℕ) (a b : List Use) → Walked n a → Walked m b → n ≡ m → a ≡ b
  same_walk _ _ _ _ IsWalked.start IsWalked.start is = refl
  same_walk _ _ _ _ IsWalked.start (IsWalked.next {n} walked turned body fit more) is = absurd (no_next n is)
  same_walk _ _ _ _ (IsWalked.next {n} walked turned body fit more) IsWalked.start is = absurd (no_next n (sym is))
  same_walk _ _ _ _ (IsWalked.next {n} {list} {longer} {u} {nodes} walked turned body fit more) (IsWalked.next {n = m} {list = others_list} {longer = longest} {u = v} {nodes = them} before taken its small rest) is =
      let numbers : n ≡ m = one_less n m is in
      let lists : list ≡ others_list = same_walk n m list others_list walked before numbers in
      let bodies : nodes ≡ them = same_body u v nodes them (same_turn list others_list n m u v lists numbers turned taken) body its in
      same_growth list others_list (uses_among wanted nodes) (uses_among wanted them) longer longest lists (ap (uses_among wanted) bodies) more rest

  -- what was done in the turn of one that has been walked
  record HasStep (m : ℕ) : Type 0 where
    list : List Use
    longer : List Use
    use_of : Use
    nodes : List TypedNode
    walked : Walked m list
    turned : turn list m ≡ Some use_of
    body : Body use_of nodes
    fit : first_large nodes ≡ None
    more : IsWith others list (uses_among wanted nodes) longer

  step_at : (n : ℕ) (a : List Use) → Walked n a → (m : ℕ) → m < n → HasStep m
  step_at _ _ IsWalked.start m less = absurd (omega arith)
  step_at _ _ (IsWalked.next {n} {list} {longer} {u} {nodes} walked turned body fit more) m less = by_order (λ before. step_at n list walked m before) (before_or_at m n less)
    where
      by_order : (m < n → HasStep m) → (m < n) ⊎ (m ≡ n) → HasStep m
      by_order earlier (inl before) = earlier before
      by_order earlier (inr at) = subst HasStep (sym at) (record { list = list; longer = longer; use_of = u; nodes = nodes; walked = walked; turned = turned; body = body; fit = fit; more = more })

  -- how a walk ends where that many have been walked
  data Ends (n : ℕ) (list : List Use) : Type 0 where
    done : turn list n ≡ None → Ends n list
    full : {u : Use} {nodes : List TypedNode} → turn list n ≡ Some u → Body u nodes → IsFull others list (uses_among wanted (before_large nodes)) → Ends n list
    large : {u : Use} {nodes : List TypedNode} {at : Span} → turn list n ≡ Some u → Body u nodes → first_large nodes ≡ Some at → Ends n list

  no_step : (n : ℕ) (list : List Use) → Walked n list → Ends n list → HasStep n → ⊥
  no_step n list walked ends step = by_end ends
    where
      lists : list ≡ step.list
      lists = same_walk n n list step.list walked step.walked refl

      bodies : (u : Use) (nodes : List TypedNode) → turn list n ≡ Some u → Body u nodes → nodes ≡ step.nodes
      bodies u nodes turned body = same_body u step.use_of nodes step.nodes (same_turn list step.list n n u step.use_of lists refl turned step.turned) body step.body

      by_end : Ends n list → ⊥
      by_end (done none) = none-some step.use_of (sym none ∙ ap (λ l. turn l n) lists ∙ step.turned)
      by_end (full {u} {nodes} turned body over) =
          let before : uses_among wanted (before_large nodes) ≡ uses_among wanted step.nodes =
          ap (λ ns. uses_among wanted (before_large ns)) (bodies u nodes turned body) ∙ ap (uses_among wanted) (all_before step.nodes step.fit) in
          grown_within step.list (uses_among wanted step.nodes) step.longer step.more
          (subst (λ l. IsFull others l (uses_among wanted step.nodes)) lists (subst (λ us. IsFull others list us) before over))
      by_end (large {u} {nodes} {at} turned body is) = none-some at (sym step.fit ∙ ap first_large (sym (bodies u nodes turned body)) ∙ is)

  one_number : (n m : ℕ) (a b : List Use) → Walked n a → Ends n a → Walked m b → Ends m b → n ≡ m
  one_number n m a b walked ends before stops =
      neither_before n m (λ less. no_step n a walked ends (step_at m b before n less)) (λ less. no_step m b before stops (step_at n a walked m less))

  abbrev Done : List Use → Type 0
  Done list = IsDone p schemes types turn wanted others first list

  abbrev Full : Type 0
  Full = EndsFull p schemes types turn wanted others first

  abbrev Large : Span → Type 0
  Large at = EndsLarge p schemes types turn wanted others first at

  pub done_once : (a b : List Use) → Done a → Done b → a ≡ b
  done_once a b one other = same_walk one.number other.number a b one.walked other.walked (one_number one.number other.number a b one.walked (done one.none) other.walked (done other.none))

  -- where it is done there is no turn
  done_turned : (a b : List Use) (n m : ℕ) (u : Use) → Walked n a → turn a n ≡ None → Walked m b → Ends m b → turn b m ≡ Some u → ⊥
  done_turned a b n m u walked none before ends turned =
      let numbers : n ≡ m = one_number n m a b walked (done none) before ends in
      none-some u (sym none ∙ ap₂ turn (same_walk n m a b walked before numbers) numbers ∙ turned)

  pub done_within : (a : List Use) → Done a → Full → ⊥
  done_within a one over = done_turned a over.list one.number over.number over.use_of one.walked one.none over.walked (full over.turned over.body over.full) over.turned

  pub done_small : (a : List Use) (at : Span) → Done a → Large at → ⊥
  done_small a at one big = done_turned a big.list one.number big.number big.use_of one.walked one.none big.walked (large big.turned big.body big.large) big.turned

  pub full_or_large : (at : Span) → Full → Large at → ⊥
  full_or_large at over big =
      let numbers : over.number ≡ big.number = one_number over.number big.number over.list big.list over.walked (full over.turned over.body over.full) big.walked (large big.turned big.body big.large) in
      let lists : over.list ≡ big.list = same_walk over.number big.number over.list big.list over.walked big.walked numbers in
      let bodies : over.nodes ≡ big.nodes =
      same_body over.use_of big.use_of over.nodes big.nodes (same_turn over.list big.list over.number big.number over.use_of big.use_of lists numbers over.turned big.turned) over.body big.body in
      grown_within big.list (uses_among wanted (before_large big.nodes)) big.longer big.more
      (subst (λ l. IsFull others l (uses_among wanted (before_large big.nodes))) lists (subst (λ ns. IsFull others over.list (uses_among wanted (before_large ns))) bodies over.full))

  pub large_once : (at place : Span) → Large at → Large place → at ≡ place
  large_once at place big other =
      let numbers : big.number ≡ other.number = one_number big.number other.number big.list other.list big.walked (large big.turned big.body big.large) other.walked (large other.turned other.body other.large) in
      let lists : big.list ≡ other.list = same_walk big.number other.number big.list other.list big.walked other.walked numbers in
      let bodies : big.nodes ≡ other.nodes =
      same_body big.use_of other.use_of big.nodes other.nodes (same_turn big.list other.list big.number other.number big.use_of other.use_of lists numbers big.turned other.turned) big.body other.body in
      same_some (sym big.large ∙ ap first_large bodies ∙ other.large)
