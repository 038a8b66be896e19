-- Names that are kept for what is used: of a tail, behind one more position, of a whole node.
use Rattle.std.proofs.Common.{◌≡◌, inl, inr, refl, sym, ap, subst, ◌∙◌, ◌⊎◌, ℕ, zero, suc, ◌+◌, List, [], ◌∷◌, ◌++◌, drop, length, map, Option, Some, IsSome, slice_get, arith}
use Rattle.std.proofs.Math.Seq.{drop-length}
use Rattle.std.proofs.lemmas.Option.{none-some}
use Rattle.lk_types.proofs.Parts.{same_some}
use Rattle.lk_ir.proofs.Used.{used_by}
use Rattle.lk_ir.specs.Tables.{form_at, names_of}
use Rattle.lk_ir.specs.Uses as relation
use Rattle.lk_ir.specs.Uses.{Among, IsFreeOf, Needs, Uses, UsedBehind, UsedIn, UsedInTails, binds, first_binds, last_binds}
use Rattle.lk_ir.specs.declared.nodes.Block.{Block}
use Rattle.lk_ir.specs.declared.nodes.CaseForm.{CaseForm}
use Rattle.lk_ir.specs.declared.nodes.Form.{Form}
use Rattle.lk_ir.specs.declared.nodes.Forms.{Forms}
use Rattle.lk_ir.specs.declared.nodes.Kept.{Kept}
use Rattle.lk_ir.specs.declared.nodes.Kind.{Kind}
use Rattle.lk_ir.specs.declared.nodes.Kind.TheVariants as kind
use Rattle.lk_cps.proofs.Entries.{Apart, Found, apart, compared, found, found_in, is_there, never, same}
use Rattle.lk_cps.specs.Live.{IsLive, IsTypeUnder, Joins, Leaves, Live, LiveAt, LiveBehind, LiveCaptured, LiveInTails, LiveItself, LiveKept, LiveUnder, Puts, type_in}
use Rattle.lk_ir.specs.TypedUses as uses
use Rattle.lk_ir.specs.TypedUses.{AmongKept, NeedsAs, UseCaptured, UsedAs, UsedBehindAs, UsedInTailsAs, UsesAs}

-- the names that a node itself looks up
abbrev pub own : Kind → List ℕ
own (kind.Name x) = x ∷ []
own (kind.Lambda label xs) = xs
own (kind.Reach b label kept) = names_of kept
own other = []

none_among : (x : ℕ) (xs : List ℕ) → xs ≡ [] → Among x xs → ⊥
none_among x xs none among = elim (subst (Among x) none among) [ ]

no_own : (k : Kind) → own k ≡ [] → (x : ℕ) → Needs k x → ⊥
no_own (kind.Name y) none x needs = cc
no_own (kind.Lambda label xs) none x needs = none_among x xs none needs
no_own (kind.Reach b label kept) none x needs = none_among x (names_of kept) none needs
no_own (kind.Op o) none x needs = needs
no_own (kind.Function i) none x needs = needs
no_own (kind.Call i) none x needs = needs
no_own kind.Apply none x needs = needs
no_own (kind.Bind y) none x needs = needs
no_own kind.Then none x needs = needs
no_own (kind.Choose c) none x needs = needs
no_own kind.Print none x needs = needs
no_own (kind.Switch cases last) none x needs = needs
no_own (kind.For y) none x needs = needs

drop_here : {A : Type 0} (xs : List A) (i : ℕ) (x : A) → slice_get xs i ≡ Some x → drop i xs ≡ x ∷ drop (suc i) xs
drop_here [] i x at = absurd (none-some x at)
drop_here (y ∷ xs) zero x at = ap (λ z. z ∷ xs) (same_some at)
drop_here (y ∷ xs) (suc i) x at = drop_here xs i x at

-- an element, and what is behind it
pub drop_at : {A : Type 0} (xs : List A) (i j : ℕ) (x : A) → i + 1 ≡ j → slice_get xs i ≡ Some x → drop i xs ≡ x ∷ drop j xs
drop_at xs i j x next is = subst (λ m. drop i xs ≡ x ∷ drop m xs) (let e : suc i ≡ j = omega (arith, next) in e) (drop_here xs i x is)

pub drop_next : {A : Type 0} (xs : List A) (i : ℕ) → drop 1 (drop i xs) ≡ drop (suc i) xs
drop_next [] zero = refl
drop_next [] (suc i) = refl
drop_next (x ∷ xs) zero = refl
drop_next (x ∷ xs) (suc i) = drop_next xs i

module _ (f : Forms) where
  module _ (U V : ℕ → Type 0) (T S : ℕ → ℕ → Type 0) where
    -- the same names for what says the same
    renamed : (live : Live) → ((x : ℕ) → U x → V x) → ((x : ℕ) → V x → U x) → ((x ty : ℕ) → T x ty → S x ty) → IsLive f U T live → IsLive f V S live
    renamed live to from types is = record { just = λ x. (λ some. to x ((is.just x).0 some), λ used. (is.just x).1 (from x used)); typed = λ all x ty at. types x ty (is.typed all x ty at) }

    joined : (a b c : Live) → Joins a b c → IsLive f U T a → IsLive f V S b → IsLive f (λ x. U x ⊎ V x) (λ x ty. T x ty ⊎ S x ty) c
    joined a b c joins first second = record { just = λ x. (λ some. used x (found_in (type_in c x) some), there x); typed = λ all x ty at. typed all x ty (joins.one x ty at) }
      where
        used : (x : ℕ) → Found (type_in c x) → U x ⊎ V x
        used x (found ty at) = by_side (joins.one x ty at)
          where
            by_side : (type_in a x ≡ Some ty) ⊎ (type_in b x ≡ Some ty) → U x ⊎ V x
            by_side (inl is) = inl ((first.just x).0 (is_there (type_in a x) ty is))
            by_side (inr is) = inr ((second.just x).0 (is_there (type_in b x) ty is))

        there : (x : ℕ) → U x ⊎ V x → IsSome (type_in c x)
        there x (inl use_of) = joins.first x ((first.just x).1 use_of)
        there x (inr use_of) = joins.second x ((second.just x).1 use_of)

        typed : UseCaptured f → (x ty : ℕ) → (type_in a x ≡ Some ty) ⊎ (type_in b x ≡ Some ty) → T x ty ⊎ S x ty
        typed all x ty (inl is) = inl (first.typed all x ty is)
        typed all x ty (inr is) = inr (second.typed all x ty is)

  -- ---- one name more

  module _ (U V : ℕ → Type 0) (S : ℕ → ℕ → Type 0) where
    with_name : (x ty : ℕ) (old new : Live) → Puts old x ty new → IsLive f U S old → ((y : ℕ) → V y → (x ≡ y) ⊎ U y) → V x → ((y : ℕ) → U y → V y) → (UseCaptured f → S x ty) → IsLive f V S new
    with_name x ty old new puts is split first others type = record { just = λ y. (λ some. used y some (compared x y), λ use_of. there y (split y use_of) (compared x y)); typed = λ all y t at. typed all y t at (compared x y) }
      where
        used : (y : ℕ) → IsSome (type_in new y) → Apart x y → V y
        used y some (same e) = subst V e first
        used y some (apart differs) = others y ((is.just y).0 (subst IsSome (puts.others y differs) some))

        there : (y : ℕ) → (x ≡ y) ⊎ U y → Apart x y → IsSome (type_in new y)
        there y by (same e) = subst (λ z. IsSome (type_in new z)) e (is_there (type_in new x) ty puts.there)
        there y (inl e) (apart differs) = absurd (differs e)
        there y (inr use_of) (apart differs) = subst IsSome (sym (puts.others y differs)) ((is.just y).1 use_of)

        typed : UseCaptured f → (y t : ℕ) → type_in new y ≡ Some t → Apart x y → S y t
        typed all y t at (same e) = subst (λ z. S z t) e (subst (S x) (same_some (sym puts.there ∙ subst (λ z. type_in new z ≡ Some t) (sym e) at)) (type all))
        typed all y t at (apart differs) = is.typed all y t (sym (puts.others y differs) ∙ at)

  -- ---- what a node looks up

  pub none_there : (V : ℕ → Type 0) (S : ℕ → ℕ → Type 0) → ((x : ℕ) → V x → ⊥) → IsLive f V S []
  none_there V S none = record { just = λ x. (λ some. absurd (never some), λ used. absurd (none x used)); typed = λ all x ty at. absurd (none-some ty at) }

  split : (x : ℕ) (xs : List ℕ) (y : ℕ) → Among y (x ∷ xs) → (x ≡ y) ⊎ Among y xs
  split x xs _ relation.here = inl refl
  split x xs y (relation.later among) = inr among

  pub kept_none : LiveKept f [] []
  kept_none = none_there (λ x. Among x []) (λ x ty. AmongKept x ty []) (λ x among. elim among [ ])

  pub kept_more : (k : Kept) (kept : List Kept) (old new : Live) → Puts old k.name k.ty new → LiveKept f kept old → LiveKept f (k ∷ kept) new
  kept_more k kept old new puts is =
      with_name (λ x. Among x (names_of kept)) (λ x. Among x (names_of (k ∷ kept))) (λ x ty. AmongKept x ty (k ∷ kept)) k.name k.ty old new puts
      (renamed (λ x. Among x (names_of kept)) (λ x. Among x (names_of kept)) (λ x ty. AmongKept x ty kept) (λ x ty. AmongKept x ty (k ∷ kept)) old (λ x a. a) (λ x a. a) (λ x ty a. uses.later_kept a) is)
      (split k.name (names_of kept)) relation.here (λ y a. relation.later a) (λ all. uses.here_kept)

  pub captured_none : (label : ℕ) → LiveCaptured f label [] []
  captured_none label = none_there (λ x. Among x []) (λ x ty. IsTypeUnder f label x ty) (λ x among. elim among [ ])

  pub captured_more : (label x ty : ℕ) (xs : List ℕ) (old new : Live) → Puts old x ty new → IsTypeUnder f label x ty → LiveCaptured f label xs old → LiveCaptured f label (x ∷ xs) new
  captured_more label x ty xs old new puts type is =
      with_name (λ y. Among y xs) (λ y. Among y (x ∷ xs)) (λ y t. IsTypeUnder f label y t) x ty old new puts is (split x xs) relation.here (λ y a. relation.later a) (λ all. type)

  -- ---- what a node itself looks up

  module _ (form : Form) where
    by_kind : (k : Kind) (live : Live) → form.kind ≡ k → IsLive f (Needs k) (λ x ty. NeedsAs f x ty k form.ty) live → LiveItself f form live
    by_kind k live is named = subst (λ m. IsLive f (Needs m) (λ x ty. NeedsAs f x ty m form.ty) live) (sym is) named

    pub itself_none : (live : Live) → live ≡ [] → own form.kind ≡ [] → LiveItself f form live
    itself_none live is none = subst (LiveItself f form) (sym is) (none_there (Needs form.kind) (λ x ty. NeedsAs f x ty form.kind form.ty) (no_own form.kind none))

    pub itself_name : (x : ℕ) (live : Live) → form.kind ≡ kind.Name x → Puts [] x form.ty live → LiveItself f form live
    itself_name x live is puts =
        by_kind (kind.Name x) live is
        (with_name (λ y. ⊥) (λ y. x ≡ y) (λ y ty. NeedsAs f y ty (kind.Name x) form.ty) x form.ty [] live puts
        (none_there (λ y. ⊥) (λ y ty. NeedsAs f y ty (kind.Name x) form.ty) (λ y never. never)) (λ y e. inl e) refl (λ y never. absurd never) (λ all. uses.own_name))

    pub itself_kept : (b : Block) (label : ℕ) (kept : List Kept) (live : Live) → form.kind ≡ kind.Reach b label kept → LiveKept f kept live → LiveItself f form live
    itself_kept b label kept live is named =
        by_kind (kind.Reach b label kept) live is
        (renamed (λ x. Among x (names_of kept)) (λ x. Among x (names_of kept)) (λ x ty. AmongKept x ty kept) (λ x ty. NeedsAs f x ty (kind.Reach b label kept) form.ty) live (λ x a. a) (λ x a. a) (λ x ty a. uses.kept_name a) named)

    pub itself_captured : (n : ℕ) → form_at f n ≡ Some form → (label : ℕ) (xs : List ℕ) (live : Live) → form.kind ≡ kind.Lambda label xs → LiveCaptured f label xs live → LiveItself f form live
    itself_captured n at label xs live is named = by_kind (kind.Lambda label xs) live is (record { just = named.just; typed = typed })
      where
        typed : UseCaptured f → (x ty : ℕ) → type_in live x ≡ Some ty → NeedsAs f x ty (kind.Lambda label xs) form.ty
        typed all x ty there =
            let body = all.bodies n label xs form at is in
            let among : Among x xs = (named.just x).0 (is_there (type_in live x) ty there) in
            let used = all.used label body.0 body.1 x (subst (Among x) (sym body.2) among) in
            uses.captured_name body.0 body.1 body.2 among used.1 (named.typed all x ty there body.0 body.1 all used.0)

  -- ---- tails

  pub under : (bound : Option ℕ) (n : ℕ) (own out : Live) → LiveAt f n own → Leaves own bound out → LiveUnder f bound n out
  under bound n own out is leaves = record {
    just = λ x. (λ some. let free = leaves.gone x some in (free, (is.just x).0 (subst IsSome (leaves.others x free) some)), λ used. subst IsSome (sym (leaves.others x used.0)) ((is.just x).1 used.1));
    typed = λ all x ty at. let free = leaves.gone x (is_there (type_in out x) ty at) in (free, is.typed all x ty (sym (leaves.others x free) ∙ at));
  }

  pub tails_none : (bs : List (Option ℕ)) → LiveInTails f bs [] []
  tails_none bs = none_there (λ x. UsedInTails f x bs []) (λ x ty. UsedInTailsAs f x ty bs []) (λ x used. elim used [ ])

  pub tails_more : (bs : List (Option ℕ)) (n : ℕ) (ns : List ℕ) (own live new : Live) → LiveUnder f (first_binds bs) n own → LiveInTails f (drop 1 bs) ns live → Joins own live new → LiveInTails f bs (n ∷ ns) new
  tails_more bs n ns own live new first rest joins =
      renamed (λ x. (IsFreeOf (first_binds bs) x × Uses f x n) ⊎ UsedInTails f x (drop 1 bs) ns) (λ x. UsedInTails f x bs (n ∷ ns))
      (λ x ty. (IsFreeOf (first_binds bs) x × UsesAs f x ty n) ⊎ UsedInTailsAs f x ty (drop 1 bs) ns) (λ x ty. UsedInTailsAs f x ty bs (n ∷ ns)) new to from types
      (joined (λ x. IsFreeOf (first_binds bs) x × Uses f x n) (λ x. UsedInTails f x (drop 1 bs) ns) (λ x ty. IsFreeOf (first_binds bs) x × UsesAs f x ty n) (λ x ty. UsedInTailsAs f x ty (drop 1 bs) ns) own live new joins first rest)
    where
      to : (x : ℕ) → (IsFreeOf (first_binds bs) x × Uses f x n) ⊎ UsedInTails f x (drop 1 bs) ns → UsedInTails f x bs (n ∷ ns)
      to x (inl used) = relation.first_tail used.0 used.1
      to x (inr used) = relation.other_tails used

      from : (x : ℕ) → UsedInTails f x bs (n ∷ ns) → (IsFreeOf (first_binds bs) x × Uses f x n) ⊎ UsedInTails f x (drop 1 bs) ns
      from x (relation.first_tail free used) = inl (free, used)
      from x (relation.other_tails used) = inr used

      types : (x ty : ℕ) → (IsFreeOf (first_binds bs) x × UsesAs f x ty n) ⊎ UsedInTailsAs f x ty (drop 1 bs) ns → UsedInTailsAs f x ty bs (n ∷ ns)
      types x ty (inl used) = uses.first_tail_as used.0 used.1
      types x ty (inr used) = uses.other_tails_as used

  -- ---- behind positions

  pub behind_all : (form : Form) (a b c : Live) → LiveInTails f (binds form.kind) form.tails a → LiveItself f form b → Joins a b c → LiveBehind f form [] c
  behind_all form a b c tails own joins =
      renamed (λ x. UsedInTails f x (binds form.kind) form.tails ⊎ Needs form.kind x) (UsedBehind f form [])
      (λ x ty. UsedInTailsAs f x ty (binds form.kind) form.tails ⊎ NeedsAs f x ty form.kind form.ty) (UsedBehindAs f form []) c to from types
      (joined (λ x. UsedInTails f x (binds form.kind) form.tails) (Needs form.kind) (λ x ty. UsedInTailsAs f x ty (binds form.kind) form.tails) (λ x ty. NeedsAs f x ty form.kind form.ty) a b c joins tails own)
    where
      to : (x : ℕ) → UsedInTails f x (binds form.kind) form.tails ⊎ Needs form.kind x → UsedBehind f form [] x
      to x (inl used) = inr (inr used)
      to x (inr needed) = inr (inl needed)

      from : (x : ℕ) → UsedBehind f form [] x → UsedInTails f x (binds form.kind) form.tails ⊎ Needs form.kind x
      from x (inl part) = elim part [ ]
      from x (inr (inl needed)) = inr needed
      from x (inr (inr used)) = inl used

      types : (x ty : ℕ) → UsedInTailsAs f x ty (binds form.kind) form.tails ⊎ NeedsAs f x ty form.kind form.ty → UsedBehindAs f form [] x ty
      types x ty (inl used) = inr (inr used)
      types x ty (inr needed) = inr (inl needed)

  pub behind_more : (form : Form) (k : ℕ) (ks : List ℕ) (own live new : Live) → LiveAt f k own → LiveBehind f form ks live → Joins own live new → LiveBehind f form (k ∷ ks) new
  behind_more form k ks own live new first rest joins =
      renamed (λ x. Uses f x k ⊎ UsedBehind f form ks x) (UsedBehind f form (k ∷ ks)) (λ x ty. UsesAs f x ty k ⊎ UsedBehindAs f form ks x ty) (UsedBehindAs f form (k ∷ ks)) new to from types
      (joined (λ x. Uses f x k) (UsedBehind f form ks) (λ x ty. UsesAs f x ty k) (UsedBehindAs f form ks) own live new joins first rest)
    where
      to : (x : ℕ) → Uses f x k ⊎ UsedBehind f form ks x → UsedBehind f form (k ∷ ks) x
      to x (inl used) = inl (relation.first used)
      to x (inr (inl part)) = inl (relation.others part)
      to x (inr (inr rest_of)) = inr rest_of

      from : (x : ℕ) → UsedBehind f form (k ∷ ks) x → Uses f x k ⊎ UsedBehind f form ks x
      from x (inl (relation.first used)) = inl used
      from x (inl (relation.others part)) = inr (inl part)
      from x (inr rest_of) = inr (inr rest_of)

      types : (x ty : ℕ) → UsesAs f x ty k ⊎ UsedBehindAs f form ks x ty → UsedBehindAs f form (k ∷ ks) x ty
      types x ty (inl used) = inl (uses.first_as used)
      types x ty (inr (inl part)) = inl (uses.others_as part)
      types x ty (inr (inr rest_of)) = inr rest_of

  -- ---- a whole node

  pub at_node : (n : ℕ) (form : Form) (live : Live) → form_at f n ≡ Some form → LiveBehind f form form.parts live → LiveAt f n live
  at_node n form live at = renamed (UsedBehind f form form.parts) (λ x. Uses f x n) (UsedBehindAs f form form.parts) (λ x ty. UsesAs f x ty n) live to (λ x used. used_by f x n form at used) types
    where
      to : (x : ℕ) → UsedBehind f form form.parts x → Uses f x n
      to x (inl part) = relation.in_part form at part
      to x (inr (inl needed)) = relation.itself form at needed
      to x (inr (inr tail)) = relation.in_tail form at tail

      types : (x ty : ℕ) → UsedBehindAs f form form.parts x ty → UsesAs f x ty n
      types x ty (inl part) = uses.in_part_as form at part
      types x ty (inr (inl needed)) = uses.itself_as form at needed
      types x ty (inr (inr tail)) = uses.in_tail_as form at tail

-- ---- steps of loops that go from the last to the first

pub drop_whole : {A : Type 0} (xs : List A) (n : ℕ) → n ≡ length xs → drop n xs ≡ []
drop_whole xs n is = ap (λ m. drop m xs) is ∙ drop-length xs

pub kept_step : (f : Forms) (kept : List Kept) (i j : ℕ) (k : Kept) (old new : Live) → i + 1 ≡ j → slice_get kept i ≡ Some k → Puts old k.name k.ty new → LiveKept f (drop j kept) old → LiveKept f (drop i kept) new
kept_step f kept i j k old new next at puts is = subst (λ ks. LiveKept f ks new) (sym (drop_at kept i j k next at)) (kept_more f k (drop j kept) old new puts is)

pub captured_step : (f : Forms) (label : ℕ) (xs : List ℕ) (i j x ty : ℕ) (old new : Live) → i + 1 ≡ j → slice_get xs i ≡ Some x → Puts old x ty new → IsTypeUnder f label x ty → LiveCaptured f label (drop j xs) old → LiveCaptured f label (drop i xs) new
captured_step f label xs i j x ty old new next at puts type is = subst (λ ys. LiveCaptured f label ys new) (sym (drop_at xs i j x next at)) (captured_more f label x ty (drop j xs) old new puts type is)

pub tails_step : (f : Forms) (form : Form) (i j n : ℕ) (bound : Option ℕ) (names own live new : Live) → i + 1 ≡ j → slice_get form.tails i ≡ Some n → bound ≡ first_binds (drop i (binds form.kind)) → LiveAt f n names → Leaves names bound own → Joins own live new
    → LiveInTails f (drop j (binds form.kind)) (drop j form.tails) live → LiveInTails f (drop i (binds form.kind)) (drop i form.tails) new
tails_step f form i j n bound names own live new next at is first leaves joins rest =
    let bs = drop i (binds form.kind) in
    let later : drop 1 bs ≡ drop j (binds form.kind) = drop_next (binds form.kind) i ∙ ap (λ m. drop m (binds form.kind)) (let e : suc i ≡ j = omega (arith, next) in e) in
    subst (λ ns. LiveInTails f bs ns new) (sym (drop_at form.tails i j n next at))
    (tails_more f bs n (drop j form.tails) own live new (under f (first_binds bs) n names own first (subst (λ (b : Option ℕ). Leaves names b own) is leaves))
    (subst (λ (cs : List (Option ℕ)). LiveInTails f cs (drop j form.tails) live) (sym later) rest) joins)

-- ---- what tails bind

-- the name that a case binds, or the last one
pub bound_case : (cases : List CaseForm) (last : Option ℕ) (i : ℕ) (case : CaseForm) → slice_get cases i ≡ Some case → case.name ≡ first_binds (drop i (map (λ (c : CaseForm). c.name) cases ++ last_binds last))
bound_case [] last i case at = absurd (none-some case at)
bound_case (c ∷ cases) last zero case at = ap (λ (it : CaseForm). it.name) (sym (same_some at))
bound_case (c ∷ cases) last (suc i) case at = bound_case cases last i case at
