-- Parts that are added one after the other keep their kinds.
use Rattle.std.proofs.Common.{◌≡◌, ℕ, ◌<◌, ◌==◌, Bool, true, false, ◌||◌, List, [], ◌∷◌, ◌++◌, length, Some, slice_get, bytes_eq, if◌then◌else◌, inl, inr, ◌⊎◌, refl, sym, ◌∙◌, ap, ap₂, subst, arith, lt_irrefl}
use Rattle.std.proofs.lemmas.List.Folds.{list_any-append}
use Rattle.std.proofs.lemmas.Option.{slice_get_within}
use Rattle.lk_bodies.specs.Walk.{Made, Several, State, add, behind_type}
use Rattle.lk_inline.proofs.Adding.{at_end, behind_list, grows_both, grows_none, grows_one, ordered_add, still_within}
use Rattle.lk_inline.proofs.KindsMade.{Adds, AreDescribed, AreKinded, AreKnown, AreSeen, Described, Descriptions, HasKind, IsKinded, IsSeen, Scope, described, is_same, kinds_of, scopes_of}
use Rattle.lk_inline.proofs.Making.{AreWithin, left}
use Rattle.lk_inline.specs.KindsOfTypes.{kind_of_type}
use Rattle.lk_query.proofs.Parts.{bind-here, bind-other}
use Rattle.lk_query.specs.Changed.{ReadNoTable, reads_table}
use Rattle.lk_query.specs.Kinds.{Has, HasColumns, Is, Kind}
use Rattle.lk_query.specs.Order.{AreOrdered, Below, bind}
use Rattle.lk_query.specs.declared.part.Part.{Part}
use Rattle.lk_sites.specs.Pending.{Pending}
use Rattle.lk_types.specs.Rows.{Label}
use Rattle.lk_types.specs.declared.ground.Ground.{Ground}
use Rattle.lk_typing.specs.Names.{Named, named}

-- ---- what is seen stays

pub seen_later : (known later : Descriptions) (scope : Scope) (kind : Kind) (k : ℕ) → later k ≡ known k → IsSeen known scope kind k → IsSeen later scope kind k
seen_later known later scope kind k same seen = (
  ap (λ (d : Described). d.kind) same ∙ seen.0,
  λ j looks. seen.1 j (ap (λ (d : Described). d.looks j) (sym same) ∙ looks),
)

-- where more may be looked at
pub seen_wider : (known : Descriptions) (scope wider : Scope) (kind : Kind) (k : ℕ) → ((j : ℕ) → scope j ≡ true → wider j ≡ true) → IsSeen known scope kind k → IsSeen known wider kind k
seen_wider known scope wider kind k wide seen = (seen.0, λ j looks. wide j (seen.1 j looks))

pub all_seen_later : (known later : Descriptions) (scope : Scope) (ts : List Ground) (numbers : List ℕ) (parts : List Part) → ((k : ℕ) → k < length parts → later k ≡ known k) → AreWithin ts numbers parts
    → AreSeen known scope ts numbers → AreSeen later scope ts numbers
all_seen_later known later scope [] [] parts same within seen = tt
all_seen_later known later scope [] (k ∷ numbers) parts same within seen = seen
all_seen_later known later scope (t ∷ ts) [] parts same within seen = seen
all_seen_later known later scope (t ∷ ts) (k ∷ numbers) parts same within seen =
    (seen_later known later scope (kind_of_type t) k (same k within.0) seen.0, all_seen_later known later scope ts numbers parts same within.1 seen.1)

-- ---- names

pub known_later : (scope : Scope) (known later : Descriptions) (locals : Named Ground) (numbers : Named ℕ) (before after : List Part) (scans : Bool) → Adds scans known before later after → AreKnown scope known locals numbers before
    → AreKnown scope later locals numbers after
known_later scope known later locals numbers before after scans adds have x t is =
    let found = have x t is in
    (found.0, found.1, still_within adds.grows found.0 found.2, seen_later known later scope (kind_of_type t) found.0 (adds.same found.0 found.2) found.3)

pub known_wider : (scope wider : Scope) (known : Descriptions) (locals : Named Ground) (numbers : Named ℕ) (parts : List Part) → ((j : ℕ) → scope j ≡ true → wider j ≡ true) → AreKnown scope known locals numbers parts
    → AreKnown wider known locals numbers parts
known_wider scope wider known locals numbers parts wide have x t is =
    let found = have x t is in (found.0, found.1, found.2, seen_wider known scope wider (kind_of_type t) found.0 wide found.3)

-- one name more
pub known_bound : (x : Label) (a : Ground) (n : ℕ) (scope : Scope) (known : Descriptions) (locals : Named Ground) (numbers : Named ℕ) (parts : List Part) → n < length parts → IsSeen known scope (kind_of_type a) n
    → AreKnown scope known locals numbers parts → AreKnown scope known ((x, a) ∷ locals) ((x, n) ∷ numbers) parts
known_bound x a n scope known locals numbers parts l seen have y t is = by (bytes_eq x y) (have y t) is
  where
    by : (b : Bool) → (named y locals ≡ Some t → (k : ℕ) × (named y numbers ≡ Some k) × (k < length parts) × IsSeen known scope (kind_of_type t) k) → (if b then Some a else named y locals) ≡ Some t
        → (k : ℕ) × ((if b then Some n else named y numbers) ≡ Some k) × (k < length parts) × IsSeen known scope (kind_of_type t) k
    by true old is = let same : a ≡ t = cc in (n, refl, l, subst (λ t. IsSeen known scope (kind_of_type t) n) same seen)
    by false old is = old is

-- ---- parts

none_read : (parts : List Part) (x : Part) → reads_table x ≡ false → ReadNoTable parts → ReadNoTable (parts ++ x ∷ [])
none_read parts x alone none = list_any-append reads_table parts (x ∷ []) ∙ ap₂ (λ a b. a || (b || false)) none alone

pub adds_none : (scans : Bool) (known : Descriptions) (parts : List Part) → AreOrdered parts → AreDescribed known parts → Adds scans known parts known parts
adds_none scans known parts ordered typed = record { grows = grows_none parts; ordered = ordered; same = λ k l. refl; typed = typed; quiet = λ off none. none }

pub adds_both : {scans : Bool} {known between later : Descriptions} {before middle after : List Part} → Adds scans known before between middle → Adds scans between middle later after → Adds scans known before later after
adds_both first second = record {
  grows = grows_both first.grows second.grows;
  ordered = second.ordered;
  same = λ k l. second.same k (still_within first.grows k l) ∙ first.same k l;
  typed = second.typed;
  quiet = λ off none. second.quiet off (first.quiet off none);
}

module _ (known : Descriptions) (n : ℕ) (kind : Kind) (looks : Scope) where
  -- one part more
  abbrev pub with_part : Descriptions
  with_part = bind n (described kind looks) known

  pub with_same : (k : ℕ) → k < n → with_part k ≡ known k
  with_same k l = bind-other n k (described kind looks) known (λ same. lt_irrefl n (subst (λ m. m < n) same l))

  -- it is of this kind, by what is known of its own parts
  abbrev pub IsNext : Part → Type 0
  IsNext x = Is (kinds_of with_part) (scopes_of with_part) n x kind

  -- an own part
  pub next_has : (scope : Scope) (own : Kind) (a : ℕ) → ((j : ℕ) → scope j ≡ true → looks j ≡ true) → a < n → IsSeen known scope own a → Has (kinds_of with_part) (scopes_of with_part) n own a
  next_has scope own a wide l seen = (
    ap (λ (d : Described). d.kind) (with_same a l) ∙ seen.0,
    λ j looked. ap (λ (d : Described). d.looks j) (bind-here n (described kind looks) known) ∙ wide j (seen.1 j (ap (λ (d : Described). d.looks j) (sym (with_same a l)) ∙ looked)),
  )

  pub next_seen : (scope : Scope) → ((j : ℕ) → looks j ≡ true → scope j ≡ true) → IsSeen with_part scope kind n
  next_seen scope wide = (
    ap (λ (d : Described). d.kind) (bind-here n (described kind looks) known),
    λ j looked. wide j (ap (λ (d : Described). d.looks j) (sym (bind-here n (described kind looks) known)) ∙ looked),
  )

pub adds_one : (scans : Bool) (known : Descriptions) (parts : List Part) (x : Part) (kind : Kind) (looks : Scope) → AreOrdered parts → AreDescribed known parts → Below (length parts) x → IsNext known (length parts) kind looks x → HasColumns kind
    → (scans ≡ false → reads_table x ≡ false) → Adds scans known parts (with_part known (length parts) kind looks) (parts ++ x ∷ [])
adds_one scans known parts x kind looks ordered typed below is has alone = record {
  grows = grows_one parts x;
  ordered = ordered_add parts x ordered below;
  same = with_same known n kind looks;
  typed = record { columns = λ k. columns k (k == n); each = each };
  quiet = λ off none. none_read parts x (alone off) none;
}
  where
    n : ℕ
    n = length parts

    later : Descriptions
    later = with_part known n kind looks

    columns : (k : ℕ) (b : Bool) → HasColumns (kinds_of (λ k. if b then described kind looks else known k) k)
    columns k true = has
    columns k false = typed.columns k

    each : (j : ℕ) (y : Part) → slice_get (parts ++ x ∷ []) j ≡ Some y → Is (kinds_of later) (scopes_of later) j y (kinds_of later j)
    each j y at = by (behind_list parts x y j at)
      where
        by : (slice_get parts j ≡ Some y) ⊎ ((j ≡ n) × (x ≡ y)) → Is (kinds_of later) (scopes_of later) j y (kinds_of later j)
        by (inl at) =
            let l : j < n = slice_get_within parts j y at in
            let stays : later j ≡ known j = with_same known n kind looks j l in
            subst (λ d. Is (kinds_of later) (scopes_of later) j y d.kind) (sym stays)
            (is_same known later j (λ k below. with_same known n kind looks k (omega (arith, below, l))) stays y (kinds_of known j) (ordered j y at) (typed.each j y at))
        by (inr (at, same)) =
            subst (λ m. Is (kinds_of later) (scopes_of later) m y (kinds_of later m)) (sym at)
            (subst (λ y. Is (kinds_of later) (scopes_of later) n y (kinds_of later n)) same
            (subst (λ (d : Described). Is (kinds_of later) (scopes_of later) n x d.kind) (sym (bind-here n (described kind looks) known)) is))

-- ---- what is made

module _ (scope : Scope) (scans : Bool) where
  pub none_kinded : (known : Descriptions) (s : State) → AreOrdered s.parts → AreDescribed known s.parts → AreKinded scope scans [] known s (left s) (record { numbers = []; state = s })
  none_kinded known s ordered typed = record { left = refl; later = known; adds = adds_none scans known s.parts ordered typed; within = tt; are = tt }

  pub more_kinded : (t : Ground) (ts : List Ground) (known : Descriptions) (s : State) (q r : Pending) (m : Made) (others : Several) → (one : IsKinded scope scans t known s q m) → AreKinded scope scans ts one.has.later m.state r others
      → AreKinded scope scans (t ∷ ts) known s r (record { numbers = m.part ∷ others.numbers; state = others.state })
  more_kinded t ts known s q r m others one rest = record {
    left = rest.left;
    later = rest.later;
    adds = adds_both one.has.adds rest.adds;
    within = (still_within rest.adds.grows m.part one.has.within, rest.within);
    are = (seen_later one.has.later rest.later scope (kind_of_type t) m.part (rest.adds.same m.part one.has.within) one.has.is, rest.are);
  }

  -- a part that looks at what is in scope, and is of the kind of a type
  pub kind_added : (t : Ground) (known : Descriptions) (parts : List Part) (x : Part) → AreOrdered parts → AreDescribed known parts → Below (length parts) x → IsNext known (length parts) (kind_of_type t) scope x → HasColumns (kind_of_type t)
      → (scans ≡ false → reads_table x ≡ false) → HasKind scope scans t known parts (length parts) (parts ++ x ∷ [])
  kind_added t known parts x ordered typed below is has alone = record {
    later = with_part known (length parts) (kind_of_type t) scope;
    adds = adds_one scans known parts x (kind_of_type t) scope ordered typed below is has alone;
    within = at_end parts x;
    is = next_seen known (length parts) (kind_of_type t) scope scope (λ j looked. looked);
  }

  -- behind others
  pub kind_behind : (t : Ground) (known between : Descriptions) (before middle : List Part) (k : ℕ) (after : List Part) → Adds scans known before between middle → HasKind scope scans t between middle k after → HasKind scope scans t known before k after
  kind_behind t known between before middle k after adds has = record { later = has.later; adds = adds_both adds has.adds; within = has.within; is = has.is }

  -- a part over those that were made
  pub finished_kinded : (t : Ground) (ts : List Ground) (known : Descriptions) (s : State) (q : Pending) (m : Several) (x : Part) → (are : AreKinded scope scans ts known s q m) → Below (length m.state.parts) x
      → IsNext are.later (length m.state.parts) (kind_of_type t) scope x → HasColumns (kind_of_type t) → (scans ≡ false → reads_table x ≡ false) → IsKinded scope scans t known s q (add x m.state)
  finished_kinded t ts known s q m x are below is has alone = record {
    left = are.left;
    has =
        kind_behind t known are.later s.parts m.state.parts (length m.state.parts) (m.state.parts ++ x ∷ []) are.adds
        (kind_added t are.later m.state.parts x are.adds.ordered are.adds.typed below is has alone);
  }

  -- behind a node's own type there are the same parts
  pub from_behind_type : (t : Ground) (known : Descriptions) (s : State) (q : Pending) (m : Made) → IsKinded scope scans t known (behind_type s) q m → IsKinded scope scans t known s q m
  from_behind_type t known s q m is = record { left = is.left; has = is.has }
