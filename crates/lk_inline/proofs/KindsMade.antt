-- What a walk has made of an expression, without its value: parts at the end of those that were there, each of a kind, of which the
-- last is of the kind of the expression's type. Where the expression may read no table, they read none.
use Rattle.std.proofs.Common.{◌≡◌, ℕ, ◌<◌, Bool, true, false, List, [], ◌∷◌, length, Some, sym, ◌∙◌, ap}
use Rattle.lk_bodies.specs.Walk.{Made, Several, State}
use Rattle.lk_inline.proofs.Adding.{Grows}
use Rattle.lk_inline.proofs.Making.{AreWithin, left}
use Rattle.lk_inline.specs.KindsOfTypes.{kind_of_type}
use Rattle.lk_query.specs.Changed.{ReadNoTable}
use Rattle.lk_query.specs.Kinds.{AllHave, AreBases, AreTyped, Has, HasUnder, Is, Kind, OfBase}
use Rattle.lk_query.specs.Order.{AllBelow, AreOrdered, Below, LabelledBelow}
use Rattle.lk_query.specs.declared.part.Labelled.{Labelled}
use Rattle.lk_query.specs.declared.part.Part.{Part}
use Rattle.lk_query.specs.declared.part.Part.TheVariants as part
use Rattle.lk_sites.specs.Pending.{Pending}
use Rattle.lk_types.specs.Rows.{Label}
use Rattle.lk_types.specs.declared.ground.Ground.{Ground}
use Rattle.lk_typing.specs.Names.{Named, named}

-- ---- descriptions

-- the numbers of bound values that may be looked at
abbrev pub Scope : Type 0
Scope = ℕ → Bool

-- what a part gives, and which bound values it may look at
pub record Described : Type 0 where
  pub kind : Kind
  pub looks : Scope

abbrev pub described : Kind → Scope → Described
described kind looks = record { kind = kind; looks = looks }

-- of the part of each number
abbrev pub Descriptions : Type 0
Descriptions = ℕ → Described

abbrev pub kinds_of : Descriptions → ℕ → Kind
kinds_of known k = (known k).kind

abbrev pub scopes_of : Descriptions → ℕ → Scope
scopes_of known k = (known k).looks

abbrev pub AreDescribed : Descriptions → List Part → Type 0
AreDescribed known parts = AreTyped (kinds_of known) (scopes_of known) parts

-- the part of this number is of this kind, and looks only at what is in scope
abbrev pub IsSeen : Descriptions → Scope → Kind → ℕ → Type 0
IsSeen known scope kind k = ((known k).kind ≡ kind) × ((j : ℕ) → (known k).looks j ≡ true → scope j ≡ true)

-- one by one, of the kinds of types
abbrev pub AreSeen : Descriptions → Scope → List Ground → List ℕ → Type 0
AreSeen known scope [] [] = Unit {0}
AreSeen known scope (t ∷ ts) (k ∷ numbers) = IsSeen known scope (kind_of_type t) k × AreSeen known scope ts numbers
AreSeen known scope ts numbers = ⊥

-- each name that has a type has a part of its kind
abbrev pub AreKnown : Scope → Descriptions → Named Ground → Named ℕ → List Part → Type 0
AreKnown scope known locals numbers parts = (x : Label) (t : Ground) → named x locals ≡ Some t → (k : ℕ) × (named x numbers ≡ Some k) × (k < length parts) × IsSeen known scope (kind_of_type t) k

-- ---- what is made

-- parts behind others, all described, which read tables only if some may be read
pub record Adds (scans : Bool) (known : Descriptions) (before : List Part) (later : Descriptions) (after : List Part) : Type 0 where
  pub grows : Grows before after
  pub ordered : AreOrdered after
  pub same : (k : ℕ) → k < length before → later k ≡ known k
  pub typed : AreDescribed later after
  pub quiet : scans ≡ false → ReadNoTable before → ReadNoTable after

-- parts of which this one is of the kind of a type
pub record HasKind (scope : Scope) (scans : Bool) (t : Ground) (known : Descriptions) (before : List Part) (k : ℕ) (after : List Part) : Type 0 where
  pub later : Descriptions
  pub adds : Adds scans known before later after
  pub within : k < length after
  pub is : IsSeen later scope (kind_of_type t) k

-- what is made of an expression of that type, and what is left then
pub record IsKinded (scope : Scope) (scans : Bool) (t : Ground) (known : Descriptions) (s : State) (q : Pending) (m : Made) : Type 0 where
  pub left : left m.state ≡ q
  pub has : HasKind scope scans t known s.parts m.part m.state.parts

-- the same of several
pub record AreKinded (scope : Scope) (scans : Bool) (ts : List Ground) (known : Descriptions) (s : State) (q : Pending) (m : Several) : Type 0 where
  pub left : left m.state ≡ q
  pub later : Descriptions
  pub adds : Adds scans known s.parts later m.state.parts
  pub within : AreWithin ts m.numbers m.state.parts
  pub are : AreSeen later scope ts m.numbers

-- ---- other descriptions of the same parts

module _ (known later : Descriptions) (n : ℕ) (same : (k : ℕ) → k < n → later k ≡ known k) (here : later n ≡ known n) where
  has_same : (kind : Kind) (a : ℕ) → a < n → Has (kinds_of known) (scopes_of known) n kind a → Has (kinds_of later) (scopes_of later) n kind a
  has_same kind a l has = (
    ap (λ d. d.kind) (same a l) ∙ has.0,
    λ k looks. ap (λ (d : Described). d.looks k) here ∙ has.1 k (ap (λ (d : Described). d.looks k) (sym (same a l)) ∙ looks),
  )

  under_same : (x : ℕ) (kind : Kind) (a : ℕ) → a < n → HasUnder (kinds_of known) (scopes_of known) n x kind a → HasUnder (kinds_of later) (scopes_of later) n x kind a
  under_same x kind a l has = (
    ap (λ d. d.kind) (same a l) ∙ has.0,
    λ k looks other. ap (λ (d : Described). d.looks k) here ∙ has.1 k (ap (λ (d : Described). d.looks k) (sym (same a l)) ∙ looks) other,
  )

  all_same : (kind : Kind) (items : List ℕ) → AllBelow n items → AllHave (kinds_of known) (scopes_of known) n kind items → AllHave (kinds_of later) (scopes_of later) n kind items
  all_same kind [] below all = tt
  all_same kind (a ∷ items) below all = (has_same kind a below.0 all.0, all_same kind items below.1 all.1)

  bases_same : (items : List Labelled) → LabelledBelow n items → AreBases (kinds_of known) (scopes_of known) n items → AreBases (kinds_of later) (scopes_of later) n items
  bases_same [] below all = tt
  bases_same (item ∷ items) below all = (has_same OfBase item.part below.0 all.0, bases_same items below.1 all.1)

  -- a part is what it was where its own parts are described as before
  pub is_same : (x : Part) (kind : Kind) → Below n x → Is (kinds_of known) (scopes_of known) n x kind → Is (kinds_of later) (scopes_of later) n x kind
  is_same (part.Lit b) kind l is = is
  is_same part.Bound kind l is = (is.0, ap (λ (d : Described). d.looks n) here ∙ is.1)
  is_same (part.Case c a b) kind l is = (is.0, has_same OfBase c l.0 is.1, has_same OfBase a l.1 is.2, has_same OfBase b l.2 is.3)
  is_same (part.If c a b) kind l is = (is.0, has_same OfBase c l.0 is.1, has_same kind a l.1 is.2, has_same kind b l.2 is.3)
  is_same (part.IfRow labels c a b) kind l is = (is.0, has_same OfBase c l.0 is.1, has_same kind a l.1 is.2, has_same kind b l.2 is.3)
  is_same (part.One o a) kind l is = (is.0, is.1, has_same OfBase a l is.2)
  is_same (part.Two o a b) kind l is = (is.0, is.1, has_same OfBase a l.0 is.2, has_same OfBase b l.1 is.3)
  is_same (part.EqRows labels a b) kind l is = (is.0, has_same _ a l.0 is.1, has_same _ b l.1 is.2)
  is_same (part.Empty columns list) kind l is = (is.0, has_same _ list l is.1)
  is_same (part.Record items) kind l is = (is.0, bases_same items l is.1)
  is_same (part.Extend labels items rest) kind l is = (is.0, bases_same items l.0 is.1, (is.2.0, has_same _ rest l.1 is.2.1))
  is_same (part.Project a label) kind l is = (is.0, (is.1.0, has_same _ a l is.1.1))
  is_same (part.Items items) kind l is = (is.0, is.1, all_same _ items l is.2)
  is_same (part.Append a b) kind l is = (is.0, has_same kind a l.0 is.1, has_same kind b l.1 is.2)
  is_same (part.ForList list x body) kind l is = (is.0, (is.1.0, has_same _ list l.0 is.1.1, ap (λ d. d.kind) (same x l.1) ∙ is.1.2, under_same x kind body l.2 is.1.3))
  is_same (part.Table table labels) kind l is = is
  is_same (part.Where c list) kind l is = (is.0, has_same OfBase c l.0 is.1, has_same kind list l.1 is.2)
