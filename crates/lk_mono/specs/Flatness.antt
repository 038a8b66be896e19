-- What the code makes of shapes, in the words of outlines: which nodes can't stand in queries, which helpers have or reach such
-- a node, and what nodes are refused for.
use Rattle.std.specs.Prelude.{◌≡◌, ℕ, ◌+◌, Bool, true, false, ◌&&◌, ◌||◌, not, List, [], ◌∷◌, Option, Some, None, ◌<◌, ◌≤◌, drop, get_or, length, set, slice_get, take, nat_le, if◌then◌else◌}
use Rattle.std.specs.List.{list_any}
use Rattle.std.specs.Option.{option_or}
use Rattle.lk_ast.specs.declared.place.Span.{Span}
use Rattle.lk_ground_types.specs.Shapes.{has_function, is_base, is_flat}
use Rattle.lk_mono.specs.Instances.{Body as Instance}
use Rattle.lk_mono.specs.Shapes.{FirstRefused, IsShaped, is_flat_part}
use Rattle.lk_mono.specs.declared.body.Body.{Body}
use Rattle.lk_mono.specs.declared.error.ShapeKind.{ShapeKind}
use Rattle.lk_mono.specs.declared.error.ShapeKind.TheVariants.{EqualityAtFunction, OrderAtNonBase, QueryNotFlat, QueryCapture}
use Rattle.lk_outline.specs.Outline.{Kind, Site, Function, Call, Equality, Order, Name, Query, Change}
use Rattle.lk_outline.specs.Shown.{shown, shown_site}
use Rattle.lk_outline.specs.Typed.{part_at, type_at}
use Rattle.lk_types.specs.Each.{Each, OneOf}
use Rattle.lk_types.specs.declared.ground.Ground.{Ground}

-- ---- what can't stand in a query, an update or a deletion

-- a node by itself
abbrev pub is_odd : List Ground → Site → Bool
is_odd types s = not (is_flat_part (part_at [] types s))

-- a body has such a node
abbrev pub has_odd : Body → Bool
has_odd held = list_any (λ site. is_odd held.types (shown_site site)) held.member.now.sites

-- whether the one at that place is marked
abbrev pub is_marked : List Bool → ℕ → Bool
is_marked marks place = get_or marks place false

-- whether one of those at these places is
abbrev pub calls_marked : List Bool → List ℕ → Bool
calls_marked marks places = list_any (is_marked marks) places

-- the one at that place is odd by itself, or it calls one that is odd
pub data IsOddAt (own : List Bool) (calls : List (List ℕ)) : ℕ → Type 0 where
  itself : {i : ℕ} → is_marked own i ≡ true → IsOddAt own calls i
  calling : {i : ℕ} (j : ℕ) (places : List ℕ) → slice_get calls i ≡ Some places → OneOf (λ place. place ≡ j) places → IsOddAt own calls j → IsOddAt own calls i

abbrev pub AllOddAt : List Bool → List (List ℕ) → List Bool → Type 0
AllOddAt own calls marks = (i : ℕ) → is_marked marks i ≡ true → IsOddAt own calls i

-- what is marked stays so
abbrev pub AreKept : List Bool → List Bool → Type 0
AreKept old new = (i : ℕ) → is_marked old i ≡ true → is_marked new i ≡ true

-- from that place on each that calls a marked one is marked
abbrev pub AreSettled : List (List ℕ) → ℕ → List Bool → Type 0
AreSettled calls from marks = (i : ℕ) (places : List ℕ) → from ≤ i → i < length marks → slice_get calls i ≡ Some places → calls_marked marks places ≡ true → is_marked marks i ≡ true

-- those that are odd are marked, and no others
pub record AreMarked (own : List Bool) (calls : List (List ℕ)) (marks : List Bool) : Type 0 where
  pub size : length marks ≡ length own
  pub sound : AllOddAt own calls marks
  pub itself : AreKept own marks
  pub calling : AreSettled calls 0 marks

abbrev pub unmarked : List Bool → ℕ
unmarked [] = 0
unmarked (true ∷ marks) = unmarked marks
unmarked (false ∷ marks) = 1 + unmarked marks

-- what comes of looking at the one at that place, which has these calls
abbrev pub IsLeft : List ℕ → ℕ → List Bool → List Bool → Type 0
IsLeft places i old new = (new ≡ old) × (i < length old → calls_marked old places ≡ true → is_marked old i ≡ true)

abbrev pub IsMarking : List ℕ → ℕ → List Bool → List Bool → Type 0
IsMarking places i old new = (new ≡ set old i true) × (i < length old) × (is_marked old i ≡ false) × (calls_marked old places ≡ true)

-- what comes of looking at each from that place on, the last first
pub record IsPass (calls : List (List ℕ)) (from : ℕ) (old new : List Bool) (changed : Bool) : Type 0 where
  pub size : length new ≡ length old
  pub sound : (own : List Bool) → AllOddAt own calls old → AllOddAt own calls new
  pub kept : AreKept old new
  pub fewer : changed ≡ true → unmarked new < unmarked old
  pub same : changed ≡ false → new ≡ old
  pub settled : changed ≡ false → AreSettled calls from new

abbrev pub is_use : Kind → Bool
is_use (Function name) = true
is_use (Call name args) = true
is_use _ = false

-- whether a node calls a helper that is marked, where the first of these calls is its own
abbrev pub first_marked : List Bool → Bool → List ℕ → Bool
first_marked marks true (place ∷ calls) = is_marked marks place
first_marked marks _ _ = false

-- the calls behind that
abbrev pub other_calls : Bool → List ℕ → List ℕ
other_calls true (place ∷ calls) = calls
other_calls _ calls = calls

module _ (types : List Ground) (marks : List Bool) where
  -- of each node whether it is odd, or calls a helper that is marked
  abbrev pub odd_nodes : List Site → List ℕ → List Bool
  odd_nodes [] calls = []
  odd_nodes (s ∷ sites) calls = (is_odd types s || first_marked marks (is_use s.kind) calls) ∷ odd_nodes sites (other_calls (is_use s.kind) calls)

-- ---- what nodes are refused for

abbrev pub behind : {A : Type 0} → ℕ → ℕ → List A → List A
behind number nodes xs = take nodes (drop (1 + number) xs)

abbrev pub is_odd_name : List Ground → ℕ → Site → Kind → Bool
is_odd_name types number s (Name binder) = nat_le binder number && not (is_flat (type_at types s.number))
is_odd_name types number s _ = false

-- something that isn't flat is captured by a block of these nodes
abbrev pub captures_odd : List Ground → ℕ → List Site → Bool
captures_odd types number sites = list_any (λ s. is_odd_name types number s s.kind) sites

abbrev pub block_fault : Bool → Bool → Option ShapeKind
block_fault true captures = Some QueryNotFlat
block_fault false true = Some QueryCapture
block_fault false false = None

-- one of the nodes behind that one, so many, is odd or calls a marked helper
abbrev pub some_odd : List Bool → ℕ → ℕ → Bool
some_odd odd number nodes = list_any (λ one. one) (behind number nodes odd)

-- they capture something that isn't flat
abbrev pub captured_odd : List Ground → List Site → ℕ → ℕ → Bool
captured_odd types sites number nodes = captures_odd types number (behind number nodes sites)

abbrev pub equality_fault : List Ground → ℕ → Option ShapeKind
equality_fault types operand = if has_function (type_at types operand) then Some EqualityAtFunction else None

abbrev pub order_fault : List Ground → ℕ → Option ShapeKind
order_fault types operand = if is_base (type_at types operand) then None else Some OrderAtNonBase

module _ (types : List Ground) (sites : List Site) (odd : List Bool) where
  abbrev pub fault_of : Site → Kind → Option ShapeKind
  fault_of s (Equality operand) = equality_fault types operand
  fault_of s (Order operand) = order_fault types operand
  fault_of s (Query nodes) = block_fault (is_odd types s || some_odd odd s.number nodes) (captured_odd types sites s.number nodes)
  fault_of s (Change nodes) = block_fault (some_odd odd s.number nodes) (captured_odd types sites s.number nodes)
  fault_of s _ = None

-- a fault with its place
abbrev pub placed : Span → Option ShapeKind → Option (ShapeKind × Span)
placed at None = None
placed at (Some kind) = Some (kind, at)

module _ (types : List Ground) (all : List Site) (odd : List Bool) where
  abbrev pub first_fault : List Site → Option (ShapeKind × Span)
  first_fault [] = None
  first_fault (s ∷ sites) = option_or (placed s.span (fault_of types all odd s s.kind)) (first_fault sites)

-- the first in an instance with these calls
abbrev pub body_fault : List Bool → Body → List ℕ → Option (ShapeKind × Span)
body_fault marks held calls = first_fault held.types (shown held.member.now.sites) (odd_nodes held.types marks (shown held.member.now.sites) calls) (shown held.member.now.sites)

-- the first of instances
abbrev pub first_of : List Bool → List Body → List (List ℕ) → Option (ShapeKind × Span)
first_of marks [] calls = None
first_of marks (held ∷ bodies) [] = None
first_of marks (held ∷ bodies) (places ∷ calls) = option_or (body_fault marks held places) (first_of marks bodies calls)

-- ---- the answer

-- what is found is the first of the instances that is refused, if one is
abbrev pub Answers : List Instance → List Instance → Option (ShapeKind × Span) → Type 0
Answers helpers mains None = Each (IsShaped helpers) mains
Answers helpers mains (Some found) = FirstRefused helpers mains found.0 found.1
