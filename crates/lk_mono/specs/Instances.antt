-- The instances of a program: its functions at the ground types at which an evaluation that begins in `main` may use them
-- (monomorphisation: Weeks, Whole-program compilation in MLton, 2006). They stand in two lists, each in the order of a queue.
-- The first begins with `main`; the uses in each instance of the list in turn that stand outside of queries, updates and
-- deletions, and that the list lacks, are put behind the others in text order. The second has the helpers: what the
-- instances of the first list use inside of queries, updates and deletions, and all that helpers use.
use Rattle.std.specs.Prelude.{◌≡◌, ℕ, ◌+◌, ◌<◌, ◌≤◌, Bool, true, false, List, [], ◌∷◌, ◌++◌, Option, Some, None, length, map, slice_get, nat_le, not, if◌then◌else◌}
use Rattle.lk_ast.specs.Functions.{functions_of, function_named, main_of}
use Rattle.lk_ast.specs.declared.declaration.FunDef.{FunDef}
use Rattle.lk_ast.specs.declared.declaration.Program.{Program}
use Rattle.lk_ast.specs.declared.place.Span.{Span}
use Rattle.lk_ground_types.specs.Least.{least}
use Rattle.lk_ground_types.specs.Sizes.{ground_nodes}
use Rattle.lk_sound.specs.Nodes.{Use, TypedNode, nodes_of}
use Rattle.lk_principal.specs.Bodies.{IsTypedLeast, shares}
use Rattle.lk_types.specs.Each.{Each, OneOf}
use Rattle.lk_types.specs.Schemes.{IsInstance}
use Rattle.lk_types.specs.Sizes.{most_nodes}
use Rattle.lk_types.specs.declared.ground.Ground.{Ground}
use Rattle.lk_types.specs.declared.scheme.Scheme.{Scheme}
use Rattle.lk_types.specs.declared.ty.Ty.{Ty}

-- the most instances in both lists together
abbrev pub most_instances : ℕ
most_instances = 4096

-- ---- bodies

-- The nodes of the function of that name at that type. They have their principal types, where the least stands for each
-- variable of which the function's type says nothing.
pub record IsBody (p : Program) (schemes : List Scheme) (types : List Ty) (u : Use) (nodes : List TypedNode) : Type 0 where
  pub number : ℕ
  pub function : FunDef
  pub scheme : Scheme
  pub own : List Ty
  pub is : slice_get (functions_of p) number ≡ Some function
  pub named : function_named p u.name ≡ Some function
  pub has : slice_get schemes number ≡ Some scheme
  pub share : slice_get (shares (functions_of p) types) number ≡ Some own
  pub typed : IsTypedLeast p schemes function scheme own u.type
  pub are : nodes ≡ nodes_of false typed.is.typed.body

-- an instance with the nodes of its body
pub record Body : Type 0 where
  pub use_of : Use
  pub nodes : List TypedNode

abbrev pub uses_of : List Body → List Use
uses_of bodies = map (λ body. body.use_of) bodies

-- where a session begins, at its least type
pub record IsMain (p : Program) (schemes : List Scheme) (u : Use) : Type 0 where
  pub number : ℕ
  pub function : FunDef
  pub scheme : Scheme
  pub main : main_of p ≡ Some function
  pub is : slice_get (functions_of p) number ≡ Some function
  pub has : slice_get schemes number ≡ Some scheme
  pub name : u.name ≡ function.name.text
  pub instance : IsInstance least scheme u.type

-- ---- what an instance uses

abbrev pub fits : Ground → Bool
fits t = nat_le (ground_nodes t) most_nodes

-- the nodes before the first whose type is too large
abbrev pub before_large : List TypedNode → List TypedNode
before_large [] = []
before_large (node ∷ nodes) = if fits node.part.type then node ∷ before_large nodes else []

-- the place of that one, if there is one
abbrev pub first_large : List TypedNode → Option Span
first_large [] = None
first_large (node ∷ nodes) = if fits node.part.type then first_large nodes else Some node.part.span

-- which uses are looked for, by whether they stand inside a query, an update or a deletion
abbrev pub Wanted : Type 0
Wanted = Bool → Bool

abbrev pub outside : Wanted
outside inside = not inside

abbrev pub within_blocks : Wanted
within_blocks inside = inside

abbrev pub everywhere : Wanted
everywhere inside = true

abbrev pub with_use : Bool → Option Use → List Use → List Use
with_use true (Some u) rest = u ∷ rest
with_use _ _ rest = rest

-- these uses among the nodes, in text order
abbrev pub uses_among : Wanted → List TypedNode → List Use
uses_among wanted [] = []
uses_among wanted (node ∷ nodes) = with_use (wanted node.part.inside) node.part.use_of (uses_among wanted nodes)

-- ---- lists of instances

-- the use is of an instance in the list
abbrev pub IsListed : List Use → Use → Type 0
IsListed list u = OneOf (λ other. other ≡ u) list

-- A list with these uses behind it, each that it lacks, where both lists together, the other one having that many instances,
-- don't become too long.
pub data IsWith (others : ℕ) : List Use → List Use → List Use → Type 0 where
  nothing : {list : List Use} → IsWith others list [] list
  there : {list longer : List Use} {u : Use} {us : List Use} → IsListed list u → IsWith others list us longer → IsWith others list (u ∷ us) longer
  lacking : {list longer : List Use} {u : Use} {us : List Use} → (IsListed list u → ⊥) → others + length list < most_instances → IsWith others (list ++ u ∷ []) us longer → IsWith others list (u ∷ us) longer

-- with one of these uses they would become too long
pub data IsFull (others : ℕ) : List Use → List Use → Type 0 where
  now : {list : List Use} {u : Use} {us : List Use} → (IsListed list u → ⊥) → most_instances ≤ others + length list → IsFull others list (u ∷ us)
  there : {list : List Use} {u : Use} {us : List Use} → IsListed list u → IsFull others list us → IsFull others list (u ∷ us)
  lacking : {list : List Use} {u : Use} {us : List Use} → (IsListed list u → ⊥) → others + length list < most_instances → IsFull others (list ++ u ∷ []) us → IsFull others list (u ∷ us)

-- no use stands at two places of the list
abbrev pub AreDistinct : List Use → Type 0
AreDistinct list = (i j : ℕ) (u : Use) → slice_get list i ≡ Some u → slice_get list j ≡ Some u → i ≡ j

-- which instance is walked when that many have been, where the list is this one
abbrev pub Turn : Type 0
Turn = List Use → ℕ → Option Use

-- each of the list itself in turn
abbrev pub own_turn : Turn
own_turn list n = slice_get list n

-- each of another list in turn
abbrev pub turn_of : List Use → Turn
turn_of instances list n = slice_get instances n

module _ (p : Program) (schemes : List Scheme) (types : List Ty) (turn : Turn) (wanted : Wanted) (others : ℕ) where
  -- a list that began so, once that many instances have been walked
  pub data IsWalked (first : List Use) : ℕ → List Use → Type 0 where
    start : IsWalked first 0 first
    next : {n : ℕ} {list longer : List Use} {u : Use} {nodes : List TypedNode} → IsWalked first n list → turn list n ≡ Some u
        → IsBody p schemes types u nodes → first_large nodes ≡ None → IsWith others list (uses_among wanted nodes) longer → IsWalked first (1 + n) longer

  -- and then there is none left
  pub record IsDone (first list : List Use) : Type 0 where
    pub number : ℕ
    pub walked : IsWalked first number list
    pub none : turn list number ≡ None

  -- Both lists together would get too many instances in the turn of one of them.
  pub record EndsFull (first : List Use) : Type 0 where
    pub number : ℕ
    pub list : List Use
    pub walked : IsWalked first number list
    pub use_of : Use
    pub nodes : List TypedNode
    pub turned : turn list number ≡ Some use_of
    pub body : IsBody p schemes types use_of nodes
    pub full : IsFull others list (uses_among wanted (before_large nodes))

  -- a node of the instance whose turn it is has too large a type, and no node before it uses what is too much
  pub record EndsLarge (first : List Use) (at : Span) : Type 0 where
    pub number : ℕ
    pub list : List Use
    pub longer : List Use
    pub walked : IsWalked first number list
    pub use_of : Use
    pub nodes : List TypedNode
    pub turned : turn list number ≡ Some use_of
    pub body : IsBody p schemes types use_of nodes
    pub more : IsWith others list (uses_among wanted (before_large nodes)) longer
    pub large : first_large nodes ≡ Some at

module _ (p : Program) (schemes : List Scheme) (types : List Ty) where
  -- the instances that sessions may use, `main` first
  abbrev pub AreMains : List Use → Type 0
  AreMains mains = (u : Use) × IsMain p schemes u × IsDone p schemes types own_turn outside 0 (u ∷ []) mains

  -- what they use inside of queries, updates and deletions
  abbrev pub AreGathered : List Use → List Use → Type 0
  AreGathered mains gathered = IsDone p schemes types (turn_of mains) within_blocks (length mains) [] gathered

  -- the same with what helpers use
  abbrev pub AreHelpers : List Use → List Use → List Use → Type 0
  AreHelpers mains gathered helpers = IsDone p schemes types own_turn everywhere (length mains) gathered helpers

  abbrev pub HasBody : Body → Type 0
  HasBody body = IsBody p schemes types body.use_of body.nodes

  -- both lists with the bodies of the instances
  pub record AreInstances (mains helpers : List Body) : Type 0 where
    pub gathered : List Use
    pub first : AreMains (uses_of mains)
    pub inside : AreGathered (uses_of mains) gathered
    pub second : AreHelpers (uses_of mains) gathered (uses_of helpers)
    pub main_bodies : Each HasBody mains
    pub helper_bodies : Each HasBody helpers

  -- together they would get too many
  pub data AreTooMany : Type 0 where
    of_mains : {u : Use} → IsMain p schemes u → EndsFull p schemes types own_turn outside 0 (u ∷ []) → AreTooMany
    of_gathered : {mains : List Use} → AreMains mains → EndsFull p schemes types (turn_of mains) within_blocks (length mains) [] → AreTooMany
    of_helpers : {mains gathered : List Use} → AreMains mains → AreGathered mains gathered → EndsFull p schemes types own_turn everywhere (length mains) gathered → AreTooMany

  -- the first type that is too large is that of the node at this place
  pub data IsTooLarge (at : Span) : Type 0 where
    of_mains : {u : Use} → IsMain p schemes u → EndsLarge p schemes types own_turn outside 0 (u ∷ []) at → IsTooLarge at
    of_helpers : {mains gathered : List Use} → AreMains mains → AreGathered mains gathered → EndsLarge p schemes types own_turn everywhere (length mains) gathered at → IsTooLarge at
