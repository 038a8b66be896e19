-- The shapes that a ground program has, so that sessions can be shown and queries can be run by a database: the answer of
-- `main` has no function in it, functions aren't compared, only bases are put in order, and queries are flat (Cheney, Lindley
-- and Wadler, A practical theory of language-integrated query, 2013; Cooper, The script-writer's dream, 2009).
use Rattle.std.specs.Prelude.{◌≡◌, Bool, true, false, ◌&&◌, List, ◌∷◌, Some}
use Rattle.lk_ast.specs.declared.place.Span.{Span}
use Rattle.lk_ground_types.specs.Shapes.{has_function, is_base, is_flat, is_query_type}
use Rattle.lk_mono.specs.Instances.{Body}
use Rattle.lk_mono.specs.declared.error.ShapeKind.{ShapeKind}
use Rattle.lk_mono.specs.declared.error.ShapeKind.TheVariants.{MainType, EqualityAtFunction, OrderAtNonBase, QueryNotFlat, QueryCapture}
use Rattle.lk_sound.specs.Nodes.{Use, Equality, Order, Part, Block, TypedNode, may_compare, parts_of}
use Rattle.lk_types.specs.Each.{Each, OneOf}
use Rattle.lk_types.specs.declared.ground.Ground.{Ground, out-Ground}
use Rattle.lk_types.specs.declared.ground.Ground.TheOpen.{Ground-F}
use Rattle.lk_types.specs.declared.ground.GroundField.{GroundField}

-- whether it may stand in a query, an update or a deletion
abbrev pub is_flat_part : Part → Bool
is_flat_part part = is_query_type part.type && may_compare part.compares

abbrev pub IsUsedBy : Use → Part → Type 0
IsUsedBy u part = part.use_of ≡ Some u

abbrev pub IsOdd : Part → Type 0
IsOdd part = is_flat_part part ≡ false

module _ (helpers : List Body) where
  abbrev pub IsHelper : Use → List TypedNode → Type 0
  IsHelper u nodes = OneOf (λ body. body ≡ record { use_of = u; nodes = nodes }) helpers

  -- the instance is used in the body of the other, or in that of one that it uses, and so on
  pub data Reaches (u : Use) : Use → Type 0 where
    itself : Reaches u u
    further : {v w : Use} (nodes : List TypedNode) → Reaches u v → IsHelper v nodes → OneOf (IsUsedBy w) (parts_of nodes) → Reaches u w

  -- something in it, or in a helper that it reaches, can't stand in a query, an update or a deletion
  pub data IsNotFlat (block : Block) : Type 0 where
    itself : OneOf IsOdd block.parts → IsNotFlat block
    reached : {u v : Use} (nodes : List TypedNode) → OneOf (IsUsedBy u) block.parts → Reaches u v → IsHelper v nodes → OneOf IsOdd (parts_of nodes) → IsNotFlat block

  -- what a node is refused for; a block that isn't flat isn't asked what it captures
  pub data Fault (node : TypedNode) : ShapeKind → Type 0 where
    equality : {t : Ground} → node.part.compares ≡ Some (Equality t) → has_function t ≡ true → Fault node EqualityAtFunction
    order : {t : Ground} → node.part.compares ≡ Some (Order t) → is_base t ≡ false → Fault node OrderAtNonBase
    not_flat : {block : Block} → node.block ≡ Some block → IsNotFlat block → Fault node QueryNotFlat
    captures : {block : Block} → node.block ≡ Some block → (IsNotFlat block → ⊥) → OneOf (λ t. is_flat t ≡ false) block.captured → Fault node QueryCapture

  abbrev pub IsFaultless : TypedNode → Type 0
  IsFaultless node = (kind : ShapeKind) → Fault node kind → ⊥

  -- the first of the nodes that is refused, and for what
  pub data FirstFault : List TypedNode → ShapeKind → Span → Type 0 where
    here : {node : TypedNode} {nodes : List TypedNode} {kind : ShapeKind} → Fault node kind → FirstFault (node ∷ nodes) kind node.part.span
    later : {node : TypedNode} {nodes : List TypedNode} {kind : ShapeKind} {at : Span} → IsFaultless node → FirstFault nodes kind at → FirstFault (node ∷ nodes) kind at

  abbrev pub IsShaped : Body → Type 0
  IsShaped body = Each IsFaultless body.nodes

  -- the first of the instances in which something is refused
  pub data FirstRefused : List Body → ShapeKind → Span → Type 0 where
    here : {body : Body} {bodies : List Body} {kind : ShapeKind} {at : Span} → FirstFault body.nodes kind at → FirstRefused (body ∷ bodies) kind at
    later : {body : Body} {bodies : List Body} {kind : ShapeKind} {at : Span} → IsShaped body → FirstRefused bodies kind at → FirstRefused (body ∷ bodies) kind at

-- the type of what a function answers has a function in it
abbrev pub answer_level : Ground-F Ground GroundField → Bool
answer_level (Ground-F.Fun params effects answer) = has_function answer
answer_level other = false

abbrev pub answers_function : Ground → Bool
answers_function t = answer_level (out-Ground t)

-- the shapes of a ground program with these instances, of which the first is that of `main`
pub data AreShaped (mains helpers : List Body) : Type 0 where
  shaped : {main : Body} {others : List Body} → mains ≡ main ∷ others → answers_function main.use_of.type ≡ false → Each (IsShaped helpers) mains → AreShaped mains helpers

-- what it is refused for, and where; `main` is the place of the name of the first
pub data IsMisshapen (main_at : Span) (mains helpers : List Body) : ShapeKind → Span → Type 0 where
  main : {main : Body} {others : List Body} → mains ≡ main ∷ others → answers_function main.use_of.type ≡ true → IsMisshapen main_at mains helpers MainType main_at
  other : {main : Body} {others : List Body} {kind : ShapeKind} {at : Span} → mains ≡ main ∷ others → answers_function main.use_of.type ≡ false → FirstRefused helpers mains kind at → IsMisshapen main_at mains helpers kind at
