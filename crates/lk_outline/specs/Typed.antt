-- An outline with types: what the nodes of an outline are where the nodes have these ground types, in text order, in a
-- function with these effects.
use Rattle.std.specs.Prelude.{ℕ, ◌+◌, List, [], ◌∷◌, Option, Some, None, map, take, drop, slice_get, nat_le, if◌then◌else◌}
use Rattle.std.specs.List.{flat_map}
use Rattle.lk_types.specs.declared.ground.Ground.{Ground, out-Ground}
use Rattle.lk_types.specs.declared.ground.Ground.TheOpen.{Ground-F}
use Rattle.lk_types.specs.declared.ground.Ground.TheVariants as known
use Rattle.lk_types.specs.declared.ground.GroundField.{GroundField}
use Rattle.lk_types.specs.declared.ty.Effect.{Effect}
use Rattle.lk_types.specs.declared.ty.Effect.TheVariants as effect
use Rattle.lk_sound.specs.Nodes.{Use, Comparison, Part, Block, TypedNode}
use Rattle.lk_sound.specs.Nodes as node
use Rattle.lk_outline.specs.Outline.{Around, Kind, Site, Function, Lambda, Call, Equality, Order, Name, Query, Change}

abbrev pub or_unit : Option Ground → Ground
or_unit None = known.Fields []
or_unit (Some t) = t

-- the type of the node of that number
abbrev pub type_at : List Ground → ℕ → Ground
type_at types n = or_unit (slice_get types n)

abbrev pub effects_in : Ground-F Ground GroundField → List Effect
effects_in (Ground-F.Fun params effects answer) = effects
effects_in other = []

module _ (own : List Effect) (types : List Ground) where
  abbrev pub effects_around : Around → List Effect
  effects_around Function = own
  effects_around (Lambda n) = effects_in (out-Ground (type_at types n))
  effects_around Query = effect.Scan ∷ []
  effects_around Change = []

  abbrev pub used : Site → Kind → Option Use
  used s (Function g) = Some (record { name = g; type = type_at types s.number })
  used s (Call g args) = Some (record { name = g; type = known.Fun (map (type_at types) args) (effects_around s.around) (type_at types s.number) })
  used s _ = None

  abbrev pub compared : Kind → Option Comparison
  compared (Equality operand) = Some (node.Equality (type_at types operand))
  compared (Order operand) = Some (node.Order (type_at types operand))
  compared _ = None

  abbrev pub part_at : Site → Part
  part_at s = record { span = s.span; type = type_at types s.number; use_of = used s s.kind; compares = compared s.kind; inside = s.inside }

  -- the type of a name that is bound before the node of that number, if it is such a name
  abbrev pub captured_at : ℕ → Site → Kind → List Ground
  captured_at n s (Name binder) = if nat_le binder n then type_at types s.number ∷ [] else []
  captured_at n s _ = []

  -- the types of the names that such a node captures with what stands in it
  abbrev pub captured_in : ℕ → List Site → List Ground
  captured_in n sites = flat_map (λ (s : Site). captured_at n s s.kind) sites

  module _ (sites : List Site) where
    -- that many nodes behind a node
    abbrev pub behind : ℕ → ℕ → List Site
    behind n nodes = take nodes (drop (1 + n) sites)

    abbrev pub block_at : Site → Kind → Option Block
    block_at s (Query nodes) = Some (record { parts = part_at s ∷ map part_at (behind s.number nodes); captured = captured_in s.number (behind s.number nodes) })
    block_at s (Change nodes) = Some (record { parts = map part_at (behind s.number nodes); captured = captured_in s.number (behind s.number nodes) })
    block_at s _ = None

    abbrev pub node_at : Site → TypedNode
    node_at s = record { part = part_at s; block = block_at s s.kind }

-- the nodes of an outline
abbrev pub typed_nodes : List Effect → List Ground → List Site → List TypedNode
typed_nodes own types sites = map (node_at own types sites) sites
