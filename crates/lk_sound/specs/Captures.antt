-- What queries, updates and deletions capture where a program is evaluated: values of the types that the local names have there.
use Rattle.std.specs.Prelude.{◌≡◌, ℕ, Bool, true, false, List, [], ◌∷◌, Some}
use Rattle.lk_ast.specs.Layers.{Layer, layer}
use Rattle.lk_ast.specs.declared.declaration.Program.{Program}
use Rattle.lk_ast.specs.declared.expression.Expr.{Expr}
use Rattle.lk_ast.specs.declared.expression.Node.TheOpen.{Node-F}
use Rattle.lk_ast.specs.declared.value.Value.{Value}
use Rattle.lk_bag.specs.Blocks.{block_at}
use Rattle.lk_bag.specs.Legal.{captured_in}
use Rattle.lk_index.specs.Free.{free, free_change}
use Rattle.lk_locals.specs.Names.{Names, lookup, lookup_all}
use Rattle.lk_scope.specs.Names.{no_names}
use Rattle.lk_types.specs.Each.{OneOf}
use Rattle.lk_types.specs.Rows.{Label}
use Rattle.lk_types.specs.declared.ground.Ground.{Ground}
use Rattle.lk_sound.specs.Instances.{Instances}
use Rattle.lk_sound.specs.Nodes.{Block, TypedNode}
use Rattle.lk_sound.specs.Values.{Fits}

-- a query, an update or a deletion
abbrev pub is_block : Layer → Bool
is_block (Node-F.Query keys body) = true
is_block (Node-F.Update change) = true
is_block (Node-F.Delete change) = true
is_block other = false

-- the names that it captures, in text order, once for each time that one stands there
abbrev pub free_in : Layer → List Label
free_in (Node-F.Query keys body) = free body no_names
free_in (Node-F.Update change) = free_change change no_names
free_in (Node-F.Delete change) = free_change change no_names
free_in other = []

-- these names have values of these types, one by one
abbrev pub HaveValuesOf : Program → Instances → Names → List Label → List Ground → Type 0
HaveValuesOf p i names [] [] = Unit {0}
HaveValuesOf p i names (x ∷ xs) (t ∷ ts) = ((v : Value) × (lookup names x ≡ Some v) × Fits p i v t) × HaveValuesOf p i names xs ts
HaveValuesOf p i names xs ts = ⊥

-- The block is one of an instance, and it captured these values of local names: each name has a value of the type that the instance
-- tells of it.
pub record HasCaptured (p : Program) (i : Instances) (block : Expr) (args : List Value) : Type 0 where
  pub node : TypedNode
  pub listed : OneOf (λ other. other ≡ node) i.nodes
  pub span : node.part.span ≡ block.span
  pub outside : node.part.inside ≡ false
  pub its : Block
  pub is : node.block ≡ Some its
  pub names : Names
  pub values : lookup_all names (captured_in block) ≡ Some args
  pub fit : HaveValuesOf p i names (free_in (layer block)) its.captured

-- if a query, an update or a deletion begins at this place, it captured these values
abbrev pub Captures : Program → Instances → ℕ → List Value → Type 0
Captures p i site args = (block : Expr) → block_at p site ≡ Some block → is_block (layer block) ≡ true → HasCaptured p i block args
