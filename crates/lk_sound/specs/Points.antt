-- Points of a program's evaluation that have a type, where functions are used at these instances: the expression has it by the
-- rules, with such nodes in it, and its local names have values of their types.
use Rattle.std.specs.Prelude.{◌≡◌, false, List, Some}
use Rattle.lk_ast.specs.declared.declaration.Program.{Program}
use Rattle.lk_ast.specs.declared.value.Value.{Value}
use Rattle.lk_ast.specs.declared.expression.Expr.{Expr}
use Rattle.lk_bag.specs.Blocks.{blocks_in, blocks_of}
use Rattle.lk_evaluation.specs.Source.{Point}
use Rattle.lk_locals.specs.Names.{Names, lookup}
use Rattle.lk_types.specs.Each.{Each, OneOf}
use Rattle.lk_types.specs.Rows.{Label, EffectSet}
use Rattle.lk_types.specs.declared.ground.Ground.{Ground}
use Rattle.lk_typing.specs.Names.{Named, named, Entry}
use Rattle.lk_ast.specs.Tables.{tables_of}
use Rattle.lk_typing.specs.Typing.{HasType}
use Rattle.lk_sound.specs.Instances.{Instances, IsFine}
use Rattle.lk_sound.specs.Nodes.{nodes_of}
use Rattle.lk_sound.specs.Values.{Fits}
use Rattle.lk_sound.specs.Within.{IsWithin}

-- each name that has a type has a value of it
abbrev pub AreLocals : Program → Instances → Named Ground → Names → Type 0
AreLocals p i types names = (x : Label) (t : Ground) → named x types ≡ Some t → (v : Value) × (lookup names x ≡ Some v) × Fits p i v t

-- queries, updates and the like in an expression are some of the program
abbrev pub AreBlocksOf : Program → Expr → Type 0
AreBlocksOf p e = Each (λ block. OneOf (λ other. other ≡ block) (blocks_of p)) (blocks_in e)

-- the point has this type, in a function with these effects
pub record IsPoint (p : Program) (i : Instances) (effects : EffectSet) (t : Ground) (point : Point) : Type 0 where
  pub functions : Named (Entry Ground)
  pub locals : Named Ground
  pub inside : List Ground
  pub typed : HasType functions (tables_of p) locals effects point.expr t inside
  pub fine : Each (IsFine i) (nodes_of false typed)
  pub fit : AreLocals p i locals point.names
  pub within : IsWithin p point.expr
  pub blocks : AreBlocksOf p point.expr
