-- Blocks that were entered, one in another, and how they are left.
use Rattle.std.specs.Prelude.{ℕ, List, [], ◌∷◌, Option, Some, None}
use Rattle.lk_ast.specs.declared.place.Span.{Span}
use Rattle.lk_ast.specs.declared.place.Word.{Word}
use Rattle.lk_types.specs.declared.ty.Ty.{Ty}
use Rattle.lk_types.specs.declared.ty.Ty.TheVariants as ty
use Rattle.lk_typing.specs.Equations.{Own, own}
use Rattle.lk_typing.specs.Unknowns.{same, unit}
use Rattle.lk_walk.specs.Went.{left_by, named_by, unbound}
use Rattle.lk_walk.specs.declared.block.Block.{Block}
use Rattle.lk_walk.specs.declared.walker.Walker.{Walker}

-- what the first expression of a block names, if it names something
abbrev pub begun : Option Word → ℕ → Walker → Walker
begun None first s = s
begun (Some x) first s = named_by x.text (ty.Var first) s

abbrev pub block_of : Span → ℕ → Option Word → ℕ → Block
block_of at slot None first = record { span = at; slot = slot; first = Some first }
block_of at slot (Some x) first = record { span = at; slot = slot; first = None }

-- what is said of a block whose rest has this type
abbrev pub block_own : Option ℕ → Ty → ℕ → Own
block_own (Some first) t n = own t (same (ty.Var first) unit ∷ []) n
block_own None t n = own t [] n

abbrev pub unnamed : Option ℕ → Walker → Walker
unnamed (Some first) s = s
unnamed None s = unbound 1 s

abbrev pub block_left : Block → Ty → Walker → Walker
block_left b t s = left_by b.span b.slot (block_own b.first t s.next) (unnamed b.first s)

-- the outermost block comes first, and is left last; the type of the whole stands beside
abbrev pub blocks_left : List Block → Ty → Walker → Walker × Ty
blocks_left [] t s = (s, t)
blocks_left (b ∷ bs) t s = let inner : Walker × Ty = blocks_left bs t s in (block_left b inner.1 inner.0, ty.Var inner.0.next)
