-- The laws of places, for a program that a text stands for. Each function's name and each lambda begins at a place of its own,
-- and so does each use of a function in a body, and what reads or changes tables, also beside the lambdas. Each table has a column.
use Rattle.std.specs.Prelude.{ℕ, List, ◌++◌, map}
use Rattle.lk_ast.specs.Functions.{functions_of}
use Rattle.lk_ast.specs.Tables.{HaveColumns}
use Rattle.lk_ast.specs.declared.declaration.Program.{Program}
use Rattle.lk_ast.specs.declared.expression.Expr.{Expr}
use Rattle.lk_bag.specs.Blocks.{AreBlocksApart, blocks_of}
use Rattle.lk_ground.specs.UsesApart.{AreUsesApart}
use Rattle.lk_index.specs.Places.{AreApart, ArePlaced, PlacedLambda, lambdas_of}
use Rattle.lk_parse.specs.Refusals.{IsProgramText}

abbrev pub PlacesLaw : Type 0
PlacesLaw = (text : List ℕ) (program : Program) → IsProgramText text program → ArePlaced program

abbrev pub UsesLaw : Type 0
UsesLaw = (text : List ℕ) (program : Program) → IsProgramText text program → AreUsesApart program

abbrev pub BlocksLaw : Type 0
BlocksLaw = (text : List ℕ) (program : Program) → IsProgramText text program → AreBlocksApart program

-- the queries, readings of tables and changes in the bodies of a program and its lambdas begin each at a place of its own
abbrev pub AreMarksApart : Program → Type 0
AreMarksApart p = AreApart (map (λ (block : Expr). block.span.start) (blocks_of p) ++ map (λ (placed : PlacedLambda). placed.site) (lambdas_of (functions_of p)))

abbrev pub MarksLaw : Type 0
MarksLaw = (text : List ℕ) (program : Program) → IsProgramText text program → AreMarksApart program

abbrev pub ColumnsLaw : Type 0
ColumnsLaw = (text : List ℕ) (program : Program) → IsProgramText text program → HaveColumns program
