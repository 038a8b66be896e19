-- In a program whose names are bound no name in what acts on tables has a fault.
use Rattle.std.proofs.Common.{◌≡◌, sym, ◌∙◌, List, [], ◌∷◌, None}
use Rattle.lk_ast.specs.Functions.{functions_of}
use Rattle.lk_ast.specs.Layers.{layer}
use Rattle.lk_ast.specs.declared.declaration.Program.{Program}
use Rattle.lk_ast.specs.declared.expression.Expr.{Expr}
use Rattle.lk_bag.specs.Blocks.{blocks_of}
use Rattle.lk_names.specs.Expressions.{fault, node_in}
use Rattle.lk_names.specs.Programs.{IsBound}
use Rattle.lk_sound.proofs.Apart.{bodies_faultless}
use Rattle.lk_sound.proofs.BlocksInside.{bodies_blocks}
use Rattle.lk_sound.proofs.Faultless.{HasNoFault, IsFaultless, fault_level, inside_faultless, mapped}
use Rattle.lk_sound.proofs.Inside.{insides}
use Rattle.lk_types.specs.Each.{Each}

-- what a fault of the names in an expression is by its form
pub level_fine : (e : Expr) (none : HasNoFault e) → node_in none.0 (mapped none.0 (layer e)) e.span none.1.0 ≡ None
level_fine e none = sym (fault_level none.0 e none.1.0) ∙ none.1.1

insides_fine : (e : Expr) → HasNoFault e → Each HasNoFault (insides (layer e))
insides_fine e none = each_of (insides (layer e)) (inside_faultless none.0 (layer e) e.span none.1.0 (level_fine e none))
  where
    each_of : (es : List Expr) → Each (IsFaultless none.0) es → Each HasNoFault es
    each_of [] all = tt
    each_of (d ∷ es) all = ((none.0, all.0), each_of es all.1)

pub blocks_fine : (p : Program) → IsBound p → Each HasNoFault (blocks_of p)
blocks_fine p bound = bodies_blocks HasNoFault insides_fine (functions_of p) (bodies_faultless p bound)
