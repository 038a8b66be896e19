-- Programs in which each use of a function begins at a place of its own in the body that it stands in.
use Rattle.std.specs.Prelude.{List, map}
use Rattle.lk_ast.specs.declared.declaration.FunDef.{FunDef}
use Rattle.lk_ast.specs.declared.declaration.Program.{Program}
use Rattle.lk_ground.specs.Sites.{uses_in}
use Rattle.lk_index.specs.Places.{AreApart}
use Rattle.lk_sound.specs.Within.{IsFunctionOf}

abbrev pub AreUsesApart : Program → Type 0
AreUsesApart p = (f : FunDef) → IsFunctionOf p f → AreApart (map (λ u. u.site) (uses_in f.body))
