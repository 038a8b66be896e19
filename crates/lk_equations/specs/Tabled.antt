-- Tables under their names.
use Rattle.std.specs.Prelude.{◌≡◌, List, [], ◌∷◌}
use Rattle.lk_ast.specs.declared.declaration.TableDecl.{TableDecl}
use Rattle.lk_types.specs.Rows.{Label}
use denote.Ref.{Bor}

-- each table stands under its name
abbrev pub AreNamed : List (Label × Bor TableDecl) → Type 0
AreNamed [] = Unit {0}
AreNamed (e ∷ es) = (e.0 ≡ e.1.now.name.text) × AreNamed es
