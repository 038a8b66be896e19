-- The functions of a program, and where a session begins.
use Rattle.std.specs.Prelude.{ℕ, Bool, true, false, List, [], ◌∷◌, Option, ◌&&◌, ◌==◌, bytes_eq, length, find, codes}
use Rattle.std.specs.List.{flat_map}
use Rattle.lk_ast.specs.declared.declaration.Decl.{Decl}
use Rattle.lk_ast.specs.declared.declaration.Decl.TheVariants.{Table, Fun, Mutual}
use Rattle.lk_ast.specs.declared.declaration.FunDef.{FunDef}
use Rattle.lk_ast.specs.declared.declaration.Program.{Program}
use Rattle.lk_ast.specs.declared.place.Loc.{Loc}
use Rattle.lk_ast.specs.declared.place.Loc.TheVariants.{Client}

abbrev pub functions_in : Decl → List FunDef
functions_in (Table table) = []
functions_in (Fun function) = function ∷ []
functions_in (Mutual functions) = functions

-- the functions of a program in text order
abbrev pub functions_of : Program → List FunDef
functions_of program = flat_map functions_in program.decls

abbrev pub is_named : List ℕ → FunDef → Bool
is_named name f = bytes_eq f.name.text name

-- the first function of that name
abbrev pub function_named : Program → List ℕ → Option FunDef
function_named program name = find (is_named name) (functions_of program)

abbrev pub is_client : Loc → Bool
is_client Client = true
is_client _ = false

-- where a session begins: a function `main` with one parameter and the mark of the client
abbrev pub is_main : FunDef → Bool
is_main f = is_named (codes "main") f && (length f.params == 1) && is_client f.place

abbrev pub main_of : Program → Option FunDef
main_of program = find is_main (functions_of program)
