-- The names of a program. A function's body sees the tables and functions before it in the text, itself, and all functions
-- of its `mutual` block: static scope, by the text alone (Aho, Lam, Sethi and Ullman, Compilers, 2006, section 1.6.3).
-- No name is declared twice.
use Rattle.std.specs.Prelude.{◌≡◌, List, [], ◌∷◌, ◌++◌, Option, Some, None, map, bytes_eq}
use Rattle.lk_ast.specs.Functions.{functions_in, main_of}
use Rattle.lk_ast.specs.declared.declaration.Decl.{Decl}
use Rattle.lk_ast.specs.declared.declaration.Decl.TheVariants.{Table, Fun, Mutual}
use Rattle.lk_ast.specs.declared.declaration.FunDef.{FunDef}
use Rattle.lk_ast.specs.declared.declaration.Program.{Program}
use Rattle.lk_ast.specs.declared.declaration.TableDecl.{TableDecl}
use Rattle.lk_ast.specs.declared.place.Word.{Word}
use Rattle.lk_ast.specs.declared.signature.Sig.{Sig}
use Rattle.lk_scope.specs.Names.{Names, no_names, bind, bind_all}
use Rattle.lk_names.specs.Expressions.{unless_bound, fault}
use Rattle.lk_names.specs.Faults.{Fault, first_of, StopsFor}
use Rattle.lk_names.specs.Repeats.{twice_fault, words_fault, columns_fault}
use Rattle.lk_names.specs.Types.{type_fault}
use Rattle.lk_names.specs.declared.error.NameError.{NameError}
use Rattle.lk_names.specs.declared.error.NameError.TheVariants.{NoMain}
use Rattle.lk_names.specs.declared.globals.Globals.{Globals}

-- ---- what a declaration declares

abbrev pub tables_named : Decl → List Word
tables_named (Table table) = table.name ∷ []
tables_named other = []

abbrev pub functions_named : Decl → List Word
functions_named decl = map (λ (f : FunDef). f.name) (functions_in decl)

abbrev pub names_of : Decl → List Word
names_of decl = tables_named decl ++ functions_named decl

-- no table and no function
abbrev pub no_globals : Globals
no_globals = record { tables = no_names; functions = no_names }

-- what is seen in a declaration and behind it, where these tables and functions are seen before it
abbrev pub with_decl : Decl → Globals → Globals
with_decl decl globals = record { tables = bind_all (tables_named decl) globals.tables; functions = bind_all (functions_named decl) globals.functions }

-- ---- faults, after these names have been declared and where these tables and functions are seen

-- a signature has the name of its function
abbrev pub sig_fault : Word → Option Sig → Fault
sig_fault name None = None
sig_fault name (Some sig) = first_of (unless_bound (bytes_eq sig.name.text name.text) sig.name.at) (type_fault sig.ty)

-- the parameters are seen in the body
abbrev pub function_fault : Names → Globals → FunDef → Fault
function_fault declared globals f =
    first_of (sig_fault f.name f.sig)
    (first_of (twice_fault declared f.name) (first_of (words_fault f.params) (fault globals f.body (bind_all f.params no_names))))

abbrev pub functions_fault : Names → Globals → List FunDef → Fault
functions_fault declared globals [] = None
functions_fault declared globals (f ∷ fs) = first_of (function_fault declared globals f) (functions_fault (bind f.name declared) globals fs)

abbrev pub table_fault : Names → TableDecl → Fault
table_fault declared table = first_of (twice_fault declared table.name) (columns_fault table.columns)

abbrev pub decl_fault : Names → Globals → Decl → Fault
decl_fault declared globals (Table table) = table_fault declared table
decl_fault declared globals (Fun f) = function_fault declared (with_decl (Fun f) globals) f
decl_fault declared globals (Mutual fs) = functions_fault declared (with_decl (Mutual fs) globals) fs

abbrev pub decls_fault : Names → Globals → List Decl → Fault
decls_fault declared globals [] = None
decls_fault declared globals (decl ∷ decls) =
    first_of (decl_fault declared globals decl) (decls_fault (bind_all (names_of decl) declared) (with_decl decl globals) decls)

-- ---- whole programs

-- the first fault of the names in a program
abbrev pub names_fault : Program → Fault
names_fault program = decls_fault no_names no_globals program.decls

-- a session needs a function to begin in
abbrev pub main_fault : Option FunDef → Fault
main_fault (Some main) = None
main_fault None = Some NoMain

-- what a program is refused for, if for anything
abbrev pub refusal_of : Program → Fault
refusal_of program = first_of (names_fault program) (main_fault (main_of program))

-- each name of the program is bound, none is there twice, and a session has a function to begin in
abbrev pub IsBound : Program → Type 0
IsBound program = refusal_of program ≡ None

-- a program is refused for this; want of memory has no cause
abbrev pub IsRefused : Program → NameError → Type 0
IsRefused program why = StopsFor why (refusal_of program)
