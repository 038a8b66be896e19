-- In a program whose names are bound the tables have names of their own.
use Rattle.std.proofs.Common.{◌≡◌, refl, sym, ap, subst, ◌∙◌, Bool, true, false, List, [], ◌∷◌, map, flat_map, Some, None, if◌then◌else◌, inl, inr}
use Rattle.std.proofs.lemmas.Bool.{both_ways}
use Rattle.std.proofs.lemmas.Slice.Eq.{bytes_eq-Decides}
use Rattle.std.specs.Prelude.{bytes_eq, find}
use Rattle.lk_ast.specs.Functions.{main_of}
use Rattle.lk_ast.specs.Tables.{tables_in, table_def, table_defs, tables_of}
use Rattle.lk_ast.specs.declared.declaration.Decl.{Decl}
use Rattle.lk_ast.specs.declared.declaration.Decl.TheVariants.{Table, Fun, Mutual}
use Rattle.lk_ast.specs.declared.declaration.Program.{Program}
use Rattle.lk_ast.specs.declared.declaration.TableDecl.{TableDecl}
use Rattle.lk_ast.specs.declared.table.TableDef.{TableDef}
use Rattle.lk_names.specs.Programs.{IsBound, no_globals, with_decl, functions_named, table_fault, decl_fault, decls_fault, names_fault, main_fault}
use Rattle.lk_names.specs.Repeats.{twice_fault, columns_fault}
use Rattle.lk_names.specs.declared.globals.Globals.{Globals}
use Rattle.lk_scope.specs.Names.{Names, no_names, bind, bind_all}
use Rattle.lk_types.specs.Each.{OneOf}
use Rattle.lk_types.specs.Rows.{Label}
use Rattle.lk_sound.proofs.Faultless.{neither}
use Rattle.lk_sound.proofs.Names.{IsAmong, AreDistinct}
use Rattle.lk_sound.proofs.NewNames.{AreNew, bound_kept, fewer_met, new_distinct, once}

-- ---- declarations

abbrev name_text : TableDecl → Label
name_text table = table.name.text

decls_new : (declared : Names) (globals : Globals) (decls : List Decl) → decls_fault declared globals decls ≡ None → AreNew declared (map name_text (flat_map tables_in decls))
decls_new declared globals [] none = tt
decls_new declared globals (Table table ∷ decls) none =
    let both = neither (table_fault declared table) (decls_fault (bind table.name declared) (with_decl (Table table) globals) decls) none in
    let own = neither (twice_fault declared table.name) (columns_fault table.columns) both.0 in
    (once declared table.name own.0, decls_new (bind table.name declared) (with_decl (Table table) globals) decls both.1)
decls_new declared globals (Fun f ∷ decls) none =
    let behind : Names = bind f.name declared in
    let both = neither (decl_fault declared globals (Fun f)) (decls_fault behind (with_decl (Fun f) globals) decls) none in
    fewer_met declared behind (map name_text (flat_map tables_in decls)) (bound_kept (f.name ∷ []) declared) (decls_new behind (with_decl (Fun f) globals) decls both.1)
decls_new declared globals (Mutual fs ∷ decls) none =
    let behind : Names = bind_all (functions_named (Mutual fs)) declared in
    let both = neither (decl_fault declared globals (Mutual fs)) (decls_fault behind (with_decl (Mutual fs) globals) decls) none in
    fewer_met declared behind (map name_text (flat_map tables_in decls)) (bound_kept (functions_named (Mutual fs)) declared) (decls_new behind (with_decl (Mutual fs) globals) decls both.1)

-- ---- programs

abbrev pub def_name : TableDef → Label
def_name def = def.name

names_of_defs : (tables : List TableDecl) → map def_name (map table_def tables) ≡ map name_text tables
names_of_defs [] = refl
names_of_defs (table ∷ tables) = ap (λ l. table.name.text ∷ l) (names_of_defs tables)

-- no two tables have the same name
pub tables_apart : (p : Program) → IsBound p → AreDistinct (map def_name (table_defs p))
tables_apart p bound =
    let none : names_fault p ≡ None = (neither (names_fault p) (main_fault (main_of p)) bound).0 in
    subst AreDistinct (sym (names_of_defs (tables_of p))) (new_distinct no_names _ (decls_new no_names no_globals p.decls none))

-- ---- the table of a name

among_names : (defs : List TableDef) (def : TableDef) → OneOf (λ d. d ≡ def) defs → IsAmong def.name (map def_name defs)
among_names [] def one = one
among_names (d ∷ defs) def (inl is) = inl (ap def_name is)
among_names (d ∷ defs) def (inr later) = inr (among_names defs def later)

-- what is found by a name is the only one of that name
pub only_one : (defs : List TableDef) (x : Label) (def other : TableDef) → AreDistinct (map def_name defs) → find (λ (d : TableDef). bytes_eq d.name x) defs ≡ Some def
    → OneOf (λ d. d ≡ other) defs → other.name ≡ x → other ≡ def
only_one [] x def other apart found one same = absurd one
only_one (d ∷ defs) x def other apart found one same = by_test (bytes_eq d.name x) refl found one (λ f later. only_one defs x def other apart.1 f later same)
  where
    by_test : (b : Bool) → bytes_eq d.name x ≡ b → (if b then Some d else find (λ (e : TableDef). bytes_eq e.name x) defs) ≡ Some def → OneOf (λ e. e ≡ other) (d ∷ defs)
        → (find (λ (e : TableDef). bytes_eq e.name x) defs ≡ Some def → OneOf (λ e. e ≡ other) defs → other ≡ def) → other ≡ def
    by_test true is found (inl here) further = let it : d ≡ def = cc in sym here ∙ it
    by_test true is found (inr later) further =
        let named : d.name ≡ x = (bytes_eq-Decides d.name x).0 is in
        absurd (apart.0 (subst (λ y. IsAmong y (map def_name defs)) (same ∙ sym named) (among_names defs other later)))
    by_test false is found (inl here) further = absurd (both_ways (bytes_eq d.name x) is ((bytes_eq-Decides d.name x).1 (ap def_name here ∙ same)))
    by_test false is found (inr later) further = further found later
