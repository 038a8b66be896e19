-- In a program whose names are bound the tables have names of their own.
use Rattle.std.proofs.Common.{◌≡◌, ◌∙◌, refl, sym, ap, ap₂, true, false, ◌&&◌, ◌||◌, not, ℕ, List, [], ◌∷◌, map, flat_map, bytes_eq}
use Rattle.std.specs.Prelude.{None}
use Rattle.std.specs.List.{list_any}
use Rattle.std.specs.FinSet as set
use Rattle.std.specs.Ordering.{nat_cmp, eq_by_cmp}
use Rattle.std.specs.Cmp.Lexicographic.{slice_cmp}
use Rattle.std.proofs.lemmas.Cmp.{nat_list_cmp_total}
use Rattle.std.proofs.lemmas.Map.Text.{is_eq-slice_cmp}
use Rattle.std.proofs.lemmas.Bool.{or_parts}
use Rattle.lk_sound.proofs.Faultless.{neither as both_none}
use Rattle.lk_sound.proofs.NewNames.{once}
use Rattle.lk_ast.specs.Functions.{main_of}
use Rattle.lk_ast.specs.Tables.{table_def, table_defs, tables_in, tables_of}
use Rattle.lk_ast.specs.declared.declaration.Decl.{Decl}
use Rattle.lk_ast.specs.declared.declaration.Decl.TheVariants.{Table, Fun, Mutual}
use Rattle.lk_ast.specs.declared.declaration.Program.{Program}
use Rattle.lk_ast.specs.declared.declaration.TableDecl.{TableDecl}
use Rattle.lk_ast.specs.declared.place.Word.{Word}
use Rattle.lk_names.specs.Programs.{IsBound, decl_fault, decls_fault, main_fault, names_fault, names_of, no_globals, with_decl}
use Rattle.lk_names.specs.Repeats.{columns_fault, twice_fault}
use Rattle.lk_names.specs.declared.globals.Globals.{Globals}
use Rattle.lk_scope.specs.Names.{Names, no_names, is_local, bind, bind_all}
use Rattle.lk_tables.specs.Law.{are_distinct}
use Rattle.lk_types.specs.Each.{Each}
use Rattle.lk_cli.proofs.Putting.{name_of, turned}

-- ---- names that were not met before

abbrev AreUnmet : Names → List (List ℕ) → Type 0
AreUnmet met xs = Each (λ x. is_local met x ≡ false) xs

-- what isn't met behind a name isn't that name, and wasn't met before it
unmet : (met : Names) (y x : List ℕ) → is_local (set.insert met y) x ≡ false → (bytes_eq x y ≡ false) × (is_local met x ≡ false)
unmet met y x is =
    let halves = or_parts (eq_by_cmp (slice_cmp nat_cmp) x y) (is_local met x) (sym (set.contains-insert nat_list_cmp_total met y x) ∙ is) in
    (sym (is_eq-slice_cmp x y) ∙ halves.0, halves.1)

-- and neither was any of these
before : (met : Names) (y : List ℕ) (xs : List (List ℕ)) → AreUnmet (set.insert met y) xs → AreUnmet met xs
before met y [] are = tt
before met y (x ∷ xs) are = ((unmet met y x are.0).1, before met y xs are.1)

before_all : (words : List Word) (met : Names) (xs : List (List ℕ)) → AreUnmet (bind_all words met) xs → AreUnmet met xs
before_all [] met xs are = are
before_all (word ∷ words) met xs are = before met word.text xs (before_all words (bind word met) xs are)

others : (met : Names) (y : List ℕ) (xs : List (List ℕ)) → AreUnmet (set.insert met y) xs → list_any (bytes_eq y) xs ≡ false
others met y [] are = refl
others met y (x ∷ xs) are = ap₂ (λ a b. a || b) (turned y x ∙ (unmet met y x are.0).0) (others met y xs are.1)

-- ---- declarations

abbrev titles : List Decl → List (List ℕ)
titles decls = map (λ (table : TableDecl). table.name.text) (flat_map tables_in decls)

abbrev AreApart : Names → List (List ℕ) → Type 0
AreApart met xs = AreUnmet met xs × (are_distinct xs ≡ true)

decls_apart : (met : Names) (globals : Globals) (decls : List Decl) → decls_fault met globals decls ≡ None → AreApart met (titles decls)
decls_apart met globals [] none = (tt, refl)
decls_apart met globals (Table table ∷ decls) none =
    let faults = both_none (decl_fault met globals (Table table)) (decls_fault (bind table.name met) (with_decl (Table table) globals) decls) none in
    let new = once met table.name (both_none (twice_fault met table.name) (columns_fault table.columns) faults.0).0 in
    let behind = decls_apart (bind table.name met) (with_decl (Table table) globals) decls faults.1 in (
      (new, before met table.name.text (titles decls) behind.0),
      ap₂ (λ a b. not a && b) (others met table.name.text (titles decls) behind.0) behind.1,
    )
decls_apart met globals (Fun f ∷ decls) none =
    let faults = both_none (decl_fault met globals (Fun f)) (decls_fault (bind f.name met) (with_decl (Fun f) globals) decls) none in
    let behind = decls_apart (bind f.name met) (with_decl (Fun f) globals) decls faults.1 in
    (before met f.name.text (titles decls) behind.0, behind.1)
decls_apart met globals (Mutual fs ∷ decls) none =
    let words = names_of (Mutual fs) in
    let faults = both_none (decl_fault met globals (Mutual fs)) (decls_fault (bind_all words met) (with_decl (Mutual fs) globals) decls) none in
    let behind = decls_apart (bind_all words met) (with_decl (Mutual fs) globals) decls faults.1 in
    (before_all words met (titles decls) behind.0, behind.1)

same_titles : (tables : List TableDecl) → map name_of (map table_def tables) ≡ map (λ (table : TableDecl). table.name.text) tables
same_titles [] = refl
same_titles (table ∷ tables) = ap (λ xs. table.name.text ∷ xs) (same_titles tables)

pub tables_apart : (program : Program) → IsBound program → are_distinct (map name_of (table_defs program)) ≡ true
tables_apart program bound =
    let faults = both_none (names_fault program) (main_fault (main_of program)) bound in
    ap are_distinct (same_titles (tables_of program)) ∙ (decls_apart no_names no_globals program.decls faults.0).1
