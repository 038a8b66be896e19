-- What a store has once the declared tables are loaded, where no two have one name.
use Rattle.std.proofs.Common.{◌≡◌, ◌∙◌, refl, sym, ap, subst, true≢false, Bool, true, false, not, ℕ, List, [], ◌∷◌, map, find, bytes_eq, if◌then◌else◌}
use Rattle.std.specs.Prelude.{Option, Some, None, option_map, IfSome, IsSome}
use Rattle.std.specs.List.{AllZip, list_any}
use Rattle.std.proofs.lemmas.Bool.{and_parts, or_parts, not-true}
use Rattle.lk_ast.specs.Tables.{Tables, all_fit, rows_of, table_defs}
use Rattle.lk_ast.specs.declared.declaration.Program.{Program}
use Rattle.lk_ast.specs.declared.table.Row.{Row}
use Rattle.lk_ast.specs.declared.table.TableDef.{TableDef}
use Rattle.lk_ast.specs.declared.table.TableRows.{TableRows}
use Rattle.lk_bag.specs.Change.{with_rows}
use Rattle.lk_sound.specs.Tables.{AreTables}
use Rattle.lk_sound.proofs.Bindings.{same_bytes}
use Rattle.lk_tables.specs.Law.{are_distinct}
use Rattle.lk_tables.proofs.Puts.{itself}
use Rattle.lk_types.specs.Each.{Each}
use Rattle.lk_cli.proofs.Putting.{name_of, turned}
use Rattle.lk_cli.specs.Loading.{IsOfTable, all_put, loaded_over, rows_if}

abbrev pub AreDistinct : List TableDef → Type 0
AreDistinct defs = are_distinct (map name_of defs) ≡ true

-- the first definition of that name
abbrev found : List TableDef → List ℕ → Option TableDef
found defs x = find (λ (def : TableDef). bytes_eq def.name x) defs

-- none of these has that name
abbrev IsNew : List ℕ → List TableDef → Type 0
IsNew x defs = list_any (bytes_eq x) (map name_of defs) ≡ false

split : (def : TableDef) (defs : List TableDef) → AreDistinct (def ∷ defs) → IsNew def.name defs × AreDistinct defs
split def defs apart =
    let halves = and_parts (not (list_any (bytes_eq def.name) (map name_of defs))) (are_distinct (map name_of defs)) apart in
    (not-true (list_any (bytes_eq def.name) (map name_of defs)) halves.0, halves.1)

unfound : (x : List ℕ) (defs : List TableDef) → IsNew x defs → found defs x ≡ None
unfound x [] new = refl
unfound x (def ∷ defs) new =
    let halves = or_parts (bytes_eq x def.name) (list_any (bytes_eq x) (map name_of defs)) new in
    ap (λ b. if b then Some def else found defs x) (turned def.name x ∙ halves.0) ∙ unfound x defs halves.1

-- ---- the tables

module _ (def : TableDef) (defs : List TableDef) (table : TableRows) (tables : List TableRows) (same : table.name ≡ def.name) (new : IsNew def.name defs) (old : Tables) where
  one_more : (x : List ℕ) (b : Bool) → bytes_eq def.name x ≡ b
      → rows_if (found defs x) (rows_of tables x) (with_rows table.name table.rows old x)
      ≡ rows_if (if b then Some def else found defs x) (if b then table.rows else rows_of tables x) (old x)
  one_more x true is =
      ap (λ o. rows_if o (rows_of tables x) (with_rows table.name table.rows old x)) (subst (λ y. found defs y ≡ None) (same_bytes def.name x is) (unfound def.name defs new))
      ∙ ap (λ b. if b then table.rows else old x) (ap (λ y. bytes_eq y x) same ∙ is)
  one_more x false is = ap (λ b. rows_if (found defs x) (rows_of tables x) (if b then table.rows else old x)) (ap (λ y. bytes_eq y x) same ∙ is)

  over : (x : List ℕ) → rows_if (found defs x) (rows_of tables x) (with_rows table.name table.rows old x) ≡ loaded_over (def ∷ defs) (table ∷ tables) old x
  over x = one_more x (bytes_eq def.name x) refl
      ∙ ap (λ b. rows_if (found (def ∷ defs) x) (if b then table.rows else rows_of tables x) (old x)) (sym (turned x table.name ∙ ap (λ y. bytes_eq y x) same))

put_over : (defs : List TableDef) (tables : List TableRows) → AllZip IsOfTable defs tables → AreDistinct defs → (old : Tables) (x : List ℕ) → all_put tables old x ≡ loaded_over defs tables old x
put_over [] [] are apart old x = refl
put_over [] (table ∷ tables) are apart old x = absurd are
put_over (def ∷ defs) [] are apart old x = absurd are
put_over (def ∷ defs) (table ∷ tables) are apart old x =
    let halves = split def defs apart in
    put_over defs tables are.1 halves.1 (with_rows table.name table.rows old) x ∙ over def defs table tables are.0.name halves.0 old x

told_over : (defs : List TableDef) (tables : List TableRows) → AllZip IsOfTable defs tables → are_distinct (map name_of defs) ≡ true → (told : Option Tables)
    → option_map (all_put tables) told ≡ option_map (loaded_over defs tables) told
told_over defs tables are apart None = refl
told_over defs tables are apart (Some old) = ap (λ t. Some t) (λ i x. put_over defs tables are apart old x i)

-- what a transaction leaves that begins, puts the tables and commits
pub told_loaded : (defs : List TableDef) (tables : List TableRows) → AllZip IsOfTable defs tables → are_distinct (map name_of defs) ≡ true → (old begun changed new : Option Tables)
    → begun ≡ old → changed ≡ option_map (all_put tables) begun → new ≡ changed → new ≡ option_map (loaded_over defs tables) old
told_loaded defs tables are apart old begun changed new begins puts commits = commits ∙ (puts ∙ (ap (option_map (all_put tables)) begins ∙ told_over defs tables are apart old))

-- ---- their rows fit

each_more : {A : Type 0} {P Q : A → Type 0} (xs : List A) → ((x : A) → P x → Q x) → Each P xs → Each Q xs
each_more [] more each = tt
each_more (x ∷ xs) more each = (more x each.0, each_more xs more each.1)

abbrev HasFit : List TableRows → TableDef → Type 0
HasFit tables def = all_fit def (rows_of tables def.name) ≡ true

behind : (table : TableRows) (tables : List TableRows) (x : List ℕ) (defs : List TableDef) → table.name ≡ x → IsNew x defs → Each (HasFit tables) defs → Each (HasFit (table ∷ tables)) defs
behind table tables x [] same new each = tt
behind table tables x (def ∷ defs) same new each =
    let halves = or_parts (bytes_eq x def.name) (list_any (bytes_eq x) (map name_of defs)) new in
    let other : bytes_eq def.name table.name ≡ false = turned def.name table.name ∙ ap (λ y. bytes_eq y def.name) same ∙ halves.0 in
    (ap (λ b. all_fit def (if b then table.rows else rows_of tables def.name)) other ∙ each.0, behind table tables x defs same halves.1 each.1)

each_fits : (defs : List TableDef) (tables : List TableRows) → AllZip IsOfTable defs tables → AreDistinct defs → Each (HasFit tables) defs
each_fits [] tables are apart = tt
each_fits (def ∷ defs) [] are apart = absurd are
each_fits (def ∷ defs) (table ∷ tables) are apart =
    let halves = split def defs apart in
    let here : bytes_eq def.name table.name ≡ true = ap (bytes_eq def.name) are.0.name ∙ itself def.name in (
      ap (λ b. all_fit def (if b then table.rows else rows_of tables def.name)) here ∙ are.0.columns,
      behind table tables def.name defs are.0.name halves.0 (each_fits defs tables are.1 halves.1),
    )

found_more : (def other : TableDef) (defs : List TableDef) (b : Bool) → IsSome (found defs other.name) → IsSome (if b then Some def else found defs other.name)
found_more def other defs true is = cc
found_more def other defs false is = is

each_found : (defs : List TableDef) → Each (λ (def : TableDef). IsSome (found defs def.name)) defs
each_found [] = tt
each_found (def ∷ defs) = (
  subst (λ b. IsSome (if b then Some def else found defs def.name)) (sym (itself def.name)) cc,
  each_more defs (λ other. found_more def other defs (bytes_eq def.name other.name)) (each_found defs),
)

each_pair : {A : Type 0} {P Q R : A → Type 0} (xs : List A) → ((x : A) → P x → Q x → R x) → Each P xs → Each Q xs → Each R xs
each_pair [] both ps qs = tt
each_pair (x ∷ xs) both ps qs = (both x ps.0 qs.0, each_pair xs both ps.1 qs.1)

fits_there : (def : TableDef) (o : Option TableDef) (rows others : List Row) → IsSome o → all_fit def rows ≡ true → all_fit def (rows_if o rows others) ≡ true
fits_there def (Some other) rows others is fits = fits
fits_there def None rows others is fits = absurd (true≢false (sym is))

loaded_fit : (defs : List TableDef) (tables : List TableRows) → AllZip IsOfTable defs tables → AreDistinct defs → (old : Tables) → Each (λ (def : TableDef). all_fit def (loaded_over defs tables old def.name) ≡ true) defs
loaded_fit defs tables are apart old =
    each_pair defs (λ def. fits_there def (found defs def.name) (rows_of tables def.name) (old def.name)) (each_found defs) (each_fits defs tables are apart)

-- where the tables are told, they fit the program
pub told_fit : (program : Program) (tables : List TableRows) (old new : Option Tables) → AllZip IsOfTable (table_defs program) tables → are_distinct (map name_of (table_defs program)) ≡ true
    → new ≡ option_map (loaded_over (table_defs program) tables) old → IfSome new (AreTables program)
told_fit program tables None new are apart is = subst (λ o. IfSome o (AreTables program)) (sym is) tt
told_fit program tables (Some old) new are apart is = subst (λ o. IfSome o (AreTables program)) (sym is) (loaded_fit (table_defs program) tables are apart old)
