-- An object that is refused for no member has rows for each table.
use Rattle.std.proofs.Common.{◌≡◌, ◌≤◌, ℕ, List, [], ◌∷◌, length, Bool, true, false, Option, Some, None, option_map, if◌then◌else◌, nat_lt, Ordering, Less, Equal, Greater, is_eq, is_some, refl, sym, ap, ◌∙◌, subst, true≢false, arith}
use Rattle.std.proofs.lemmas.Bool.Decides.{nat_tests}
use Rattle.std.specs.Prelude.{option_and_then, unwrap_or, IfSome, IsSomeAnd}
use Rattle.std.specs.List.{AllZip}
use Rattle.std.specs.Option.{option_or}
use Rattle.std.specs.Ordering.{nat_cmp, match_ordering}
use Rattle.std.specs.Cmp.Lexicographic.{slice_cmp}
use Rattle.std.proofs.lemmas.Map.Text.{is_eq-slice_cmp}
use Rattle.std.proofs.lemmas.Slice.Eq.{bytes_eq-Decides}
use Rattle.serde_json.specs.Data.{Data, null, boolean, number, string, array, object, Members, no_members, member}
use Rattle.serde_json.specs.Find.{get, get_member}
use Rattle.lk_ast.specs.Limits.{most_rows}
use Rattle.lk_ast.specs.Tables.{all_fit}
use Rattle.lk_ast.specs.declared.table.Row.{Row}
use Rattle.lk_ast.specs.declared.table.TableDef.{TableDef}
use Rattle.lk_ast.specs.declared.table.TableRows.{TableRows}
use Rattle.lk_tables.specs.declared.error.TablesError.{TablesError}
use Rattle.lk_tables.specs.declared.error.TablesError.TheVariants.{UnknownTable, TooManyRows}
use Rattle.lk_tables.specs.Choices.{first_some, all_some}
use Rattle.lk_tables.specs.Reading.{entries, rows_of, rows_refusal, table_refusal, member_refusal, object_refusal, table_of, AreRowsOf}
use Rattle.lk_tables.proofs.Fits.{rows_fit}

none_is_some : {X : Type 0} {x : X} → None ≡ Some x → ⊥
none_is_some {X} {x} e = true≢false (sym (ap is_some e))

-- no answer of the first, and none of the rest
no_first : {X : Type 0} (o p : Option X) → option_or o p ≡ None → o ≡ None
no_first None p e = refl
no_first (Some x) p e = e

no_later : {X : Type 0} (o p : Option X) → option_or o p ≡ None → p ≡ None
no_later None p e = e
no_later (Some x) p e = absurd (none_is_some (sym e))

-- no member is refused
abbrev NoneRefused : List TableDef → Members → Type 0
NoneRefused tables ms = (k : List ℕ) (e : Data) → get_member k ms ≡ Some e → member_refusal tables (k, e) ≡ None

found_here : (o : Ordering) (k l : List ℕ) (d e : Data) (rest : Option Data) (P : List ℕ → Data → Type 0) → slice_cmp nat_cmp k l ≡ o → match_ordering o rest (Some d) rest ≡ Some e
    → P l d → (rest ≡ Some e → P k e) → P k e
found_here Less k l d e rest P is found here later = later found
found_here Greater k l d e rest P is found here later = later found
found_here Equal k l d e rest P is found here later =
    let same : k ≡ l = (bytes_eq-Decides k l).0 (sym (is_eq-slice_cmp k l) ∙ ap is_eq is) in
    let equal : d ≡ e = ap (λ o. unwrap_or o d) found in
    subst (λ k. P k e) (sym same) (subst (P l) equal here)

none_refused : (tables : List TableDef) (ms : Members) → first_some (member_refusal tables) (entries ms) ≡ None → NoneRefused tables ms
none_refused tables no_members e k d found = absurd (none_is_some found)
none_refused tables (member l d ms) e k d' found =
    found_here _ k l d d' (get_member k ms) (λ k d. member_refusal tables (k, d) ≡ None) refl found
    (no_first _ _ e) (none_refused tables ms (no_later _ _ e) k d')

-- a member that isn't refused is refused by none of the tables
if_known : (b : Bool) (o : Option TablesError) → (if b then o else Some UnknownTable) ≡ None → o ≡ None
if_known true o e = e
if_known false o e = absurd (none_is_some (sym e))

-- rows, as many as a table may have
abbrev AreFew : Option (List Row) → Type 0
AreFew o = IsSomeAnd o (λ rows. length rows ≤ most_rows)

few_at : (b : Bool) → (if b then Some TooManyRows else None) ≡ None → b ≡ false
few_at true e = absurd (none_is_some (sym e))
few_at false e = refl

few : (o : Option (List Row)) → rows_refusal o ≡ None → AreFew o
few None e = absurd (none_is_some (sym e))
few (Some rows) e = let low : nat_lt most_rows (length rows) ≡ false = few_at _ e in grind (arith, nat_tests)

if_named : (b : Bool) (o : Option TablesError) → b ≡ true → (if b then o else None) ≡ None → o ≡ None
if_named true o is e = e
if_named false o is e = absurd (true≢false (sym is))

-- what is found for the first table, and for the others
few_found : (table : TableDef) (found : Option Data) → ((e : Data) → found ≡ Some e → rows_refusal (rows_of table.columns e) ≡ None) → AreFew (unwrap_or (option_map (rows_of table.columns) found) (Some []))
few_found table None accepted = omega arith
few_found table (Some e) accepted = few _ (accepted e refl)

fits_found : (table : TableDef) (found : Option Data) → IfSome (unwrap_or (option_map (rows_of table.columns) found) (Some [])) (λ rows. all_fit table rows ≡ true)
fits_found table None = refl
fits_found table (Some e) = rows_fit table.columns e

abbrev AreRead : Data → List TableDef → Type 0
AreRead d tables = IsSomeAnd (all_some (table_of d) tables) (AllZip AreRowsOf tables)

read_next : (d : Data) (table : TableDef) (tables : List TableDef) (rows : Option (List Row)) (read : Option (List TableRows)) → AreFew rows → IfSome rows (λ rows. all_fit table rows ≡ true)
    → IsSomeAnd read (AllZip AreRowsOf tables)
    → IsSomeAnd (option_and_then (λ y. option_map (λ ys. y ∷ ys) read) (option_map {U = TableRows} (λ rows. record { name = table.name; rows = rows }) rows)) (AllZip AreRowsOf (table ∷ tables))
read_next d table tables None read low fit later = absurd low
read_next d table tables (Some rows) None low fit later = absurd later
read_next d table tables (Some rows) (Some read) low fit later = ((refl, fit, low), later)

all_read : (d : Data) (tables : List TableDef) → ((k : List ℕ) (e : Data) → get k d ≡ Some e → first_some (table_refusal k e) tables ≡ None) → AreRead d tables
all_read d [] accepted = tt
all_read d (table ∷ tables) accepted =
    read_next d table tables _ _
    (few_found table (get table.name d) (λ e found. if_named _ _ ((bytes_eq-Decides table.name table.name).1 refl) (no_first _ _ (accepted table.name e found))))
    (fits_found table (get table.name d))
    (all_read d tables (λ k e found. no_later _ _ (accepted k e found)))

-- what is read of an object that isn't refused
accepted_read : (tables : List TableDef) (d : Data) → object_refusal tables d ≡ None → AreRead d tables
accepted_read tables (object ms) e = all_read (object ms) tables (λ k d found. if_known _ _ (none_refused tables ms e k d found))
accepted_read tables null e = all_read null tables (λ k d found. absurd (none_is_some found))
accepted_read tables (boolean b) e = all_read (boolean b) tables (λ k d found. absurd (none_is_some found))
accepted_read tables (number n) e = all_read (number n) tables (λ k d found. absurd (none_is_some found))
accepted_read tables (string s) e = all_read (string s) tables (λ k d found. absurd (none_is_some found))
accepted_read tables (array ds) e = all_read (array ds) tables (λ k d found. absurd (none_is_some found))

pub accepted_fit : (tables : List TableDef) (d : Data) (read : List TableRows) → object_refusal tables d ≡ None → all_some (table_of d) tables ≡ Some read → AllZip AreRowsOf tables read
accepted_fit tables d read e is = subst (λ o. IsSomeAnd o (AllZip AreRowsOf tables)) is (accepted_read tables d e)

pub not_accepted : (tables : List TableDef) (d : Data) → object_refusal tables d ≡ None → all_some (table_of d) tables ≡ None → ⊥
not_accepted tables d e is = subst (λ o. IsSomeAnd o (AllZip AreRowsOf tables)) is (accepted_read tables d e)
