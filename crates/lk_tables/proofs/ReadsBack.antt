-- Tables that are printed are read back.
use Rattle.std.proofs.Common.{◌≡◌, ◌≤◌, ℕ, List, [], ◌∷◌, map, length, nat_lt, Bool, true, false, ◌||◌, if◌then◌else◌, bytes_eq, Option, Some, None, option_map, All, Ordering, Less, Equal, Greater, is_eq, is_some, refl, sym, ap, ap₂, ◌∙◌, subst, true≢false, arith}
use Rattle.std.specs.Prelude.{option_and_then, unwrap_or, IsSomeAnd}
use Rattle.std.specs.List.{AllByRecursion, AllZip, list_all, list_any}
use Rattle.std.specs.Option.{option_or}
use Rattle.std.proofs.lemmas.Bool.Decides.{nat_tests}
use Rattle.std.proofs.lemmas.List.Sorted.{length_permutation}
use Rattle.std.proofs.lemmas.List.Sums.{AllPass-from_list_all}
use Rattle.std.proofs.lemmas.Slice.Eq.{bytes_eq-Decides}
use Rattle.serde_json.specs.Data.{Data, object, Members, no_members, member, put}
use Rattle.serde_json.specs.Find.{get, as_object}
use Rattle.serde_json.specs.Read.{read}
use Rattle.std.specs.Str.{IsUtf8}
use Rattle.lk_tables.proofs.Objects.{object_of}
use Rattle.std.specs.Ordering.{nat_cmp, match_ordering}
use Rattle.std.proofs.lemmas.Map.Text.{is_eq-slice_cmp}
use Rattle.std.specs.Cmp.Lexicographic.{slice_cmp}
use Rattle.std.specs.Cmp.{first_so, second_so}
use Rattle.std.proofs.lemmas.Bool.{or_right, not-true}
use Rattle.lk_ast.specs.JsonText.{Entry}
use Rattle.lk_ast.specs.Limits.{most_rows}
use Rattle.lk_ast.specs.Tables.{cells_fit}
use Rattle.lk_ast.specs.declared.table.Row.{Row}
use Rattle.lk_ast.specs.declared.table.TableDef.{TableDef}
use Rattle.lk_ast.specs.declared.table.TableRows.{TableRows}
use Rattle.lk_tables.specs.declared.error.TablesError.{TablesError}
use Rattle.lk_tables.specs.declared.error.TablesError.TheVariants.{TooLong, NotJson, UnknownTable, TooManyRows}
use Rattle.lk_tables.specs.Choices.{first_some, all_some}
use Rattle.lk_tables.specs.Law.{are_distinct, has_distinct_labels, IsSameBag, ReadsBack}
use Rattle.lk_tables.specs.Words.{cells_fit_words, table_fits_words}
use Rattle.lk_tables.specs.Printing.{IsPrinted, IsTableEntry}
use Rattle.lk_tables.specs.Reading.{max_bytes, entries, rows_of, rows_refusal, is_named, table_refusal, member_refusal, object_refusal, object_in, rows_for, table_of, AreRowsOf}
use Rattle.lk_tables.proofs.Back.{IsGood, AreBack, sorted_back, some_more}
use Rattle.lk_tables.proofs.Puts.{put_all, key_of, is_among, left_false, right_false, get_put_first}

-- one table with the rows that are printed of it
record IsPair (table : TableDef) (printed : TableRows) : Type 0 where
  pub rows : AreRowsOf table printed
  pub distinct : has_distinct_labels table ≡ true
  pub low : table_fits_words printed ≡ true

all_pairs : (tables : List TableDef) (printed : List TableRows) → AllZip AreRowsOf tables printed → list_all has_distinct_labels tables ≡ true → list_all table_fits_words printed ≡ true → AllZip IsPair tables printed
all_pairs [] [] rows distinct low = tt
all_pairs [] (p ∷ ps) rows distinct low = absurd rows
all_pairs (t ∷ ts) [] rows distinct low = absurd rows
all_pairs (t ∷ ts) (p ∷ ps) rows distinct low =
    (record { rows = rows.0; distinct = first_so _ _ distinct; low = first_so _ _ low }, all_pairs ts ps rows.1 (second_so _ _ distinct) (second_so _ _ low))

abbrev name_of : TableDef → List ℕ
name_of table = table.name

-- the keys of the entries are the names of the tables
same_names : (tables : List TableDef) (printed : List TableRows) (es : List Entry) → AllZip AreRowsOf tables printed → AllZip IsTableEntry printed es → map key_of es ≡ map name_of tables
same_names [] [] [] rows written = refl
same_names [] [] (e ∷ es) rows written = absurd written
same_names [] (p ∷ ps) es rows written = absurd rows
same_names (t ∷ ts) [] es rows written = absurd rows
same_names (t ∷ ts) (p ∷ ps) [] rows written = absurd written
same_names (t ∷ ts) (p ∷ ps) (e ∷ es) rows written = ap₂ (λ n ns. n ∷ ns) (ap key_of written.0.2 ∙ rows.0.0) (same_names ts ps es rows.1 written.1)

good_rows : (table : TableDef) (printed : TableRows) → IsPair table printed → All (IsGood table.columns) printed.rows
good_rows table printed pair k d h =
    (AllPass-from_list_all (λ row. cells_fit table.columns row.cells) printed.rows pair.rows.1 k d h, AllPass-from_list_all cells_fit_words printed.rows pair.low k d h)

-- the rows of an entry are read back
entry_back : (table : TableDef) (printed : TableRows) (e : Entry) → IsPair table printed → IsTableEntry printed e → AreBack table.columns printed.rows e.1
entry_back table printed e pair written =
    subst (λ (e : Entry). AreBack table.columns printed.rows e.1) (sym written.2)
    (sorted_back table.columns printed.rows written.0 pair.distinct (good_rows table printed pair) written.1.0)

-- ---- what is read

read_next : (d : Data) (table : TableDef) (printed : TableRows) (tables : List TableDef) (more : List TableRows) (back : List Row) (read : Option (List TableRows)) → table_of d table ≡ Some (record { name = table.name; rows = back })
    → IsSameBag printed (record { name = table.name; rows = back }) → read ≡ all_some (table_of d) tables → IsSomeAnd read (AllZip IsSameBag more) → IsSomeAnd (all_some (table_of d) (table ∷ tables)) (AllZip IsSameBag (printed ∷ more))
read_next d table printed tables more back None is same now later = absurd later
read_next d table printed tables more back (Some read) is same now later =
    subst (λ o. IsSomeAnd o (AllZip IsSameBag (printed ∷ more))) (sym (some_more _ _ _ read is (sym now))) (same, later)

tables_back : (now : Members) (tables : List TableDef) (printed : List TableRows) (es : List Entry) → AllZip IsPair tables printed → AllZip IsTableEntry printed es → are_distinct (map key_of es) ≡ true
    → IsSomeAnd (all_some (table_of (object (put_all now es))) tables) (AllZip IsSameBag printed)
tables_back now [] [] es pairs written distinct = tt
tables_back now [] (p ∷ ps) es pairs written distinct = absurd pairs
tables_back now (t ∷ ts) [] es pairs written distinct = absurd pairs
tables_back now (t ∷ ts) (p ∷ ps) [] pairs written distinct = absurd written
tables_back now (t ∷ ts) (p ∷ ps) (e ∷ es) pairs written distinct =
    let back = entry_back t p e pairs.0 written.0 in
    let named : e.0 ≡ t.name = ap key_of written.0.2 ∙ pairs.0.rows.0 in
    let members = put_all now (e ∷ es) in
    let found : get t.name (object members) ≡ Some e.1 = ap (λ (k : List ℕ). get k (object members)) (sym named) ∙ get_put_first e.0 e.1 now es (not-true _ (first_so _ _ distinct)) in
    let rows : rows_for (object members) t ≡ Some back.read = ap (λ o. unwrap_or (option_map (rows_of t.columns) o) (Some [])) found ∙ back.is in
    read_next (object members) t p ts ps back.read _ (ap (option_map {U = TableRows} (λ rows. record { name = t.name; rows = rows })) rows) (sym pairs.0.rows.0, back.same) refl
    (tables_back (put e.0 e.1 now) ts ps es pairs.1 written.1 (second_so _ _ distinct))

-- ---- that nothing is refused

-- an entry of a table's name, with its rows
abbrev IsTaken : List TableDef → Entry → Type 0
IsTaken tables e = (list_any (is_named e.0) tables ≡ true) × (first_some (table_refusal e.0 e.1) tables ≡ None)

apart_refusal : (b : Bool) (o rest : Option TablesError) → b ≡ false → rest ≡ None → option_or (if b then o else None) rest ≡ None
apart_refusal true o rest e is = absurd (true≢false e)
apart_refusal false o rest e is = is

-- a table more, that has another name
taken_behind : (table : TableDef) (tables : List TableDef) (es : List Entry) → is_among table.name es ≡ false → AllByRecursion (IsTaken tables) es → AllByRecursion (IsTaken (table ∷ tables)) es
taken_behind table tables [] apart taken = tt
taken_behind table tables (e ∷ es) apart taken =
    ((or_right (bytes_eq table.name e.0) _ taken.0.0, apart_refusal (bytes_eq table.name e.0) (rows_refusal (rows_of table.columns e.1)) _ (left_false _ (is_among table.name es) apart) taken.0.1), taken_behind table tables es (right_false (bytes_eq table.name e.0) _ apart) taken.1)

turned_at : (k l : List ℕ) (b : Bool) → bytes_eq k l ≡ b → bytes_eq l k ≡ false → b ≡ false
turned_at k l true is e = absurd (true≢false (sym ((bytes_eq-Decides l k).1 (sym ((bytes_eq-Decides k l).0 is))) ∙ e))
turned_at k l false is e = refl

turned : (k l : List ℕ) → bytes_eq l k ≡ false → bytes_eq k l ≡ false
turned k l e = turned_at k l (bytes_eq k l) refl e

none_named : (name : List ℕ) (d : Data) (tables : List TableDef) → list_any (bytes_eq name) (map name_of tables) ≡ false → first_some (table_refusal name d) tables ≡ None
none_named name d [] apart = refl
none_named name d (table ∷ tables) apart = apart_refusal _ _ _ (turned table.name name (left_false _ _ apart)) (none_named name d tables (right_false _ _ apart))

few_enough : (b : Bool) → b ≡ false → (if b then Some TooManyRows else None) ≡ None
few_enough true e = absurd (true≢false e)
few_enough false e = refl

high_enough : (n : ℕ) → n ≤ most_rows → nat_lt most_rows n ≡ false
high_enough n low = grind (arith, nat_tests)

not_refused : (table : TableDef) (printed : TableRows) (d : Data) → length printed.rows ≤ most_rows → AreBack table.columns printed.rows d → rows_refusal (rows_of table.columns d) ≡ None
not_refused table printed d low back =
    ap rows_refusal back.is ∙ few_enough _ (high_enough _ (subst (λ (n : ℕ). n ≤ most_rows) (sym (length_permutation printed.rows back.read back.same)) low))

here_refusal : (b : Bool) (o rest : Option TablesError) → o ≡ None → rest ≡ None → option_or (if b then o else None) rest ≡ None
here_refusal true o rest p q = ap (λ o. option_or o rest) p ∙ q
here_refusal false o rest p q = q

abbrev tail_of : List (List ℕ) → List (List ℕ)
tail_of [] = []
tail_of (name ∷ names) = names

all_taken : (tables : List TableDef) (printed : List TableRows) (es : List Entry) → AllZip IsPair tables printed → AllZip IsTableEntry printed es → map key_of es ≡ map name_of tables → are_distinct (map key_of es) ≡ true
    → AllByRecursion (IsTaken tables) es
all_taken [] [] [] pairs written names distinct = tt
all_taken [] [] (e ∷ es) pairs written names distinct = absurd written
all_taken [] (p ∷ ps) es pairs written names distinct = absurd pairs
all_taken (t ∷ ts) [] es pairs written names distinct = absurd pairs
all_taken (t ∷ ts) (p ∷ ps) [] pairs written names distinct = absurd written
all_taken (t ∷ ts) (p ∷ ps) (e ∷ es) pairs written names distinct =
    let named : e.0 ≡ t.name = ap key_of written.0.2 ∙ pairs.0.rows.0 in
    let later : map key_of es ≡ map name_of ts = ap tail_of names in
    let apart : is_among e.0 es ≡ false = not-true _ (first_so _ _ distinct) in
    let known : bytes_eq t.name e.0 ≡ true = (bytes_eq-Decides t.name e.0).1 (sym named) in (
      (
        ap (λ b. b || list_any (is_named e.0) ts) known,
        here_refusal _ _ _ (not_refused t p e.1 pairs.0.rows.2 (entry_back t p e pairs.0 written.0)) (none_named e.0 e.1 ts (sym (ap (list_any (bytes_eq e.0)) later) ∙ apart)),
      ),
      taken_behind t ts es (sym (ap (λ (k : List ℕ). is_among k es) named) ∙ apart) (all_taken ts ps es pairs.1 written.1 later (second_so _ _ distinct)),
    )

-- each member of an object
abbrev EachMember : (Entry → Type 0) → Members → Type 0
EachMember P ms = AllByRecursion P (entries ms)

put_at : (P : Entry → Type 0) (o : Ordering) (a b c : Members) → EachMember P a → (o ≡ Equal → EachMember P b) → EachMember P c → EachMember P (match_ordering o a b c)
put_at P Less a b c p q r = p
put_at P Equal a b c p q r = q refl
put_at P Greater a b c p q r = r

same_key : (k l : List ℕ) → slice_cmp nat_cmp k l ≡ Equal → k ≡ l
same_key k l is = (bytes_eq-Decides k l).0 (sym (is_eq-slice_cmp k l) ∙ ap is_eq is)

put_each : (P : Entry → Type 0) (k : List ℕ) (d : Data) (ms : Members) → P (k, d) → EachMember P ms → EachMember P (put k d ms)
put_each P k d no_members here each = (here, tt)
put_each P k d (member l e ms) here each =
    put_at P (slice_cmp nat_cmp k l) _ _ _ (here, each) (λ is. (subst (λ (k : List ℕ). P (k, d)) (same_key k l is) here, each.1)) (each.0, put_each P k d ms here each.1)

put_all_each : (P : Entry → Type 0) (now : Members) (es : List Entry) → EachMember P now → AllByRecursion P es → EachMember P (put_all now es)
put_all_each P now [] each more = each
put_all_each P now (e ∷ es) each more = put_all_each P (put e.0 e.1 now) es (put_each P e.0 e.1 now more.0 each) more.1

known_refusal : (b : Bool) (o rest : Option TablesError) → b ≡ true → o ≡ None → rest ≡ None → option_or (if b then o else Some UnknownTable) rest ≡ None
known_refusal true o rest e p q = ap (λ o. option_or o rest) p ∙ q
known_refusal false o rest e p q = absurd (true≢false (sym e))

no_refusal : (tables : List TableDef) (es : List Entry) → AllByRecursion (IsTaken tables) es → first_some (member_refusal tables) es ≡ None
no_refusal tables [] taken = refl
no_refusal tables (e ∷ es) taken = known_refusal _ _ _ taken.0.0 taken.0.1 (no_refusal tables es taken.1)

-- ---- the law

short_enough : (n : ℕ) → n ≤ max_bytes → nat_lt max_bytes n ≡ false
short_enough n low = grind (arith, nat_tests)

not_long : (b : Bool) (o : Option TablesError) → b ≡ false → o ≡ None → (if b then Some TooLong else o) ≡ None
not_long true o e is = absurd (true≢false e)
not_long false o e is = is

found_in : {X : Type 0} (o : Option X) (P : X → Type 0) → IsSomeAnd o P → (x : X) × (o ≡ Some x) × P x
found_in None P h = absurd h
found_in (Some x) P h = (x, refl, h)

reads_back : (printed : List TableRows) (file : Data) (text : List ℕ) → IsPrinted printed file → list_all table_fits_words printed ≡ true → object_in text ≡ Some file → ReadsBack printed text
reads_back printed file text is low found tables declared rows short =
    let es : List Entry = is.0 in
    let pairs = all_pairs tables printed rows (second_so (are_distinct (map name_of tables)) _ declared) low in
    let names = same_names tables printed es rows is.1 in
    let distinct : are_distinct (map key_of es) ≡ true = ap are_distinct names ∙ first_so _ (list_all has_distinct_labels tables) declared in
    let members = put_all no_members es in
    let object_read : object_in text ≡ Some (object members) = found ∙ ap Some is.2 in
    let taken = no_refusal tables (entries members) (put_all_each (IsTaken tables) no_members es tt (all_taken tables printed es pairs is.1 names distinct)) in
    let back = found_in _ _ (tables_back no_members tables printed es pairs is.1 distinct) in (
      not_long _ _ (short_enough _ short) (ap (λ o. unwrap_or (option_map (object_refusal tables) o) (Some NotJson)) object_read ∙ taken),
      (back.0, ap (λ o. option_and_then (λ d. all_some (table_of d) tables) o) object_read ∙ back.1, back.2),
    )

pub printed_back : (printed : List TableRows) (file : Data) (text bytes : List ℕ) → IsPrinted printed file → list_all table_fits_words printed ≡ true → IsUtf8 bytes → read bytes ≡ Some file → text ≡ bytes → ReadsBack printed text
printed_back printed file text bytes is low utf8 found same =
    reads_back printed file text is low (ap object_in same ∙ object_of bytes file utf8 found (ap (λ d. is_some (as_object d)) is.2))
