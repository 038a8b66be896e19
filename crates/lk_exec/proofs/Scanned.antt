-- What a query answers over tables that were scanned.
use Rattle.std.proofs.Common.{append-nil, ◌≡◌, ℕ, Bool, true, false, ◌||◌, cond, List, [], ◌∷◌, ◌++◌, Option, Some, None, refl, sym, ◌∙◌, ap, subst, IsPermutation}
use Rattle.std.specs.List.{AllZip}
use Rattle.std.specs.Prelude.{IfOk, IfSome, Result, Ok, Err, bytes_eq}
use Rattle.std.proofs.lemmas.Bool.{both_ways}
use Rattle.std.proofs.lemmas.List.Sorted.{IsPermutation-trans, IsPermutation-append_left}
use Rattle.std.proofs.lemmas.Grind.{flat_map-append}
use Rattle.std.proofs.lemmas.Slice.Eq.{bytes_eq-Decides}
use Rattle.lk_ast.specs.Tables.{Tables, all_fit, rows_of}
use Rattle.lk_ast.specs.declared.table.Base.{Base}
use Rattle.lk_ast.specs.declared.table.Row.{Row}
use Rattle.lk_ast.specs.declared.table.TableDef.{TableDef}
use Rattle.lk_ast.specs.declared.table.TableRows.{TableRows}
use Rattle.lk_sort.specs.Sorted as sort
use Rattle.lk_sql.specs.Keys.{AreSorted, IsAnswer, may_stand_before}
use Rattle.lk_outside.proofs.ScannedTables.{filled, same-filled}
use Rattle.lk_outside.specs.Scans.{IsScanned}
use Rattle.lk_sql.specs.Meaning.{all_rows, no_rows, rows}
use Rattle.lk_sql.specs.declared.tree.Key.{Key}
use Rattle.lk_sql.specs.declared.tree.Select.{Select}
use Rattle.lk_sql.specs.declared.tree.Sql.{Sql}
use Rattle.lk_exec.specs.NamedTables.{are_declared, is_declared}
use Rattle.lk_exec.specs.Listings.{IsListing, def_of}
use Rattle.lk_exec.proofs.Agreeing.{all_rows-same}

-- a definition has the name that its table was scanned under
same_test : (told : Option Tables) (def : TableDef) (t : TableRows) → IsScanned told def t → (name : List ℕ) → bytes_eq def.name name ≡ bytes_eq name t.name
same_test told def t is name = go (bytes_eq def.name name) (bytes_eq name t.name) refl refl
  where
    go : (a b : Bool) → bytes_eq def.name name ≡ a → bytes_eq name t.name ≡ b → a ≡ b
    go true true p q = refl
    go false false p q = refl
    go true false p q = absurd (both_ways (bytes_eq name t.name) q ((bytes_eq-Decides name t.name).1 (sym ((bytes_eq-Decides def.name name).0 p) ∙ sym is.name)))
    go false true p q = absurd (both_ways (bytes_eq def.name name) p ((bytes_eq-Decides def.name name).1 (sym is.name ∙ sym ((bytes_eq-Decides name t.name).0 q))))

module _ (told : Option Tables) where
  fit-filled : (defs : List TableDef) (ts : List TableRows) (tables : Tables) → AllZip (IsScanned told) defs ts → (name : List ℕ) → IfSome (def_of defs name) (λ def. all_fit def (filled ts tables name) ≡ true)
  fit-filled [] ts tables are name = tt
  fit-filled (def ∷ defs) [] tables are name = absurd are
  fit-filled (def ∷ defs) (t ∷ ts) tables are name =
      subst (λ b. IfSome (cond (bytes_eq def.name name) (Some def) (def_of defs name)) (λ d. all_fit d (cond b t.rows (filled ts tables name)) ≡ true)) (same_test told def t are.0 name)
      (go (bytes_eq def.name name) (fit-filled defs ts tables are.1 name))
    where
      go : (b : Bool) → IfSome (def_of defs name) (λ d. all_fit d (filled ts tables name) ≡ true) → IfSome (cond b (Some def) (def_of defs name)) (λ d. all_fit d (cond b t.rows (filled ts tables name)) ≡ true)
      go true rest = are.0.listed.fit
      go false rest = rest

  -- on what is declared both agree
  agree-filled : (defs : List TableDef) (ts : List TableRows) (tables : Tables) → AllZip (IsScanned told) defs ts → (name : List ℕ) → is_declared defs name ≡ true → rows_of ts name ≡ filled ts tables name
  agree-filled [] ts tables are name declared = absurd cc
  agree-filled (def ∷ defs) [] tables are name declared = absurd are
  agree-filled (def ∷ defs) (t ∷ ts) tables are name declared = go (bytes_eq name t.name) (sym (ap (λ b. b || is_declared defs name) (same_test told def t are.0 name)) ∙ declared) (agree-filled defs ts tables are.1 name)
    where
      go : (b : Bool) → (b || is_declared defs name) ≡ true → (is_declared defs name ≡ true → rows_of ts name ≡ filled ts tables name) → cond b t.rows (rows_of ts name) ≡ cond b t.rows (filled ts tables name)
      go true is rest = refl
      go false is rest = rest is

-- the tables that are told, and where none are, ones without rows
abbrev base_of : Option Tables → Tables
base_of None name = []
base_of (Some tables) name = tables name

-- what is answered over the rows that were scanned is answered over a listing of all tables
pub answered : (told : Option Tables) (defs : List TableDef) (ts : List TableRows) (params : List Base) (sql : Sql) (rows : List Row)
    → AllZip (IsScanned told) defs ts → are_declared defs sql ≡ true → IsAnswer (rows_of ts) params sql rows → (listed : Tables) × IsListing defs told listed × IsAnswer listed params sql rows
answered told defs ts params sql rows are declared is = (
  filled ts (base_of told),
  record { fit = fit-filled told defs ts (base_of told) are; same = same told are },
  (subst (λ all. IsPermutation all rows) (all_rows-same defs (rows_of ts) (filled ts (base_of told)) (agree-filled told defs ts (base_of told) are) params sql.selects declared no_rows) is.0, is.1),
)
  where
    same : (told : Option Tables) → AllZip (IsScanned told) defs ts → IfSome told (λ tables. (name : List ℕ) → IsPermutation (tables name) (filled ts (base_of told) name))
    same None are = tt
    same (Some tables) are = same-filled tables defs ts are

-- sorted by keys
pub sorted_by : (keys : List Key) (rows : List Row) → sort.AreSorted (may_stand_before keys) rows → AreSorted keys rows
sorted_by keys [] are = tt
sorted_by keys (r ∷ []) are = tt
sorted_by keys (r ∷ s ∷ rows) are = (are.0, sorted_by keys (s ∷ rows) are.1)

-- the rows of one select more
pub one_select_more : (tables : Tables) (params : List Base) (before : List Select) (select : Select) (old new : List Row)
    → IsPermutation (all_rows tables params before no_rows) old → IsPermutation (old ++ rows tables params select no_rows) new → IsPermutation (all_rows tables params (before ++ select ∷ []) no_rows) new
one_select_more tables params before select old new are added =
    let these : List Row = rows tables params select no_rows in
    let all : all_rows tables params (before ++ select ∷ []) no_rows ≡ all_rows tables params before no_rows ++ these =
    flat_map-append (λ q. rows tables params q no_rows) before (select ∷ []) ∙ ap (λ last. all_rows tables params before no_rows ++ last) (append-nil these) in
    subst (λ found. IsPermutation found new) (sym all) (IsPermutation-trans _ _ _ (IsPermutation-append_left these (all_rows tables params before no_rows) old are) added)

-- the rows of all selects, sorted
pub answer_of : {E : Type 0} (tables : Tables) (params : List Base) (sql : Sql) (selects : List Select) (keys : List Key) (found : List Row) (result : Result (List Row) E) → selects ≡ sql.selects → keys ≡ sql.keys
    → IsPermutation (all_rows tables params selects no_rows) found → IfOk result (λ after. IsPermutation found after) → IfOk result (sort.AreSorted (may_stand_before keys)) → IfOk result (IsAnswer tables params sql)
answer_of tables params sql selects keys found (Ok after) selects_are keys_are are moved sorted = (
  IsPermutation-trans _ _ _ (subst (λ qs. IsPermutation (all_rows tables params qs no_rows) found) selects_are are) moved,
  sorted_by sql.keys after (subst (λ ks. sort.AreSorted (may_stand_before ks) after) keys_are sorted),
)
answer_of tables params sql selects keys found (Err e) selects_are keys_are are moved sorted = tt
