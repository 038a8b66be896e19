-- What a reading of the program answers over tables that were scanned.
use Rattle.std.proofs.Common.{◌≡◌, refl, sym, ap, subst, ◌∙◌, ℕ, Bool, true, false, cond, List, [], ◌∷◌, map, Option, Some, None, inl, inr, IsPermutation}
use Rattle.std.specs.List.{AllZip}
use Rattle.std.specs.Prelude.{IfSome, bytes_eq}
use Rattle.std.proofs.lemmas.Bool.{both_ways}
use Rattle.std.proofs.lemmas.Slice.Eq.{bytes_eq-Decides}
use Rattle.lk_ast.specs.Layers.{layer}
use Rattle.lk_ast.specs.Rows.{row_value}
use Rattle.lk_ast.specs.Tables.{Tables, all_fit, rows_of, table_defs}
use Rattle.lk_ast.specs.declared.declaration.Program.{Program}
use Rattle.lk_ast.specs.declared.expression.Expr.{Expr}
use Rattle.lk_ast.specs.declared.table.Row.{Row}
use Rattle.lk_ast.specs.declared.table.TableDef.{TableDef}
use Rattle.lk_ast.specs.declared.table.TableRows.{TableRows}
use Rattle.lk_ast.specs.declared.value.Value.{Value}
use Rattle.lk_bag.specs.Blocks.{block_at}
use Rattle.lk_bag.specs.Legal.{AreAllCaptured, AreSorted, bag, keys_at, read, reads_tables}
use Rattle.lk_names.specs.Programs.{IsBound}
use Rattle.lk_outside.proofs.ScannedTables.{filled, same-filled}
use Rattle.lk_outside.specs.Scans.{FitAll, IsScanned}
use Rattle.lk_sound.proofs.Names.{AreDistinct, IsAmong}
use Rattle.lk_sound.specs.Histories.{HasAnswer, HasFollowed, read_event}
use Rattle.lk_sound.specs.Tables.{AreTables, IsReading}
use Rattle.lk_types.proofs.Parts.{same_some}
use Rattle.lk_types.specs.Each.{Each}
use Rattle.lk_types.specs.Rows.{Label}
use Rattle.lk_sound.proofs.SameBag.{same_bag}
use Rattle.lk_sound.proofs.TableNames.{def_name, tables_apart}

-- where the tables are told, the rows of each of these fit it
pub fit_all : (defs : List TableDef) (told : Option Tables) → IfSome told (λ tables. Each (λ (def : TableDef). all_fit def (tables def.name) ≡ true) defs) → FitAll told defs
fit_all [] told fit = tt
fit_all (def ∷ defs) None fit = (tt, fit_all defs None tt)
fit_all (def ∷ defs) (Some tables) fit = (fit.0, fit_all defs (Some tables) fit.1)

-- ---- the rows of the tables that were scanned

-- the rows of that name fit
abbrev FitIn : Tables → TableDef → Type 0
FitIn tables def = all_fit def (tables def.name) ≡ true

-- one more table of another name in front
behind : (t : TableRows) (ts : List TableRows) (defs : List TableDef) → (IsAmong t.name (map def_name defs) → ⊥) → Each (FitIn (rows_of ts)) defs → Each (FitIn (rows_of (t ∷ ts))) defs
behind t ts [] other all = tt
behind t ts (def ∷ defs) other all = (go (bytes_eq def.name t.name) refl, behind t ts defs (λ later. other (inr later)) all.1)
  where
    go : (b : Bool) → bytes_eq def.name t.name ≡ b → all_fit def (cond b t.rows (rows_of ts def.name)) ≡ true
    go true is = absurd (other (inl ((bytes_eq-Decides def.name t.name).0 is)))
    go false is = all.0

fit_scanned : (told : Option Tables) (defs : List TableDef) (ts : List TableRows) → AllZip (IsScanned told) defs ts → AreDistinct (map def_name defs) → Each (FitIn (rows_of ts)) defs
fit_scanned told [] ts are apart = tt
fit_scanned told (def ∷ defs) [] are apart = absurd are
fit_scanned told (def ∷ defs) (t ∷ ts) are apart = (
  subst (λ b. all_fit def (cond b t.rows (rows_of ts def.name)) ≡ true) (sym ((bytes_eq-Decides def.name t.name).1 (sym are.0.name))) are.0.listed.fit,
  behind t ts defs (subst (λ x. IsAmong x (map def_name defs) → ⊥) (sym are.0.name) apart.0) (fit_scanned told defs ts are.1 apart.1),
)

-- on what is declared both agree
agree_filled : (told : Option Tables) (tables : Tables) (defs : List TableDef) (ts : List TableRows) → AllZip (IsScanned told) defs ts → (x : Label) → IsAmong x (map def_name defs) → filled ts tables x ≡ rows_of ts x
agree_filled told tables [] ts are x among = absurd among
agree_filled told tables (def ∷ defs) [] are x among = absurd are
agree_filled told tables (def ∷ defs) (t ∷ ts) are x (inl here) = at_head (bytes_eq x t.name) refl
  where
    at_head : (b : Bool) → bytes_eq x t.name ≡ b → cond b t.rows (filled ts tables x) ≡ cond b t.rows (rows_of ts x)
    at_head true is = refl
    at_head false is = absurd (both_ways (bytes_eq x t.name) is ((bytes_eq-Decides x t.name).1 (sym here ∙ sym are.0.name)))
agree_filled told tables (def ∷ defs) (t ∷ ts) are x (inr later) = ap (cond (bytes_eq x t.name) t.rows) (agree_filled told tables defs ts are.1 x later)

-- ---- the answer

-- what begins there is the reading
pub same_block : (p : Program) (site : ℕ) (args : List Value) (reading : IsReading p site args) (block : Expr) → block_at p site ≡ Some block → reading.block ≡ block
same_block p site args reading block found = same_some (sym reading.found ∙ found)

module _ (p : Program) (bound : IsBound p) (told : Option Tables) (site : ℕ) (args : List Value) (reading : IsReading p site args) (ts : List TableRows) (are : AllZip (IsScanned told) (table_defs p) ts) where
  listed : AreTables p (rows_of ts)
  listed = fit_scanned told (table_defs p) ts are (tables_apart p bound)

  -- over what was scanned it gives rows
  pub gives_rows : (rows : List Row) × (bag p (rows_of ts) reading.block args ≡ map row_value rows)
  gives_rows = reading.rows (rows_of ts) listed

  pub answered_by : (block : Expr) → block_at p site ≡ Some block → (rows : List Row) → IsPermutation (bag p (rows_of ts) block args) (map row_value rows) → AreSorted (keys_at (layer block)) rows → HasAnswer p (read_event site args rows)
  answered_by block found rows same sorted =
      let is : reading.block ≡ block = same_block p site args reading block found in
      let reads : reads_tables (layer block) ≡ true = subst (λ b. reads_tables (layer b) ≡ true) is reading.reads in
      let captured : AreAllCaptured block args = subst (λ b. AreAllCaptured b args) is reading.captured in
      (block, found, reads, captured, rows_of ts, listed, (same, sorted))

  -- what is told
  follows_told : (block : Expr) → block_at p site ≡ Some block → (rows : List Row) → IsPermutation (bag p (rows_of ts) block args) (map row_value rows) → AreSorted (keys_at (layer block)) rows
      → (tables : Tables) → AllZip (IsScanned (Some tables)) (table_defs p) ts → HasFollowed p (Some tables) (Some tables) (read_event site args rows)
  follows_told block found rows same sorted tables scanned =
      let whole : Tables = filled ts tables in
      let bags : bag p whole block args ≡ bag p (rows_of ts) block args = same_bag p whole (rows_of ts) (agree_filled (Some tables) tables (table_defs p) ts scanned) bound site block found args in
      let is : reading.block ≡ block = same_block p site args reading block found in
      let reads : reads_tables (layer block) ≡ true = subst (λ b. reads_tables (layer b) ≡ true) is reading.reads in
      let captured : AreAllCaptured block args = subst (λ b. AreAllCaptured b args) is reading.captured in
      record {
        on = λ more last legal. read block found reads captured (whole, same-filled tables (table_defs p) ts scanned, subst (λ b. IsPermutation b (map row_value rows)) (sym bags) same, sorted) legal;
      }

pub followed_answer : (p : Program) → IsBound p → (told : Option Tables) (site : ℕ) (args : List Value) → IsReading p site args → (ts : List TableRows) → AllZip (IsScanned told) (table_defs p) ts → (block : Expr) → block_at p site ≡ Some block
    → (rows : List Row) → IsPermutation (bag p (rows_of ts) block args) (map row_value rows) → AreSorted (keys_at (layer block)) rows → HasFollowed p told told (read_event site args rows)
followed_answer p bound None site args reading ts are block found rows same sorted = tt
followed_answer p bound (Some tables) site args reading ts are block found rows same sorted = follows_told p bound (Some tables) site args reading ts are block found rows same sorted tables are
