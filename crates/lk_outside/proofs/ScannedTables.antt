-- Tables that are scanned one after the other.
use Rattle.std.proofs.Common.{arith, get_or, length, ◌<◌, ◌≤◌, zero, suc, ◌≡◌, ◌⊎◌, inl, inr, ℕ, Bool, true, false, cond, List, [], ◌∷◌, ◌++◌, Option, Some, None, refl, sym, ◌∙◌, subst, IsPermutation}
use Rattle.std.specs.List.{AllZip}
use Rattle.std.specs.Prelude.{Result, Err, bytes_eq}
use Rattle.std.proofs.lemmas.List.Sorted.{IsPermutation-refl}
use Rattle.std.proofs.lemmas.Slice.Eq.{bytes_eq-Decides}
use Rattle.lk_ast.specs.Tables.{Tables}
use Rattle.lk_ast.specs.declared.table.TableDef.{TableDef}
use Rattle.lk_ast.specs.declared.table.TableRows.{TableRows}
use Rattle.lk_outside.specs.Causes.{HasCause, HasCauseOr, Rose}
use Rattle.lk_outside.specs.Scans.{FitAll, HaveForeignRow, IsScanned}
use Rattle.lk_outside.specs.Store.{HasForeignRow, ScanHasCause}
use Rattle.lk_outside.specs.declared.fault.OutFault.{OutFault}
use Rattle.lk_outside.specs.declared.fault.OutFault.TheVariants as fault

pub scanned_more : (told : Option Tables) (defs : List TableDef) (def : TableDef) (tables : List TableRows) (table : TableRows)
    → AllZip (IsScanned told) defs tables → IsScanned told def table → AllZip (IsScanned told) (defs ++ def ∷ []) (tables ++ table ∷ [])
scanned_more told [] def [] table are is = (is, tt)
scanned_more told [] def (t ∷ ts) table are is = absurd are
scanned_more told (d ∷ ds) def [] table are is = absurd are
scanned_more told (d ∷ ds) def (t ∷ ts) table are is = (are.0, scanned_more told ds def ts table are.1 is)

-- the tables, those that were scanned with the rows of the first scan of their name
abbrev pub filled : List TableRows → Tables → Tables
filled [] tables name = tables name
filled (t ∷ ts) tables name = cond (bytes_eq name t.name) t.rows (filled ts tables name)

pub same-filled : (tables : Tables) (defs : List TableDef) (ts : List TableRows) → AllZip (IsScanned (Some tables)) defs ts → (name : List ℕ) → IsPermutation (tables name) (filled ts tables name)
same-filled tables [] [] are name = IsPermutation-refl (tables name)
same-filled tables [] (t ∷ ts) are name = absurd are
same-filled tables (def ∷ defs) [] are name = absurd are
same-filled tables (def ∷ defs) (t ∷ ts) are name = go (bytes_eq name t.name) refl (same-filled tables defs ts are.1 name)
  where
    go : (b : Bool) → bytes_eq name t.name ≡ b → IsPermutation (tables name) (filled ts tables name) → IsPermutation (tables name) (cond b t.rows (filled ts tables name))
    go true is rest = subst (λ x. IsPermutation (tables x) t.rows) (sym ((bytes_eq-Decides name t.name).0 is ∙ are.0.name)) are.0.listed.same
    go false is rest = rest

-- ---- why scans are refused

-- one of the tables holds a row of other columns
foreign_here : (told : Option Tables) (defs : List TableDef) (i : ℕ) (def : TableDef) → i < length defs → def ≡ get_or defs i def → HasForeignRow told def → HaveForeignRow told defs
foreign_here told [] i def within is foreign = absurd (omega (arith, within))
foreign_here told (first ∷ defs) zero def within is foreign = inl (subst (HasForeignRow told) is foreign)
foreign_here told (first ∷ defs) (suc i) def within is foreign = inr (foreign_here told defs i def (omega (arith, within)) is foreign)

-- a scan's cause, as one of many
pub cause_among : {T U : Type 0} (before between now : ℕ) (told seen : Option Tables) (defs : List TableDef) (i : ℕ) (def : TableDef) (e : OutFault) → between ≡ before → seen ≡ told → i < length defs → def ≡ get_or defs i def
    → ScanHasCause {T = T} between now seen def (Err e) → HasCauseOr {T = U} before now (HaveForeignRow told defs) (Err e)
cause_among before between now told seen defs i def fault.Failed same tables within at has = record {
  later = subst (λ b. b ≤ now) same has.later;
  failed = λ is. either (has.failed refl);
  passed = tt;
}
  where
    either : Rose between now ⊎ HasForeignRow seen def → Rose before now ⊎ HaveForeignRow told defs
    either (inl rose) = inl (subst (λ b. Rose b now) same rose)
    either (inr foreign) = inr (foreign_here told defs i def within at (subst (λ t. HasForeignRow t def) tables foreign))
cause_among before between now told seen defs i def fault.NoMemory same tables within at has = record { later = subst (λ b. b ≤ now) same has.later; failed = λ is. absurd cc; passed = tt }

-- tables whose rows fit have no row of other columns
none_foreign : (told : Option Tables) (defs : List TableDef) → FitAll told defs → HaveForeignRow told defs → ⊥
none_foreign told [] fit foreign = absurd foreign
none_foreign None (def ∷ defs) fit (inl foreign) = absurd foreign
none_foreign (Some tables) (def ∷ defs) fit (inl foreign) = let wrong : true ≡ false = sym fit.0 ∙ foreign in cc
none_foreign told (def ∷ defs) fit (inr later) = none_foreign told defs fit.1 later

-- so a scan of them that is refused is counted
pub is_counted : {T : Type 0} (before now : ℕ) (told : Option Tables) (defs : List TableDef) (result : Result T OutFault) → FitAll told defs → HasCauseOr before now (HaveForeignRow told defs) result → HasCause before now result
is_counted before now told defs result fit has = record {
  later = has.later;
  failed = λ is. only (has.failed is);
  passed = has.passed;
}
  where
    only : Rose before now ⊎ HaveForeignRow told defs → Rose before now
    only (inl rose) = rose
    only (inr foreign) = absurd (none_foreign told defs fit foreign)
