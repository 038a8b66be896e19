-- Tables that are put one after the other into a store.
use Rattle.std.proofs.Common.{◌≡◌, ◌∙◌, refl, sym, ap, Bool, true, false, ℕ, List, bytes_eq, if◌then◌else◌}
use Rattle.std.specs.Prelude.{Option, Some, None, option_map}
use Rattle.std.proofs.lemmas.Slice.Eq.{bytes_eq-Decides}
use Rattle.lk_sound.proofs.Bindings.{same_bytes}
use Rattle.lk_ast.specs.Tables.{Tables}
use Rattle.lk_ast.specs.declared.table.Row.{Row}
use Rattle.lk_ast.specs.declared.table.TableDef.{TableDef}
use Rattle.lk_bag.specs.Change.{with_rows}
use Rattle.lk_outside.specs.Store.{Changes, Puts}

-- ---- names

abbrev pub name_of : TableDef → List ℕ
name_of def = def.name

pub true_false : (b : Bool) → b ≡ true → b ≡ false → ⊥
true_false true is other = absurd cc
true_false false is other = absurd cc

-- a test the other way round
pub turned : (x y : List ℕ) → bytes_eq x y ≡ bytes_eq y x
turned x y = by_tests (bytes_eq x y) (bytes_eq y x) refl refl
  where
    by_tests : (a b : Bool) → bytes_eq x y ≡ a → bytes_eq y x ≡ b → a ≡ b
    by_tests true true p q = refl
    by_tests false false p q = refl
    by_tests true false p q = absurd (true_false (bytes_eq y x) ((bytes_eq-Decides y x).1 (sym (same_bytes x y p))) q)
    by_tests false true p q = absurd (true_false (bytes_eq x y) ((bytes_eq-Decides x y).1 (sym (same_bytes y x q))) p)

-- ---- one table

put_rows : (before after : Tables) (name : List ℕ) (rows : List Row) → Puts before after name rows → after ≡ with_rows name rows before
put_rows before after name rows puts = λ i other. at other (bytes_eq name other) refl i
  where
    at : (other : List ℕ) (b : Bool) → bytes_eq name other ≡ b → after other ≡ (if b then rows else before other)
    at other true is = ap after (sym (same_bytes name other is)) ∙ puts.named
    at other false is = puts.others other (λ same. true_false (bytes_eq name other) ((bytes_eq-Decides name other).1 (sym same)) is)

pub changed : (old new : Option Tables) (name : List ℕ) (rows : List Row) → Changes old new name (λ before. rows) → new ≡ option_map (with_rows name rows) old
changed None new name rows is = is
changed (Some before) None name rows is = absurd is
changed (Some before) (Some after) name rows is = ap (λ t. Some t) (put_rows before after name rows is)
