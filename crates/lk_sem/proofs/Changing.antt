-- What insertions, updates and deletions make of tables.
use Rattle.std.proofs.Common.{◌≡◌, ◌≢◌, ℕ, ◌+◌, ◌≤◌, Bool, true, false, ◌&&◌, cond, not, List, [], ◌∷◌, ◌++◌, Option, Some, None, map, filter, length, refl, sym, ◌∙◌, ap, ap₂, subst, length-append, IsPermutation}
use Rattle.std.specs.Prelude.{bytes_eq, IfSome}
use Rattle.std.proofs.lemmas.Bool.{and_parts, both_ways}
use Rattle.std.proofs.lemmas.List.Sorted.{IsPermutation-refl, IsPermutation-map}
use Rattle.std.proofs.lemmas.Option.{none-some}
use Rattle.std.proofs.lemmas.Slice.Eq.{bytes_eq-Decides}
use Rattle.lk_ast.proofs.FittingRows.{fits_filter, fits_map}
use Rattle.lk_ast.specs.Layers.{layer}
use Rattle.lk_ast.specs.Limits.{most_rows}
use Rattle.lk_ast.specs.Rows.{rows_value}
use Rattle.lk_ast.specs.Tables.{Tables, all_fit, row_fits, table_defs}
use Rattle.lk_ast.specs.declared.declaration.Program.{Program}
use Rattle.lk_ast.specs.declared.expression.ChangeExpr.{ChangeExpr, out-ChangeExpr}
use Rattle.lk_ast.specs.declared.expression.Expr.{Expr}
use Rattle.lk_ast.specs.declared.expression.Node.TheOpen.{Node-F}
use Rattle.lk_ast.specs.declared.place.Word.{Word}
use Rattle.lk_ast.specs.declared.table.Row.{Row}
use Rattle.lk_ast.specs.declared.table.TableDef.{TableDef}
use Rattle.lk_ast.specs.declared.value.Value.{Value}
use Rattle.lk_bag.specs.Blocks.{block_at}
use Rattle.lk_bag.specs.Change.{with_rows, updated, is_met, after_insert, after_update, after_delete}
use Rattle.lk_bag.specs.Legal.{AreAllCaptured, AreSame, insert, update, delete, names_in}
use Rattle.lk_names.specs.Programs.{IsBound}
use Rattle.lk_outside.specs.Scans.{FitsTold}
use Rattle.lk_outside.specs.Store.{Changes, Puts}
use Rattle.lk_outside.specs.TableSizes.{HasSize}
use Rattle.lk_types.proofs.Members.{each_in, each_of_in, found_in}
use Rattle.lk_sound.specs.Histories.{AreFit}
use Rattle.lk_sound.specs.Tables.{AreTables, IsWriting, table_at}
use Rattle.lk_sound.specs.Tables as sound
use Rattle.lk_types.proofs.Parts.{same_some}
use Rattle.lk_types.specs.Each.{OneOf}
use Rattle.lk_sem.specs.Writings.{HasAdded, HasChanged, HasWritten, IsChanged, IsDeletion, IsInsertion, IsUpdate}
use Rattle.lk_sem.specs.declared.writes.Written.{Written}
use Rattle.lk_sem.specs.declared.writes.Written.TheVariants as written
use Rattle.lk_sound.proofs.Legality.{legal_same}
use Rattle.lk_sem.specs.RowValues.{rows_in}
use Rattle.lk_sem.proofs.RowsBack.{rows_back}
use Rattle.lk_sound.proofs.Shuffles.{IsPermutation-filter}
use Rattle.lk_sound.proofs.TableNames.{only_one, tables_apart}

-- ---- rows that fit

fits_both : (def : TableDef) (rows others : List Row) → all_fit def rows ≡ true → all_fit def others ≡ true → all_fit def (rows ++ others) ≡ true
fits_both def [] others a b = b
fits_both def (row ∷ rows) others a b =
    let both = and_parts (row_fits def row) (all_fit def rows) a in
    ap₂ (λ x y. x && y) both.0 (fits_both def rows others both.1 b)

-- the rows of a declared table fit it, where the tables do
pub fits_found : (p : Program) (told : Option Tables) (x : List ℕ) (def : TableDef) → table_at p x ≡ Some def → AreFit p told → FitsTold told def
fits_found p None x def found fit = tt
fits_found p (Some tables) x def found fit =
    each_in (λ (d : TableDef). all_fit d (tables d.name) ≡ true) (table_defs p) def (found_in (λ (d : TableDef). bytes_eq d.name x) (table_defs p) def found).0 fit

pub named_found : (p : Program) (x : List ℕ) (def : TableDef) → table_at p x ≡ Some def → def.name ≡ x
named_found p x def found = (bytes_eq-Decides def.name x).0 (found_in (λ (d : TableDef). bytes_eq d.name x) (table_defs p) def found).1

-- ---- one table changed

module _ (p : Program) (bound : IsBound p) (x : List ℕ) (def : TableDef) (found : table_at p x ≡ Some def) (before after : Tables) (rows : List Row) (puts : Puts before after x rows) where
  -- where its new rows fit it, all tables fit
  fit_after : all_fit def rows ≡ true → AreTables p before → AreTables p after
  fit_after fit are = each_of_in (λ (d : TableDef). all_fit d (after d.name) ≡ true) (table_defs p) (λ d one. at d one (bytes_eq d.name x) refl)
    where
      at : (d : TableDef) → OneOf (λ other. other ≡ d) (table_defs p) → (b : Bool) → bytes_eq d.name x ≡ b → all_fit d (after d.name) ≡ true
      at d one true is =
          let named : d.name ≡ x = (bytes_eq-Decides d.name x).0 is in
          let same : d ≡ def = only_one (table_defs p) x def d (tables_apart p bound) found one named in
          subst (λ (e : TableDef). all_fit e (after d.name) ≡ true) (sym same) (subst (λ rs. all_fit def rs ≡ true) (sym (ap after named ∙ puts.named)) fit)
      at d one false is =
          let others : d.name ≢ x = λ same. both_ways (bytes_eq d.name x) is ((bytes_eq-Decides d.name x).1 same) in
          subst (λ rs. all_fit d rs ≡ true) (sym (puts.others d.name others)) (each_in (λ (e : TableDef). all_fit e (before e.name) ≡ true) (table_defs p) d one are)

same_puts : (x : List ℕ) (before after : Tables) (rows others : List Row) → Puts before after x others → IsPermutation rows others → AreSame (with_rows x rows before) after
same_puts x before after rows others puts same name = go (bytes_eq x name) refl
  where
    go : (b : Bool) → bytes_eq x name ≡ b → IsPermutation (cond b rows (before name)) (after name)
    go true is = subst (IsPermutation rows) (sym (ap after (sym ((bytes_eq-Decides x name).0 is)) ∙ puts.named)) same
    go false is = subst (IsPermutation (before name)) (sym (puts.others name (λ e. both_ways (bytes_eq x name) is ((bytes_eq-Decides x name).1 (sym e))))) (IsPermutation-refl (before name))

-- a declared table is changed, so no other is
leaves_others : (p : Program) (x : List ℕ) (def : TableDef) → table_at p x ≡ Some def → (before after : Tables) (rows : List Row) → Puts before after x rows → (y : List ℕ) → table_at p y ≡ None → after y ≡ before y
leaves_others p x def found before after rows puts y undeclared = puts.others y (λ same. none-some def (sym undeclared ∙ ap (table_at p) same ∙ found))

-- ---- an update

module _ (p : Program) (bound : IsBound p) (site : ℕ) (args : List Value) (block : Expr) (change : ChangeExpr) (def : TableDef) (found : table_at p (out-ChangeExpr change).table.text ≡ Some def)
    (there rows : List Row) (fit : all_fit def there ≡ true) where
  abbrev x : List ℕ
  x = (out-ChangeExpr change).table.text

  -- the change of one row, and whether a row stays
  abbrev new_row : Row → Row
  new_row = updated p (names_in block args) change

  abbrev stays : Row → Bool
  stays row = not (is_met p (names_in block args) change row)

  pub update_fits : IsUpdate p site args block change → rows ≡ map new_row there → all_fit def rows ≡ true
  update_fits u are =
      let same : u.def ≡ def = same_some (sym u.declared ∙ found) in
      subst (λ rs. all_fit def rs ≡ true) (sym are) (fits_map def new_row (λ row one. subst (λ (d : TableDef). row_fits d (new_row row) ≡ true) same (u.fit row (subst (λ (d : TableDef). row_fits d row ≡ true) (sym same) one))) there fit)

  pub delete_fits : rows ≡ filter stays there → all_fit def rows ≡ true
  delete_fits are = subst (λ rs. all_fit def rs ≡ true) (sym are) (fits_filter def stays there fit)

  put_there : (before after : Tables) → Puts before after def.name rows → Puts before after x rows
  put_there before after puts = subst (λ n. Puts before after n rows) (named_found p x def found) puts

  was_there : (before : Tables) → IsPermutation (before def.name) there → IsPermutation (before x) there
  was_there before is = subst (λ n. IsPermutation (before n) there) (named_found p x def found) is

  pub changed_update : IsUpdate p site args block change → (old new : Option Tables) → IfSome old (λ told. IsPermutation (told def.name) there) → rows ≡ map new_row there → Changes old new def.name (λ r. rows) → HasChanged p site args old new
  changed_update u None new scanned are puts = puts
  changed_update u (Some before) None scanned are puts = absurd puts
  changed_update u (Some before) (Some after) scanned are puts =
      let at = put_there before after puts in
      let shuffled : IsPermutation (map new_row (before x)) rows = subst (IsPermutation (map new_row (before x))) (sym are) (IsPermutation-map new_row (before x) there (was_there before scanned)) in
      let same = same_puts x before after (map new_row (before x)) rows at shuffled in
      record {
        follows = record { on = λ more last legal. update block change u.found u.updates u.captured (legal_same p (after_update p (names_in block args) change before) after more last same legal) };
        fit = fit_after p bound x def found before after rows at (update_fits u are);
        others = leaves_others p x def found before after rows at;
      }

  pub changed_delete : IsDeletion p site args block change → (old new : Option Tables) → IfSome old (λ told. IsPermutation (told def.name) there) → rows ≡ filter stays there → Changes old new def.name (λ r. rows) → HasChanged p site args old new
  changed_delete u None new scanned are puts = puts
  changed_delete u (Some before) None scanned are puts = absurd puts
  changed_delete u (Some before) (Some after) scanned are puts =
      let at = put_there before after puts in
      let shuffled : IsPermutation (filter stays (before x)) rows = subst (IsPermutation (filter stays (before x))) (sym are) (IsPermutation-filter stays (before x) there (was_there before scanned)) in
      let same = same_puts x before after (filter stays (before x)) rows at shuffled in
      record {
        follows = record { on = λ more last legal. delete block change u.found u.deletes u.captured (legal_same p (after_delete p (names_in block args) change before) after more last same legal) };
        fit = fit_after p bound x def found before after rows at (delete_fits are);
        others = leaves_others p x def found before after rows at;
      }

-- ---- an insertion

at_name : (x : List ℕ) (rows : List Row) (tables : Tables) → with_rows x rows tables x ≡ rows
at_name x rows tables = ap (λ b. cond b rows (tables x)) ((bytes_eq-Decides x x).1 refl)

module _ (p : Program) (bound : IsBound p) (site : ℕ) (args : List Value) (table : Word) (i : IsInsertion p site args table) (def : TableDef) (found : table_at p table.text ≡ Some def)
    (rows : List Row) (read : rows_in args ≡ Some rows) where
  same_def : i.def ≡ def
  same_def = same_some (sym i.declared ∙ found)

  same_rows : i.rows ≡ rows
  same_rows = same_some (sym (rows_back i.rows) ∙ ap rows_in (sym i.are) ∙ read)

  pub insertion_fits : all_fit def rows ≡ true
  insertion_fits = subst (λ rs. all_fit def rs ≡ true) same_rows (subst (λ (d : TableDef). all_fit d i.rows ≡ true) same_def i.fit)

  are : args ≡ rows_value rows ∷ []
  are = i.are ∙ ap (λ rs. rows_value rs ∷ []) same_rows

  named : def.name ≡ table.text
  named = named_found p table.text def found

  long : (tables : Tables) → length (after_insert table.text rows tables table.text) ≡ length (tables def.name) + length rows
  long tables = ap length (at_name table.text (tables table.text ++ rows) tables) ∙ length-append (tables table.text) rows ∙ ap (λ n. length (tables n) + length rows) (sym named)

  inserted : (before after : Tables) → length (before def.name) + length rows ≤ most_rows → Puts before after def.name (before def.name ++ rows) → IsChanged p site args before after
  inserted before after room puts =
      let at : Puts before after table.text (before table.text ++ rows) = subst (λ n. Puts before after n (before n ++ rows)) named puts in
      let same = same_puts table.text before after (before table.text ++ rows) _ at (IsPermutation-refl _) in
      record {
        follows = record { on = λ more last legal. insert i.block table i.expr rows i.found i.inserts are (subst (λ n. n ≤ most_rows) (sym (long before)) room) (legal_same p (after_insert table.text rows before) after more last same legal) };
        fit = λ fit.
            let there : all_fit def (before table.text) ≡ true = subst (λ n. all_fit def (before n) ≡ true) named (fits_found p (Some before) table.text def found fit) in
            fit_after p bound table.text def found before after _ at (fits_both def (before table.text) rows there insertion_fits) fit;
        others = leaves_others p table.text def found before after _ at;
      }

  pub written_insert : (old new : Option Tables) (w : Written) → HasAdded old new def.name rows w → HasWritten p site args old new w
  written_insert None new written.Done added = added.1
  written_insert (Some before) None written.Done added = absurd added.1
  written_insert (Some before) (Some after) written.Done added = inserted before after added.0 added.1
  written_insert old new (written.Full size) added = (
    added.0,
    record {
      block = i.block;
      table = table;
      expr = i.expr;
      rows = rows;
      found = i.found;
      inserts = i.inserts;
      are = are;
      many = added.1;
      leaves = leaves old added.2;
    },
  )
    where
      leaves : (told : Option Tables) → HasSize told def.name rows size → IfSome told (λ tables. length (after_insert table.text rows tables table.text) ≡ size)
      leaves None is = tt
      leaves (Some tables) is = long tables ∙ is

-- ---- the kind of a writing

pub is_insertion : (p : Program) (site : ℕ) (args : List Value) (block : Expr) (t : Word) (e : Expr) → block_at p site ≡ Some block → layer block ≡ Node-F.Insert t e → IsWriting p site args → IsInsertion p site args t
is_insertion p site args block t e found is (sound.IsWriting.insert b t' e' def rows found' is' declared are fit) =
    let same : b ≡ block = same_some (sym found' ∙ found) in
    let both : Node-F.Insert t' e' ≡ Node-F.Insert t e = sym is' ∙ ap layer same ∙ is in
    let words : t' ≡ t = cc in
    record { block = b; expr = e; def = def; rows = rows; found = found'; inserts = ap layer same ∙ is; declared = ap (λ (w : Word). table_at p w.text) (sym words) ∙ declared; are = are; fit = fit }
is_insertion p site args block t e found is (sound.IsWriting.update b change def found' is' declared captured plain fit) =
    let same : b ≡ block = same_some (sym found' ∙ found) in
    let both : Node-F.Update change ≡ Node-F.Insert t e = sym is' ∙ ap layer same ∙ is in absurd cc
is_insertion p site args block t e found is (sound.IsWriting.delete b change def found' is' declared captured plain) =
    let same : b ≡ block = same_some (sym found' ∙ found) in
    let both : Node-F.Delete change ≡ Node-F.Insert t e = sym is' ∙ ap layer same ∙ is in absurd cc

pub is_update : (p : Program) (site : ℕ) (args : List Value) (block : Expr) (change : ChangeExpr) → block_at p site ≡ Some block → layer block ≡ Node-F.Update change → IsWriting p site args → IsUpdate p site args block change
is_update p site args block change found is (sound.IsWriting.update b other def found' is' declared captured plain fit) =
    let same : b ≡ block = same_some (sym found' ∙ found) in
    let both : Node-F.Update other ≡ Node-F.Update change = sym is' ∙ ap layer same ∙ is in
    let changes : other ≡ change = cc in
    record {
      def = def;
      found = found;
      updates = is;
      captured = subst (λ e. AreAllCaptured e args) same captured;
      declared = ap (λ c. table_at p (out-ChangeExpr c).table.text) (sym changes) ∙ declared;
      fit = λ row one. subst (λ e. row_fits def (updated p (names_in e args) change row) ≡ true) same (subst (λ c. row_fits def (updated p (names_in b args) c row) ≡ true) changes (fit row one));
    }
is_update p site args block change found is (sound.IsWriting.insert b t e def rows found' is' declared are fit) =
    let same : b ≡ block = same_some (sym found' ∙ found) in
    let both : Node-F.Insert t e ≡ Node-F.Update change = sym is' ∙ ap layer same ∙ is in absurd cc
is_update p site args block change found is (sound.IsWriting.delete b other def found' is' declared captured plain) =
    let same : b ≡ block = same_some (sym found' ∙ found) in
    let both : Node-F.Delete other ≡ Node-F.Update change = sym is' ∙ ap layer same ∙ is in absurd cc

pub is_deletion : (p : Program) (site : ℕ) (args : List Value) (block : Expr) (change : ChangeExpr) → block_at p site ≡ Some block → layer block ≡ Node-F.Delete change → IsWriting p site args → IsDeletion p site args block change
is_deletion p site args block change found is (sound.IsWriting.delete b other def found' is' declared captured plain) =
    let same : b ≡ block = same_some (sym found' ∙ found) in
    let both : Node-F.Delete other ≡ Node-F.Delete change = sym is' ∙ ap layer same ∙ is in
    let changes : other ≡ change = cc in
    record { def = def; found = found; deletes = is; captured = subst (λ e. AreAllCaptured e args) same captured; declared = ap (λ c. table_at p (out-ChangeExpr c).table.text) (sym changes) ∙ declared }
is_deletion p site args block change found is (sound.IsWriting.insert b t e def rows found' is' declared are fit) =
    let same : b ≡ block = same_some (sym found' ∙ found) in
    let both : Node-F.Insert t e ≡ Node-F.Delete change = sym is' ∙ ap layer same ∙ is in absurd cc
is_deletion p site args block change found is (sound.IsWriting.update b other def found' is' declared captured plain fit) =
    let same : b ≡ block = same_some (sym found' ∙ found) in
    let both : Node-F.Update other ≡ Node-F.Delete change = sym is' ∙ ap layer same ∙ is in absurd cc
