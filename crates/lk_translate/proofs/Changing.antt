-- The SQL of a change makes of rows what the program makes of them.
use Rattle.lk_types.proofs.Parts.{same_some}
use Rattle.std.proofs.Common.{◌≡◌, refl, sym, ap, ◌∙◌, subst, Bool, true, false, Some}
use Rattle.lk_ast.specs.Layers.{Layer, layer}
use Rattle.lk_ast.specs.Tables.{row_fits}
use Rattle.lk_ast.specs.declared.declaration.Program.{Program}
use Rattle.lk_ast.specs.declared.expression.ChangeExpr.{ChangeExpr, out-ChangeExpr}
use Rattle.lk_ast.specs.declared.expression.Node.TheOpen.{Node-F}
use Rattle.lk_ast.specs.declared.table.Row.{Row}
use Rattle.lk_ast.specs.declared.table.TableDef.{TableDef}
use Rattle.lk_ground.specs.declared.program.GroundProgram.{GroundProgram}
use Rattle.lk_inline.specs.Inlined.{change_at, inlined_at, inlined_by, table_labels}
use Rattle.lk_inline.specs.Law.{BlockLaw, HasKinds, Keeps, KeepsRows, KeepsTest, KindsLaw}
use Rattle.lk_inline.specs.Law as inline
use Rattle.lk_norm.specs.Law.{HasColumns}
use Rattle.lk_norm.specs.Law as norm
use Rattle.lk_query.specs.Captured.{leaves}
use Rattle.lk_query.specs.Changed.{ReadNoTable}
use Rattle.lk_query.specs.declared.query.Inlined.{Inlined}
use Rattle.lk_query.specs.declared.query.Inlined.TheVariants as inlined
use Rattle.lk_query.specs.declared.query.InlinedChange.{InlinedChange}
use Rattle.lk_sites.specs.Sites.{Site}
use Rattle.lk_sound.specs.Tables.{table_at}
use Rattle.lk_translate.proofs.Columns.{has_columns}
use Rattle.lk_translate.specs.Law.{ChangeLaw, ChangesLegally, ChangesTo, ChangesWhere}

-- the change of what is inlined, if it is one
abbrev change_or : InlinedChange → Inlined → InlinedChange
change_or other (inlined.Query query) = other
change_or other (inlined.Change change) = change

abbrev is_change : Inlined → Bool
is_change (inlined.Query query) = false
is_change (inlined.Change change) = true

-- what is inlined of a change reads no table
reads_none : (p : Program) (change : InlinedChange) (found : Inlined) → found ≡ inlined.Change change → HasKinds p found → ReadNoTable change.parts
reads_none p change _ is (inline.query kinds scopes ordered typed) = let wrong : false ≡ true = ap is_change is in absurd cc
reads_none p change _ is (inline.change {c = made} kinds scopes ordered typed none) = subst (λ (c : InlinedChange). ReadNoTable c.parts) (ap (change_or made) is) none

module _ (law : norm.ChangeOverLaw) (p : Program) (g : GroundProgram) (site : Site) (change : InlinedChange) (at : inlined_at p g.helpers site ≡ Some (inlined.Change change)) (none : ReadNoTable change.parts) where
  -- its labels are those of the table that the text names
  labels_by : (l : Layer) (of : ChangeExpr) → layer site.block ≡ l → inlined_by p g.helpers site l ≡ Some (change_at p g.helpers site of) → change.labels ≡ table_labels (table_at p (out-ChangeExpr of).table.text)
  labels_by l of is made =
      let same : change_at p g.helpers site of ≡ inlined.Change change = same_some (sym made ∙ ap (inlined_by p g.helpers site) (sym is) ∙ at) in
      sym (ap (λ found. (change_or change found).labels) same)

  row_has : (of : ChangeExpr) → change.labels ≡ table_labels (table_at p (out-ChangeExpr of).table.text) → (def : TableDef) → table_at p (out-ChangeExpr of).table.text ≡ Some def → (row : Row) → row_fits def row ≡ true
      → HasColumns change.labels row
  row_has of are def there row fits = subst (λ ls. HasColumns ls row) (sym (are ∙ ap table_labels there)) (has_columns p (out-ChangeExpr of).table.text def there row fits)

  where_kept : (of : ChangeExpr) → change.labels ≡ table_labels (table_at p (out-ChangeExpr of).table.text) → KeepsTest p site.block change of → ChangesWhere p site change of
  where_kept of are kept def there tables args so row fits = (law change tables none (leaves args) row (row_has of are def there row fits)).0 ∙ kept.test def there args so row fits

  to_kept : (of : ChangeExpr) → change.labels ≡ table_labels (table_at p (out-ChangeExpr of).table.text) → KeepsRows p site.block change of → ChangesTo p site change of
  to_kept of are kept def there tables args so row fits = (law change tables none (leaves args) row (row_has of are def there row fits)).1 ∙ kept.rows def there args so row fits

  by_kept : (l : Layer) (found : Inlined) → layer site.block ≡ l → found ≡ inlined.Change change → Keeps p site.block l found → ChangesLegally p site change l
  by_kept l _ is same (inline.query kept) = let wrong : false ≡ true = ap is_change same in absurd cc
  by_kept l _ is same (inline.update {change = of} layers test rows) =
      let are : change.labels ≡ table_labels (table_at p (out-ChangeExpr of).table.text) = labels_by (Node-F.Update of) of (is ∙ layers) refl in
      subst (ChangesLegally p site change) (sym layers)
      (where_kept of are (subst (λ c. KeepsTest p site.block c of) (ap (change_or change) same) test), to_kept of are (subst (λ c. KeepsRows p site.block c of) (ap (change_or change) same) rows))
  by_kept l _ is same (inline.delete {change = of} layers test) =
      let are : change.labels ≡ table_labels (table_at p (out-ChangeExpr of).table.text) = labels_by (Node-F.Delete of) of (is ∙ layers) refl in
      subst (ChangesLegally p site change) (sym layers) (where_kept of are (subst (λ c. KeepsTest p site.block c of) (ap (change_or change) same) test))

pub changed-legally : BlockLaw → KindsLaw → norm.ChangeOverLaw → ChangeLaw
changed-legally blocks kinds law p bound g has helpers site block of_text proper change at =
    let none : ReadNoTable change.parts = reads_none p change (inlined.Change change) refl (kinds p bound g has helpers site block of_text proper (inlined.Change change) at) in
    by_kept law p g site change at none (layer site.block) (inlined.Change change) refl refl (blocks p bound g has site block proper (inlined.Change change) at)
