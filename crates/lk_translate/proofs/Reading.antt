-- The rows of a reading fit its type, so that all rows of an answer have the same labels.
use Rattle.std.proofs.Common.{◌≡◌, refl, sym, ap, ◌∙◌, subst, true, List, [], ◌∷◌, Some, None, drop, length, map}
use Rattle.std.specs.Prelude.{IsPermutation}
use Rattle.lk_ast.specs.Functions.{functions_of}
use Rattle.lk_ast.specs.Layers.{Layer, layer}
use Rattle.lk_ast.specs.Rows.{row_value}
use Rattle.lk_ast.specs.Tables.{Tables}
use Rattle.lk_ast.specs.declared.declaration.Program.{Program}
use Rattle.lk_ast.specs.declared.expression.Expr.{Expr}
use Rattle.lk_ast.specs.declared.expression.Node.TheOpen.{Node-F}
use Rattle.lk_ast.specs.declared.expression.SortKey.{SortKey}
use Rattle.lk_ast.specs.declared.place.Word.{Word}
use Rattle.lk_ast.specs.declared.table.Cell.{Cell}
use Rattle.lk_ast.specs.declared.table.Row.{Row}
use Rattle.lk_ast.specs.declared.value.Field.{Field}
use Rattle.lk_ast.specs.declared.value.FunValue.{FunValue}
use Rattle.lk_ast.specs.declared.value.Value.{Value, out-Value}
use Rattle.lk_ast.specs.declared.value.Value.TheOpen.{Value-F}
use Rattle.lk_ast.specs.declared.value.Value.TheVariants as value
use Rattle.lk_bag.specs.Bag.{gives, items}
use Rattle.lk_bag.specs.Legal.{bag, bag_by, captured_by}
use Rattle.lk_bodies.specs.Captured.{captured_as, captured_at}
use Rattle.lk_bodies.specs.Uses.{query_uses}
use Rattle.lk_ground.specs.declared.program.GroundProgram.{GroundProgram}
use Rattle.lk_index.specs.Free.{captured_query, free}
use Rattle.lk_inline.proofs.BlockForms.{IsQueryAlone, IsTableBlock, query_alone, query_block, table_block}
use Rattle.lk_inline.proofs.BlockNames.{captured_are}
use Rattle.lk_inline.proofs.BlockValues.{captured_fit}
use Rattle.lk_inline.proofs.QueryTypes.{list_rows, rows_flat}
use Rattle.lk_inline.proofs.UsesTyped.{uses_typed}
use Rattle.lk_inline.specs.Inlined.{inlined_by, key_of, query_at, reading_at}
use Rattle.lk_inline.specs.Stands.{row_labels}
use Rattle.lk_locals.specs.Names.{Names, bind_each, no_names}
use Rattle.lk_mono.specs.Instanced.{HasInstances}
use Rattle.lk_names.specs.Programs.{IsBound}
use Rattle.lk_query.specs.Captured.{AreCaptured}
use Rattle.lk_query.specs.declared.query.Captured.{Captured}
use Rattle.lk_scope.specs.Names as scope
use Rattle.lk_sites.specs.Blocks.{IsBlock}
use Rattle.lk_sites.specs.Sites.{Site}
use Rattle.lk_sound.proofs.Apart.{ordered_apart}
use Rattle.lk_sound.proofs.Bags.{all_early, bag_fits}
use Rattle.lk_sound.proofs.Calls.{kept_fit}
use Rattle.lk_sound.proofs.FlatTypes.{IsFlatRow, flat_row_is}
use Rattle.lk_sound.proofs.Names.{AreDistinct}
use Rattle.lk_sound.proofs.QueryValues.{items_fit}
use Rattle.lk_sound.proofs.Shapes.{IsRecord, fits_fields}
use Rattle.lk_sound.proofs.TableRows.{all_fit_permuted, cell_fields, rows_of_table}
use Rattle.lk_sound.specs.Instances.{Instances}
use Rattle.lk_sound.specs.Nodes.{nodes_of}
use Rattle.lk_sound.specs.Points.{AreLocals}
use Rattle.lk_sound.specs.Tables.{AreTables}
use Rattle.lk_sound.specs.Values.{AllFit, FieldsFit, Fits, field, more, no_field, none}
use Rattle.lk_translate.proofs.Ordering.{HaveLabels}
use Rattle.lk_types.specs.Rows.{Label, fields_of}
use Rattle.lk_types.specs.declared.ground.Ground.{Ground}
use Rattle.lk_types.specs.declared.ground.Ground.TheVariants as known
use Rattle.lk_types.specs.declared.ground.GroundField.{GroundField}
use Rattle.lk_typing.specs.Names.{Named, types_of}
use Rattle.lk_typing.specs.Types.{only_scan, record_of}

-- ---- labels of rows that fit

abbrev pub field_labels : List GroundField → List Label
field_labels gs = map (λ (g : GroundField). g.label) gs

abbrev fields_level : Value-F Value Field FunValue → List Field
fields_level (Value-F.Fields fs) = fs
fields_level other = []

abbrev fields_held : Value → List Field
fields_held v = fields_level (out-Value v)

held_fields : (fs : List Field) → fields_held (value.Fields fs) ≡ fs
held_fields fs = ap fields_level (value.outs-Fields fs)

cell_labels : (cells : List Cell) → map (λ (f : Field). f.label) (cell_fields cells) ≡ map (λ (cell : Cell). cell.label) cells
cell_labels [] = refl
cell_labels (c ∷ cells) = ap (λ ls. c.label ∷ ls) (cell_labels cells)

module _ (p : Program) (i : Instances) where
  labels_fit : (fs : List Field) (gs : List GroundField) → FieldsFit p i fs gs → map (λ (f : Field). f.label) fs ≡ field_labels gs
  labels_fit [] [] no_field = refl
  labels_fit [] (g ∷ gs) fits = elim fits [ ]
  labels_fit (f ∷ fs) [] fits = elim fits [ ]
  labels_fit (f ∷ fs) (g ∷ gs) (field same fit rest) = λ j. same j ∷ labels_fit fs gs rest j

  row_fits_labels : (gs : List GroundField) (r : Row) → Fits p i (row_value r) (known.Fields gs) → row_labels r ≡ field_labels gs
  row_fits_labels gs r fits =
      let inner : IsRecord p i (row_value r) gs = fits_fields p i (row_value r) gs fits in
      let same : cell_fields r.cells ≡ inner.fs = sym (held_fields (cell_fields r.cells)) ∙ ap fields_held inner.is ∙ held_fields inner.fs in
      sym (cell_labels r.cells) ∙ ap (map (λ (f : Field). f.label)) same ∙ labels_fit inner.fs gs inner.fit

  rows_have : (gs : List GroundField) (rs : List Row) → AllFit p i (map row_value rs) (known.Fields gs) → HaveLabels (field_labels gs) rs
  rows_have gs [] none = tt
  rows_have gs (r ∷ rs) (more fits all) = (row_fits_labels gs r fits, rows_have gs rs all)

-- ---- readings

-- over tables that fit, what is read is of records with these fields
pub record HasFields (p : Program) (i : Instances) (block : Expr) (captured : List Captured) : Type 0 where
  pub fields : List GroundField
  pub fit : (tables : Tables) → AreTables p tables → (args : List Value) → AreCaptured captured args → AllFit p i (bag p tables block args) (known.Fields fields)

-- so all rows of an answer have their labels
pub labels_of_answer : (p : Program) (i : Instances) (block : Expr) (captured : List Captured) (has : HasFields p i block captured) (tables : Tables) → AreTables p tables → (args : List Value) → AreCaptured captured args
    → (answer : List Row) → IsPermutation (bag p tables block args) (map row_value answer) → HaveLabels (field_labels has.fields) answer
labels_of_answer p i block captured has tables are args so answer permuted =
    rows_have p i has.fields answer (all_fit_permuted p i (known.Fields has.fields) (bag p tables block args) (map row_value answer) (has.fit tables are args so) permuted)

module _ (p : Program) (bound : IsBound p) (g : GroundProgram) (has : HasInstances p g) (site : Site) (block : IsBlock p has.shaped.instances site.block site.types site.calls) where
  abbrev i : Instances
  i = has.shaped.instances

  module _ (keys : List SortKey) (body : Expr) (is : layer site.block ≡ Node-F.Query keys body) where
    abbrev xs : List Label
    xs = captured_query body

    abbrev all : List Captured
    all = captured_at (query_uses body (drop 1 site.types)) xs

    alone : IsQueryAlone p i block.functions block.locals keys body site.types site.calls block.after
    alone =
        query_alone p i block.functions block.locals keys body site.types site.calls block.after
        (query_block p i block.functions block.typed keys body is block.fine site.types site.calls block.after block.takes)

    same : all ≡ map captured_as (types_of alone.names.kept)
    same =
        captured_are block.locals (query_uses body (drop 1 site.types)) xs alone.names
        (λ x among. (uses_typed p i.helpers (length (functions_of p)) true alone.typed refl refl (all_early p i has.shaped.closed (nodes_of true alone.typed) alone.flat) (drop 1 site.types) site.calls block.after alone.takes x among).1)

    query_rows : (tables : Tables) → AreTables p tables → (args : List Value) → AreCaptured all args → AllFit p i (bag p tables site.block args) alone.row
    query_rows tables are args so =
        let kept : Named Ground = alone.names.kept in
        let distinct : AreDistinct xs = ordered_apart (free body scope.no_names) in
        let names : Names = bind_each no_names xs args in
        let fit : AreLocals p i kept names = kept_fit p i kept xs args alone.names.names distinct (captured_fit p i (types_of kept) args alone.names.flat (subst (λ cs. AreCaptured cs args) same so)) in
        let rows : AllFit p i (items (gives p tables body names)) alone.row =
        items_fit p i (gives p tables body names) alone.row
        (bag_fits p i bound has.shaped.closed tables are block.functions kept only_scan body (known.List alone.row) alone.inside alone.typed refl refl alone.flat names fit) in
        let bags : bag p tables site.block args ≡ items (gives p tables body names) =
        ap (λ l. bag_by p tables site.block l args) is ∙ ap (λ l. items (gives p tables body (bind_each no_names (captured_by l) args))) is in
        subst (λ vs. AllFit p i vs alone.row) (sym bags) rows

    pub query_fields : HasFields p i site.block all
    query_fields =
        let flat : IsFlatRow alone.row = flat_row_is alone.row (rows_flat alone.row (list_rows alone.row alone.rows)) in
        record { fields = flat.fields; fit = λ tables are args so. subst (AllFit p i (bag p tables site.block args)) flat.is (query_rows tables are args so) }

  pub reading_fields : (name : Word) → layer site.block ≡ Node-F.Table name → HasFields p i site.block []
  reading_fields name is =
      let table : IsTableBlock p i block.functions name site.types = table_block p i block.functions block.typed name is site.types site.calls block.after block.takes in
      record {
        fields = fields_of table.row;
        fit = λ tables are args so. subst (λ vs. AllFit p i vs (record_of table.row)) (sym (ap (λ l. bag_by p tables site.block l args) is)) (rows_of_table p i tables are name.text table.row table.has);
      }
