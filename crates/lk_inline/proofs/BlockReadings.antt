-- A reading of a table keeps its bag: its one part gives the rows of the table.
use Rattle.std.proofs.Common.{◌≡◌, sym, ap, ◌∙◌, List, [], ◌∷◌, map}
use Rattle.lk_ast.specs.Layers.{layer}
use Rattle.lk_ast.specs.Rows.{row_value}
use Rattle.lk_ast.specs.Tables.{Tables}
use Rattle.lk_ast.specs.declared.declaration.Program.{Program}
use Rattle.lk_ast.specs.declared.expression.Expr.{Expr}
use Rattle.lk_ast.specs.declared.expression.Node.TheOpen.{Node-F}
use Rattle.lk_ast.specs.declared.place.Word.{Word}
use Rattle.lk_bag.specs.Legal.{bag_by}
use Rattle.lk_bodies.specs.Shapes.{labels}
use Rattle.lk_bodies.specs.Walk.{table}
use Rattle.lk_inline.proofs.BlockForms.{IsTableBlock}
use Rattle.lk_inline.proofs.RecordValues.{all_at_labels}
use Rattle.lk_inline.proofs.RowLabels.{element_labels_are, labels_are}
use Rattle.lk_inline.specs.Inlined.{first_columns}
use Rattle.lk_inline.specs.Law.{KeepsBag}
use Rattle.lk_query.proofs.Growing.{gives_last}
use Rattle.lk_query.specs.Given.{Values, at_labels, gives}
use Rattle.lk_query.specs.declared.query.Query.{Query}
use Rattle.lk_sound.proofs.TableRows.{rows_of_table}
use Rattle.lk_sound.specs.Instances.{Instances}
use Rattle.lk_sound.specs.Tables.{AreTables}
use Rattle.lk_types.specs.Rows.{fields_of}
use Rattle.lk_types.specs.declared.ground.Ground.{Ground}
use Rattle.lk_typing.specs.Names.{Entry, Named}

module _ (p : Program) (i : Instances) (functions : Named (Entry Ground)) (name : Word) (types : List Ground) (block : IsTableBlock p i functions name types) where
  abbrev pub reading_of : Query
  reading_of = record { parts = table types name.text ∷ []; root = 0; captured = []; columns = first_columns types; keys = [] }

  rows_given : (tables : Tables) → AreTables p tables → (values : Values) → (gives tables (table types name.text ∷ []) 0 values).list ≡ tables name.text
  rows_given tables are values =
      ap (λ part. (gives tables (part ∷ []) 0 values).list) (ap (λ ts. table ts name.text) block.own)
      ∙ ap (λ g. (g values).list) (gives_last tables [] _)
      ∙ ap (λ ls. map (at_labels ls) (tables name.text)) (ap labels (element_labels_are _) ∙ labels_are (fields_of block.row))
      ∙ all_at_labels p i block.row (tables name.text) (rows_of_table p i tables are name.text block.row block.has)

  pub reading_keeps : (e : Expr) → layer e ≡ Node-F.Table name → KeepsBag p e reading_of
  reading_keeps e is = record { rows = λ tables are args captured_so. ap (λ l. bag_by p tables e l args) is ∙ ap (map row_value) (sym (rows_given tables are _)) }
