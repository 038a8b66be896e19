use Rattle.std.proofs.Common.{◌≡◌, ◌∙◌, sym, ap, map, subst, IfOk}
use Rattle.serde_json.specs.View.{view}
use Rattle.lk_tables.specs.Choices.{all_some}
use Rattle.lk_tables.specs.Reading.{row_of}
use Rattle.lk_tables.proofs.Members.{rows_of_array}
use Rattle.lk_tables.proofs.rows.read_rows.Goals as goal

pub returns-in-Some : goal.returns-in-Some
returns-in-Some c =
    subst (λ o. IfOk c.rows_from.result (λ rows. rows ≡ o))
    (ap (λ values. all_some (row_of c.args.columns.now) (map view values)) c.as_slice.ensures.value ∙ sym (rows_of_array c.args.columns.now _ (view c.args.value.now) c.in-Some.ensures))
    c.rows_from.ensures
