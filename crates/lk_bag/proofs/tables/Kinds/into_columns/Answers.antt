use Rattle.std.proofs.Common.{◌++◌, map, sym, ap, ◌∙◌, append-nil}
use Rattle.lk_bag.specs.Columns.{columns_of}
use Rattle.lk_bag.proofs.ColumnMaps.{column, columns-finite}
use Rattle.lk_bag.proofs.tables.Kinds.into_columns.Goals as goal

pub returns : goal.returns
returns c =
    sym (append-nil c.loop-label.columns)
    ∙ ap (λ es. c.loop-label.columns ++ map column es) (sym c.in-None.ensures.steps.0)
    ∙ c.loop-label.invariant
    ∙ ap (map column) c.into_iter-label-iterator.ensures.into_iter_gives.0
    ∙ columns-finite c.self.inside.kinds.entries c.into_iter-label-iterator.ensures.into_iter_gives.5
    ∙ ap columns_of c.self.view_is
