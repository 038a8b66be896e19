use Rattle.std.proofs.Common.{rules}
use Rattle.std.proofs.lemmas.Cmp.{nat_list_cmp_total}
use Rattle.std.proofs.lemmas.List.Sorted.{answers_always, ranks_by}
use Rattle.std.proofs.lemmas.Result.{IfOk-weaker}
use Rattle.lk_tables.proofs.Sorting.{is_below, sorted_from, text_of}
use Rattle.lk_tables.proofs.printing.sorted_rows.Goals as goal

pub returns : goal.returns
returns c =
    record {
      words = IfOk-weaker c.taken_rows.result _ _ (λ rows are. c.in_ok-written.ensures.words) c.taken_rows.ensures;
      sorted =
          IfOk-weaker c.taken_rows.result _ _
          (λ rows are. sorted_from _ _ _ _ c.in_ok-written.ensures.rows c.in_ok-written.ensures.texts c.sort_by.ensures.permutation
          (c.in_ok-sort_by.ensures.sorted is_below (ranks_by nat_list_cmp_total text_of) (answers_always _ _ _ (λ f a r g q. search rules)))
          are)
          c.taken_rows.ensures;
    }
