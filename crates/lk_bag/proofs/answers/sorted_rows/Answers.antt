use Rattle.std.proofs.Common.{◌≡◌, map, ap, subst, sym, ◌∙◌}
use Rattle.std.specs.Option.{IfSome}
use Rattle.std.specs.Prelude.{IsPermutation}
use Rattle.std.proofs.lemmas.List.Sorted.{IsPermutation-map}
use Rattle.lk_ast.specs.Rows.{row_value}
use Rattle.lk_bag.proofs.answers.sorted_rows.Goals as goal

pub returns-in_ok-sorted-in-Some-clause-bag : goal.returns-in_ok-sorted-in-Some-clause-bag
returns-in_ok-sorted-in-Some-clause-bag c =
    let same : map row_value c.in-Some.rows ≡ c.args.values = subst (λ found. IfSome found (λ rows. map row_value rows ≡ c.args.values)) c.in-Some.is c.in_ok-rows.ensures.rows in
    subst (λ values. IsPermutation values (map row_value c.in_ok-sorted-in-Some.field-0)) same (IsPermutation-map row_value c.in-Some.rows c.in_ok-sorted-in-Some.field-0 c.in_ok-sorted-in-Some.ensures.moved)
