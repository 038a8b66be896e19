use Rattle.std.proofs.Common.{◌+◌, ◌≤◌, length, arith, ap₂}
use Rattle.lk_ast.specs.Limits.{most_rows}
use Rattle.lk_outside.proofs.TableSizes.{room_of, size_of}
use Rattle.lk_sem.proofs.writes.add_rows.Goals as goal

pub returns-then-size-gt-MOST_ROWS-clause-added : goal.returns-then-size-gt-MOST_ROWS-clause-added
returns-then-size-gt-MOST_ROWS-clause-added g c = (
  c.scan_rows.ensures.tables,
  c.if-size-gt-MOST_ROWS.true,
  size_of _ _ c.in_ok-there.there c.args.rows _ c.in_ok-there.ensures.listed.same (ap₂ (λ a b. length a + length b) c.as_slice.ensures c.as_slice-2.ensures),
)

pub returns-clause-added : goal.returns-clause-added
returns-clause-added g c =
    let few : length c.as_slice.result.now + length c.as_slice-2.result.now ≤ most_rows = omega (arith, c.if-size-gt-MOST_ROWS.false) in (
      room_of _ _ c.in_ok-there.there c.args.rows _ c.in_ok-there.ensures.listed.same (ap₂ (λ a b. length a + length b) c.as_slice.ensures c.as_slice-2.ensures) few,
      rw c.scan_rows.ensures.tables at c.in_ok-append_rows.ensures.ok,
    )
