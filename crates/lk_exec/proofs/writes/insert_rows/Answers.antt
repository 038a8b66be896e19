use Rattle.std.proofs.Common.{◌+◌, ◌≤◌, length, arith, ap₂}
use Rattle.lk_ast.specs.Limits.{most_rows}
use Rattle.lk_exec.proofs.Passing.{always_on_ok}
use Rattle.lk_outside.proofs.TableSizes.{room_of, size_of}
use Rattle.lk_exec.proofs.writes.insert_rows.Goals as goal

pub returns-then-size-gt-MOST_ROWS-clause-full : goal.returns-then-size-gt-MOST_ROWS-clause-full
returns-then-size-gt-MOST_ROWS-clause-full g c = record {
  many = c.if-size-gt-MOST_ROWS.true;
  has = size_of _ _ c.in-Ok.there c.args.rows _ c.in-Ok.ensures.listed.same (ap₂ (λ a b. length a + length b) c.as_slice.ensures c.as_slice-2.ensures);
}

pub returns-clause-room : goal.returns-clause-room
returns-clause-room g c =
    let few : length c.as_slice.result.now + length c.as_slice-2.result.now ≤ most_rows = omega (arith, c.if-size-gt-MOST_ROWS.false) in
    always_on_ok c.raised_in.result (room_of _ _ c.in-Ok.there c.args.rows _ c.in-Ok.ensures.listed.same (ap₂ (λ a b. length a + length b) c.as_slice.ensures c.as_slice-2.ensures) few)
