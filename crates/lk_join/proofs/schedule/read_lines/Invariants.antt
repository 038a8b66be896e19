use Rattle.std.proofs.Common.{◌≡◌, ◌+◌, ℕ, List, Bor, drop, map}
use Rattle.lk_join.specs.Schedule.{lines_before, lines_from}
use Rattle.lk_join.proofs.schedule.read_lines.Given as goal

abbrev pub invariant-loop-text : goal.invariant-loop-text
invariant-loop-text l =
    (l.number ≡ l.text-index + 1)
    × (lines_before l.lines (lines_from l.sessions l.number (map (λ (text : Bor (List ℕ)). text.now) (drop l.text-index l.texts))) ≡ lines_from l.fn.sessions 1 (map (λ (text : Bor (List ℕ)). text.now) l.fn.texts))
