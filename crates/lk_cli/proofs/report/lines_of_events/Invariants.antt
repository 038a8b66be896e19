use Rattle.std.proofs.Common.{◌≡◌, take}
use Rattle.std.specs.List.{flat_map}
use Rattle.lk_report.specs.Lines.{event_line}
use Rattle.lk_cli.proofs.report.lines_of_events.Given as goal

abbrev pub invariant-loop-event : goal.invariant-loop-event
invariant-loop-event l = l.text ≡ flat_map event_line (take l.event-index l.log)
