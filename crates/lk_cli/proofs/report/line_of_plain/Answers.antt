use Rattle.lk_cli.proofs.Shown.{shown_plain}
use Rattle.lk_cli.proofs.report.line_of_plain.Goals as goal

pub line_of_event-requires : goal.line_of_event-requires
line_of_event-requires c = record { plain = shown_plain c.args.event.now c.requires.plain }
