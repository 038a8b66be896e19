-- No function is shown of an event that has none.
use Rattle.std.proofs.Common.{◌≡◌, false, refl}
use Rattle.std.specs.List.{list_any}
use Rattle.lk_ast.specs.Plain.{holds_function}
use Rattle.lk_ast.specs.declared.event.Event.{Event}
use Rattle.lk_ast.specs.declared.event.Event.TheVariants.{Print, Enter, Leave, Read, Write}
use Rattle.lk_report.specs.Lines.{args_of}
use Rattle.lk_sound.specs.Histories.{IsPlainEvent}

pub shown_plain : (event : Event) → IsPlainEvent event → list_any holds_function (args_of event) ≡ false
shown_plain (Print bytes) plain = refl
shown_plain Enter plain = refl
shown_plain Leave plain = refl
shown_plain (Read e) plain = plain
shown_plain (Write e) plain = plain
