-- Lines worked by hand.
use Rattle.std.proofs.Common.{◌≡◌, ◌∙◌, refl, ap, ℕ, List, [], ◌∷◌, ◌++◌}
use Rattle.std.specs.Fmt.{digits}
use Rattle.std.specs.Prelude.{codes, pos}
use Rattle.lk_ast.specs.JsonText.{base_data, value_data, value_text_of}
use Rattle.lk_ast.specs.declared.event.Event.TheVariants.{Enter, Leave, Print, Write}
use Rattle.lk_ast.specs.declared.event.Trap.TheVariants.{Head}
use Rattle.lk_ast.specs.declared.table.Base.{Base}
use Rattle.lk_ast.specs.declared.table.Base.TheVariants as base
use Rattle.lk_ast.specs.declared.value.Value.TheVariants as value
use Rattle.lk_ast.specs.declared.value.Value.TheFolds.{the_lemmas}
use Rattle.serde_json.proofs.OnLiterals.{serde_json_on_literals}
use Rattle.serde_json.specs.Written.{compact_text}
use Rattle.lk_report.specs.Lines.{done_line, event_line, line, trap_line}

base_written : (b : Base) → value_data (value.Base b) ≡ base_data b
base_written b = search the_lemmas

pub printed : event_line (Print (codes "hi")) ≡ codes "print \"hi\"\n"
unfolding serde_json_on_literals
printed = ap (λ d. line (codes "print" ∷ compact_text d ∷ [])) (base_written (base.Text (codes "hi")))

pub done_with_text : done_line 9 (value.Base (base.Text (codes "ann"))) ≡ codes "done 9 \"ann\"\n"
unfolding digits serde_json_on_literals
done_with_text = ap (λ d. line (codes "done" ∷ codes "9" ∷ compact_text d ∷ [])) (base_written (base.Text (codes "ann")))

pub done_with_number : done_line 10 (value.Base (base.Int (pos 12))) ≡ codes "done 10 12\n"
unfolding digits serde_json_on_literals
done_with_number = ap (λ d. line (codes "done" ∷ codes "10" ∷ compact_text d ∷ [])) (base_written (base.Int (pos 12)))

pub trapped : trap_line 3 Head ≡ codes "trap 3 head\n"
unfolding digits
trapped = refl

pub entered : event_line Enter ≡ codes "enter\n"
entered = refl
