use denote.Text.{Utf8}
use denote.Shadow.{shadow}
use Rattle.case_files.proofs.paragraphs.told.Given as goal

abbrev pub invariant-loop-paragraph : goal.invariant-loop-paragraph
invariant-loop-paragraph g l =
    (goal.iterator-loop-paragraph g).can_next l.paragraph-iterator ×
    (goal.iterator-loop-paragraph g).is_finite l.paragraph-iterator ×
    shadow (Utf8 l.settings)
