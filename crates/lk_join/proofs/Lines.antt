-- Lines, one behind another.
use Rattle.std.proofs.Common.{◌≡◌, ◌<◌, ◌≤◌, ◌^◌, ℕ, Bool, List, [], ◌∷◌, ◌++◌, Result, Ok, Err, refl, sym, ◌∙◌, ap, append_assoc, arith, length, map}
use Rattle.std.proofs.lemmas.List.Splits.{length-slice_split}
use Rattle.std.proofs.lemmas.List.Sums.{count_by-le-length}
use Rattle.std.proofs.lemmas.List.{length-map}
use Rattle.std.specs.List.{slice_split}
use Rattle.std.specs.Prelude.{Some}
use Rattle.lk_join.specs.Schedule.{line_before, lines_before}
use Rattle.lk_join.specs.declared.line.Line.{Line}

pub one_line_more : (front : List Line) (line : Line) (number : ℕ) (behind : Result (List Line) ℕ) → lines_before (front ++ line ∷ []) behind ≡ lines_before front (line_before (Some line) number behind)
one_line_more front line number (Ok lines) = ap Ok (append_assoc front (line ∷ []) lines)
one_line_more front line number (Err bad) = refl

-- a text has at most one line more than bytes
pub few_lines : {A : Type 0} (f : A → List ℕ) (texts : List A) (p : ℕ → Bool) (text : List ℕ) → map f texts ≡ slice_split p text → length text ≤ 4_194_304 → length texts < 2 ^ 31
few_lines f texts p text is small =
    let lines : length texts ≡ length (slice_split p text) = sym (length-map texts f) ∙ ap length is in
    omega (arith, lines, length-slice_split p text, count_by-le-length p text, small)
