use Rattle.std.proofs.Common.{◌≡◌, true, false, length, sym, ap, ◌∙◌}
use Rattle.lk_mono.specs.Flatness.{is_marked, itself}
use Rattle.lk_mono.proofs.shapes.odd_helpers.Goals as goal

pub passes-init : goal.passes-init
passes-init c = let e = c.in_ok-marks.ensures in record {
  size = ap length e;
  sound = λ i h. itself (ap (λ marks. is_marked marks i) (sym e) ∙ h);
  itself = λ i h. ap (λ marks. is_marked marks i) e ∙ h;
  calling = λ h. let no : true ≡ false = h in cc;
}
