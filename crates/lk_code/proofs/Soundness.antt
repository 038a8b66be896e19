-- Where functions are what code tells of its labels, typed nodes do what nodes of their types do.
use Rattle.std.proofs.Common.{◌≡◌, sym, ap, ◌∙◌, ℕ, List, Some}
use Rattle.std.specs.Option.{option_map}
use Rattle.lk_types.proofs.Parts.{same_some}
use Rattle.lk_types.specs.declared.ground.Ground.{Ground}
use Rattle.lk_code.proofs.Acting.{typed_acts}
use Rattle.lk_code.proofs.Points.{typed_points}
use Rattle.lk_code.specs.Acting.{AreFunctions, TypedActs, TypedPoints}
use Rattle.lk_code.specs.Parts.{HasBody, Info, function_type}
use Rattle.lk_code.specs.Sound.{info_of, told_by}
use Rattle.lk_code.specs.TypedLaw.{IsWhole}
use Rattle.lk_code.specs.Values.{IsFun}
use Rattle.lk_code.specs.declared.tables.CodeTables.{CodeTables}

module _ (c : CodeTables) (whole : IsWhole c) where
  told : (label : ℕ) (t : Ground) (kept : List Ground) → IsFun c label t kept → (of : Info) × (told_by c label ≡ Some of) × (t ≡ function_type of) × (kept ≡ of.env) × HasBody c.forms label
  told label t kept fun = (info_of fun.0, ap (option_map info_of) fun.1, fun.3, fun.4, whole.bodies label fun.0 fun.1 fun.2)

  made : (label : ℕ) (of : Info) → told_by c label ≡ Some of → HasBody c.forms label → IsFun c label (function_type of) of.env
  made label of is has =
      let found = whole.sound.bodies label has.0 has.1 in
      let same : of ≡ info_of found.0 = same_some (sym is ∙ ap (option_map info_of) found.1) in
      (found.0, found.1, found.2, ap function_type same, ap (λ (i : Info). i.env) same)

  pub functions : AreFunctions (IsFun c) c.forms (told_by c)
  functions = record { told = told; made = made }

  pub acts_law : TypedActs (IsFun c) c.forms (told_by c)
  acts_law = typed_acts (IsFun c) c.forms (told_by c) functions whole.sound.forms

  pub points_law : TypedPoints (IsFun c) c.forms (told_by c) c.conts
  points_law = typed_points (IsFun c) c.forms (told_by c) functions whole.sound.forms c.conts whole.sound.named
