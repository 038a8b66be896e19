-- Values of ground types where functions are labels (closures as in P. J. Landin, The Mechanical Evaluation of Expressions, 1964,
-- numbered: J. C. Reynolds, Definitional Interpreters for Higher-Order Programming Languages, 1972, section 5).
use Rattle.std.specs.Prelude.{◌≡◌, ℕ, true, List, Some}
use Rattle.lk_types.specs.declared.ground.Ground.{Ground}
use Rattle.lk_code.specs.Parts.{function_type}
use Rattle.lk_code.specs.Sound.{info_of}
use Rattle.lk_code.specs.Tables.{fun_info, is_function}
use Rattle.lk_code.specs.declared.infos.FunInfo.{FunInfo}
use Rattle.lk_code.specs.declared.tables.CodeTables.{CodeTables}

-- an instance or a lambda with this label is of this type, and keeps values of these
abbrev pub IsFun : CodeTables → ℕ → Ground → List Ground → Type 0
IsFun c label t kept = (i : FunInfo) × (fun_info c label ≡ Some i) × (is_function i.kind ≡ true) × (t ≡ function_type (info_of i)) × (kept ≡ i.env)
