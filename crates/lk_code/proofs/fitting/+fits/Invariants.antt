use Rattle.std.proofs.Common.{◌↔◌, drop}
use Rattle.lk_fits.specs.Levels.{IsTag}
use Rattle.lk_fits.specs.Values.{AllFit, FieldsFit, FitEach}
use Rattle.lk_code.specs.Values.{IsFun}
use Rattle.lk_code.proofs.fitting.+fits.Given as goal

abbrev pub invariant-all_fit-loop-value : goal.invariant-all_fit-loop-value
invariant-all_fit-loop-value l = AllFit (IsFun l.c.tables) (drop l.value-index l.values) l.t ↔ AllFit (IsFun l.c.tables) l.values l.t

abbrev pub invariant-each_fits-loop-i : goal.invariant-each_fits-loop-i
invariant-each_fits-loop-i l = FitEach (IsFun l.c.tables) (drop l.i l.values) (drop l.i l.types) ↔ FitEach (IsFun l.c.tables) l.values l.types

abbrev pub invariant-fields_fit-loop-i : goal.invariant-fields_fit-loop-i
invariant-fields_fit-loop-i l = FieldsFit (IsFun l.c.tables) (drop l.i l.fields) (drop l.i l.types) ↔ FieldsFit (IsFun l.c.tables) l.fields l.types

abbrev pub invariant-tag_fits-loop-expected : goal.invariant-tag_fits-loop-expected
invariant-tag_fits-loop-expected l = IsTag (IsFun l.c.tables) (drop l.expected-index l.types) l.tag l.held ↔ IsTag (IsFun l.c.tables) l.types l.tag l.held
