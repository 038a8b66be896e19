use Rattle.std.proofs.Common.{◌∙◌, sym, ap, inr, refl}
use Rattle.serde_json.specs.Read.{read}
use Rattle.lk_tables.proofs.Objects.{object_of, no_utf8_no_object}
use Rattle.lk_tables.proofs.file.read_object.Goals as goal

pub returns-in_default-clause-err : goal.returns-in_default-clause-err
returns-in_default-clause-err c = inr (refl, no_utf8_no_object _ c.in_default.ensures.cases.0)

pub returns-in-Ok-from_str-clause-ok : goal.returns-in-Ok-from_str-clause-ok
returns-in-Ok-from_str-clause-ok c = object_of _ _ c.in-Ok.ensures.cases.1 (ap read (sym c.in-Ok.ensures.cases.0) ∙ c.in-Ok-from_str.ensures.ok) (sym c.is_object.ensures ∙ c.if-is_object.true)
