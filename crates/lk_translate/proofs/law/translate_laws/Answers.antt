use Rattle.lk_translate.proofs.Answering.{answered-legally}
use Rattle.lk_translate.proofs.Changing.{changed-legally}
use Rattle.lk_translate.proofs.Meaning.{translated-meant}
use Rattle.lk_translate.proofs.WellFormed.{well-formed}
use Rattle.lk_translate.specs.Law.{AnswerLaw, ChangeLaw, GoodLaw}
use Rattle.lk_translate.proofs.law.translate_laws.Goals as goal

pub returns-clause-answers : goal.returns-clause-answers
returns-clause-answers c = answered-legally c.inline_laws.ensures.blocks c.normal_form_laws.ensures.permuted

pub returns-clause-changes : goal.returns-clause-changes
returns-clause-changes c = changed-legally c.inline_laws.ensures.blocks c.inline_laws.ensures.kinds c.normal_form_laws.ensures.changed_over

pub returns-clause-good : goal.returns-clause-good
returns-clause-good c = well-formed c.inline_laws.ensures.kinds c.normal_form_laws.ensures.good c.normal_form_laws.ensures.good_change

pub returns-clause-translated : goal.returns-clause-translated
returns-clause-translated c =
    let answers : AnswerLaw = answered-legally c.inline_laws.ensures.blocks c.normal_form_laws.ensures.permuted in
    let changes : ChangeLaw = changed-legally c.inline_laws.ensures.blocks c.inline_laws.ensures.kinds c.normal_form_laws.ensures.changed_over in
    let good : GoodLaw = well-formed c.inline_laws.ensures.kinds c.normal_form_laws.ensures.good c.normal_form_laws.ensures.good_change in
    translated-meant answers changes good c.sites_laws.ensures.sites c.inline_laws.ensures.types
