use Rattle.std.proofs.Common.{◌∙◌, ap, rules}
use Rattle.lk_tables.specs.Words.{fits_word}
use Rattle.lk_tables.proofs.Words.{word_fits}
use Rattle.lk_tables.proofs.printing.base_json.Goals as goal

pub returns-in-Int : goal.returns-in-Int
returns-in-Int c = record { word = ap fits_word c.in-Int.is ∙ word_fits c.in-Int.number (search rules); shown = search rules }
