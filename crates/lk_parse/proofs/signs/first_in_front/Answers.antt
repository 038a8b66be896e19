use Rattle.std.proofs.Common.{List, ℕ, Bool, sym, ◌∙◌, ap, rules, tests, nat_eq}
use Rattle.std.specs.Borrow.{Bor}
use Rattle.std.specs.List.{starts_with}
use Rattle.std.specs.Option.{option_copied}
use Rattle.std.specs.Prelude.{find}
use Rattle.std.proofs.lemmas.Iterator.{YieldsList-from_slice}
use Rattle.std.proofs.lemmas.Iterator.Search.{find_from_yields_List}
use Rattle.lk_parse.proofs.LongestSign.{find-map}
use Rattle.lk_parse.proofs.signs.first_in_front.Goals as goal

pub returns : goal.returns
returns c =
    let test : Bor (List ℕ) → Bool = λ entry. starts_with nat_eq c.args.bytes.now entry.now in
    let run = find_from_yields_List test _ _ c.find.result c.find.ensures.ran (YieldsList-from_slice c.iter.result.rest.now cc) (λ x b q k. search (rules, tests)) in
    ap option_copied (c.copied.ensures ∙ run ∙ ap (find test) c.iter.ensures.rest) ∙ sym (find-map (starts_with nat_eq c.args.bytes.now) c.args.table.now)
