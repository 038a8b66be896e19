use Rattle.std.proofs.Common.{arith, ap₂, ◌∙◌, unwrap_or}
use Rattle.std.proofs.lemmas.Map.Text.{text_keys}
use Rattle.std.proofs.lemmas.Result.{on_ok_weaker}
use Rattle.lk_tables.proofs.NamesFound.{has_put}
use Rattle.lk_tables.proofs.named.put.Goals as goal

pub returns : goal.returns
returns c = on_ok_weaker c.push.result
    (λ is. has_put c.args.named.now.entries _ c.as_str.result.now c.or_insert-same.result.now c.push.new.self c.args.table
    c.as_str.ensures (c.or_insert-same.ensures.value ∙ ap₂ unwrap_or c.in_ok-named.ensures.value c.new.ensures) is (λ name. grind (arith, text_keys)))
    c.push.ensures.ok
