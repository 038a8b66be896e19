use Rattle.std.proofs.Common.{◌≡◌, ℕ}
use Rattle.std.proofs.lemmas.Iterator.{YieldsList-from_take, text_from_collect}
use Rattle.std.proofs.lemmas.Iterator.Adapters.{YieldsList-from_repeat_n, YieldsList-from_skip}
use Rattle.std.proofs.lemmas.Iterator.Consumers.{YieldsList-from_chain}
use Rattle.lk_explain.proofs.excerpts.marks_row.Goals as goal

pub returns : goal.returns
returns c =
    text_from_collect {s = c.take.result} c.collect.result c.collect.ensures.ran
    (YieldsList-from_take 120
    (YieldsList-from_skip c.args.first
    (YieldsList-from_chain
    (YieldsList-from_repeat_n (λ (x y : ℕ). y ≡ x) c.args.lead 0x20 (cc) (cc) (λ y same. same))
    (YieldsList-from_repeat_n (λ (x y : ℕ). y ≡ x) c.args.marked 0x5E (cc) (cc) (λ y same. same))
    (cc) (cc))
    (cc))
    (cc))
