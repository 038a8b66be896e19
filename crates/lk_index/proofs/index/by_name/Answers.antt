use Rattle.std.proofs.Common.{refl, ap, ◌∙◌, ℕ, List}
use Rattle.std.specs.Borrow.{Bor}
use Rattle.std.specs.Str.{bytes_eq}
use Rattle.std.proofs.lemmas.Map.Text.{is_eq-slice_cmp}
use Rattle.lk_ast.specs.Functions.{is_named}
use Rattle.lk_ast.specs.declared.declaration.FunDef.{FunDef}
use Rattle.lk_index.proofs.Firsts.{first_or-insert, shown_take}
use Rattle.lk_index.proofs.index.by_name.Goals as goal

pub loop-i-preserved : goal.loop-i-preserved
loop-i-preserved c = λ name.
    first_or-insert _ (λ (q : Bor (List ℕ)) (f : FunDef). is_named q.now f) (λ f. f) (λ f. f.now) _ _ c.index-functions-i.result.now c.loop-i.map c.insert.new.self c.as_str.result _
    (shown_take (λ f. f.now) c.args.functions.now c.loop-i.i c.index-functions-i.result c.loop-i-test.true c.loop-i.auto.i c.index-functions-i.is)
    c.in_ok-insert.ensures.updates (λ q. is_eq-slice_cmp _ q.now ∙ ap (λ text. bytes_eq text q.now) c.as_str.ensures) refl name
    ∙ c.loop-i.invariant name
