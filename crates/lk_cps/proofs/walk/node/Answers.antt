use Rattle.std.proofs.Common.{[], subst, sym, ◌≡◌, ◌∙◌, Some}
use Rattle.lk_cps.proofs.Living.{at_node}
use Rattle.lk_cps.proofs.walk.node.Goals as goal
use Rattle.lk_cps.specs.Live.{LiveAt, LiveBehind}
use Rattle.lk_cps.specs.Steps.{HasLooked}
use Rattle.lk_ir.specs.Tables.{form_at}
use Rattle.lk_ir.specs.declared.nodes.Forms.{Forms}

pub behind-requires : goal.behind-requires
behind-requires c = (c.args.number, subst (λ (f : Forms). form_at f c.args.number ≡ Some c.at-form.result.now) c.forms.ensures c.at-form.ensures)

pub look-requires : goal.look-requires
look-requires c = subst (λ (f : Forms). LiveBehind f c.at-form.result.now [] c.in_ok-live.live) (sym c.behind.ensures.table) c.in_ok-live.ensures.live

pub put-requires : goal.put-requires
put-requires c =
    let there : form_at c.args.table.now c.args.number ≡ Some c.at-form.result.now = subst (λ (f : Forms). form_at f c.args.number ≡ Some c.at-form.result.now) c.forms.ensures c.at-form.ensures in
    let found : HasLooked c.args.table.now c.at-form.result.now c.at-form.result.now.parts c.in_ok-found.found = subst (λ (f : Forms). HasLooked f c.at-form.result.now c.at-form.result.now.parts c.in_ok-found.found) c.behind.ensures.table c.in_ok-found.ensures.looked in
    subst (λ (f : Forms). LiveAt f c.args.number c.in_ok-found.found.live) (sym (c.look.ensures.table ∙ c.behind.ensures.table)) (at_node c.args.table.now c.args.number c.at-form.result.now c.in_ok-found.found.live there found.live)

pub returns-clause-conts : goal.returns-clause-conts
returns-clause-conts c = record {
  form = c.at-form.result.now;
  there = subst (λ (f : Forms). form_at f c.args.number ≡ Some c.at-form.result.now) c.forms.ensures c.at-form.ensures;
  conts = (subst (λ (f : Forms). HasLooked f c.at-form.result.now c.at-form.result.now.parts c.in_ok-found.found) c.behind.ensures.table c.in_ok-found.ensures.looked).conts;
}
