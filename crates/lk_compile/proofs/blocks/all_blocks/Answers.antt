use Rattle.std.proofs.Common.{◌≡◌, ◌∙◌, ◌+◌, List, Some, ap, length, refl, rules, slice_get, subst, sym}
use Rattle.std.proofs.lemmas.Option.{slice_get_read}
use Rattle.lk_compile.proofs.Taking.{all_run, one_more_run}
use Rattle.lk_code.specs.declared.infos.FunInfo.{FunInfo}
use Rattle.lk_compile.specs.Blocks.{AreRunSoFar}
use Rattle.lk_compile.proofs.blocks.all_blocks.Goals as goal

pub loop-info-preserved : goal.loop-info-preserved
loop-info-preserved c =
    let touched = c.args.tables.now.forms.tables in
    let funs = c.args.tables.now.funs in
    let info = c.info-item.result in
    let at : slice_get funs c.loop-info.label ≡ Some info = ap (slice_get funs) c.loop-info.invariant.1 ∙ subst (λ (fs : List FunInfo). slice_get fs c.loop-info.info-index ≡ Some info) c.as_slice-info-items.ensures (slice_get_read c.as_slice-info-items.result.now (length c.as_slice-info-items.result.now) c.loop-info.info-index info refl c.loop-info-test.true c.info-item.is) in
    let next : c.loop-info.label + 1 ≡ c.in_ok-label.label = search rules in (
      subst (λ n. AreRunSoFar touched c.args.defs.now c.args.queries funs n c.push.new.self c.block.new.left) next
          (one_more_run touched c.args.defs.now c.args.queries funs c.loop-info.label c.loop-info.blocks c.push.new.self c.loop-info.left c.block.new.left info c.in_ok-block.field-0 c.loop-info.invariant.0 at (rw c.get.ensures at (rw c.as_slice.ensures at c.in_ok-block.ensures.runs)) c.in_ok-block.ensures.left c.in_ok-push.ensures.ok),
      sym next ∙ ap (λ n. n + 1) c.loop-info.invariant.1,
    )

pub returns : goal.returns
returns c =
    let whole : c.loop-info.label ≡ length c.args.tables.now.funs = search rules in
    all_run c.args.tables.now.forms.tables c.args.defs.now c.args.queries c.args.tables.now.funs c.loop-info.label c.loop-info.blocks c.loop-info.left c.loop-info.invariant.0 whole
