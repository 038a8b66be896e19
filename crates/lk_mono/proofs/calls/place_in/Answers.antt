use Rattle.std.proofs.Common.{◌≡◌, ◌||◌, Some, ap, if◌then◌else◌, slice_get, subst, sym, true, false, ◌∙◌}
use Rattle.lk_mono.specs.Queues.{as_list}
use Rattle.lk_types.specs.Each.{OneOf}
use Rattle.lk_mono.proofs.calls.place_in.Goals as goal
use Rattle.lk_mono.proofs.calls.place_in.Goals.{then-in_helper, else-in_helper}

pub returns-then-found-clause-place : goal.returns-then-found-clause-place
returns-then-found-clause-place c u named typed one =
    let which : (c.args.in_helper || c.args.found.now.inside) ≡ true = elim c.if-in_helper.branch [
      | then-in_helper w ↦ ap (λ b. b || c.args.found.now.inside) w.if-in_helper.true
      | else-in_helper w ↦ ap (λ b. b || c.args.found.now.inside) w.if-in_helper.false ∙ sym w.value-is ∙ c.if-found.true
    ] in
    subst (λ b. slice_get (if b then as_list c.args.helpers.now else as_list c.args.mains.now) c.place_of.result ≡ Some u) (sym which)
    (c.place_of.ensures.place u named typed (subst (λ b. OneOf (λ other. other ≡ u) (if b then as_list c.args.helpers.now else as_list c.args.mains.now)) which one))

pub returns-else-found-clause-place : goal.returns-else-found-clause-place
returns-else-found-clause-place c u named typed one =
    let which : (c.args.in_helper || c.args.found.now.inside) ≡ false = elim c.if-in_helper.branch [
      | then-in_helper w ↦ cc
      | else-in_helper w ↦ ap (λ b. b || c.args.found.now.inside) w.if-in_helper.false ∙ sym w.value-is ∙ c.if-found.false
    ] in
    subst (λ b. slice_get (if b then as_list c.args.helpers.now else as_list c.args.mains.now) c.place_of-else-found.result ≡ Some u) (sym which)
    (c.place_of-else-found.ensures.place u named typed (subst (λ b. OneOf (λ other. other ≡ u) (if b then as_list c.args.helpers.now else as_list c.args.mains.now)) which one))
