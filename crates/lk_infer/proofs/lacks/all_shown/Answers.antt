use Rattle.std.proofs.Common.{◌∙◌, ap, length, subst, sym}
use Rattle.std.specs.Prelude.{flat_map}
use Rattle.lk_infer.specs.Generalised.{IsIn}
use Rattle.lk_infer.specs.Lacks.{shown}
use Rattle.lk_infer.specs.LacksInOrder.{in_order, marked_lacks, with_lacks, AreInOrder}
use Rattle.lk_infer.proofs.LackMembers.{in_order-rises, same_members}
use Rattle.lk_infer.proofs.LevelsShown.{marked_shown}
use Rattle.lk_infer.proofs.lacks.all_shown.Goals as goal

pub insert_marked-requires : goal.insert_marked-requires
insert_marked-requires c = ap length c.as_slice.ensures.value ∙ c.in_ok-marks.ensures.long

pub returns-clause-members : goal.returns-clause-members
returns-clause-members c q =
    let levels = c.parts-table.result.0.now in
    let marks = c.in_ok-marks.marks.items in
    let among = same_members c.insert_marked.new.found (marked_lacks levels marks)
    (c.in_ok-insert_marked.ensures ∙ ap (λ z. with_lacks z (marked_lacks levels c.as_slice.result.now)) c.new-found.ensures ∙ ap (λ ms. in_order (marked_lacks levels ms)) c.as_slice.ensures.value) q in
    let same = marked_shown levels c.parts-table.result.1.now marks c.parts-table.ensures.table c.in_ok-marks.ensures q in
    ((λ is. subst (λ ts. IsIn q (flat_map shown ts)) c.parts-table.ensures.types (same.0 (among.0 is))), (λ is. among.1 (same.1 (subst (λ ts. IsIn q (flat_map shown ts)) (sym c.parts-table.ensures.types) is))))

pub returns-clause-ordered : goal.returns-clause-ordered
returns-clause-ordered c =
    let lacks = marked_lacks c.parts-table.result.0.now c.as_slice.result.now in
    subst AreInOrder (sym (c.in_ok-insert_marked.ensures ∙ ap (λ z. with_lacks z lacks) c.new-found.ensures)) (in_order-rises lacks)
