use Rattle.std.proofs.Common.{sym, ◌∙◌}
use Rattle.lk_types.proofs.Kept.{none_searched, number_searched}
use Rattle.lk_types.proofs.places.Places.number_of.Goals as goal

pub returns-in-Ok : goal.returns-in-Ok
returns-in-Ok c = number_searched c.args.self.now.items.items _ c.args.place c.args.self.now.rising c.deref.ensures.value c.in-Ok.number c.in-Ok.ensures.bound (c.in-Ok.ensures.ok 0)

pub returns-in-Err : goal.returns-in-Err
returns-in-Err c = none_searched c.args.self.now.items.items _ c.args.place c.args.self.now.rising c.deref.ensures.value c.binary_search.result c.in-Err.field-0 c.len.result c.binary_search.ensures.position c.in-Err.is (c.len.ensures ∙ sym c.deref.ensures.len)
