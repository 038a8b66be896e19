use Rattle.lk_lowered.proofs.Bodied.{stands}
use Rattle.lk_lowered.proofs.Entered.{enters}
use Rattle.lk_lowered.proofs.Lowers.{begins, lowers, sessions_same}
use Rattle.lk_lowered.proofs.Marks.{all_apart}
use Rattle.lk_lowered.proofs.Sited.{are_sited}
use Rattle.lk_lowered.proofs.TypedPrograms as types
use Rattle.lk_lowered.proofs.law.lowered_laws.Goals as goal

pub returns : goal.returns
returns c = record {
  stands = stands;
  lowers = λ g f of. lowers g f of.forms (all_apart g of.instances of.placed of.uses of.marks);
  begins = λ g f of. begins g f of.forms (all_apart g of.instances of.placed of.uses of.marks);
  session_same = λ g f of main is b body_is arg fuel answers. sessions_same g f of.forms (all_apart g of.instances of.placed of.uses of.marks) main is b body_is arg fuel answers;
  enters = λ g f of. enters g f of.forms (all_apart g of.instances of.placed of.uses of.marks);
  captured = types.captured;
  typed = types.typed_programs;
  sites = are_sited;
}
