-- How a `Shared` stores its value, so that a type may hold itself behind one.
-- To contracts it is the value; in memory it is a pointer to the counts and the value.
use mathlib.Core.Path.{refl}
use mathlib.Core.Former.{Former, this, const, pair, via}
use base.Stored.{gnil}
use base.Fml.{ftrue}
use denote.RattleType.{RattleType}
use denote.Memory.{part_of}
use denote.RawPtr.{Ptr}
use denote.Sharing.{nothing}
use denote.HoleLaws.{Alike}
use denote.HolePlaces.{Recodes, struct_places, laid, one_value}
use denote.Hole.Fix.{over}
use denote.Param.Weighed.{Weighed}
use denote.Model.Placed.{view_places}
use Rattle.std.specs.declared.rc.Rc.{Rc}
use Rattle.std.specs.contracts.rc.Rc as rc
use Rattle.std.specs.declared.alloc.Global.{Global}
use Rattle.std.specs.contracts.alloc.Global as global
use Rattle.std.specs.contracts.impls.GlobalAllocator.TheImpl.{ghosts}
use Rattle.lk_ast.specs.declared.shared.Shared.TheInside.{Inside}
use Rattle.lk_ast.specs.declared.shared.Shared.TheView.{view, invariant}
use Rattle.lk_ast.specs.contracts.shared.Shared as contract
use Rattle.lk_ast.specs.contracts.shared.Shared.TheInside as inside

-- the value, and nothing beside it
abbrev pub the_former : Former {0} → Former {0}
the_former held = held

abbrev pub the_weighed : {held : Former {0}} → Weighed held → Weighed (the_former held)
the_weighed weight = weight

-- the one field: a pointer, and the value
abbrev stored : Former {0}
stored = via (pair (const Ptr) this) Inside (λ X s. (s.inner.ptr, s.inner.value))
    (λ X v. record { inner = record { ptr = v.0; value = v.1 } }) (λ X s. refl) (λ X v. refl)

-- the same owner with another value
abbrev holding : {X Y : Type 0} → Rc X Global → Y → Rc Y Global
holding b value = record { ptr = b.ptr; value = value }

abbrev rc_row : RattleType → RattleType
rc_row R = rc.the_row R global.the_row ghosts

module _ (R S : RattleType) (h : R.Denot → S.Denot) where
  -- an owner of one value is laid out, owned and shared alike, whichever value it is
  rc_places : Alike R S h → Alike (rc_row R) (rc_row S) (λ b. holding b (h b.value))
  unfolding part_of
  rc_places alike = record {
    mir_same = λ i. (rc_row (one_value R (alike.mir_same i) (λ _. ftrue) (λ _ _. nothing) gnil)).mir;
    own_same = λ b i. (rc_row (one_value R (alike.mir_same i) (alike.own_same b.value i) (alike.shr_same b.value i) gnil)).own_val (holding b tt);
    shr_same = λ b i. (rc_row (one_value R (alike.mir_same i) (alike.own_same b.value i) (alike.shr_same b.value i) gnil)).shr_at (holding b tt);
  }

  pub the_codes_placed : Recodes R S h → Recodes (contract.the_row R) (contract.the_row S) ((the_former this).map R.Denot S.Denot h)
  the_codes_placed recodes held = recodes held

  pub the_places : Alike R S h → Alike (contract.the_row R) (contract.the_row S) ((the_former this).map R.Denot S.Denot h)
  the_places alike =
      view_places stored this view (λ X Y k s. refl) (λ X s. refl) R.Denot S.Denot h (contract.the_row R).coded (contract.the_row S).coded
      (invariant R.Denot) (invariant S.Denot) (λ s p q. refl) (λ s p q. refl) (λ s e. tt) (λ s e. tt)
      (over (inside.the_row R)) (over (inside.the_row S))
      (struct_places (inside.the_type R) (inside.the_type S) ((λ b. holding b (h b.value)), tt) _ (λ d. refl) refl
      (laid _ _ _ (rc_places alike), tt))
