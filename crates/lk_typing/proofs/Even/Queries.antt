-- The walks through a query and through a change of a table are even where those through their parts are.
use Rattle.std.proofs.Common.{ℕ, ◌+◌, List, [], ◌∷◌, ◌++◌, map, refl, Option, Some, None}
use native.Mathlib.Omega.{arith}
use Rattle.lk_ast.specs.declared.declaration.TableDecl.{TableDecl}
use Rattle.lk_ast.specs.declared.expression.SortKey.{SortKey}
use Rattle.lk_ast.specs.declared.place.Span.{Span}
use Rattle.lk_types.proofs.Members.{each_both}
use Rattle.lk_types.specs.Rows.{Label, same_effect}
use Rattle.lk_types.specs.declared.ty.Effect.TheVariants as effect
use Rattle.lk_types.specs.declared.ty.Effects.{Effects}
use Rattle.lk_types.specs.declared.ty.RowTail.TheVariants.{Closed, Var}
use Rattle.lk_types.specs.declared.ty.Ty.{Ty}
use Rattle.lk_types.specs.declared.ty.Ty.TheVariants as ty
use Rattle.lk_typing.proofs.Even.Found.{Before, Stays, Found, mapped, one_further, weaker, here, onward, beside, new, any_sets}
use Rattle.lk_typing.proofs.Even.Forms.{more_names, other_row}
use Rattle.lk_typing.proofs.Even.Lists.{EvenThrough}
use Rattle.lk_typing.proofs.Even.Nodes.{IfThere, Context, Even, EvenOwn, EvenTold, EvenWalked, EvenAll, all_even, steps_both, ended_even, own_found, has_if_found}
use Rattle.lk_typing.proofs.Even.Operators.{IsEvenLabelled, labelled_even, never_even}
use Rattle.lk_typing.proofs.Even.Types.{HasRow, AreEvenNames, IsEvenEquation, even_bool, even_variable, even_list, even_record, even_unit, even_row_of, even_has}
use Rattle.lk_typing.specs.EffectRows.{IsEven}
use Rattle.lk_typing.specs.Equations.{Own, own, never}
use Rattle.lk_typing.specs.Names.{Named, Entry}
use Rattle.lk_typing.specs.Types.{labelled}
use Rattle.lk_typing.specs.Typing.{is_there}
use Rattle.lk_typing.specs.Unknowns.{effects_of, row_of, same, has}
use Rattle.lk_typing.specs.Walk.{Walking, Walked, WalkedAll, walk_all, all_types, Told, has_if, keys_told, query_walked, ChangeWalk, sets_told, set_own, change_in}

-- ---- keys, and what is set

keys_found : (t : Ty) (keys : List SortKey) (n : ℕ) (b : Before) {K : Before → Type 0} → Stays n b K → ((c : Before) → K c → IsEven c t) → Found n b (keys_told t keys n).next (EvenTold (keys_told t keys n))
keys_found t [] n b known is = mapped (here known) (λ c given. record { equations = tt })
keys_found t (key ∷ keys) n b known is =
    onward known (any_sets n (2 + n) b (omega arith)) (λ c two.
    mapped (beside two (keys_found t keys (2 + n) c two (λ d all. is d all.0))) (λ d all. record {
      equations = ((is d all.0.0, even_list d _ (even_record d ((key.label.text, ty.Var n) ∷ []) (Var (1 + n)) (even_variable d n, tt))), all.1.equations);
    }))

sets_found : (t : Ty) (sets : Named Ty) (n : ℕ) (b : Before) {K : Before → Type 0} → Stays n b K → ((c : Before) → K c → IsEven c t × AreEvenNames c sets) → Found n b (sets_told t sets n).next (EvenTold (sets_told t sets n))
sets_found t [] n b known are = mapped (here known) (λ c given. record { equations = tt })
sets_found t (set ∷ sets) n b known are =
    onward known (any_sets n (1 + n) b (omega arith)) (λ c two.
    mapped (beside two (sets_found t sets (1 + n) c two (λ d all. ((are d all.0).0, (are d all.0).1.1)))) (λ d all. record {
      equations = (((are d all.0.0).0, even_record d (set ∷ []) (Var n) ((are d all.0.0).1.0, tt)), all.1.equations);
    }))

-- what is said behind the condition and what is set
set_own_found : (effects : Effects) (t cond : Ty) (o : Option (Named Ty × List Ty)) (n : ℕ) (b : Before) {K : Before → Type 0} → Stays n b K
    → ((c : Before) → K c → (HasRow c effects × IsEven c t) × (IsEven c cond × IfThere (IsEvenLabelled c) o)) → Found n b (set_own effects t cond o n).next (EvenOwn (set_own effects t cond o n))
set_own_found effects t cond None n b known are = own_found [] (never n) n b (omega arith) known (λ c given sets. never_even c n)
set_own_found effects t cond (Some (sets, u ∷ us)) n b known are = own_found [] (never n) n b (omega arith) known (λ c given sets. never_even c n)
set_own_found effects t cond (Some (sets, [])) n b known are =
    let said : Told = sets_told t sets n in
    onward known (sets_found t sets n b known (λ c given. ((are c given).0.1, (are c given).1.1.0))) (λ c two.
    mapped (beside two (new said.next c (same_effect effect.Write))) (λ d all. record {
      is = even_unit d;
      equations = (((are d all.0.0).1.0, even_bool d), each_both (IsEvenEquation d) said.equations (has effects effect.Write said.next ∷ []) all.0.1.equations (even_has d effects effect.Write said.next (are d all.0.0).0.0 all.1, tt));
    }))

module _ (functions : Named (Entry Ty)) where
  pub query_even : (at : Span) (keys : List SortKey) (body : Walking) → Even functions body → Even functions (query_walked at keys body)
  query_even at keys body even_body names effects n b known =
      let scanning : Effects = effects_of (effect.Scan ∷ []) Closed in
      let w : Walked = body names scanning n in
      let m : ℕ = w.next in
      let ordered : Told = keys_told w.ty keys (1 + m) in
      let client : Told = has_if (is_there keys) effects effect.Local (1 + ordered.next) in
      one_further (onward known (even_body names scanning n b (weaker known (λ d all. other_row functions names effects scanning d all refl))) (λ c two.
      onward two (any_sets m (1 + m) c (omega arith)) (λ c three.
      onward three (keys_found w.ty keys (1 + m) c three (λ d all. all.0.1.is)) (λ c four.
      onward four (new ordered.next c (same_effect effect.Scan)) (λ c five.
      mapped (beside five (has_if_found (is_there keys) effects effect.Local (1 + ordered.next) c five (λ d all. all.0.0.0.0.row))) (λ d all. (
      let given : Context functions names effects d = all.0.0.0.0.0 in
      let body_is : EvenWalked w d = all.0.0.0.0.1 in
      let keys_are : EvenTold ordered d = all.0.0.1 in
      ended_even at (all_types w) w.steps (own w.ty (same w.ty (ty.List (ty.Var m)) ∷ ordered.equations ++ has effects effect.Scan ordered.next ∷ client.equations) client.next) d (all_even w d body_is) body_is.said
      (record {
        is = body_is.is;
        equations = ((body_is.is, even_list d (ty.Var m) (even_variable d m)), each_both (IsEvenEquation d) ordered.equations (has effects effect.Scan ordered.next ∷ client.equations) keys_are.equations (even_has d effects effect.Scan ordered.next given.row all.0.1, all.1.equations));
      }))))))))

  -- an update or a deletion of a table
  pub change_even : (at : Span) (k : ChangeWalk) (o : Option TableDecl) → Even functions k.cond → EvenThrough functions (map (λ set. set.1) k.sets) → Even functions (change_in at k o)
  change_even at k None even_cond even_sets names effects n b known = one_further (mapped (here known) (λ c given. ended_even at [] [] (never n) c tt tt (never_even c n)))
  change_even at k (Some table) even_cond even_sets names effects n b known =
      let t : Ty = row_of table in
      let inner : Named Ty = (k.name, t) ∷ names in
      let none : Effects = effects_of [] Closed in
      let w : Walked = k.cond inner none n in
      let ws : List Walking = map (λ set. set.1) k.sets in
      let all_sets : WalkedAll = walk_all ws inner none w.next in
      let labels : List Label = map (λ set. set.0) k.sets in
      let o : Own = set_own effects t w.ty (labelled labels all_sets.types) all_sets.next in
      one_further (onward known (even_cond inner none n b (weaker known (λ d all. other_row functions inner effects none d (more_names functions ((k.name, t) ∷ []) names effects d all (even_row_of d table, tt)) refl))) (λ c two.
      onward two (even_sets inner none w.next c (weaker two (λ d all. other_row functions inner effects none d (more_names functions ((k.name, t) ∷ []) names effects d all.0 (even_row_of d table, tt)) refl))) (λ c three.
      mapped (beside three (set_own_found effects t w.ty (labelled labels all_sets.types) all_sets.next c three (λ d all. ((all.0.0.row, even_row_of d table), (all.0.1.is, labelled_even d labels all_sets.types all.1.are))))) (λ d all. (
      let cond_is : EvenWalked w d = all.0.0.1 in
      let sets_are : EvenAll all_sets d = all.0.1 in
      ended_even at (all_types w ++ all_sets.inside) (w.steps ++ all_sets.steps) o d (each_both (IsEven d) (all_types w) all_sets.inside (all_even w d cond_is) sets_are.nodes)
      (steps_both w.steps all_sets.steps d cond_is.said sets_are.said) all.1)))))
