-- The walks through expressions one after another, and through a `switch`, are even where those through its parts are.
use Rattle.std.proofs.Common.{ℕ, ◌+◌, List, [], ◌∷◌, ◌++◌, refl, Option, Some, None}
use native.Mathlib.Omega.{arith}
use Rattle.lk_ast.specs.declared.place.Span.{Span}
use Rattle.lk_types.proofs.Members.{each_both}
use Rattle.lk_types.specs.Rows.{Label, no_effects, same_effect}
use Rattle.lk_types.specs.declared.ty.Effect.TheVariants as effect
use Rattle.lk_types.specs.declared.ty.Effects.{Effects}
use Rattle.lk_types.specs.declared.ty.RowTail.TheVariants.{Closed, Var}
use Rattle.lk_types.specs.declared.ty.Ty.{Ty}
use Rattle.lk_typing.proofs.Even.Found.{Before, Stays, Found, mapped, one_further, weaker, here, onward, beside, new, any_sets}
use Rattle.lk_typing.proofs.Even.Forms.{more_names}
use Rattle.lk_typing.proofs.Even.Nodes.{Context, Even, EvenOwn, EvenWalked, EvenAll, all_even, steps_both, ended_even, own_found}
use Rattle.lk_typing.proofs.Even.Operators.{all_same}
use Rattle.lk_typing.proofs.Even.Types.{AreEvenTypes, AreEvenNames, IsEvenEquation, even_variable, even_variant, even_unit, even_has}
use Rattle.lk_typing.specs.EffectRows.{IsEven, AreEven}
use Rattle.lk_typing.specs.Equations.{Own, own}
use Rattle.lk_typing.specs.Names.{Named, Entry}
use Rattle.lk_typing.specs.Unknowns.{variant_of, same, has}
use Rattle.lk_typing.specs.Walk.{Walking, Walked, WalkedAll, walk_all, before_all, all_types, CaseWalk, WalkedCases, walk_cases, Held, held_by, one_type, switch_ended, switch_walked}
use Rattle.lk_typing.specs.declared.step.Step.{Step}

pub record EvenCases (w : WalkedCases) (c : Before) : Type 0 where
  pub named : AreEvenNames c w.tags
  pub bodies_are : EvenAll w.bodies c

-- what a tag holds
record EvenHeld (held : Held) (c : Before) : Type 0 where
  is : IsEven c held.ty
  names : AreEvenNames c held.bound

held_found : (name : Option Label) (n : ℕ) (b : Before) → Found n b (held_by name n).next (EvenHeld (held_by name n))
held_found None n b = mapped (any_sets n n b (omega arith)) (λ c all. record { is = even_unit c; names = tt })
held_found (Some x) n b = mapped (any_sets n (1 + n) b (omega arith)) (λ c all. record { is = even_variable c n; names = (even_variable c n, tt) })

-- one expression, and others behind it
before_even : (w : Walked) (rest : WalkedAll) (c : Before) → EvenWalked w c → EvenAll rest c → EvenAll (before_all w rest) c
before_even w rest c one more = record {
  are = (one.is, more.are);
  nodes = each_both (IsEven c) (all_types w) rest.inside (all_even w c one) more.nodes;
  said = steps_both w.steps rest.steps c one.said more.said;
}

one_type_found : (types : List Ty) (n : ℕ) (b : Before) {K : Before → Type 0} → Stays n b K → ((c : Before) → K c → AreEvenTypes c types) → Found n b (one_type types n).next (EvenOwn (one_type types n))
one_type_found [] n b known are = own_found (no_effects ∷ []) (one_type [] n) n b refl known (λ c given sets. record { is = even_variable c n; equations = tt })
one_type_found (t ∷ ts) n b known are = own_found [] (one_type (t ∷ ts) n) n b (omega arith) known (λ c given sets. record { is = (are c given).0; equations = all_same c t ts (are c given).0 (are c given).1 })

module _ (functions : Named (Entry Ty)) where
  -- ---- expressions one after another

  abbrev pub EvenThrough : List Walking → Type 0
  EvenThrough ws = (names : Named Ty) (effects : Effects) (n : ℕ) (b : Before) → Stays n b (Context functions names effects)
      → Found n b (walk_all ws names effects n).next (EvenAll (walk_all ws names effects n))

  pub none_even : EvenThrough []
  none_even names effects n b known = mapped (here known) (λ c given. record { are = tt; nodes = tt; said = tt })

  pub more_even : (w : Walking) (ws : List Walking) → Even functions w → EvenThrough ws → EvenThrough (w ∷ ws)
  more_even w ws one others names effects n b known =
      let first : Walked = w names effects n in
      let rest : WalkedAll = walk_all ws names effects first.next in
      onward known (one names effects n b known) (λ c two.
      mapped (beside two (others names effects first.next c (weaker two (λ d all. all.0)))) (λ d all. before_even first rest d all.0.1 all.1))

  -- ---- cases

  abbrev pub EvenThroughCases : List CaseWalk → Type 0
  EvenThroughCases cs = (names : Named Ty) (effects : Effects) (n : ℕ) (b : Before) → Stays n b (Context functions names effects)
      → Found n b (walk_cases cs names effects n).bodies.next (EvenCases (walk_cases cs names effects n))

  pub no_cases_even : EvenThroughCases []
  no_cases_even names effects n b known = mapped (here known) (λ c given. record { named = tt; bodies_are = record { are = tt; nodes = tt; said = tt } })

  pub case_even : (k : CaseWalk) (ks : List CaseWalk) → Even functions k.body → EvenThroughCases ks → EvenThroughCases (k ∷ ks)
  case_even k ks one others names effects n b known =
      let held : Held = held_by k.name n in
      let w : Walked = k.body (held.bound ++ names) effects held.next in
      let rest : WalkedCases = walk_cases ks names effects w.next in
      onward known (held_found k.name n b) (λ c two.
      onward two (one (held.bound ++ names) effects held.next c (weaker two (λ d all. more_names functions held.bound names effects d all.0 all.1.names))) (λ c three.
      mapped (beside three (others names effects w.next c (weaker three (λ d all. all.0.0)))) (λ d all. record {
        named = (all.0.0.1.is, all.1.named);
        bodies_are = before_even w rest.bodies d all.0.1 all.1.bodies_are;
      })))

  -- ---- a `switch`

  switch_ends : (at : Span) (effects : Effects) (value : Walked) (variant : Ty) (inside : List Ty) (steps : List Step) (bodies : Own) (c : Before)
      → EvenWalked value c → IsEven c variant → AreEvenTypes c inside → AreEven c steps → EvenOwn bodies c → IsEvenEquation c (has effects effect.Local bodies.next)
      → EvenWalked (switch_ended at effects value variant inside steps bodies) c
  switch_ends at effects value variant inside steps bodies c value_is variant_is nodes said bodies_are has_is =
      ended_even at (all_types value ++ inside) (value.steps ++ steps) (own bodies.ty (same value.ty variant ∷ bodies.equations ++ has effects effect.Local bodies.next ∷ []) (1 + bodies.next)) c
      (each_both (IsEven c) (all_types value) inside (all_even value c value_is) nodes) (steps_both value.steps steps c value_is.said said)
      (record { is = bodies_are.is; equations = ((value_is.is, variant_is), each_both (IsEvenEquation c) bodies.equations (has effects effect.Local bodies.next ∷ []) bodies_are.equations (has_is, tt)) })

  pub switch_even : (at : Span) (value : Walking) (cs : List CaseWalk) → Even functions value → EvenThroughCases cs → Even functions (switch_walked at value cs None)
  switch_even at value cs even_value even_cases names effects n b known =
      let w : Walked = value names effects n in
      let k : WalkedCases = walk_cases cs names effects w.next in
      let one : Own = one_type k.bodies.types k.bodies.next in
      one_further (onward known (even_value names effects n b known) (λ c two.
      onward two (even_cases names effects w.next c (weaker two (λ d all. all.0))) (λ c three.
      onward three (one_type_found k.bodies.types k.bodies.next c three (λ d all. all.1.bodies_are.are)) (λ c four.
      mapped (beside four (new one.next c (same_effect effect.Local))) (λ d all.
      switch_ends at effects w (variant_of k.tags Closed) k.bodies.inside k.bodies.steps one d
      all.0.0.0.1 (even_variant d k.tags Closed all.0.0.1.named) all.0.0.1.bodies_are.nodes all.0.0.1.bodies_are.said all.0.1 (even_has d effects effect.Local one.next all.0.0.0.0.row all.1))))))

  pub switch_open_even : (at : Span) (value : Walking) (cs : List CaseWalk) (x : Label) (body : Walking) → Even functions value → EvenThroughCases cs → Even functions body
      → Even functions (switch_walked at value cs (Some (x, body)))
  switch_open_even at value cs x body even_value even_cases even_body names effects n b known =
      let w : Walked = value names effects n in
      let k : WalkedCases = walk_cases cs names effects w.next in
      let m : ℕ = k.bodies.next in
      let others : Ty = variant_of [] (Var m) in
      let z : Walked = body ((x, others) ∷ names) effects (1 + m) in
      let types : List Ty = k.bodies.types ++ z.ty ∷ [] in
      let one : Own = one_type types z.next in
      one_further (onward known (even_value names effects n b known) (λ c two.
      onward two (even_cases names effects w.next c (weaker two (λ d all. all.0))) (λ c three.
      onward three (any_sets m (1 + m) c (omega arith)) (λ c four.
      onward four (even_body ((x, others) ∷ names) effects (1 + m) c (weaker four (λ d all. more_names functions ((x, others) ∷ []) names effects d all.0.0.0 (even_variant d [] (Var m) tt, tt)))) (λ c five.
      onward five (one_type_found types z.next c five (λ d all. each_both (IsEven d) k.bodies.types (z.ty ∷ []) all.0.0.1.bodies_are.are (all.1.is, tt))) (λ c six.
      mapped (beside six (new one.next c (same_effect effect.Local))) (λ d all. (
      let cases_are : EvenCases k d = all.0.0.0.0.1 in
      let body_is : EvenWalked z d = all.0.0.1 in
      let given : Context functions names effects d = all.0.0.0.0.0.0 in
      switch_ends at effects w (variant_of k.tags (Var m)) (k.bodies.inside ++ all_types z) (k.bodies.steps ++ z.steps) one d
      all.0.0.0.0.0.1 (even_variant d k.tags (Var m) cases_are.named) (each_both (IsEven d) k.bodies.inside (all_types z) cases_are.bodies_are.nodes (all_even z d body_is))
      (steps_both k.bodies.steps z.steps d cases_are.bodies_are.said body_is.said) all.0.1 (even_has d effects effect.Local one.next given.row all.1)))))))))
