-- The walk through a form that binds names is even where those through its parts are.
use Rattle.std.proofs.Common.{ℕ, ◌+◌, List, [], ◌∷◌, ◌++◌, length}
use native.Mathlib.Omega.{arith}
use Rattle.lk_ast.specs.declared.place.Loc.{Loc}
use Rattle.lk_ast.specs.declared.place.Span.{Span}
use Rattle.lk_ast.specs.declared.place.Word.{Word}
use Rattle.lk_types.proofs.Members.{each_both}
use Rattle.lk_types.specs.Rows.{Label, no_effects, same_effect}
use Rattle.lk_types.specs.declared.ty.Effect.TheVariants as effect
use Rattle.lk_types.specs.declared.ty.Effects.{Effects}
use Rattle.lk_types.specs.declared.ty.RowTail.TheVariants.{Var}
use Rattle.lk_types.specs.declared.ty.Ty.{Ty}
use Rattle.lk_types.specs.declared.ty.Ty.TheVariants as ty
use Rattle.lk_typing.proofs.Even.Found.{Before, mapped, one_further, weaker, onward, beside, new, any_sets}
use Rattle.lk_typing.proofs.Even.Nodes.{Context, Even, EvenTold, EvenWalked, all_even, both_even, steps_both, said_at, ended_even, has_if_found}
use Rattle.lk_typing.proofs.Even.Types.{HasRow, AreEvenTypes, AreEvenNames, even_variable, even_list, even_function, even_has, alone}
use Rattle.lk_typing.specs.EffectRows.{IsEven}
use Rattle.lk_typing.specs.Equations.{own}
use Rattle.lk_typing.specs.Names.{Named, Entry, types_of}
use Rattle.lk_typing.specs.Steps.{same_at}
use Rattle.lk_typing.specs.Typing.{is_marked}
use Rattle.lk_typing.specs.Unknowns.{effects_of, same, has}
use Rattle.lk_typing.specs.Walk.{Walking, Walked, Told, all_types, has_if, params_from, lambda_walked, var_walked, for_list_walked, for_table_walked}
use Rattle.lk_typing.specs.declared.step.Step.{Step}

-- ---- names

pub params_even : (c : Before) (n : ℕ) (xs : List Word) → AreEvenNames c (params_from n xs)
params_even c n [] = tt
params_even c n (x ∷ xs) = (even_variable c n, params_even c (1 + n) xs)

pub types_even : (c : Before) (names : Named Ty) → AreEvenNames c names → AreEvenTypes c (types_of names)
types_even c [] even = tt
types_even c (x ∷ names) even = (even.0, types_even c names even.1)

module _ (functions : Named (Entry Ty)) where
  -- with more names, and with other effects
  pub more_names : (more names : Named Ty) (effects : Effects) (c : Before) → Context functions names effects c → AreEvenNames c more → Context functions (more ++ names) effects c
  more_names more names effects c given even = record { entries = given.entries; locals = each_both (λ entry. IsEven c entry.1) more names even given.locals; row = given.row }

  pub other_row : (names : Named Ty) (effects others : Effects) (c : Before) → Context functions names effects c → HasRow c others → Context functions names others c
  other_row names effects others c given row = record { entries = given.entries; locals = given.locals; row = row }

  -- ---- forms

  pub var_even : (at : Span) (x : Label) (first last : Walking) → Even functions first → Even functions last → Even functions (var_walked at x first last)
  var_even at x first last even_first even_last names effects n b known =
      let w : Walked = first names effects n in
      let inner : Named Ty = (x, w.ty) ∷ names in
      let v : Walked = last inner effects w.next in
      one_further (onward known (even_first names effects n b known) (λ c one.
      mapped (beside one (even_last inner effects w.next c (weaker one (λ d all. more_names ((x, w.ty) ∷ []) names effects d all.0 (all.1.is, tt))))) (λ d all.
      ended_even at (all_types w ++ all_types v) (w.steps ++ v.steps) (own v.ty [] v.next) d (both_even w v d all.0.1 all.1) (steps_both w.steps v.steps d all.0.1.said all.1.said)
      (record { is = all.1.is; equations = tt }))))

  pub lambda_even : (at : Span) (xs : List Word) (place : Loc) (body : Walking) → Even functions body → Even functions (lambda_walked at xs place body)
  lambda_even at xs place body even_body names effects n b known =
      let row : Effects = effects_of [] (Var n) in
      let params : Named Ty = params_from (1 + n) xs in
      let k : ℕ = length xs + (1 + n) in
      let marked : Told = has_if (is_marked place) row effect.Move k in
      let w : Walked = body (params ++ names) row marked.next in
      one_further (onward known (new n b no_effects) (λ c one.
      onward one (any_sets (1 + n) k c (omega arith)) (λ c two.
      onward two (has_if_found (is_marked place) row effect.Move k c two (λ d all. alone d n all.0.1)) (λ c three.
      onward three (even_body (params ++ names) row marked.next c (weaker three (λ d all.
      more_names params names row d (other_row names effects row d all.0.0.0 (alone d n all.0.0.1)) (params_even d (1 + n) xs)))) (λ c four.
      mapped (beside four (new w.next c (same_effect effect.Local))) (λ d all. (
      let is_alone : HasRow d row = alone d n all.0.0.0.0.1 in
      let given : Context functions names effects d = all.0.0.0.0.0 in
      let told_marked : EvenTold marked d = all.0.0.1 in
      let inner : EvenWalked w d = all.0.1 in
      ended_even at (all_types w) (same_at at marked.equations ++ w.steps) (own (ty.Fun (types_of params) row w.ty) (has effects effect.Local w.next ∷ []) (1 + w.next)) d (all_even w d inner)
      (steps_both (same_at at marked.equations) w.steps d (said_at at marked.equations d told_marked.equations) inner.said)
      (record {
        is = even_function d (types_of params) row w.ty (types_even d params (params_even d (1 + n) xs)) is_alone inner.is;
        equations = (even_has d effects effect.Local w.next given.row all.1, tt);
      }))))))))

  pub for_list_even : (at : Span) (x : Label) (first body : Walking) → Even functions first → Even functions body → Even functions (for_list_walked at x first body)
  for_list_even at x first body even_first even_body names effects n b known =
      let element : Ty = ty.Var n in
      let w : Walked = first names effects (1 + n) in
      let inner : Named Ty = (x, element) ∷ names in
      let v : Walked = body inner effects w.next in
      let answer : Ty = ty.List (ty.Var v.next) in
      one_further (onward known (any_sets n (1 + n) b (omega arith)) (λ c one.
      onward one (even_first names effects (1 + n) c (weaker one (λ d all. all.0))) (λ c two.
      onward two (even_body inner effects w.next c (weaker two (λ d all. more_names ((x, element) ∷ []) names effects d all.0.0 (even_variable d n, tt)))) (λ c three.
      mapped (beside three (any_sets v.next (1 + v.next) c (omega arith))) (λ d all. (
      let is_answer : IsEven d answer = even_list d (ty.Var v.next) (even_variable d v.next) in
      let first_is : EvenWalked w d = all.0.0.1 in
      let body_is : EvenWalked v d = all.0.1 in
      ended_even at (all_types w ++ all_types v) (w.steps ++ v.steps) (own answer (same w.ty (ty.List element) ∷ same v.ty answer ∷ []) (1 + v.next)) d (both_even w v d first_is body_is)
      (steps_both w.steps v.steps d first_is.said body_is.said)
      (record { is = is_answer; equations = ((first_is.is, even_list d element (even_variable d n)), ((body_is.is, is_answer), tt)) })))))))

  pub for_table_even : (at : Span) (x : Label) (first body : Walking) → Even functions first → Even functions body → Even functions (for_table_walked at x first body)
  for_table_even at x first body even_first even_body names effects n b known =
      let element : Ty = ty.Var n in
      let w : Walked = first names effects (1 + n) in
      let inner : Named Ty = (x, element) ∷ names in
      let v : Walked = body inner effects w.next in
      let answer : Ty = ty.List (ty.Var v.next) in
      let rows : List Step = same_at at (same w.ty (ty.List element) ∷ []) in
      one_further (onward known (any_sets n (1 + n) b (omega arith)) (λ c one.
      onward one (even_first names effects (1 + n) c (weaker one (λ d all. all.0))) (λ c two.
      onward two (even_body inner effects w.next c (weaker two (λ d all. more_names ((x, element) ∷ []) names effects d all.0.0 (even_variable d n, tt)))) (λ c three.
      mapped (beside three (any_sets v.next (1 + v.next) c (omega arith))) (λ d all. (
      let is_answer : IsEven d answer = even_list d (ty.Var v.next) (even_variable d v.next) in
      let first_is : EvenWalked w d = all.0.0.1 in
      let body_is : EvenWalked v d = all.0.1 in
      ended_even at (all_types w ++ all_types v) (w.steps ++ (rows ++ v.steps)) (own answer (same v.ty answer ∷ []) (1 + v.next)) d (both_even w v d first_is body_is)
      (steps_both w.steps (rows ++ v.steps) d first_is.said ((first_is.is, even_list d element (even_variable d n)), body_is.said))
      (record { is = is_answer; equations = ((body_is.is, is_answer), tt) })))))))
