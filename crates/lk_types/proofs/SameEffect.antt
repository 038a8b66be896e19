-- When two effects are the same one, and what holds of each effect.
use Rattle.std.proofs.Common.{◌≡◌, Bool, true, false, refl, sym, ap, ◌∙◌}
use Rattle.lk_types.specs.Rows.{same_effect}
use Rattle.lk_types.specs.declared.ty.Effect.{Effect}
use Rattle.lk_types.specs.declared.ty.Effect.TheVariants.{Local, Move, Print, Rec, Scan, Trap, Write}

pub for_each_effect : (P : Effect → Type 0) → P Local → P Move → P Print → P Rec → P Scan → P Trap → P Write → (x : Effect) → P x
for_each_effect P a b c d e f g Local = a
for_each_effect P a b c d e f g Move = b
for_each_effect P a b c d e f g Print = c
for_each_effect P a b c d e f g Rec = d
for_each_effect P a b c d e f g Scan = e
for_each_effect P a b c d e f g Trap = f
for_each_effect P a b c d e f g Write = g

pub effect_self : (e : Effect) → same_effect e e ≡ true
effect_self Local = refl
effect_self Move = refl
effect_self Print = refl
effect_self Rec = refl
effect_self Scan = refl
effect_self Trap = refl
effect_self Write = refl

pub effects_tie : (e x : Effect) → same_effect e x ≡ true → e ≡ x
effects_tie Local Local is = refl
effects_tie Local Move is = cc
effects_tie Local Print is = cc
effects_tie Local Rec is = cc
effects_tie Local Scan is = cc
effects_tie Local Trap is = cc
effects_tie Local Write is = cc
effects_tie Move Local is = cc
effects_tie Move Move is = refl
effects_tie Move Print is = cc
effects_tie Move Rec is = cc
effects_tie Move Scan is = cc
effects_tie Move Trap is = cc
effects_tie Move Write is = cc
effects_tie Print Local is = cc
effects_tie Print Move is = cc
effects_tie Print Print is = refl
effects_tie Print Rec is = cc
effects_tie Print Scan is = cc
effects_tie Print Trap is = cc
effects_tie Print Write is = cc
effects_tie Rec Local is = cc
effects_tie Rec Move is = cc
effects_tie Rec Print is = cc
effects_tie Rec Rec is = refl
effects_tie Rec Scan is = cc
effects_tie Rec Trap is = cc
effects_tie Rec Write is = cc
effects_tie Scan Local is = cc
effects_tie Scan Move is = cc
effects_tie Scan Print is = cc
effects_tie Scan Rec is = cc
effects_tie Scan Scan is = refl
effects_tie Scan Trap is = cc
effects_tie Scan Write is = cc
effects_tie Trap Local is = cc
effects_tie Trap Move is = cc
effects_tie Trap Print is = cc
effects_tie Trap Rec is = cc
effects_tie Trap Scan is = cc
effects_tie Trap Trap is = refl
effects_tie Trap Write is = cc
effects_tie Write Local is = cc
effects_tie Write Move is = cc
effects_tie Write Print is = cc
effects_tie Write Rec is = cc
effects_tie Write Scan is = cc
effects_tie Write Trap is = cc
effects_tie Write Write is = refl

pub effects_turned : (a b : Effect) → same_effect a b ≡ same_effect b a
effects_turned a b = by_test (same_effect a b) (same_effect b a) refl refl
  where
    both_true : (c d : Effect) → same_effect c d ≡ true → same_effect d c ≡ true
    both_true c d is = ap (λ x. same_effect d x) (effects_tie c d is) ∙ effect_self d

    by_test : (p q : Bool) → same_effect a b ≡ p → same_effect b a ≡ q → p ≡ q
    by_test true true is js = refl
    by_test true false is js = sym (both_true a b is) ∙ js
    by_test false true is js = sym is ∙ both_true b a js
    by_test false false is js = refl
