-- What is even of a walk, and what is said of a node behind its parts.
use Rattle.std.proofs.Common.{◌≡◌, ℕ, ◌+◌, Bool, true, false, List, [], ◌∷◌, ◌++◌, length, Option, Some, None, if◌then◌else◌, bytes_eq}
use Rattle.lk_ast.specs.declared.place.Span.{Span}
use Rattle.lk_types.proofs.Members.{each_both}
use Rattle.lk_types.specs.Each.{Each}
use Rattle.lk_types.specs.Rows.{Label, EffectSet, same_effect}
use Rattle.lk_types.specs.declared.equation.Equation.{Equation}
use Rattle.lk_types.specs.declared.ty.Effect.{Effect}
use Rattle.lk_types.specs.declared.ty.Effects.{Effects}
use Rattle.lk_types.specs.declared.ty.Ty.{Ty}
use Rattle.lk_typing.proofs.Even.Found.{Before, Stays, Found, mapped, here, new, beside, Has, new_sets}
use Rattle.lk_typing.proofs.Even.Types.{HasRow, AreEvenTypes, AreEvenNames, IsEvenEquation, even_variable, even_has}
use Rattle.lk_typing.specs.EffectRows.{IsEven, IsEvenSaid, AreEven, IsEvenScheme}
use Rattle.lk_typing.specs.Equations.{Own}
use Rattle.lk_typing.specs.Names.{Named, named, Entry, One, Many}
use Rattle.lk_typing.specs.Steps.{same_at, typed_at}
use Rattle.lk_typing.specs.Walk.{Walking, Walked, WalkedAll, all_types, Told, has_if, ended}
use Rattle.lk_typing.specs.declared.step.Step.{Step}

-- ---- what names stand for

abbrev pub IsEvenEntry : Before → Entry Ty → Type 0
IsEvenEntry c (One t) = IsEven c t
IsEvenEntry c (Many scheme) = IsEvenScheme scheme

abbrev pub AreEvenEntries : Before → Named (Entry Ty) → Type 0
AreEvenEntries c entries = Each (λ entry. IsEvenEntry c entry.1) entries

-- it holds of what is there
abbrev pub IfThere : {A : Type 0} → (A → Type 0) → Option A → Type 0
IfThere P None = Unit {0}
IfThere P (Some a) = P a

-- what holds of all entries holds of what a name stands for
pub if_named : {A : Type 0} (P : A → Type 0) (x : Label) (entries : Named A) → Each (λ entry. P entry.1) entries → IfThere P (named x entries)
if_named P x [] all = tt
if_named {A} P x (entry ∷ entries) all = by_test (bytes_eq entry.0 x) (named x entries) (if_named P x entries all.1)
  where
    by_test : (b : Bool) (o : Option A) → IfThere P o → IfThere P (if b then Some entry.1 else o)
    by_test true o more = all.0
    by_test false o more = more

-- ---- what is even

-- what is given to a walk
pub record Context (functions : Named (Entry Ty)) (names : Named Ty) (effects : Effects) (c : Before) : Type 0 where
  pub entries : AreEvenEntries c functions
  pub locals : AreEvenNames c names
  pub row : HasRow c effects

pub record EvenOwn (o : Own) (c : Before) : Type 0 where
  pub is : IsEven c o.ty
  pub equations : Each (IsEvenEquation c) o.equations

pub record EvenTold (told : Told) (c : Before) : Type 0 where
  pub equations : Each (IsEvenEquation c) told.equations

pub record EvenWalked (w : Walked) (c : Before) : Type 0 where
  pub is : IsEven c w.ty
  pub nodes : AreEvenTypes c w.inside
  pub said : AreEven c w.steps

pub record EvenAll (w : WalkedAll) (c : Before) : Type 0 where
  pub are : AreEvenTypes c w.types
  pub nodes : AreEvenTypes c w.inside
  pub said : AreEven c w.steps

-- a walk that is even wherever what it is given is
abbrev pub Even : Named (Entry Ty) → Walking → Type 0
Even functions walking = (names : Named Ty) (effects : Effects) (n : ℕ) (b : Before) → Stays n b (Context functions names effects)
    → Found n b (walking names effects n).next (EvenWalked (walking names effects n))

-- ---- one after another

pub all_even : (w : Walked) (c : Before) → EvenWalked w c → AreEvenTypes c (all_types w)
all_even w c even = (even.is, even.nodes)

pub both_even : (w v : Walked) (c : Before) → EvenWalked w c → EvenWalked v c → AreEvenTypes c (all_types w ++ all_types v)
both_even w v c first last = each_both (IsEven c) (all_types w) (all_types v) (all_even w c first) (all_even v c last)

pub steps_both : (front back : List Step) (c : Before) → AreEven c front → AreEven c back → AreEven c (front ++ back)
steps_both front back c first last = each_both (λ step. IsEvenSaid c step.said) front back first last

pub said_at : (at : Span) (equations : List Equation) (c : Before) → Each (IsEvenEquation c) equations → AreEven c (same_at at equations)
said_at at [] c even = tt
said_at at (e ∷ es) c even = (even.0, said_at at es c even.1)

-- a node behind its parts
pub ended_even : (at : Span) (inside : List Ty) (steps : List Step) (o : Own) (c : Before) → AreEvenTypes c inside → AreEven c steps → EvenOwn o c → EvenWalked (ended at inside steps o) c
ended_even at inside steps o c nodes before own = record {
  is = even_variable c o.next;
  nodes = nodes;
  said = steps_both steps (same_at at o.equations ++ typed_at at o.next o.ty ∷ []) c before
      (steps_both (same_at at o.equations) (typed_at at o.next o.ty ∷ []) c (said_at at o.equations c own.equations) (own.is, tt));
}

-- ---- new numbers

-- a node whose new numbers have these sets
pub own_found : (ss : List EffectSet) (o : Own) (n : ℕ) (b : Before) {K : Before → Type 0} → o.next ≡ length ss + n → Stays n b K → ((c : Before) → K c → Has c n ss → EvenOwn o c)
    → Found n b o.next (EvenOwn o)
own_found ss o n b is known own = mapped (beside known (new_sets ss n o.next b is)) (λ c both. own c both.0 both.1)

-- that there is an effect, if something holds
pub has_if_found : (test : Bool) (es : Effects) (e : Effect) (n : ℕ) (b : Before) {K : Before → Type 0} → Stays n b K → ((c : Before) → K c → HasRow c es)
    → Found n b (has_if test es e n).next (EvenTold (has_if test es e n))
has_if_found true es e n b known row = mapped (beside known (new n b (same_effect e))) (λ c both. record { equations = (even_has c es e n (row c both.0) both.1, tt) })
has_if_found false es e n b known row = mapped (here known) (λ c given. record { equations = tt })
