-- Room for nesting and turns suffices: with fewer tokens than it a reader never stops for want of room.
use Rattle.std.proofs.Common.{◌≡◌, ℕ, zero, suc, pred, ◌<◌, ◌≤◌, Bool, true, false, List, [], ◌∷◌, length, Ok, Err, sym, ap, ◌∙◌, inl, inr, arith, length-append}
use Rattle.std.proofs.lemmas.Bool.{cases_Bool}
use Rattle.lk_ast.specs.declared.token.Token.{Token}
use Rattle.lk_read.specs.Exact.{Language}
use Rattle.lk_read.specs.Reader.{Reader, give, stop, tired, bind, peek, when, given, one, eat, many, finish}
use Rattle.lk_read.specs.declared.stop.Stop.TheVariants.{At, Spent}
use Rattle.lk_read.proofs.Laws.{Reads, bind_ok, bind_err, read_of, read_parts, when-true, when-false, one-at_true, one-at_false, bind-at_ok, bind-at_err}

-- with fewer than k tokens the room is never too small
abbrev pub Lasts : {X : Type 0} → ℕ → Reader X → Type 0
Lasts k r = (ts : List Token) → length ts < k → r ts ≡ Err Spent → ⊥

-- each success takes a token
abbrev pub Eats : {X : Type 0} → Reader X → Type 0
Eats {X} r = (ts rest : List Token) (x : X) → r ts ≡ Ok (x, rest) → length rest < length ts

abbrev pub Shortens : {X : Type 0} → Reader X → Type 0
Shortens {X} r = (ts rest : List Token) (x : X) → r ts ≡ Ok (x, rest) → length rest ≤ length ts

pub shortens : {X : Type 0} {L : Language X} (r : Reader X) → Reads r L → Shortens r
shortens r R ts rest x e = let s = R.found ts rest x e in omega (arith, ap length s.is, length-append s.front rest)

pub none-lasts : {X : Type 0} (r : Reader X) → Lasts 0 r
none-lasts r ts lt e = omega arith

pub less : {X : Type 0} (j k : ℕ) (r : Reader X) → j ≤ k → Lasts k r → Lasts j r
less j k r le h ts lt e = h ts (omega arith) e

pub bind-lasts : {X Y : Type 0} (k : ℕ) (r : Reader X) (f : X → Reader Y) → Shortens r → Lasts k r → ((x : X) → Lasts k (f x)) → Lasts k (bind r f)
unfolding bind
bind-lasts k r f s h g ts lt e = elim (bind_err (r ts) f Spent e) [
  | inl d ↦ h ts lt d
  | inr a ↦ let le = s ts a.0.1 a.0.0 a.1 in g a.0.0 a.0.1 (omega arith) a.2
]

pub eaten-lasts : {X Y : Type 0} (k : ℕ) (r : Reader X) (f : X → Reader Y) → Eats r → Lasts (suc k) r → ((x : X) → Lasts k (f x)) → Lasts (suc k) (bind r f)
unfolding bind
eaten-lasts k r f s h g ts lt e = elim (bind_err (r ts) f Spent e) [
  | inl d ↦ h ts lt d
  | inr a ↦ let fewer = s ts a.0.1 a.0.0 a.1 in g a.0.0 a.0.1 (omega arith) a.2
]

-- a token is eaten, so what follows may need as much room as it is
pub next-lasts : {Y : Type 0} (k : ℕ) (p : Token → Bool) (f : Token → Reader Y) → ((t : Token) → Lasts k (f t)) → Lasts (suc k) (eat p f)
unfolding eat bind
next-lasts k p f g [] lt e = absurd cc
next-lasts k p f g (t ∷ ts) lt e = elim (cases_Bool (p t)) [
  | inl h ↦ g t ts (omega arith) (sym (bind-at_ok (one p) f (t ∷ ts) ts t (one-at_true p t ts h)) ∙ e)
  | inr h ↦ let bad : Err (At (suc (length ts))) ≡ Err Spent = sym (bind-at_err (one p) f (t ∷ ts) (At (suc (length ts))) (one-at_false p t ts h)) ∙ e in absurd cc
]

pub turn-lasts : {Y : Type 0} (k : ℕ) (p : Token → Bool) (f : Token → Reader Y) → ((t : Token) → Lasts (pred k) (f t)) → Lasts k (eat p f)
turn-lasts zero p f h = none-lasts (eat p f)
turn-lasts (suc k) p f h = next-lasts k p f h

-- the same, where there is room to spare
pub step-lasts : {Y : Type 0} (k : ℕ) (p : Token → Bool) (f : Token → Reader Y) → ((t : Token) → Lasts k (f t)) → Lasts k (eat p f)
step-lasts k p f h = less k (suc k) (eat p f) (omega arith) (next-lasts k p f h)

pub give-lasts : {X : Type 0} (k : ℕ) (x : X) → Lasts k (give x)
unfolding give
give-lasts k x ts lt e = absurd cc

pub stop-lasts : {X : Type 0} (k : ℕ) → Lasts k (stop {X = X})
unfolding stop
stop-lasts k ts lt e = absurd cc

pub finish-lasts : {X : Type 0} (k : ℕ) (x : X) → Lasts k (finish x)
unfolding finish
finish-lasts k x [] lt e = absurd cc
finish-lasts k x (t ∷ ts) lt e = absurd cc

pub when-lasts : {X : Type 0} (k : ℕ) (p : Token → Bool) (r s : Reader X) → Lasts k r → Lasts k s → Lasts k (when p r s)
when-lasts k p r s h g ts lt e = elim (cases_Bool (peek p ts)) [
  | inl t ↦ h ts lt (sym (when-true p r s ts t) ∙ e)
  | inr t ↦ g ts lt (sym (when-false p r s ts t) ∙ e)
]

pub given-lasts : {X : Type 0} (k : ℕ) (b : Bool) (r : Reader X) → Lasts k r → Lasts k (given b r)
unfolding given
given-lasts k true r h = h
given-lasts k false r h = stop-lasts k

pub bind-shortens : {X Y : Type 0} (r : Reader X) (f : X → Reader Y) → Shortens r → ((x : X) → Shortens (f x)) → Shortens (bind r f)
unfolding bind
bind-shortens r f s g ts rest y e =
    let a = bind_ok (r ts) f y rest e in
    let one_le = s ts a.0.1 a.0.0 a.1 in
    let two_le = g a.0.0 a.0.1 rest y a.2 in
    omega arith

pub give-shortens : {X : Type 0} (x : X) → Shortens (give x)
unfolding give
give-shortens x ts rest y e = let k = read_parts x y ts rest e in omega (arith, ap length k.1)

pub eat-eats : {Y : Type 0} (p : Token → Bool) (f : Token → Reader Y) → ((t : Token) → Shortens (f t)) → Eats (eat p f)
unfolding eat bind
eat-eats p f g [] rest x e = absurd cc
eat-eats p f g (t ∷ ts) rest x e = elim (cases_Bool (p t)) [
  | inl h ↦ let le = g t ts rest x (sym (bind-at_ok (one p) f (t ∷ ts) ts t (one-at_true p t ts h)) ∙ e) in omega arith
  | inr h ↦ let bad : Err (At (suc (length ts))) ≡ read_of x rest = sym (bind-at_err (one p) f (t ∷ ts) (At (suc (length ts))) (one-at_false p t ts h)) ∙ e in absurd cc
]

pub eat-shortens : {Y : Type 0} (p : Token → Bool) (f : Token → Reader Y) → ((t : Token) → Shortens (f t)) → Shortens (eat p f)
eat-shortens p f g ts rest y e = let fewer = eat-eats p f g ts rest y e in omega arith

pub when-eats : {X : Type 0} (p : Token → Bool) (r s : Reader X) → Eats r → Eats s → Eats (when p r s)
when-eats p r s h g ts rest x e = elim (cases_Bool (peek p ts)) [
  | inl t ↦ h ts rest x (sym (when-true p r s ts t) ∙ e)
  | inr t ↦ g ts rest x (sym (when-false p r s ts t) ∙ e)
]

pub when-shortens : {X : Type 0} (p : Token → Bool) (r s : Reader X) → Shortens r → Shortens s → Shortens (when p r s)
when-shortens p r s h g ts rest x e = elim (cases_Bool (peek p ts)) [
  | inl t ↦ h ts rest x (sym (when-true p r s ts t) ∙ e)
  | inr t ↦ g ts rest x (sym (when-false p r s ts t) ∙ e)
]

stop-eats : {X : Type 0} → Eats (stop {X = X})
unfolding stop
stop-eats ts rest x e = absurd cc

pub given-eats : {X : Type 0} (b : Bool) (r : Reader X) → Eats r → Eats (given b r)
unfolding given
given-eats true r h = h
given-eats false r h = stop-eats

-- r takes a token, and f gives none back
pub bind-eats : {X Y : Type 0} (r : Reader X) (f : X → Reader Y) → Eats r → ((x : X) → Shortens (f x)) → Eats (bind r f)
unfolding bind
bind-eats r f s g ts rest y e =
    let a = bind_ok (r ts) f y rest e in
    let fewer = s ts a.0.1 a.0.0 a.1 in
    let no_more = g a.0.0 a.0.1 rest y a.2 in
    omega (arith, fewer, no_more)

-- a last token, and what is made of it
pub end-lasts : {X : Type 0} (k : ℕ) (p : Token → Bool) (f : Token → X) → Lasts k (eat p (λ t. give (f t)))
end-lasts k p f = step-lasts k p _ (λ t. give-lasts k (f t))

pub end-shortens : {X : Type 0} (p : Token → Bool) (f : Token → X) → Shortens (eat p (λ t. give (f t)))
end-shortens p f = eat-shortens p _ (λ t. give-shortens (f t))

pub many-lasts : {A : Type 0} (k : ℕ) (p : A → Token → Bool) (turn : A → Reader A) → ((a : A) → Eats (turn a)) → ((a : A) → Lasts k (turn a)) → (n : ℕ) → n ≤ k → (a : A) → Lasts n (many p turn n a)
unfolding many
many-lasts k p turn eats h zero le a = none-lasts (when (p a) tired (give a))
many-lasts k p turn eats h (suc n) le a = when-lasts (suc n) (p a) (bind (turn a) (many p turn n)) (give a) (eaten-lasts n (turn a) (many p turn n) (eats a) (less (suc n) k (turn a) le (h a)) (λ b. many-lasts k p turn eats h n (omega arith) b)) (give-lasts (suc n) a)
