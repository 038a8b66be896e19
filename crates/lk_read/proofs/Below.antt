-- What a reader answers, unless its room was too small.
use Rattle.std.proofs.Common.{◌≡◌, ℕ, zero, suc, Bool, true, false, List, ◌∷◌, Result, Ok, Err, refl, ap, ◌∙◌, inl, inr, ◌⊎◌}
use Rattle.lk_ast.specs.declared.token.Token.{Token}
use Rattle.lk_read.specs.Reader.{Reading, Reader, give, tired, go_on, bind, peek, when, given, one, eat, many}
use Rattle.lk_read.specs.declared.stop.Stop.{Stop}
use Rattle.lk_read.specs.declared.stop.Stop.TheVariants.{Spent}
use Rattle.lk_read.proofs.Laws.{when-true, when-false, given-true, bind-at_ok, bind-at_err, one-at_true}

-- the room was too small, or a is b
infix 4 ◌⊑◌
abbrev pub ◌⊑◌ : {X : Type 0} → Result X Stop → Result X Stop → Type 0
a ⊑ b = (a ≡ Err Spent) ⊎ (a ≡ b)

pub below-at : {X : Type 0} (a b c : Result X Stop) → a ≡ b → b ⊑ c → a ⊑ c
below-at a b c e (inl s) = inl (e ∙ s)
below-at a b c e (inr s) = inr (e ∙ s)

-- r finds x, and f goes on
pub bind-finds : {X Y : Type 0} (r : Reader X) (f : X → Reader Y) (ts : List Token) {rest : List Token} {x : X} {v : Reading Y} → r ts ⊑ Ok (x, rest) → f x rest ⊑ v → bind r f ts ⊑ v
bind-finds r f ts (inl s) k = inl (bind-at_err r f ts Spent s)
bind-finds r f ts {rest = rest} {x = x} {v = v} (inr e) k = below-at (bind r f ts) (f x rest) v (bind-at_ok r f ts rest x e) k

pub eat-finds : {Y : Type 0} (p : Token → Bool) (f : Token → Reader Y) (t : Token) (ts : List Token) {v : Reading Y} → p t ≡ true → f t ts ⊑ v → eat p f (t ∷ ts) ⊑ v
unfolding eat bind
eat-finds p f t ts {v = v} e k = bind-finds (one p) f (t ∷ ts) (inr (one-at_true p t ts e)) k

pub give-finds : {X : Type 0} (x : X) (ts : List Token) → give x ts ⊑ Ok (x, ts)
unfolding give
give-finds x ts = inr refl

pub tired-finds : {X : Type 0} (ts : List Token) (v : Reading X) → tired {X = X} ts ⊑ v
unfolding tired
tired-finds ts v = inl refl

pub when-yes : {X : Type 0} (p : Token → Bool) (r s : Reader X) (ts : List Token) {v : Reading X} → peek p ts ≡ true → r ts ⊑ v → when p r s ts ⊑ v
when-yes p r s ts {v = v} e k = below-at (when p r s ts) (r ts) v (when-true p r s ts e) k

pub when-no : {X : Type 0} (p : Token → Bool) (r s : Reader X) (ts : List Token) {v : Reading X} → peek p ts ≡ false → s ts ⊑ v → when p r s ts ⊑ v
when-no p r s ts {v = v} e k = below-at (when p r s ts) (s ts) v (when-false p r s ts e) k

pub given-finds : {X : Type 0} (b : Bool) (r : Reader X) (ts : List Token) {v : Reading X} → b ≡ true → r ts ⊑ v → given b r ts ⊑ v
given-finds b r ts {v = v} e k = below-at (given b r ts) (r ts) v (given-true b r ts e) k

-- the turns that are left
pub many-stops : {A : Type 0} (p : A → Token → Bool) (turn : A → Reader A) (n : ℕ) (a : A) (ts : List Token) → peek (p a) ts ≡ false → many p turn n a ts ≡ Ok (a, ts)
unfolding many give
many-stops p turn zero a ts e = when-false (p a) tired (give a) ts e
many-stops p turn (suc n) a ts e = when-false (p a) (bind (turn a) (many p turn n)) (give a) ts e

pub many-ends : {A : Type 0} (p : A → Token → Bool) (turn : A → Reader A) (n : ℕ) (a : A) (ts : List Token) → peek (p a) ts ≡ false → many p turn n a ts ⊑ Ok (a, ts)
many-ends p turn n a ts e = inr (many-stops p turn n a ts e)

pub many-goes : {A : Type 0} (p : A → Token → Bool) (turn : A → Reader A) (a : A) (ts : List Token) {b : A} {rest : List Token} {v : Reading A} → peek (p a) ts ≡ true → turn a ts ⊑ Ok (b, rest) → ((m : ℕ) → many p turn m b rest ⊑ v) → (n : ℕ) → many p turn n a ts ⊑ v
unfolding many
many-goes p turn a ts {v = v} e t k zero = when-yes (p a) tired (give a) ts e (tired-finds ts v)
many-goes p turn a ts e t k (suc n) = when-yes (p a) (bind (turn a) (many p turn n)) (give a) ts e (bind-finds (turn a) (many p turn n) ts t (k n))

-- what reads the same goes on in the same way
pub bind_same : {X Y : Type 0} (r s : Reader X) (f : X → Reader Y) (ts us : List Token) → r ts ≡ s us → bind r f ts ≡ bind s f us
unfolding bind
bind_same {X} r s f ts us e = ap (λ (z : Reading X). go_on z f) e

-- turns, and then f
pub bind-many-goes : {A Y : Type 0} (p : A → Token → Bool) (turn : A → Reader A) (f : A → Reader Y) (a : A) (ts : List Token) {b : A} {rest : List Token} {v : Reading Y} → peek (p a) ts ≡ true → turn a ts ⊑ Ok (b, rest) → ((m : ℕ) → bind (many p turn m b) f rest ⊑ v) → (n : ℕ) → bind (many p turn n a) f ts ⊑ v
unfolding many tired
bind-many-goes p turn f a ts {v = v} e t k zero = inl (bind-at_err (many p turn zero a) f ts Spent (when-true (p a) tired (give a) ts e))
bind-many-goes p turn f a ts {b = b} {rest = rest} {v = v} e (inl s) k (suc n) = inl (bind-at_err (many p turn (suc n) a) f ts Spent (when-true (p a) (bind (turn a) (many p turn n)) (give a) ts e ∙ bind-at_err (turn a) (many p turn n) ts Spent s))
bind-many-goes p turn f a ts {b = b} {rest = rest} {v = v} e (inr s) k (suc n) =
    let turned : many p turn (suc n) a ts ≡ many p turn n b rest = when-true (p a) (bind (turn a) (many p turn n)) (give a) ts e ∙ bind-at_ok (turn a) (many p turn n) ts rest b s in
    below-at (bind (many p turn (suc n) a) f ts) (bind (many p turn n b) f rest) v (bind_same (many p turn (suc n) a) (many p turn n b) f ts rest turned) (k n)
