-- The same tokens in other words: what the laws of a language's readers are put together with.
use Rattle.std.proofs.Common.{◌≡◌, ℕ, true, List, [], ◌∷◌, ◌++◌, sym, ap, subst, ◌∙◌}
use Rattle.std.specs.Str.{bytes_eq}
use Rattle.lk_ast.specs.declared.token.Token.{Token}
use Rattle.lk_read.specs.Exact.{Language}
use Rattle.lk_read.specs.Kinds.{IsSign, is_sign}
use Rattle.lk_read.specs.Reader.{Reading, Reader}
use Rattle.lk_read.proofs.Below.{◌⊑◌}
use Rattle.lk_read.proofs.KindLaws.{sign_sign}
use Rattle.lk_read.proofs.Laws.{Then, Next, Just}

-- the same tokens and the same value
pub moved : {X : Type 0} (L : Language X) {w v : List Token} {x y : X} → w ≡ v → y ≡ x → L v y → L w x
moved L {w = w} {v = v} {x = x} {y = y} e f h = subst (λ z. L z x) (sym e) (subst (λ z. L v z) f h)

-- the tokens of what stands before a closing sign
abbrev pub Close : {Y : Type 0} → List ℕ → (Token → Y) → Language Y
Close s f = Next (IsSign s) (λ t. Just (f t))

pub cons : (t : Token) {u v : List Token} → u ≡ v → t ∷ u ≡ t ∷ v
cons t e = ap (λ (z : List Token). t ∷ z) e

pub after : (u : List Token) {v w : List Token} → v ≡ w → u ++ v ≡ u ++ w
after u e = ap (λ (z : List Token). u ++ z) e

pub closed : {X Y : Type 0} {L : Language X} {s : List ℕ} {f : X → Token → Y} {w : List Token} {y : Y} → (h : Then L (λ x. Close s (f x)) w y) → w ≡ h.u ++ h.snd.t ∷ []
closed h = h.is ∙ after h.u (h.snd.is ∙ cons h.snd.t h.snd.after.0)

-- what a reader does at the same tokens
abbrev reads_so : {X : Type 0} → Reader X → Reading X → List Token → Type 0
reads_so r v ts = r ts ⊑ v

pub along : {X : Type 0} (r : Reader X) (v : Reading X) {us ts : List Token} → us ≡ ts → r us ⊑ v → r ts ⊑ v
along r v e h = subst (reads_so r v) e h

-- a sign is itself
pub here : (s : List ℕ) (t : Token) → IsSign s t → bytes_eq s s ≡ true → is_sign s t ≡ true
here s t h e = sign_sign s s t h ∙ e
