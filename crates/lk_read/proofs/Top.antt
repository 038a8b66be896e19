-- A reader of all tokens gives the one thing that they are, or the first token that fits nowhere.
use Rattle.std.proofs.Common.{◌≡◌, ℕ, ◌-◌, ◌≤◌, arith, length-append, List, [], ◌∷◌, ◌++◌, length, Ok, Err, refl, sym, ap, subst, ◌∙◌, append_assoc, inl, inr}
use Rattle.std.proofs.lemmas.List.{append-nil}
use Rattle.lk_ast.specs.declared.token.Token.{Token}
use Rattle.lk_read.specs.Reader.{Reading, Reader, go_on, bind, finish}
use Rattle.lk_read.specs.declared.stop.Stop.TheVariants.{At, Spent}
use Rattle.lk_read.specs.Exact.{Language, IsUnexpected, IsOnly}
use Rattle.lk_read.proofs.Laws.{Reads, Just, read_parts, read_of, first, same_ends}
use Rattle.lk_read.proofs.Below.{◌⊑◌}

finish_found : {X : Type 0} (x y : X) (ts rest : List Token) → finish x ts ≡ Ok (y, rest) → (ts ≡ []) × (rest ≡ []) × (x ≡ y)
unfolding finish
finish_found x y [] rest e = let k = read_parts x y [] rest e in (refl, sym k.1, k.0)
finish_found x y (t ∷ ts) rest e = absurd cc

finish_fails : {X : Type 0} (x : X) (ts : List Token) (n : ℕ) → finish x ts ≡ Err (At n) → (t : Token) × (us : List Token) × (ts ≡ t ∷ us) × (n ≡ length ts)
unfolding finish
finish_fails x [] n e = absurd cc
finish_fails x (t ∷ ts) n e = (t, ts, refl, cc)

finish_stays : {X : Type 0} (x : X) (t : Token) (us other : List Token) → first (t ∷ us) ≡ first other → finish x other ≡ Err (At (length other))
unfolding finish
finish_stays x t us [] e = absurd cc
finish_stays x t us (s ∷ other) e = refl

pub finish_finds : {X : Type 0} (x : X) → finish x [] ⊑ Ok (x, [])
unfolding finish
finish_finds x = inr refl

no_first : (other : List Token) → first [] ≡ first other → other ≡ []
no_first [] e = refl
no_first (t ∷ other) e = absurd cc

append-empty : (w rest : List Token) → w ++ rest ≡ [] → w ≡ []
append-empty [] rest e = refl
append-empty (t ∷ w) rest e = absurd cc

pub finish-reads : {X : Type 0} (x : X) → Reads (finish x) (Just x)
unfolding finish
finish-reads {X} x = record {
  begins = record { more = []; value = x; whole = (refl, refl) };
  found = λ ts rest y e. let f = finish_found x y ts rest e in record { front = []; is = f.0 ∙ sym f.1; holds = (refl, f.2) };
  fails = λ ts n e. let f = finish_fails x ts n e in record { rest = ts; count = sym f.3; split = record { front = []; is = refl; holds = record { more = []; value = x; whole = (refl, refl) } } };
  keeps = λ w rest other y same e.
      let f = finish_found x y (w ++ rest) rest e in
      let w-is : w ≡ [] = append-empty w rest f.0 in
      let o-is : other ≡ [] = no_first other (ap first (sym f.1) ∙ same) in
      ap (λ (z : List Token). finish x (z ++ other)) w-is ∙ ap (finish x) o-is ∙ ap (λ (z : X). read_of z []) f.2 ∙ ap (read_of y) (sym o-is);
  keeps_stop = λ w rest other same e.
      let f = finish_fails x (w ++ rest) (length rest) e in
      let nil : w ≡ [] = (same_ends w rest [] (w ++ rest) refl f.3).0 in
      let r-is : rest ≡ f.0 ∷ f.1 = ap (λ (z : List Token). z ++ rest) (sym nil) ∙ f.2 in
      ap (λ (z : List Token). finish x (z ++ other)) nil ∙ finish_stays x f.0 f.1 other (ap first (sym r-is) ∙ same);
}

-- a reader that ends with the tokens leaves none
pub finish_ends : {X : Type 0} (r : Reader X) (ts rest : List Token) (x : X) → bind r (λ y. finish y) ts ≡ Ok (x, rest) → rest ≡ []
unfolding bind
finish_ends {X} r ts rest x h = go (r ts) refl
  where
    go : (a : Reading X) → r ts ≡ a → rest ≡ []
    go (Ok p) q = (finish_found p.0 x p.1 rest (sym (ap (λ (c : Reading X). go_on c (λ y. finish y)) q) ∙ h)).1
    go (Err d) q = let bad : Err d ≡ read_of x rest = sym (ap (λ (c : Reading X). go_on c (λ y. finish y)) q) ∙ h in absurd cc

-- what holds of a reader of a whole language, at one room
pub record DecidesAll {X : Type 0} (r : Reader X) (L : Language X) : Type 0 where
  pub reads : Reads r L
  pub finds : (w : List Token) (x : X) → L w x → r w ⊑ Ok (x, [])
  pub ends : (ts rest : List Token) (x : X) → r ts ≡ Ok (x, rest) → rest ≡ []

module _ {X : Type 0} (r : Reader X) (L : Language X) (D : DecidesAll r L) where
  read_is : (ts rest : List Token) (x : X) → r ts ≡ Ok (x, rest) → L ts x
  read_is ts rest x h =
      let s = D.reads.found ts rest x h in
      subst (λ (z : List Token). L z x) (sym (s.is ∙ ap (λ (z : List Token). s.front ++ z) (D.ends ts rest x h) ∙ append-nil s.front)) s.holds

  read_only : (ts rest : List Token) (x y : X) → r ts ≡ Ok (x, rest) → L ts y → y ≡ x
  read_only ts rest x y h k = elim (D.finds ts y k) [
    | inl s ↦ let bad : read_of x rest ≡ Err Spent = sym h ∙ s in absurd cc
    | inr s ↦ sym (read_parts x y rest [] (sym h ∙ s)).0
  ]

  -- what is read is what the tokens are, and nothing else
  pub is_only : (ts rest : List Token) (x : X) → r ts ≡ Ok (x, rest) → IsOnly L ts x
  is_only ts rest x h = record { is = read_is ts rest x h; only = λ y k. read_only ts rest x y h k }

  clash : (ts : List Token) (k : ℕ) (x : X) → r ts ≡ Err (At k) → L ts x → ⊥
  clash ts k x h d = elim (D.finds ts x d) [
    | inl s ↦ let bad : Err (At k) ≡ Err Spent = sym h ∙ s in absurd cc
    | inr s ↦ let bad : Err (At k) ≡ read_of x [] = sym h ∙ s in absurd cc
  ]

  -- no more tokens are left than there are
  pub left_fits : (ts : List Token) (k : ℕ) → r ts ≡ Err (At k) → k ≤ length ts
  left_fits ts k h =
      let F = D.reads.fails ts k h in
      omega (arith, ap length F.split.is, length-append F.split.front F.rest, F.count)

  -- the first token that fits nowhere
  pub unexpected : (ts : List Token) (k : ℕ) → r ts ≡ Err (At k) → IsUnexpected L ts (length ts - k)
  unexpected ts k h =
      let F = D.reads.fails ts k h in
      let s = F.split in
      record {
        front = s.front;
        rest = F.rest;
        is = s.is;
        place = omega (arith, ap length s.is, length-append s.front F.rest, F.count);
        fits = (s.holds.more, s.holds.value, s.holds.whole);
        next = λ t after e g.
            let there : r (s.front ++ F.rest) ≡ Err (At (length F.rest)) = ap r (sym s.is) ∙ h ∙ ap (λ (i : ℕ). Err (At i)) (sym F.count) in
            let longer : (s.front ++ t ∷ []) ++ g.0 ≡ s.front ++ t ∷ g.0 = append_assoc s.front (t ∷ []) g.0 in
            let stays : r (s.front ++ t ∷ g.0) ≡ Err (At (length (t ∷ g.0))) = D.reads.keeps_stop s.front F.rest (t ∷ g.0) (ap first e) there in
            clash (s.front ++ t ∷ g.0) (length (t ∷ g.0)) g.1 stays (subst (λ (z : List Token). L z g.1) longer g.2);
        none = λ x d. clash ts k x h d;
      }
