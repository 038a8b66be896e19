-- The turns of a loop, one at a time.
use Rattle.std.proofs.Common.{◌≡◌, ℕ, suc, ◌+◌, ◌-◌, ◌<◌, ◌≤◌, Bool, true, false, List, Ok, Err, sym, ap, ◌∙◌, arith}
use Rattle.lk_read.specs.declared.stop.Stop.{Stop}
use Rattle.lk_read.specs.declared.stop.Stop.TheVariants.{At, Spent, NoMemory}
use Rattle.lk_ast.specs.declared.token.Token.{Token}
use Rattle.lk_read.specs.Reader.{Reading, Reader, give, tired, bind, peek, many}
use Rattle.lk_read.specs.Gives.{StopsAs}
use Rattle.lk_read.proofs.Laws.{when-true, bind-at_ok, bind-at_err}
use Rattle.lk_read.proofs.Below.{many-stops}

-- a function that fails as r does fails as what binds r
pub StopsAs-bind : {X Y : Type 0} (e : Stop) (r : Reader X) (f : X → Reader Y) (ts : List Token) → StopsAs e (r ts) → StopsAs e (bind r f ts)
StopsAs-bind NoMemory r f ts h = tt
StopsAs-bind Spent r f ts h = bind-at_err r f ts Spent h
StopsAs-bind (At n) r f ts h = bind-at_err r f ts (At n) h

pub StopsAs-at : {Y : Type 0} (e : Stop) (a b : Reading Y) → a ≡ b → StopsAs e a → StopsAs e b
StopsAs-at NoMemory a b q h = tt
StopsAs-at Spent a b q h = sym q ∙ h
StopsAs-at (At n) a b q h = sym q ∙ h

module _ {A : Type 0} (p : A → Token → Bool) (turn : A → Reader A) where
  many-suc : (n : ℕ) (a : A) (ts : List Token) → peek (p a) ts ≡ true → many p turn (suc n) a ts ≡ bind (turn a) (many p turn n) ts
  unfolding many
  many-suc n a ts e = when-true (p a) (bind (turn a) (many p turn n)) (give a) ts e

  pub loop_done : (n : ℕ) (a : A) (ts : List Token) (total : Reading A) → peek (p a) ts ≡ false → many p turn n a ts ≡ total → total ≡ Ok (a, ts)
  loop_done n a ts total e h = sym h ∙ many-stops p turn n a ts e

  pub loop_spent : (n i : ℕ) (a : A) (ts : List Token) (total : Reading A) → n ≤ i → peek (p a) ts ≡ true → many p turn (n - i) a ts ≡ total → total ≡ Err Spent
  unfolding many tired
  loop_spent n i a ts total le e h =
      let k : n - i ≡ 0 = omega arith in
      sym h ∙ ap (λ (m : ℕ). many p turn m a ts) k ∙ when-true (p a) tired (give a) ts e

  pub loop_goes : (n i : ℕ) (a b : A) (ts rest : List Token) (total : Reading A) → i < n → peek (p a) ts ≡ true → turn a ts ≡ Ok (b, rest) → many p turn (n - i) a ts ≡ total → many p turn (n - (i + 1)) b rest ≡ total
  loop_goes n i a b ts rest total lt e t h =
      let k : n - i ≡ suc (n - (i + 1)) = omega arith in
      sym (bind-at_ok (turn a) (many p turn (n - (i + 1))) ts rest b t) ∙ sym (many-suc (n - (i + 1)) a ts e) ∙ ap (λ (m : ℕ). many p turn m a ts) (sym k) ∙ h

  pub loop_fails : (x : Stop) (n i : ℕ) (a : A) (ts : List Token) (total : Reading A) → i < n → peek (p a) ts ≡ true → StopsAs x (turn a ts) → many p turn (n - i) a ts ≡ total → StopsAs x total
  loop_fails x n i a ts total lt e t h =
      let k : n - i ≡ suc (n - (i + 1)) = omega arith in
      StopsAs-at x (bind (turn a) (many p turn (n - (i + 1))) ts) total (sym (many-suc (n - (i + 1)) a ts e) ∙ ap (λ (m : ℕ). many p turn m a ts) (sym k) ∙ h) (StopsAs-bind x (turn a) (many p turn (n - (i + 1))) ts t)
