-- Things one behind the other with commas between.
use Rattle.std.proofs.Common.{◌≡◌, List, [], ◌∷◌, ◌++◌, map, refl, sym, ap, append_assoc}
use Rattle.std.specs.Prelude.{codes}
use Rattle.std.proofs.lemmas.List.{append-nil}
use Rattle.lk_ast.specs.declared.token.Token.{Token}
use Rattle.lk_ast.specs.declared.token.TokenKind.TheVariants.{Sign}
use Rattle.lk_read.specs.Exact.{Language}
use Rattle.lk_read.specs.Kinds.{IsSign}
use Rattle.lk_read.proofs.Moves.{moved}
use Rattle.lk_print.specs.Printed.{Kinds, behind_commas, joined, separated}
use Rattle.lk_print.proofs.Spelled.{Spelt, token, spelt_none, spelt_cons, spelt_append, spelt_so}

-- what holds of each of a list
pub data Each {S : Type 0} (P : S → Type 0) : List S → Type 0 where
  none : Each P []
  also : {s : S} {ss : List S} → P s → Each P ss → Each P (s ∷ ss)

pub each_more : {S : Type 0} {P : S → Type 0} (ss : List S) (s : S) → Each P ss → P s → Each P (ss ++ s ∷ [])
each_more [] s Each.none p = Each.also p Each.none
each_more (x ∷ ss) s (Each.also q qs) p = Each.also q (each_more ss s qs p)

pub each_map : {S T : Type 0} {P : T → Type 0} (f : S → T) (ss : List S) → Each (λ s. P (f s)) ss → Each P (map f ss)
each_map f [] Each.none = Each.none
each_map f (x ∷ ss) (Each.also q qs) = Each.also q (each_map f ss qs)

pub map_map : {X Y Z : Type 0} (f : Y → Z) (h : X → Y) (xs : List X) → map f (map h xs) ≡ map (λ x. f (h x)) xs
map_map f h [] = refl
map_map f h (x ∷ xs) = ap (λ ys. f (h x) ∷ ys) (map_map f h xs)

-- something of the language, of which this is what counts
pub record ReadsOne {X Y : Type 0} (One : Language X) (f : X → Y) (y : Y) (w : List Token) : Type 0 where
  pub x : X
  pub is : One w x
  pub same : f x ≡ y

-- more of them behind these
pub record ReadsMore {X Y : Type 0} (Many : Language (List X)) (f : X → Y) (u : List Token) (xs : List X) (ys : List Y) (w : List Token) : Type 0 where
  pub zs : List X
  pub is : Many (u ++ w) (xs ++ zs)
  pub same : map f zs ≡ ys

module _ {X Y S : Type 0} (One : Language X) (Many : Language (List X))
    (first : (w : List Token) (x : X) → One w x → Many w (x ∷ []))
    (next : (u w : List Token) (s : Token) (xs : List X) (x : X) → Many u xs → IsSign (codes ",") s → One w x → Many (u ++ s ∷ w) (xs ++ x ∷ []))
    (f : X → Y) (g : S → Y) (kinds : S → Kinds) where
  behind : (u : List Token) (xs : List X) → Many u xs → (ss : List S) → Each (λ s. Spelt (kinds s) (ReadsOne One f (g s))) ss → Spelt (behind_commas (map kinds ss)) (ReadsMore Many f u xs (map g ss))
  behind u xs d [] Each.none = spelt_none (record { zs = []; is = moved Many (append-nil u) (sym (append-nil xs)) d; same = refl })
  behind u xs d (s ∷ ss) (Each.also p ps) = spelt_cons (λ at. spelt_append (kinds s) p (λ v one. spelt_so
      (behind (u ++ token at (Sign (codes ",")) ∷ v) (xs ++ one.x ∷ []) (next u v (token at (Sign (codes ","))) xs one.x d refl one.is) ss ps)
      (λ w more. record {
        zs = one.x ∷ more.zs;
        is = moved Many (sym (append_assoc u (token at (Sign (codes ",")) ∷ v) w)) (append_assoc xs (one.x ∷ []) more.zs) more.is;
        same = (λ i. one.same i ∷ more.same i);
      })))

  pub commas : (s : S) (ss : List S) → Each (λ s. Spelt (kinds s) (ReadsOne One f (g s))) (s ∷ ss) → Spelt (separated (map kinds (s ∷ ss))) (ReadsOne Many (map f) (map g (s ∷ ss)))
  commas s ss (Each.also p ps) = spelt_append (kinds s) p (λ v one. spelt_so
      (behind v (one.x ∷ []) (first v one.x one.is) ss ps)
      (λ w more. record { x = one.x ∷ more.zs; is = more.is; same = (λ i. one.same i ∷ more.same i) }))

-- things one behind the other with nothing between
module _ {X Y S : Type 0} (One : Language X) (Many : Language (List X))
    (next : (u w : List Token) (xs : List X) (x : X) → Many u xs → One w x → Many (u ++ w) (xs ++ x ∷ []))
    (f : X → Y) (g : S → Y) (kinds : S → Kinds) where
  pub series : (u : List Token) (xs : List X) → Many u xs → (ss : List S) → Each (λ s. Spelt (kinds s) (ReadsOne One f (g s))) ss → Spelt (joined (map kinds ss)) (ReadsMore Many f u xs (map g ss))
  series u xs d [] Each.none = spelt_none (record { zs = []; is = moved Many (append-nil u) (sym (append-nil xs)) d; same = refl })
  series u xs d (s ∷ ss) (Each.also p ps) = spelt_append (kinds s) p (λ v one. spelt_so
      (series (u ++ v) (xs ++ one.x ∷ []) (next u v xs one.x d one.is) ss ps)
      (λ w more. record {
        zs = one.x ∷ more.zs;
        is = moved Many (sym (append_assoc u v w)) (append_assoc xs (one.x ∷ []) more.zs) more.is;
        same = (λ i. one.same i ∷ more.same i);
      }))
