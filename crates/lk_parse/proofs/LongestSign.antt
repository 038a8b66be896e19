-- The first sign of the table that stands in front is the longest.
use Rattle.std.proofs.Common.{◌≡◌, ℕ, zero, suc, ◌<◌, ◌≤◌, Bool, true, false, cond, ◌&&◌, List, [], ◌∷◌, ◌++◌, length, take, drop, get_or, Option, Some, None, refl, sym, ap, subst, ◌∙◌, inl, inr, ◌⊎◌, arith}
use Rattle.std.specs.Prelude.{Contains, All, find, map, nat_le, nat_lt, nat_eq}
use Rattle.std.specs.Borrow.{Bor}
use Rattle.std.specs.List.{list_all, starts_with}
use Rattle.std.specs.Option.{option_copied}
use Rattle.std.specs.Str.{IsUtf8}
use Rattle.std.proofs.lemmas.Bool.{and_parts, leb-true, ltb-true}
use Rattle.std.proofs.lemmas.List.{take-append-drop, take_at, length-take}
use Rattle.std.proofs.lemmas.List.Elements.{All-cons, All-weaker, All-contains}
use Rattle.std.proofs.lemmas.List.Sums.{AllPass-from_list_all}
use Rattle.std.proofs.lemmas.Slice.Eq.{bytes_eq-Decides}
use Rattle.std.proofs.lemmas.Str.{IsUtf8-from_ascii, IsCharBoundary-from_take}
use Rattle.std.proofs.lemmas.Str.Ascii.{IsAscii-from_all}
use Rattle.lk_ast.specs.declared.token.TokenKind.TheVariants as kind
use Rattle.lk_parse.specs.Pieces.{IsPiece, signs}
use Rattle.lk_parse.specs.Scanner.{start_of, sign_in_front, Begins, Takes}
use Rattle.lk_parse.specs.Tokens.{IsLexeme, IsTaken, IsStuck}
use Rattle.lk_parse.specs.declared.start.Start.{Start}
use Rattle.lk_parse.specs.declared.start.Start.TheVariants.{Sign}
use Rattle.lk_parse.proofs.Lexemes.{extent_at}
use Rattle.lk_parse.proofs.Shapes.{Shape, shape_of, piece_nonempty}

-- ---- the first that passes, in a table in which shorter texts follow longer ones

abbrev no_longer : ℕ → List (List ℕ) → Bool
no_longer n ss = list_all (λ s. nat_le (length s) n) ss

abbrev is_descending : List (List ℕ) → Bool
is_descending [] = true
is_descending (s ∷ ss) = no_longer (length s) ss && is_descending ss

all_no_longer : (n : ℕ) (ss : List (List ℕ)) → no_longer n ss ≡ true → All (λ s. length s ≤ n) ss
all_no_longer n ss h = All-weaker (λ s. nat_le (length s) n ≡ true) (λ s. length s ≤ n) (λ s e. leb-true (length s) n e) ss (AllPass-from_list_all (λ s. nat_le (length s) n) ss h)

-- a table of borrowed texts is searched as that of the texts
pub find-map : (p : List ℕ → Bool) (table : List (Bor (List ℕ))) → find p (map (λ (entry : Bor (List ℕ)). entry.now) table) ≡ option_copied (find (λ entry. p entry.now) table)
find-map p [] = refl
find-map p (entry ∷ table) = go (find-map p table) (p entry.now)
  where
    go : find p (map (λ (entry : Bor (List ℕ)). entry.now) table) ≡ option_copied (find (λ entry. p entry.now) table) → (b : Bool) → cond b (Some entry.now) (find p (map (λ (entry : Bor (List ℕ)). entry.now) table)) ≡ option_copied (cond b (Some entry) (find (λ entry. p entry.now) table))
    go e true = refl
    go e false = e

contains_parts : (t : List ℕ) (ss : List (List ℕ)) (u : List ℕ) → Contains (t ∷ ss) u → (t ≡ u) ⊎ Contains ss u
contains_parts t ss u among = go among.0 among.1 among.2
  where
    go : (k : ℕ) → k < suc (length ss) → get_or (t ∷ ss) k u ≡ u → (t ≡ u) ⊎ Contains ss u
    go zero lt e = inl e
    go (suc k) lt e = inr (k, omega arith, e)

module _ (p : List ℕ → Bool) where
  find_parts : (t : List ℕ) (ss : List (List ℕ)) (o : Option (List ℕ)) → find p (t ∷ ss) ≡ o → ((p t ≡ true) × (Some t ≡ o)) ⊎ ((p t ≡ false) × (find p ss ≡ o))
  find_parts t ss o found = go (p t) refl
    where
      go : (b : Bool) → p t ≡ b → ((p t ≡ true) × (Some t ≡ o)) ⊎ ((p t ≡ false) × (find p ss ≡ o))
      go true e = inl (e, rw e at found)
      go false e = inr (e, rw e at found)

  passed : (t u : List ℕ) → t ≡ u → p t ≡ false → p u ≡ true → ⊥
  passed t u e fails passes = let bad : true ≡ false = sym passes ∙ ap p (sym e) ∙ fails in absurd cc

  find_longest : (ss : List (List ℕ)) (s u : List ℕ) → is_descending ss ≡ true → find p ss ≡ Some s → Contains ss u → p u ≡ true → length u ≤ length s
  find_longest [] s u order found among passes = absurd cc
  find_longest (t ∷ ss) s u order found among passes =
      let parts = and_parts (no_longer (length t) ss) (is_descending ss) order in
      elim (find_parts t ss (Some s) found) [
        | inl here ↦ let is : t ≡ s = let e = here.1 in cc in subst (λ (v : List ℕ). length u ≤ length v) is (All-contains (λ v. length v ≤ length t) (t ∷ ss) u (All-cons (λ v. length v ≤ length t) t ss (omega arith) (all_no_longer (length t) ss parts.0)) among)
        | inr later ↦ elim (contains_parts t ss u among) [
          | inl is ↦ absurd (passed t u is later.0 passes)
          | inr more ↦ find_longest ss s u parts.1 later.1 more passes
        ]
      ]

  find_some : (ss : List (List ℕ)) (s : List ℕ) → find p ss ≡ Some s → Contains ss s × (p s ≡ true)
  find_some [] s found = absurd cc
  find_some (t ∷ ss) s found = elim (find_parts t ss (Some s) found) [
    | inl here ↦ let is : t ≡ s = let e = here.1 in cc in ((0, omega arith, is), sym (ap p is) ∙ here.0)
    | inr later ↦ let more = find_some ss s later.1 in ((suc more.0.0, omega (arith, more.0.1), more.0.2), more.1)
  ]

  find_none : (ss : List (List ℕ)) (u : List ℕ) → find p ss ≡ None → Contains ss u → p u ≡ true → ⊥
  find_none [] u found among passes = omega (arith, among.1)
  find_none (t ∷ ss) u found among passes = elim (find_parts t ss None found) [
    | inl here ↦ let e = here.1 in absurd cc
    | inr later ↦ elim (contains_parts t ss u among) [
      | inl is ↦ absurd (passed t u is later.0 passes)
      | inr more ↦ find_none ss u later.1 more passes
    ]
  ]

-- ---- signs in front

in_front : (text u v : List ℕ) → text ≡ u ++ v → starts_with nat_eq text u ≡ true
in_front text u v e = (bytes_eq-Decides u (take (length u) text)).1 (sym (ap (take (length u)) e ∙ take_at u v (length u) refl))

front_is : (text s : List ℕ) → starts_with nat_eq text s ≡ true → take (length s) text ≡ s
front_is text s h = sym ((bytes_eq-Decides s (take (length s) text)).0 h)

front_fits : (text s : List ℕ) → take (length s) text ≡ s → length s ≤ length text
front_fits text s e = omega (arith, ap length e, length-take (length s) text)

every_sign : (test : List ℕ → Bool) → list_all test signs ≡ true → (s : List ℕ) → Contains signs s → test s ≡ true
every_sign test all s among = All-contains (λ v. test v ≡ true) signs s (AllPass-from_list_all test signs all) among

sign_nonempty : (s : List ℕ) → Contains signs s → 0 < length s
sign_nonempty s among = ltb-true 0 (length s) (every_sign (λ v. nat_lt 0 (length v)) refl s among)

sign_utf8 : (s : List ℕ) → Contains signs s → IsUtf8 s
sign_utf8 s among =
    let small = every_sign (λ v. list_all (λ b. nat_lt b 128) v) refl s among in
    IsUtf8-from_ascii s (IsAscii-from_all s (All-weaker (λ b. nat_lt b 128 ≡ true) (λ b. b < 128) (λ b e. ltb-true b 128 e) s (AllPass-from_list_all (λ b. nat_lt b 128) s small)))

pub sign_takes : (text s : List ℕ) → IsUtf8 text → Begins text Sign → sign_in_front text ≡ Some s → Takes text (record { len = length s; kind = Some (kind.Sign s) })
unfolding sign_in_front
sign_takes [] s utf8 b found = let none = b.some in absurd (omega arith)
sign_takes (c ∷ bytes) s utf8 b found =
    let text = c ∷ bytes in
    let is = find_some (starts_with nat_eq text) signs s found in
    let front = front_is text s is.1 in
    let fits = front_fits text s front in
    record {
      some = sign_nonempty s is.0;
      fits = fits;
      boundary = IsCharBoundary-from_take text (length s) utf8 fits (subst IsUtf8 (sym front) (sign_utf8 s is.0));
      taken = subst (λ (w : List ℕ). IsTaken w (drop (length s) text) (Some (kind.Sign s))) (sym front) (record { piece = IsPiece.sign s is.0; longest = longest front });
    }
  where
    longest : take (length s) (c ∷ bytes) ≡ s → (u v : List ℕ) → s ++ drop (length s) (c ∷ bytes) ≡ u ++ v → IsLexeme u → length u ≤ length s
    longest front [] v e h = omega arith
    longest front (d ∷ u) v e h =
        let whole : c ∷ bytes ≡ (d ∷ u) ++ v = sym (take-append-drop (length s) (c ∷ bytes)) ∙ ap (λ (w : List ℕ). w ++ drop (length s) (c ∷ bytes)) front ∙ e in
        let same : c ≡ d = cc in
        find_longest (starts_with nat_eq (c ∷ bytes)) signs s (d ∷ u) refl found (extent_at Sign d u (sym (ap start_of same) ∙ b.is) h) (in_front (c ∷ bytes) (d ∷ u) v whole)

pub no_sign_stuck : (text : List ℕ) → Begins text Sign → sign_in_front text ≡ None → IsStuck text
unfolding sign_in_front
no_sign_stuck text b found [] rest x e t = piece_nonempty x t.piece
no_sign_stuck [] b found (d ∷ w) rest x e t = absurd cc
no_sign_stuck (c ∷ bytes) b found (d ∷ w) rest x e t =
    let same : d ≡ c = cc in
    let shape = subst (λ (s : Start). Shape s d w x) (ap start_of same ∙ b.is) (shape_of d w x t.piece) in
    find_none (starts_with nat_eq (c ∷ bytes)) signs (d ∷ w) found shape.1 (in_front (c ∷ bytes) (d ∷ w) rest e)
