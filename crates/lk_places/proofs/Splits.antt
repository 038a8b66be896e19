-- Numbers that are starts of tokens which stand one behind the other, and so are apart.
use Rattle.std.proofs.Common.{◌≡◌, ℕ, ◌<◌, ◌≤◌, List, [], ◌∷◌, ◌++◌, sym, arith}
use Rattle.lk_ast.specs.declared.token.Token.{Token}
use Rattle.lk_index.specs.Places.{IsNone, AreApart}
use Rattle.lk_parse.specs.Tokens.{LieBetween}

-- Two lists of starts of some of these tokens, each in the order of the tokens: those of names, and those of lambdas. No token
-- is in both. In place of names there may be uses of functions, or what acts on tables.
pub data Split : List ℕ → List ℕ → List Token → Type 0 where
  none : Split [] [] []
  skip : (t : Token) {names sites : List ℕ} {w : List Token} → Split names sites w → Split names sites (t ∷ w)
  name : (t : Token) {n : ℕ} {names sites : List ℕ} {w : List Token} → n ≡ t.span.start → Split names sites w → Split (n ∷ names) sites (t ∷ w)
  lambda : (t : Token) {n : ℕ} {names sites : List ℕ} {w : List Token} → n ≡ t.span.start → Split names sites w → Split names (n ∷ sites) (t ∷ w)

pub split_append : {names sites others more : List ℕ} {u v : List Token} → Split names sites u → Split others more v → Split (names ++ others) (sites ++ more) (u ++ v)
split_append Split.none e = e
split_append (Split.skip t d) e = Split.skip t (split_append d e)
split_append (Split.name t is d) e = Split.name t is (split_append d e)
split_append (Split.lambda t is d) e = Split.lambda t is (split_append d e)

-- tokens at which nothing begins
pub split_nothing : (w : List Token) → Split [] [] w
split_nothing [] = Split.none
split_nothing (t ∷ w) = Split.skip t (split_nothing w)

pub split_behind : {names sites : List ℕ} {w : List Token} (v : List Token) → Split names sites w → Split names sites (w ++ v)
split_behind v Split.none = split_nothing v
split_behind v (Split.skip t d) = Split.skip t (split_behind v d)
split_behind v (Split.name t is d) = Split.name t is (split_behind v d)
split_behind v (Split.lambda t is d) = Split.lambda t is (split_behind v d)

-- ---- numbers from a place on

abbrev AreFrom : ℕ → List ℕ → Type 0
AreFrom from [] = Unit {0}
AreFrom from (n ∷ ns) = (from ≤ n) × AreFrom from ns

from_later : (from at : ℕ) (ns : List ℕ) → from ≤ at → AreFrom at ns → AreFrom from ns
from_later from at [] le h = tt
from_later from at (n ∷ ns) le h = (omega (arith, h.0), from_later from at ns le h.1)

-- what begins behind a token begins behind its start
from_token : (from : ℕ) (t : Token) (ns : List ℕ) → from ≤ t.span.start → t.span.start < t.span.end → AreFrom t.span.end ns → AreFrom from ns
from_token from t ns le some h = from_later from t.span.end ns (omega arith) h

from_start : (from n : ℕ) (t : Token) (ns : List ℕ) → from ≤ t.span.start → t.span.start < t.span.end → n ≡ t.span.start → AreFrom t.span.end ns → AreFrom from (n ∷ ns)
from_start from n t ns le some is h = (omega arith, from_token from t ns le some h)

names_from : (from to : ℕ) {names sites : List ℕ} {w : List Token} → Split names sites w → LieBetween from w to → AreFrom from names
names_from from to Split.none lie = tt
names_from from to (Split.skip t d) lie = from_token from t _ lie.0 lie.1 (names_from t.span.end to d lie.2)
names_from from to (Split.name t is d) lie = from_start from _ t _ lie.0 lie.1 is (names_from t.span.end to d lie.2)
names_from from to (Split.lambda t is d) lie = from_token from t _ lie.0 lie.1 (names_from t.span.end to d lie.2)

sites_from : (from to : ℕ) {names sites : List ℕ} {w : List Token} → Split names sites w → LieBetween from w to → AreFrom from sites
sites_from from to Split.none lie = tt
sites_from from to (Split.skip t d) lie = from_token from t _ lie.0 lie.1 (sites_from t.span.end to d lie.2)
sites_from from to (Split.name t is d) lie = from_token from t _ lie.0 lie.1 (sites_from t.span.end to d lie.2)
sites_from from to (Split.lambda t is d) lie = from_start from _ t _ lie.0 lie.1 is (sites_from t.span.end to d lie.2)

-- ---- numbers that are apart

none_from : (n from : ℕ) (ns : List ℕ) → n < from → AreFrom from ns → IsNone n ns
none_from n from [] lt h = tt
none_from n from (m ∷ ns) lt h = ((λ is. omega (arith, is, h.0)), none_from n from ns lt h.1)

-- the start of a token is none of what begins behind it
none_behind : (n : ℕ) (t : Token) (ns : List ℕ) → n ≡ t.span.start → t.span.start < t.span.end → AreFrom t.span.end ns → IsNone n ns
none_behind n t ns is some h = none_from n t.span.end ns (omega arith) h

none_append : (n : ℕ) (ns ms : List ℕ) → IsNone n ns → IsNone n ms → IsNone n (ns ++ ms)
none_append n [] ms h k = k
none_append n (m ∷ ns) ms h k = (h.0, none_append n ns ms h.1 k)

none_with : (m n : ℕ) (ns ms : List ℕ) → (m ≡ n → ⊥) → IsNone m (ns ++ ms) → IsNone m (ns ++ n ∷ ms)
none_with m n [] ms other h = (other, h)
none_with m n (k ∷ ns) ms other h = (h.0, none_with m n ns ms other h.1)

-- one more number in the middle
apart_with : (n : ℕ) (ns ms : List ℕ) → IsNone n ns → IsNone n ms → AreApart (ns ++ ms) → AreApart (ns ++ n ∷ ms)
apart_with n [] ms h k apart = (k, apart)
apart_with n (m ∷ ns) ms h k apart = (none_with m n ns ms (λ is. h.0 (sym is)) apart.0, apart_with n ns ms h.1 k apart.1)

pub split_apart : (from to : ℕ) {names sites : List ℕ} {w : List Token} → Split names sites w → LieBetween from w to → AreApart (names ++ sites)
split_apart from to Split.none lie = tt
split_apart from to (Split.skip t d) lie = split_apart t.span.end to d lie.2
split_apart from to (Split.name t {names = names} {sites = sites} is d) lie =
    (none_append _ names sites (none_behind _ t names is lie.1 (names_from t.span.end to d lie.2)) (none_behind _ t sites is lie.1 (sites_from t.span.end to d lie.2)), split_apart t.span.end to d lie.2)
split_apart from to (Split.lambda t {names = names} {sites = sites} is d) lie =
    apart_with _ names sites (none_behind _ t names is lie.1 (names_from t.span.end to d lie.2)) (none_behind _ t sites is lie.1 (sites_from t.span.end to d lie.2)) (split_apart t.span.end to d lie.2)

-- ---- a part of numbers that are apart

none_front : (n : ℕ) (ns ms : List ℕ) → IsNone n (ns ++ ms) → IsNone n ns
none_front n [] ms h = tt
none_front n (m ∷ ns) ms h = (h.0, none_front n ns ms h.1)

pub apart_front : (ns ms : List ℕ) → AreApart (ns ++ ms) → AreApart ns
apart_front [] ms apart = tt
apart_front (n ∷ ns) ms apart = (none_front n ns ms apart.0, apart_front ns ms apart.1)

pub apart_back : (ns ms : List ℕ) → AreApart (ns ++ ms) → AreApart ms
apart_back [] ms apart = apart
apart_back (n ∷ ns) ms apart = apart_back ns ms apart.1
