-- What is found of the names that an expression uses from outside: for each of its free names, each time that one stands there,
-- an entry with the type that the name has round it.
use Rattle.std.proofs.Common.{◌≡◌, refl, sym, ap, ap₂, ◌∙◌, Bool, true, false, ◌||◌, cond, List, [], ◌∷◌, ◌++◌, append-nil, append_assoc, inl, inr, Some, bytes_eq, if◌then◌else◌}
use Rattle.std.specs.Cmp.Lexicographic.{bytes_decides}
use Rattle.std.specs.FinSet as set
use Rattle.lk_ast.specs.declared.place.Word.{Word}
use Rattle.lk_bodies.specs.Uses.{Used, is_bound, local}
use Rattle.lk_index.specs.Free.{use_of}
use Rattle.lk_scope.specs.Names.{Names, bind, is_local, no_names}
use Rattle.lk_types.proofs.Members.{each_weaker, each_both}
use Rattle.lk_sound.proofs.Names.{IsAmong}
use Rattle.lk_sound.proofs.Standing.{bound_one}
use Rattle.lk_types.specs.Each.{Each}
use Rattle.lk_types.specs.Rows.{Label}
use Rattle.lk_types.specs.declared.ground.Ground.{Ground}
use Rattle.lk_typing.specs.Names.{Named, named, names_of}

-- ---- names that are bound

-- these are the names
abbrev pub AreBound : Names → List Label → Type 0
AreBound names bound = (y : Label) → is_local names y ≡ is_bound bound y

pub none_bound : AreBound no_names []
none_bound y = set.contains-empty _ y

pub one_bound : (x : Word) (names : Names) (bound : List Label) → AreBound names bound → AreBound (bind x names) (x.text ∷ bound)
one_bound x names bound are y = bound_one x names y ∙ ap (λ b. bytes_eq x.text y || b) (are y)

-- ---- entries

-- an entry for a name that isn't bound there, with its type
abbrev pub IsFound : Named Ground → List Label → Label × Ground → Type 0
IsFound locals bound entry = (is_bound bound entry.0 ≡ false) × (named entry.0 locals ≡ Some entry.1)

-- What is found first, then more, with these entries for these words.
pub record AreFound (locals : Named Ground) (bound : List Label) (words : List Label) (u : Used) (types : List Ground) (v : Used) : Type 0 where
  pub more : Named Ground
  pub found : v.found ≡ u.found ++ more
  pub types_left : v.types ≡ types
  pub each : Each (IsFound locals bound) more
  pub are : names_of more ≡ words

names_both : (xs ys : Named Ground) → names_of (xs ++ ys) ≡ names_of xs ++ names_of ys
names_both [] ys = refl
names_both (x ∷ xs) ys = ap (λ rest. x.0 ∷ rest) (names_both xs ys)

module _ {locals : Named Ground} {bound : List Label} where
  pub none_found : (u : Used) → AreFound locals bound [] u u.types u
  none_found u = record { more = []; found = sym (append-nil u.found); types_left = refl; each = tt; are = refl }

  pub both_found : {xs ys : List Label} {u v w : Used} {ts us : List Ground} → AreFound locals bound xs u ts v → AreFound locals bound ys v us w → AreFound locals bound (xs ++ ys) u us w
  both_found {u = u} a b =
      record {
        more = a.more ++ b.more;
        found = b.found ∙ ap (λ found. found ++ b.more) a.found ∙ append_assoc u.found a.more b.more;
        types_left = b.types_left;
        each = each_both (IsFound locals bound) a.more b.more a.each b.each;
        are = names_both a.more b.more ∙ ap₂ (λ xs ys. xs ++ ys) a.are b.are;
      }

  -- of the words that these are, in what is used there
  pub these_found : {xs ys : List Label} {u v w : Used} {ts : List Ground} → ys ≡ xs → w ≡ v → AreFound locals bound xs u ts v → AreFound locals bound ys u ts w
  these_found {u = u} {ts = ts} words_are is a = record { more = a.more; found = ap (λ (v : Used). v.found) is ∙ a.found; types_left = ap (λ (v : Used). v.types) is ∙ a.types_left; each = a.each; are = a.are ∙ sym words_are }

  -- after the node of the expression itself
  pub behind_found : {xs : List Label} {u v w : Used} {ts : List Ground} → v.found ≡ u.found → AreFound locals bound xs v ts w → AreFound locals bound xs u ts w
  behind_found same a = record { more = a.more; found = a.found ∙ ap (λ found. found ++ a.more) same; types_left = a.types_left; each = a.each; are = a.are }

  -- where one name more was bound
  pub outside_found : (x : Label) (a : Ground) {xs : List Label} {u v : Used} {ts : List Ground} → AreFound ((x, a) ∷ locals) (x ∷ bound) xs u ts v → AreFound locals bound xs u ts v
  outside_found x a inner =
      record {
        more = inner.more;
        found = inner.found;
        types_left = inner.types_left;
        each = each_weaker (IsFound ((x, a) ∷ locals) (x ∷ bound)) (IsFound locals bound) (λ entry is. by_test entry (bytes_eq x entry.0) is) inner.more inner.each;
        are = inner.are;
      }
    where
      by_test : (entry : Label × Ground) (b : Bool) → ((b || is_bound bound entry.0) ≡ false) × ((if b then Some a else named entry.0 locals) ≡ Some entry.1) → IsFound locals bound entry
      by_test entry true is = absurd cc
      by_test entry false is = is

  -- a use of a name of this type
  pub use_found : (x : Label) (t : Ground) (ts : List Ground) (names : Names) (u : Used) → AreBound names bound → named x locals ≡ Some t → AreFound locals bound (use_of x names) u u.types (local x (t ∷ ts) bound u)
  use_found x t ts names u are is = by_test (is_bound bound x) refl
    where
      by_test : (b : Bool) → is_bound bound x ≡ b → AreFound locals bound (use_of x names) u u.types (if b then u else record { found = u.found ++ (x, t) ∷ []; types = u.types })
      by_test true bound_is =
          record { more = []; found = sym (append-nil u.found); types_left = refl; each = tt; are = ap (λ b. cond b [] (x ∷ [])) (sym (are x ∙ bound_is)) }
      by_test false bound_is =
          record { more = (x, t) ∷ []; found = refl; types_left = refl; each = ((bound_is, is), tt); are = ap (λ b. cond b [] (x ∷ [])) (sym (are x ∙ bound_is)) }

-- ---- what a name stands for among the entries

-- All entries for it say its type, and there is one.
pub among_found : (locals : Named Ground) (bound : List Label) (entries : Named Ground) (x : Label) → Each (IsFound locals bound) entries → IsAmong x (names_of entries) → (t : Ground) × (named x entries ≡ Some t) × (named x locals ≡ Some t)
among_found locals bound [] x all among = absurd among
among_found locals bound (entry ∷ entries) x all among = by_test (bytes_eq entry.0 x) refl among (among_found locals bound entries x all.1)
  where
    by_test : (b : Bool) → bytes_eq entry.0 x ≡ b → IsAmong x (entry.0 ∷ names_of entries) → (IsAmong x (names_of entries) → (t : Ground) × (named x entries ≡ Some t) × (named x locals ≡ Some t))
        → (t : Ground) × ((if b then Some entry.1 else named x entries) ≡ Some t) × (named x locals ≡ Some t)
    by_test true same among behind = (entry.1, refl, sym (ap (λ y. named y locals) ((bytes_decides entry.0 x).0 same)) ∙ all.0.1)
    by_test false other (inl same) behind = let itself : bytes_eq entry.0 x ≡ true = (bytes_decides entry.0 x).1 same in absurd cc
    by_test false other (inr later) behind = behind later
