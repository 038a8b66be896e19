-- The map from variables to numbers, and the list of variables that it stands for.
use Rattle.std.proofs.Common.{arith, ◌≡◌, ℕ, suc, ◌+◌, Bool, true, false, not, cond, List, [], ◌∷◌, ◌++◌, length, refl, sym, ap, subst, ◌∙◌, Option, Some, None, is_some, if◌then◌else◌, ◌||◌}
use Rattle.std.specs.BTreeMap.{get, is_at, btree_map_len}
use Rattle.std.specs.List.{position_from, position_or_len, list_any}
use Rattle.std.specs.Map.{lookup}
use Rattle.std.specs.Option.{unwrap_or, option_or}
use Rattle.std.proofs.lemmas.List.{length_push}
use Rattle.lk_types.proofs.SameVariable.{agrees, test_is, same_is, same_self, same_turned}
use Rattle.lk_types.specs.Names.{number, name}
use Rattle.lk_types.specs.TypeText.{number_in, name_of, type_text, written}
use Rattle.lk_types.specs.Variables.{same_variable, with_variable, firsts, variables_of}
use Rattle.lk_types.specs.contracts.ty.VariableOrd.TheImpl.{cmp-value}
use Rattle.lk_types.specs.declared.names.Names.{Names}
use Rattle.lk_types.specs.declared.ty.Ty.{Ty}
use Rattle.lk_types.specs.declared.ty.Variable.{Variable}

pub record IsNumbered (names : Names) (seen : List Variable) : Type 0 where
  pub count : length names.numbers.entries ≡ length seen
  pub at : (x : Variable) → lookup (same_variable x) names.numbers.entries ≡ position_from (same_variable x) 1 seen

-- ---- places in lists

one_on : (i n : ℕ) → i + suc n ≡ (i + 1) + n
one_on i n = omega arith

one_back : (i n : ℕ) → (i + 1) + n ≡ i + (1 + n)
one_back i n = omega arith

plus_none : (n : ℕ) → n + 0 ≡ n
plus_none n = omega arith

one_behind : (n : ℕ) → suc (n + 1) ≡ suc n + 1
one_behind n = omega arith

module _ {X : Type 0} (p : X → Bool) where
  place_or_next : (xs : List X) (i : ℕ) → unwrap_or (position_from p i xs) (i + length xs) ≡ i + position_or_len p xs
  place_or_next [] i = refl
  place_or_next (x ∷ xs) i = by_test (p x) (position_from p (i + 1) xs) (place_or_next xs (i + 1))
    where
      by_test : (b : Bool) (o : Option ℕ) → unwrap_or o ((i + 1) + length xs) ≡ (i + 1) + position_or_len p xs → unwrap_or (cond b (Some i) o) (i + length (x ∷ xs)) ≡ i + cond (not b) (1 + position_or_len p xs) 0
      by_test true o is = omega arith
      by_test false o is = ap (unwrap_or o) (one_on i (length xs)) ∙ is ∙ one_back i (position_or_len p xs)

  is_there : (xs : List X) (i : ℕ) → is_some (position_from p i xs) ≡ list_any p xs
  is_there [] i = refl
  is_there (x ∷ xs) i = by_test (p x) (position_from p (i + 1) xs) (is_there xs (i + 1))
    where
      by_test : (b : Bool) (o : Option ℕ) → is_some o ≡ list_any p xs → is_some (cond b (Some i) o) ≡ (b || list_any p xs)
      by_test true o is = refl
      by_test false o is = is

  place_behind : (xs : List X) (y : X) (i : ℕ) → position_from p i (xs ++ y ∷ []) ≡ option_or (position_from p i xs) (cond (p y) (Some (i + length xs)) None)
  place_behind [] y i = ap (λ n. cond (p y) (Some n) None) (sym (plus_none i))
  place_behind (x ∷ xs) y i = by_test (p x) (position_from p (i + 1) xs) (place_behind xs y (i + 1))
    where
      by_test : (b : Bool) (o : Option ℕ) → position_from p (i + 1) (xs ++ y ∷ []) ≡ option_or o (cond (p y) (Some ((i + 1) + length xs)) None)
          → cond b (Some i) (position_from p (i + 1) (xs ++ y ∷ [])) ≡ option_or (cond b (Some i) o) (cond (p y) (Some (i + length (x ∷ xs))) None)
      by_test true o is = refl
      by_test false o is = is ∙ ap (λ n. option_or o (cond (p y) (Some n) None)) (sym (one_on i (length xs)))

-- ---- numbers

pub number_is : (names : Names) (seen : List Variable) → IsNumbered names seen → (x : Variable) → number names x ≡ number_in seen x
number_is names seen numbered x = ap (λ o. unwrap_or o (1 + length names.numbers.entries)) (numbered.at x) ∙ ap (λ n. unwrap_or (position_from (same_variable x) 1 seen) (1 + n)) numbered.count ∙ place_or_next (same_variable x) seen 1

-- one more variable, with its number
module _ (old new : Names) (seen : List Variable) (x : Variable) (numbered : IsNumbered old seen) where
  place_of_new : list_any (same_variable x) seen ≡ true → Some (number_in seen x) ≡ position_from (same_variable x) 1 seen
  place_of_new there = filled (position_from (same_variable x) 1 seen) (is_there (same_variable x) seen 1 ∙ there) (place_or_next (same_variable x) seen 1)
    where
      filled : (o : Option ℕ) → is_some o ≡ true → unwrap_or o (1 + length seen) ≡ 1 + position_or_len (same_variable x) seen → Some (1 + position_or_len (same_variable x) seen) ≡ o
      filled None some is = cc
      filled (Some n) some is = ap Some (sym is)

  none_yet : list_any (same_variable x) seen ≡ false → position_from (same_variable x) 1 seen ≡ None
  none_yet missing = empty (position_from (same_variable x) 1 seen) (is_there (same_variable x) seen 1 ∙ missing)
    where
      empty : (o : Option ℕ) → is_some o ≡ false → o ≡ None
      empty None some = refl
      empty (Some n) some = cc

  next_number : list_any (same_variable x) seen ≡ false → number_in seen x ≡ 1 + length seen
  next_number missing = sym (place_or_next (same_variable x) seen 1) ∙ ap (λ o. unwrap_or o (1 + length seen)) (none_yet missing)

  -- what a look-up of `q` finds, where the last one is it or not
  placed_last : list_any (same_variable x) seen ≡ false → (q : Variable) (here : Bool) → same_variable x q ≡ here
      → cond here (Some (number_in seen x)) (position_from (same_variable q) 1 seen) ≡ option_or (position_from (same_variable q) 1 seen) (cond (same_variable q x) (Some (1 + length seen)) None)
  placed_last missing q true same = subst (λ y. Some (number_in seen x) ≡ option_or (position_from (same_variable y) 1 seen) (cond (same_variable y x) (Some (1 + length seen)) None)) (same_is x q same) (found (position_from (same_variable x) 1 seen) (none_yet missing))
    where
      found : (o : Option ℕ) → o ≡ None → Some (number_in seen x) ≡ option_or o (cond (same_variable x x) (Some (1 + length seen)) None)
      found o none = ap Some (next_number missing) ∙ sym (ap (λ z. option_or z (cond (same_variable x x) (Some (1 + length seen)) None)) none ∙ ap (λ b. cond b (Some (1 + length seen)) None) (same_self x))
  placed_last missing q false same = sym (ap (λ b. option_or (position_from (same_variable q) 1 seen) (cond b (Some (1 + length seen)) None)) (same_turned q x ∙ same) ∙ or_none (position_from (same_variable q) 1 seen))
    where
      or_none : (o : Option ℕ) → option_or o None ≡ o
      or_none None = refl
      or_none (Some n) = refl

  placed : (there : Bool) → list_any (same_variable x) seen ≡ there → (q : Variable) (here : Bool) → same_variable x q ≡ here
      → cond here (Some (number_in seen x)) (position_from (same_variable q) 1 seen) ≡ position_from (same_variable q) 1 (if there then seen else seen ++ x ∷ [])
  placed true is q true same = subst (λ y. Some (number_in seen x) ≡ position_from (same_variable y) 1 seen) (same_is x q same) (place_of_new is)
  placed true is q false same = refl
  placed false is q here same = placed_last is q here same ∙ sym (place_behind (same_variable q) seen x 1)

  counted : (there : Bool) → list_any (same_variable x) seen ≡ there → length old.numbers.entries + (if there then 0 else 1) ≡ length (if there then seen else seen ++ x ∷ [])
  counted true is = plus_none _ ∙ numbered.count
  counted false is = ap (λ n. n + 1) numbered.count ∙ sym (length_push seen x)

  old_at : (q : Variable) → get cmp-value.it old.numbers q ≡ position_from (same_variable q) 1 seen
  old_at q = ap (λ test. lookup test old.numbers.entries) (test_is q) ∙ numbered.at q

  pub numbered_with : ((q : Variable) → get cmp-value.it new.numbers q ≡ cond (is_at (cmp-value.it x) q) (Some (number old x)) (get cmp-value.it old.numbers q))
      → btree_map_len new.numbers ≡ btree_map_len old.numbers + (if is_some (get cmp-value.it old.numbers x) then 0 else 1)
      → IsNumbered new (with_variable seen x)
  numbered_with updates len = record {
    count = len ∙ ap (λ b. length old.numbers.entries + (if b then 0 else 1)) (ap is_some (old_at x) ∙ is_there (same_variable x) seen 1) ∙ counted _ refl;
    at = λ q.
        sym (ap (λ test. lookup test new.numbers.entries) (test_is q))
        ∙ updates q
        ∙ ap (λ b. cond b (Some (number old x)) (get cmp-value.it old.numbers q)) (agrees x q)
        ∙ ap (λ n. cond (same_variable x q) (Some n) (get cmp-value.it old.numbers q)) (number_is old seen numbered x)
        ∙ ap (λ o. cond (same_variable x q) (Some (number_in seen x)) o) (old_at q)
        ∙ placed _ refl q _ refl;
  }

pub numbered_none : (names : Names) → names.numbers.entries ≡ [] → IsNumbered names []
numbered_none names none = record { count = ap length none; at = λ x. ap (lookup (same_variable x)) none }

-- ---- the text of a type, by the names of such a map
pub text_is : (names : Names) (found : List Variable) (t : Ty) (text : List ℕ) → ((x : Variable) → number names x ≡ number_in (firsts found) x) → found ≡ variables_of t → text ≡ written (name names) t → text ≡ type_text t
text_is names found t text numbers all is =
    is
    ∙ (λ i. written (λ x. name_of (numbers x i)) t)
    ∙ ap (λ xs. written (λ x. name_of (number_in (firsts xs) x)) t) all
