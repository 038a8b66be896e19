-- The set of names in scope, as the sorted keys of the set that holds it.
use Rattle.std.proofs.Common.{rules, ◌≡◌, refl, sym, ap, subst, ◌∙◌, ℕ, Bool, true, false, not, ◌&&◌, ◌||◌, List, [], ◌∷◌, ◌++◌, map, cond}
use Rattle.std.specs.Prelude.{String, string_bytes}
use Rattle.std.specs.BTreeSet.{BTreeSet, Updates, UpdatesBy, contains_text}
use Rattle.std.specs.Cmp.Lexicographic.{slice_cmp}
use Rattle.std.proofs.lemmas.Cmp.{nat_list_cmp_total}
use Rattle.std.specs.FinSet as set
use Rattle.std.specs.FinSet.{nat_cmp-IsAntisymmetric, slice_cmp-IsAntisymmetric}
use Rattle.std.specs.List.{list_any}
use Rattle.std.specs.Ordering.{nat_cmp, eq_by_cmp}
use Rattle.std.specs.Str.{bytes_eq}
use Rattle.std.specs.String.{string_cmp}
use Rattle.std.proofs.lemmas.Map.Text.{btree_set_updates_text, is_eq-slice_cmp}
use Rattle.lk_scope.specs.Leaving.{without}
use Rattle.lk_scope.specs.Names.{Names}

list_any-map : {X Y : Type 0} (p : Y → Bool) (f : X → Y) (xs : List X) → list_any p (map f xs) ≡ list_any (λ x. p (f x)) xs
list_any-map p f [] = refl
list_any-map p f (x ∷ xs) = ap (λ b. p (f x) || b) (list_any-map p f xs)

-- the names that a set of strings holds
abbrev pub names_of : {Y : Type 0} → BTreeSet (String Y) → Names
names_of strings = set.from_list (map string_bytes strings.keys)

pub contains-names : {Y : Type 0} (strings : BTreeSet (String Y)) (x : List ℕ) → set.contains (names_of strings) x ≡ contains_text strings x
contains-names strings x = set.contains-from_list nat_list_cmp_total _ x ∙ list_any-map (eq_by_cmp (slice_cmp nat_cmp) x) string_bytes strings.keys

if_so : (a b c d : Bool) → a ≡ b → c ≡ d → (a || c) ≡ cond b true d
if_so true b c d p q = ap (λ x. cond x true d) p
if_so false b c d p q = q ∙ ap (λ x. cond x true d) p

abbrev alone : {names others : Names} → ((x : List ℕ) → set.contains names x ≡ set.contains others x) → names ≡ others
alone is = set.same_set nat_list_cmp_total (slice_cmp-IsAntisymmetric nat_cmp-IsAntisymmetric) _ _ is

bytes_eq-swapped : (xs ys : List ℕ) → bytes_eq xs ys ≡ bytes_eq ys xs
bytes_eq-swapped xs ys = search rules

bytes_same : (xs ys : List ℕ) → bytes_eq xs ys ≡ true → xs ≡ ys
bytes_same xs ys same = search rules

-- one key more
pub names-insert : {Y : Type 0} (old new : BTreeSet (String Y)) (x : String Y) → Updates string_cmp old new x true → names_of new ≡ set.insert (names_of old) (string_bytes x)
names-insert old new x updates = alone (λ q.
    contains-names new q
    ∙ btree_set_updates_text (string_bytes x) old new true updates q
    ∙ sym (set.contains-insert nat_list_cmp_total (names_of old) (string_bytes x) q ∙ if_so _ _ _ _ (is_eq-slice_cmp q (string_bytes x) ∙ bytes_eq-swapped q (string_bytes x)) (contains-names old q)))

if_not : (a b c d : Bool) → a ≡ b → c ≡ d → (not a && c) ≡ cond b false d
if_not true b c d p q = ap (λ x. cond x false d) p
if_not false b c d p q = q ∙ ap (λ x. cond x false d) p

-- one key less
pub names-remove : {Y : Type 0} (old new : BTreeSet (String Y)) (x : List ℕ) → UpdatesBy string_cmp (λ k. slice_cmp nat_cmp x (string_bytes k)) old new false → names_of new ≡ set.remove (names_of old) x
names-remove old new x updates = alone (λ q.
    contains-names new q
    ∙ btree_set_updates_text x old new false updates q
    ∙ sym (set.contains-remove nat_list_cmp_total (names_of old) x q ∙ if_not _ _ _ _ (is_eq-slice_cmp q x ∙ bytes_eq-swapped q x) (contains-names old q)))

-- what was put in and is taken out again leaves nothing, where it wasn't there
apart : (a c : Bool) → (a ≡ true → c ≡ false) → (not a && (a || c)) ≡ c
apart true c none = sym (none refl)
apart false c none = refl

found : (names : Names) (x q : List ℕ) → set.contains names x ≡ false → eq_by_cmp (slice_cmp nat_cmp) q x ≡ true → set.contains names q ≡ false
found names x q none same = subst (λ y. set.contains names y ≡ false) (sym (bytes_same q x (sym (is_eq-slice_cmp q x) ∙ same))) none

pub remove-insert : (names : Names) (x : List ℕ) → set.contains names x ≡ false → set.remove (set.insert names x) x ≡ names
remove-insert names x none = alone (λ q.
    set.contains-remove nat_list_cmp_total _ x q
    ∙ ap (λ b. not (eq_by_cmp (slice_cmp nat_cmp) q x) && b) (set.contains-insert nat_list_cmp_total names x q)
    ∙ apart (eq_by_cmp (slice_cmp nat_cmp) q x) (set.contains names q) (found names x q none))

-- the last name goes first
pub without-last : (noted : List (List ℕ)) (x : List ℕ) (names : Names) → without (noted ++ x ∷ []) names ≡ without noted (set.remove names x)
without-last [] x names = refl
without-last (y ∷ noted) x names = ap (λ n. set.remove n y) (without-last noted x names)

-- a new name is noted
pub note-new : (noted : List (List ℕ)) (x : List ℕ) (names : Names) → set.contains names x ≡ false → without (noted ++ x ∷ []) (set.insert names x) ≡ without noted names
note-new noted x names none = without-last noted x _ ∙ ap (without noted) (remove-insert names x none)

-- a name that is there already changes nothing
pub insert-again : (names : Names) (x : List ℕ) → set.contains names x ≡ true → set.insert names x ≡ names
insert-again names x there = alone (λ q. set.contains-insert nat_list_cmp_total names x q ∙ with_it (eq_by_cmp (slice_cmp nat_cmp) q x) (set.contains names q) (there_too q))
  where
    with_it : (a c : Bool) → (a ≡ true → c ≡ true) → (a || c) ≡ c
    with_it true c is = sym (is refl)
    with_it false c is = refl

    there_too : (q : List ℕ) → eq_by_cmp (slice_cmp nat_cmp) q x ≡ true → set.contains names q ≡ true
    there_too q same = subst (λ y. set.contains names y ≡ true) (sym (bytes_same q x (sym (is_eq-slice_cmp q x) ∙ same))) there
