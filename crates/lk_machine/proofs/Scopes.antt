-- Names with their values, in a map by their numbers.
use Rattle.std.proofs.Common.{◌≡◌, refl, sym, ap, ◌∙◌, ℕ, Bool, true, false, cond, ◌==◌, List, [], ◌∷◌, Option, Some, None}
use Rattle.std.proofs.lemmas.Bool.{eqb-true}
use Rattle.std.proofs.lemmas.Cmp.{eq_by_cmp_equiv, nat_cmp_total}
use Rattle.std.specs.BTreeMap as tree
use Rattle.std.specs.BTreeMap.{BTreeMap, Updates, is_at}
use Rattle.std.specs.Cmp.{unsigned_tied}
use Rattle.std.specs.FinMap as finite
use Rattle.std.specs.FinMap.{find}
use Rattle.std.specs.Map.{lookup as found}
use Rattle.std.specs.Option.{option_map_or, option_or}
use Rattle.std.specs.Prelude.{◌||◌}
use Rattle.std.specs.Ordering.{eq_by_cmp, nat_cmp}
use Rattle.lk_ast.specs.declared.value.Value.{Value}
use Rattle.lk_ir.proofs.Lookups.{bound, only_lookup, same_names}
use Rattle.lk_ir.specs.Continuing.{is_among, only}
use Rattle.lk_ir.specs.Environments.{Env, bind, bind_each, lookup, no_names}

-- ---- the map

abbrev pub names_in : BTreeMap ℕ Value → Env
names_in m = finite.from_entries m.entries

find-found : (x : ℕ) (es : List (ℕ × Value)) → find nat_cmp x es ≡ found (is_at (nat_cmp x)) es
find-found x [] = refl
find-found x (e ∷ es) = ap (cond (eq_by_cmp nat_cmp x e.0) (Some e.1)) (find-found x es)

pub lookup-names_in : (m : BTreeMap ℕ Value) (x : ℕ) → lookup (names_in m) x ≡ tree.get nat_cmp m x
lookup-names_in m x = finite.get-from_entries nat_cmp_total m.entries x ∙ find-found x m.entries

swapped : (x q : ℕ) (o : Option Value) (m : BTreeMap ℕ Value) → cond (is_at (nat_cmp x) q) o (tree.get nat_cmp m q) ≡ cond (eq_by_cmp nat_cmp q x) o (lookup (names_in m) q)
swapped x q o m = ap (λ b. cond b o (tree.get nat_cmp m q)) ((eq_by_cmp_equiv nat_cmp_total).symm x q) ∙ ap (cond (eq_by_cmp nat_cmp q x) o) (sym (lookup-names_in m q))

pub put_there : (old new : BTreeMap ℕ Value) (x : ℕ) (v : Value) → Updates nat_cmp old new x (Some v) → names_in new ≡ bind x v (names_in old)
put_there old new x v updates = same_names _ _ (λ q. lookup-names_in new q ∙ updates.0 q ∙ swapped x q (Some v) old ∙ sym (finite.get-insert nat_cmp_total (names_in old) x v q))

pub taken_out : (old new : BTreeMap ℕ Value) (x : ℕ) → Updates nat_cmp old new x None → names_in new ≡ finite.remove (names_in old) x
taken_out old new x updates = same_names _ _ (λ q. lookup-names_in new q ∙ updates.0 q ∙ swapped x q None old ∙ sym (finite.get-remove nat_cmp_total (names_in old) x q))

-- ---- values under names

-- where no value is left, no other name has one
pub unnamed : (names : Env) (xs : List ℕ) → bind_each names xs [] ≡ names
unnamed names [] = refl
unnamed names (x ∷ xs) = refl

-- ---- some of the names

abbrev pub bind_found : ℕ → Option Value → Env → Env
bind_found x o names = option_map_or (λ v. bind x v names) o names

-- these names taken out of some and put to others, one by one
abbrev pub moved : Env → Env → List ℕ → Env
moved kept left [] = kept
moved kept left (x ∷ xs) = moved (bind_found x (lookup left x) kept) (finite.remove left x) xs

found_bound : (x : ℕ) (o : Option Value) (kept : Env) (q : ℕ) → lookup (bind_found x o kept) q ≡ cond (x == q) (option_or o (lookup kept q)) (lookup kept q)
found_bound x None kept q = same_both (x == q) (lookup kept q)
  where
    same_both : (b : Bool) (p : Option Value) → p ≡ cond b p p
    same_both true p = refl
    same_both false p = refl
found_bound x (Some v) kept q = bound x v kept q

left_over : (x : ℕ) (left : Env) (q : ℕ) → lookup (finite.remove left x) q ≡ cond (x == q) None (lookup left q)
left_over x left q = finite.get-remove nat_cmp_total left x q ∙ ap (λ b. cond b None (lookup left q)) ((eq_by_cmp_equiv nat_cmp_total).symm q x ∙ unsigned_tied x q)

moved_lookup : (kept left : Env) (xs : List ℕ) (q : ℕ) → lookup (moved kept left xs) q ≡ cond (is_among xs q) (option_or (lookup left q) (lookup kept q)) (lookup kept q)
moved_lookup kept left [] q = refl
moved_lookup kept left (x ∷ xs) q =
    moved_lookup (bind_found x (lookup left x) kept) (finite.remove left x) xs q
    ∙ ap (λ o. cond (is_among xs q) (option_or o (lookup (bind_found x (lookup left x) kept) q)) (lookup (bind_found x (lookup left x) kept) q)) (left_over x left q)
    ∙ ap (λ o. cond (is_among xs q) (option_or (cond (x == q) None (lookup left q)) o) o) (found_bound x (lookup left x) kept q)
    ∙ by_test (x == q) refl (is_among xs q)
  where
    by_test : (b : Bool) → (x == q) ≡ b → (a : Bool)
        → cond a (option_or (cond b None (lookup left q)) (cond b (option_or (lookup left x) (lookup kept q)) (lookup kept q))) (cond b (option_or (lookup left x) (lookup kept q)) (lookup kept q))
        ≡ cond (b || a) (option_or (lookup left q) (lookup kept q)) (lookup kept q)
    by_test true same true = ap (λ y. option_or (lookup left y) (lookup kept q)) (eqb-true x q same)
    by_test true same false = ap (λ y. option_or (lookup left y) (lookup kept q)) (eqb-true x q same)
    by_test false other true = refl
    by_test false other false = refl

or_none : (o : Option Value) → option_or o None ≡ o
or_none None = refl
or_none (Some v) = refl

pub moved_only : (xs : List ℕ) (names : Env) → moved no_names names xs ≡ only xs names
moved_only xs names = same_names _ _ (λ q.
    moved_lookup no_names names xs q
    ∙ ap (λ o. cond (is_among xs q) (option_or (lookup names q) o) o) (finite.get-empty nat_cmp q)
    ∙ ap (λ o. cond (is_among xs q) o None) (or_none (lookup names q))
    ∙ sym (only_lookup xs names q))
