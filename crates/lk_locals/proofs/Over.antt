-- Names in layers.
use Rattle.std.proofs.Common.{rules, ◌≡◌, refl, sym, ap, ◌∙◌, ℕ, Bool, true, false, cond, List, [], ◌∷◌, ◌++◌, length, map, Option, Some, None, arith}
use Rattle.std.proofs.lemmas.Cmp.{nat_list_cmp_total}
use Rattle.std.proofs.lemmas.Grind.{fold-append}
use Rattle.std.proofs.lemmas.Map.Text.{btree_map_updates_str, is_eq-slice_cmp}
use Rattle.std.specs.BTreeMap.{BTreeMap, UpdatesBy, get_by, is_at}
use Rattle.std.specs.Cmp.Lexicographic.{slice_cmp}
use Rattle.std.specs.FinMap as finite
use Rattle.std.specs.FinMap.{find, slice_cmp-IsAntisymmetric, nat_cmp-IsAntisymmetric}
use Rattle.std.specs.Map.{lookup as found}
use Rattle.std.specs.Option.{option_or}
use Rattle.std.specs.Ordering.{nat_cmp, eq_by_cmp}
use Rattle.std.specs.Str.{bytes_eq}
use Rattle.lk_ast.specs.declared.value.Value.{Value}
use Rattle.lk_locals.specs.Layers.{over, layered}
use Rattle.lk_locals.specs.Names.{Names, bind, bind_each, lookup, no_names}
use denote.Ref.{Bor}

-- two environments with the same value at each name are equal
alike : {names others : Names} → ((x : List ℕ) → lookup names x ≡ lookup others x) → names ≡ others
alike is = finite.same_map nat_list_cmp_total (slice_cmp-IsAntisymmetric nat_cmp-IsAntisymmetric) _ _ is

-- the names of one layer
abbrev pub names_in : BTreeMap (Bor (List ℕ)) Value → Names
names_in entries = finite.from_entries (map (λ e. (e.0.now, e.1)) entries.entries)

find-keyed : (x : List ℕ) (es : List (Bor (List ℕ) × Value)) → find (slice_cmp nat_cmp) x (map (λ e. (e.0.now, e.1)) es) ≡ found (is_at (λ k. slice_cmp nat_cmp x k.now)) es
find-keyed x [] = refl
find-keyed x (e ∷ es) = ap (cond (eq_by_cmp (slice_cmp nat_cmp) x e.0.now) (Some e.1)) (find-keyed x es)

pub lookup-names_in : (m : BTreeMap (Bor (List ℕ)) Value) (x : List ℕ) → lookup (names_in m) x ≡ get_by (λ k. slice_cmp nat_cmp x k.now) m
lookup-names_in m x = finite.get-from_entries nat_list_cmp_total _ x ∙ find-keyed x m.entries

bytes_eq-swapped : (xs ys : List ℕ) → bytes_eq xs ys ≡ bytes_eq ys xs
bytes_eq-swapped xs ys = search rules

pub names_in-bind : (old new : BTreeMap (Bor (List ℕ)) Value) (x : List ℕ) (v : Value) → UpdatesBy (λ j k. slice_cmp nat_cmp j.now k.now) (λ k. slice_cmp nat_cmp x k.now) old new (Some v) → names_in new ≡ bind x v (names_in old)
names_in-bind old new x v updates = alike (λ q.
    lookup-names_in new q
    ∙ btree_map_updates_str x old new (Some v) updates q
    ∙ ap (λ b. cond b (Some v) (get_by (λ k. slice_cmp nat_cmp q k.now) old)) (bytes_eq-swapped x q ∙ sym (is_eq-slice_cmp q x))
    ∙ ap (cond (eq_by_cmp (slice_cmp nat_cmp) q x) (Some v)) (sym (lookup-names_in old q))
    ∙ sym (finite.get-insert nat_list_cmp_total (names_in old) x v q))

-- ---- a layer over others

some_or : (b : Bool) (v : Value) (p q : Option Value) → cond b (Some v) (option_or p q) ≡ option_or (cond b (Some v) p) q
some_or true v p q = refl
some_or false v p q = refl

find-append : (x : List ℕ) (es fs : List (List ℕ × Value)) → find (slice_cmp nat_cmp) x (es ++ fs) ≡ option_or (find (slice_cmp nat_cmp) x es) (find (slice_cmp nat_cmp) x fs)
find-append x [] fs = refl
find-append x (e ∷ es) fs = ap (cond (eq_by_cmp (slice_cmp nat_cmp) x e.0) (Some e.1)) (find-append x es fs) ∙ some_or (eq_by_cmp (slice_cmp nat_cmp) x e.0) e.1 _ _

-- the inner value of a name, or else the outer one
pub lookup-over : (outer inner : Names) (x : List ℕ) → lookup (over outer inner) x ≡ option_or (lookup inner x) (lookup outer x)
lookup-over outer inner x =
    finite.get-from_entries nat_list_cmp_total _ x
    ∙ find-append x (finite.entries inner) (finite.entries outer)
    ∙ ap (λ p. option_or p (find (slice_cmp nat_cmp) x (finite.entries outer))) (sym (finite.get-entries inner x))
    ∙ ap (option_or (lookup inner x)) (sym (finite.get-entries outer x))

pub over-bind : (outer inner : Names) (x : List ℕ) (v : Value) → over outer (bind x v inner) ≡ bind x v (over outer inner)
over-bind outer inner x v = alike (λ q.
    lookup-over outer (bind x v inner) q
    ∙ ap (λ p. option_or p (lookup outer q)) (finite.get-insert nat_list_cmp_total inner x v q)
    ∙ sym (some_or (eq_by_cmp (slice_cmp nat_cmp) q x) v (lookup inner q) (lookup outer q))
    ∙ ap (cond (eq_by_cmp (slice_cmp nat_cmp) q x) (Some v)) (sym (lookup-over outer inner q))
    ∙ sym (finite.get-insert nat_list_cmp_total (over outer inner) x v q))

pub over-none : (outer : Names) → over outer no_names ≡ outer
over-none outer = alike (λ q. lookup-over outer no_names q ∙ ap (λ p. option_or p (lookup outer q)) (finite.get-empty (slice_cmp nat_cmp) q))

-- the last layer is the innermost
pub layered-last : (layers : List Names) (inner : Names) → layered (layers ++ inner ∷ []) ≡ over (layered layers) inner
layered-last layers inner = fold-append over no_names layers (inner ∷ [])

-- ---- a name searched from the innermost layer on

lookup-last : (outer : List Names) (inner : Names) (x : List ℕ) → lookup (layered (outer ++ inner ∷ [])) x ≡ option_or (lookup inner x) (lookup (layered outer) x)
lookup-last outer inner x = ap (λ names. lookup names x) (layered-last outer inner) ∙ lookup-over (layered outer) inner x

pub value_there : (layers outer : List Names) (inner : Names) (x : List ℕ) (v : Value) → layers ≡ outer ++ inner ∷ [] → Some v ≡ lookup inner x → Some v ≡ lookup (layered layers) x
value_there layers outer inner x v are is = ap (λ p. option_or p (lookup (layered outer) x)) is ∙ sym (lookup-last outer inner x) ∙ ap (λ ls. lookup (layered ls) x) (sym are)

pub none_there : (layers outer : List Names) (inner : Names) (x : List ℕ) → layers ≡ outer ++ inner ∷ [] → None ≡ lookup inner x → lookup (layered outer) x ≡ lookup (layered layers) x
none_there layers outer inner x are is = ap (λ p. option_or p (lookup (layered outer) x)) is ∙ sym (lookup-last outer inner x) ∙ ap (λ ls. lookup (layered ls) x) (sym are)

pub none_left : (layers : List Names) (x : List ℕ) → length layers ≡ 0 → None ≡ lookup (layered layers) x
none_left [] x e = sym (finite.get-empty (slice_cmp nat_cmp) x)
none_left (l ∷ layers) x e = absurd (omega (arith, e))

-- where no value is left, no other name has one
pub unnamed : (names : Names) (xs : List (List ℕ)) → bind_each names xs [] ≡ names
unnamed names [] = refl
unnamed names (x ∷ xs) = refl
