-- A query whose parts have kinds: `for (x <-- t) where (x.n == m) [x]`, over a table with the column n, where m is captured.
use Rattle.std.proofs.Common.{◌≡◌, ◌≢◌, ℕ, zero, suc, ◌+◌, ◌==◌, ◌||◌, Bool, true, false, List, [], ◌∷◌, Some, None, codes, slice_get, get_or, refl, sym, ◌∙◌, ap, subst, arith, true≢false, unwrap_or}
use Rattle.std.specs.List.{list_any}
use Rattle.std.proofs.lemmas.Bool.{eqb-true}
use Rattle.lk_ast.specs.declared.table.BaseKind.TheVariants as base_kind
use Rattle.lk_sql.specs.declared.tree.SqlOp.TheVariants as op
use Rattle.lk_query.specs.Kinds.{HasColumns, Is, IsTyped, Kind, OfBase, OfList, OfRecord, kinds_from}
use Rattle.lk_query.specs.declared.part.Part.{Part}
use Rattle.lk_query.specs.declared.part.Part.TheVariants as part
use Rattle.lk_query.specs.declared.query.Captured.TheVariants as captured
use Rattle.lk_query.specs.declared.query.Query.{Query}

-- ---- parts in a list, one after the other

module _ (kinds : ℕ → Kind) (scopes : ℕ → ℕ → Bool) where
  abbrev pub TypedFrom : ℕ → List Part → Type 0
  TypedFrom n [] = Unit {0}
  TypedFrom n (x ∷ parts) = Is kinds scopes n x (kinds n) × TypedFrom (n + 1) parts

  none-is : {X : Type 0} {x : X} → None ≡ Some x → ⊥
  none-is e = subst (λ o. elim o as (λ _. Type 0) [ None ↦ Unit {0} | Some _ ↦ ⊥ ]) e tt

  typed-at : (n : ℕ) (parts : List Part) → TypedFrom n parts → (k : ℕ) (x : Part) → slice_get parts k ≡ Some x → Is kinds scopes (n + k) x (kinds (n + k))
  typed-at n [] all k x e = absurd (none-is e)
  typed-at n (y ∷ parts) all zero x e = subst (λ m. Is kinds scopes m x (kinds m)) (omega arith) (subst (λ z. Is kinds scopes n z (kinds n)) (ap (λ o. unwrap_or o y) e) all.0)
  typed-at n (y ∷ parts) all (suc k) x e = subst (λ m. Is kinds scopes m x (kinds m)) (omega arith) (typed-at (n + 1) parts all.1 k x e)

  -- all parts, from the first one
  pub typed-all : (parts : List Part) → TypedFrom 0 parts → (k : ℕ) (x : Part) → slice_get parts k ≡ Some x → Is kinds scopes k x (kinds k)
  typed-all parts all k x e = subst (λ m. Is kinds scopes m x (kinds m)) (omega arith) (typed-at 0 parts all k x e)

-- ---- the query

abbrev pub n : List ℕ
n = codes "n"

abbrev pub labels : List (List ℕ)
labels = n ∷ []

abbrev pub sample : Query
sample = record {
  parts =
      part.Bound
      ∷ part.Table (codes "t") labels
      ∷ part.Bound
      ∷ part.Project 2 n
      ∷ part.Two op.Eq 3 0
      ∷ part.Items (2 ∷ [])
      ∷ part.Where 4 5
      ∷ part.ForList 1 2 6
      ∷ [];
  root = 7;
  captured = captured.Base base_kind.Int ∷ [];
  columns = record { label = n; kind = base_kind.Int } ∷ [];
  keys = record { label = n; desc = true } ∷ [];
}

abbrev pub kind_list : List Kind
kind_list = OfBase ∷ OfList labels ∷ OfRecord labels ∷ OfBase ∷ OfBase ∷ OfList labels ∷ OfList labels ∷ OfList labels ∷ []

abbrev pub kinds : ℕ → Kind
kinds k = get_or kind_list k OfBase

abbrev pub scope_list : List (List ℕ)
scope_list = (0 ∷ []) ∷ [] ∷ (2 ∷ []) ∷ (2 ∷ []) ∷ (2 ∷ 0 ∷ []) ∷ (2 ∷ []) ∷ (2 ∷ 0 ∷ []) ∷ (0 ∷ []) ∷ []

abbrev pub scopes : ℕ → ℕ → Bool
scopes m k = list_any (λ j. k == j) (get_or scope_list m [])

abbrev AllColumns : List Kind → Type 0
AllColumns [] = Unit {0}
AllColumns (kind ∷ kinds) = HasColumns kind × AllColumns kinds

all-columns : (kinds : List Kind) → AllColumns kinds → (k : ℕ) → HasColumns (get_or kinds k OfBase)
all-columns [] all k = tt
all-columns (kind ∷ kinds) all zero = all.0
all-columns (kind ∷ kinds) all (suc k) = all-columns kinds all.1 k

-- what is in the first list is in the second
first : (a b : Bool) → a || false ≡ true → a || (b || false) ≡ true
first true b e = refl
first false b e = absurd (true≢false (sym e))

second : (a b : Bool) → b || false ≡ true → a || (b || false) ≡ true
second true b e = refl
second false b e = e

-- what is not x is the other one
other : (k x y : ℕ) → (k == x) || ((k == y) || false) ≡ true → k ≢ x → (k == y) || false ≡ true
other k x y e apart = by_test (k == x) refl e
  where
    by_test : (b : Bool) → k == x ≡ b → b || ((k == y) || false) ≡ true → (k == y) || false ≡ true
    by_test true is e = absurd (apart (eqb-true k x is))
    by_test false is e = e

pub sample-typed : IsTyped kinds scopes sample
sample-typed = record {
  typed = record {
    columns = all-columns kind_list (tt, (refl, (tt, (tt, (tt, (refl, (refl, (refl, tt))))))));
    each = typed-all kinds scopes sample.parts (
      (tt, refl),
      (
        refl,
        (
          (tt, refl),
          (
            (refl, (labels, (refl, λ k e. e))),
            (
              (refl, refl, (refl, λ k e. first (k == 2) (k == 0) e), (refl, λ k e. second (k == 2) (k == 0) e)),
              (
                (labels, refl, ((refl, λ k e. e), tt)),
                (
                  (tt, (refl, λ k e. e), (refl, λ k e. first (k == 2) (k == 0) e)),
                  (
                    (tt, (labels, (refl, λ k e. absurd (true≢false (sym e))), refl, (refl, λ k e apart. other k 2 0 e apart))),
                    tt,
                  ),
                ),
              ),
            ),
          ),
        ),
      ),
    );
  };
  root_there = omega arith;
  root_is = refl;
  captures = λ k e. ap (λ k. kinds_from 0 sample.captured k) (zero-only k e) ∙ ap (λ k. Some (kinds k)) (sym (zero-only k e));
  distinct = refl;
  sorted_by = refl;
}
  where
    zero-only : (k : ℕ) → (k == 0) || false ≡ true → k ≡ 0
    zero-only k e = by_test (k == 0) refl e
      where
        by_test : (b : Bool) → k == 0 ≡ b → b || false ≡ true → k ≡ 0
        by_test true is e = eqb-true k 0 is
        by_test false is e = absurd (true≢false (sym e))
