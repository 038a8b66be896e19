-- The SQL of queries and of changes is well formed.
use Rattle.std.proofs.Common.{◌≡◌, ℕ, ◌+◌, ◌==◌, ◌&&◌, if◌then◌else◌, Bool, true, false, List, [], ◌∷◌, length, map, Option, Some, None, refl, ◌∙◌, ap, ap₂, subst, unwrap_or}
use Rattle.std.specs.List.{list_all}
use Rattle.lk_sql.specs.Good.{are_distinct, is_good, is_there}
use Rattle.lk_sql.specs.declared.tree.Key.{Key}
use Rattle.lk_sql.specs.declared.tree.Out.{Out}
use Rattle.lk_sql.specs.declared.tree.Scalar.TheVariants as scalar
use Rattle.lk_query.specs.Captured.{bindings_from}
use Rattle.lk_query.specs.Kinds.{AreBasesIn, AreColumns, AreTyped, HasColumns, IsBaseIn, Kind, OfBase, OfList, OfRecord, change_kinds, kinds_from, labels_of}
use Rattle.lk_query.specs.Order.{AreOrdered}
use Rattle.lk_query.specs.declared.part.Labelled.{Labelled}
use Rattle.lk_query.specs.declared.query.Captured.{Captured}
use Rattle.lk_query.specs.declared.query.Captured.TheVariants as captured
use Rattle.lk_query.specs.declared.query.InlinedChange.{InlinedChange}
use Rattle.lk_norm.specs.Captured.{names_from, outputs_from}
use Rattle.lk_norm.specs.Law.{GoodChangeLaw, GoodLaw}
use Rattle.lk_norm.specs.Normal.{Names, Stands, always, as_base, as_row, columns_of, norms, output}
use Rattle.lk_norm.specs.Sql.{branches, change_names, query_names}
use Rattle.lk_norm.proofs.GoodForms.{good-Column, good-Param}
use Rattle.lk_norm.proofs.GoodParts.{AreGood, GoodAs, IsGood, good-always, good-labels, good-selects, norms-good}

-- ---- captured values

good-params : (k : ℕ) (labels : List (List ℕ)) → AreGood labels (outputs_from k labels)
good-params k [] = (refl, tt)
good-params k (label ∷ labels) = let rest = good-params (k + 1) labels in (ap (λ ls. label ∷ ls) rest.0, (good-Param k, rest.1))

none-is : {X : Type 0} {x : X} → None ≡ Some x → ⊥
none-is e = subst (λ o. elim o as (λ _. Type 0) [ None ↦ Unit {0} | Some _ ↦ ⊥ ]) e tt

-- one more name, of this kind
one-more : (n k : ℕ) (one kind : Kind) (a : Stands) (names : Names) (others : ℕ → Option Kind) → GoodAs one a → (others k ≡ Some kind → GoodAs kind (names k)) → (b : Bool)
    → (if b then Some one else others k) ≡ Some kind → GoodAs kind (if b then a else names k)
one-more n k one kind a names others good rest true e = subst (λ kind. GoodAs kind a) (ap (λ o. unwrap_or o one) e) good
one-more n k one kind a names others good rest false e = rest e

good-captured : (n first : ℕ) (values : List Captured) (k : ℕ) (kind : Kind) → kinds_from n values k ≡ Some kind → GoodAs kind (names_from first (bindings_from n values) k)
good-captured n first [] k kind e = absurd (none-is e)
good-captured n first (captured.Base base ∷ values) k kind e =
    one-more n k OfBase kind (as_base (λ scope. scalar.Param first)) (names_from (first + 1) (bindings_from (n + 1) values)) (kinds_from (n + 1) values) (λ m. good-Param first) (good-captured (n + 1) (first + 1) values k kind) (k == n) e
good-captured n first (captured.Row columns ∷ values) k kind e =
    one-more n k (OfRecord (labels_of columns)) kind (as_row (λ scope. outputs_from first (labels_of columns))) (names_from (first + length (labels_of columns)) (bindings_from (n + 1) values)) (kinds_from (n + 1) values)
    (λ m. good-params first (labels_of columns)) (good-captured (n + 1) (first + length (labels_of columns)) values k kind) (k == n) e

-- ---- queries

pub good : GoodLaw
good query kinds scopes ordered is =
    let columns : AreColumns (labels_of query.columns) = subst HasColumns is.root_is (is.typed.columns query.root) in
    let root : GoodAs (OfList (labels_of query.columns)) (norms query.parts query.root (query_names query.captured)) =
    subst (λ kind. GoodAs kind (norms query.parts query.root (query_names query.captured))) is.root_is
    (norms-good kinds scopes is.typed.columns query.parts ordered is.typed.each query.root is.root_there (query_names query.captured)
    (λ k s. good-captured 0 1 query.captured k (kinds k) (is.captures k s))) in
    let all = good-selects query.columns (branches query) columns (root 0 [] always good-always) in
    ap₂ (λ a b. a && b) all.0
    (ap₂ (λ a labels. a && list_all (λ (key : Key). is_there labels key.label) query.keys) is.distinct all.1
    ∙ is.sorted_by)

-- ---- changes

module _ (change : InlinedChange) (kinds : ℕ → Kind) (scopes : ℕ → ℕ → Bool) (ordered : AreOrdered change.parts) (typed : AreTyped kinds scopes change.parts) where
  names : Names
  names = change_names change.labels change.captured

  good-seen : (k : ℕ) (kind : Kind) → change_kinds change k ≡ Some kind → GoodAs kind (names k)
  unfolding names
  good-seen k kind e =
      one-more 0 k (OfRecord change.labels) kind (as_row (λ scope. columns_of 1 change.labels)) (names_from 1 (bindings_from 1 change.captured)) (kinds_from 1 change.captured)
      (λ m. good-labels (λ label. scalar.Column 1 label) change.labels (λ label. good-Column 1 label)) (good-captured 1 1 change.captured k kind) (k == 0) e

  good-part : (n : ℕ) → IsBaseIn kinds scopes change n → IsGood ((norms change.parts n names).base 1)
  good-part n is =
      subst (λ kind. GoodAs kind (norms change.parts n names)) is.is
      (norms-good kinds scopes typed.columns change.parts ordered typed.each n is.there names (λ k s. good-seen k (kinds k) (is.captures k s))) 1

  good-sets : (items : List Labelled) → AreBasesIn kinds scopes change items → list_all (λ (set : Out). is_good set.scalar) (map (λ (item : Labelled). output item.label ((norms change.parts item.part names).base 1)) items) ≡ true
  good-sets [] is = refl
  good-sets (item ∷ items) is = ap₂ (λ a b. a && b) (good-part item.part is.0) (good-sets items is.1)

  set-labels : (items : List Labelled) → map (λ (set : Out). set.label) (map (λ (item : Labelled). output item.label ((norms change.parts item.part names).base 1)) items) ≡ map (λ (item : Labelled). item.label) items
  set-labels [] = refl
  set-labels (item ∷ items) = ap (λ ls. item.label ∷ ls) (set-labels items)

pub good_change : GoodChangeLaw
unfolding names
good_change change kinds scopes ordered is =
    ap₂ (λ a b. a && b) (good-part change kinds scopes ordered is.typed change.cond is.tests)
    (ap₂ (λ a b. a && b) (ap are_distinct (set-labels change kinds scopes ordered is.typed change.sets) ∙ is.distinct) (good-sets change kinds scopes ordered is.typed change.sets is.becomes))
