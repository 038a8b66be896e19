-- Tables that go into a map in byte order of their names.
use Rattle.std.proofs.Common.{◌≡◌, ℕ, List, [], ◌∷◌, ◌++◌, map, String, string_bytes, string_cmp, Less, Greater, refl, sym, ap, ◌∙◌, subst, append_assoc}
use Rattle.std.specs.BTreeMap.{insert_entry}
use Rattle.std.specs.Cmp.Lexicographic.{slice_cmp, nat_list_cmp_total}
use Rattle.std.specs.List.{AllByRecursion}
use Rattle.std.specs.List.Sorted.{IsStrictlySortedBy}
use Rattle.std.specs.Ordering.{nat_cmp, match_ordering, ordering_reverse}
use Rattle.lk_ast.specs.declared.table.Row.{Row}
use Rattle.lk_ast.specs.declared.table.TableRows.{TableRows}
use Rattle.lk_store.specs.Listed.{shown}

-- a name is below each of these tables' names
abbrev IsBelow : List ℕ → List TableRows → Type 0
IsBelow name [] = Unit {0}
IsBelow name (table ∷ tables) = (slice_cmp nat_cmp name table.name ≡ Less) × IsBelow name tables

-- the names ascend
abbrev Ascend : List TableRows → Type 0
Ascend [] = Unit {0}
Ascend (table ∷ tables) = IsBelow table.name tables × Ascend tables

below_shown : {A : Type 0} (key : String A) (es : List (String A × List Row)) → AllByRecursion (λ k. string_cmp key k ≡ Less) (map (λ e. e.0) es) → IsBelow (string_bytes key) (map shown es)
below_shown key [] below = tt
below_shown key (e ∷ es) below = (below.0, below_shown key es below.1)

ascend_shown : {A : Type 0} (es : List (String A × List Row)) → IsStrictlySortedBy string_cmp (map (λ e. e.0) es) → Ascend (map shown es)
unfolding IsStrictlySortedBy
ascend_shown [] sorted = tt
ascend_shown (e ∷ es) sorted = (below_shown e.0 es sorted.0, ascend_shown es sorted.1)

below_later : (name : List ℕ) (front : List TableRows) (table : TableRows) (rest : List TableRows) → IsBelow name (front ++ table ∷ rest) → slice_cmp nat_cmp name table.name ≡ Less
below_later name [] table rest below = below.0
below_later name (first ∷ front) table rest below = below_later name front table rest below.1

-- a table whose name is above all others goes to the end
put_last : {A : Type 0} (es : List (String A × List Row)) (key : String A) (rows : List Row) (table : TableRows) (rest : List TableRows)
    → table ≡ shown (key, rows) → Ascend (map shown es ++ table ∷ rest) → map shown (insert_entry string_cmp es key rows) ≡ map shown es ++ table ∷ []
put_last [] key rows table rest is ascend = ap (λ t. t ∷ []) (sym is)
put_last (e ∷ es) key rows table rest is ascend =
    let named : string_bytes key ≡ table.name = ap (λ (t : TableRows). t.name) (sym is) in
    let below : slice_cmp nat_cmp (string_bytes e.0) (string_bytes key) ≡ Less = ap (slice_cmp nat_cmp (string_bytes e.0)) named ∙ below_later (string_bytes e.0) (map shown es) table rest ascend.0 in
    let above : string_cmp key e.0 ≡ Greater = nat_list_cmp_total.antisymm (string_bytes key) (string_bytes e.0) ∙ ap ordering_reverse below in
    ap (λ o. map shown (match_ordering o ((key, rows) ∷ e ∷ es) ((e.0, rows) ∷ es) (e ∷ insert_entry string_cmp es key rows))) above
    ∙ ap (λ tables. shown e ∷ tables) (put_last es key rows table rest is ascend.1)

-- one more table is copied
pub one_more : {A : Type 0} (all copies after left next : List (String A × List Row)) (key name : String A) (rows there : List Row)
    → IsStrictlySortedBy string_cmp (map (λ e. e.0) all) → map shown copies ++ map shown left ≡ map shown all → left ≡ (name, there) ∷ next → after ≡ insert_entry string_cmp copies key rows
    → string_bytes key ≡ string_bytes name → rows ≡ there → map shown after ++ map shown next ≡ map shown all
one_more all copies after left next key name rows there sorted whole first put named copied =
    let table = shown (name, there) in
    let parts : map shown copies ++ table ∷ map shown next ≡ map shown all = ap (λ es. map shown copies ++ map shown es) (sym first) ∙ whole in
    let is : table ≡ shown (key, rows) = λ i. record { name = sym named i; rows = sym copied i } in
    ap (λ es. map shown es ++ map shown next) put
    ∙ ap (λ tables. tables ++ map shown next) (put_last copies key rows table (map shown next) is (subst Ascend (sym parts) (ascend_shown all sorted)))
    ∙ append_assoc (map shown copies) (table ∷ []) (map shown next)
    ∙ parts
