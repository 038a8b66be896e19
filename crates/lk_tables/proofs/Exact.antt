-- What is printed holds no float, and nests three levels deep at most.
use Rattle.std.proofs.Common.{◌≡◌, ◌≤◌, ℕ, suc, List, [], ◌∷◌, map, fold, false, Ordering, Less, Equal, Greater, pos, negsuc, All, get_or, refl, sym, subst, arith}
use Rattle.std.specs.Prelude.{⊤}
use Rattle.std.specs.List.{AllZip}
use Rattle.std.proofs.lemmas.List.Elements.{All-map, All-tail}
use Rattle.std.proofs.lemmas.List.Sorted.{All-permutation}
use Rattle.std.specs.Ordering.{nat_cmp, match_ordering}
use Rattle.std.specs.Cmp.Lexicographic.{slice_cmp}
use Rattle.std.proofs.lemmas.Bool.{or_from}
use Rattle.serde_json.specs.Data.{Data, array, Members, no_members, member, put, depth, items_depth, members_depth}
use Rattle.serde_json.specs.Written.{has_float, items_have_float, members_have_float}
use Rattle.serde_json.specs.View.{items_of}
use Rattle.lk_ast.specs.JsonText.{Entry, base_data, members_of}
use Rattle.lk_ast.specs.declared.table.Base.{Base}
use Rattle.lk_ast.specs.declared.table.Base.TheVariants.{Int, Bool as Truth, Text}
use Rattle.lk_ast.specs.declared.table.Cell.{Cell}
use Rattle.lk_ast.specs.declared.table.Row.{Row}
use Rattle.lk_ast.specs.declared.table.TableRows.{TableRows}
use Rattle.lk_tables.proofs.Puts.{left_false, right_false}
use Rattle.lk_tables.specs.Printing.{IsPrinted, IsTableEntry, cell_entry, row_data}

-- no float stands in it, and it nests at most so deep
pub record IsFlat (n : ℕ) (d : Data) : Type 0 where
  pub exact : has_float d ≡ false
  pub low : depth d ≤ n

pub record AreFlat (n : ℕ) (ms : Members) : Type 0 where
  pub exact : members_have_float ms ≡ false
  pub low : members_depth ms ≤ n

chosen : (n : ℕ) (o : Ordering) (a b c : Members) → AreFlat n a → AreFlat n b → AreFlat n c → AreFlat n (match_ordering o a b c)
chosen n Less a b c p q r = p
chosen n Equal a b c p q r = q
chosen n Greater a b c p q r = r

flat_cons : (n : ℕ) (k : List ℕ) (d : Data) (ms : Members) → IsFlat n d → AreFlat n ms → AreFlat n (member k d ms)
flat_cons n k d ms p q = record { exact = or_from _ _ p.exact q.exact; low = omega (arith, p.low, q.low) }

flat_first : (n : ℕ) (k : List ℕ) (d : Data) (ms : Members) → AreFlat n (member k d ms) → IsFlat n d
flat_first n k d ms p = record { exact = left_false _ _ p.exact; low = omega (arith, p.low) }

flat_rest : (n : ℕ) (k : List ℕ) (d : Data) (ms : Members) → AreFlat n (member k d ms) → AreFlat n ms
flat_rest n k d ms p = record { exact = right_false (has_float d) _ p.exact; low = omega (arith, p.low) }

put-flat : (n : ℕ) (k : List ℕ) (d : Data) (ms : Members) → IsFlat n d → AreFlat n ms → AreFlat n (put k d ms)
put-flat n k d no_members p q = flat_cons n k d no_members p q
put-flat n k d (member l e ms) p q =
    chosen n (slice_cmp nat_cmp k l) _ _ _ (flat_cons n k d _ p q) (flat_cons n l d ms p (flat_rest n l e ms q))
    (flat_cons n l e _ (flat_first n l e ms q) (put-flat n k d ms p (flat_rest n l e ms q)))

-- each entry's value
abbrev pub EachFlat : ℕ → List Entry → Type 0
EachFlat n [] = ⊤
EachFlat n (e ∷ es) = IsFlat n e.1 × EachFlat n es

put_all : (n : ℕ) (ms : Members) (es : List Entry) → AreFlat n ms → EachFlat n es → AreFlat n (fold (λ members entry. put entry.0 entry.1 members) ms es)
put_all n ms [] p q = p
put_all n ms (e ∷ es) p q = put_all n (put e.0 e.1 ms) es (put-flat n e.0 e.1 ms q.0 p) q.1

pub members_flat : (n : ℕ) (es : List Entry) → EachFlat n es → AreFlat n (members_of es)
members_flat n es q = put_all n no_members es (record { exact = refl; low = omega arith }) q

base-flat : (b : Base) → IsFlat 0 (base_data b)
base-flat (Int (pos n)) = record { exact = refl; low = omega arith }
base-flat (Int (negsuc n)) = record { exact = refl; low = omega arith }
base-flat (Truth b) = record { exact = refl; low = omega arith }
base-flat (Text t) = record { exact = refl; low = omega arith }

cells-flat : (cells : List Cell) → EachFlat 0 (map cell_entry cells)
cells-flat [] = tt
cells-flat (cell ∷ cells) = (base-flat cell.value, cells-flat cells)

pub row-flat : (row : Row) → IsFlat 1 (row_data row)
row-flat row =
    let members = members_flat 0 _ (cells-flat row.cells) in
    record { exact = members.exact; low = omega (arith, members.low) }

items-exact : (n : ℕ) (ds : List Data) → All (IsFlat n) ds → items_have_float (items_of ds) ≡ false
items-exact n [] q = refl
items-exact n (d ∷ ds) q = or_from _ _ (q 0 d (omega arith)).exact (items-exact n ds (All-tail (IsFlat n) d ds q))

items-low : (n : ℕ) (ds : List Data) → All (IsFlat n) ds → items_depth (items_of ds) ≤ n
items-low n [] q = omega arith
items-low n (d ∷ ds) q =
    let here : depth d ≤ n = (q 0 d (omega arith)).low in
    let later : items_depth (items_of ds) ≤ n = items-low n ds (All-tail (IsFlat n) d ds q) in
    omega (arith, here, later)

array-flat : (n : ℕ) (ds : List Data) → All (IsFlat n) ds → IsFlat (suc n) (array (items_of ds))
array-flat n ds q =
    let low : items_depth (items_of ds) ≤ n = items-low n ds q in
    record { exact = items-exact n ds q; low = omega (arith, low) }

rows-flat : (rows : List Row) → All (IsFlat 1) (map row_data rows)
rows-flat rows = All-map (IsFlat 1) row_data rows (λ k d h. row-flat (get_or rows k d))

entries-flat : (tables : List TableRows) (es : List Entry) → AllZip IsTableEntry tables es → EachFlat 2 es
entries-flat [] [] q = tt
entries-flat [] (e ∷ es) q = absurd q
entries-flat (table ∷ tables) [] q = absurd q
entries-flat (table ∷ tables) (e ∷ es) q =
    let sorted = q.0.0 in
    let flat = array-flat 1 sorted (All-permutation (IsFlat 1) _ sorted q.0.1.0 (rows-flat table.rows)) in
    (subst (λ (e : Entry). IsFlat 2 e.1) (sym q.0.2) flat, entries-flat tables es q.1)

pub printed-flat : (tables : List TableRows) (d : Data) → IsPrinted tables d → IsFlat 3 d
printed-flat tables d q =
    let members = members_flat 2 q.0 (entries-flat tables q.0 q.1) in
    subst (IsFlat 3) (sym q.2) (record { exact = members.exact; low = omega (arith, members.low) })
