-- Rows in byte order of their texts.
use Rattle.std.proofs.Common.{◌≡◌, ◌<◌, ℕ, ◌+◌, Bool, List, [], ◌∷◌, ◌++◌, map, length, get_or, take, All, refl, sym, ap, ap₂, ◌∙◌, subst, arith}
use Rattle.std.specs.Prelude.{IsPermutation, IsSorted, IsSortedBy}
use Rattle.std.specs.Ordering.{nat_cmp, is_lt}
use Rattle.std.specs.Cmp.Lexicographic.{slice_cmp}
use Rattle.std.proofs.lemmas.List.{get_or-map, length-map, map-append, take_more}
use Rattle.std.proofs.lemmas.List.Elements.{All-push, All-tail}
use Rattle.std.proofs.lemmas.List.Sorted.{All-permutation, IsPermutation-map}
use Rattle.serde_json.specs.Data.{Data}
use Rattle.serde_json.specs.View.{view}
use Rattle.serde_json.specs.Written.{compact_text}
use Rattle.serde_json.specs.declared.value.Value.{Value}
use Rattle.lk_ast.specs.declared.table.Row.{Row}
use Rattle.lk_tables.specs.declared.printing.WrittenRow.{WrittenRow}
use Rattle.lk_tables.specs.Printing.{IsSortedFrom, row_data}

abbrev pub text_of : WrittenRow → List ℕ
text_of one = one.text

abbrev pub data_of : WrittenRow → Data
data_of one = view one.row

abbrev pub has_its_text : WrittenRow → Type 0
has_its_text one = one.text ≡ compact_text (view one.row)

-- the order by which they are sorted
abbrev pub is_below : WrittenRow → WrittenRow → Bool
is_below one other = is_lt (slice_cmp nat_cmp one.text other.text)

texts_sorted : (written : List WrittenRow) → IsSortedBy is_below written → IsSorted (slice_cmp nat_cmp) (map text_of written)
texts_sorted [] up k d low h = absurd (omega arith)
texts_sorted (x ∷ xs) up k d low h =
    let long : length (map text_of (x ∷ xs)) ≡ length (x ∷ xs) = length-map (x ∷ xs) text_of in
    let within : k + 1 < length (x ∷ xs) = omega (arith, long, h) in
    rw (get_or-map text_of (x ∷ xs) (k + 1) x d within, get_or-map text_of (x ∷ xs) k x d (omega (arith, within))) (up k x low within)

same_texts : (written : List WrittenRow) → All has_its_text written → map text_of written ≡ map compact_text (map view (map (λ (one : WrittenRow). one.row) written))
same_texts [] each = refl
same_texts (x ∷ xs) each = ap₂ (λ t ts. t ∷ ts) (each 0 x (omega arith)) (same_texts xs (All-tail has_its_text x xs each))

same_data : (written : List WrittenRow) → map data_of written ≡ map view (map (λ (one : WrittenRow). one.row) written)
same_data [] = refl
same_data (x ∷ xs) = ap (λ ds. view x.row ∷ ds) (same_data xs)

pub sorted_from : (rows : List Data) (old new : List WrittenRow) (taken : List Value) → map data_of old ≡ rows → All has_its_text old → IsPermutation old new → IsSortedBy is_below new
    → taken ≡ map (λ (one : WrittenRow). one.row) new → IsSortedFrom rows (map view taken)
sorted_from rows old new taken is texts moved up same =
    let moved_data : IsPermutation (map data_of old) (map data_of new) = IsPermutation-map data_of old new moved in
    let data_same : map data_of new ≡ map view taken = same_data new ∙ ap (map view) (sym same) in
    let text_same : map text_of new ≡ map compact_text (map view taken) = same_texts new (All-permutation has_its_text old new moved texts) ∙ ap (λ vs. map compact_text (map view vs)) (sym same) in (
      subst (λ xs. IsPermutation xs (map view taken)) is (subst (IsPermutation (map data_of old)) data_same moved_data),
      subst (IsSorted (slice_cmp nat_cmp)) text_same (texts_sorted new up),
    )

-- one row more
pub text_at_end : (written : List WrittenRow) (one : WrittenRow) (more : List WrittenRow) → more ≡ written ++ one ∷ [] → All has_its_text written → has_its_text one → All has_its_text more
text_at_end written one more is each text = subst (All has_its_text) (sym is) (All-push has_its_text written one each text)

pub data_at_end : (written : List WrittenRow) (one : WrittenRow) (more : List WrittenRow) (rows : List Row) (i : ℕ) (row : Row) → more ≡ written ++ one ∷ [] → map data_of written ≡ map row_data (take i rows) → i < length rows
    → row ≡ get_or rows i row → data_of one ≡ row_data row → map data_of more ≡ map row_data (take (i + 1) rows)
data_at_end written one more rows i row is was low at same =
    ap (map data_of) is ∙ map-append data_of written (one ∷ [])
    ∙ ap₂ (λ ds d. ds ++ d ∷ []) was (same ∙ ap row_data at)
    ∙ sym (ap (map row_data) (take_more rows i row low) ∙ map-append row_data (take i rows) (get_or rows i row ∷ []))
