-- Bytes of whole queries.
use Rattle.std.proofs.Common.{◌≡◌, ℕ, ◌+◌, ◌-◌, ◌<◌, ◌≤◌, ◌⊎◌, inl, inr, Bool, true, false, true≢false, List, [], ◌∷◌, ◌++◌, length, map, Option, Some, None, refl, sym, ◌∙◌, ap, subst, arith, length-append, codes}
use Rattle.std.specs.List.{join_by}
use Rattle.std.proofs.lemmas.Bool.{cases_lt}
use Rattle.lk_ast.specs.declared.table.Column.{Column}
use Rattle.lk_sql.specs.Text.{direction, key_text, keys_text, name_text, select_text, selects_text, sql_text}
use Rattle.lk_sql.specs.declared.tree.Key.{Key}
use Rattle.lk_sql.specs.declared.tree.Sql.{Sql}
use Rattle.lk_query.specs.Branches.{counts}
use Rattle.lk_query.specs.declared.part.Part.{Part}
use Rattle.lk_query.specs.declared.query.Captured.{Captured}
use Rattle.lk_norm.specs.Capped.{capped}
use Rattle.lk_norm.specs.Made.{StopsFor, behind, taken}
use Rattle.lk_norm.specs.declared.stop.Stop.{Stop}
use Rattle.lk_norm.specs.declared.stop.Stop.TheVariants as stop
use Rattle.lk_norm.specs.Normal.{Branch, always, no_select, norms, select, selects}
use Rattle.lk_norm.specs.Sql.{query_names}
use Rattle.lk_norm.specs.Walks.{all_paid, keys_length, sql_over, sql_paid, total}
use Rattle.lk_norm.proofs.Budget.{taken_both, taken_none, taken_some}
use Rattle.lk_norm.proofs.SelectTexts.{all_taken, both_taken, total_joined}

-- ---- keys

pub key_length : (label : List ℕ) (desc : Bool) → length (name_text label ++ direction desc) ≡ length (name_text label) + length (direction desc)
key_length label desc = length-append (name_text label) (direction desc)

keys_whole : (keys : List Key) → length (keys_text keys) ≡ keys_length keys
keys_whole [] = refl
keys_whole (key ∷ keys) =
    let a = length-append (codes " ORDER BY ") (join_by key_text (codes ", ") (key ∷ keys)) in
    let b = total_joined (codes ", ") key_text key keys in
    omega (arith, a, b)

-- ---- queries

selects_whole : (columns : List Column) (branches : List Branch) → 11 + length (selects_text (selects columns branches)) ≡ total 11 select_text (selects columns branches)
selects_whole columns [] = total_joined (codes " UNION ALL ") select_text (no_select columns) []
selects_whole columns (b ∷ branches) = total_joined (codes " UNION ALL ") select_text (select b) (map select branches)

sql_length : (columns : List Column) (branches : List Branch) (keys : List Key)
    → keys_length keys + total 11 select_text (selects columns branches) ≡ 11 + length (selects_text (selects columns branches) ++ keys_text keys)
sql_length columns branches keys =
    let a = length-append (selects_text (selects columns branches)) (keys_text keys) in
    let b = keys_whole keys in
    let c = selects_whole columns branches in
    omega (arith, a, b, c)

eleven : (left : ℕ) → taken 11 (left + 11) ≡ Some left
eleven left = taken_some 11 (left + 11) (omega arith) ∙ ap Some (back left)
  where
    back : (left : ℕ) → left + 11 - 11 ≡ left
    back left = omega arith

paid_sql : (columns : List Column) (branches : List Branch) (keys : List Key) (left : ℕ)
    → behind (taken (keys_length keys) (left + 11)) (all_paid (selects columns branches)) ≡ taken (length (selects_text (selects columns branches) ++ keys_text keys)) left
paid_sql columns branches keys left =
    let n = length (selects_text (selects columns branches) ++ keys_text keys) in
    both_taken (keys_length keys) (total 11 select_text (selects columns branches)) (left + 11) (all_paid (selects columns branches)) (all_taken (selects columns branches))
    ∙ ap (λ n. taken n (left + 11)) (sql_length columns branches keys)
    ∙ taken_both 11 n (left + 11)
    ∙ ap (λ o. behind o (taken n)) (eleven left)

abbrev is_there : Option ℕ → Bool
is_there None = false
is_there (Some n) = true

fits : (n left after : ℕ) → taken n left ≡ Some after → n ≤ left
fits n left after e = pick (cases_lt left n)
  where
    pick : (left < n) ⊎ (n ≤ left) → n ≤ left
    pick (inl l) = absurd (true≢false (ap is_there (sym e ∙ taken_none n left l)))
    pick (inr l) = l

overflows : (n left : ℕ) → taken n left ≡ None → left < n
overflows n left e = pick (cases_lt left n)
  where
    pick : (left < n) ⊎ (n ≤ left) → left < n
    pick (inl l) = l
    pick (inr l) = absurd (true≢false (ap is_there (sym (taken_some n left l) ∙ e)))

pub sql_fits : (columns : List Column) (branches : List Branch) (keys : List Key) (left after : ℕ)
    → behind (taken (keys_length keys) (left + 11)) (all_paid (selects columns branches)) ≡ Some after → length (selects_text (selects columns branches) ++ keys_text keys) ≤ left
sql_fits columns branches keys left after e = fits (length (selects_text (selects columns branches) ++ keys_text keys)) left after (sym (paid_sql columns branches keys left) ∙ e)

pub sql_overflows : (columns : List Column) (branches : List Branch) (keys : List Key) (left : ℕ)
    → behind (taken (keys_length keys) (left + 11)) (all_paid (selects columns branches)) ≡ None → left < length (selects_text (selects columns branches) ++ keys_text keys)
sql_overflows columns branches keys left e = overflows (length (selects_text (selects columns branches) ++ keys_text keys)) left (sym (paid_sql columns branches keys left) ∙ e)

-- ---- what is made, and what isn't

few : (n count : ℕ) → count ≡ capped n → count ≤ 1024 → n ≤ 1024
few n count is l = omega (arith, is, l)

module _ (parts over : List Part) (root count : ℕ) (captured cs : List Captured) (columns ds : List Column) (keys ks : List Key) (e : over ≡ parts) (f : cs ≡ captured) (g : ds ≡ columns) (h : ks ≡ keys) (is : count ≡ capped (counts over root)) (l : count ≤ 1024) where
  few_there : counts parts root ≤ 1024
  few_there = few (counts parts root) count (is ∙ ap (λ parts. capped (counts parts root)) e) l

  same : sql_over over root cs ds ks ≡ sql_over parts root captured columns keys
  same = λ i. sql_over (e i) root (f i) (g i) (h i)

  pub is_short : (sql : Sql) (after : ℕ) → (sql ≡ sql_over over root cs ds ks) × (sql_paid (sql_over over root cs ds ks) (1048576 + 11) ≡ Some after)
      → (counts parts root ≤ 1024) × (length (sql_text (sql_over parts root captured columns keys)) ≤ 1048576)
  is_short sql after made = (few_there, sql_fits columns ((norms parts root (query_names captured)).list 0 [] always) keys 1048576 after (sym (ap (λ sql. sql_paid sql (1048576 + 11)) same) ∙ made.1))

  too_long : sql_paid (sql_over over root cs ds ks) (1048576 + 11) ≡ None → (counts parts root ≤ 1024) × (1048576 < length (sql_text (sql_over parts root captured columns keys)))
  too_long none = (few_there, sql_overflows columns ((norms parts root (query_names captured)).list 0 [] always) keys 1048576 (sym (ap (λ sql. sql_paid sql (1048576 + 11)) same) ∙ none))

  pub is_long : (why : Stop) → why ≡ stop.TooLong → StopsFor why (sql_paid (sql_over over root cs ds ks) (1048576 + 11))
      → (counts parts root ≤ 1024) × (1048576 < length (sql_text (sql_over parts root captured columns keys)))
  is_long why it stops = too_long (subst (λ why. StopsFor why (sql_paid (sql_over over root cs ds ks) (1048576 + 11))) it stops)
