-- The rows under a name in a map of tables, before a change at a name and after it.
use Rattle.std.proofs.Common.{◌≡◌, ◌≢◌, ℕ, Bool, true, false, cond, if◌then◌else◌, List, [], ◌∷◌, ◌++◌, map, Option, Some, None, unwrap_or, String, string_bytes, string_cmp, refl, sym, ap, ◌∙◌, subst}
use Rattle.std.proofs.lemmas.Map.Text.{btree_map_updates_text, is_eq-slice_cmp}
use Rattle.std.proofs.lemmas.Slice.Eq.{bytes_eq-Decides}
use Rattle.std.specs.BTreeMap.{BTreeMap, UpdatesBy, get_by_text, is_at}
use Rattle.std.specs.Cmp.Lexicographic.{slice_cmp}
use Rattle.std.specs.Map.{lookup}
use Rattle.std.specs.Ordering.{nat_cmp}
use Rattle.std.specs.Str.{bytes_eq}
use Rattle.lk_ast.specs.Tables.{Tables, rows_of}
use Rattle.lk_ast.specs.declared.table.Row.{Row}
use Rattle.lk_outside.specs.Store.{Puts}
use Rattle.lk_store.specs.Listed.{listed, shown}

if_or : (b : Bool) (rows left : List Row) (found : Option (List Row)) → left ≡ unwrap_or found [] → (if b then rows else left) ≡ unwrap_or (cond b (Some rows) found) []
if_or true rows left found is = refl
if_or false rows left found is = is

rows_among : {A : Type 0} (entries : List (String A × List Row)) (name : List ℕ) → rows_of (map shown entries) name ≡ unwrap_or (lookup (is_at (λ key. slice_cmp nat_cmp name (string_bytes key))) entries) []
rows_among [] name = refl
rows_among (e ∷ es) name =
    ap (λ b. if b then e.1 else rows_of (map shown es) name) (sym (is_eq-slice_cmp name (string_bytes e.0)))
    ∙ if_or _ e.1 _ _ (rows_among es name)

-- the rows under a name are what the map has there
pub rows_there : {A : Type 0} (tables : BTreeMap (String A) (List Row)) (name : List ℕ) → rows_of (listed tables) name ≡ unwrap_or (get_by_text tables name) []
rows_there tables name = rows_among tables.entries name

same : (name : List ℕ) → bytes_eq name name ≡ true
same name = (bytes_eq-Decides name name).1 refl

apart : (name other : List ℕ) → other ≢ name → bytes_eq name other ≡ false
apart name other differ = elim (bytes_eq name other) as (λ b. bytes_eq name other ≡ b → b ≡ false) [
  | true ↦ λ e. absurd (differ (sym ((bytes_eq-Decides name other).0 e)))
  | false ↦ λ e. refl
] refl

-- what a change at a name did
pub puts : {A : Type 0} (old new : BTreeMap (String A) (List Row)) (name : List ℕ) (rows : List Row)
    → UpdatesBy string_cmp (λ key. slice_cmp nat_cmp name (string_bytes key)) old new (Some rows) → Puts (rows_of (listed old)) (rows_of (listed new)) name rows
puts old new name rows updates =
    let now : (q : List ℕ) → rows_of (listed new) q ≡ unwrap_or (cond (bytes_eq name q) (Some rows) (get_by_text old q)) [] = λ q.
    rows_there new q ∙ ap (λ found. unwrap_or found []) (btree_map_updates_text name old new (Some rows) updates q) in
    record {
      named = now name ∙ ap (λ b. unwrap_or (cond b (Some rows) (get_by_text old name)) []) (same name);
      others = λ other differ. now other ∙ ap (λ b. unwrap_or (cond b (Some rows) (get_by_text old other)) []) (apart name other differ) ∙ sym (rows_there old other);
    }

-- what an insertion under a key of this name did
pub puts_key : {A : Type 0} (old new : BTreeMap (String A) (List Row)) (key : String A) (name : List ℕ) (rows : List Row)
    → string_bytes key ≡ name → UpdatesBy string_cmp (string_cmp key) old new (Some rows) → Puts (rows_of (listed old)) (rows_of (listed new)) name rows
puts_key old new key name rows named updates = subst (λ x. Puts (rows_of (listed old)) (rows_of (listed new)) x rows) named (puts old new (string_bytes key) rows updates)

-- what an addition to the rows under a name did
pub adds : {A : Type 0} (old new : BTreeMap (String A) (List Row)) (name : List ℕ) (there all more : List Row)
    → Some there ≡ get_by_text old name → all ≡ there ++ more → UpdatesBy string_cmp (λ key. slice_cmp nat_cmp name (string_bytes key)) old new (Some all)
    → Puts (rows_of (listed old)) (rows_of (listed new)) name (rows_of (listed old) name ++ more)
adds old new name there all more found is updates =
    let before : there ≡ rows_of (listed old) name = ap (λ o. unwrap_or o []) found ∙ sym (rows_there old name) in
    subst (Puts (rows_of (listed old)) (rows_of (listed new)) name) (is ∙ ap (λ rows. rows ++ more) before) (puts old new name all updates)

-- what an addition did where there were no rows under the name
pub adds_first : {A : Type 0} (old same : BTreeMap (String A) (List Row)) (after : Tables) (name : List ℕ) (rows : List Row)
    → None ≡ get_by_text old name → same ≡ old → Puts (rows_of (listed same)) after name rows → Puts (rows_of (listed old)) after name (rows_of (listed old) name ++ rows)
adds_first old same after name rows missing is put =
    let none : rows_of (listed old) name ≡ [] = rows_there old name ∙ sym (ap (λ o. unwrap_or o []) missing) in
    subst (λ before. Puts (rows_of (listed old)) after name (before ++ rows)) (sym none) (subst (λ tables. Puts (rows_of (listed tables)) after name rows) is put)
