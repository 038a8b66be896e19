-- Places of tables that go into a map from the last one to the first, so that the first of a name stays.
use Rattle.std.proofs.Common.{arith, ◌≡◌, refl, sym, ap, ap₂, ◌∙◌, ℕ, suc, ◌-◌, ◌<◌, ◌≤◌, Bool, true, false, cond, List, [], ◌∷◌, ◌++◌, find, get_or, length, take, Option, Some, None, String, bytes_eq, string_bytes, string_cmp}
use Rattle.std.proofs.Math.Seq.{take-suc}
use Rattle.std.proofs.lemmas.Map.Text.{btree_map_updates_text}
use Rattle.std.proofs.lemmas.Option.{slice_get_read}
use Rattle.std.specs.BTreeMap.{BTreeMap, UpdatesBy, get_by_text}
use Rattle.std.specs.Option.{option_or}
use Rattle.lk_ast.specs.declared.table.TableDef.{TableDef}
use Rattle.lk_sem.specs.TablePlaces.{FindsPlaces, is_table, table_there}

-- the first table of a name among those that aren't in the map yet, or else what the map has
abbrev pub found_or : {A : Type 0} → List TableDef → List TableDef → BTreeMap (String A) ℕ → List ℕ → Option TableDef
found_or left defs places name = option_or (find (is_table name) left) (table_there defs (get_by_text places name))

last_found : (name : List ℕ) (left : List TableDef) (def : TableDef) (found : Option TableDef) → option_or (find (is_table name) left) (cond (is_table name def) (Some def) found) ≡ option_or (find (is_table name) (left ++ def ∷ [])) found
last_found name [] def found = elim (is_table name def) as (λ b. cond b (Some def) found ≡ option_or (cond b (Some def) None) found) [ true ↦ refl | false ↦ refl ]
last_found name (first ∷ left) def found = elim (is_table name first) as (λ b. option_or (cond b (Some first) (find (is_table name) left)) (cond (is_table name def) (Some def) found) ≡ option_or (cond b (Some first) (find (is_table name) (left ++ def ∷ []))) found) [ true ↦ refl | false ↦ last_found name left def found ]

there_cond : (defs : List TableDef) (b : Bool) (place : ℕ) (def : TableDef) (had : Option ℕ) → table_there defs (Some place) ≡ Some def → table_there defs (cond b (Some place) had) ≡ cond b (Some def) (table_there defs had)
there_cond defs true place def had is = is
there_cond defs false place def had is = refl

-- the place of the last one goes into the map
pub place_put : {A : Type 0} (defs : List TableDef) (count : ℕ) (def : TableDef) (key : String A) (old new : BTreeMap (String A) ℕ)
    → 0 < count → count ≤ length defs → def ≡ get_or defs (count - 1) def → string_bytes key ≡ def.name → UpdatesBy string_cmp (string_cmp key) old new (Some (count - 1))
    → (name : List ℕ) → found_or (take (count - 1) defs) defs new name ≡ found_or (take count defs) defs old name
place_put defs count def key old new some within is named updates name =
    let one_more : count ≡ suc (count - 1) = omega (arith, some) in
    let below : count - 1 < length defs = omega (arith, some, within) in
    let left : List TableDef = take (count - 1) defs in
    let had : Option ℕ = get_by_text old name in
    let there : table_there defs (Some (count - 1)) ≡ Some def = slice_get_read defs (length defs) (count - 1) def refl below is in
    let whole : take count defs ≡ left ++ def ∷ [] = ap (λ n. take n defs) one_more ∙ take-suc defs (count - 1) def below ∙ ap (λ d. left ++ d ∷ []) (sym is) in
    ap (λ place. option_or (find (is_table name) left) (table_there defs place)) (btree_map_updates_text (string_bytes key) old new (Some (count - 1)) updates name ∙ ap (λ k. cond (bytes_eq k name) (Some (count - 1)) had) named)
    ∙ ap (option_or (find (is_table name) left)) (there_cond defs (is_table name def) (count - 1) def had there)
    ∙ last_found name left def (table_there defs had)
    ∙ ap (λ ds. option_or (find (is_table name) ds) (table_there defs had)) (sym whole)

-- what is at the place that the map has
pub there_found : {A : Type 0} (places : BTreeMap (String A) ℕ) (defs all : List TableDef) (text name : List ℕ) (place : Option ℕ)
    → FindsPlaces places defs → place ≡ get_by_text places text → text ≡ name → defs ≡ all → table_there defs place ≡ find (is_table name) all
there_found places defs all text name place finds had same are =
    ap (table_there defs) had ∙ finds text ∙ ap₂ (λ x ds. find (is_table x) ds) same are
