-- Tables that go into a map from the last one to the first, so that the first of a name stays.
use Rattle.std.proofs.Common.{◌≡◌, refl, sym, ap, ◌∙◌, ℕ, Bool, true, false, cond, List, [], ◌∷◌, ◌++◌, find, Option, Some, None, String, bytes_eq, string_bytes, string_cmp}
use Rattle.std.proofs.lemmas.Map.Text.{btree_map_updates_text}
use Rattle.std.specs.BTreeMap.{BTreeMap, UpdatesBy, get_by_text}
use Rattle.std.specs.Cmp.Lexicographic.{slice_cmp}
use Rattle.std.specs.Option.{option_or}
use Rattle.std.specs.Ordering.{nat_cmp}
use Rattle.lk_ast.specs.declared.table.TableDef.{TableDef}
use Rattle.lk_inline.specs.Tabled.{is_table}
use Rattle.lk_types.specs.Rows.{Label}

last_found : (x : Label) (left : List TableDef) (def : TableDef) (found : Option TableDef) → option_or (find (is_table x) left) (cond (is_table x def) (Some def) found) ≡ option_or (find (is_table x) (left ++ def ∷ [])) found
last_found x [] def found = by_test (is_table x def)
  where
    by_test : (b : Bool) → cond b (Some def) found ≡ option_or (cond b (Some def) None) found
    by_test true = refl
    by_test false = refl
last_found x (first ∷ left) def found = by_test (is_table x first) (last_found x left def found)
  where
    by_test : (b : Bool) → option_or (find (is_table x) left) (cond (is_table x def) (Some def) found) ≡ option_or (find (is_table x) (left ++ def ∷ [])) found
        → option_or (cond b (Some first) (find (is_table x) left)) (cond (is_table x def) (Some def) found) ≡ option_or (cond b (Some first) (find (is_table x) (left ++ def ∷ []))) found
    by_test true rest = refl
    by_test false rest = rest

-- the last one goes into the map
pub one_put : {A : Type 0} (x : Label) (all left : List TableDef) (def : TableDef) (name : List ℕ) (old new : BTreeMap (String A) TableDef) → all ≡ left ++ def ∷ [] → name ≡ def.name
    → UpdatesBy string_cmp (λ k. slice_cmp nat_cmp name (string_bytes k)) old new (Some def) → option_or (find (is_table x) left) (get_by_text new x) ≡ option_or (find (is_table x) all) (get_by_text old x)
one_put x all left def name old new whole named updates =
    ap (option_or (find (is_table x) left)) (btree_map_updates_text name old new (Some def) updates x ∙ ap (λ name. cond (bytes_eq name x) (Some def) (get_by_text old x)) named)
    ∙ last_found x left def (get_by_text old x)
    ∙ ap (λ defs. option_or (find (is_table x) defs) (get_by_text old x)) (sym whole)
