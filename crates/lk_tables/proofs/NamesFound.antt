-- The tables of a name, and why a member of an object isn't their rows.
use Rattle.std.proofs.Common.{◌≡◌, refl, sym, ap, ◌∙◌, ℕ, Bool, true, false, ◌||◌, cond, if◌then◌else◌, List, [], ◌∷◌, ◌++◌, filter, Option, Some, None, is_some, option_map, unwrap_or, bytes_eq}
use Rattle.std.proofs.lemmas.List.{map-append}
use Rattle.std.proofs.lemmas.Slice.Eq.{bytes_eq-Decides}
use Rattle.std.specs.Borrow.{Bor}
use Rattle.std.specs.BTreeMap.{is_at}
use Rattle.std.specs.Cmp.Lexicographic.{slice_cmp}
use Rattle.std.specs.List.{list_any}
use Rattle.std.specs.Map.{lookup}
use Rattle.std.specs.Option.{option_or}
use Rattle.std.specs.Ordering.{nat_cmp}
use Rattle.serde_json.specs.Data.{Data}
use Rattle.lk_ast.specs.declared.table.TableDef.{TableDef}
use Rattle.lk_tables.specs.Choices.{first_some}
use Rattle.lk_tables.specs.Named.{if_any, own_refusal, shown}
use Rattle.lk_tables.specs.Reading.{is_named, member_refusal, table_refusal}
use Rattle.lk_tables.specs.declared.error.TablesError.TheVariants.{UnknownTable}

-- ---- tables by their names

-- what these entries of a map have at a name
abbrev at_name : List (Bor (List ℕ) × List (Bor TableDef)) → List ℕ → Option (List (Bor TableDef))
at_name entries name = lookup (is_at (λ key. slice_cmp nat_cmp name key.now)) entries

shown_or : (found : Option (List (Bor TableDef))) → shown (unwrap_or found []) ≡ unwrap_or (option_map shown found) []
shown_or None = refl
shown_or (Some tables) = refl

-- a table goes behind those of its name
pub has_put : (old new : List (Bor (List ℕ) × List (Bor TableDef))) (key : List ℕ) (had all : List (Bor TableDef)) (table : Bor TableDef)
    → key ≡ table.now.name → had ≡ unwrap_or (at_name old key) [] → all ≡ had ++ table ∷ [] → ((name : List ℕ) → at_name new name ≡ cond (bytes_eq key name) (Some all) (at_name old name))
    → (name : List ℕ) → option_map shown (at_name new name) ≡ (if is_named name table.now then Some (unwrap_or (option_map shown (at_name old name)) [] ++ table.now ∷ []) else option_map shown (at_name old name))
has_put old new key had all table named was is updates name =
    ap (option_map shown) (updates name ∙ ap (λ tables. cond (bytes_eq key name) (Some tables) (at_name old name)) is)
    ∙ (elim (bytes_eq key name) as (λ b. bytes_eq key name ≡ b → option_map shown (cond b (Some (had ++ table ∷ [])) (at_name old name)) ≡ (if b then Some (unwrap_or (option_map shown (at_name old name)) [] ++ table.now ∷ []) else option_map shown (at_name old name))) [
      | true ↦ λ e. ap Some (map-append (λ t. t.now) had (table ∷ []) ∙ ap (λ tables. tables ++ table.now ∷ []) (ap shown was ∙ shown_or (at_name old key) ∙ ap (λ k. unwrap_or (option_map shown (at_name old k)) []) ((bytes_eq-Decides key name).0 e)))
      | false ↦ λ e. refl
    ] refl)
    ∙ ap (λ k. if bytes_eq k name then Some (unwrap_or (option_map shown (at_name old name)) [] ++ table.now ∷ []) else option_map shown (at_name old name)) named

-- ---- members of an object

-- whether a table has the name is whether there are tables of that name
any_named : (name : List ℕ) (tables : List TableDef) → list_any (is_named name) tables ≡ is_some (if_any (filter (is_named name) tables))
any_named name [] = refl
any_named name (t ∷ ts) = elim (is_named name t) as (λ b. (b || list_any (is_named name) ts) ≡ is_some (if_any (cond b (t ∷ filter (is_named name) ts) (filter (is_named name) ts)))) [
  | true ↦ refl
  | false ↦ any_named name ts
]

-- only the tables of the name refuse anything
named_refuse : (name : List ℕ) (d : Data) (tables : List TableDef) → first_some (own_refusal d) (filter (is_named name) tables) ≡ first_some (table_refusal name d) tables
named_refuse name d [] = refl
named_refuse name d (t ∷ ts) = elim (is_named name t) as (λ b. first_some (own_refusal d) (cond b (t ∷ filter (is_named name) ts) (filter (is_named name) ts)) ≡ option_or (if b then own_refusal d t else None) (first_some (table_refusal name d) ts)) [
  | true ↦ ap (option_or (own_refusal d t)) (named_refuse name d ts)
  | false ↦ named_refuse name d ts
]

all_of_any : (tables : List TableDef) → unwrap_or (if_any tables) [] ≡ tables
all_of_any [] = refl
all_of_any (t ∷ ts) = refl

refusal_if : (name : List ℕ) (d : Data) (tables : List TableDef) (found : Option (List TableDef)) → found ≡ if_any (filter (is_named name) tables)
    → (if is_some found then first_some (table_refusal name d) tables else Some UnknownTable) ≡ member_refusal tables (name, d)
refusal_if name d tables found is = ap (λ b. if b then first_some (table_refusal name d) tables else Some UnknownTable) (ap is_some is ∙ sym (any_named name tables))

-- a member whose name no table has
pub unknown : (name : List ℕ) (d : Data) (tables : List TableDef) → None ≡ if_any (filter (is_named name) tables) → Some UnknownTable ≡ member_refusal tables (name, d)
unknown name d tables is = refusal_if name d tables None is

-- a member whose name these tables have
pub known : (name : List ℕ) (d : Data) (tables named : List TableDef) → Some named ≡ if_any (filter (is_named name) tables) → first_some (own_refusal d) named ≡ member_refusal tables (name, d)
known name d tables named is =
    ap (first_some (own_refusal d)) (ap (λ o. unwrap_or o []) is ∙ all_of_any (filter (is_named name) tables))
    ∙ named_refuse name d tables
    ∙ refusal_if name d tables (Some named) is
