-- In a program whose names are bound the keys of each query have distinct labels.
use Rattle.std.proofs.Common.{◌≡◌, refl, sym, ap, ap₂, subst, ◌∙◌, Bool, true, false, ◌&&◌, ◌||◌, not, List, [], ◌∷◌, map, None, inl, inr}
use Rattle.std.proofs.lemmas.Bool.{both_ways}
use Rattle.std.proofs.lemmas.Cmp.{nat_list_cmp_total}
use Rattle.std.specs.Cmp.Lexicographic.{slice_cmp}
use Rattle.std.specs.FinSet as set
use Rattle.std.specs.Ordering.{nat_cmp, eq_by_cmp}
use Rattle.lk_ast.specs.Layers.{layer}
use Rattle.lk_ast.specs.declared.declaration.Program.{Program}
use Rattle.lk_ast.specs.declared.expression.Expr.{Expr}
use Rattle.lk_ast.specs.declared.expression.Node.TheOpen.{Node-F}
use Rattle.lk_ast.specs.declared.expression.SortKey.{SortKey}
use Rattle.lk_bag.specs.Blocks.{blocks_of}
use Rattle.lk_inline.proofs.FaultlessBodies.{blocks_fine, level_fine}
use Rattle.lk_inline.proofs.LabelOrder.{not_there}
use Rattle.lk_names.specs.Expressions.{fault, node_in}
use Rattle.lk_names.specs.Faults.{first_of}
use Rattle.lk_names.specs.Programs.{IsBound}
use Rattle.lk_names.specs.Repeats.{Item, items_fault, key_item, keys_fault, twice_fault}
use Rattle.lk_scope.specs.Names.{Names, bind, is_local, no_names}
use Rattle.lk_sound.proofs.Faultless.{HasNoFault, mapped, neither}
use Rattle.lk_sound.proofs.NewNames.{once, put_in}
use Rattle.lk_types.proofs.Members.{each_in}
use Rattle.lk_sql.specs.Good.{are_distinct, is_there}
use Rattle.lk_types.specs.Each.{OneOf}
use Rattle.lk_types.specs.Rows.{Label}

-- ---- names that were not met before

abbrev AreNew : Names → List Label → Type 0
AreNew met [] = Unit {0}
AreNew met (x ∷ xs) = (is_local met x ≡ false) × AreNew (set.insert met x) xs

not_met : (met : Names) (x y : Label) → is_local (set.insert met x) y ≡ false → is_local met y ≡ false
not_met met x y is = second (eq_by_cmp (slice_cmp nat_cmp) y x) (is_local met y) (sym (set.contains-insert nat_list_cmp_total met x y) ∙ is)
  where
    second : (a b : Bool) → a || b ≡ false → b ≡ false
    second true b is = let wrong : true ≡ false = is in absurd cc
    second false b is = is

-- none of them is there twice, or was met
new_apart : (met : Names) (xs : List Label) → AreNew met xs → (are_distinct xs ≡ true) × ((y : Label) → OneOf (λ other. other ≡ y) xs → is_local met y ≡ false)
new_apart met [] new = (refl, λ y one. absurd one)
new_apart met (x ∷ xs) new =
    let rest = new_apart (set.insert met x) xs new.1 in
    let apart : is_there xs x ≡ false = not_there x xs (λ one. both_ways (is_local (set.insert met x) x) (rest.1 x one) (put_in met x)) in
    (ap₂ (λ a b. not a && b) apart rest.0, either rest.1)
  where
    either : ((y : Label) → OneOf (λ other. other ≡ y) xs → is_local (set.insert met x) y ≡ false) → (y : Label) → OneOf (λ other. other ≡ y) (x ∷ xs) → is_local met y ≡ false
    either later y (inl same) = subst (λ z. is_local met z ≡ false) same new.0
    either later y (inr one) = not_met met x y (later y one)

-- ---- lists without a fault

abbrev names_in : List Item → List Label
names_in items = map (λ item. item.name.text) items

items_new : (met : Names) (items : List Item) → items_fault met items ≡ None → AreNew met (names_in items)
items_new met [] none = tt
items_new met (item ∷ items) none =
    let both = neither (twice_fault met item.name) (first_of item.behind (items_fault (bind item.name met) items)) none in
    (once met item.name both.0, items_new (bind item.name met) items (neither item.behind (items_fault (bind item.name met) items) both.1).1)

items_distinct : (items : List Item) → items_fault no_names items ≡ None → are_distinct (names_in items) ≡ true
items_distinct items none = (new_apart no_names (names_in items) (items_new no_names items none)).0

-- ---- keys

keys_named : (keys : List SortKey) → names_in (map key_item keys) ≡ map (λ (key : SortKey). key.label.text) keys
keys_named [] = refl
keys_named (key ∷ keys) = ap (λ ls. key.label.text ∷ ls) (keys_named keys)

-- ---- what acts on tables in a program

module _ (p : Program) (bound : IsBound p) (block : Expr) (of_text : OneOf (λ other. other ≡ block) (blocks_of p)) where
  fine : HasNoFault block
  fine = each_in HasNoFault (blocks_of p) block of_text (blocks_fine p bound)

  pub keys_apart : (keys : List SortKey) (body : Expr) → layer block ≡ Node-F.Query keys body → are_distinct (map (λ (key : SortKey). key.label.text) keys) ≡ true
  keys_apart keys body is =
      let none : node_in fine.0 (mapped fine.0 (Node-F.Query keys body)) block.span fine.1.0 ≡ None = ap (λ l. node_in fine.0 (mapped fine.0 l) block.span fine.1.0) (sym is) ∙ level_fine block fine in
      ap are_distinct (sym (keys_named keys)) ∙ items_distinct (map key_item keys) (neither (keys_fault keys) (fault fine.0 body fine.1.0) none).0
