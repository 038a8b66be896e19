-- The JSON of a value holds no float, so that its text is known.
use Rattle.std.proofs.Common.{◌≡◌, List, [], ◌∷◌, map, fold, Bool, true, false, ◌||◌, Ordering, Less, Equal, Greater, pos, negsuc, refl, ap, ◌∙◌, subst, ℕ}
use Rattle.std.specs.Prelude.{⊤}
use Rattle.std.specs.Ordering.{nat_cmp, match_ordering}
use Rattle.std.specs.Cmp.Lexicographic.{slice_cmp}
use Rattle.std.proofs.lemmas.Bool.{or_from}
use Rattle.serde_json.specs.Data.{Data, Members, no_members, member, put}
use Rattle.serde_json.specs.Written.{has_float, items_have_float, members_have_float}
use Rattle.serde_json.specs.View.{items_of}
use Rattle.lk_ast.specs.JsonText.{Entry, base_data, record_data, level_data, value_data}
use Rattle.lk_ast.specs.declared.table.Base.{Base}
use Rattle.lk_ast.specs.declared.table.Base.TheVariants.{Int, Bool as Truth, Text}
use Rattle.lk_ast.specs.declared.value.Field.{Field, roll-Field}
use Rattle.lk_ast.specs.declared.value.FunValue.{FunValue}
use Rattle.lk_ast.specs.declared.value.Value.{Value, roll-Value}
use Rattle.lk_ast.specs.declared.value.Value.TheFolds.{ind-Value, fold-Field, fold-FunValue, fold-roll-Value, fold-roll-Field, map-Value}
use Rattle.lk_ast.specs.declared.value.Value.TheOpen.{Value-F, Field-F}

left_false : (a b : Bool) → (a || b) ≡ false → a ≡ false
left_false true b p = p
left_false false b p = refl

right_false : (a b : Bool) → (a || b) ≡ false → b ≡ false
right_false true b p = cc
right_false false b p = p

-- no float stands in it
abbrev IsExact : Data → Type 0
IsExact d = has_float d ≡ false

abbrev AreExact : Members → Type 0
AreExact ms = members_have_float ms ≡ false

chosen : (o : Ordering) (a b c : Members) → AreExact a → AreExact b → AreExact c → AreExact (match_ordering o a b c)
chosen Less a b c p q r = p
chosen Equal a b c p q r = q
chosen Greater a b c p q r = r

put-exact : (k : List ℕ) (d : Data) (ms : Members) → IsExact d → AreExact ms → AreExact (put k d ms)
put-exact k d no_members p q = or_from _ _ p q
put-exact k d (member l e ms) p q =
    let here : has_float e ≡ false = left_false _ _ q in
    let later : members_have_float ms ≡ false = right_false (has_float e) _ q in
    chosen (slice_cmp nat_cmp k l) _ _ _ (or_from _ _ p q) (or_from _ _ p later) (or_from _ _ here (put-exact k d ms p later))

base-exact : (b : Base) → IsExact (base_data b)
base-exact (Int (pos n)) = refl
base-exact (Int (negsuc n)) = refl
base-exact (Truth b) = refl
base-exact (Text t) = refl

-- ---- by induction on the value

abbrev entry : Field → Entry
entry = fold-Field Data Entry ⊤ level_data (λ field. (field.label, field.value)) (λ fun. tt)

abbrev nothing : FunValue → ⊤
nothing = fold-FunValue Data Entry ⊤ level_data (λ field. (field.label, field.value)) (λ fun. tt)

abbrev ValueExact : Value → Type 0
ValueExact v = IsExact (value_data v)

abbrev FieldExact : Field → Type 0
FieldExact f = IsExact (entry f).1

abbrev Such : Type 0
Such = (v : Value) × ValueExact v

abbrev SuchField : Type 0
SuchField = (f : Field) × FieldExact f

abbrev SuchFun : Type 0
SuchFun = (f : FunValue) × ⊤

elements-exact : (vs : List Such) → items_have_float (items_of (map value_data (map (λ v. v.0) vs))) ≡ false
elements-exact [] = refl
elements-exact (v ∷ vs) = or_from _ _ v.1 (elements-exact vs)

members-exact : (ms : Members) (fs : List SuchField) → AreExact ms → AreExact (fold (λ ms e. put e.0 e.1 ms) ms (map entry (map (λ f. f.0) fs)))
members-exact ms [] p = p
members-exact ms (f ∷ fs) p = members-exact (put (entry f.0).0 (entry f.0).1 ms) fs (put-exact (entry f.0).0 (entry f.0).1 ms f.1 p)

record-exact : (fs : List SuchField) → IsExact (record_data (map entry (map (λ f. f.0) fs)))
record-exact [] = refl
record-exact (f ∷ fs) = members-exact no_members (f ∷ fs) refl

level-exact : (y : Value-F Such SuchField SuchFun)
    → IsExact (level_data (map-Value Value Field FunValue Data Entry ⊤ value_data entry nothing (map-Value Such SuchField SuchFun Value Field FunValue (λ v. v.0) (λ f. f.0) (λ f. f.0) y)))
level-exact (Value-F.Base b) = base-exact b
level-exact (Value-F.List vs) = elements-exact vs
level-exact (Value-F.Fields fs) = record-exact fs
level-exact (Value-F.Tag t v) = or_from _ _ v.1 refl
level-exact (Value-F.Fun f) = refl

value_data-roll : (x : Value-F Value Field FunValue) → value_data (roll-Value x) ≡ level_data (map-Value Value Field FunValue Data Entry ⊤ value_data entry nothing x)
value_data-roll x = fold-roll-Value Data Entry ⊤ level_data (λ field. (field.label, field.value)) (λ fun. tt) x

entry-roll : (x : Field-F Value Field FunValue) → entry (roll-Field x) ≡ (x.label, value_data x.value)
entry-roll x = fold-roll-Field Data Entry ⊤ level_data (λ field. (field.label, field.value)) (λ fun. tt) x

pub has_float-value_data : (v : Value) → has_float (value_data v) ≡ false
has_float-value_data = ind-Value ValueExact FieldExact (λ f. ⊤)
    (λ x y is. subst (λ z. ValueExact (roll-Value z)) is (ap has_float (value_data-roll _) ∙ level-exact y))
    (λ x y is. subst (λ z. FieldExact (roll-Field z)) is (ap (λ e. has_float e.1) (entry-roll _) ∙ y.value.1))
    (λ x y is. tt)
