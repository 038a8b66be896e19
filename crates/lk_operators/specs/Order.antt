-- Equality and order of values.
use Rattle.std.specs.Prelude.{Bool, true, false, ◌&&◌, List, [], ◌∷◌, Option, Some, None, bytes_eq, ⊤}
use Rattle.std.specs.Ordering.{is_eq}
use Rattle.std.specs.declared.cmp.Ordering.{Ordering}
use Rattle.lk_ast.specs.BaseOrder.{base_cmp}
use Rattle.lk_ast.specs.declared.table.Base.{Base}
use Rattle.lk_ast.specs.declared.table.Base.TheVariants.{Int, Bool as Truth, Text}
use Rattle.lk_ast.specs.declared.value.Field.{Field}
use Rattle.lk_ast.specs.declared.value.Value.{Value, fold-Value}
use Rattle.lk_ast.specs.declared.value.Value.TheOpen.{Value-F, Field-F}
use Rattle.lk_operators.specs.Values.{base_in, list_in, fields_in, tag_in, truth}
use Rattle.lk_operators.specs.declared.outcome.Outcome.{Outcome}
use Rattle.lk_operators.specs.declared.outcome.Outcome.TheVariants as outcome

-- ---- bases

-- whether both are integers, both truth values or both texts
abbrev pub is_one_kind : Base → Base → Bool
is_one_kind (Int m) (Int n) = true
is_one_kind (Truth b) (Truth c) = true
is_one_kind (Text s) (Text t) = true
is_one_kind _ _ = false

-- whether both are of one kind, and stand in that order: integers by number, false before true, texts by their bytes
abbrev pub in_order : (Ordering → Bool) → Base → Base → Bool
in_order test b c = is_one_kind b c && test (base_cmp b c)

-- ---- order, of bases alone

abbrev ordered : (Ordering → Bool) → Option Base → Option Base → Bool
ordered test (Some b) (Some c) = in_order test b c
ordered test _ _ = false

-- other values are in no order
abbrev pub compared : (Ordering → Bool) → Value → Value → Bool
compared test v w = ordered test (base_in v) (base_in w)

-- ---- equality

abbrev passes : {A : Type 0} → (A → Bool) → Option A → Bool
passes test None = false
passes test (Some x) = test x

-- the first passes the first test, and so on; there are as many
abbrev pub all_pass : {A : Type 0} → List (A → Bool) → List A → Bool
all_pass [] [] = true
all_pass (test ∷ tests) (x ∷ xs) = test x && all_pass tests xs
all_pass _ _ = false

-- one level: which values are the same as one with this in it, of whose parts it is known which are the same as they are
abbrev same_level : Value-F (Value → Bool) (Field → Bool) ⊤ → Value → Bool
same_level (Value-F.Base b) v = passes (in_order is_eq b) (base_in v)
same_level (Value-F.List parts) v = passes (all_pass parts) (list_in v)
same_level (Value-F.Fields parts) v = passes (all_pass parts) (fields_in v)
same_level (Value-F.Tag tag part) v = passes (λ t. bytes_eq tag t.0 && part t.1) (tag_in v)
same_level (Value-F.Fun fun) v = false

abbrev same_field : Field-F (Value → Bool) (Field → Bool) ⊤ → Field → Bool
same_field f g = bytes_eq f.label g.label && f.value g.value

-- Whether two values are the same, part by part, as two JSON values are (RFC 6902, 4.6). Functions cannot be compared: a
-- function is the same as nothing, and so is what holds one.
abbrev pub same : Value → Value → Bool
same = fold-Value (Value → Bool) (Field → Bool) ⊤ same_level same_field (λ fun. tt)

-- a field as another one
abbrev pub same_fields : Field → Field → Bool
same_fields f g = bytes_eq f.label g.label && same f.value g.value

-- a truth value as the outcome
abbrev pub holds : (Value → Value → Bool) → Value → Value → Outcome
holds test v w = outcome.Value (truth (test v w))
