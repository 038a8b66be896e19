-- When a text is an object.
use Rattle.std.proofs.Common.{◌≡◌, ℕ, List, Bool, true, false, Option, Some, None, is_some, if◌then◌else◌, refl, sym, ap, ◌∙◌, true≢false}
use Rattle.std.specs.Prelude.{option_map, option_and_then}
use Rattle.std.specs.Str.{IsUtf8}
use Rattle.std.proofs.lemmas.Str.{IsUtf8-from_is_utf8, is_utf8-from_IsUtf8}
use Rattle.serde_json.specs.Data.{Data}
use Rattle.serde_json.specs.Find.{as_object}
use Rattle.serde_json.specs.Read.{read}
use Rattle.lk_tables.specs.Reading.{if_object, object_in}

object_at : (b : Bool) (o : Option Data) (d : Data) → b ≡ true → o ≡ Some d → if_object d ≡ Some d → option_and_then if_object (if b then o else None) ≡ Some d
object_at true o d e is object = ap (option_and_then if_object) is ∙ object
object_at false o d e is object = absurd (true≢false (sym e))

itself : {X : Type 0} (o : Option X) (d : Data) → is_some o ≡ true → option_map (λ members. d) o ≡ Some d
itself None d e = absurd (true≢false (sym e))
itself (Some x) d e = refl

pub object_of : (text : List ℕ) (d : Data) → IsUtf8 text → read text ≡ Some d → is_some (as_object d) ≡ true → object_in text ≡ Some d
object_of text d utf8 is object = object_at _ _ d (is_utf8-from_IsUtf8 text utf8) is (itself (as_object d) d object)

nothing_at : (b : Bool) (o : Option Data) → (b ≡ true → ⊥) → option_and_then if_object (if b then o else None) ≡ None
nothing_at true o other = absurd (other refl)
nothing_at false o other = refl

pub no_utf8_no_object : (text : List ℕ) → (IsUtf8 text → ⊥) → object_in text ≡ None
no_utf8_no_object text other = nothing_at _ _ (λ e. other (IsUtf8-from_is_utf8 text e))
