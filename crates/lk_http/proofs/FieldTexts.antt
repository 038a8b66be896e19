-- Fields as they are written.
use Rattle.std.proofs.Common.{◌≡◌, true, ℕ, nat_lt, IsTrue, List, [], ◌∷◌, ◌++◌, length, arith, append_assoc, ◌∙◌, codes, refl}
use Rattle.std.specs.Prelude.{All}
use Rattle.std.specs.List.{list_all}
use Rattle.std.proofs.lemmas.Bool.Decides.{nat_tests}
use Rattle.std.proofs.lemmas.List.Elements.{All-cons, All-nil}
use Rattle.std.proofs.lemmas.List.Sums.{AllPass-from_list_all}
use Rattle.httparse.specs.Grammar.{AllPass, Field, IsField, IsToken, crlf, is_token_byte, is_value_byte}

-- a field as it is written
abbrev pub field : List ℕ → List ℕ → Field
field name value = record { name = name; raw = 32 ∷ value; end = crlf }

abbrev content_type : Field
content_type = field (codes "Content-Type") (codes "application/json")

abbrev content_length : List ℕ → Field
content_length digits = field (codes "Content-Length") digits

abbrev connection : Field
connection = field (codes "Connection") (codes "close")

-- the fields of all messages, by the digits of the length
abbrev pub last_fields : List ℕ → List Field
last_fields digits = content_type ∷ content_length digits ∷ connection ∷ []

pub is_token : (bytes : List ℕ) → nat_lt 0 (length bytes) ≡ true → list_all is_token_byte bytes ≡ true → IsToken bytes
is_token bytes some all = (grind (arith, nat_tests), AllPass-from_list_all is_token_byte bytes all)

pub is_field : (name value : List ℕ) → IsToken name → AllPass is_value_byte value → IsField (field name value)
is_field name value token pass = record { name = token; raw = All-cons (λ b. IsTrue (is_value_byte b)) 32 value refl pass }

-- a field whose parts are known
pub known : (name value : List ℕ) → nat_lt 0 (length name) ≡ true → list_all is_token_byte name ≡ true → list_all is_value_byte value ≡ true → IsField (field name value)
known name value some token pass = is_field name value (is_token name some token) (AllPass-from_list_all is_value_byte value pass)

pub are_last_fields : (digits : List ℕ) → AllPass is_value_byte digits → All IsField (last_fields digits)
unfolding is_token_byte
are_last_fields digits pass =
    All-cons IsField content_type (content_length digits ∷ connection ∷ []) (known (codes "Content-Type") (codes "application/json") refl refl refl)
    (All-cons IsField (content_length digits) (connection ∷ []) (is_field (codes "Content-Length") digits (is_token (codes "Content-Length") refl refl) pass)
    (All-cons IsField connection [] (known (codes "Connection") (codes "close") refl refl refl) (All-nil IsField)))

-- four lists, one behind the other
pub seam : (a b c d : List ℕ) → ((a ++ b) ++ c) ++ d ≡ a ++ (b ++ (c ++ d))
seam a b c d = append_assoc (a ++ b) c d ∙ append_assoc a b (c ++ d)
