-- Reading a type from left to right. A reader takes those that it calls as arguments; `type_at` ties the knot. The
-- number is room for nesting and turns.
use Rattle.std.specs.Prelude.{ℕ, zero, suc, Bool, List, [], ◌∷◌, ◌++◌, codes}
use Rattle.lk_ast.specs.declared.signature.SigField.{SigField}
use Rattle.lk_ast.specs.declared.signature.SigType.{SigType}
use Rattle.lk_ast.specs.declared.signature.SigType.TheVariants as sig
use Rattle.lk_ast.specs.declared.token.Token.{Token}
use Rattle.lk_read.specs.Kinds.{is_sign, is_tag, is_name, is_any_tag}
use Rattle.lk_read.specs.Reader.{Reader, give, tired, bind, when, eat, many, finish}
use Rattle.lk_rows.specs.Types.{field}
use Rattle.lk_rows.specs.declared.types.Label.{Label}
use Rattle.lk_rows.specs.declared.types.Label.TheVariants.{Name, Tag}

-- whether a comma comes next, whatever is read so far
abbrev pub comma : {A : Type 0} → A → Token → Bool
comma a = is_sign (codes ",")

-- ---- parts

-- whether a token is a label of this kind
abbrev pub is_label : Label → Token → Bool
is_label Name = is_name
is_label Tag = is_any_tag

unfoldable pub field_with : (Token → Bool) → Reader SigType → Reader SigField
field_with label type = eat label (λ l. eat (is_sign (codes ":")) (λ c. bind type (λ ty. give (field l ty))))

unfoldable pub fields_turn : (Token → Bool) → Reader SigType → List SigField → Reader (List SigField)
fields_turn label type parts = eat (is_sign (codes ",")) (λ s. bind (field_with label type) (λ part. give (parts ++ part ∷ [])))

unfoldable pub fields_with : (Token → Bool) → Reader SigType → ℕ → Reader (List SigField)
fields_with label type n = bind (field_with label type) (λ part. many comma (fields_turn label type) n (part ∷ []))

unfoldable pub types_turn : Reader SigType → List SigType → Reader (List SigType)
types_turn type types = eat (is_sign (codes ",")) (λ s. bind type (λ ty. give (types ++ ty ∷ [])))

unfoldable pub types_with : Reader SigType → ℕ → Reader (List SigType)
types_with type n = bind type (λ ty. many comma (types_turn type) n (ty ∷ []))

-- ---- behind `(`

unfoldable pub unit_with : Reader SigType → Reader SigType
unit_with type = eat (is_sign (codes ")")) (λ c. when (is_sign (codes "->"))
    (eat (is_sign (codes "->")) (λ a. bind type (λ answer. give (sig.Fun [] answer))))
    (give (sig.Fields [])))

unfoldable pub record_with : Reader SigType → ℕ → Reader SigType
record_with type n = bind (fields_with (is_label Name) type n) (λ parts. eat (is_sign (codes ")")) (λ c. give (sig.Fields parts)))

unfoldable pub function_with : Reader SigType → ℕ → Reader SigType
function_with type n = bind (types_with type n) (λ params. eat (is_sign (codes ")")) (λ c. eat (is_sign (codes "->")) (λ a. bind type (λ answer. give (sig.Fun params answer)))))

-- ---- a type

unfoldable pub round_with : Reader SigType → ℕ → Reader SigType
round_with type n = eat (is_sign (codes "(")) (λ o. when (is_sign (codes ")")) (unit_with type) (when is_name (record_with type n) (function_with type n)))

unfoldable pub list_with : Reader SigType → Reader SigType
list_with type = eat (is_sign (codes "[")) (λ o. bind type (λ item. eat (is_sign (codes "]")) (λ c. give (sig.List item))))

-- behind `[|`
unfoldable pub no_tags : Reader SigType
no_tags = eat (is_sign (codes "|]")) (λ c. give (sig.Tags []))

unfoldable pub some_tags_with : Reader SigType → ℕ → Reader SigType
some_tags_with type n = bind (fields_with (is_label Tag) type n) (λ parts. eat (is_sign (codes "|]")) (λ c. give (sig.Tags parts)))

unfoldable pub tags_with : Reader SigType → ℕ → Reader SigType
tags_with type n = eat (is_sign (codes "[|")) (λ o. when (is_sign (codes "|]")) no_tags (some_tags_with type n))

unfoldable pub named : List ℕ → SigType → Reader SigType
named name ty = eat (is_tag name) (λ t. give ty)

unfoldable pub base : Reader SigType
base = when (is_tag (codes "Int")) (named (codes "Int") sig.Int)
    (when (is_tag (codes "Bool")) (named (codes "Bool") sig.Bool)
    (named (codes "String") sig.Text))

unfoldable pub type_with : Reader SigType → ℕ → Reader SigType
type_with type n = when (is_sign (codes "(")) (round_with type n)
    (when (is_sign (codes "[")) (list_with type)
    (when (is_sign (codes "[|")) (tags_with type n) base))

-- ---- the knot

unfoldable pub type_at : ℕ → Reader SigType
type_at zero = tired
type_at (suc n) = type_with (type_at n) n

-- a type, and no token behind it
unfoldable pub sig_at : ℕ → Reader SigType
sig_at n = bind (type_at n) (λ ty. finish ty)
