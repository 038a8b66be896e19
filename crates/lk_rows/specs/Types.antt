-- Which tokens are which type of a signature, production by production: base types, records, variants, lists and functions
-- as in Links, without variables, effects, open rows and tuples (Cooper, Lindley, Wadler and Yallop, Links: web programming
-- without tiers, FMCO 2006).
use Rattle.std.specs.Prelude.{◌≡◌, Bool, true, List, [], ◌∷◌, ◌++◌, codes}
use Rattle.lk_ast.specs.declared.signature.SigField.{SigField}
use Rattle.lk_ast.specs.declared.signature.SigType.{SigType}
use Rattle.lk_ast.specs.declared.signature.SigType.TheVariants as sig
use Rattle.lk_ast.specs.declared.token.Token.{Token}
use Rattle.lk_read.specs.Kinds.{IsSign, IsTag, is_name, is_any_tag, word_of}

-- a label or a tag with its type
abbrev pub field : Token → SigType → SigField
field label ty = record { label = word_of label; ty = ty }

mutual
  pub data IsType : List Token → SigType → Type 0 where
    -- Int, Bool, String
    int : (t : Token) → IsTag (codes "Int") t → IsType (t ∷ []) sig.Int
    bool : (t : Token) → IsTag (codes "Bool") t → IsType (t ∷ []) sig.Bool
    text : (t : Token) → IsTag (codes "String") t → IsType (t ∷ []) sig.Text
    -- ()
    unit : (o c : Token) → IsSign (codes "(") o → IsSign (codes ")") c → IsType (o ∷ c ∷ []) (sig.Fields [])
    -- (l : T, m : T)
    fields : (o c : Token) {w : List Token} {parts : List SigField} → IsSign (codes "(") o → IsFields is_name w parts → IsSign (codes ")") c → IsType (o ∷ (w ++ c ∷ [])) (sig.Fields parts)
    -- [T]
    list : (o c : Token) {w : List Token} {item : SigType} → IsSign (codes "[") o → IsType w item → IsSign (codes "]") c → IsType (o ∷ (w ++ c ∷ [])) (sig.List item)
    -- [||]
    no_tags : (o c : Token) → IsSign (codes "[|") o → IsSign (codes "|]") c → IsType (o ∷ c ∷ []) (sig.Tags [])
    -- [|A : T, B : T|]
    tags : (o c : Token) {w : List Token} {parts : List SigField} → IsSign (codes "[|") o → IsFields is_any_tag w parts → IsSign (codes "|]") c → IsType (o ∷ (w ++ c ∷ [])) (sig.Tags parts)
    -- () -> T
    thunk : (o c a : Token) {w : List Token} {answer : SigType} → IsSign (codes "(") o → IsSign (codes ")") c → IsSign (codes "->") a → IsType w answer → IsType (o ∷ c ∷ a ∷ w) (sig.Fun [] answer)
    -- (T, T) -> T
    function : (o c a : Token) {u w : List Token} {params : List SigType} {answer : SigType} → IsSign (codes "(") o → IsTypes u params → IsSign (codes ")") c → IsSign (codes "->") a → IsType w answer → IsType (o ∷ (u ++ c ∷ a ∷ w)) (sig.Fun params answer)

  -- T, T
  pub data IsTypes : List Token → List SigType → Type 0 where
    first : {w : List Token} {ty : SigType} → IsType w ty → IsTypes w (ty ∷ [])
    next : {u w : List Token} (s : Token) {types : List SigType} {ty : SigType} → IsTypes u types → IsSign (codes ",") s → IsType w ty → IsTypes (u ++ s ∷ w) (types ++ ty ∷ [])

  -- l : T, m : T, where l and m are words that can name something, or tags
  pub data IsFields : (Token → Bool) → List Token → List SigField → Type 0 where
    one : {label : Token → Bool} {w : List Token} {part : SigField} → IsField label w part → IsFields label w (part ∷ [])
    more : {label : Token → Bool} {u w : List Token} (s : Token) {parts : List SigField} {part : SigField} → IsFields label u parts → IsSign (codes ",") s → IsField label w part → IsFields label (u ++ s ∷ w) (parts ++ part ∷ [])

  -- l : T
  pub data IsField : (Token → Bool) → List Token → SigField → Type 0 where
    labelled : {label : Token → Bool} (l c : Token) {w : List Token} {ty : SigType} → label l ≡ true → IsSign (codes ":") c → IsType w ty → IsField label (l ∷ c ∷ w) (field l ty)
