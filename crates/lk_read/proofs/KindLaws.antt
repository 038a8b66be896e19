-- What the tests of tokens say: a token of each kind passes its own test, and no test of another kind.
use Rattle.std.proofs.Common.{◌≡◌, ℕ, true, false, List, refl, ap}
use Rattle.std.specs.Prelude.{codes}
use Rattle.std.specs.Str.{bytes_eq}
use Rattle.std.proofs.lemmas.Slice.Eq.{bytes_eq-Decides}
use Rattle.lk_ast.specs.declared.token.Token.{Token}
use Rattle.lk_ast.specs.declared.token.TokenKind.{TokenKind}
use Rattle.lk_ast.specs.declared.token.TokenKind.TheVariants.{Word, Tag, Int, Text, Sign}
use Rattle.lk_read.specs.Keywords.{is_keyword}
use Rattle.lk_read.specs.Kinds.{is_sign_kind, is_word_kind, is_tag_kind, is_name_kind, is_any_tag_kind, is_sign, is_word, is_tag, is_name, is_any_tag, IsSign, IsWord, IsTag, IsName, IsAnyTag}
use Rattle.lk_read.proofs.Laws.{Means}

-- ---- what the tests mean, with a token that passes each

abbrev pub some_token : TokenKind → Token
some_token kind = record { span = record { start = 0; end = 0 }; kind = kind }

sign_kind : (s : List ℕ) (k : TokenKind) → is_sign_kind s k ≡ true → k ≡ Sign s
sign_kind s (Word b) e = absurd cc
sign_kind s (Tag b) e = absurd cc
sign_kind s (Int b) e = absurd cc
sign_kind s (Text b) e = absurd cc
sign_kind s (Sign b) e = ap Sign ((bytes_eq-Decides b s).0 e)

word_kind : (s : List ℕ) (k : TokenKind) → is_word_kind s k ≡ true → k ≡ Word s
word_kind s (Word b) e = ap Word ((bytes_eq-Decides b s).0 e)
word_kind s (Tag b) e = absurd cc
word_kind s (Int b) e = absurd cc
word_kind s (Text b) e = absurd cc
word_kind s (Sign b) e = absurd cc

tag_kind : (s : List ℕ) (k : TokenKind) → is_tag_kind s k ≡ true → k ≡ Tag s
tag_kind s (Word b) e = absurd cc
tag_kind s (Tag b) e = ap Tag ((bytes_eq-Decides b s).0 e)
tag_kind s (Int b) e = absurd cc
tag_kind s (Text b) e = absurd cc
tag_kind s (Sign b) e = absurd cc

pub a_sign : (s : List ℕ) → Means (is_sign s) (IsSign s)
unfolding is_sign
a_sign s = record { example = some_token (Sign s); passes = (bytes_eq-Decides s s).1 refl; means = λ t e. sign_kind s t.kind e }

pub a_word : (s : List ℕ) → Means (is_word s) (IsWord s)
unfolding is_word
a_word s = record { example = some_token (Word s); passes = (bytes_eq-Decides s s).1 refl; means = λ t e. word_kind s t.kind e }

pub a_tag : (s : List ℕ) → Means (is_tag s) (IsTag s)
unfolding is_tag
a_tag s = record { example = some_token (Tag s); passes = (bytes_eq-Decides s s).1 refl; means = λ t e. tag_kind s t.kind e }

pub a_name : Means is_name IsName
unfolding is_name is_keyword
a_name = record { example = some_token (Word (codes "x")); passes = refl; means = λ t e. e }

pub any_tag : Means is_any_tag IsAnyTag
unfolding is_any_tag
any_tag = record { example = some_token (Tag (codes "T")); passes = refl; means = λ t e. e }

-- ---- a sign

pub sign_sign : (a b : List ℕ) (t : Token) → IsSign a t → is_sign b t ≡ bytes_eq a b
unfolding is_sign
sign_sign a b t e = ap (is_sign_kind b) e

pub sign_word : (a b : List ℕ) (t : Token) → IsSign a t → is_word b t ≡ false
unfolding is_word
sign_word a b t e = ap (is_word_kind b) e

pub sign_name : (a : List ℕ) (t : Token) → IsSign a t → is_name t ≡ false
unfolding is_name
sign_name a t e = ap is_name_kind e

-- ---- a word

pub word_sign : (a b : List ℕ) (t : Token) → IsWord a t → is_sign b t ≡ false
unfolding is_sign
word_sign a b t e = ap (is_sign_kind b) e

pub word_word : (a b : List ℕ) (t : Token) → IsWord a t → is_word b t ≡ bytes_eq a b
unfolding is_word
word_word a b t e = ap (is_word_kind b) e

-- ---- a tag

pub tag_sign : (a b : List ℕ) (t : Token) → IsTag a t → is_sign b t ≡ false
unfolding is_sign
tag_sign a b t e = ap (is_sign_kind b) e

pub tag_tag : (a b : List ℕ) (t : Token) → IsTag a t → is_tag b t ≡ bytes_eq a b
unfolding is_tag
tag_tag a b t e = ap (is_tag_kind b) e

pub tag_name : (a : List ℕ) (t : Token) → IsTag a t → is_name t ≡ false
unfolding is_name
tag_name a t e = ap is_name_kind e

-- ---- a name

name_sign_kind : (b : List ℕ) (k : TokenKind) → is_name_kind k ≡ true → is_sign_kind b k ≡ false
name_sign_kind b (Word c) e = refl
name_sign_kind b (Tag c) e = absurd cc
name_sign_kind b (Int c) e = absurd cc
name_sign_kind b (Text c) e = absurd cc
name_sign_kind b (Sign c) e = absurd cc

pub name_sign : (b : List ℕ) (t : Token) → IsName t → is_sign b t ≡ false
unfolding is_name is_sign
name_sign b t e = name_sign_kind b t.kind e

-- ---- any tag

any_tag_sign_kind : (b : List ℕ) (k : TokenKind) → is_any_tag_kind k ≡ true → is_sign_kind b k ≡ false
any_tag_sign_kind b (Word c) e = absurd cc
any_tag_sign_kind b (Tag c) e = refl
any_tag_sign_kind b (Int c) e = absurd cc
any_tag_sign_kind b (Text c) e = absurd cc
any_tag_sign_kind b (Sign c) e = absurd cc

pub any_tag_sign : (b : List ℕ) (t : Token) → IsAnyTag t → is_sign b t ≡ false
unfolding is_any_tag is_sign
any_tag_sign b t e = any_tag_sign_kind b t.kind e
