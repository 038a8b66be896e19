-- Readers of tokens, from left to right with one token of look-ahead, and the combinators that they are made of: a
-- reader takes tokens off the front and gives a value and the tokens that are left (Wadler, How to replace failure by a
-- list of successes, FPCA 1985; the combinators of Hutton and Meijer, Monadic parser combinators, 1996).
--
-- The combinators are folded (`unfoldable`), so that a law about one finds its arguments. A function that does what a
-- reader does names, in its `#[tactic(auto, unfolding(..))]`, the reader and the combinators in it.
use Rattle.std.specs.Prelude.{ℕ, zero, suc, List, [], ◌∷◌, length, Bool, false, Result, Ok, Err, if◌then◌else◌}
use Rattle.lk_ast.specs.declared.token.Token.{Token}
use Rattle.lk_read.specs.declared.stop.Stop.{Stop}
use Rattle.lk_read.specs.declared.stop.Stop.TheVariants.{At, Spent}

-- a value and the tokens that are left, or why reading stopped
abbrev pub Reading : Type 0 → Type 0
Reading X = Result (X × List Token) Stop

abbrev pub Reader : Type 0 → Type 0
Reader X = List Token → Reading X

-- nothing is read, and x is the value
unfoldable pub give : {X : Type 0} → X → Reader X
give x tokens = Ok (x, tokens)

-- the next token fits nowhere
unfoldable pub stop : {X : Type 0} → Reader X
stop tokens = Err (At (length tokens))

-- there is no room left
unfoldable pub tired : {X : Type 0} → Reader X
tired tokens = Err Spent

-- what a reading goes on to
abbrev pub go_on : {X Y : Type 0} → Reading X → (X → Reader Y) → Reading Y
go_on (Ok x) f = f x.0 x.1
go_on (Err e) f = Err e

-- r, and then f of its value
unfoldable pub bind : {X Y : Type 0} → Reader X → (X → Reader Y) → Reader Y
bind r f tokens = go_on (r tokens) f

-- whether there is a next token that passes the test
abbrev pub peek : (Token → Bool) → List Token → Bool
peek test [] = false
peek test (token ∷ tokens) = test token

-- r where the next token passes the test, else s
unfoldable pub when : {X : Type 0} → (Token → Bool) → Reader X → Reader X → Reader X
when test r s tokens = if peek test tokens then r tokens else s tokens

-- r where this holds; else the next token fits nowhere
unfoldable pub given : {X : Type 0} → Bool → Reader X → Reader X
given holds r tokens = if holds then r tokens else stop tokens

-- one token that passes the test
abbrev pub one : (Token → Bool) → Reader Token
one test [] = Err (At 0)
one test (token ∷ tokens) = if test token then Ok (token, tokens) else Err (At (suc (length tokens)))

-- one token that passes the test, and then f of it
unfoldable pub eat : {Y : Type 0} → (Token → Bool) → (Token → Reader Y) → Reader Y
eat test f tokens = go_on (one test tokens) f

-- turns, as long as the next token passes the test at what is read so far; so many at most
unfoldable pub many : {A : Type 0} → (A → Token → Bool) → (A → Reader A) → ℕ → A → Reader A
many test turn zero a = when (test a) tired (give a)
many test turn (suc n) a = when (test a) (bind (turn a) (many test turn n)) (give a)

-- the end of the tokens
unfoldable pub finish : {X : Type 0} → X → Reader X
finish x [] = Ok (x, [])
finish x (token ∷ tokens) = Err (At (suc (length tokens)))
