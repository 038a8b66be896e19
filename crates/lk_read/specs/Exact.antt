-- What a reader of a whole language owes: the one thing that the tokens are, or the first token that fits nowhere.
use Rattle.std.specs.Prelude.{◌≡◌, ℕ, List, [], ◌∷◌, ◌++◌, length}
use Rattle.lk_ast.specs.declared.token.Token.{Token}

-- which tokens are which thing
abbrev pub Language : Type 0 → Type 1
Language X = List Token → X → Type 0

-- these tokens begin something of the language
abbrev pub CanGoOn : {X : Type 0} → Language X → List Token → Type 0
CanGoOn {X} L front = (more : List Token) × (x : X) × L (front ++ more) x

-- The token of this number is the first one such that nothing of the language begins with the tokens up to and including
-- it: the viable-prefix property (Aho, Lam, Sethi and Ullman, Compilers, 2006, section 4.1.3). At the end all tokens fit,
-- and more are needed.
pub record IsUnexpected {X : Type 0} (L : Language X) (tokens : List Token) (at : ℕ) : Type 0 where
  pub front : List Token
  pub rest : List Token
  pub is : tokens ≡ front ++ rest
  pub place : length front ≡ at
  pub fits : CanGoOn L front
  pub next : (token : Token) (behind : List Token) → rest ≡ token ∷ behind → CanGoOn L (front ++ token ∷ []) → ⊥
  pub none : (x : X) → L tokens x → ⊥

-- a front of the tokens is this, and these are left
abbrev pub IsFront : {X : Type 0} → Language X → List Token → X → List Token → Type 0
IsFront L tokens x rest = (front : List Token) × (tokens ≡ front ++ rest) × L front x

-- the tokens are this, and nothing else
pub record IsOnly {X : Type 0} (L : Language X) (tokens : List Token) (x : X) : Type 0 where
  pub is : L tokens x
  pub only : (other : X) → L tokens other → other ≡ x
