-- Kinds of tokens that can be written, in what is printed.
use Rattle.std.proofs.Common.{◌≡◌, true, List, [], ◌∷◌, ◌++◌, refl}
use Rattle.lk_ast.specs.declared.token.TokenKind.{TokenKind}
use Rattle.lk_print.specs.Good.{IsGood}
use Rattle.lk_print.specs.Printed.{Kinds, behind_commas, separated, joined, in_round, in_square, in_braces}
use Rattle.lk_print.proofs.GoodKinds.{is_constant, constant_good}
use Rattle.lk_print.proofs.Lists.{Each}

abbrev pub Good : Kinds → Type 0
Good kinds = Each IsGood kinds

pub good_append : (a : Kinds) {b : Kinds} → Good a → Good b → Good (a ++ b)
good_append [] Each.none h = h
good_append (k ∷ a) (Each.also g gs) h = Each.also g (good_append a gs h)

-- a word, tag or sign that stands in every text alike
pub constant : {kind : TokenKind} {kinds : Kinds} → is_constant kind ≡ true → Good kinds → Good (kind ∷ kinds)
constant {kind} is g = Each.also (constant_good kind is) g

closed : (a : Kinds) (kind : TokenKind) → is_constant kind ≡ true → Good a → Good (a ++ kind ∷ [])
closed a kind is g = good_append a g (constant is Each.none)

pub good_round : (a : Kinds) → Good a → Good (in_round a)
good_round a g = constant refl (closed a _ refl g)

pub good_square : (a : Kinds) → Good a → Good (in_square a)
good_square a g = constant refl (closed a _ refl g)

pub good_braces : (a : Kinds) → Good a → Good (in_braces a)
good_braces a g = constant refl (closed a _ refl g)

good_behind : (ws : List Kinds) → Each Good ws → Good (behind_commas ws)
good_behind [] Each.none = Each.none
good_behind (w ∷ ws) (Each.also g gs) = constant refl (good_append w g (good_behind ws gs))

pub good_separated : (ws : List Kinds) → Each Good ws → Good (separated ws)
good_separated [] Each.none = Each.none
good_separated (w ∷ ws) (Each.also g gs) = good_append w g (good_behind ws gs)

pub good_joined : (ws : List Kinds) → Each Good ws → Good (joined ws)
good_joined [] Each.none = Each.none
good_joined (w ∷ ws) (Each.also g gs) = good_append w g (good_joined ws gs)
