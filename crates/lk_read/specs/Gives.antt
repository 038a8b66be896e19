-- What a function that reads answers.
use Rattle.std.specs.Prelude.{◌≡◌, List, [], Result, Ok, Err}
use Rattle.std.specs.Borrow.{Bor}
use Rattle.lk_ast.specs.declared.token.Token.{Token}
use Rattle.lk_read.specs.Reader.{Reading}
use Rattle.lk_read.specs.declared.stop.Stop.{Stop}
use Rattle.lk_read.specs.declared.stop.Stop.TheVariants.{NoMemory}

-- reading stops so, unless it was memory that ran out
abbrev pub StopsAs : {X : Type 0} → Stop → Reading X → Type 0
StopsAs NoMemory reading = Unit {0}
StopsAs why reading = reading ≡ Err why

-- what is read, or why reading stops
abbrev pub Gives : {X : Type 0} → Result (X × Bor (List Token)) Stop → Reading X → Type 0
Gives (Ok found) reading = reading ≡ Ok (found.0, found.1.now)
Gives (Err why) reading = StopsAs why reading

-- the same of a token, which takes no memory
abbrev pub GivesToken : Result (Bor Token × Bor (List Token)) Stop → Reading Token → Type 0
GivesToken (Ok found) reading = reading ≡ Ok (found.0.now, found.1.now)
GivesToken (Err why) reading = reading ≡ Err why

-- what all tokens are, or why reading stops
abbrev pub GivesAll : {X : Type 0} → Result X Stop → Reading X → Type 0
GivesAll (Ok x) reading = reading ≡ Ok (x, [])
GivesAll (Err why) reading = StopsAs why reading
