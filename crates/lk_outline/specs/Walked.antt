-- What a walk makes of the sites that were found before, in the words of the outline.
use Rattle.std.specs.Prelude.{ℕ, ◌+◌, List, [], ◌∷◌, ◌++◌, Option, length}
use Rattle.lk_ast.specs.declared.place.Span.{Span}
use Rattle.lk_typing.specs.Names.{Named}
use Rattle.lk_outline.specs.Outline.{Around, Bound, Context, In, Kind, Site, all_bound, before, block, in_block, plain, some_bound}
use Rattle.lk_outline.specs.Shown.{shown_around}
use Rattle.lk_outline.specs.declared.walk.Round.{Round}

-- nothing is said of such a node
abbrev pub unsaid : Kind
unsaid = Kind.Other

-- what stands round an expression in which these names are seen
abbrev pub seen : Round → Named ℕ → Context
seen round scope = record { around = shown_around round.around; inside = round.inside; scope = scope }

-- the sites with those of one more part
unfoldable pub put : In → Context → List Site → List Site
put part c found = found ++ part c (length found)

abbrev pub noted_site : Span → Kind → Round → ℕ → Site
noted_site span kind round number = record { number = number; span = span; kind = kind; around = shown_around round.around; inside = round.inside }

-- the sites with one more
unfoldable pub noted : Span → Kind → Round → List Site → List Site
noted span kind round found = found ++ noted_site span kind round (length found) ∷ []

-- the same of parts one after another
abbrev pub put_all : List In → Context → List Site → List Site
put_all [] c found = found
put_all (part ∷ parts) c found = put_all parts c (put part c found)

abbrev pub put_bound : List Bound → ℕ → Context → List Site → List Site
put_bound [] binder c found = found
put_bound (part ∷ parts) binder c found = put_bound parts binder c (put (part binder) c found)

-- the numbers at which such parts begin
abbrev pub begin_at : List In → Context → List Site → List ℕ
begin_at [] c found = []
begin_at (part ∷ parts) c found = length found ∷ begin_at parts c (put part c found)

-- a query, and an update or a deletion
abbrev pub querying : Span → In → In
querying span e = block span Kind.Query (in_block Around.Query e)

abbrev pub changing : Span → Bound → In
changing span change c n = block span Kind.Change (in_block Around.Change (change (1 + n))) c n

-- a switch
abbrev pub switching : Span → In → List Bound → Option Bound → In
switching span e cases last c n = plain span Kind.Other (before e (before (all_bound cases (1 + n)) (some_bound last (1 + n)))) c n

-- a comparison by `==` or `<>`, and one by an order, whose left operand is the next node
abbrev pub equating : Span → In → In → In
equating span a b = λ c n. plain span (Kind.Equality (1 + n)) (before a b) c n

abbrev pub ordering : Span → In → In → In
ordering span a b = λ c n. plain span (Kind.Order (1 + n)) (before a b) c n
