-- Places worked by hand, and what the definitions compute of them.
use Rattle.std.proofs.Common.{◌≡◌, ℕ, List, [], ◌∷◌, ◌++◌, codes, replicate, refl}
use Rattle.std.specs.Fmt.{digits}
use Rattle.std.specs.Str.{chars}
use Rattle.lk_ast.specs.declared.place.Span.{Span}
use Rattle.lk_explain.specs.Places.{position_in}
use Rattle.lk_explain.specs.Shown.{excerpt_of, message_of, placeless_of, shown_part_of}

abbrev from : ℕ → ℕ → Span
from start end = record { start = start; end = end }

-- two lines, of which the second is empty, and a third with a character of two bytes: `xéy`
abbrev three : List ℕ
three = codes "a" ++ (10 ∷ 10 ∷ codes "x" ++ (0xC3 ∷ 0xA9 ∷ codes "y"))

positions : (position_in three 0 ≡ record { line = 1; column = 1 }) × (position_in three 1 ≡ record { line = 1; column = 2 })
    × (position_in three 2 ≡ record { line = 2; column = 1 }) × (position_in three 3 ≡ record { line = 3; column = 1 })
    × (position_in three 6 ≡ record { line = 3; column = 3 }) × (position_in three 9 ≡ record { line = 3; column = 4 })
positions = (refl, refl, refl, refl, refl, refl)

-- a tab takes one column; the carets go no further than the line
abbrev program : List ℕ
program = codes "f" ++ (13 ∷ 10 ∷ 9 ∷ codes "go(1);" ++ (13 ∷ 10 ∷ codes "h"))

excerpts : (excerpt_of program (from 4 6) ≡ codes " go(1);" ++ (10 ∷ codes " ^^" ++ (10 ∷ [])))
    × (excerpt_of program (from 4 99) ≡ codes " go(1);" ++ (10 ∷ codes " ^^^^^^" ++ (10 ∷ [])))
    × (excerpt_of program (from 13 13) ≡ codes "h" ++ (10 ∷ codes " ^" ++ (10 ∷ [])))
    × (excerpt_of three (from 4 6) ≡ codes "x" ++ (0xC3 ∷ 0xA9 ∷ codes "y" ++ (10 ∷ codes " ^" ++ (10 ∷ []))))
unfolding chars lib.Utf8.encode
excerpts = (refl, refl, refl, refl)

-- from the hundredth character on, a line is shown from the fortieth one before the place
abbrev long : List ℕ
long = replicate 60 97 ++ (replicate 40 98 ++ (99 ∷ replicate 100 100))

long_lines : (excerpt_of long (from 100 102) ≡ replicate 40 98 ++ (99 ∷ replicate 79 100 ++ (10 ∷ replicate 40 32 ++ codes "^^" ++ (10 ∷ []))))
    × (excerpt_of long (from 99 300) ≡ replicate 60 97 ++ (replicate 40 98 ++ (99 ∷ replicate 19 100 ++ (10 ∷ replicate 99 32 ++ replicate 21 94 ++ (10 ∷ [])))))
unfolding chars lib.Utf8.encode
long_lines = (refl, refl)

parts : (shown_part_of program (from 4 6) ≡ codes "go") × (shown_part_of program (from 0 4) ≡ codes "f   ") × (shown_part_of three (from 4 6) ≡ 0xC3 ∷ 0xA9 ∷ [])
    × (shown_part_of long (from 60 100) ≡ replicate 40 98) × (shown_part_of long (from 60 101) ≡ replicate 40 98 ++ codes "..")
unfolding chars lib.Utf8.encode
parts = (refl, refl, refl, refl, refl)

messages : (message_of (codes "p.links") program (from 4 6) (codes "no") ≡ codes "p.links:2:2: no" ++ (10 ∷ codes " go(1);" ++ (10 ∷ codes " ^^" ++ (10 ∷ []))))
    × (placeless_of (codes "p.links") (codes "no") ≡ codes "p.links: no" ++ (10 ∷ []))
unfolding chars digits lib.Utf8.encode
messages = (refl, refl)
