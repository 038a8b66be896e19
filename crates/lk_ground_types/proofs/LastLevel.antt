-- The type at the last level of a table.
use Rattle.std.proofs.Common.{◌≡◌, List, [], ◌∷◌, ◌++◌, length, sym, ap, ◌∙◌}
use Rattle.std.proofs.lemmas.List.Sums.{fold-append}
use Rattle.lk_types.proofs.Built.{at_seam, built_long}
use Rattle.lk_types.specs.Levels.{at, built, made, with_level}
use Rattle.lk_types.specs.declared.levels.Level.{Level}

pub built_last : (xs : List Level) (l : Level) → at (built (xs ++ l ∷ [])) (length xs) ≡ made (built xs) l
built_last xs l =
    ap (λ ts. at ts (length xs)) (fold-append with_level [] xs (l ∷ []))
    ∙ ap (at (built xs ++ made (built xs) l ∷ [])) (sym (built_long xs))
    ∙ at_seam (built xs) (made (built xs) l) []
