-- Why words ask for nothing.
use Rattle.std.specs.Prelude.{◌≡◌, ℕ, List, None}
use Rattle.lk_words.specs.Words.{form_of}
use Rattle.lk_words.specs.declared.error.WordsError.{WordsError}
use Rattle.lk_words.specs.declared.error.WordsError.TheVariants.{NoForm, NoMemory}

-- they have no form; or memory ran out, which has no cause
abbrev pub IsRefused : List (List ℕ) → WordsError → Type 0
IsRefused words NoForm = None ≡ form_of words
IsRefused words NoMemory = Unit {0}
