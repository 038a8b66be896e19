-- Words worked by hand, and the forms that the definition computes of them.
use Rattle.std.proofs.Common.{◌≡◌, ℕ, List, [], ◌∷◌, codes, refl, Option, Some, None}
use Rattle.std.specs.Fmt.{digits}
use Rattle.clap.proofs.OnLiterals.{clap_on_literals}
use Rattle.lk_words.specs.Words.{check_of, form_of, labels_of, source_of}
use Rattle.lk_words.specs.declared.command.Command.{Command}
use Rattle.lk_words.specs.declared.command.Command.TheVariants.{Check, Labels, Source}

-- `source p` with this argument and fuel, and no other option
abbrev source : List ℕ → ℕ → Option Command
source arg fuel = Some (Source (record { program = codes "p"; arg = arg; tables = None; store = codes "memory"; fuel = fuel }))

-- `check` of a file of this name
abbrev check : List ℕ → Option Command
check program = Some (Check (record { program = program }))

-- ---- words that have a form

plain : form_of (codes "source" ∷ codes "p" ∷ codes "a" ∷ []) ≡ source (codes "a") 1_000_000
unfolding clap_on_literals form_of source_of
plain = refl

option_between : form_of (codes "source" ∷ codes "p" ∷ codes "--fuel" ∷ codes "5" ∷ codes "a" ∷ []) ≡ source (codes "a") 5
unfolding clap_on_literals form_of source_of digits
option_between = refl

option_in_one_word : form_of (codes "source" ∷ codes "--fuel=1000000000" ∷ codes "p" ∷ codes "a" ∷ []) ≡ source (codes "a") 1_000_000_000
unfolding clap_on_literals form_of source_of digits
option_in_one_word = refl

all_options : form_of (codes "source" ∷ codes "--store=failing" ∷ codes "p" ∷ codes "--tables" ∷ codes "t" ∷ codes "a" ∷ codes "--fuel=7" ∷ [])
    ≡ Some (Source (record { program = codes "p"; arg = codes "a"; tables = Some (codes "t"); store = codes "failing"; fuel = 7 }))
unfolding clap_on_literals form_of source_of digits
all_options = refl

checked : (form_of (codes "check" ∷ codes "p" ∷ []) ≡ check (codes "p")) × (form_of (codes "check" ∷ codes "--" ∷ codes "-p" ∷ []) ≡ check (codes "-p"))
    × (form_of (codes "check" ∷ codes "source" ∷ []) ≡ check (codes "source"))
unfolding clap_on_literals form_of check_of
checked = (refl, refl, refl)

listed : form_of (codes "labels" ∷ codes "p" ∷ []) ≡ Some (Labels (record { program = codes "p" }))
unfolding clap_on_literals form_of labels_of
listed = refl

-- what begins with a `-` is an argument behind `--`, and `-` alone is one anywhere
hyphens : (form_of (codes "source" ∷ codes "p" ∷ codes "--" ∷ codes "-1" ∷ []) ≡ source (codes "-1") 1_000_000)
    × (form_of (codes "source" ∷ codes "p" ∷ codes "-" ∷ []) ≡ source (codes "-") 1_000_000)
unfolding clap_on_literals form_of source_of
hyphens = (refl, refl)

-- ---- words that have none

nothing : form_of [] ≡ None
unfolding clap_on_literals form_of
nothing = refl

other_counts : (form_of (codes "source" ∷ codes "p" ∷ []) ≡ None) × (form_of (codes "source" ∷ codes "p" ∷ codes "a" ∷ codes "b" ∷ []) ≡ None)
unfolding clap_on_literals form_of
other_counts = (refl, refl)

checked_otherwise : (form_of (codes "check" ∷ []) ≡ None) × (form_of (codes "check" ∷ codes "p" ∷ codes "a" ∷ []) ≡ None)
    × (form_of (codes "check" ∷ codes "p" ∷ codes "--fuel" ∷ codes "5" ∷ []) ≡ None) × (form_of (codes "Check" ∷ codes "p" ∷ []) ≡ None)
unfolding clap_on_literals form_of
checked_otherwise = (refl, refl, refl, refl)

listed_otherwise : (form_of (codes "labels" ∷ []) ≡ None) × (form_of (codes "labels" ∷ codes "p" ∷ codes "a" ∷ []) ≡ None)
unfolding clap_on_literals form_of
listed_otherwise = (refl, refl)

unknown_option : form_of (codes "source" ∷ codes "p" ∷ codes "-1" ∷ []) ≡ None
unfolding clap_on_literals form_of
unknown_option = refl

repeated_option : form_of (codes "source" ∷ codes "p" ∷ codes "a" ∷ codes "--fuel" ∷ codes "5" ∷ codes "--fuel=5" ∷ []) ≡ None
unfolding clap_on_literals form_of
repeated_option = refl

option_without_value : form_of (codes "source" ∷ codes "p" ∷ codes "a" ∷ codes "--fuel" ∷ []) ≡ None
unfolding clap_on_literals form_of
option_without_value = refl

-- the form with `--fuel` and this text
abbrev with_fuel : List ℕ → Option Command
with_fuel text = form_of (codes "source" ∷ codes "p" ∷ codes "a" ∷ codes "--fuel" ∷ text ∷ [])

no_numbers : (with_fuel (codes "0") ≡ None) × (with_fuel (codes "007") ≡ None) × (with_fuel (codes "+5") ≡ None)
    × (with_fuel (codes "1000000001") ≡ None) × (with_fuel [] ≡ None)
unfolding clap_on_literals form_of source_of digits
no_numbers = (refl, refl, refl, refl, refl)

help_and_version : (form_of (codes "--help" ∷ []) ≡ None) × (form_of (codes "help" ∷ []) ≡ None) × (form_of (codes "-h" ∷ []) ≡ None)
    × (form_of (codes "--version" ∷ []) ≡ None) × (form_of (codes "source" ∷ codes "--help" ∷ []) ≡ None) × (form_of (codes "check" ∷ codes "--help" ∷ []) ≡ None)
unfolding clap_on_literals form_of
help_and_version = (refl, refl, refl, refl, refl, refl)
