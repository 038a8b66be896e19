-- What a parse of the words says of their form.
use Rattle.std.proofs.Common.{◌≡◌, ◌≢◌, ℕ, List, [], ◌∷◌, true, refl, sym, ap, ap₂, subst, ◌∙◌, ⊎_elim, Option, None, option_and_then}
use Rattle.clap.specs.Simple.{App, HasMatchesOf, subcommand_of, subcommand_rows_of, is_simple}
use Rattle.clap.specs.Faults.{fault_of, is_simple_and_free}
use Rattle.clap.specs.Kinds.{HasKind, IsAmong, Kinds}
use Rattle.clap.specs.Values.{kind_of}
use Rattle.clap.specs.declared.error.Error.{Error}
use Rattle.clap.specs.declared.error.kind.ErrorKind.{ErrorKind}
use Rattle.clap.specs.declared.error.kind.ErrorKind.TheVariants.{OutOfMemory}
use Rattle.clap.specs.declared.parser.matches.ArgMatches.{ArgMatches}
use Rattle.clap.proofs.OnLiterals.{clap_on_literals}
use Rattle.lk_words.specs.Words.{command_of, form_of, links_app, unless}
use Rattle.lk_words.specs.declared.command.Command.{Command}

-- of this command clap says exactly what it makes of the words
exact : is_simple_and_free links_app ≡ true
unfolding clap_on_literals
exact = refl

simple : is_simple links_app ≡ true
unfolding clap_on_literals
simple = refl

abbrev met : List (List ℕ) → Option Command
met words = option_and_then command_of (subcommand_of links_app words)

form_is : (words : List (List ℕ)) → unless (fault_of links_app words) (met words) ≡ form_of words
unfolding form_of
form_is words = refl

no_form : (kinds : Kinds) (k : ErrorKind) (command : Option Command) → IsAmong k kinds → unless kinds command ≡ None
no_form [] k command among = absurd among
no_form (x ∷ xs) k command among = refl

-- words that a parse refuses, but for want of memory, have no form
pub form_of_refused : (app : App) (words : List (List ℕ)) (e : Error) → app ≡ links_app → (is_simple_and_free app ≡ true → HasKind (fault_of app words) e) → kind_of e ≢ OutOfMemory → form_of words ≡ None
form_of_refused app words e is fails other =
    let kind : HasKind (fault_of links_app words) e = subst (λ a. HasKind (fault_of a words) e) is (fails (ap is_simple_and_free is ∙ exact)) in
    sym (form_is words) ∙ no_form _ (kind_of e) (met words) (⊎_elim (λ memory. absurd (other memory)) (λ among. among) kind)

-- and others the form of the subcommand that it met
pub form_of_parsed : (app : App) (words : List (List ℕ)) (m : ArgMatches) → app ≡ links_app → (is_simple_and_free app ≡ true → fault_of app words ≡ []) → HasMatchesOf app words m → option_and_then command_of (subcommand_rows_of m) ≡ form_of words
form_of_parsed app words m is fails matches =
    let kinds : fault_of links_app words ≡ [] = ap (λ a. fault_of a words) (sym is) ∙ fails (ap is_simple_and_free is ∙ exact) in
    let rows : subcommand_rows_of m ≡ subcommand_of links_app words = (matches (ap is_simple is ∙ simple)).1 ∙ ap (λ a. subcommand_of a words) is in
    ap₂ unless (sym kinds) (ap (option_and_then command_of) rows) ∙ form_is words
