-- The store that is handed in, and answers for want of memory.
use Rattle.std.proofs.Common.{◌≡◌, refl, inl, ap, subst, arith, ◌∙◌, ℕ, List, [], ◌∷◌, All, Bool, true, false, bytes_eq, find, cond, length, if◌then◌else◌, codes}
use Rattle.std.specs.Prelude.{Option, Some, None, Result, option_map}
use Rattle.std.specs.List.{AllByRecursion}
use Rattle.std.proofs.lemmas.List.Elements.{recursion_from_All}
use Rattle.lk_ast.specs.Tables.{Tables}
use Rattle.lk_cli.specs.Answers.{Answers, Ends, IsTold, RefusedBy, TellsReads}
use Rattle.lk_cli.specs.Seen.{FilesSeen, StoreSeen, store_seen, stores_seen}
use Rattle.lk_cli.specs.declared.answer.Answer.{Answer}
use Rattle.lk_cli.specs.declared.answer.Refusal.{Refusal}
use Rattle.lk_cli.specs.declared.answer.Refusal.TheVariants.{NoMemory}
use Rattle.lk_cli.specs.declared.refused.Refused.{Refused}
use Rattle.lk_process.specs.Statuses.{EndsFor, memory_for}
use Rattle.lk_words.specs.Words.{form_of, store_of}
use Rattle.lk_words.specs.declared.command.Command.{Command}
use Rattle.lk_words.specs.declared.command.Command.TheVariants.{Check, Labels, Source, Sql}

-- want of memory is an answer to any words, where no file was read
pub no_memory : (files : FilesSeen) (given : Option StoreSeen) (form : Option Command) → files.after ≡ files.before → RefusedBy files (record { given = given; back = None }) form NoMemory
no_memory files given None same = (refl, tt)
no_memory files given (Some (Check command)) same = (refl, inl tt)
no_memory files given (Some (Sql command)) same = (refl, inl tt)
no_memory files given (Some (Labels command)) same = (refl, inl tt)
no_memory files given (Some (Source command)) same = inl (refl, refl, same)

module _ {S : Type 0} (name : S → List ℕ) (tables : S → Option Tables) (commits faults : S → ℕ) (wanted : List ℕ) where
  -- what is picked of one store in memory
  picked : (store : S) (b : Bool) → tables store ≡ Some (λ x. []) → commits store ≡ 0 → faults store ≡ 0
      → option_map (store_seen tables commits faults) (cond b (Some store) None) ≡ (if b then Some (record { tables = Some (λ x. []); commits = 0; faults = 0 }) else None)
  picked store true told new none = λ i. Some (record { tables = told i; commits = new i; faults = none i })
  picked store false told new none = refl

  by_one : (stores : List S) → length stores ≡ 1 → AllByRecursion (λ s. name s ≡ codes "memory") stores → AllByRecursion (λ s. tables s ≡ Some (λ x. [])) stores
      → AllByRecursion (λ s. commits s ≡ 0) stores → AllByRecursion (λ s. faults s ≡ 0) stores
      → option_map (store_seen tables commits faults) (find (λ s. bytes_eq wanted (name s)) stores) ≡ memory_for wanted
  by_one [] one named told new none = absurd cc
  by_one (store ∷ []) one named told new none =
      ap (λ n. option_map (store_seen tables commits faults) (cond (bytes_eq wanted n) (Some store) None)) named.0 ∙ picked store (bytes_eq wanted (codes "memory")) told.0 new.0 none.0
  by_one (store ∷ other ∷ stores) one named told new none = absurd (omega (arith, one))

  -- of one store in memory without tables that one is seen, where it is wanted
  pub given_is : (stores : List S) → length stores ≡ 1 → All (λ s. name s ≡ codes "memory") stores → All (λ s. tables s ≡ Some (λ x. [])) stores → All (λ s. commits s ≡ 0) stores → All (λ s. faults s ≡ 0) stores
      → option_map (store_seen tables commits faults) (find (λ s. bytes_eq wanted (name s)) stores) ≡ memory_for wanted
  given_is stores one named told new none =
      by_one stores one (recursion_from_All _ stores named) (recursion_from_All _ stores told) (recursion_from_All _ stores new) (recursion_from_All _ stores none)

module _ {S : Type 0} (name : S → List ℕ) (tables : S → Option Tables) (commits faults : S → ℕ) where
  -- an answer over one store in memory without tables is one for the process
  pub ends_for : (stores : List S) (returned : Option S) (files : FilesSeen) (words : List (List ℕ)) (before after : Option (List ℕ)) (faults_before faults_after status : ℕ) (message : Option Refused)
      → length stores ≡ 1 → All (λ s. name s ≡ codes "memory") stores → All (λ s. tables s ≡ Some (λ x. [])) stores → All (λ s. commits s ≡ 0) stores → All (λ s. faults s ≡ 0) stores
      → ((answer : Result Answer Refusal) × Answers files (stores_seen name tables commits faults stores returned (store_of (form_of words))) (form_of words) answer
      × TellsReads files.before files.after answer × Ends answer before after faults_before faults_after status × IsTold answer message)
      → EndsFor files before after faults_before faults_after words status message
  ends_for stores returned files words before after faults_before faults_after status message one named told new none ended =
      let back : Option StoreSeen = option_map (store_seen tables commits faults) returned in
      let given = given_is name tables commits faults (store_of (form_of words)) stores one named told new none in
      (back, ended.0, subst (λ first. Answers files (record { given = first; back = back }) (form_of words) ended.0) given ended.1, ended.2, ended.3, ended.4)
