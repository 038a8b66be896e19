-- The status that the process ends with.
use Rattle.std.specs.Prelude.{ℕ, List, [], Option, Some, None, Result, if◌then◌else◌, bytes_eq, codes}
use Rattle.lk_cli.specs.Answers.{Answers, Ends, IsTold, TellsReads}
use Rattle.lk_cli.specs.Seen.{FilesSeen, StoreSeen}
use Rattle.lk_cli.specs.declared.answer.Answer.{Answer}
use Rattle.lk_cli.specs.declared.answer.Refusal.{Refusal}
use Rattle.lk_cli.specs.declared.refused.Refused.{Refused}
use Rattle.lk_words.specs.Words.{form_of, store_of}

-- the store that is handed in, where the words ask for it: a store in memory, whose tables are empty
abbrev pub memory_for : List ℕ → Option StoreSeen
memory_for wanted = if bytes_eq wanted (codes "memory") then Some (record { tables = Some (λ name. []); commits = 0; faults = 0 }) else None

-- there is an answer to these words, with its cause, which passes over no fault of the files, and the process ends with it: what the
-- sink took, the status and what is there for a message are those of this answer
abbrev pub EndsFor : FilesSeen → Option (List ℕ) → Option (List ℕ) → ℕ → ℕ → List (List ℕ) → ℕ → Option Refused → Type 0
EndsFor files before after faults_before faults_after words status told =
    (back : Option StoreSeen) × (answer : Result Answer Refusal)
    × Answers files (record { given = memory_for (store_of (form_of words)); back = back }) (form_of words) answer
    × TellsReads files.before files.after answer
    × Ends answer before after faults_before faults_after status
    × IsTold answer told
