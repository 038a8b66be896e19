-- The answers of stages as those of the whole.
use Rattle.std.proofs.Common.{◌≡◌, ◌≤◌, ◌⊎◌, refl, sym, ap, subst, inl, inr, ℕ, List, Result, Ok, Err, arith, bytes_eq, find}
use Rattle.std.specs.Prelude.{Option, Some, None, IfErr, IfOk, IfSome, IsSome, IsSomeAnd, option_map}
use Rattle.lk_ast.specs.Tables.{Tables, table_defs}
use Rattle.lk_ast.specs.declared.declaration.Program.{Program}
use Rattle.lk_ast.specs.declared.table.TableDef.{TableDef}
use Rattle.lk_ast.specs.declared.table.TableRows.{TableRows}
use Rattle.lk_outside.specs.Causes.{HasCause, Rose}
use Rattle.lk_outside.specs.Files.{Contents}
use Rattle.lk_outside.specs.declared.fault.OutFault.{OutFault}
use Rattle.lk_outside.specs.declared.fault.OutFault.TheVariants.{Failed, NoMemory}
use Rattle.lk_cli.specs.Answers.{Answers, AnswersSession, HasBrokenOff, HasNoRows, IsAcceptedOf, IsHandedBack, IsSessionOver, TellsReads, answer_of}
use Rattle.lk_cli.specs.Loading.{AreLeft, AreLoaded}
use Rattle.lk_cli.specs.Seen.{CameBack, FilesSeen, StoreSeen, StoresSeen, picked_seen, store_seen, stores_seen}
use Rattle.lk_words.specs.Words.{store_of}
use Rattle.lk_cli.specs.declared.answer.Answer.{Answer}
use Rattle.lk_cli.specs.declared.answer.Answer.TheVariants.{Schemes, Queries, Labelled, Run}
use Rattle.lk_cli.specs.declared.answer.Done.{Done}
use Rattle.lk_cli.specs.declared.answer.Refusal.{Refusal}
use Rattle.lk_cli.specs.declared.answer.Refusal.TheVariants as refused
use Rattle.lk_words.specs.declared.command.Command.{Command}
use Rattle.lk_words.specs.declared.command.Command.TheVariants.{Source}
use Rattle.lk_words.specs.declared.command.SourceCommand.{SourceCommand}

-- ---- the store

pub came_back : (stores : StoresSeen) (before after : StoreSeen) (P : StoreSeen → StoreSeen → Type 0) → stores.given ≡ Some before → stores.back ≡ Some after → before.faults ≤ after.faults → P before after → CameBack stores P
came_back stores before after P given back later is =
    subst (λ g. IsSomeAnd g (λ b. IsSomeAnd stores.back (λ a. (b.faults ≤ a.faults) × P b a))) (sym given) (subst (λ k. IsSomeAnd k (λ a. (before.faults ≤ a.faults) × P before a)) (sym back) (later, is))

pub none_picked : {S : Type 0} (tables : S → Option Tables) (commits faults : S → ℕ) (picked : Option S) → picked ≡ None → option_map (store_seen tables commits faults) picked ≡ None
none_picked tables commits faults picked is = ap (option_map (store_seen tables commits faults)) is

-- a store that was picked and not used comes back as it was
untouched : {S : Type 0} (tables : S → Option Tables) (commits faults : S → ℕ) (picked : Option S) → IsHandedBack (picked_seen tables commits faults picked picked)
untouched tables commits faults None = inl (refl, refl)
untouched tables commits faults (Some store) = inr (omega arith, refl)

module _ {S : Type 0} (name : S → List ℕ) (tables : S → Option Tables) (commits faults : S → ℕ) (stores : List S) (wanted : List ℕ) where
  -- the store that was picked is the first one of the name
  pub handed_back : (picked : Option S) → picked ≡ find (λ store. bytes_eq wanted (name store)) stores → IsHandedBack (stores_seen name tables commits faults stores picked wanted)
  handed_back picked first = subst (λ given. IsHandedBack (picked_seen tables commits faults given picked)) first (untouched tables commits faults picked)

  pub over_picked : (files : FilesSeen) (command : SourceCommand) (program : Program) (answer : Result Answer Refusal) (picked back : Option S) → picked ≡ find (λ store. bytes_eq wanted (name store)) stores
      → AnswersSession files (picked_seen tables commits faults picked back) command program answer → AnswersSession files (stores_seen name tables commits faults stores back wanted) command program answer
  over_picked files command program answer picked back first is = subst (λ given. AnswersSession files (picked_seen tables commits faults given back) command program answer) first is

-- that there is none is so of both
pub none_or_some : {S : Type 0} (picked found : Option S) → picked ≡ found → (found ≡ None) ⊎ IsSome picked
none_or_some {S} picked found is = subst (λ o. (o ≡ None) ⊎ IsSome picked) is (by_picked picked)
  where
    by_picked : (o : Option S) → (o ≡ None) ⊎ IsSome o
    by_picked None = inl refl
    by_picked (Some store) = inr refl

-- what holds of any store and itself holds of the one that was picked and of that which was found
pub with_itself : {S : Type 0} (R : S → S → Type 0) → ((store : S) → R store store) → (picked found : Option S) → picked ≡ found → IfSome picked (λ back. IfSome found (λ given. R back given))
with_itself {S} R same picked found is = subst (λ o. IfSome picked (λ back. IfSome o (λ given. R back given))) is (by_picked picked)
  where
    by_picked : (o : Option S) → IfSome o (λ back. IfSome o (λ given. R back given))
    by_picked None = tt
    by_picked (Some store) = same store

pub told_back : {S : Type 0} (tables : S → Option Tables) (commits faults : S → ℕ) (back : Option S) (store : S) → back ≡ Some store → option_map (store_seen tables commits faults) back ≡ Some (store_seen tables commits faults store)
told_back tables commits faults back store is = ap (option_map (store_seen tables commits faults)) is

-- the answer of a session that was tried
pub tried_answer : (files : FilesSeen) (stores : StoresSeen) (command : SourceCommand) (program : Program) (loaded : List TableRows) (outcome : Result Done OutFault) (before after : StoreSeen) (answer : Result Answer Refusal)
    → answer ≡ answer_of outcome → stores.given ≡ Some before → stores.back ≡ Some after
    → AreLoaded files command.tables (table_defs program) loaded
    → IfOk outcome (λ done. IsSessionOver program command loaded done before.tables after.tables before.commits after.commits)
    → IfErr outcome (λ fault. AreLeft program command loaded fault before.tables after.tables before.commits after.commits)
    → HasCause before.faults after.faults outcome
    → AnswersSession files stores command program answer
tried_answer files stores command program loaded outcome before after answer is given back are session left cause =
    subst (AnswersSession files stores command program) (sym is) (by_outcome outcome session left cause)
  where
    by_outcome : (outcome : Result Done OutFault) → IfOk outcome (λ done. IsSessionOver program command loaded done before.tables after.tables before.commits after.commits)
        → IfErr outcome (λ fault. AreLeft program command loaded fault before.tables after.tables before.commits after.commits) → HasCause before.faults after.faults outcome → AnswersSession files stores command program (answer_of outcome)
    by_outcome (Ok done) session left cause = (loaded, are, came_back stores before after (λ b a. (a.faults ≡ b.faults) × IsSessionOver program command loaded done b.tables a.tables b.commits a.commits) given back cause.later (cause.passed, session))
    by_outcome (Err Failed) session left cause = inr (inr (loaded, are, came_back stores before after (λ b a. Rose b.faults a.faults × AreLeft program command loaded Failed b.tables a.tables b.commits a.commits) given back cause.later (cause.failed refl, left)))
    by_outcome (Err NoMemory) session left cause = inr (inr (loaded, are, came_back stores before after (λ b a. AreLeft program command loaded NoMemory b.tables a.tables b.commits a.commits) given back cause.later left))

-- ---- the files

rose_earlier : (before middle after : ℕ) → before ≤ middle → Rose middle after → Rose before after
rose_earlier before middle after le rose = omega (arith, le, rose)

module _ (contents : Option Contents) (failed : List ℕ) (before middle after : ℕ) (le : before ≤ middle) where
  abbrev whole : FilesSeen
  whole = record { contents = contents; failed = failed; before = before; after = after }

  abbrev later : FilesSeen
  later = record { contents = contents; failed = failed; before = middle; after = after }

  rows_earlier : (file : Option (List ℕ)) (defs : List TableDef) (why : Refusal) → HasNoRows later file defs why → HasNoRows whole file defs why
  rows_earlier None defs why is = is
  rows_earlier (Some file) defs refused.Words is = is
  rows_earlier (Some file) defs (refused.ReadFault name) is = (rose_earlier before middle after le is.0, is.1, is.2)
  rows_earlier (Some file) defs refused.TextTooLong is = is
  rows_earlier (Some file) defs (refused.NotUtf8 at) is = is
  rows_earlier (Some file) defs (refused.BadToken at) is = is
  rows_earlier (Some file) defs (refused.TooNested at) is = is
  rows_earlier (Some file) defs (refused.Unexpected at) is = is
  rows_earlier (Some file) defs (refused.Unbound at) is = is
  rows_earlier (Some file) defs (refused.Twice at) is = is
  rows_earlier (Some file) defs refused.NoMain is = is
  rows_earlier (Some file) defs (refused.TypeTooLarge at) is = is
  rows_earlier (Some file) defs (refused.IllTyped at) is = is
  rows_earlier (Some file) defs (refused.Shape kind at) is = is
  rows_earlier (Some file) defs refused.TooManyInstances is = is
  rows_earlier (Some file) defs (refused.QueryTooLarge size at) is = is
  rows_earlier (Some file) defs (refused.NoStore name) is = is
  rows_earlier (Some file) defs (refused.Tables kind) is = is
  rows_earlier (Some file) defs refused.StoreFault is = is
  rows_earlier (Some file) defs refused.NoMemory is = is

  loaded_earlier : (file : Option (List ℕ)) (defs : List TableDef) (loaded : List TableRows) → AreLoaded later file defs loaded → AreLoaded whole file defs loaded
  loaded_earlier None defs loaded are = are
  loaded_earlier (Some file) defs loaded are = are

  broken_earlier : (stores : StoresSeen) (command : SourceCommand) (program : Program) (why : Refusal) → HasBrokenOff later stores command program why → HasBrokenOff whole stores command program why
  broken_earlier stores command program why (loaded, are, back) = (loaded, loaded_earlier command.tables (table_defs program) loaded are, back)

  answer_earlier : (stores : StoresSeen) (command : SourceCommand) (program : Program) (answer : Result Answer Refusal) → IsAcceptedOf whole command.program program
      → AnswersSession later stores command program answer → Answers whole stores (Some (Source command)) answer
  answer_earlier stores command program (Ok (Run done)) accepted (loaded, are, back) = (program, accepted, (loaded, loaded_earlier command.tables (table_defs program) loaded are, back))
  answer_earlier stores command program (Ok (Schemes checked)) accepted is = absurd is
  answer_earlier stores command program (Ok (Queries checked)) accepted is = absurd is
  answer_earlier stores command program (Ok (Labelled code)) accepted is = absurd is
  answer_earlier stores command program (Err why) accepted (inl none) = inr (inr (program, accepted, inl none))
  answer_earlier stores command program (Err why) accepted (inr (inl rows)) = inr (inr (program, accepted, inr (inl (rows_earlier command.tables (table_defs program) why rows.0, rows.1))))
  answer_earlier stores command program (Err why) accepted (inr (inr broken)) = inr (inr (program, accepted, inr (inr (broken_earlier stores command program why broken))))

-- where the count is as before, that is so whatever the answer is
pub none_failed : {T : Type 0} (before after : ℕ) (answer : Result T Refusal) → after ≡ before → TellsReads before after answer
none_failed before after (Ok x) same = same
none_failed before after (Err why) same = inr same

-- what is told from a point on, up to which the count was as before, is told of the whole
pub reads_earlier : {T : Type 0} (before middle after : ℕ) (answer : Result T Refusal) → middle ≡ before → TellsReads middle after answer → TellsReads before after answer
reads_earlier before middle after answer same told = subst (λ count. TellsReads count after answer) same told

-- the answer of a session as that of its command, whose program was read before
pub whole_answer : (contents between : Option Contents) (failed : List ℕ) (before middle after : ℕ) → between ≡ contents → before ≤ middle
    → (stores : StoresSeen) (command : SourceCommand) (program : Program) (answer : Result Answer Refusal)
    → IsAcceptedOf (record { contents = contents; failed = failed; before = before; after = after }) command.program program
    → AnswersSession (record { contents = between; failed = failed; before = middle; after = after }) stores command program answer
    → Answers (record { contents = contents; failed = failed; before = before; after = after }) stores (Some (Source command)) answer
whole_answer contents between failed before middle after same le stores command program answer accepted is =
    answer_earlier contents failed before middle after le stores command program answer accepted
    (subst (λ c. AnswersSession (record { contents = c; failed = failed; before = middle; after = after }) stores command program answer) same is)

-- ---- the words

-- an answer to a command is one to the words that have its form
pub form_answer : {S : Type 0} (files : FilesSeen) (name : S → List ℕ) (tables : S → Option Tables) (commits faults : S → ℕ) (stores : List S) (back : Option S) (command form : Option Command) (answer : Result Answer Refusal)
    → command ≡ form → Answers files (stores_seen name tables commits faults stores back (store_of command)) command answer → Answers files (stores_seen name tables commits faults stores back (store_of form)) form answer
form_answer files name tables commits faults stores back command form answer is has = subst (λ o. Answers files (stores_seen name tables commits faults stores back (store_of o)) o answer) is has

-- and what holds of the store that a command asks for holds of that which the words ask for
pub form_store : (P : List ℕ → Type 0) (command form : Option Command) → command ≡ form → P (store_of command) → P (store_of form)
form_store P command form is has = subst (λ o. P (store_of o)) is has
