-- The answers to a command line: which come, with their causes; what is printed for each, and the status.
use Rattle.std.specs.Prelude.{◌≡◌, ◌⊎◌, ℕ, List, [], ◌∷◌, Option, Some, None, Result, Ok, Err, MatchResult, IsSomeAnd, length, ◌<◌, codes, decimal}
use Rattle.std.specs.List.{AllZip}
use Rattle.lk_ast.specs.Functions.{functions_of}
use Rattle.lk_ast.specs.Tables.{Tables, table_defs}
use Rattle.lk_ast.specs.declared.place.Span.{Span}
use Rattle.lk_ast.specs.declared.declaration.Program.{Program}
use Rattle.lk_ast.specs.declared.table.TableDef.{TableDef}
use Rattle.lk_ast.specs.declared.table.TableRows.{TableRows}
use Rattle.lk_infer.specs.Programs.{EndsIllTyped, EndsTooLarge}
use Rattle.lk_infer.specs.declared.error.InferError.{InferError}
use Rattle.lk_infer.specs.declared.error.InferError.TheVariants as types
use Rattle.lk_infer.specs.declared.typed.Typed.{Typed}
use Rattle.lk_ground.specs.declared.program.GroundProgram.{GroundProgram}
use Rattle.lk_compile.specs.Accepted.{IsAccepted, IsGround, IsTyped}
use Rattle.lk_compile.specs.Compiled.{IsCodeOf}
use Rattle.lk_compile.specs.declared.error.CompileError.{CompileError}
use Rattle.lk_compile.specs.declared.error.CompileError.TheVariants as compile
use Rattle.lk_report.specs.Lines.{line}
use Rattle.lk_listing.specs.Listing.{label_lines}
use Rattle.lk_mono.specs.Instances.{AreTooMany, IsTooLarge}
use Rattle.lk_mono.specs.Refused.{HasFault}
use Rattle.lk_mono.specs.declared.error.MonoError.{MonoError}
use Rattle.lk_mono.specs.declared.error.MonoError.TheVariants as mono
use Rattle.lk_mono.specs.declared.error.ShapeKind.{ShapeKind}
use Rattle.lk_mono.specs.declared.error.ShapeKind.TheVariants.{MainType, EqualityAtFunction, OrderAtNonBase, QueryNotFlat, QueryCapture}
use Rattle.lk_names.specs.Programs as names
use Rattle.lk_names.specs.declared.error.NameError.{NameError}
use Rattle.lk_names.specs.declared.error.NameError.TheVariants as fault
use Rattle.lk_outside.specs.Causes.{Rose, next_count}
use Rattle.lk_outside.specs.Sink.{Appends, AppendsFront}
use Rattle.lk_outside.specs.declared.fault.OutFault.{OutFault}
use Rattle.lk_outside.specs.declared.fault.OutFault.TheVariants as outside
use Rattle.lk_parse.specs.Refusals.{IsProgramText, IsRefused}
use Rattle.lk_parse.specs.declared.error.ParseError.{ParseError}
use Rattle.lk_parse.specs.declared.error.ParseError.TheVariants as parse
use Rattle.lk_sound.specs.Histories.{HasAnswer}
use Rattle.lk_sem.specs.SourceRuns.{IsRun, IsPlainRun, commits_after}
use Rattle.lk_tables.specs.Reading.{refusal}
use Rattle.lk_report.specs.Lines.{line}
use Rattle.lk_tables.specs.declared.error.TablesError.{TablesError}
use Rattle.lk_tables.specs.declared.error.TablesError.TheVariants as error
use Rattle.lk_translate.specs.Translation.{IsFirstFault}
use Rattle.lk_translate.specs.declared.error.Size.{Size}
use Rattle.lk_translate.specs.declared.error.Size.TheVariants as size
use Rattle.lk_translate.specs.declared.translated.Translated.{Translated}
use Rattle.lk_types.specs.Each.{Each}
use Rattle.lk_typing.specs.Programs.{IsWellTyped}
use Rattle.lk_cli.specs.Ended.{run_of}
use Rattle.lk_cli.specs.Loading.{AreLeft, AreLoaded, HasToldSession, IsOfTable}
use Rattle.lk_cli.specs.Report.{IsReport, lines_of, query_lines}
use Rattle.lk_cli.specs.Seen.{CameBack, FilesSeen, HasText, StoresSeen}
use Rattle.lk_parse.specs.Tokens.{text_limit}
use Rattle.lk_cli.specs.declared.answer.Answer.{Answer}
use Rattle.lk_cli.specs.declared.answer.Answer.TheVariants.{Schemes, Queries, Labelled, Run}
use Rattle.lk_cli.specs.declared.answer.Done.{Done}
use Rattle.lk_cli.specs.declared.answer.Refusal.{Refusal}
use Rattle.lk_cli.specs.declared.answer.Refusal.TheVariants.{Words, ReadFault, TextTooLong, NotUtf8, BadToken, TooNested, Unexpected, Unbound, Twice, NoMain, TypeTooLarge, IllTyped, Shape, TooManyInstances, QueryTooLarge, NoStore, Tables as BadTables, StoreFault, NoMemory}
use Rattle.lk_cli.specs.declared.answer.TablesFault.{TablesFault}
use Rattle.lk_cli.specs.declared.answer.TablesFault.TheVariants as no_tables
use Rattle.lk_cli.specs.declared.ended.End.{End}
use Rattle.lk_cli.specs.declared.ended.End.TheVariants as end
use Rattle.lk_cli.specs.declared.refused.Refused.{Refused}
use Rattle.lk_words.specs.declared.command.Command.{Command}
use Rattle.lk_words.specs.declared.command.Command.TheVariants.{Check, Labels, Source, Sql}
use Rattle.lk_words.specs.declared.command.SourceCommand.{SourceCommand}

-- the program that the text of that file is
abbrev pub IsProgram : FilesSeen → List ℕ → Program → Type 0
IsProgram files name program = (text : List ℕ) × HasText files name text × IsProgramText text program

-- the program of the file of that name, which nothing refuses
abbrev pub IsAcceptedOf : FilesSeen → List ℕ → Program → Type 0
IsAcceptedOf files name program = IsProgram files name program × ((typed : Typed) × (queries : List Translated) × IsAccepted program typed queries)

-- An answered session that began with these rows over the tables of a store before it: a run of the program with the argument and
-- the fuel that are asked for, which has an end of its own and in which each reading was answered by what it gives, and the declared
-- tables with rows that fit them, which are the rows that they have at its end. To load the rows was a transaction, and so was each
-- reading and each writing; no other was committed from that count to that.
pub record IsSessionOver (program : Program) (command : SourceCommand) (loaded : List TableRows) (done : Done) (old new : Option Tables) (before after : ℕ) : Type 0 where
  pub run : IsRun program command.arg command.fuel new (run_of done.run)
  pub answered : Each (HasAnswer program) done.run.log
  pub tables : AllZip IsOfTable (table_defs program) done.tables
  pub told : HasToldSession program loaded done.run.log done.tables old new
  pub committed : after ≡ commits_after done.run.log (next_count before)

-- the same over the store that is asked for, whose count of faults is as before, with the rows that are asked for
abbrev pub IsSession : FilesSeen → StoresSeen → SourceCommand → Program → Done → Type 0
IsSession files stores command program done =
    (loaded : List TableRows) × AreLoaded files command.tables (table_defs program) loaded
    × CameBack stores (λ before after. (after.faults ≡ before.faults) × IsSessionOver program command loaded done before.tables after.tables before.commits after.commits)

-- What a command comes to where nothing refuses it. `check` and `sql`: the program of the file, accepted with its schemes and
-- types and its SQL; `labels`: the code of that program; no store comes back. `source`: a session of that program.
abbrev pub Gives : FilesSeen → StoresSeen → Option Command → Answer → Type 0
Gives files stores (Some (Check command)) (Schemes checked) = IsProgram files command.program checked.program × IsAccepted checked.program checked.typed checked.queries × (stores.back ≡ None)
Gives files stores (Some (Sql command)) (Queries checked) = IsProgram files command.program checked.program × IsAccepted checked.program checked.typed checked.queries × (stores.back ≡ None)
Gives files stores (Some (Labels command)) (Labelled code) = (program : Program) × IsProgram files command.program program × IsCodeOf program code × (stores.back ≡ None)
Gives files stores (Some (Source command)) (Run done) = (program : Program) × IsAcceptedOf files command.program program × IsSession files stores command program done
Gives files stores command answer = ⊥

-- the text of that file is refused for this reason
abbrev pub IsRefusedText : FilesSeen → List ℕ → ParseError → Type 0
IsRefusedText files name reason = (text : List ℕ) × HasText files name text × IsRefused text reason

-- the file couldn't be read, and this was the last failed read
abbrev pub HasFailed : FilesSeen → List ℕ → List ℕ → Type 0
HasFailed files name failed = Rose files.before files.after × (failed ≡ files.failed) × (failed ≡ name)

-- why no program comes of that file: it couldn't be read, or its text is no program
abbrev pub HasNoProgram : FilesSeen → List ℕ → Refusal → Type 0
HasNoProgram files name (ReadFault failed) = HasFailed files name failed
HasNoProgram files name TextTooLong = (text : List ℕ) × HasText files name text × (text_limit < length text)
HasNoProgram files name (NotUtf8 at) = IsRefusedText files name (parse.NotUtf8 at)
HasNoProgram files name (BadToken at) = IsRefusedText files name (parse.BadToken at)
HasNoProgram files name (TooNested at) = IsRefusedText files name (parse.TooNested at)
HasNoProgram files name (Unexpected at) = IsRefusedText files name (parse.Unexpected at)
HasNoProgram files name NoMemory = Unit {0}
HasNoProgram files name refusal = ⊥

-- the refusals behind which a read may have failed: that it did, and want of memory
abbrev pub IsOfReads : Refusal → Type 0
IsOfReads (ReadFault name) = Unit {0}
IsOfReads NoMemory = Unit {0}
IsOfReads refusal = ⊥

-- the files' count of faults is as before, unless this is refused since a read failed, or for want of memory
abbrev pub TellsReads : {T : Type 0} → ℕ → ℕ → Result T Refusal → Type 0
TellsReads before after result = MatchResult result (λ _. after ≡ before) (λ refusal. IsOfReads refusal ⊎ (after ≡ before))

-- a reason of the parser as a refusal
abbrev pub refusal_of : ParseError → Refusal
refusal_of (parse.TextTooLong bytes) = TextTooLong
refusal_of (parse.NotUtf8 at) = NotUtf8 at
refusal_of (parse.BadToken at) = BadToken at
refusal_of (parse.TooNested at) = TooNested at
refusal_of (parse.Unexpected at) = Unexpected at
refusal_of parse.NoMemory = NoMemory

-- a reason why names aren't bound as a refusal
abbrev pub refusal_of_names : NameError → Refusal
refusal_of_names (fault.Unbound at) = Unbound at
refusal_of_names (fault.Twice at) = Twice at
refusal_of_names fault.NoMain = NoMain
refusal_of_names fault.NoMemory = NoMemory

-- a reason why no types are inferred as a refusal
abbrev pub refusal_of_types : InferError → Refusal
refusal_of_types (types.IllTyped at) = IllTyped at
refusal_of_types (types.TypeTooLarge at) = TypeTooLarge at
refusal_of_types types.NoMemory = NoMemory

-- a reason why there is no ground program as a refusal
abbrev pub refusal_of_ground : MonoError → Refusal
refusal_of_ground (mono.TypeTooLarge at) = TypeTooLarge at
refusal_of_ground mono.TooManyInstances = TooManyInstances
refusal_of_ground (mono.Shape kind at) = Shape kind at
refusal_of_ground mono.NoMemory = NoMemory

-- a reason why there is no code as a refusal
abbrev pub refusal_of_compile : CompileError → Refusal
refusal_of_compile (compile.Parse why) = refusal_of why
refusal_of_compile (compile.Names why) = refusal_of_names why
refusal_of_compile (compile.Infer why) = refusal_of_types why
refusal_of_compile (compile.Ground why) = refusal_of_ground why
refusal_of_compile (compile.Query kind at) = QueryTooLarge kind at
refusal_of_compile compile.NoMemory = NoMemory

-- a reason why a text isn't a tables file as a refusal
abbrev pub refusal_of_tables : TablesError → Refusal
refusal_of_tables error.TooLong = BadTables no_tables.TooLong
refusal_of_tables error.NotJson = BadTables no_tables.NotJson
refusal_of_tables error.UnknownTable = BadTables no_tables.UnknownTable
refusal_of_tables error.BadRows = BadTables no_tables.BadRows
refusal_of_tables error.TooManyRows = BadTables no_tables.TooManyRows
refusal_of_tables error.NoMemory = NoMemory

-- and the other way round
abbrev pub tables_error : TablesFault → TablesError
tables_error no_tables.TooLong = error.TooLong
tables_error no_tables.NotJson = error.NotJson
tables_error no_tables.UnknownTable = error.UnknownTable
tables_error no_tables.BadRows = error.BadRows
tables_error no_tables.TooManyRows = error.TooManyRows

-- Why a program isn't typed. Its names aren't bound, for this first reason in text order; or they are, and there is no
-- `main`. Or its names are bound, and this is the first place of the walk through it at which what is said up to there
-- can't hold, and it isn't well typed; or the first one at which a type that matters is too large.
abbrev pub IsNotTyped : Program → Refusal → Type 0
IsNotTyped program (Unbound at) = names.IsRefused program (fault.Unbound at)
IsNotTyped program (Twice at) = names.IsRefused program (fault.Twice at)
IsNotTyped program NoMain = names.IsRefused program fault.NoMain
IsNotTyped program (IllTyped at) = names.IsBound program × EndsIllTyped program at × (IsWellTyped program → ⊥)
IsNotTyped program (TypeTooLarge at) = names.IsBound program × EndsTooLarge program at
IsNotTyped program NoMemory = Unit {0}
IsNotTyped program refusal = ⊥

-- Why a program with these schemes and types has no ground program. Its functions are used at too many types, or at one with
-- too large a type, first at this node; or this is the first place at which a shape is refused, for this kind of reason.
abbrev pub IsNotGround : Program → Typed → Refusal → Type 0
IsNotGround program typed TooManyInstances = AreTooMany program typed.schemes typed.types
IsNotGround program typed (TypeTooLarge at) = IsTooLarge program typed.schemes typed.types at
IsNotGround program typed (Shape kind at) = HasFault program typed.schemes typed.types kind at
IsNotGround program typed NoMemory = Unit {0}
IsNotGround program typed refusal = ⊥

-- Why a program with these schemes and types isn't accepted although it has a ground program: of its queries, readings of
-- tables, updates and deletions, in the order of their labels, this is the first that is too large, in this way.
abbrev pub IsNotTranslated : Program → Typed → Refusal → Type 0
IsNotTranslated program typed (QueryTooLarge kind at) = (ground_program : GroundProgram) × IsGround program typed ground_program × IsFirstFault program ground_program kind at
IsNotTranslated program typed NoMemory = Unit {0}
IsNotTranslated program typed refusal = ⊥

-- what is printed for the answer has no function in it
abbrev pub IsShown : Result Answer Refusal → Type 0
IsShown (Ok (Run done)) = IsPlainRun (run_of done.run)
IsShown (Ok (Schemes checked)) = Unit {0}
IsShown (Ok (Queries checked)) = Unit {0}
IsShown (Ok (Labelled code)) = Unit {0}
IsShown (Err refusal) = Unit {0}

-- why a program isn't accepted: it isn't typed; or it is, and has no ground program, or one with a query that is too large
abbrev pub IsNotAccepted : Program → Refusal → Type 0
IsNotAccepted program refusal = IsNotTyped program refusal ⊎ ((typed : Typed) × IsTyped program typed × (IsNotGround program typed refusal ⊎ IsNotTranslated program typed refusal))

-- why no program that is accepted comes of that file: no program comes of it, or it isn't accepted
abbrev pub HasNoAccepted : FilesSeen → List ℕ → Refusal → Type 0
HasNoAccepted files name refusal = HasNoProgram files name refusal ⊎ ((program : Program) × IsProgram files name program × IsNotAccepted program refusal)

-- why there are no rows to begin with: the tables file that is asked for couldn't be read, or its text isn't one
abbrev pub HasNoRows : FilesSeen → Option (List ℕ) → List TableDef → Refusal → Type 0
HasNoRows files (Some file) defs (ReadFault failed) = HasFailed files file failed
HasNoRows files (Some file) defs (BadTables why) = (text : List ℕ) × HasText files file text × (refusal defs text ≡ Some (tables_error why))
HasNoRows files file defs NoMemory = Unit {0}
HasNoRows files file defs other = ⊥

-- the store came back as it was handed in
abbrev pub IsUntouched : StoresSeen → Type 0
IsUntouched stores = CameBack stores (λ before after. after ≡ before)

-- no store has the name that is asked for, and none comes back
abbrev pub HasNoStore : StoresSeen → List ℕ → Refusal → Type 0
HasNoStore stores wanted (NoStore name) = (name ≡ wanted) × (stores.given ≡ None) × (stores.back ≡ None)
HasNoStore stores wanted NoMemory = (stores.given ≡ None) × (stores.back ≡ None)
HasNoStore stores wanted refusal = ⊥

-- the store came back with what its session had made of these rows when a call of the store failed, or when memory ran out
abbrev pub CameBackFrom : StoresSeen → SourceCommand → Program → List TableRows → Refusal → Type 0
CameBackFrom stores command program loaded StoreFault =
    CameBack stores (λ before after. Rose before.faults after.faults × AreLeft program command loaded outside.Failed before.tables after.tables before.commits after.commits)
CameBackFrom stores command program loaded NoMemory = CameBack stores (λ before after. AreLeft program command loaded outside.NoMemory before.tables after.tables before.commits after.commits)
CameBackFrom stores command program loaded refusal = ⊥

-- the session broke off, which was to begin with the rows that are asked for
abbrev pub HasBrokenOff : FilesSeen → StoresSeen → SourceCommand → Program → Refusal → Type 0
HasBrokenOff files stores command program refusal = (loaded : List TableRows) × AreLoaded files command.tables (table_defs program) loaded × CameBackFrom stores command program loaded refusal

-- why a session of an accepted program isn't answered: there is no store; or there are no rows to begin with, and the store comes
-- back as it was; or it broke off
abbrev pub IsUnanswered : FilesSeen → StoresSeen → SourceCommand → Program → Refusal → Type 0
IsUnanswered files stores command program refusal =
    HasNoStore stores command.store refusal
    ⊎ ((HasNoRows files command.tables (table_defs program) refusal × IsUntouched stores)
    ⊎ HasBrokenOff files stores command program refusal)

-- the answer to `source` where a session came to this over its store
abbrev pub answer_of : Result Done OutFault → Result Answer Refusal
answer_of (Ok done) = Ok (Run done)
answer_of (Err outside.Failed) = Err StoreFault
answer_of (Err outside.NoMemory) = Err NoMemory

-- an answer to `source` for an accepted program, with its cause
abbrev pub AnswersSession : FilesSeen → StoresSeen → SourceCommand → Program → Result Answer Refusal → Type 0
AnswersSession files stores command program (Ok (Run done)) = IsSession files stores command program done
AnswersSession files stores command program (Ok (Schemes checked)) = ⊥
AnswersSession files stores command program (Ok (Queries checked)) = ⊥
AnswersSession files stores command program (Ok (Labelled code)) = ⊥
AnswersSession files stores command program (Err refusal) = IsUnanswered files stores command program refusal

-- why there is no command: no form has the words
abbrev pub HasNoForm : Refusal → Type 0
HasNoForm Words = Unit {0}
HasNoForm NoMemory = Unit {0}
HasNoForm refusal = ⊥

-- a store of the name that is asked for came back as it was handed in, or there is none
abbrev pub IsHandedBack : StoresSeen → Type 0
IsHandedBack stores = ((stores.given ≡ None) × (stores.back ≡ None)) ⊎ IsUntouched stores

-- the words weren't read for want of memory, and no store was picked
abbrev pub AreUnread : FilesSeen → StoresSeen → Refusal → Type 0
AreUnread files stores refusal = (refusal ≡ NoMemory) × (stores.back ≡ None) × (files.after ≡ files.before)

-- Why a command is refused. There is none; or it has no program that is accepted, and a store that it asks for comes back as it was;
-- or the session of its program isn't answered. Want of memory has no cause; where the words aren't read for it, no store comes back.
abbrev pub RefusedBy : FilesSeen → StoresSeen → Option Command → Refusal → Type 0
RefusedBy files stores None refusal = (stores.back ≡ None) × HasNoForm refusal
RefusedBy files stores (Some (Check command)) refusal = (stores.back ≡ None) × HasNoAccepted files command.program refusal
RefusedBy files stores (Some (Sql command)) refusal = (stores.back ≡ None) × HasNoAccepted files command.program refusal
RefusedBy files stores (Some (Labels command)) refusal = (stores.back ≡ None) × HasNoAccepted files command.program refusal
RefusedBy files stores (Some (Source command)) refusal =
    AreUnread files stores refusal
    ⊎ ((IsHandedBack stores × HasNoAccepted files command.program refusal)
    ⊎ ((program : Program) × IsAcceptedOf files command.program program × IsUnanswered files stores command program refusal))

-- an answer with its cause
abbrev pub Answers : FilesSeen → StoresSeen → Option Command → Result Answer Refusal → Type 0
Answers files stores command answer = MatchResult answer (Gives files stores command) (RefusedBy files stores command)

-- a refusal by its number and name, with a place in the program's text
abbrev pub refused_at : ℕ → List ℕ → Span → List ℕ
refused_at number name at = line (codes "refused" ∷ decimal number ∷ name ∷ decimal at.start ∷ decimal at.end ∷ [])

abbrev pub shape_name : ShapeKind → List ℕ
shape_name MainType = codes "MainType"
shape_name EqualityAtFunction = codes "EqualityAtFunction"
shape_name OrderAtNonBase = codes "OrderAtNonBase"
shape_name QueryNotFlat = codes "QueryNotFlat"
shape_name QueryCapture = codes "QueryCapture"

-- a refusal of a shape, with the kind of its reason
abbrev pub refused_shape : ShapeKind → Span → List ℕ
refused_shape kind at = line (codes "refused" ∷ codes "12" ∷ codes "Shape" ∷ shape_name kind ∷ decimal at.start ∷ decimal at.end ∷ [])

abbrev pub size_name : Size → List ℕ
size_name size.Nodes = codes "nodes"
size_name size.Branches = codes "branches"
size_name size.Text = codes "text"

-- a refusal of a query's size
abbrev pub refused_size : Size → Span → List ℕ
refused_size kind at = line (codes "refused" ∷ codes "14" ∷ codes "QueryTooLarge" ∷ size_name kind ∷ decimal at.start ∷ decimal at.end ∷ [])

-- why a text isn't a tables file
abbrev pub tables_word : TablesFault → List ℕ
tables_word no_tables.TooLong = codes "TooLong"
tables_word no_tables.NotJson = codes "NotJson"
tables_word no_tables.UnknownTable = codes "UnknownTable"
tables_word no_tables.BadRows = codes "BadRows"
tables_word no_tables.TooManyRows = codes "TooManyRows"

-- what is printed for a refusal: `words`, `read fault NAME`, `store NAME`, `tables KIND`, `store fault`, or `refused` with its
-- number, its name and its fields
abbrev pub refusal_text : Refusal → List ℕ
refusal_text Words = line (codes "words" ∷ [])
refusal_text (ReadFault name) = line (codes "read" ∷ codes "fault" ∷ name ∷ [])
refusal_text (NotUtf8 at) = line (codes "refused" ∷ codes "1" ∷ codes "NotUtf8" ∷ decimal at ∷ [])
refusal_text (BadToken at) = refused_at 2 (codes "BadToken") at
refusal_text (Unexpected at) = refused_at 3 (codes "Unexpected") at
refusal_text (TooNested at) = refused_at 4 (codes "TooNested") at
refusal_text TextTooLong = line (codes "refused" ∷ codes "5" ∷ codes "TextTooLong" ∷ [])
refusal_text (Unbound at) = refused_at 6 (codes "Unbound") at
refusal_text (Twice at) = refused_at 7 (codes "Twice") at
refusal_text NoMain = line (codes "refused" ∷ codes "8" ∷ codes "NoMain" ∷ [])
refusal_text (TypeTooLarge at) = refused_at 10 (codes "TypeTooLarge") at
refusal_text (IllTyped at) = refused_at 11 (codes "IllTyped") at
refusal_text (Shape kind at) = refused_shape kind at
refusal_text TooManyInstances = line (codes "refused" ∷ codes "13" ∷ codes "TooManyInstances" ∷ [])
refusal_text (QueryTooLarge kind at) = refused_size kind at
refusal_text (NoStore name) = line (codes "store" ∷ name ∷ [])
refusal_text (BadTables why) = line (codes "tables" ∷ tables_word why ∷ [])
refusal_text StoreFault = line (codes "store" ∷ codes "fault" ∷ [])
refusal_text NoMemory = []

-- what is printed for an answer: a line for each function in text order, a line for each query in the order of labels, one for each
-- label and each frame, the report
-- of a session, or the line of a refusal
abbrev pub IsPrintedFor : Result Answer Refusal → List ℕ → Type 0
IsPrintedFor (Ok (Schemes checked)) text = text ≡ lines_of (functions_of checked.program) checked.typed.schemes
IsPrintedFor (Ok (Queries checked)) text = text ≡ query_lines checked.queries
IsPrintedFor (Ok (Labelled code)) text = text ≡ label_lines code.tables
IsPrintedFor (Ok (Run done)) text = IsReport done text
IsPrintedFor (Err refusal) text = text ≡ refusal_text refusal

abbrev pub end_status : End → ℕ
end_status (end.Value v) = 0
end_status (end.Trap trap) = 8
end_status end.Spent = 12
end_status (end.TableFull size) = 8

abbrev pub status_of : Result Answer Refusal → ℕ
status_of (Ok (Schemes checked)) = 0
status_of (Ok (Queries checked)) = 0
status_of (Ok (Labelled code)) = 0
status_of (Ok (Run done)) = end_status done.run.end
status_of (Err (NotUtf8 at)) = 1
status_of (Err (BadToken at)) = 1
status_of (Err (Unexpected at)) = 1
status_of (Err (TooNested at)) = 1
status_of (Err TextTooLong) = 1
status_of (Err (Unbound at)) = 1
status_of (Err (Twice at)) = 1
status_of (Err NoMain) = 1
status_of (Err (TypeTooLarge at)) = 1
status_of (Err (IllTyped at)) = 1
status_of (Err (Shape kind at)) = 1
status_of (Err TooManyInstances) = 1
status_of (Err (QueryTooLarge kind at)) = 1
status_of (Err Words) = 2
status_of (Err (ReadFault name)) = 3
status_of (Err NoMemory) = 5
status_of (Err (BadTables why)) = 6
status_of (Err (NoStore name)) = 11
status_of (Err StoreFault) = 13

-- How a run ends that has this to print for an answer: it was taken whole, the sink's count is as before, and the status is the answer's;
-- or a first part of it was taken, and the status is 4, since the sink failed, or 5, for want of memory.
abbrev pub IsWritten : Result Answer Refusal → List ℕ → Option (List ℕ) → Option (List ℕ) → ℕ → ℕ → ℕ → Type 0
IsWritten answer text before after faults_before faults_after status =
    ((status ≡ status_of answer) × (faults_after ≡ faults_before) × Appends before after text)
    ⊎ (((status ≡ 4) × Rose faults_before faults_after × AppendsFront before after text)
    ⊎ ((status ≡ 5) × AppendsFront before after text))

-- How a run ends with an answer: what is printed for it was written; or nothing was, for want of memory, and the status is 5.
abbrev pub Ends : Result Answer Refusal → Option (List ℕ) → Option (List ℕ) → ℕ → ℕ → ℕ → Type 0
Ends answer before after faults_before faults_after status =
    ((text : List ℕ) × IsPrintedFor answer text × IsWritten answer text before after faults_before faults_after status)
    ⊎ ((status ≡ 5) × (after ≡ before))

-- what is handed back for a message: the refusal, where the answer is one, and else nothing
abbrev pub IsTold : Result Answer Refusal → Option Refused → Type 0
IsTold (Ok answer) told = told ≡ None
IsTold (Err refusal) told = IsSomeAnd told (λ it. it.refusal ≡ refusal)
