-- Which programs are accepted, and why others are refused: bound names, principal types, a ground program, and all that reads or
-- changes tables as SQL, in this order.
use Rattle.std.specs.Prelude.{◌≡◌, ℕ, List}
use Rattle.lk_ast.specs.declared.declaration.Program.{Program}
use Rattle.lk_ast.specs.declared.place.Span.{Span}
use Rattle.lk_ground.specs.declared.program.GroundProgram.{GroundProgram}
use Rattle.lk_infer.specs.Inferred.{HasTypes}
use Rattle.lk_infer.specs.LacksInOrder.{IsSchemeInOrder}
use Rattle.lk_infer.specs.Programs.{EndsIllTyped, EndsTooLarge}
use Rattle.lk_infer.specs.declared.error.InferError.{InferError}
use Rattle.lk_infer.specs.declared.error.InferError.TheVariants as types
use Rattle.lk_infer.specs.declared.typed.Typed.{Typed}
use Rattle.lk_mono.specs.Grounded.{IsGrounded}
use Rattle.lk_mono.specs.Instanced.{HasInstances}
use Rattle.lk_mono.specs.Instances.{AreTooMany, IsTooLarge}
use Rattle.lk_mono.specs.Keeps.{Keeps, SameEvents}
use Rattle.lk_mono.specs.Plain.{ShowsPlain}
use Rattle.lk_mono.specs.Refused.{HasFault}
use Rattle.lk_mono.specs.declared.error.MonoError.{MonoError}
use Rattle.lk_mono.specs.declared.error.MonoError.TheVariants as mono
use Rattle.lk_names.specs.Programs as names
use Rattle.lk_names.specs.declared.error.NameError.{NameError}
use Rattle.lk_names.specs.declared.error.NameError.TheVariants as fault
use Rattle.lk_parse.specs.Refusals as text
use Rattle.lk_parse.specs.declared.error.ParseError.{ParseError}
use Rattle.lk_parse.specs.declared.error.ParseError.TheVariants as parse
use Rattle.lk_translate.specs.Law.{IsGoodCode, IsMeant}
use Rattle.lk_translate.specs.Translation.{AreTranslated, IsFirstFault}
use Rattle.lk_translate.specs.declared.error.Size.{Size}
use Rattle.lk_translate.specs.declared.translated.Translated.{Translated}
use Rattle.lk_types.specs.Each.{Each}
use Rattle.lk_typing.specs.Programs.{ArePrincipal, IsWellTyped}
use Rattle.lk_compile.specs.declared.error.CompileError.{CompileError}
use Rattle.lk_compile.specs.declared.error.CompileError.TheVariants.{Parse, Names, Infer, Ground, Query, NoMemory}

-- ---- accepted programs

-- the program's names are bound, its functions have these principal schemes in text order, written in order, and its nodes
-- have these principal types
abbrev pub IsTyped : Program → Typed → Type 0
IsTyped program typed = names.IsBound program × ArePrincipal program typed.schemes × HasTypes program typed.schemes typed.types × Each IsSchemeInOrder typed.schemes

-- The ground program of a program with these schemes and types: its functions at the types at which sessions use them, in
-- shapes that can be shown, compared and run by a database. Its sessions end as those of the program, with the same fuel, steps
-- and events, and no function stands in what these show.
pub record IsGround (program : Program) (typed : Typed) (ground_program : GroundProgram) : Type 0 where
  pub grounded : IsGrounded program typed.schemes typed.types ground_program
  pub keeps : Keeps program ground_program
  pub events : SameEvents program ground_program
  pub plain : ShowsPlain program
  pub instances : HasInstances program ground_program

-- Its queries, readings of tables, updates and deletions are these as SQL, by their labels. What a database may answer
-- them with is what the readings may be answered with, they change rows as the text says, and they are well formed.
pub record AreQueries (program : Program) (ground_program : GroundProgram) (queries : List Translated) : Type 0 where
  pub translated : AreTranslated program ground_program queries
  pub meant : Each (IsMeant program ground_program) queries
  pub good : Each (λ (query : Translated). IsGoodCode query.code) queries

-- it has a ground program with this SQL
abbrev pub IsTranslated : Program → Typed → List Translated → Type 0
IsTranslated program typed queries = (ground_program : GroundProgram) × IsGround program typed ground_program × AreQueries program ground_program queries

-- nothing refuses the program: it is typed so, and its ground program has this SQL
abbrev pub IsAccepted : Program → Typed → List Translated → Type 0
IsAccepted program typed queries = IsTyped program typed × IsTranslated program typed queries

-- ---- refused ones

-- the program's names aren't bound, for this first reason in text order; or they are, and there is no `main`
abbrev pub IsNotBound : Program → NameError → Type 0
IsNotBound program fault.NoMemory = ⊥
IsNotBound program why = names.IsRefused program why

-- Its names are bound, and this is the first place of the walk through it at which what is said up to there can't hold, and it isn't
-- well typed; or the first one at which a type that matters is too large.
abbrev pub IsNotInferred : Program → InferError → Type 0
IsNotInferred program (types.IllTyped at) = names.IsBound program × EndsIllTyped program at × (IsWellTyped program → ⊥)
IsNotInferred program (types.TypeTooLarge at) = names.IsBound program × EndsTooLarge program at
IsNotInferred program types.NoMemory = ⊥

-- A program with these schemes and types has no ground program. Its functions are used at too many types, or at one with
-- too large a type, first at this node; or this is the first place at which a shape is refused, for this kind of reason.
abbrev pub HasNoGround : Program → Typed → MonoError → Type 0
HasNoGround program typed mono.TooManyInstances = AreTooMany program typed.schemes typed.types
HasNoGround program typed (mono.TypeTooLarge at) = IsTooLarge program typed.schemes typed.types at
HasNoGround program typed (mono.Shape kind at) = HasFault program typed.schemes typed.types kind at
HasNoGround program typed mono.NoMemory = ⊥

-- It has one, and of its queries, readings of tables, updates and deletions, in the order of their labels, this is the first that is
-- too large, in this way.
abbrev pub HasLargeQuery : Program → Typed → Size → Span → Type 0
HasLargeQuery program typed size at = (ground_program : GroundProgram) × IsGround program typed ground_program × IsFirstFault program ground_program size at

-- why a typed program isn't accepted
abbrev pub IsRefusedTyped : Program → Typed → CompileError → Type 0
IsRefusedTyped program typed (Ground why) = HasNoGround program typed why
IsRefusedTyped program typed (Query size at) = HasLargeQuery program typed size at
IsRefusedTyped program typed NoMemory = Unit {0}
IsRefusedTyped program typed error = ⊥

-- Why a program isn't accepted, the first reason in the order of the stages. Want of memory has no cause.
abbrev pub IsRefusedProgram : Program → CompileError → Type 0
IsRefusedProgram program (Parse why) = ⊥
IsRefusedProgram program (Names why) = IsNotBound program why
IsRefusedProgram program (Infer why) = IsNotInferred program why
IsRefusedProgram program (Ground why) = (typed : Typed) × IsTyped program typed × HasNoGround program typed why
IsRefusedProgram program (Query size at) = (typed : Typed) × IsTyped program typed × HasLargeQuery program typed size at
IsRefusedProgram program NoMemory = Unit {0}

-- the text is no program, for this first reason
abbrev pub IsNotParsed : List ℕ → ParseError → Type 0
IsNotParsed bytes parse.NoMemory = ⊥
IsNotParsed bytes why = text.IsRefused bytes why

-- why a text has no code: it is no program, or its program isn't accepted
abbrev pub IsRefusedText : List ℕ → CompileError → Type 0
IsRefusedText bytes (Parse why) = IsNotParsed bytes why
IsRefusedText bytes NoMemory = Unit {0}
IsRefusedText bytes error = (program : Program) × text.IsProgramText bytes program × IsRefusedProgram program error
