-- A file is read up to one byte more than its text may have. That tells what its whole text is, or that it is too long.
use Rattle.std.proofs.Common.{◌≡◌, ◌≢◌, ◌⊎◌, inl, inr, Bool, true, false, nat_lt, if◌then◌else◌, option_map, unwrap_or, [], ◌∷◌, sym, ℕ, ◌<◌, ◌≤◌, List, refl, ap, subst, ◌∙◌, arith, length, take}
use Rattle.std.specs.Prelude.{Option, Some, None, IfSome, IsSomeAnd}
use Rattle.std.specs.FinMap.{get}
use Rattle.std.proofs.lemmas.Bool.{lt-ltb, ltb-false, ltb-true}
use Rattle.std.proofs.lemmas.List.{length-take, take_all}
use Rattle.std.specs.List.{AllZip}
use Rattle.lk_outside.specs.Files.{Contents, IsFront}
use Rattle.lk_ast.specs.declared.declaration.Program.{Program}
use Rattle.lk_parse.specs.Refusals.{IsProgramText, IsRefused}
use Rattle.lk_parse.specs.Tokens.{text_limit}
use Rattle.lk_ast.specs.declared.table.TableDef.{TableDef}
use Rattle.lk_ast.specs.declared.table.TableRows.{TableRows}
use Rattle.lk_tables.specs.Reading.{AreRowsOf, max_bytes, object_in, object_refusal, refusal, tables_in}
use Rattle.lk_tables.specs.declared.error.TablesError.{TablesError}
use Rattle.lk_tables.specs.declared.error.TablesError.TheVariants.{TooLong, NotJson}
use Rattle.lk_tables.specs.declared.error.TablesError.TheVariants as error
use Rattle.lk_parse.specs.declared.error.ParseError.{ParseError}
use Rattle.lk_parse.specs.declared.error.ParseError.TheVariants.{TextTooLong, NotUtf8, BadToken, TooNested, Unexpected, NoMemory}
use Rattle.lk_cli.specs.Answers.{HasNoProgram, HasNoRows, IsProgram, refusal_of, refusal_of_tables}
use Rattle.lk_cli.specs.Loading.{AreLoaded, IsOfTable}
use Rattle.lk_cli.specs.Seen.{FilesSeen}
use Rattle.lk_cli.specs.declared.TheConstants.{READ_MAX, TABLES_READ_MAX}

-- the text of a file of that name has the property, where it is told what files contain
abbrev pub HasTextWith : Option Contents → List ℕ → (List ℕ → Type 0) → Type 0
HasTextWith contents name P = (text : List ℕ) × IfSome contents (λ c. get c name ≡ Some text) × P text

-- what holds of all that was read holds of the file's text, if it holds of whole texts and of those that are too long
from_front : (max : ℕ) (contents : Option Contents) (name bytes : List ℕ) (P : List ℕ → Type 0) → IfSome contents (λ c. IsFront c name max bytes) → P bytes → ((text : List ℕ) → bytes ≡ take max text → P text) → HasTextWith contents name P
from_front max None name bytes P front here whole = (bytes, tt, here)
from_front max (Some c) name bytes P front here whole = go (get c name) refl front
  where
    go : (o : Option (List ℕ)) → get c name ≡ o → IsSomeAnd o (λ content. bytes ≡ take max content) → HasTextWith (Some c) name P
    go None found front = absurd front
    go (Some content) found front = (content, found, whole content front)

fits_whole : (text bytes : List ℕ) → bytes ≡ take READ_MAX text → length bytes ≤ text_limit → bytes ≡ text
fits_whole text bytes e fits = e ∙ take_all READ_MAX text (omega (arith, ap length e, length-take READ_MAX text))

-- what was read within the limit is the file's whole text
pub whole_text : (contents : Option Contents) (name bytes : List ℕ) (P : List ℕ → Type 0) → IfSome contents (λ c. IsFront c name READ_MAX bytes) → length bytes ≤ text_limit → P bytes → HasTextWith contents name P
whole_text contents name bytes P front fits here = from_front READ_MAX contents name bytes P front here (λ text e. subst P (fits_whole text bytes e fits) here)

-- where more was read, the file's text is too long
pub long_text : (contents : Option Contents) (name bytes : List ℕ) → IfSome contents (λ c. IsFront c name READ_MAX bytes) → text_limit < length bytes → HasTextWith contents name (λ text. text_limit < length text)
long_text contents name bytes front long = from_front READ_MAX contents name bytes (λ text. text_limit < length text) front long (λ text e. omega (arith, ap length e, length-take READ_MAX text))

-- a program that was read is that of the file's whole text
pub whole_program : (files : FilesSeen) (name bytes : List ℕ) (program : Program) → IfSome files.contents (λ c. IsFront c name READ_MAX bytes) → IsProgramText bytes program → IsProgram files name program
whole_program files name bytes program front is = whole_text files.contents name bytes (λ text. IsProgramText text program) front is.has.fits is

-- and so is the reason why it is refused
pub whole_reason : (files : FilesSeen) (name bytes : List ℕ) (reason : ParseError) → IfSome files.contents (λ c. IsFront c name READ_MAX bytes) → IsRefused bytes reason → HasNoProgram files name (refusal_of reason)
whole_reason files name bytes (TextTooLong n) front refused = long_text files.contents name bytes front refused.0
whole_reason files name bytes (NotUtf8 at) front refused = whole_text files.contents name bytes (λ text. IsRefused text (NotUtf8 at)) front refused.0 refused
whole_reason files name bytes (BadToken at) front refused = whole_text files.contents name bytes (λ text. IsRefused text (BadToken at)) front refused.0 refused
whole_reason files name bytes (TooNested at) front refused = whole_text files.contents name bytes (λ text. IsRefused text (TooNested at)) front refused.has.fits refused
whole_reason files name bytes (Unexpected at) front refused = whole_text files.contents name bytes (λ text. IsRefused text (Unexpected at)) front refused.has.fits refused
whole_reason files name bytes NoMemory front refused = tt

-- ---- tables files

some_none : {A : Type 0} (a : A) → Some a ≡ None → ⊥
some_none a is = absurd cc

module _ (defs : List TableDef) (text bytes : List ℕ) (e : bytes ≡ take TABLES_READ_MAX text) where
  too_long : (text : List ℕ) → max_bytes < length text → refusal defs text ≡ Some TooLong
  too_long text long = ap (λ b. if b then Some TooLong else unwrap_or (option_map (object_refusal defs) (object_in text)) (Some NotJson)) (lt-ltb max_bytes (length text) long)

  by_length : (long : Bool) → nat_lt max_bytes (length text) ≡ long → refusal defs text ≡ refusal defs bytes
  by_length true is =
      let more : max_bytes < length text = ltb-true max_bytes (length text) is in
      too_long text more ∙ sym (too_long bytes (omega (arith, ap length e, length-take TABLES_READ_MAX text, more)))
  by_length false is = ap (refusal defs) (sym (e ∙ take_all TABLES_READ_MAX text (let low : length text ≤ max_bytes = ltb-false max_bytes (length text) is in omega (arith, low))))

  same_refusal : refusal defs text ≡ refusal defs bytes
  same_refusal = by_length (nat_lt max_bytes (length text)) refl

-- rows that were read fit their tables
pub rows_fit : (defs : List TableDef) (tables : List TableRows) → AllZip AreRowsOf defs tables → AllZip IsOfTable defs tables
rows_fit [] [] are = tt
rows_fit [] (table ∷ tables) are = absurd are
rows_fit (def ∷ defs) [] are = absurd are
rows_fit (def ∷ defs) (table ∷ tables) are = (record { name = are.0.0; columns = are.0.1 }, rows_fit defs tables are.1)

-- a text that is refused for no reason isn't too long
short : (defs : List TableDef) (text : List ℕ) (long : Bool) → nat_lt max_bytes (length text) ≡ long → refusal defs text ≡ None → length text ≤ max_bytes
short defs text false is none = ltb-false max_bytes (length text) is
short defs text true is none = absurd (some_none TooLong (sym (ap (λ b. if b then Some TooLong else unwrap_or (option_map (object_refusal defs) (object_in text)) (Some NotJson)) is) ∙ none))

-- the rows that were read are those of the file's whole text
pub whole_tables : (files : FilesSeen) (name bytes : List ℕ) (defs : List TableDef) (tables : List TableRows) → IfSome files.contents (λ c. IsFront c name TABLES_READ_MAX bytes)
    → refusal defs bytes ≡ None → tables_in defs bytes ≡ Some tables → AreLoaded files (Some name) defs tables
whole_tables files name bytes defs tables front none are =
    let whole = from_front TABLES_READ_MAX files.contents name bytes (λ text. (refusal defs text ≡ None) × (tables_in defs text ≡ Some tables)) front (none, are)
    (λ text e. (
      same_refusal defs text bytes e ∙ none,
      ap (tables_in defs) (sym (e ∙ take_all TABLES_READ_MAX text (omega (arith, ap length e, length-take TABLES_READ_MAX text, short defs bytes (nat_lt max_bytes (length bytes)) refl none)))) ∙ are,
    )) in
    (whole.0, whole.1, whole.2.0, whole.2.1)

-- and so is the reason why they aren't rows
pub whole_refusal : (files : FilesSeen) (name bytes : List ℕ) (defs : List TableDef) (kind : TablesError) → IfSome files.contents (λ c. IsFront c name TABLES_READ_MAX bytes)
    → (kind ≡ error.NoMemory) ⊎ (refusal defs bytes ≡ Some kind) → HasNoRows files (Some name) defs (refusal_of_tables kind)
whole_refusal files name bytes defs kind front why = by_kind kind why
  where
    whole : (kind : TablesError) → refusal defs bytes ≡ Some kind → HasTextWith files.contents name (λ text. refusal defs text ≡ Some kind)
    whole kind is = from_front TABLES_READ_MAX files.contents name bytes (λ text. refusal defs text ≡ Some kind) front is (λ text e. same_refusal defs text bytes e ∙ is)

    no_memory : {kind : TablesError} → kind ≢ error.NoMemory → (kind ≡ error.NoMemory) ⊎ (refusal defs bytes ≡ Some kind) → refusal defs bytes ≡ Some kind
    no_memory other (inl is) = absurd (other is)
    no_memory other (inr is) = is

    by_kind : (kind : TablesError) → (kind ≡ error.NoMemory) ⊎ (refusal defs bytes ≡ Some kind) → HasNoRows files (Some name) defs (refusal_of_tables kind)
    by_kind error.TooLong why = whole error.TooLong (no_memory (λ is. cc) why)
    by_kind error.NotJson why = whole error.NotJson (no_memory (λ is. cc) why)
    by_kind error.UnknownTable why = whole error.UnknownTable (no_memory (λ is. cc) why)
    by_kind error.BadRows why = whole error.BadRows (no_memory (λ is. cc) why)
    by_kind error.TooManyRows why = whole error.TooManyRows (no_memory (λ is. cc) why)
    by_kind error.NoMemory why = tt
