-- A text that is refused has no program, one without tokens none, and heavy tokens are not light, want of memory aside.
use Rattle.std.proofs.Common.{◌≡◌, ◌<◌, ◌≤◌, ℕ, List, length, refl, sym, subst, arith}
use Rattle.std.specs.Prelude.{Result, Ok, Err, IfErr, IsUtf8}
use Rattle.std.specs.Str.{IsValidUpTo}
use Rattle.std.proofs.lemmas.List.{take_all}
use Rattle.lk_ast.specs.declared.declaration.Program.{Program}
use Rattle.lk_ast.specs.declared.place.Span.{Span}
use Rattle.lk_ast.specs.declared.token.Token.{Token}
use Rattle.lk_grammar.specs.Programs.{IsProgram}
use Rattle.lk_parse.specs.Nesting.{IsLight}
use Rattle.lk_parse.specs.Refusals.{HasNoTokens, IsNoProgram, IsProgramText, IsRefused, IsTooHeavy, NestsTooDeep}
use Rattle.lk_parse.specs.Tokens.{HasTokens, text_limit}
use Rattle.lk_parse.specs.declared.error.ParseError.{ParseError}
use Rattle.lk_parse.specs.declared.error.ParseError.TheVariants.{TextTooLong, NotUtf8, BadToken, TooNested, Unexpected, NoMemory}
use Rattle.lk_parse.proofs.Readings.{tokens_same, no_bad_token}
use Rattle.lk_parse.proofs.Weights.{light_not_nested}

short : (text : List ℕ) → text_limit < length text → length text ≤ text_limit → ⊥
short text over fits = omega (arith, over, fits)

ill_formed : (text : List ℕ) (at : ℕ) → IsValidUpTo text at → IsUtf8 text → ⊥
ill_formed text at h utf8 = h.longest (length text) h.short (subst IsUtf8 (sym (take_all (length text) text (omega arith))) utf8)

pub no_tokens_has_none : (text : List ℕ) (why : ParseError) (tokens : List Token) → HasNoTokens text why → HasTokens text tokens → why ≡ NoMemory
no_tokens_has_none text (TextTooLong bytes) tokens h has = absurd (short text h.0 has.fits)
no_tokens_has_none text (NotUtf8 at) tokens h has = absurd (ill_formed text at h.1 has.utf8)
no_tokens_has_none text (BadToken span) tokens h has = absurd (no_bad_token text tokens span has.read h.2)
no_tokens_has_none text NoMemory tokens h has = refl
no_tokens_has_none text (TooNested span) tokens h has = absurd h
no_tokens_has_none text (Unexpected span) tokens h has = absurd h

pub heavy_not_light : (tokens : List Token) (why : ParseError) → IsTooHeavy tokens why → IsLight tokens → why ≡ NoMemory
heavy_not_light tokens (TooNested span) h light = absurd (light_not_nested tokens span light h)
heavy_not_light tokens NoMemory h light = refl
heavy_not_light tokens (TextTooLong bytes) h light = absurd h
heavy_not_light tokens (NotUtf8 at) h light = absurd h
heavy_not_light tokens (BadToken span) h light = absurd h
heavy_not_light tokens (Unexpected span) h light = absurd h

too_deep : (text : List ℕ) (program : Program) (span : Span) → NestsTooDeep text span → IsProgramText text program → ⊥
too_deep text program span h p =
    light_not_nested h.tokens span (subst IsLight (tokens_same text p.tokens h.tokens p.has.read h.has.read) p.light) h.heavy

no_program : (text : List ℕ) (program : Program) (span : Span) → IsNoProgram text span → IsProgramText text program → ⊥
no_program text program span h p =
    h.unexpected.none p.tree (subst (λ tokens. IsProgram tokens p.tree) (tokens_same text p.tokens h.tokens p.has.read h.has.read) p.is)

pub refused_has_none : (text : List ℕ) (why : ParseError) (program : Program) → IsRefused text why → IsProgramText text program → why ≡ NoMemory
refused_has_none text (TextTooLong bytes) program h p = absurd (short text h.0 p.has.fits)
refused_has_none text (NotUtf8 at) program h p = absurd (ill_formed text at h.1 p.has.utf8)
refused_has_none text (BadToken span) program h p = absurd (no_bad_token text p.tokens span p.has.read h.2)
refused_has_none text (TooNested span) program h p = absurd (too_deep text program span h p)
refused_has_none text (Unexpected span) program h p = absurd (no_program text program span h p)
refused_has_none text NoMemory program h p = refl

pub err_has_none : (text : List ℕ) (answer : Result Program ParseError) (program : Program) → IfErr answer (IsRefused text) → IfErr answer (λ why. IsProgramText text program → why ≡ NoMemory)
err_has_none text (Ok found) program h = tt
err_has_none text (Err why) program h = λ p. refused_has_none text why program h p
