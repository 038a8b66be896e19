-- The refusals of stages as those of the whole.
use Rattle.lk_infer.specs.declared.error.InferError.{InferError}
use Rattle.lk_infer.specs.declared.error.InferError.TheVariants as types
use Rattle.lk_mono.specs.declared.error.MonoError.{MonoError}
use Rattle.lk_mono.specs.declared.error.MonoError.TheVariants as mono
use Rattle.lk_names.specs.declared.error.NameError.{NameError}
use Rattle.lk_names.specs.declared.error.NameError.TheVariants as fault
use Rattle.lk_parse.specs.declared.error.ParseError.{ParseError}
use Rattle.lk_parse.specs.declared.error.ParseError.TheVariants as parse
use Rattle.lk_translate.specs.declared.error.TranslateError.{TranslateError}
use Rattle.lk_translate.specs.declared.error.TranslateError.TheVariants as translate
use Rattle.lk_compile.specs.declared.error.CompileError.{CompileError}
use Rattle.lk_compile.specs.declared.error.CompileError.TheVariants.{Parse, Names, Infer, Ground, Query, NoMemory}

-- want of memory is that of the whole, and any other reason is the stage's
abbrev pub of_parse : ParseError → CompileError
of_parse parse.NoMemory = NoMemory
of_parse why = Parse why

abbrev pub of_names : NameError → CompileError
of_names fault.NoMemory = NoMemory
of_names why = Names why

abbrev pub of_types : InferError → CompileError
of_types types.NoMemory = NoMemory
of_types why = Infer why

abbrev pub of_ground : MonoError → CompileError
of_ground mono.NoMemory = NoMemory
of_ground why = Ground why

abbrev pub of_queries : TranslateError → CompileError
of_queries (translate.TooLarge size at) = Query size at
of_queries translate.NoMemory = NoMemory
