-- What the code makes of sites.
use Rattle.std.specs.Prelude.{◌≡◌, List, Option, Some, None, Result, Ok, Err, map}
use Rattle.lk_ground.specs.declared.program.GroundProgram.{GroundProgram}
use Rattle.lk_norm.specs.declared.error.NormError.{NormError}
use Rattle.lk_norm.specs.declared.error.NormError.TheVariants as norm
use Rattle.lk_sites.specs.Sites.{Site}
use Rattle.lk_translate.specs.Translation.{code_of, fault_at, first_fault, size_fault, translated_at}
use Rattle.lk_translate.specs.declared.block.Stop.{Stop}
use Rattle.lk_translate.specs.declared.block.Stop.TheVariants as stop
use Rattle.lk_translate.specs.declared.error.Size.{Size}
use Rattle.lk_translate.specs.declared.error.Size.TheVariants.{Branches, Text}
use Rattle.lk_translate.specs.declared.translated.Code.{Code}
use Rattle.lk_translate.specs.declared.translated.Translated.{Translated}

abbrev pub stop_of : NormError → Stop
stop_of norm.Branches = stop.TooLarge Branches
stop_of norm.SqlTooLong = stop.TooLarge Text
stop_of norm.NoMemory = stop.NoMemory

-- this code, where nothing is too large, or else what is
abbrev pub Makes : Result Code Stop → Option Size → Option Code → Type 0
Makes (Ok made) fault code = (fault ≡ None) × (code ≡ Some made)
Makes (Err (stop.TooLarge size)) fault code = fault ≡ Some size
Makes (Err stop.NoMemory) fault code = Unit {0}

-- of a site of a ground program
abbrev pub MakesAt : GroundProgram → Site → Result Code Stop → Type 0
MakesAt g site result = Makes result (size_fault g.program.now g.helpers site) (code_of g.program.now g.helpers site)

-- a site isn't too large, and this stands there in SQL
abbrev pub IsMade : GroundProgram → Site → Translated → Type 0
IsMade g site one = (fault_at g.program.now g.helpers site ≡ None) × (Some one ≡ translated_at g.program.now g.helpers site)

-- none of these sites is, and this stands at each
abbrev pub AreMade : GroundProgram → List Site → List Translated → Type 0
AreMade g sites all = (first_fault g.program.now g.helpers sites ≡ None) × (map Some all ≡ map (translated_at g.program.now g.helpers) sites)
