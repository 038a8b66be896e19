-- What a typed program without a ground program is refused for, and the SQL of one that has it.
use Rattle.std.proofs.Common.{◌≡◌, Result, Err, List, subst}
use Rattle.lk_ast.specs.Tables.{HaveColumns}
use Rattle.lk_ast.specs.declared.declaration.Program.{Program}
use Rattle.lk_ast.specs.declared.place.Span.{Span}
use Rattle.lk_compile.specs.Accepted.{AreQueries, IsGround, IsRefusedTyped, IsTyped}
use Rattle.lk_compile.specs.Errors.{of_ground}
use Rattle.lk_ground.specs.declared.program.GroundProgram.{GroundProgram}
use Rattle.lk_infer.specs.declared.typed.Typed.{Typed}
use Rattle.lk_mono.specs.Instances.{AreTooMany, IsTooLarge}
use Rattle.lk_mono.specs.Refused.{HasFault}
use Rattle.lk_mono.specs.declared.error.MonoError.{MonoError}
use Rattle.lk_mono.specs.declared.error.MonoError.TheVariants as mono
use Rattle.lk_mono.specs.declared.error.ShapeKind.{ShapeKind}
use Rattle.lk_translate.proofs.WellFormed.{all_good}
use Rattle.lk_translate.specs.Law.{TranslationLaw}
use Rattle.lk_translate.specs.Translation.{AreTranslated}
use Rattle.lk_translate.specs.declared.translated.Translated.{Translated}

pub not_ground : {R : Type 0} (program : Program) (typed : Typed) (result : Result R MonoError) (error : MonoError) → result ≡ Err error
    → (result ≡ Err mono.TooManyInstances → AreTooMany program typed.schemes typed.types)
    → ((at : Span) → result ≡ Err (mono.TypeTooLarge at) → IsTooLarge program typed.schemes typed.types at)
    → ((kind : ShapeKind) (at : Span) → result ≡ Err (mono.Shape kind at) → HasFault program typed.schemes typed.types kind at)
    → IsRefusedTyped program typed (of_ground error)
not_ground program typed result (mono.TypeTooLarge at) is too_many too_large shape = too_large at is
not_ground program typed result mono.TooManyInstances is too_many too_large shape = too_many is
not_ground program typed result (mono.Shape kind at) is too_many too_large shape = shape kind at is
not_ground program typed result mono.NoMemory is too_many too_large shape = tt

-- what is translated of a ground program means what stands there, and is well formed
pub are_queries : TranslationLaw → (p : Program) (typed : Typed) (g : GroundProgram) → IsTyped p typed → HaveColumns p → IsGround p typed g → (all : List Translated) → AreTranslated g.program.now g all → AreQueries p g all
are_queries law p typed g is_typed columns is all made =
    let translated : AreTranslated p g all = subst (λ q. AreTranslated q g all) is.grounded.program made in
    let meant = law p is_typed.0 typed.schemes typed.types g is.grounded is.instances all translated in
    record { translated = translated; meant = meant; good = all_good p columns g all meant }
