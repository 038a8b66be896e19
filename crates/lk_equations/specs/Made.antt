-- What the code makes, in the words of the walk.
use Rattle.std.specs.Prelude.{List, map}
use Rattle.lk_ast.specs.declared.signature.SigField.{SigField}
use Rattle.lk_types.specs.Rows.{Label}
use Rattle.lk_typing.specs.Equations.{Own, own}
use Rattle.lk_typing.specs.Signatures.{Signed, Signing, signed, signing}
use Rattle.lk_equations.specs.declared.own.Own.{Own as TheOwn}
use Rattle.lk_equations.specs.declared.signatures.Signed.{Signed as TheSigned}

-- what is said of an expression
abbrev pub as_own : TheOwn → Own
as_own made = own made.ty made.equations made.next

-- the type of a signature
abbrev pub as_signed : TheSigned → Signed
as_signed made = signed made.ty made.next

-- the labels of fields with their types
abbrev pub signing_fields : List SigField → List (Label × Signing)
signing_fields fields = map (λ f. (f.label.text, signing f.ty)) fields
