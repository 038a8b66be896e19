-- The values of the parts, and behind them one more.
use Rattle.std.proofs.Common.{◌≡◌, List, [], ◌∷◌, ◌++◌, length, drop, Some, refl, sym, ap, ◌∙◌, arith}
use Rattle.std.proofs.Math.Seq.{drop-append_seam}
use Rattle.lk_ast.specs.declared.expression.PartExpr.{PartExpr}
use Rattle.lk_ast.specs.declared.value.Field.{Field}
use Rattle.lk_ast.specs.declared.value.Value.{Value}
use Rattle.lk_operators.specs.Outcomes.{given, only}
use Rattle.lk_operators.specs.Records.{extended, labelled, record_of}
use Rattle.lk_operators.specs.Values.{fields_in}

labelled-init : (parts : List PartExpr) (init : List Value) (r : Value) → length parts ≡ length init → labelled parts (init ++ r ∷ []) ≡ labelled parts init
labelled-init [] [] r e = refl
labelled-init [] (v ∷ init) r e = absurd (omega (arith, e))
labelled-init (part ∷ parts) [] r e = absurd (omega (arith, e))
labelled-init (part ∷ parts) (v ∷ init) r e = ap (λ fs. record { label = part.label.text; value = v } ∷ fs) (labelled-init parts init r (omega (arith, e)))

drop-init : (parts : List PartExpr) (init : List Value) (r : Value) → length parts ≡ length init → drop (length parts) (init ++ r ∷ []) ≡ r ∷ []
drop-init parts init r e = ap (λ n. drop n (init ++ r ∷ [])) e ∙ drop-append_seam init (r ∷ [])

-- a value for each part, and a record
pub extended_record : (parts : List PartExpr) (values init : List Value) (r : Value) (fs : List Field)
    → values ≡ init ++ r ∷ [] → length parts ≡ length init → fields_in r ≡ Some fs → record_of (fs ++ labelled parts init) ≡ extended parts values
extended_record parts values init r fs are fits is =
    sym
    (
    ap (extended parts) are
    ∙ ap (λ vs. given (λ x. given (λ fs. record_of (fs ++ labelled parts (init ++ r ∷ []))) (fields_in x)) (only vs)) (drop-init parts init r fits)
    ∙ ap (given (λ fs. record_of (fs ++ labelled parts (init ++ r ∷ [])))) is
    ∙ ap (λ more. record_of (fs ++ more)) (labelled-init parts init r fits)
    )
