-- How an expression stands alone and as a part, by what kind of expression it is, as the code asks for it; Printed has the
-- claim.
use Rattle.lk_print.specs.Printed.{Kinds, in_round, in_braces}
use Rattle.lk_print.specs.declared.shape.Shape.{Shape}
use Rattle.lk_print.specs.declared.shape.Shape.TheVariants.{Primary, Compound, Block}

abbrev pub alone_as : Shape → Kinds → Kinds
alone_as Primary w = w
alone_as Compound w = w
alone_as Block w = in_braces w

abbrev pub part_as : Shape → Kinds → Kinds
part_as Primary w = w
part_as Compound w = in_round w
part_as Block w = in_braces w
