-- The functions of a group one by one, in the words of the walk.
use Rattle.std.specs.Prelude.{ℕ, Bool, List, [], ◌∷◌, ◌++◌, map}
use Rattle.lk_ast.specs.Functions.{is_main}
use Rattle.lk_ast.specs.declared.declaration.FunDef.{FunDef}
use Rattle.lk_types.specs.Rows.{Label}
use Rattle.lk_types.specs.declared.ty.Effect.TheVariants as effect
use Rattle.lk_types.specs.declared.ty.Ty.{Ty}
use Rattle.lk_typing.specs.Groups.{Unknown, after_unknown, is_recursive, main_told, signature_told, type_of, unknown}
use Rattle.lk_typing.specs.Typing.{is_marked}
use Rattle.lk_typing.specs.Unknowns.{same}
use Rattle.lk_typing.specs.Walk.{Told, told, has_if}
use Rattle.lk_walk.specs.Went.{said, told_by, type_at, under_names, walk_in, went}
use Rattle.lk_walk.specs.declared.member.Member.{Member}
use Rattle.lk_equations.specs.declared.own.Globals.{Globals}
use Rattle.lk_walk.specs.declared.walker.Walker.{Walker}

-- a function, with the first number for the variables of its type
abbrev pub Numbered : Type 0
Numbered = FunDef × ℕ

abbrev pub numbered_from : List FunDef → ℕ → List Numbered
numbered_from [] n = []
numbered_from (f ∷ fs) n = (f, n) ∷ numbered_from fs (after_unknown f n)

-- the functions behind references
abbrev pub shown : Member → Numbered
shown member = (member.function.now, member.first)

abbrev pub all_shown : List Member → List Numbered
all_shown members = map shown members

abbrev pub unknown_of : Numbered → Unknown
unknown_of f = unknown f.0 f.1

abbrev pub first_type : Numbered → Ty
first_type f = type_of (unknown_of f)

abbrev pub named_type : Numbered → Label × Ty
named_type f = (f.0.name.text, first_type f)

-- what is said before the body of a function
abbrev pub told_before : Bool → FunDef → Unknown → ℕ → Told
told_before in_mutual f u n =
    let signature : Told = signature_told f.sig (type_of u) n in
    let moves : Told = has_if (is_marked f.place) u.effects effect.Move signature.next in
    let recurs : Told = has_if (is_recursive in_mutual f) u.effects effect.Rec moves.next in
    told (signature.equations ++ (main_told (is_main f) u.params ++ (moves.equations ++ recurs.equations))) recurs.next

-- a function more
abbrev pub function_went : Globals → Bool → Numbered → Walker → Walker
function_went seen in_mutual f s =
    let u : Unknown = unknown_of f in
    let before : Walker = told_by f.0.name.at (told_before in_mutual f.0 u s.next) s in
    said f.0.name.at (same u.answer (type_at (under_names u.params (walk_in seen f.0.body)) u.effects before) ∷ []) (went (under_names u.params (walk_in seen f.0.body)) u.effects before)

abbrev pub functions_went : Globals → Bool → List Numbered → Walker → Walker
functions_went seen in_mutual [] s = s
functions_went seen in_mutual (f ∷ fs) s = functions_went seen in_mutual fs (function_went seen in_mutual f s)
