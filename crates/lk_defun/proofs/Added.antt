-- Types one after another, where each is there.
use Rattle.std.proofs.Common.{◌≡◌, refl, sym, ap, ◌∙◌, subst, List, [], ◌∷◌, ◌++◌, Option, Some, None, map}
use Rattle.std.specs.Option.{option_and_then, option_map}
use Rattle.lk_code.specs.Told.{all_of}
use Rattle.lk_types.specs.declared.ground.Ground.{Ground}
use Rattle.lk_defun.proofs.Lists.{nowhere, some_same}
use Rattle.lk_defun.specs.Numbers.{all_types}
use Rattle.lk_defun.specs.declared.positions.PositionTypes.{PositionTypes}

of_somes : {A : Type 0} (xs : List A) → all_of (map Some xs) ≡ Some xs
of_somes [] = refl
of_somes (x ∷ xs) = ap (option_map (λ ys. x ∷ ys)) (of_somes xs)

-- where each is there, all are
pub all_there : {A : Type 0} (os : List (Option A)) (xs : List A) → map Some xs ≡ os → all_of os ≡ Some xs
all_there os xs is = subst (λ ps. all_of ps ≡ Some xs) is (of_somes xs)

one_before : {A : Type 0} (x : A) (xs ys : List A) (o : Option (List A)) → option_map (λ more. xs ++ more) o ≡ Some ys → option_map (λ more. (x ∷ xs) ++ more) o ≡ Some (x ∷ ys)
one_before x xs ys None is = absurd (nowhere is)
one_before x xs ys (Some more) is = ap (λ zs. Some (x ∷ zs)) (some_same is)

-- those that were added to some
pub added : {A : Type 0} (old new : List A) (os : List (Option A)) → map Some new ≡ map Some old ++ os → option_map (λ more. old ++ more) (all_of os) ≡ Some new
added [] new os is = ap (option_map (λ more. [] ++ more)) (all_there os new is)
added (x ∷ xs) [] os is = cc
added (x ∷ xs) (y ∷ ys) os is =
    let behind : map Some ys ≡ map Some xs ++ os = cc in
    let first : x ≡ y = cc in
    subst (λ z. option_map (λ more. (x ∷ xs) ++ more) (all_of os) ≡ Some (z ∷ ys)) first (one_before x xs ys (all_of os) (added xs ys os behind))

added_to_none : {A : Type 0} (new : List A) (o : Option (List A)) → option_map (λ more. [] ++ more) o ≡ Some new → o ≡ Some new
added_to_none new None is = absurd (nowhere is)
added_to_none new (Some more) is = is

-- those that were added to none are all
pub all_added : {A : Type 0} (old new : List A) (o : Option (List A)) → old ≡ [] → option_map (λ more. old ++ more) o ≡ Some new → o ≡ Some new
all_added old new o none is = added_to_none new o (subst (λ xs. option_map (λ more. xs ++ more) o ≡ Some new) none is)

-- those that were added to one
pub one_and_added : {A : Type 0} (none one new : List A) (x : A) (first : Option A) (o : Option (List A)) → none ≡ [] → one ≡ none ++ x ∷ [] → first ≡ Some x → option_map (λ more. one ++ more) o ≡ Some new
    → option_and_then (λ y. option_map (λ ys. y ∷ ys) o) first ≡ Some new
one_and_added none one new x first o empty is first_is added =
    let own = is ∙ ap (λ xs. xs ++ x ∷ []) empty in
    ap (option_and_then (λ y. option_map (λ ys. y ∷ ys) o)) first_is ∙ subst (λ xs. option_map (λ more. xs ++ more) o ≡ Some new) own added

abbrev made : List Ground → Ground → Ground → PositionTypes
made env hole result = record { env = env; hole = hole; result = result }

-- the types of a position
pub all_are : (held env : List Ground) (types : PositionTypes) (holds keeps : Option (List Ground)) (hole result : Option Ground) → holds ≡ Some held → option_map (λ more. held ++ more) keeps ≡ Some env
    → hole ≡ Some types.hole → result ≡ Some types.result → types.env ≡ env → all_types holds keeps hole result ≡ Some types
all_are held env types holds None hole result holds_is keeps_is hole_is result_is env_is = absurd (nowhere keeps_is)
all_are held env types holds (Some kept) hole result holds_is keeps_is hole_is result_is env_is =
    ap (λ o. all_types o (Some kept) hole result) holds_is
    ∙ ap (λ o. all_types (Some held) (Some kept) o result) hole_is
    ∙ ap (λ o. all_types (Some held) (Some kept) (Some types.hole) o) result_is
    ∙ ap (λ ts. Some (made ts types.hole types.result)) (some_same keeps_is ∙ sym env_is)
