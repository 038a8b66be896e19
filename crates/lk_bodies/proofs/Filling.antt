-- Names that are filled in from the last one to the first, and their look-ups.
use Rattle.std.proofs.Common.{arith, ◌≡◌, ℕ, zero, suc, ◌+◌, ◌<◌, Bool, true, false, List, [], ◌∷◌, ◌++◌, Option, Some, None, bytes_eq, if◌then◌else◌, map, take, length, refl, sym, ap, ◌∙◌}
use Rattle.std.specs.Borrow.{Bor}
use Rattle.std.specs.Option.{option_copied}
use Rattle.lk_bodies.specs.Captured.{bound_parts}
use Rattle.lk_bodies.specs.CapturedSeen.{typed}
use Rattle.lk_index.specs.Free.{texts}
use Rattle.lk_query.specs.declared.part.Part.{Part}
use Rattle.lk_query.specs.declared.part.Part.TheVariants as part
use Rattle.lk_types.specs.Rows.{Label}
use Rattle.lk_types.specs.declared.ground.Ground.{Ground}
use Rattle.lk_typing.specs.Names.{Named, named}

copied_or : (b : Bool) (t : Bor Ground) (found : Option (Bor Ground)) (others : Option Ground) → option_copied found ≡ others → option_copied (if b then Some t else found) ≡ (if b then Some t.now else others)
copied_or true t found others same = refl
copied_or false t found others same = same

pub named_typed : (x : Label) (entries : Named (Bor Ground)) → option_copied (named x entries) ≡ named x (typed entries)
named_typed x [] = refl
named_typed x (entry ∷ entries) = copied_or (bytes_eq entry.0 x) entry.1 (named x entries) (named x (typed entries)) (named_typed x entries)

-- ---- a part for each name

none_before : (i : ℕ) → i < 0 → ⊥
none_before i l = omega (arith, l)

bound_take : (names : List (Bor Label)) (i : ℕ) → i < length names → bound_parts (texts (take i names)) ++ part.Bound ∷ [] ≡ bound_parts (texts (take (i + 1) names))
bound_take [] i l = absurd (none_before i l)
bound_take (name ∷ names) zero l = refl
bound_take (name ∷ names) (suc i) l =
    let next : suc i + 1 ≡ suc (i + 1) = omega arith in
    ap (λ parts. part.Bound ∷ parts) (bound_take names i (omega (arith, l))) ∙ ap (λ k. bound_parts (texts (take k (name ∷ names)))) (sym next)

pub bound_more : (names : List (Bor Label)) (i : ℕ) (parts more : List Part) → i < length names → parts ≡ bound_parts (texts (take i names)) → more ≡ parts ++ part.Bound ∷ [] → more ≡ bound_parts (texts (take (i + 1) names))
bound_more names i parts more l is added = added ∙ ap (λ ps. ps ++ part.Bound ∷ []) is ∙ bound_take names i l
