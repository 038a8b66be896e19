-- A text with each apostrophe in it twice, cut at the first apostrophe.
use Rattle.std.proofs.Common.{◌≡◌, ◌≢◌, ℕ, suc, ◌<◌, List, [], ◌∷◌, ◌++◌, length, get_or, Some, None, Bor, refl, sym, ap, ◌∙◌, append_assoc, length-append, arith}
use Rattle.std.proofs.lemmas.Bool.Decides.{nat_tests}
use Rattle.std.proofs.lemmas.Str.Pattern.{IsSplitOnceResult, split_parts}
use Rattle.std.specs.Prelude.{flat_map}
use Rattle.lk_sql.specs.Text.{quoted}

-- no byte of these is an apostrophe
abbrev pub Plain : List ℕ → Type 0
Plain bytes = (i : ℕ) → i < length bytes → get_or bytes i 0 ≢ 39

one_plain : (byte : ℕ) → byte ≢ 39 → quoted byte ≡ byte ∷ []
one_plain byte plain = grind (arith, nat_tests)

plain_stays : (bytes : List ℕ) → Plain bytes → flat_map quoted bytes ≡ bytes
plain_stays [] plain = refl
plain_stays (byte ∷ bytes) plain =
    ap (λ z. z ++ flat_map quoted bytes) (one_plain byte (plain 0 (omega arith)))
    ∙ ap (λ z. byte ∷ z) (plain_stays bytes (λ i within. plain (suc i) (omega arith)))

doubled_append : (before behind : List ℕ) → flat_map quoted (before ++ behind) ≡ flat_map quoted before ++ flat_map quoted behind
doubled_append [] behind = refl
doubled_append (byte ∷ before) behind =
    ap (λ z. quoted byte ++ z) (doubled_append before behind)
    ∙ sym (append_assoc (quoted byte) (flat_map quoted before) (flat_map quoted behind))

-- what a text becomes that is cut at an apostrophe, and that what stands behind it is shorter
pub record IsCut (bytes before behind : List ℕ) : Type 0 where
  pub doubled : flat_map quoted bytes ≡ before ++ (39 ∷ 39 ∷ flat_map quoted behind)
  pub smaller : length behind < length bytes

cut_of : (bytes before behind : List ℕ) → bytes ≡ before ++ (39 ∷ behind) → Plain before → IsCut bytes before behind
cut_of bytes before behind is plain = record {
  doubled = ap (flat_map quoted) is ∙ doubled_append before (39 ∷ behind) ∙ ap (λ z. z ++ (39 ∷ 39 ∷ flat_map quoted behind)) (plain_stays before plain);
  smaller = omega (arith, ap length is, length-append before (39 ∷ behind));
}

pub cut_at : (bytes : List ℕ) (before behind : Bor (List ℕ)) → IsSplitOnceResult 39 bytes (Some (before, behind)) → IsCut bytes before.now behind.now
cut_at bytes before behind split =
    let parts = split_parts 39 bytes (Some (before, behind)) split (omega arith) in
    cut_of bytes before.now behind.now parts.0 parts.1

pub no_cut : (bytes : List ℕ) → IsSplitOnceResult 39 bytes None → flat_map quoted bytes ≡ bytes
no_cut bytes split = plain_stays bytes (split_parts 39 bytes None split (omega arith))

-- a turn of the loop: what stands before the apostrophe, and two of them
pub one_more : (whole old with_before new bytes before behind : List ℕ) → IsCut bytes before behind → with_before ≡ old ++ before → new ≡ with_before ++ (39 ∷ 39 ∷ []) → old ++ flat_map quoted bytes ≡ whole
    → new ++ flat_map quoted behind ≡ whole
one_more whole old with_before new bytes before behind cut first second was =
    ap (λ z. z ++ flat_map quoted behind) (second ∙ ap (λ z. z ++ (39 ∷ 39 ∷ [])) first)
    ∙ append_assoc (old ++ before) (39 ∷ 39 ∷ []) (flat_map quoted behind)
    ∙ append_assoc old before (39 ∷ 39 ∷ flat_map quoted behind)
    ∙ ap (λ z. old ++ z) (sym cut.doubled)
    ∙ was

-- behind the last apostrophe
pub the_last : (whole old new bytes : List ℕ) → flat_map quoted bytes ≡ bytes → new ≡ old ++ bytes → old ++ flat_map quoted bytes ≡ whole → new ≡ whole
the_last whole old new bytes same is was = is ∙ ap (λ z. old ++ z) (sym same) ∙ was
