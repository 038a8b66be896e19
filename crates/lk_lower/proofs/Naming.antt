-- Names, lists of them, and what is captured, one after another.
use Rattle.std.proofs.Common.{◌≡◌, refl, sym, ap, subst, ◌∙◌, ℕ, ◌+◌, ◌<◌, List, [], ◌∷◌, ◌++◌, get_or, length, take}
use Rattle.std.proofs.lemmas.List.{map-append, take_more}
use Rattle.std.specs.Borrow.{Bor}
use Rattle.std.specs.BTreeSet.{BTreeSet, IsFromIterResult}
use Rattle.std.specs.Cmp.Lexicographic.{slice_cmp}
use Rattle.std.specs.List.{AllByRecursion}
use Rattle.std.specs.List.Sorted.{IsStrictlySortedBy}
use Rattle.std.specs.Ordering.{nat_cmp}
use Rattle.std.specs.declared.cmp.Ordering.TheVariants.{Less}
use Rattle.lk_evaluation.proofs.Matching.{both-push}
use Rattle.lk_evaluation.specs.Laws.{Both}
use Rattle.lk_index.specs.Free.{byte_order, texts}
use Rattle.lk_ir.specs.Tables.{names_of}
use Rattle.lk_ir.specs.declared.nodes.Kept.{Kept}
use Rattle.lk_lower.proofs.Growing.{had, still_there}
use Rattle.lk_lower.proofs.Shaping.{learns_grows, local}
use Rattle.lk_lower.specs.Growing.{State}
use Rattle.lk_lower.specs.Lowering.{AreCaptured, IsKept, IsLocal}
use Rattle.lk_lower.specs.Steps.{Captures, IsKeptAt, Learns}
use Rattle.lk_types.specs.Each.{Each}
use Rattle.lk_types.specs.declared.ground.Ground.{Ground}
use Rattle.lk_typing.specs.Names.{Named}

each_behind : {A : Type 0} (P : A → Type 0) (xs : List A) (x : A) → Each P xs → P x → Each P (xs ++ x ∷ [])
each_behind P [] x are one = (one, tt)
each_behind P (y ∷ xs) x are one = (are.0, each_behind P xs x are.1 one)

names_behind : (ks : List Kept) (k : Kept) → names_of (ks ++ k ∷ []) ≡ names_of ks ++ k.name ∷ []
names_behind [] k = refl
names_behind (j ∷ ks) k = ap (λ ns. j.name ∷ ns) (names_behind ks k)

-- ---- what is captured

pub captures_none : (uses : Named Ground) (s : State) → Captures [] uses s []
captures_none uses s = record { are = λ f has. record { names_are = tt; types_are = tt } }

-- one more captured name
pub captures_more : (uses : Named Ground) (s t : State) (names more_names : List (List ℕ)) (kept more_kept : List Kept) (x : List ℕ) (k : Kept) → Captures names uses s kept → Learns s t → IsKeptAt x uses t k → more_names ≡ names ++ x ∷ [] → more_kept ≡ kept ++ k ∷ []
    → Captures more_names uses t more_kept
captures_more uses s t names more_names kept more_kept x k were learns one names_are kept_are = record {
  are = λ f has.
      let before : AreCaptured f names uses kept = were.are f (had s t f (learns_grows s t learns) has) in
      let here : IsLocal f k.name x = local f t.locals k.name x has.locals one.place in
      let all : AreCaptured f (names ++ x ∷ []) uses (kept ++ k ∷ []) = record {
        names_are = subst (λ ks. Both (IsLocal f) ks (names ++ x ∷ [])) (sym (names_behind kept k)) (both-push (IsLocal f) (names_of kept) names k.name x before.names_are here);
        types_are = each_behind (IsKept f uses) kept k before.types_are (x, one.type, here, one.first, still_there t.types f.types k.ty one.type has.types one.number);
      } in
      subst (λ names. AreCaptured f names uses more_kept) (sym names_are) (subst (AreCaptured f (names ++ x ∷ []) uses) (sym kept_are) all);
}

-- ---- names in byte order

below_texts : (x : List ℕ) (names : List (Bor (List ℕ))) → AllByRecursion (λ (y : Bor (List ℕ)). slice_cmp nat_cmp x y.now ≡ Less) names → AllByRecursion (λ y. slice_cmp nat_cmp x y ≡ Less) (texts names)
below_texts x [] below = tt
below_texts x (name ∷ names) below = (below.0, below_texts x names below.1)

sorted_texts : (names : List (Bor (List ℕ))) → IsStrictlySortedBy byte_order names → IsStrictlySortedBy (slice_cmp nat_cmp) (texts names)
unfolding IsStrictlySortedBy
sorted_texts [] rise = tt
sorted_texts (name ∷ names) rise = (below_texts name.now names rise.0, sorted_texts names rise.1)

-- the keys of a set that was made of names rise strictly
pub collected_rise : (names : List (Bor (List ℕ))) (made : BTreeSet (Bor (List ℕ))) → IsFromIterResult byte_order names made → IsStrictlySortedBy (slice_cmp nat_cmp) (texts made.keys)
collected_rise names made is = sorted_texts made.keys is.1

pub texts_more : (names : List (Bor (List ℕ))) (i : ℕ) (first : Bor (List ℕ)) → i < length names → texts (take (i + 1) names) ≡ texts (take i names) ++ (get_or names i first).now ∷ []
texts_more names i first below = ap texts (take_more names i first below) ∙ map-append (λ (n : Bor (List ℕ)). n.now) (take i names) (get_or names i first ∷ [])
