-- A list of instances has none twice, and stays so as those that it lacks are put behind it.
use Rattle.std.proofs.Common.{◌≡◌, ◌⊎◌, inl, inr, ℕ, zero, suc, List, [], ◌∷◌, ◌++◌, length, Some, slice_get, refl, sym, ◌∙◌}
use native.Mathlib.Omega.{arith}
use Rattle.std.proofs.lemmas.Option.{none-some}
use Rattle.lk_mono.specs.Instances.{AreDistinct, IsWith}
use Rattle.lk_mono.specs.Instances as instances
use Rattle.lk_sound.specs.Nodes.{Use}
use Rattle.lk_types.proofs.Members.{each_both}
use Rattle.lk_types.specs.Each.{Each, OneOf}

abbrev IsIn : List Use → Use → Type 0
IsIn list u = OneOf (λ other. other ≡ u) list

-- what stands at a place of a list with one behind it
last_or : (list : List Use) (u : Use) (i : ℕ) (v : Use) → slice_get (list ++ u ∷ []) i ≡ Some v → (slice_get list i ≡ Some v) ⊎ ((i ≡ length list) × (u ≡ v))
last_or [] u zero v is = inr (refl, cc)
last_or [] u (suc i) v is = absurd (none-some v is)
last_or (w ∷ list) u zero v is = inl is
last_or (w ∷ list) u (suc i) v is = further (last_or list u i v is)
  where
    further : (slice_get list i ≡ Some v) ⊎ ((i ≡ length list) × (u ≡ v)) → (slice_get (w ∷ list) (suc i) ≡ Some v) ⊎ ((suc i ≡ length (w ∷ list)) × (u ≡ v))
    further (inl there) = inl there
    further (inr here) = inr (let at : i ≡ length list = here.0 in omega arith, here.1)

at_place : (list : List Use) (i : ℕ) (u v : Use) → slice_get list i ≡ Some v → u ≡ v → IsIn list u
at_place [] i u v is same = absurd (none-some v is)
at_place (w ∷ list) zero u v is same = inl (let first : w ≡ v = cc in first ∙ sym same)
at_place (w ∷ list) (suc i) u v is same = inr (at_place list i u v is same)

pub distinct_behind : (list : List Use) (u : Use) → AreDistinct list → (IsIn list u → ⊥) → AreDistinct (list ++ u ∷ [])
distinct_behind list u distinct lacks i j v first second = by_both (last_or list u i v first) (last_or list u j v second)
  where
    by_both : (slice_get list i ≡ Some v) ⊎ ((i ≡ length list) × (u ≡ v)) → (slice_get list j ≡ Some v) ⊎ ((j ≡ length list) × (u ≡ v)) → i ≡ j
    by_both (inl there) (inl other) = distinct i j v there other
    by_both (inl there) (inr other) = absurd (lacks (at_place list i u v there other.1))
    by_both (inr here) (inl other) = absurd (lacks (at_place list j u v other here.1))
    by_both (inr here) (inr other) = here.0 ∙ sym other.0

pub distinct_with : {others : ℕ} (list us longer : List Use) → IsWith others list us longer → AreDistinct list → AreDistinct longer
distinct_with list [] longer instances.IsWith.nothing distinct = distinct
distinct_with list (u ∷ us) longer (instances.IsWith.there listed more) distinct = distinct_with list us longer more distinct
distinct_with list (u ∷ us) longer (instances.IsWith.lacking lacks room more) distinct =
    distinct_with (list ++ u ∷ []) us longer more (distinct_behind list u distinct lacks)

-- what holds of those in the list and of what is put behind it
pub each_with : (P : Use → Type 0) {others : ℕ} (list us longer : List Use) → IsWith others list us longer → Each P us → Each P list → Each P longer
each_with P list [] longer instances.IsWith.nothing each all = all
each_with P list (u ∷ us) longer (instances.IsWith.there listed more) each all = each_with P list us longer more each.1 all
each_with P list (u ∷ us) longer (instances.IsWith.lacking lacks room more) each all =
    each_with P (list ++ u ∷ []) us longer more each.1 (each_both P list (u ∷ []) all (each.0, tt))
