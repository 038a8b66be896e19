-- What is still there of nodes, and look-ups in it.
use Rattle.std.proofs.Common.{◌≡◌, inl, inr, refl, sym, ap, subst, ◌∙◌, ◌⊎◌, ℕ, zero, suc, ◌<◌, List, [], ◌∷◌, ◌++◌, get_or, length, Option, Some, None, slice_get, unwrap_or}
use Rattle.std.proofs.Math.ListN.{set}
use Rattle.std.proofs.lemmas.Option.{none-some, slice_get_read}
use Rattle.std.specs.Prelude.{IfOk}
use Rattle.std.specs.Result.{result_ok}
use Rattle.std.specs.declared.result.Result.{Result}
use Rattle.std.specs.declared.result.Result.TheVariants.{Err, Ok}
use Rattle.lk_types.proofs.Parts.{same_some}
use Rattle.lk_ir.specs.Tables.{body_at}
use Rattle.lk_ir.specs.Uses.{Uses}
use Rattle.lk_ir.specs.declared.nodes.Body.{Body}
use Rattle.lk_ir.specs.declared.nodes.Forms.{Forms}
use Rattle.lk_cps.proofs.Entries.{Found, found, found_in}
use Rattle.lk_cps.specs.Conts.{IsTypeOf}
use Rattle.lk_cps.specs.Live.{AreLive, IsTypeUnder, Live, LiveAt, type_in}
use Rattle.lk_ir.specs.TypedUses.{UsesAs}

abbrev Slots : Type 0
Slots = List (Option Live)

-- ---- one slot is written

taken : (all : Slots) (n m : ℕ) (live : Live) → slice_get (set all n None) m ≡ Some (Some live) → slice_get all m ≡ Some (Some live)
taken [] n m live at = at
taken (o ∷ all) zero zero live at = absurd (none-some live (same_some at))
taken (o ∷ all) zero (suc m) live at = at
taken (o ∷ all) (suc n) zero live at = at
taken (o ∷ all) (suc n) (suc m) live at = taken all n m live at

written : (all : Slots) (n m : ℕ) (new live : Live) → slice_get (set all n (Some new)) m ≡ Some (Some live) → ((n ≡ m) × (new ≡ live)) ⊎ (slice_get all m ≡ Some (Some live))
written [] n m new live at = inr at
written (o ∷ all) zero zero new live at = inl (refl, same_some (same_some at))
written (o ∷ all) zero (suc m) new live at = inr at
written (o ∷ all) (suc n) zero new live at = inr at
written (o ∷ all) (suc n) (suc m) new live at = by_slot (written all n m new live at)
  where
    by_slot : ((n ≡ m) × (new ≡ live)) ⊎ (slice_get all m ≡ Some (Some live)) → ((suc n ≡ suc m) × (new ≡ live)) ⊎ (slice_get all m ≡ Some (Some live))
    by_slot (inl same) = inl (ap suc same.0, same.1)
    by_slot (inr there) = inr there

pub live_taken : (f : Forms) (all : Slots) (n : ℕ) → AreLive f all → AreLive f (set all n None)
live_taken f all n are m live at = are m live (taken all n m live at)

none_more : (all : Slots) (m : ℕ) (live : Live) → slice_get (all ++ None ∷ []) m ≡ Some (Some live) → slice_get all m ≡ Some (Some live)
none_more [] zero live at = absurd (none-some live (same_some at))
none_more [] (suc m) live at = at
none_more (o ∷ all) zero live at = at
none_more (o ∷ all) (suc m) live at = none_more all m live at

pub live_pushed : (f : Forms) (all more : Slots) → more ≡ all ++ None ∷ [] → AreLive f all → AreLive f more
live_pushed f all more is are m live at = are m live (none_more all m live (subst (λ slots. slice_get slots m ≡ Some (Some live)) is at))

pub none_live : (f : Forms) → AreLive f []
none_live f m live at = absurd (none-some (Some live) at)

-- ---- types

pub type_there : (f : Forms) (n x : ℕ) (live : Live) → LiveAt f n live → IsTypeOf f n x (unwrap_or (type_in live x) 0)
type_there f n x live is all uses = by_type (found_in (type_in live x) ((is.just x).1 uses))
  where
    by_type : Found (type_in live x) → UsesAs f x (unwrap_or (type_in live x) 0) n
    by_type (found ty at) = subst (λ (o : Option ℕ). UsesAs f x (unwrap_or o 0) n) (sym at) (is.typed all x ty at)

-- in the body that has this label
pub type_under : (f : Forms) (label x ty : ℕ) (b : Body) → Some b ≡ body_at f label → IsTypeOf f b.root x ty → IsTypeUnder f label x ty
type_under f label x ty b is type other there all uses =
    let same : b ≡ other = same_some (is ∙ there) in
    subst (λ (it : Body). UsesAs f x ty it.root) same (type all (subst (λ (it : Body). Uses f x it.root) (sym same) uses))

pub no_body : (f : Forms) (label x ty : ℕ) → None ≡ body_at f label → IsTypeUnder f label x ty
no_body f label x ty is b there all uses = absurd (none-some b (is ∙ there))

-- the type of a name in what is there of a node
pub slot_type : (f : Forms) (all slots : Slots) (n x : ℕ) (slot : Option Live) (live : Live) (found_there : Option ℕ) (ty : ℕ) → AreLive f all → slots ≡ all → n < length slots → slot ≡ get_or slots n slot → slot ≡ Some live → found_there ≡ type_in live x → ty ≡ unwrap_or found_there 0 → IsTypeOf f n x ty
slot_type f all slots n x slot live found_there ty are is within read some type known =
    let there : slice_get all n ≡ Some (Some live) = subst (λ (them : Slots). slice_get them n ≡ Some (Some live)) is (slice_get_read slots (length slots) n slot refl within read ∙ ap Some some) in
    subst (IsTypeOf f n x) (sym (known ∙ ap (λ (o : Option ℕ). unwrap_or o 0) type)) (type_there f n x live (are n live there))

-- what is taken out of a slot
pub slot_taken : {E : Type 0} (f : Forms) (all : Slots) (n : ℕ) (slot out : Option Live) (result : Result Live E) → AreLive f all → n < length all → slot ≡ get_or all n slot → out ≡ slot → out ≡ result_ok result → IfOk result (LiveAt f n)
slot_taken f all n slot out (Err e) are within read is gives = tt
slot_taken f all n slot out (Ok live) are within read is gives = are n live (slice_get_read all (length all) n slot refl within read ∙ ap Some (sym is ∙ gives))
