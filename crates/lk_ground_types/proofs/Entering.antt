-- A table of ground types that grows by one entry.
use Rattle.std.proofs.Common.{◌≡◌, ◌⊎◌, inl, inr, ℕ, zero, suc, ◌+◌, ◌<◌, List, [], ◌∷◌, ◌++◌, map, length, get_or, refl, sym, ap, subst, ◌∙◌, Some, None, arith}
use Rattle.std.proofs.lemmas.List.{length-map, map-append}
use Rattle.std.proofs.lemmas.Option.{none-some, slice_get-map, slice_get_read, slice_get_within}
use Rattle.std.specs.FinMap as fin
use Rattle.std.specs.Option.{option_map}
use Rattle.std.specs.Prelude.{slice_get}
use Rattle.lk_types.proofs.Members.{each_weaker}
use Rattle.lk_types.proofs.LabelMaps.{Differ, Tied, get_here, get_there, tie_cases}
use Rattle.lk_types.proofs.Parts.{same_some}
use Rattle.lk_types.specs.Each.{Each}
use Rattle.lk_types.specs.declared.ground.Ground.{Ground}
use Rattle.lk_types.specs.declared.ground.Ground.TheVariants as known
use Rattle.lk_ground_types.proofs.LevelKeys.{at_there, keys_apart, levels_apart}
use Rattle.lk_ground_types.specs.Counting.{capped}
use Rattle.lk_ground_types.specs.Grounds.{AreCounted, AreDistinct, AreGrounds, IsBelow, IsEntry, Numbers, at, ground_made, key, part_made, parts_of, types_of}
use Rattle.lk_ground_types.specs.Sizes.{ground_nodes}
use Rattle.lk_ground_types.specs.declared.entries.Entry.{Entry}
use Rattle.lk_ground_types.specs.declared.ground_level.GroundLevel.{GroundLevel}
use Rattle.lk_ground_types.specs.declared.ground_level.GroundLevel.TheVariants as level
use Rattle.lk_ground_types.specs.declared.ground_level.GroundPart.{GroundPart}

-- ---- lists

module _ {X : Type 0} where
  pub front_there : (xs ys : List X) (n : ℕ) (x : X) → slice_get xs n ≡ Some x → slice_get (xs ++ ys) n ≡ Some x
  front_there [] ys n x is = cc
  front_there (y ∷ xs) ys zero x is = is
  front_there (y ∷ xs) ys (suc n) x is = front_there xs ys n x is

  pub last_there : (xs : List X) (x : X) → slice_get (xs ++ x ∷ []) (length xs) ≡ Some x
  last_there [] x = refl
  last_there (y ∷ xs) x = last_there xs x

  abbrev Before : List X → ℕ → X → Type 0
  Before xs n y = (slice_get xs n ≡ Some y) × (n < length xs)

  abbrev Last : List X → X → ℕ → X → Type 0
  Last xs x n y = (n ≡ length xs) × (x ≡ y)

  pub last_or_before : (xs : List X) (x : X) (n : ℕ) (y : X) → slice_get (xs ++ x ∷ []) n ≡ Some y → Before xs n y ⊎ Last xs x n y
  last_or_before [] x zero y is = inr (refl, same_some is)
  last_or_before [] x (suc n) y is = cc
  last_or_before (z ∷ xs) x zero y is = inl (is, omega arith)
  last_or_before (z ∷ xs) x (suc n) y is = by_case (last_or_before xs x n y is)
    where
      by_case : Before xs n y ⊎ Last xs x n y → Before (z ∷ xs) (suc n) y ⊎ Last (z ∷ xs) x (suc n) y
      by_case (inl (there, less)) = inl (there, omega (arith, less))
      by_case (inr (n_is, same)) = inr (ap suc n_is, same)

module _ {X Y : Type 0} (f : X → Y) where
  pub mapped_back : (xs : List X) (n : ℕ) (y : Y) → slice_get (map f xs) n ≡ Some y → (x : X) × (slice_get xs n ≡ Some x) × (f x ≡ y)
  mapped_back [] n y is = cc
  mapped_back (x ∷ xs) zero y is = (x, refl, same_some is)
  mapped_back (x ∷ xs) (suc n) y is = mapped_back xs n y is

-- ---- what levels make stays

pub at_is : (ts : List Ground) (n : ℕ) (t : Ground) → slice_get ts n ≡ Some t → at ts n ≡ t
at_is [] n t is = cc
at_is (u ∷ ts) zero t is = same_some is
at_is (u ∷ ts) (suc n) t is = at_is ts n t is

pub at_front : (ts us : List Ground) (n : ℕ) → n < length ts → at (ts ++ us) n ≡ at ts n
at_front ts us n less = at_is (ts ++ us) n (at ts n) (front_there ts us n (at ts n) (at_there ts n less))

pub ats_front : (ts us : List Ground) (ns : List ℕ) → Each (λ n. n < length ts) ns → map (at (ts ++ us)) ns ≡ map (at ts) ns
ats_front ts us [] less = refl
ats_front ts us (n ∷ ns) less = λ i. at_front ts us n less.0 i ∷ ats_front ts us ns less.1 i

parts_front : (ts us : List Ground) (ps : List GroundPart) → Each (λ n. n < length ts) (map (λ p. p.part) ps) → map (part_made (ts ++ us)) ps ≡ map (part_made ts) ps
parts_front ts us [] less = refl
parts_front ts us (p ∷ ps) less = λ i. record { label = p.label; ty = at_front ts us p.part less.0 i } ∷ parts_front ts us ps less.1 i

pub made_front : (ts us : List Ground) (l : GroundLevel) → IsBelow (length ts) l → ground_made (ts ++ us) l ≡ ground_made ts l
made_front ts us level.Int less = refl
made_front ts us level.Bool less = refl
made_front ts us level.Text less = refl
made_front ts us (level.List n) less = ap (λ t. known.List t) (at_front ts us n less.0)
made_front ts us (level.Fields ps) less = ap (λ fs. known.Fields fs) (parts_front ts us ps less)
made_front ts us (level.Tags ps) less = ap (λ fs. known.Tags fs) (parts_front ts us ps less)
made_front ts us (level.Fun ns es n) less = λ i. known.Fun (ats_front ts us ns less.1 i) es (at_front ts us n less.0 i)

pub below_more : (k m : ℕ) (l : GroundLevel) → k < m + 1 → IsBelow k l → IsBelow m l
below_more k m l le less = each_weaker (λ n. n < k) (λ n. n < m) (λ n h. omega (arith, le, h)) (parts_of l) less

-- ---- one more entry

type_there : (es : List Entry) (n : ℕ) (e : Entry) → slice_get es n ≡ Some e → slice_get (types_of es) n ≡ Some e.ty
type_there es n e is = slice_get-map (λ (e : Entry). e.ty) es n ∙ ap (option_map (λ (e : Entry). e.ty)) is

pub types_long : (es : List Entry) → length (types_of es) ≡ length es
types_long es = length-map es (λ (e : Entry). e.ty)

pub counted : {es : List Entry} {ps : Numbers} → AreGrounds es ps → AreCounted es
counted table n e is = (table.each n e is).nodes

module _ (es : List Entry) (ps : Numbers) (e : Entry) (table : AreGrounds es ps) (below : IsBelow (length es) e.level) (lacks : fin.get ps (key e.level) ≡ None)
    (made : e.ty ≡ ground_made (types_of es) e.level) (nodes : e.nodes ≡ capped (ground_nodes e.ty)) where
  abbrev longer_list : List Entry
  longer_list = es ++ e ∷ []

  types_are : types_of longer_list ≡ types_of es ++ e.ty ∷ []
  types_are = map-append (λ (e : Entry). e.ty) es (e ∷ [])

  long : length (types_of es) ≡ length es
  long = types_long es

  below_types : (n : ℕ) (l : GroundLevel) → n < length es + 1 → IsBelow n l → IsBelow (length (types_of es)) l
  below_types n l less is = subst (λ k. IsBelow k l) (sym long) (below_more n (length es) l less is)

  made_still : (n : ℕ) (l : GroundLevel) → n < length es + 1 → IsBelow n l → ground_made (types_of longer_list) l ≡ ground_made (types_of es) l
  made_still n l less is = ap (λ ts. ground_made ts l) types_are ∙ made_front (types_of es) (e.ty ∷ []) l (below_types n l less is)

  itself : length es < length es + 1
  itself = omega arith

  each_entry : (n : ℕ) (f : Entry) → slice_get longer_list n ≡ Some f → IsEntry (types_of longer_list) n f
  each_entry n f is = by_case (last_or_before es e n f is)
    where
      by_case : ((slice_get es n ≡ Some f) × (n < length es)) ⊎ ((n ≡ length es) × (e ≡ f)) → IsEntry (types_of longer_list) n f
      by_case (inl (there, less)) =
          let old = table.each n f there in
          record { made = old.made ∙ sym (made_still n f.level (omega (arith, less)) old.below); below = old.below; nodes = old.nodes }
      by_case (inr (n_is, same)) =
          subst (λ f. IsEntry (types_of longer_list) n f) same
          (record { made = made ∙ sym (made_still (length es) e.level itself below); below = subst (λ k. IsBelow k e.level) (sym n_is) below; nodes = nodes })

  is_found : (l : GroundLevel) (n : ℕ) → fin.get (fin.insert ps (key e.level) (length es)) (key l) ≡ Some n → (f : Entry) × (slice_get longer_list n ≡ Some f) × (f.level ≡ l)
  is_found l n is = by_case (tie_cases (key l) (key e.level))
    where
      by_case : Tied (key l) (key e.level) ⊎ Differ (key l) (key e.level) → (f : Entry) × (slice_get longer_list n ≡ Some f) × (f.level ≡ l)
      by_case (inl tied) =
          let n_is : length es ≡ n = same_some (sym (get_here ps (key e.level) (length es) (key l) tied.1) ∙ is) in
          (e, subst (λ n. slice_get longer_list n ≡ Some e) n_is (last_there es e), keys_apart e.level l (sym tied.1))
      by_case (inr differ) =
          let old = table.found l n (sym (get_there ps (key e.level) (length es) (key l) differ.1) ∙ is) in
          (old.0, front_there es (e ∷ []) n old.0 old.1, old.2)

  is_listed : (n : ℕ) (f : Entry) → slice_get longer_list n ≡ Some f → fin.get (fin.insert ps (key e.level) (length es)) (key f.level) ≡ Some n
  is_listed n f is = by_case (last_or_before es e n f is)
    where
      by_case : ((slice_get es n ≡ Some f) × (n < length es)) ⊎ ((n ≡ length es) × (e ≡ f)) → fin.get (fin.insert ps (key e.level) (length es)) (key f.level) ≡ Some n
      by_case (inl (there, less)) =
          let old = table.listed n f there in
          get_there ps (key e.level) (length es) (key f.level) (λ same. none-some n (sym lacks ∙ ap (fin.get ps) (sym same) ∙ old)) ∙ old
      by_case (inr (n_is, same)) = get_here ps (key e.level) (length es) (key f.level) (ap (λ f. key f.level) (sym same)) ∙ ap Some (sym n_is)

  -- no other entry has its type
  is_new : (n : ℕ) → slice_get (types_of es) n ≡ Some e.ty → ⊥
  is_new n is =
      let old = mapped_back (λ (e : Entry). e.ty) es n e.ty is in
      let entry = table.each n old.0 old.1 in
      let less = slice_get_within es n old.0 old.1 in
      let same : old.0.level ≡ e.level = levels_apart (types_of es) table.distinct old.0.level e.level (below_types n old.0.level (omega (arith, less)) entry.below)
      (below_types (length es) e.level itself below) (sym entry.made ∙ old.2 ∙ made) in
      none-some n (sym lacks ∙ ap (λ l. fin.get ps (key l)) (sym same) ∙ table.listed n old.0 old.1)

  abbrev Case : Ground → ℕ → Type 0
  Case t n = ((slice_get (types_of es) n ≡ Some t) × (n < length (types_of es))) ⊎ ((n ≡ length (types_of es)) × (e.ty ≡ t))

  are_distinct : AreDistinct (types_of es ++ e.ty ∷ [])
  are_distinct i j t first second = by_cases (last_or_before (types_of es) e.ty i t first) (last_or_before (types_of es) e.ty j t second)
    where
      by_cases : Case t i → Case t j → i ≡ j
      by_cases (inl a) (inl b) = table.distinct i j t a.0 b.0
      by_cases (inl a) (inr b) = absurd (is_new i (a.0 ∙ ap Some (sym b.1)))
      by_cases (inr a) (inl b) = absurd (is_new j (b.0 ∙ ap Some (sym a.1)))
      by_cases (inr a) (inr b) = a.0 ∙ sym b.0

  pub entered : AreGrounds longer_list (fin.insert ps (key e.level) (length es))
  entered = record { each = each_entry; found = is_found; listed = is_listed; distinct = subst AreDistinct (sym types_are) are_distinct }

  pub types_entered : types_of longer_list ≡ types_of es ++ ground_made (types_of es) e.level ∷ []
  types_entered = types_are ∙ ap (λ t. types_of es ++ t ∷ []) made

-- the same of what is put there
module _ (es before new : List Entry) (ps qs : Numbers) (e : Entry) (l : GroundLevel) (k : List ℕ) (n : ℕ) (table : AreGrounds es ps) (below : IsBelow (length es) l)
    (lacks : fin.get ps (key l) ≡ None) (k_is : k ≡ key l) (before_is : before ≡ es) (made : e.ty ≡ ground_made (types_of before) l) (level_is : e.level ≡ l)
    (nodes : e.nodes ≡ capped (ground_nodes (ground_made (types_of before) l))) (n_is : n ≡ length before) (new_is : new ≡ es ++ e ∷ []) (qs_is : qs ≡ fin.insert ps k n) where
  own_below : IsBelow (length es) e.level
  own_below = subst (IsBelow (length es)) (sym level_is) below

  own_lacks : fin.get ps (key e.level) ≡ None
  own_lacks = ap (λ l. fin.get ps (key l)) level_is ∙ lacks

  own_made : e.ty ≡ ground_made (types_of es) e.level
  own_made = made ∙ (λ i. ground_made (types_of (before_is i)) (sym level_is i))

  own_nodes : e.nodes ≡ capped (ground_nodes e.ty)
  own_nodes = nodes ∙ ap (λ t. capped (ground_nodes t)) (sym made)

  places_are : fin.insert ps (key e.level) (length es) ≡ qs
  places_are = (λ i. fin.insert ps (sym (k_is ∙ ap key (sym level_is)) i) (sym (n_is ∙ ap length before_is) i)) ∙ sym qs_is

  pub pushed : AreGrounds new qs
  pushed = subst (λ new. AreGrounds new qs) (sym new_is) (subst (AreGrounds (es ++ e ∷ [])) places_are (entered es ps e table own_below own_lacks own_made own_nodes))

  pub pushed_types : types_of new ≡ types_of es ++ ground_made (types_of es) l ∷ []
  pushed_types = ap types_of new_is ∙ types_entered es ps e table own_below own_lacks own_made own_nodes ∙ ap (λ l. types_of es ++ ground_made (types_of es) l ∷ []) level_is

-- one that is there
module _ (es : List Entry) (ps : Numbers) (table : AreGrounds es ps) (l : GroundLevel) (n : ℕ) (is : fin.get ps (key l) ≡ Some n) where
  there : (e : Entry) × (slice_get es n ≡ Some e) × (e.level ≡ l)
  there = table.found l n is

pub none_entered : (es : List Entry) (ps : Numbers) → es ≡ [] → ps ≡ fin.empty → AreGrounds es ps
none_entered es ps none empty = subst (λ es. AreGrounds es ps) (sym none) (subst (λ ps. AreGrounds [] ps) (sym empty) (record {
  each = λ n e is. absurd (none-some e is);
  found = λ l n is. absurd (none-some n (sym (fin.get-empty _ (key l)) ∙ is));
  listed = λ n e is. absurd (none-some e is);
  distinct = λ i j t is same. absurd (none-some t is);
}))

-- ---- an entry that is read

pub entry_read : (es : List Entry) (ts : List Ground) (n : ℕ) (e : Entry) → types_of es ≡ ts → n < length ts → e ≡ get_or es n e → slice_get es n ≡ Some e
entry_read es ts n e are less is = slice_get_read es (length es) n e refl (subst (λ k. n < k) (ap length (sym are) ∙ types_long es) less) is

pub type_read : (es : List Entry) (ts : List Ground) (n : ℕ) (e : Entry) → types_of es ≡ ts → slice_get es n ≡ Some e → e.ty ≡ at ts n
type_read es ts n e are is = sym (at_is (types_of es) n e.ty (type_there es n e is)) ∙ ap (λ ts. at ts n) are
