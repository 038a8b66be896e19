-- Entries of a scope that hide others.
use Rattle.std.proofs.Common.{◌≡◌, ◌∙◌, refl, sym, ap, subst, ℕ, ◌+◌, ◌<◌, Bool, true, false, cond, List, [], ◌∷◌, ◌++◌, map, length, reverse, get_or, Option, Some, None, arith}
use Rattle.std.proofs.Math.ListN.{get_or-append}
use Rattle.std.proofs.Math.Seq.{get_or-append_seam}
use Rattle.std.proofs.lemmas.List.{length-map, length-reverse, reverse-append, reverse-reverse}
use Rattle.std.proofs.lemmas.Map.Text.{btree_map_updates_str}
use Rattle.std.proofs.lemmas.Slice.Eq.{bytes_eq-Decides}
use Rattle.std.specs.BTreeMap.{BTreeMap, UpdatesBy, get_by}
use Rattle.std.specs.Cmp.Lexicographic.{slice_cmp}
use Rattle.std.specs.Ordering.{nat_cmp}
use Rattle.std.specs.Str.{bytes_eq}
use Rattle.lk_types.specs.Rows.{Label}
use Rattle.lk_typing.specs.Names.{named}
use Rattle.lk_equations.specs.Places.{IsIndex, Links, links, place, seen}
use Rattle.lk_equations.specs.declared.scope.Entry.{Entry}
use denote.Ref.{Bor}

abbrev pub Last : Type 0
Last = BTreeMap (Bor (List ℕ)) ℕ

-- the place of a name
abbrev pub at : Label → Last → Option ℕ
at x last = get_by (λ k. slice_cmp nat_cmp x k.now) last

-- the name of an entry stands for something else, or for nothing, from there on
abbrev pub Moves : Label → Last → Last → Option ℕ → Type 0
Moves x old new to = UpdatesBy (λ j k. slice_cmp nat_cmp j.now k.now) (λ k. slice_cmp nat_cmp x k.now) old new to

-- ---- places alone

same_place : (b : Bool) (h s p : Option ℕ) → (b ≡ true → h ≡ p) → cond b h (cond b s p) ≡ p
same_place true h s p same = same refl
same_place false h s p same = refl

within_if : (b : Bool) (n i : ℕ) (p : Option ℕ) → (p ≡ Some i → i < n) → cond b (Some n) p ≡ Some i → i < 1 + n
within_if true n i p before is = let same : n ≡ i = cc in omega arith
within_if false n i p before is = let h : i < n = before is in omega arith

place_within : (x : Label) (es : Links) (i : ℕ) → place x es ≡ Some i → i < length es
place_within x [] i is = let none : None ≡ Some i = is in absurd (cc)
place_within x (e ∷ es) i is = let h : i < 1 + length es = within_if (bytes_eq e.0 x) (length es) i (place x es) (place_within x es i) is in omega (arith, h)

missing_if : {B : Type 0} (b : Bool) (n : ℕ) (p : Option ℕ) (v : B) (found : Option B) → (p ≡ None → found ≡ None) → cond b (Some n) p ≡ None → cond b (Some v) found ≡ None
missing_if true n p v found before is = absurd (cc)
missing_if false n p v found before is = before is

module _ {A : Type 0} where
  abbrev pub link : Entry A → Label × Option ℕ
  link e = (e.name.now, e.hidden)

  abbrev pub sight : Entry A → Label × A
  sight e = (e.name.now, e.value)

  links_more : (entries : List (Entry A)) (e : Entry A) → links (entries ++ e ∷ []) ≡ link e ∷ links entries
  links_more entries e = ap (map link) (reverse-append entries (e ∷ []))

  links_length : (entries : List (Entry A)) → length (links entries) ≡ length entries
  links_length entries = length-map (reverse entries) link ∙ length-reverse entries

  -- ---- one more entry

  pub pushed : {old new : Last} (entries : List (Entry A)) (e : Entry A) → IsIndex old (links entries) → e.hidden ≡ at e.name.now old
      → Moves e.name.now old new (Some (length entries)) → IsIndex new (links (entries ++ e ∷ []))
  pushed {old} {new} entries e index hidden moves = subst (IsIndex new) (sym (links_more entries e)) (record {
    places = λ x. btree_map_updates_str e.name.now old new (Some (length entries)) moves x
        ∙ ap (λ n. cond (bytes_eq e.name.now x) (Some n) (at x old)) (sym (links_length entries))
        ∙ ap (cond (bytes_eq e.name.now x) (Some (length (links entries)))) (index.places x);
    linked = (hidden ∙ index.places e.name.now, index.linked);
  })

  -- ---- without the last entry

  pub popped : {old new : Last} (left : List (Entry A)) (e : Entry A) → IsIndex old (links (left ++ e ∷ []))
      → Moves e.name.now old new e.hidden → IsIndex new (links left)
  popped {old} {new} left e index moves =
      let n : Label = e.name.now in
      let whole : IsIndex old (link e ∷ links left) = subst (IsIndex old) (links_more left e) index in
      record {
        places = λ x. btree_map_updates_str n old new e.hidden moves x
            ∙ ap (cond (bytes_eq n x) e.hidden) (whole.places x)
            ∙ same_place (bytes_eq n x) e.hidden (Some (length (links left))) (place x (links left)) (λ same. whole.linked.0 ∙ ap (λ m. place m (links left)) ((bytes_eq-Decides n x).0 same));
        linked = whole.linked.1;
      }

  pub never_absent : {old : Last} (left : List (Entry A)) (e : Entry A) → IsIndex old (links (left ++ e ∷ [])) → None ≡ at e.name.now old → ⊥
  never_absent {old} left e index none =
      let n : Label = e.name.now in
      let whole : IsIndex old (link e ∷ links left) = subst (IsIndex old) (links_more left e) index in
      let there : at n old ≡ Some (length (links left)) = whole.places n ∙ ap (λ b. cond b (Some (length (links left))) (place n (links left))) ((bytes_eq-Decides n n).1 refl) in
      let both : None ≡ Some (length (links left)) = none ∙ there in
      cc

  -- ---- what a name stands for
  reversed_length : (es : List (Entry A)) → length (map link es) ≡ length (reverse es)
  reversed_length es = length-map es link ∙ sym (length-reverse es)

  found_if : (b : Bool) (e d : Entry A) (es : List (Entry A)) (i : ℕ) (p : Option ℕ) (found : Option A)
      → (p ≡ Some i → i < length (reverse es)) → (p ≡ Some i → found ≡ Some (get_or (reverse es) i d).value)
      → cond b (Some (length (reverse es))) p ≡ Some i → cond b (Some e.value) found ≡ Some (get_or (reverse es ++ e ∷ []) i d).value
  found_if true e d es i p found within before is =
      let same : length (reverse es) ≡ i = cc in
      ap (λ f. Some f.value) (sym (get_or-append_seam (reverse es) e [] d) ∙ ap (λ j. get_or (reverse es ++ e ∷ []) j d) same)
  found_if false e d es i p found within before is = before is ∙ ap (λ f. Some f.value) (sym (get_or-append (reverse es) (e ∷ []) d i (within is)))

  found_in : (x : Label) (es : List (Entry A)) (i : ℕ) (d : Entry A) → place x (map link es) ≡ Some i → named x (map sight es) ≡ Some (get_or (reverse es) i d).value
  found_in x [] i d is = let none : None ≡ Some i = is in absurd (cc)
  found_in x (e ∷ es) i d is =
      let p : Option ℕ = place x (map link es) in
      found_if (bytes_eq e.name.now x) e d es i p (named x (map sight es))
      (λ there. subst (λ n. i < n) (reversed_length es) (place_within x (map link es) i there))
      (found_in x es i d)
      (ap (λ n. cond (bytes_eq e.name.now x) (Some n) p) (sym (reversed_length es)) ∙ is)
      ∙ ap (λ fs. Some (get_or fs i d).value) (sym (reverse-append (e ∷ []) es))

  missing_in : (x : Label) (es : List (Entry A)) → place x (map link es) ≡ None → named x (map sight es) ≡ None
  missing_in x [] is = refl
  missing_in x (e ∷ es) is = missing_if (bytes_eq e.name.now x) (length (map link es)) (place x (map link es)) e.value (named x (map sight es)) (missing_in x es) is

  pub within : {last : Last} (entries : List (Entry A)) (x : Label) (i : ℕ) → IsIndex last (links entries) → Some i ≡ at x last → i < length entries
  within entries x i index is = subst (λ n. i < n) (links_length entries) (place_within x (links entries) i (sym (index.places x) ∙ sym is))

  pub found : {last : Last} (entries : List (Entry A)) (x : Label) (i : ℕ) (d : Entry A) → IsIndex last (links entries) → Some i ≡ at x last
      → Some (get_or entries i d).value ≡ named x (seen entries)
  found entries x i d index is =
      ap (λ es. Some (get_or es i d).value) (sym (reverse-reverse entries)) ∙ sym (found_in x (reverse entries) i d (sym (index.places x) ∙ sym is))

  pub missing : {last : Last} (entries : List (Entry A)) (x : Label) → IsIndex last (links entries) → None ≡ at x last → None ≡ named x (seen entries)
  missing entries x index is = sym (missing_in x (reverse entries) (sym (index.places x) ∙ sym is))
