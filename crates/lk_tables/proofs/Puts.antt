-- Members that are put in one after the other, each at a key of its own.
use Rattle.std.proofs.Common.{◌≡◌, ◌+◌, ℕ, suc, List, [], ◌∷◌, map, length, fold, Bool, true, false, ◌||◌, bytes_eq, Some, None, is_some, Ordering, Less, Equal, Greater, refl, sym, ap, ◌∙◌, true≢false, arith}
use Rattle.std.specs.List.{list_any}
use Rattle.std.specs.Ordering.{nat_cmp, match_ordering}
use Rattle.std.specs.Cmp.Lexicographic.{slice_cmp}
use Rattle.std.proofs.lemmas.Slice.Eq.{bytes_eq-Decides}
use Rattle.std.specs.Cmp.{first_so, second_so}
use Rattle.std.proofs.lemmas.Bool.{or_right, not-true}
use Rattle.serde_json.specs.Data.{Data, Members, no_members, member, put}
use Rattle.serde_json.specs.Events.{members_len}
use Rattle.serde_json.specs.Find.{get_member}
use Rattle.serde_json.proofs.Views.{get_member-put, get_member-put_other}
use Rattle.lk_ast.specs.JsonText.{Entry}
use Rattle.lk_tables.specs.Law.{are_distinct}

abbrev pub put_all : Members → List Entry → Members
put_all now es = fold (λ members entry. put entry.0 entry.1 members) now es

abbrev pub key_of : Entry → List ℕ
key_of entry = entry.0

abbrev pub is_among : List ℕ → List Entry → Bool
is_among key es = list_any (bytes_eq key) (map key_of es)

pub left_false : (a b : Bool) → (a || b) ≡ false → a ≡ false
left_false true b p = p
left_false false b p = refl

pub right_false : (a b : Bool) → (a || b) ≡ false → b ≡ false
right_false true b p = absurd (true≢false p)
right_false false b p = p

pub differ : (k l : List ℕ) → bytes_eq k l ≡ false → k ≡ l → ⊥
differ k l e same = true≢false (sym ((bytes_eq-Decides k l).1 same) ∙ e)

pub itself : (k : List ℕ) → bytes_eq k k ≡ true
itself k = (bytes_eq-Decides k k).1 refl

pub get_put_all : (k : List ℕ) (now : Members) (es : List Entry) → is_among k es ≡ false → get_member k (put_all now es) ≡ get_member k now
get_put_all k now [] e = refl
get_put_all k now (f ∷ es) e = get_put_all k (put f.0 f.1 now) es (right_false _ _ e) ∙ get_member-put_other k f.0 f.1 now (differ k f.0 (left_false _ _ e))

-- what is put first is found, if nothing is put at its key later
pub get_put_first : (k : List ℕ) (d : Data) (now : Members) (es : List Entry) → is_among k es ≡ false → get_member k (put_all now ((k, d) ∷ es)) ≡ Some d
get_put_first k d now es e = get_put_all k (put k d now) es e ∙ get_member-put k d now

longer_at : (o : Ordering) (k l : List ℕ) (d e : Data) (ms : Members) → match_ordering o (get_member k ms) (Some e) (get_member k ms) ≡ None → (get_member k ms ≡ None → members_len (put k d ms) ≡ suc (members_len ms))
    → members_len (match_ordering o (member k d (member l e ms)) (member l d ms) (member l e (put k d ms))) ≡ suc (suc (members_len ms))
longer_at Less k l d e ms new later = refl
longer_at Equal k l d e ms new later = absurd (true≢false (ap is_some new))
longer_at Greater k l d e ms new later = ap suc (later new)

one_longer : (k : List ℕ) (d : Data) (ms : Members) → get_member k ms ≡ None → members_len (put k d ms) ≡ suc (members_len ms)
one_longer k d no_members new = refl
one_longer k d (member l e ms) new = longer_at (slice_cmp nat_cmp k l) k l d e ms new (one_longer k d ms)

abbrev AreNew : List Entry → Members → Type 0
AreNew es now = (k : List ℕ) → is_among k es ≡ true → get_member k now ≡ None

len_put_all : (now : Members) (es : List Entry) → are_distinct (map key_of es) ≡ true → AreNew es now → members_len (put_all now es) ≡ length es + members_len now
len_put_all now [] distinct new = omega arith
len_put_all now (f ∷ es) distinct new =
    let other : is_among f.0 es ≡ false = not-true _ (first_so _ _ distinct) in
    let here : members_len (put f.0 f.1 now) ≡ suc (members_len now) = one_longer f.0 f.1 now (new f.0 (ap (λ b. b || is_among f.0 es) (itself f.0))) in
    let later : members_len (put_all (put f.0 f.1 now) es) ≡ length es + members_len (put f.0 f.1 now) =
    len_put_all (put f.0 f.1 now) es (second_so _ _ distinct)
    (λ k among. get_member-put_other k f.0 f.1 now (λ same. true≢false (sym among ∙ ap (λ k. is_among k es) same ∙ other)) ∙ new k (or_right _ _ among)) in
    omega (arith, here, later)

-- there are as many members as entries
pub len_of_all : (es : List Entry) → are_distinct (map key_of es) ≡ true → members_len (put_all no_members es) ≡ length es
len_of_all es distinct = let len : members_len (put_all no_members es) ≡ length es + members_len no_members = len_put_all no_members es distinct (λ k among. refl) in omega (arith, len)
