-- What the grammar derives is read, unless the room is too small: names, marks and keys.
use Rattle.std.proofs.Common.{◌≡◌, ℕ, false, List, [], ◌∷◌, ◌++◌, Ok, refl, sym, ap, append_assoc}
use Rattle.std.specs.Prelude.{codes}
use Rattle.lk_ast.specs.declared.expression.SortKey.{SortKey}
use Rattle.lk_ast.specs.declared.place.Loc.{Loc}
use Rattle.lk_ast.specs.declared.place.Word.{Word}
use Rattle.lk_ast.specs.declared.token.Token.{Token}
use Rattle.lk_read.specs.Kinds.{IsSign, is_word, is_name, word_of}
use Rattle.lk_read.specs.Reader.{Reading, peek, eat, many}
use Rattle.lk_read.proofs.Below.{◌⊑◌, bind-finds, eat-finds, give-finds, when-yes, when-no, many-ends, many-goes}
use Rattle.lk_read.proofs.KindLaws.{sign_sign, sign_word, word_word}
use Rattle.lk_read.proofs.Moves.{along, cons, here}
use Rattle.lk_rows.specs.Reading.{comma}
use Rattle.lk_grammar.specs.Expressions.{IsNames, IsParams, IsPlace, IsKey, IsKeys, IsOrder}
use Rattle.lk_grammar.specs.Reading.{names_turn, params_with, read_place, read_key, keys_turn, keys_with, order_with}
use Rattle.lk_parts.specs.Starts.{start_of_sign}
use Rattle.lk_parts.proofs.StartLaws.{name_start, is_expr_start, Begins, first_not_sign, regrouped}

-- ---- parameters

abbrev Names_find : List Token → List Word → Type 0
Names_find w xs = (n : ℕ) (z : List Token) (v : Reading (List Word)) → ((m : ℕ) → many comma names_turn m xs z ⊑ v) → eat is_name (λ x. many comma names_turn n (word_of x ∷ [])) (w ++ z) ⊑ v

names_find : {w : List Token} {xs : List Word} → IsNames w xs → Names_find w xs
unfolding names_turn
names_find (IsNames.first x h) n z v k = eat-finds _ _ _ _ h (k n)
names_find (IsNames.next {u = u} {xs = xs} s x d h k) n z v more = let sep = here (codes ",") s h refl in
    along (eat is_name (λ y. many comma names_turn n (word_of y ∷ []))) v (sym (append_assoc u (s ∷ x ∷ []) z))
    (names_find d n (s ∷ x ∷ z) v (many-goes comma _ xs (s ∷ x ∷ z) sep (eat-finds _ _ _ _ sep (eat-finds _ _ _ _ k (give-finds _ _))) more))

names_begin : {w : List Token} {xs : List Word} → IsNames w xs → (z : List Token) → Begins is_expr_start (w ++ z)
names_begin (IsNames.first x h) z = ap is_expr_start (name_start x h)
names_begin (IsNames.next {u = u} s x d h k) z = regrouped is_expr_start u (s ∷ x ∷ []) z (names_begin d ((s ∷ x ∷ []) ++ z))

pub params_find : {w : List Token} {xs : List Word} → IsParams w xs → (n : ℕ) (c : Token) (z : List Token) → IsSign (codes ")") c → params_with n (w ++ c ∷ z) ⊑ Ok (xs, c ∷ z)
unfolding params_with start_of_sign
params_find IsParams.none n c z h = when-yes _ _ _ _ (here (codes ")") c h refl) (give-finds _ _)
params_find (IsParams.some {w = w} {xs = xs} d) n c z h = when-no _ _ _ _ (first_not_sign is_expr_start (codes ")") (w ++ c ∷ z) (names_begin d (c ∷ z)) refl)
    (names_find d n (c ∷ z) (Ok (xs, c ∷ z)) (λ m. many-ends comma _ m xs (c ∷ z) (sign_sign (codes ")") (codes ",") c h)))

-- ---- marks

pub place_finds : {w : List Token} {place : Loc} → IsPlace w place → (z : List Token) → peek (is_word (codes "client")) z ≡ false → peek (is_word (codes "server")) z ≡ false → read_place (w ++ z) ⊑ Ok (place, z)
unfolding read_place
place_finds IsPlace.any z c s = when-no _ _ _ _ c (when-no _ _ _ _ s (give-finds _ _))
place_finds (IsPlace.client t h) z c s = let is = word_word (codes "client") (codes "client") t h in when-yes _ _ _ _ is (eat-finds _ _ _ _ is (give-finds _ _))
place_finds (IsPlace.server t h) z c s = let is = word_word (codes "server") (codes "server") t h in
    when-no _ _ _ _ (word_word (codes "server") (codes "client") t h) (when-yes _ _ _ _ is (eat-finds _ _ _ _ is (give-finds _ _)))

-- ---- keys

key_finds : {w : List Token} {key : SortKey} → IsKey w key → (z : List Token) → peek (is_word (codes "desc")) z ≡ false → read_key (w ++ z) ⊑ Ok (key, z)
unfolding read_key
key_finds (IsKey.rising l h) z e = eat-finds _ _ _ _ h (when-no _ _ _ _ e (give-finds _ _))
key_finds (IsKey.falling l d h k) z e = let is = word_word (codes "desc") (codes "desc") d k in eat-finds _ _ _ _ h (when-yes _ _ _ _ is (eat-finds _ _ _ _ is (give-finds _ _)))

keys_find : {w : List Token} {keys : List SortKey} → IsKeys w keys → (n : ℕ) (z : List Token) (v : Reading (List SortKey)) → peek (is_word (codes "desc")) z ≡ false → ((m : ℕ) → many comma keys_turn m keys z ⊑ v) → keys_with n (w ++ z) ⊑ v
unfolding keys_with keys_turn
keys_find (IsKeys.first d) n z v e k = bind-finds _ _ _ (key_finds d z e) (k n)
keys_find (IsKeys.next {u = u} {w = w} s {keys = keys} d h k) n z v e more = let sep = here (codes ",") s h refl in
    along (keys_with n) v (sym (append_assoc u (s ∷ w) z))
    (keys_find d n (s ∷ (w ++ z)) v (sign_word (codes ",") (codes "desc") s h) (many-goes comma _ keys (s ∷ (w ++ z)) sep (eat-finds _ _ _ _ sep (bind-finds _ _ _ (key_finds k z e) (give-finds _ _))) more))

pub order_finds : {w : List Token} {keys : List SortKey} → IsOrder w keys → (n : ℕ) (z : List Token) → peek (is_word (codes "orderby")) z ≡ false → order_with n (w ++ z) ⊑ Ok (keys, z)
unfolding order_with
order_finds IsOrder.none n z e = when-no _ _ _ _ e (give-finds _ _)
order_finds (IsOrder.some k o c {w = w} {keys = keys} h i d j) n z e = let is = word_word (codes "orderby") (codes "orderby") k h in
    along (order_with n) _ (cons k (cons o (sym (append_assoc w (c ∷ []) z))))
    (when-yes _ _ _ _ is (eat-finds _ _ _ _ is (eat-finds _ _ _ _ (here (codes "(") o i refl)
    (bind-finds _ _ _ (keys_find d n (c ∷ z) (Ok (keys, c ∷ z)) (sign_word (codes ")") (codes "desc") c j) (λ m. many-ends comma _ m keys (c ∷ z) (sign_sign (codes ")") (codes ",") c j)))
    (eat-finds _ _ _ _ (here (codes ")") c j refl) (give-finds _ _))))))
