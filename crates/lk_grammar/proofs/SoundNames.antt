-- What the readers of names find, and where they stop.
use Rattle.std.proofs.Common.{ℕ, List, [], ◌∷◌, ◌++◌, refl, ◌∙◌}
use Rattle.std.specs.Prelude.{codes}
use Rattle.lk_ast.specs.declared.expression.SortKey.{SortKey}
use Rattle.lk_ast.specs.declared.place.Loc.TheVariants as loc
use Rattle.lk_ast.specs.declared.place.Word.{Word}
use Rattle.lk_ast.specs.declared.token.Token.{Token}
use Rattle.lk_read.specs.Exact.{Language}
use Rattle.lk_read.specs.Kinds.{IsName, word_of}
use Rattle.lk_read.proofs.KindLaws.{a_sign, a_word, a_name}
use Rattle.lk_read.proofs.Laws.{Reads, Grows, weaken, bind-reads, when-reads, give-reads, many-reads, eat-reads, made-reads}
use Rattle.lk_read.proofs.Moves.{moved, cons, after, Close, closed}
use Rattle.lk_rows.specs.Reading.{comma}
use Rattle.lk_grammar.specs.Expressions.{IsNames, IsParams, IsPlace, IsKey, IsKeys, IsOrder}
use Rattle.lk_grammar.specs.Reading.{names_turn, params_with, read_place, read_key, keys_turn, keys_with, order_with}

pub names_turn-reads : (xs : List Word) → Reads (names_turn xs) (Grows IsNames xs)
unfolding names_turn
names_turn-reads xs = weaken _ (Grows IsNames xs) (eat-reads _ _ (a_sign (codes ",")) (λ s. eat-reads _ _ a_name (λ x. give-reads (xs ++ word_of x ∷ []))))
    (λ w x h u q. let i = h.after in moved IsNames (after u (h.is ∙ cons h.t (i.is ∙ cons i.t i.after.0))) i.after.1 (IsNames.next h.t i.t q h.test i.test))

pub params-reads : (n : ℕ) → Reads (params_with n) IsParams
unfolding params_with
params-reads n = when-reads _ _ _ IsParams
    (weaken _ IsParams (give-reads []) (λ w x h. moved IsParams h.0 h.1 IsParams.none))
    (weaken _ IsParams (eat-reads _ (λ x. Grows IsNames (word_of x ∷ [])) a_name (λ x. many-reads comma names_turn IsNames names_turn-reads n (word_of x ∷ [])))
    (λ w x h. IsParams.some (moved IsNames h.is refl (h.after (h.t ∷ []) (IsNames.first h.t h.test)))))

pub place-reads : Reads read_place IsPlace
unfolding read_place
place-reads = when-reads _ _ _ IsPlace
    (weaken _ IsPlace (eat-reads _ _ (a_word (codes "client")) (λ t. give-reads loc.Client)) (λ w x h. moved IsPlace (h.is ∙ cons h.t h.after.0) h.after.1 (IsPlace.client h.t h.test)))
    (when-reads _ _ _ IsPlace
    (weaken _ IsPlace (eat-reads _ _ (a_word (codes "server")) (λ t. give-reads loc.Server)) (λ w x h. moved IsPlace (h.is ∙ cons h.t h.after.0) h.after.1 (IsPlace.server h.t h.test)))
    (weaken _ IsPlace (give-reads loc.Any) (λ w x h. moved IsPlace h.0 h.1 IsPlace.any)))

abbrev Behind_label : Token → Language SortKey
Behind_label l w x = IsName l → IsKey (l ∷ w) x

pub key-reads : Reads read_key IsKey
unfolding read_key
key-reads = weaken _ IsKey (eat-reads _ Behind_label a_name (λ l. when-reads _ _ _ (Behind_label l)
    (weaken _ (Behind_label l) (eat-reads _ _ (a_word (codes "desc")) (λ d. give-reads _)) (λ w x h n. moved IsKey (cons l (h.is ∙ cons h.t h.after.0)) h.after.1 (IsKey.falling l h.t n h.test)))
    (weaken _ (Behind_label l) (give-reads _) (λ w x h n. moved IsKey (cons l h.0) h.1 (IsKey.rising l n)))))
    (λ w x h. moved IsKey h.is refl (h.after h.test))

pub keys_turn-reads : (keys : List SortKey) → Reads (keys_turn keys) (Grows IsKeys keys)
unfolding keys_turn
keys_turn-reads keys = weaken _ (Grows IsKeys keys) (eat-reads _ _ (a_sign (codes ",")) (λ s. made-reads read_key (λ (key : SortKey). keys ++ key ∷ []) IsKey key-reads))
    (λ w x h u q. moved IsKeys (after u h.is) h.after.is (IsKeys.next h.t q h.test h.after.of))

pub keys-reads : (n : ℕ) → Reads (keys_with n) IsKeys
unfolding keys_with
keys-reads n = weaken _ IsKeys (bind-reads _ _ IsKey (λ key. Grows IsKeys (key ∷ [])) key-reads (λ key. many-reads comma keys_turn IsKeys keys_turn-reads n (key ∷ [])))
    (λ w x h. moved IsKeys h.is refl (h.snd h.u (IsKeys.first h.fst)))

pub order-reads : (n : ℕ) → Reads (order_with n) IsOrder
unfolding order_with
order-reads n = when-reads _ _ _ IsOrder
    (weaken _ IsOrder (eat-reads _ _ (a_word (codes "orderby")) (λ k. eat-reads _ _ (a_sign (codes "(")) (λ o. bind-reads _ _ IsKeys (λ keys. Close (codes ")") (λ c. keys)) (keys-reads n) (λ keys. eat-reads _ _ (a_sign (codes ")")) (λ c. give-reads keys)))))
    (λ w x h. let i = h.after in let j = i.after in moved IsOrder (h.is ∙ cons h.t (i.is ∙ cons i.t (closed j))) j.snd.after.1 (IsOrder.some h.t i.t j.snd.t h.test i.test j.fst j.snd.test)))
    (weaken _ IsOrder (give-reads []) (λ w x h. moved IsOrder h.0 h.1 IsOrder.none))
