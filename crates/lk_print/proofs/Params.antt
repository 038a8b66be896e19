-- What is printed of parameters, marks and keys.
use Rattle.std.proofs.Common.{◌≡◌, Bool, true, false, List, [], ◌∷◌, ◌++◌, map, refl, sym, ap, subst, ◌∙◌}
use Rattle.std.specs.Prelude.{codes}
use Rattle.lk_ast.specs.declared.expression.SortKey.{SortKey}
use Rattle.lk_ast.specs.declared.place.Loc.{Loc}
use Rattle.lk_ast.specs.declared.place.Loc.TheVariants as loc
use Rattle.lk_ast.specs.declared.place.Word.{Word as Named}
use Rattle.lk_ast.specs.declared.token.Token.{Token}
use Rattle.lk_ast.specs.declared.token.TokenKind.TheVariants.{Word, Sign}
use Rattle.lk_read.specs.Kinds.{IsName, word_of}
use Rattle.lk_grammar.specs.Expressions.{IsNames, IsParams, IsPlace, IsKey, IsKeys, IsOrder}
use Rattle.lk_print.specs.Bare.{bare_word, bare_key}
use Rattle.lk_print.specs.Printed.{separated, name_kind, names, place, key, order}
use Rattle.lk_print.proofs.Goods.{Good, constant, good_round, good_separated}
use Rattle.lk_print.proofs.Lists.{Each, ReadsOne, commas}
use Rattle.lk_print.proofs.Primaries.{IsNamed, named_token, bare_name}
use Rattle.lk_print.proofs.Spelled.{Spelt, token, spelt_none, spelt_cons, spelt_append, spelt_so}
use Rattle.lk_scope.specs.Names.{Names, bind, bind_all}

-- ---- parameters

abbrev IsOneName : List Token → Named → Type 0
IsOneName w x = (t : Token) × (w ≡ t ∷ []) × IsName t × (word_of t ≡ x)

first_name : (w : List Token) (x : Named) → IsOneName w x → IsNames w (x ∷ [])
first_name w x (t, is, name, word) = subst (λ z. IsNames z (x ∷ [])) (sym is) (subst (λ y. IsNames (t ∷ []) (y ∷ [])) word (IsNames.first t name))

next_name : (u w : List Token) (s : Token) (xs : List Named) (x : Named) → IsNames u xs → s.kind ≡ Sign (codes ",") → IsOneName w x → IsNames (u ++ s ∷ w) (xs ++ x ∷ [])
next_name u w s xs x d sign (t, is, name, word) = subst (λ z. IsNames (u ++ s ∷ z) (xs ++ x ∷ [])) (sym is) (subst (λ y. IsNames (u ++ s ∷ t ∷ []) (xs ++ y ∷ [])) word (IsNames.next s t d sign name))

abbrev pub WrittenName : Named → Type 0
WrittenName x = IsNamed x.text

one_name : (x : Named) → WrittenName x → Spelt (name_kind x ∷ []) (ReadsOne IsOneName bare_word (bare_word x))
one_name x h = spelt_cons (λ at. spelt_none (record { x = word_of (token at (name_kind x)); is = (token at (name_kind x), refl, named_token at x.text h, refl); same = bare_name at x }))

each_name : (xs : List Named) → Each WrittenName xs → Each (λ x. Spelt (name_kind x ∷ []) (ReadsOne IsOneName bare_word (bare_word x))) xs
each_name [] Each.none = Each.none
each_name (x ∷ xs) (Each.also h hs) = Each.also (one_name x h) (each_name xs hs)

some_params : (ys : List Named) (w : List Token) → ReadsOne IsNames (map bare_word) ys w → ReadsOne IsParams (map bare_word) ys w
some_params ys w r = record { x = r.x; is = IsParams.some r.is; same = r.same }

pub params_written : (xs : List Named) → Each WrittenName xs → Spelt (names xs) (ReadsOne IsParams (map bare_word) (map bare_word xs))
params_written [] each = spelt_none (record { x = []; is = IsParams.none; same = refl })
params_written (x ∷ xs) each = spelt_so (commas IsOneName IsNames first_name next_name bare_word bare_word (λ x. name_kind x ∷ []) x xs (each_name (x ∷ xs) each)) (some_params (map bare_word (x ∷ xs)))

each_name_good : (xs : List Named) → Each WrittenName xs → Each Good (map (λ x. name_kind x ∷ []) xs)
each_name_good [] Each.none = Each.none
each_name_good (x ∷ xs) (Each.also h hs) = Each.also (Each.also h.good Each.none) (each_name_good xs hs)

pub params_good : (xs : List Named) → Each WrittenName xs → Good (names xs)
params_good xs each = good_separated _ (each_name_good xs each)

bound_bare : (xs : List Named) (scope : Names) → bind_all (map bare_word xs) scope ≡ bind_all xs scope
bound_bare [] scope = refl
bound_bare (x ∷ xs) scope = bound_bare xs (bind x scope)

-- names that differ only in their places hide the same
pub bound_same : (xs ys : List Named) (scope : Names) → map bare_word xs ≡ map bare_word ys → bind_all xs scope ≡ bind_all ys scope
bound_same xs ys scope same = sym (bound_bare xs scope) ∙ ap (λ z. bind_all z scope) same ∙ bound_bare ys scope

-- ---- marks

pub place_written : (p : Loc) → Spelt (place p) (λ w. IsPlace w p)
place_written loc.Any = spelt_none IsPlace.any
place_written loc.Client = spelt_cons (λ at. spelt_none (IsPlace.client (token at (Word (codes "client"))) refl))
place_written loc.Server = spelt_cons (λ at. spelt_none (IsPlace.server (token at (Word (codes "server"))) refl))

pub place_good : (p : Loc) → Good (place p)
place_good loc.Any = Each.none
place_good loc.Client = constant refl Each.none
place_good loc.Server = constant refl Each.none

-- ---- keys

abbrev pub WrittenKey : SortKey → Type 0
WrittenKey k = IsNamed k.label.text

key_in : (l : Named) (desc : Bool) → IsNamed l.text → Spelt (key (record { label = l; desc = desc })) (ReadsOne IsKey bare_key (bare_key (record { label = l; desc = desc })))
key_in l false h = spelt_cons (λ at. spelt_none (record { x = record { label = word_of (token at (name_kind l)); desc = false }; is = IsKey.rising (token at (name_kind l)) (named_token at l.text h); same = (λ i. record { label = bare_name at l i; desc = false }) }))
key_in l true h = spelt_cons (λ at. spelt_cons (λ d. spelt_none (record { x = record { label = word_of (token at (name_kind l)); desc = true }; is = IsKey.falling (token at (name_kind l)) (token d (Word (codes "desc"))) (named_token at l.text h) refl; same = (λ i. record { label = bare_name at l i; desc = true }) })))

each_key : (ks : List SortKey) → Each WrittenKey ks → Each (λ k. Spelt (key k) (ReadsOne IsKey bare_key (bare_key k))) ks
each_key [] Each.none = Each.none
each_key (k ∷ ks) (Each.also h hs) = Each.also (key_in k.label k.desc h) (each_key ks hs)

pub order_written : (ks : List SortKey) → Each WrittenKey ks → Spelt (order ks) (ReadsOne IsOrder (map bare_key) (map bare_key ks))
order_written [] each = spelt_none (record { x = []; is = IsOrder.none; same = refl })
order_written (k ∷ ks) each = spelt_cons (λ w. spelt_cons (λ o. spelt_append (separated (map key (k ∷ ks)))
    (commas IsKey IsKeys (λ w x d. IsKeys.first d) (λ u w s xs x d is e. IsKeys.next s d is e) bare_key bare_key key k ks (each_key (k ∷ ks) each))
    (λ u m. spelt_cons (λ c. spelt_none (record { x = m.x; is = IsOrder.some (token w (Word (codes "orderby"))) (token o (Sign (codes "("))) (token c (Sign (codes ")"))) refl refl m.is refl; same = m.same })))))

key_good : (l : Named) (desc : Bool) → IsNamed l.text → Good (key (record { label = l; desc = desc }))
key_good l false h = Each.also h.good Each.none
key_good l true h = Each.also h.good (constant refl Each.none)

each_key_good : (ks : List SortKey) → Each WrittenKey ks → Each Good (map key ks)
each_key_good [] Each.none = Each.none
each_key_good (k ∷ ks) (Each.also h hs) = Each.also (key_good k.label k.desc h) (each_key_good ks hs)

pub order_good : (ks : List SortKey) → Each WrittenKey ks → Good (order ks)
order_good [] each = Each.none
order_good (k ∷ ks) each = constant refl (good_round _ (good_separated _ (each_key_good (k ∷ ks) each)))
