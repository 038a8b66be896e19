-- What a part of a text says of the places that begin in it: which functions' names, where the lambdas are that a walk through
-- its tree gathers, where its uses of functions are, and where it acts on tables.
use Rattle.std.proofs.Common.{◌≡◌, ℕ, List, [], ◌∷◌, ◌++◌, map, sym, ap, subst, ◌∙◌, append_assoc}
use Rattle.std.proofs.lemmas.List.{append-nil, map-append}
use Rattle.lk_ast.specs.declared.token.Token.{Token}
use Rattle.lk_ground.specs.Sites.{PlacedUse}
use Rattle.lk_index.specs.Places.{Lambdas, PlacedLambda}
use Rattle.lk_types.specs.Rows.{Label}
use Rattle.lk_places.proofs.Splits.{Split, split_append, split_nothing, split_behind}
use Rattle.lk_places.proofs.Walks.{Walk, Same, nothing, both, with_lambda, with_use, with_block}

-- where lambdas begin
abbrev pub sites_of : Lambdas → List ℕ
sites_of found = map (λ (placed : PlacedLambda). placed.site) found

-- where uses of functions begin
abbrev pub uses_at : List PlacedUse → List ℕ
uses_at uses = map (λ (u : PlacedUse). u.site) uses

-- What is found in these tokens, which have the names of functions at these places.
pub record Finds (walk : Walk) (names : List ℕ) (w : List Token) : Type 0 where
  pub sites : List ℕ
  pub more : (found : Lambdas) → sites_of (walk.lambdas found) ≡ sites_of found ++ sites
  pub split : Split names sites w
  -- the uses, where no other place counts
  pub used : Split (uses_at walk.uses) [] w
  -- and so what acts on tables
  pub listed : Split walk.blocks [] w
  -- and that together with the lambdas
  pub marked : Split walk.blocks sites w

-- ---- tokens in which nothing begins

pub finds_none : (w : List Token) → Finds nothing [] w
finds_none w = record { sites = []; more = λ found. sym (append-nil (sites_of found)); split = split_nothing w; used = split_nothing w; listed = split_nothing w; marked = split_nothing w }

pub finds_skip : (t : Token) {walk : Walk} {names : List ℕ} {w : List Token} → Finds walk names w → Finds walk names (t ∷ w)
finds_skip t d = record { sites = d.sites; more = d.more; split = Split.skip t d.split; used = Split.skip t d.used; listed = Split.skip t d.listed; marked = Split.skip t d.marked }

pub finds_before : (u : List Token) {walk : Walk} {names : List ℕ} {w : List Token} → Finds walk names w → Finds walk names (u ++ w)
finds_before u d = record { sites = d.sites; more = d.more; split = split_append (split_nothing u) d.split; used = split_append (split_nothing u) d.used; listed = split_append (split_nothing u) d.listed; marked = split_append (split_nothing u) d.marked }

pub finds_behind : (v : List Token) {walk : Walk} {names : List ℕ} {w : List Token} → Finds walk names w → Finds walk names (w ++ v)
finds_behind v d = record { sites = d.sites; more = d.more; split = split_behind v d.split; used = split_behind v d.used; listed = split_behind v d.listed; marked = split_behind v d.marked }

-- ---- two parts, one behind the other

pub finds_both : {f g : Walk} {names others : List ℕ} {u v : List Token} → Finds f names u → Finds g others v → Finds (both f g) (names ++ others) (u ++ v)
finds_both {f} {g} {u = u} {v = v} d e = record {
  sites = d.sites ++ e.sites;
  more = λ found. e.more (f.lambdas found) ∙ ap (λ z. z ++ e.sites) (d.more found) ∙ append_assoc (sites_of found) d.sites e.sites;
  split = split_append d.split e.split;
  used = subst (λ z. Split z [] (u ++ v)) (sym (map-append (λ (one : PlacedUse). one.site) f.uses g.uses)) (split_append d.used e.used);
  listed = split_append d.listed e.listed;
  marked = split_append d.marked e.marked;
}

-- ---- what begins with a token

pub finds_name : (t : Token) (n : ℕ) {walk : Walk} {names : List ℕ} {w : List Token} → n ≡ t.span.start → Finds walk names w → Finds walk (n ∷ names) (t ∷ w)
finds_name t n is d = record { sites = d.sites; more = d.more; split = Split.name t is d.split; used = Split.skip t d.used; listed = Split.skip t d.listed; marked = Split.skip t d.marked }

-- a lambda, and then what is found in its body
pub finds_lambda : (t : Token) (placed : PlacedLambda) {walk : Walk} {names : List ℕ} {w : List Token}
    → placed.site ≡ t.span.start → Finds walk names w → Finds (with_lambda placed walk) names (t ∷ w)
finds_lambda t placed {walk} is d = record {
  sites = placed.site ∷ d.sites;
  more = λ found. d.more (found ++ placed ∷ []) ∙ ap (λ z. z ++ d.sites) (map-append (λ (one : PlacedLambda). one.site) found _) ∙ append_assoc (sites_of found) (placed.site ∷ []) d.sites;
  split = Split.lambda t is d.split;
  used = Split.skip t d.used;
  listed = Split.skip t d.listed;
  marked = Split.lambda t is d.marked;
}

-- a use of a function, and then what is found behind it
pub finds_use : (t : Token) (g : Label) (site : ℕ) {walk : Walk} {names : List ℕ} {w : List Token}
    → site ≡ t.span.start → Finds walk names w → Finds (with_use g site walk) names (t ∷ w)
finds_use t g site is d = record { sites = d.sites; more = d.more; split = Split.skip t d.split; used = Split.name t is d.used; listed = Split.skip t d.listed; marked = Split.skip t d.marked }

-- what acts on tables, and then what is found in it
pub finds_block : (t : Token) (site : ℕ) {walk : Walk} {names : List ℕ} {w : List Token} → site ≡ t.span.start → Finds walk names w → Finds (with_block site walk) names (t ∷ w)
finds_block t site is d = record { sites = d.sites; more = d.more; split = Split.skip t d.split; used = Split.skip t d.used; listed = Split.name t is d.listed; marked = Split.name t is d.marked }

-- ---- the same, said of another walk and of other names

pub finds_so : {f g : Walk} {names : List ℕ} {w : List Token} → Same g f → Finds f names w → Finds g names w
finds_so {w = w} same d = record { sites = d.sites; more = λ found. ap sites_of (same.gathers found) ∙ d.more found; split = d.split; used = subst (λ uses. Split (uses_at uses) [] w) (sym same.used) d.used; listed = subst (λ blocks. Split blocks [] w) (sym same.listed) d.listed; marked = subst (λ blocks. Split blocks d.sites w) (sym same.listed) d.marked }

pub finds_named : {walk : Walk} {names others : List ℕ} {w : List Token} → names ≡ others → Finds walk names w → Finds walk others w
finds_named {walk} {w = w} same d = subst (λ z. Finds walk z w) same d
