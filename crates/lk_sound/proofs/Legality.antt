-- A legal history from the same bags of rows is legal; histories one behind the other.
use Rattle.std.proofs.Common.{◌≡◌, ℕ, ◌+◌, ◌≤◌, Bool, true, false, cond, not, List, [], ◌∷◌, ◌++◌, Option, Some, None, map, filter, length, refl, sym, ◌∙◌, ap, subst, append_assoc, append-nil, IsPermutation}
use Rattle.std.specs.Prelude.{bytes_eq}
use Rattle.std.proofs.lemmas.List.Sorted.{IsPermutation-refl, IsPermutation-trans, IsPermutation-map, IsPermutation-append_left, length_permutation}
use Rattle.std.proofs.lemmas.Slice.Eq.{bytes_eq-Decides}
use Rattle.lk_ast.specs.Limits.{most_rows}
use Rattle.lk_ast.specs.Tables.{Tables}
use Rattle.lk_ast.specs.declared.declaration.Program.{Program}
use Rattle.lk_ast.specs.declared.event.Event.{Event}
use Rattle.lk_ast.specs.declared.event.Event.TheVariants as event
use Rattle.lk_ast.specs.declared.expression.ChangeExpr.{ChangeExpr, out-ChangeExpr}
use Rattle.lk_ast.specs.declared.table.Row.{Row}
use Rattle.lk_bag.specs.Change.{with_rows, updated, is_met, after_insert, after_update, after_delete}
use Rattle.lk_bag.specs.Legal.{AreSame, IsAnswer, IsLegal, done, print, enter, leave, read, insert, update, delete, names_in}
use Rattle.lk_types.specs.Each.{Each}
use Rattle.lk_sound.proofs.Shuffles.{IsPermutation-filter}
use Rattle.lk_sound.specs.Histories.{Follows, GoesQuietly, HasFollowed, HasHistory, HasPast, IsQuiet, Precedes}

-- ---- the same bags

pub same_itself : (x : Tables) → AreSame x x
same_itself x name = IsPermutation-refl (x name)

pub same_through : (x y z : Tables) → AreSame x y → AreSame y z → AreSame x z
same_through x y z a b name = IsPermutation-trans (x name) (y name) (z name) (a name) (b name)

same_with_rows : (name : List ℕ) (rows others : List Row) (x y : Tables) → IsPermutation rows others → AreSame x y → AreSame (with_rows name rows x) (with_rows name others y)
same_with_rows name rows others x y p same other = go (bytes_eq name other)
  where
    go : (b : Bool) → IsPermutation (cond b rows (x other)) (cond b others (y other))
    go true = p
    go false = same other

same_insert : (name : List ℕ) (rows : List Row) (x y : Tables) → AreSame x y → AreSame (after_insert name rows x) (after_insert name rows y)
same_insert name rows x y same = same_with_rows name _ _ x y (IsPermutation-append_left rows (x name) (y name) (same name)) same

module _ (p : Program) where
  same_answer : (x y : Tables) (block : _) (args : _) (answer : List Row) → AreSame x y → IsAnswer p y block args answer → IsAnswer p x block args answer
  same_answer x y block args answer same a = (a.0, same_through x y a.0 same a.1, a.2, a.3)

  pub legal_same : (x y : Tables) (events : List Event) (last : Tables) → AreSame x y → IsLegal p y events last → IsLegal p x events last
  legal_same x y _ last same (done more) = done (same_through x y last same more)
  legal_same x y _ last same (print rest) = print (legal_same x y _ last same rest)
  legal_same x y _ last same (enter rest) = enter (legal_same x y _ last same rest)
  legal_same x y _ last same (leave rest) = leave (legal_same x y _ last same rest)
  legal_same x y _ last same (read block found reads captured a rest) = read block found reads captured (same_answer x y block _ _ same a) (legal_same x y _ last same rest)
  legal_same x y _ last same (insert block t expr rows found is are few rest) =
      let same_after = same_insert t.text rows x y same in
      insert block t expr rows found is are (subst (λ n. n ≤ most_rows) (length_permutation _ _ (same_after t.text)) few) (legal_same (after_insert t.text rows x) (after_insert t.text rows y) _ last same_after rest)
  legal_same x y _ last same (update {e = e} block change found is captured rest) =
      let name = (out-ChangeExpr change).table.text in
      update block change found is captured (legal_same (after_update p (names_in block e.args) change x) (after_update p (names_in block e.args) change y) _ last (same_with_rows name _ _ x y (IsPermutation-map _ _ _ (same name)) same) rest)
  legal_same x y _ last same (delete {e = e} block change found is captured rest) =
      let name = (out-ChangeExpr change).table.text in
      delete block change found is captured (legal_same (after_delete p (names_in block e.args) change x) (after_delete p (names_in block e.args) change y) _ last (same_with_rows name _ _ x y (IsPermutation-filter _ _ _ (same name)) same) rest)

  -- ---- histories

  pub no_past : (told : Option Tables) → HasPast p told told []
  no_past None = tt
  no_past (Some tables) = record { on = λ more last legal. legal }

  precedes_quietly : (x : Tables) (more : List Event) → Each IsQuiet more → Precedes p x more x
  precedes_quietly x [] calm = record { on = λ more last legal. legal }
  precedes_quietly x (event.Print bytes ∷ more) calm = let rest = precedes_quietly x more calm.1 in record { on = λ behind last legal. print (rest.on behind last legal) }
  precedes_quietly x (event.Enter ∷ more) calm = let rest = precedes_quietly x more calm.1 in record { on = λ behind last legal. enter (rest.on behind last legal) }
  precedes_quietly x (event.Leave ∷ more) calm = let rest = precedes_quietly x more calm.1 in record { on = λ behind last legal. leave (rest.on behind last legal) }
  precedes_quietly x (event.Read e ∷ more) calm = absurd calm.0
  precedes_quietly x (event.Write e ∷ more) calm = absurd calm.0

  precedes_both : (x y z : Tables) (front back : List Event) → Precedes p x front y → Precedes p y back z → Precedes p x (front ++ back) z
  precedes_both x y z front back a b = record { on = λ more last legal. subst (λ es. IsLegal p x es last) (sym (append_assoc front back more)) (a.on (back ++ more) last (b.on more last legal)) }

  -- one behind the other
  pub past_both : (old mid new : Option Tables) (front back : List Event) → HasPast p old mid front → HasPast p mid new back → HasPast p old new (front ++ back)
  past_both None mid new front back a b = tt
  past_both (Some x) None new front back a b = absurd a
  past_both (Some x) (Some y) None front back a b = absurd b
  past_both (Some x) (Some y) (Some z) front back a b = precedes_both x y z front back a b

  quiet_past : (told : Option Tables) (more : List Event) → Each IsQuiet more → HasPast p told told more
  quiet_past None more calm = tt
  quiet_past (Some x) more calm = precedes_quietly x more calm

  one_past : (old new : Option Tables) (e : Event) → HasFollowed p old new e → HasPast p old new (e ∷ [])
  one_past None new e a = tt
  one_past (Some x) None e a = absurd a
  one_past (Some x) (Some y) e a = record { on = λ more last legal. a.on more last legal }

  -- behind it, nothing of tables
  pub past_quietly : (old now : Option Tables) (before after : List Event) → HasPast p old now before → GoesQuietly before after → HasPast p old now after
  past_quietly old now before after a q = subst (HasPast p old now) (sym q.log) (past_both old now now before q.more a (quiet_past now q.more q.quiet))

  -- behind it, one more event
  pub past_followed : (old mid new : Option Tables) (before : List Event) (e : Event) → HasPast p old mid before → HasFollowed p mid new e → HasPast p old new (before ++ e ∷ [])
  past_followed old mid new before e a b = past_both old mid new before (e ∷ []) a (one_past mid new e b)

  -- nothing comes behind it
  pub past_history : (old new : Option Tables) (events : List Event) → HasPast p old new events → HasHistory p old new events
  past_history None new events a = tt
  past_history (Some x) None events a = absurd a
  past_history (Some x) (Some y) events a = subst (λ es. IsLegal p x es y) (append-nil events) (a.on [] y (done (same_itself y)))
