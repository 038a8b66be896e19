-- What a run saw of the files and of the store that the words ask for.
use Rattle.std.specs.Prelude.{◌≡◌, ◌≤◌, ℕ, List, Option, Some, IfSome, IsSomeAnd, bytes_eq, find, option_map}
use Rattle.std.specs.FinMap.{get}
use Rattle.lk_ast.specs.Tables.{Tables}
use Rattle.lk_outside.specs.Files.{Contents}

-- what they contain where that is told, the name of the last failed read, and the count of faults before and after
pub record FilesSeen : Type 0 where
  pub contents : Option Contents
  pub failed : List ℕ
  pub before : ℕ
  pub after : ℕ

abbrev pub seen : {F : Type 0} → (F → Option Contents) → (F → List ℕ) → (F → ℕ) → F → F → FilesSeen
seen contents failed faults old new = record { contents = contents old; failed = failed new; before = faults old; after = faults new }

-- where it is told what files contain, this is the text of the file of that name
abbrev pub HasText : FilesSeen → List ℕ → List ℕ → Type 0
HasText files name text = IfSome files.contents (λ contents. get contents name ≡ Some text)

-- of a store: its tables where they are told, how many transactions were committed, and its count of faults
pub record StoreSeen : Type 0 where
  pub tables : Option Tables
  pub commits : ℕ
  pub faults : ℕ

-- the first store of the name that is asked for, as it was handed in, and the store that came back
pub record StoresSeen : Type 0 where
  pub given : Option StoreSeen
  pub back : Option StoreSeen

abbrev pub store_seen : {S : Type 0} → (S → Option Tables) → (S → ℕ) → (S → ℕ) → S → StoreSeen
store_seen tables commits faults store = record { tables = tables store; commits = commits store; faults = faults store }

-- the store that was picked, and the one that came back
abbrev pub picked_seen : {S : Type 0} → (S → Option Tables) → (S → ℕ) → (S → ℕ) → Option S → Option S → StoresSeen
picked_seen tables commits faults picked back = record { given = option_map (store_seen tables commits faults) picked; back = option_map (store_seen tables commits faults) back }

abbrev pub stores_seen : {S : Type 0} → (S → List ℕ) → (S → Option Tables) → (S → ℕ) → (S → ℕ) → List S → Option S → List ℕ → StoresSeen
stores_seen name tables commits faults stores back wanted = picked_seen tables commits faults (find (λ store. bytes_eq wanted (name store)) stores) back

-- the store that was asked for was handed in and came back, its count didn't fall, and this holds of it before and after
abbrev pub CameBack : StoresSeen → (StoreSeen → StoreSeen → Type 0) → Type 0
CameBack stores P = IsSomeAnd stores.given (λ before. IsSomeAnd stores.back (λ after. (before.faults ≤ after.faults) × P before after))
