-- The entries of a tables file, one table after the other.
use Rattle.std.proofs.Common.{◌≡◌, List, [], ◌∷◌, ◌++◌, map, fold, refl, sym, ap, ◌∙◌}
use Rattle.std.specs.List.{AllZip}
use Rattle.serde_json.specs.Data.{Data, array, Members, put}
use Rattle.serde_json.specs.View.{items_of}
use Rattle.lk_ast.specs.JsonText.{Entry, members_of}
use Rattle.lk_ast.specs.declared.table.TableRows.{TableRows}
use Rattle.lk_tables.specs.Printing.{IsSortedFrom, IsTableEntry, row_data}

-- the members are those that entries of these tables make
pub record HasEntries (tables : List TableRows) (members : Members) : Type 0 where
  pub entries : List Entry
  pub each : AllZip IsTableEntry tables entries
  pub is : members ≡ members_of entries

zip_more : {A B : Type 0} (R : A → B → Type 0) (xs : List A) (ys : List B) (x : A) (y : B) → AllZip R xs ys → R x y → AllZip R (xs ++ x ∷ []) (ys ++ y ∷ [])
zip_more R [] [] x y h r = (r, tt)
zip_more R [] (z ∷ ys) x y h r = absurd h
zip_more R (z ∷ xs) [] x y h r = absurd h
zip_more R (z ∷ xs) (w ∷ ys) x y h r = (h.0, zip_more R xs ys x y h.1 r)

put_more : (now : Members) (es : List Entry) (e : Entry)
    → fold (λ members entry. put entry.0 entry.1 members) now (es ++ e ∷ []) ≡ put e.0 e.1 (fold (λ members entry. put entry.0 entry.1 members) now es)
put_more now [] e = refl
put_more now (f ∷ es) e = put_more (put f.0 f.1 now) es e

-- one table more
pub one_more : (tables : List TableRows) (now more : Members) (table : TableRows) (sorted : List Data) → HasEntries tables now → IsSortedFrom (map row_data table.rows) sorted
    → more ≡ put table.name (array (items_of sorted)) now → HasEntries (tables ++ table ∷ []) more
one_more tables now more table sorted has from is =
    let entry : Entry = (table.name, array (items_of sorted)) in
    record {
      entries = has.entries ++ entry ∷ [];
      each = zip_more IsTableEntry tables has.entries table entry has.each (sorted, from, refl);
      is = is ∙ ap (put table.name (array (items_of sorted))) has.is ∙ sym (put_more _ has.entries entry);
    }
