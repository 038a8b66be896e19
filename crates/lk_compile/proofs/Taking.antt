-- What labels take of what is translated, and the tables that they change.
use Rattle.std.proofs.Common.{◌≡◌, ◌==◌, ◌⊎◌, inl, inr, refl, sym, ap, subst, ◌∙◌, ℕ, zero, suc, ◌+◌, ◌<◌, ◌≤◌, Bool, true, List, [], ◌∷◌, ◌++◌, append_assoc, length, reverse, slice_get, Option, Some, find, bytes_eq, arith}
use Rattle.std.proofs.lemmas.Bool.{cases_lt, eqb-true}
use Rattle.std.proofs.lemmas.List.{length-append, reverse-append}
use Rattle.std.proofs.lemmas.Option.{slice_get_within}
use Rattle.std.proofs.lemmas.Slice.Eq.{bytes_eq-Decides}
use Rattle.std.specs.Option.{option_flatten}
use Rattle.lk_ast.specs.declared.table.TableDef.{TableDef}
use Rattle.lk_code.specs.declared.infos.FunInfo.{FunInfo}
use Rattle.lk_code.specs.declared.tables.BlockCode.{BlockCode}
use Rattle.lk_compile.specs.Blocks.{AreLeft, AreRun, AreRunSoFar, Changes, HasCode, OfAll, Runs, Takes}
use Rattle.lk_ir.specs.declared.nodes.Touched.{Touched}
use Rattle.lk_translate.specs.declared.translated.Code.{Code}
use Rattle.lk_translate.specs.declared.translated.Translated.{Translated}
use Rattle.lk_types.proofs.Members.{found_in, one_in_back, one_in_front, one_of_both}
use Rattle.lk_types.proofs.Parts.{same_some}
use Rattle.lk_types.specs.Each.{OneOf}

module _ {A : Type 0} (P : A → Type 0) where
  one_reversed : (xs : List A) → OneOf P (reverse xs) → OneOf P xs
  one_reversed [] one = one
  one_reversed (x ∷ xs) one = by_side (one_of_both P (reverse xs) (x ∷ []) (subst (OneOf P) (reverse-append (x ∷ []) xs) one)) (one_reversed xs)
    where
      by_side : OneOf P (reverse xs) ⊎ OneOf P (x ∷ []) → (OneOf P (reverse xs) → OneOf P xs) → OneOf P (x ∷ xs)
      by_side (inl later) further = inr (further later)
      by_side (inr (inl here)) further = inl here
      by_side (inr (inr nothing)) further = absurd nothing

-- the last one that is left has this label and this code
pub has_taken : (old new : List Translated) (one : Translated) (label : ℕ) (code : Code) → old ≡ new ++ one ∷ [] → one.label ≡ label → one.code ≡ code → OfAll old (λ all. HasCode all label code)
has_taken old new one label code is label_is code_is all (gone, left) =
    one_reversed (λ (it : Translated). (it.label ≡ label) × (it.code ≡ code)) all
    (subst (OneOf (λ (it : Translated). (it.label ≡ label) × (it.code ≡ code))) (sym left)
    (one_in_front (λ (it : Translated). (it.label ≡ label) × (it.code ≡ code)) old gone
    (subst (OneOf (λ (it : Translated). (it.label ≡ label) × (it.code ≡ code))) (sym is)
    (one_in_back (λ (it : Translated). (it.label ≡ label) × (it.code ≡ code)) new (one ∷ []) (inl (label_is, code_is))))))

pub one_taken : (old new : List Translated) (one : Translated) → old ≡ new ++ one ∷ [] → Takes old new
one_taken old new one is = (one ∷ [], is)

-- the first one with this label is of it, and the first table of its name is that which it changes
pub changes_found : (touched : List Touched) (defs : List TableDef) (label : ℕ) (one : Touched) (def : TableDef) → find (λ (it : Touched). it.label == label) touched ≡ Some one → find (λ (it : TableDef). bytes_eq it.name one.table) defs ≡ Some def → Changes touched defs label def
changes_found touched defs label one def is named =
    let first = found_in (λ (it : Touched). it.label == label) touched one is in
    let found = found_in (λ (it : TableDef). bytes_eq it.name one.table) defs def named in
    let own : one.label ≡ label = eqb-true one.label label first.1 in
    let name : def.name ≡ one.table = (bytes_eq-Decides def.name one.table).0 found.1 in
    (subst (λ (t : Touched). OneOf (λ (it : Touched). it ≡ t) touched) (λ i. record { label = own i; table = sym name i }) first.0, found.0)

-- ---- labels one by one

get_before : {A : Type 0} (xs ys : List A) (n : ℕ) → n < length xs → slice_get (xs ++ ys) n ≡ slice_get xs n
get_before [] ys n below = absurd (omega arith)
get_before (x ∷ xs) ys zero below = refl
get_before (x ∷ xs) ys (suc n) below = get_before xs ys n (let e : suc n < suc (length xs) = below in omega arith)

get_last : {A : Type 0} (xs : List A) (x : A) → slice_get (xs ++ x ∷ []) (length xs) ≡ Some x
get_last [] x = refl
get_last (y ∷ xs) x = get_last xs x

module _ (touched : List Touched) (defs : List TableDef) (queries : List Translated) (funs : List FunInfo) where
  pub one_more_run : (n : ℕ) (blocks grown : List (Option BlockCode)) (left less : List Translated) (i : FunInfo) (found : Option BlockCode) → AreRunSoFar touched defs queries funs n blocks left → slice_get funs n ≡ Some i
      → OfAll left (λ all. Runs touched defs all n i.kind found) → Takes left less → grown ≡ blocks ++ found ∷ [] → AreRunSoFar touched defs queries funs (n + 1) grown less
  one_more_run n blocks grown left less i found so_far at runs (taken, took) is =
      let (gone, rest) = so_far.rest in
      record {
        counted = ap length is ∙ (let e : length (blocks ++ found ∷ []) ≡ n + 1 = omega (arith, length-append blocks (found ∷ []), so_far.counted) in e);
        each = λ label j below there. by_label label j there (cases_lt label n) (let e : label < n + 1 = below in e);
        rest = (taken ++ gone, rest ∙ ap (λ (l : List Translated). l ++ gone) took ∙ append_assoc less taken gone);
      }
    where
      by_label : (label : ℕ) (j : FunInfo) → slice_get funs label ≡ Some j → (label < n) ⊎ (n ≤ label) → label < n + 1 → Runs touched defs queries label j.kind (option_flatten (slice_get grown label))
      by_label label j there (inl before) below =
          let same : slice_get grown label ≡ slice_get blocks label = ap (λ bs. slice_get bs label) is ∙ get_before blocks (found ∷ []) label (omega (arith, so_far.counted, before)) in
          subst (λ o. Runs touched defs queries label j.kind (option_flatten o)) (sym same) (so_far.each label j before there)
      by_label label j there (inr behind) below =
          let last : label ≡ n = omega (arith, behind, below) in
          let here : slice_get grown label ≡ Some found = ap (λ bs. slice_get bs label) is ∙ ap (slice_get (blocks ++ found ∷ [])) (last ∙ sym so_far.counted) ∙ get_last blocks found in
          let same : i ≡ j = same_some (sym at ∙ ap (slice_get funs) (sym last) ∙ there) in
          subst (λ o. Runs touched defs queries label j.kind (option_flatten o)) (sym here) (subst (λ (k : FunInfo). Runs touched defs queries label k.kind found) same (subst (λ m. Runs touched defs queries m i.kind found) (sym last) (runs queries so_far.rest)))

  pub all_run : (n : ℕ) (blocks : List (Option BlockCode)) (left : List Translated) → AreRunSoFar touched defs queries funs n blocks left → n ≡ length funs → AreRun touched defs queries funs blocks
  all_run n blocks left so_far whole = record { counted = so_far.counted ∙ whole; each = λ label i there. so_far.each label i (let below : label < length funs = slice_get_within funs label i there in omega (arith, below, whole)) there }
