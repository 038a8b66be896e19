-- What parts give stands for what their operators come to, with the types that the rules of records and lists say.
use Rattle.std.proofs.Common.{◌≡◌, refl, sym, ap, subst, ◌∙◌, ◌+◌, Bool, true, false, cond, ◌||◌, List, [], ◌∷◌, ◌++◌, map, length, Option, Some, None, is_some, if◌then◌else◌, bytes_eq, arith}
use Rattle.std.proofs.lemmas.List.{append-nil, length-append}
use Rattle.std.proofs.lemmas.Slice.Eq.{bytes_eq-Decides}
use Rattle.std.specs.Cmp.Lexicographic.{nat_list_cmp_total}
use Rattle.std.specs.FinMap as fin
use Rattle.lk_ast.specs.declared.declaration.Program.{Program}
use Rattle.lk_ast.specs.declared.expression.Expr.{Expr}
use Rattle.lk_ast.specs.declared.expression.Node.TheOpen.{Node-F}
use Rattle.lk_ast.specs.declared.expression.PartExpr.{PartExpr}
use Rattle.lk_ast.specs.declared.value.Value.{Value}
use Rattle.lk_bag.specs.Bag.{value_of}
use Rattle.lk_bodies.specs.Shapes.{columns_of, labels}
use Rattle.lk_ground_types.specs.Shapes.{are_flat, base_level, is_base, is_flat_row, is_query_type, row_level, rows_level}
use Rattle.lk_inline.proofs.Extensions.{AreBases, cells_under, extend_stands, part_labels, record_stands}
use Rattle.lk_inline.proofs.Loops.{AllStand, items_stand}
use Rattle.lk_inline.proofs.RecordValues.{base_among, flat_fields}
use Rattle.lk_inline.specs.Stands.{Stands}
use Rattle.lk_operators.specs.Operators.{operated}
use Rattle.lk_operators.specs.declared.outcome.Outcome.TheVariants as outcome
use Rattle.lk_operators.specs.declared.outcome.Outcome.{Outcome}
use Rattle.lk_query.specs.Given.{Given, extended, of_list, of_row}
use Rattle.lk_sound.proofs.FieldRows.{get_among, same_test}
use Rattle.lk_sound.proofs.FieldValues.{AreLabelled, labelled_fit}
use Rattle.lk_sound.proofs.Records.{extend_sound, record_sound}
use Rattle.lk_sound.proofs.Results.{IsResult}
use Rattle.lk_sound.proofs.TableRows.{bytes_itself}
use Rattle.lk_sound.specs.Instances.{Instances}
use Rattle.lk_sound.specs.Values.{FitEach, Fits}
use Rattle.lk_sql.specs.Meaning.{no_cells}
use Rattle.lk_types.proofs.Parts.{same_some, mapped}
use Rattle.lk_types.specs.Each.{Each}
use Rattle.lk_types.specs.Rows.{Label, Row, fields_of, has_label, no_effects, no_fields, with_field}
use Rattle.lk_types.specs.declared.ground.Ground.TheOpen.{Ground-F}
use Rattle.lk_types.specs.declared.ground.Ground.TheVariants as known
use Rattle.lk_types.specs.declared.ground.Ground.{Ground}
use Rattle.lk_types.specs.declared.ground.GroundField.{GroundField}
use Rattle.lk_typing.specs.Names.{Named, types_of}
use Rattle.lk_typing.specs.Types as types
use Rattle.lk_typing.specs.Types.{record_of, with_fields}
use Rattle.lk_typing.specs.Typing.{label_of}

-- ---- things that are given stand for values at types one by one

abbrev pub StandEach : List Ground → List Value → List Given → Type 0
StandEach [] [] [] = Unit {0}
StandEach (t ∷ ts) (v ∷ vs) (g ∷ gs) = Stands t v g × StandEach ts vs gs
StandEach ts vs gs = ⊥

none_more : (vs : List Value) (w : Value) (gs : List Given) → StandEach [] (vs ++ w ∷ []) gs → ⊥
none_more [] w gs stand = stand
none_more (v ∷ vs) w gs stand = stand

none_given : (gs : List Given) (g : Given) → StandEach [] [] (gs ++ g ∷ []) → ⊥
none_given [] g stand = stand
none_given (h ∷ gs) g stand = stand

no_value : (ts : List Ground) (t : Ground) (gs : List Given) → StandEach (ts ++ t ∷ []) [] gs → ⊥
no_value [] t gs stand = stand
no_value (u ∷ ts) t gs stand = stand

nothing_given : (ts : List Ground) (t : Ground) (vs : List Value) (w : Value) → StandEach (ts ++ t ∷ []) (vs ++ w ∷ []) [] → ⊥
nothing_given [] t [] w stand = stand
nothing_given [] t (v ∷ vs) w stand = stand
nothing_given (u ∷ ts) t [] w stand = stand
nothing_given (u ∷ ts) t (v ∷ vs) w stand = stand

-- the last one apart from the others
pub stand_split : (ts : List Ground) (t : Ground) (vs : List Value) (w : Value) (gs : List Given) (g : Given) → StandEach (ts ++ t ∷ []) (vs ++ w ∷ []) (gs ++ g ∷ []) → StandEach ts vs gs × Stands t w g
stand_split [] t [] w [] g stand = (tt, stand.0)
stand_split [] t [] w (h ∷ gs) g stand = absurd (none_given gs g stand.1)
stand_split [] t (v ∷ vs) w [] g stand = absurd (none_more vs w [] stand.1)
stand_split [] t (v ∷ vs) w (h ∷ gs) g stand = absurd (none_more vs w (gs ++ g ∷ []) stand.1)
stand_split (u ∷ ts) t [] w [] g stand = absurd (no_value ts t [] stand.1)
stand_split (u ∷ ts) t [] w (h ∷ gs) g stand = absurd (no_value ts t (gs ++ g ∷ []) stand.1)
stand_split (u ∷ ts) t (v ∷ vs) w [] g stand = absurd (nothing_given ts t vs w stand.1)
stand_split (u ∷ ts) t (v ∷ vs) w (h ∷ gs) g stand = let rest = stand_split ts t vs w gs g stand.1 in ((stand.0, rest.0), rest.1)

pub all_stand : (a : Ground) (ts : List Ground) (vs : List Value) (gs : List Given) → Each (λ t. t ≡ a) ts → StandEach ts vs gs → AllStand a vs gs
all_stand a [] [] [] same stand = tt
all_stand a [] [] (g ∷ gs) same stand = absurd stand
all_stand a [] (v ∷ vs) gs same stand = absurd stand
all_stand a (t ∷ ts) [] gs same stand = absurd stand
all_stand a (t ∷ ts) (v ∷ vs) [] same stand = absurd stand
all_stand a (t ∷ ts) (v ∷ vs) (g ∷ gs) same stand = (subst (λ t. Stands t v g) same.0 stand.0, all_stand a ts vs gs same.1 stand.1)

pub items_by_rule : (es : List Expr) (a : Ground) → is_flat_row a ≡ true → (ts : List Ground) (vs : List Value) (gs : List Given) → Each (λ t. t ≡ a) ts → StandEach ts vs gs
    → Stands (known.List a) (value_of (operated (Node-F.List es) vs)) (of_list (map (λ (g : Given). g.row) gs))
items_by_rule es a flat ts vs gs same stand = items_stand es a flat vs gs (all_stand a ts vs gs same stand)

-- ---- fields of a flat record are bases

abbrev pub AllBase : Row → Type 0
AllBase row = (q : Label) (t : Ground) → fin.get row q ≡ Some t → is_base t ≡ true

pub flat_bases : (row : Row) → is_flat_row (record_of row) ≡ true → AllBase row
flat_bases row flat q t is = base_among q t (fields_of row) (flat_fields (fields_of row) flat) (get_among row q t is)

-- the row behind the first field
record Behind (l : Label) (t : Ground) (o : Option Row) (row : Row) : Type 0 where
  rest : Row
  there : o ≡ Some rest
  lacks : has_label rest l ≡ false
  is : row ≡ fin.insert rest l t

behind_first : (l : Label) (t : Ground) (o : Option Row) (row : Row) → with_field l (Some t) o ≡ Some row → Behind l t o row
behind_first l t None row is = let wrong : None ≡ Some row = is in cc
behind_first l t (Some rest) row is = by_test (has_label rest l) refl is
  where
    by_test : (b : Bool) → has_label rest l ≡ b → (if b then None else Some (fin.insert rest l t)) ≡ Some row → Behind l t (Some rest) row
    by_test true has is = let wrong : None ≡ Some row = is in cc
    by_test false lacks is = record { rest = rest; there = refl; lacks = lacks; is = sym (same_some is) }

pub got : (rest : Row) (l : Label) (t : Ground) (q : Label) → fin.get (fin.insert rest l t) q ≡ cond (bytes_eq l q) (Some t) (fin.get rest q)
got rest l t q = fin.get-insert nat_list_cmp_total rest l t q ∙ ap (λ b. cond b (Some t) (fin.get rest q)) (same_test q l)

bases_behind : (rest : Row) (l : Label) (t : Ground) → has_label rest l ≡ false → AllBase (fin.insert rest l t) → AllBase rest
bases_behind rest l t lacks all q u is = by_test (bytes_eq l q) refl (got rest l t q)
  where
    by_test : (b : Bool) → bytes_eq l q ≡ b → fin.get (fin.insert rest l t) q ≡ cond b (Some t) (fin.get rest q) → is_base u ≡ true
    by_test true same there = let wrong : false ≡ true = sym lacks ∙ ap (has_label rest) ((bytes_eq-Decides l q).0 same) ∙ ap is_some is in absurd cc
    by_test false other there = all q u (there ∙ is)

pub bases_in : (fields : Named Ground) (other row : Row) → with_fields fields other ≡ Some row → AllBase row → Each (λ (f : Label × Ground). is_base f.1 ≡ true) fields
bases_in [] other row is all = tt
bases_in (f ∷ fields) other row is all =
    let behind : Behind f.0 f.1 (with_fields fields other) row = behind_first f.0 f.1 (with_fields fields other) row is in
    let whole : AllBase (fin.insert behind.rest f.0 f.1) = subst AllBase behind.is all in (
      whole f.0 f.1 (got behind.rest f.0 f.1 f.0 ∙ ap (λ b. cond b (Some f.1) (fin.get behind.rest f.0)) (bytes_itself f.0)),
      bases_in fields other behind.rest behind.there (bases_behind behind.rest f.0 f.1 behind.lacks whole),
    )

-- the types of what is labelled, and those behind them
pub labelled_types : (ls : List Label) (ts : List Ground) (fields : Named Ground) (left : List Ground) → types.labelled ls ts ≡ Some (fields, left) → ts ≡ types_of fields ++ left
labelled_types [] ts fields left is =
    let same : ◌≡◌ {A = Named Ground × List Ground} ([], ts) (fields, left) = same_some is in
    subst (λ (x : Named Ground × List Ground). ts ≡ types_of x.0 ++ x.1) same refl
labelled_types (l ∷ ls) [] fields left is = let wrong : ◌≡◌ {A = Option (Named Ground × List Ground)} None (Some (fields, left)) = is in cc
labelled_types (l ∷ ls) (t ∷ ts) fields left is =
    let found : (x : Named Ground × List Ground) × (types.labelled ls ts ≡ Some x) × ((fields, left) ≡ ((l, t) ∷ x.0, x.1)) =
    mapped (λ (x : Named Ground × List Ground). ((l, t) ∷ x.0, x.1)) (types.labelled ls ts) (fields, left) is in
    subst (λ (x : Named Ground × List Ground). t ∷ ts ≡ types_of x.0 ++ x.1) (sym found.2) (ap (λ ts. t ∷ ts) (labelled_types ls ts found.0.0 found.0.1 found.1))

bases_of : (fields : Named Ground) → Each (λ (f : Label × Ground). is_base f.1 ≡ true) fields → (vs : List Value) (gs : List Given) → StandEach (types_of fields) vs gs → AreBases vs gs
bases_of [] bases [] [] stand = tt
bases_of [] bases [] (g ∷ gs) stand = absurd stand
bases_of [] bases (v ∷ vs) gs stand = absurd stand
bases_of (f ∷ fields) bases [] gs stand = absurd stand
bases_of (f ∷ fields) bases (v ∷ vs) [] stand = absurd stand
bases_of (f ∷ fields) bases (v ∷ vs) (g ∷ gs) stand = (stand.0.base bases.0, bases_of fields bases.1 vs gs stand.1)

-- a record that stands in a query is flat
or_false : (b : Bool) → (b || false) ≡ true → b ≡ true
or_false true is = refl
or_false false is = is

abbrev query_level : Ground-F Ground GroundField → Bool
query_level level = (base_level level || row_level level) || rows_level level

pub record_flat : (gs : List GroundField) → is_query_type (known.Fields gs) ≡ true → is_flat_row (known.Fields gs) ≡ true
record_flat gs is = ap row_level (known.outs-Fields gs) ∙ or_false (are_flat gs) (sym (ap query_level (known.outs-Fields gs)) ∙ is)

module _ (p : Program) (i : Instances) where
  result_fits : (t : Ground) (o : Outcome) → IsResult p i no_effects t o → Fits p i (value_of o) t
  result_fits t (outcome.Value v) result = result
  result_fits t (outcome.Trap trap) result = absurd cc
  result_fits t outcome.NoRule result = absurd result

  -- `(l = e, ..)`
  pub record_by_rule : (parts : List PartExpr) (ts : List Ground) (fields : Named Ground) (row : Row) → types.labelled (map label_of parts) ts ≡ Some (fields, []) → with_fields fields no_fields ≡ Some row → is_flat_row (record_of row) ≡ true
      → (vs : List Value) (gs : List Given) → FitEach p i vs ts → StandEach ts vs gs
      → Stands (record_of row) (value_of (operated (Node-F.Record parts) vs)) (of_row (extended (labels (columns_of (record_of row))) (cells_under (part_labels parts) gs) no_cells))
  record_by_rule parts ts fields row are is flat vs gs fit stand =
      let found : AreLabelled p i parts vs fields [] = labelled_fit p i parts ts vs fields [] are fit in
      let count : length vs ≡ length parts + length {A = Ground} [] = found.count in
      let own : StandEach (types_of fields) vs gs = subst (λ ts. StandEach ts vs gs) (labelled_types (map label_of parts) ts fields [] are ∙ append-nil (types_of fields)) stand in
      record_stands p i parts (record_of row) flat vs gs (omega arith) (bases_of fields (bases_in fields no_fields row is (flat_bases row flat)) vs gs own)
      (result_fits (record_of row) _ (record_sound p i no_effects parts ts vs fields row are is fit))

  -- `(l = e, .. | r)`
  pub extend_by_rule : (parts : List PartExpr) (e : Expr) (ts : List Ground) (fields : Named Ground) (other row : Row) → types.labelled (map label_of parts) ts ≡ Some (fields, record_of other ∷ []) → with_fields fields other ≡ Some row
      → is_flat_row (record_of row) ≡ true → is_flat_row (record_of other) ≡ true
      → (vs : List Value) (w : Value) (gs : List Given) (g : Given) → FitEach p i (vs ++ w ∷ []) ts → StandEach ts (vs ++ w ∷ []) (gs ++ g ∷ [])
      → Stands (record_of row) (value_of (operated (Node-F.Extend parts e) (vs ++ w ∷ []))) (of_row (extended (labels (columns_of (record_of row))) (cells_under (part_labels parts) gs) g.row))
  extend_by_rule parts e ts fields other row are is flat behind vs w gs g fit stand =
      let found : AreLabelled p i parts (vs ++ w ∷ []) fields (record_of other ∷ []) = labelled_fit p i parts ts (vs ++ w ∷ []) fields (record_of other ∷ []) are fit in
      let count : length (vs ++ w ∷ []) ≡ length parts + 1 = found.count in
      let long : length (vs ++ w ∷ []) ≡ length vs + 1 = length-append vs (w ∷ []) in
      let own : StandEach (types_of fields) vs gs × Stands (record_of other) w g =
      stand_split (types_of fields) (record_of other) vs w gs g (subst (λ ts. StandEach ts (vs ++ w ∷ []) (gs ++ g ∷ [])) (labelled_types (map label_of parts) ts fields (record_of other ∷ []) are) stand) in
      extend_stands p i parts e (record_of row) flat vs w gs g (omega arith) (bases_of fields (bases_in fields other row is (flat_bases row flat)) vs gs own.0) (own.1.row behind)
      (result_fits (record_of row) _ (extend_sound p i no_effects parts ts (vs ++ w ∷ []) fields other row are is fit))
