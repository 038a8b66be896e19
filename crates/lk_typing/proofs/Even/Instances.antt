-- Rows of effects in an instance of a scheme.
use Rattle.std.proofs.Common.{◌≡◌, ℕ, ◌+◌, ◌<◌, List, [], ◌∷◌, ◌++◌, length, map, flat_map, sym, subst, ap, ◌∙◌, Option, Some, None}
use native.Mathlib.Omega.{arith}
use Rattle.std.specs.List.{cons_option, position_or_len}
use Rattle.lk_types.proofs.Agreement.{variables_rolled, variables_rolled_row, variables_rolled_field}
use Rattle.lk_types.proofs.Members.{each_front, each_back, each_both}
use Rattle.lk_types.specs.Each.{Each}
use Rattle.lk_types.specs.Variables.{firsts, same_variable, joined, before_tail, tail_variable, variables_of, variables_of_row, variables_of_field, ty_variables}
use Rattle.lk_types.specs.declared.scheme.Lack.{Lack}
use Rattle.lk_types.specs.declared.scheme.Scheme.{Scheme}
use Rattle.lk_types.specs.declared.ty.Effects.{Effects}
use Rattle.lk_types.specs.declared.ty.RowTail.{RowTail}
use Rattle.lk_types.specs.declared.ty.RowTail.TheVariants.{Closed, Var}
use Rattle.lk_types.specs.declared.ty.Ty.{Ty, roll-Ty}
use Rattle.lk_types.specs.declared.ty.Ty.TheFolds.{ind-Ty, map-Ty}
use Rattle.lk_types.specs.declared.ty.Ty.TheOpen.{Ty-F, TyField-F, TyRow-F}
use Rattle.lk_types.specs.declared.ty.TyField.{TyField, roll-TyField}
use Rattle.lk_types.specs.declared.ty.TyRow.{TyRow, roll-TyRow}
use Rattle.lk_types.specs.declared.ty.Variable.{Variable}
use Rattle.lk_types.specs.declared.ty.Variable.TheVariants as variable
use Rattle.lk_typing.proofs.Even.Found.{Before, Stays, Found, mapped, now, here, placed}
use Rattle.lk_typing.proofs.Even.Nodes.{IsEvenEntry, IfThere, EvenOwn}
use Rattle.lk_typing.proofs.Even.Types.{HasRow, IsEvenEquation, even_int, even_bool, even_text, even_variable, even_list, even_fields, even_tags, even_function_rows, even_record, even_unit}
use Rattle.lk_typing.proofs.Instances.{rolled, rolled_row, rolled_field}
use Rattle.lk_typing.proofs.Places.{firsts_have, number_at, number_of, number_there, place_below, IsThere}
use Rattle.lk_typing.proofs.Even.Loose.{rows_of_row, rows_of_field, rows_rolled, rows_rolled_row, rows_rolled_field}
use Rattle.lk_typing.specs.EffectRows.{ty_rows, rows_of, IsEven, IsEvenScheme}
use Rattle.lk_typing.specs.Equations.{own, lacks, used}
use Rattle.lk_typing.specs.Names.{Entry, One, Many}
use Rattle.lk_types.specs.Renamed.{place_among, place_from, width, tail_renamed, effects_renamed, ty_renamed, renamed, renamed_row, renamed_field}

-- ---- a renamed type

-- a scheme's sets b, and those that go with the new numbers
module _ (place : Variable → ℕ) (b c : Before) where
  abbrev IsMoved : Variable → Type 0
  IsMoved x = c (place x) ≡ b (number_of x)

  abbrev Moved : List Variable → Type 0
  Moved xs = Each IsMoved xs

  abbrev Rows : Before → List Effects → Type 0
  Rows d rows = Each (HasRow d) rows

  abbrev TyEven : Ty → Type 0
  TyEven t = Moved (variables_of t) → Rows b (rows_of t) → Rows c (rows_of (renamed place t))

  abbrev RowEven : TyRow → Type 0
  RowEven r = Moved (variables_of_row r) → Rows b (rows_of_row r) → Rows c (rows_of_row (renamed_row place r))

  abbrev FieldEven : TyField → Type 0
  FieldEven f = Moved (variables_of_field f) → Rows b (rows_of_field f) → Rows c (rows_of_field (renamed_field place f))

  abbrev Such : Type 0
  Such = (t : Ty) × TyEven t

  abbrev SuchRow : Type 0
  SuchRow = (r : TyRow) × RowEven r

  abbrev SuchField : Type 0
  SuchField = (f : TyField) × FieldEven f

  effects_even : (es : Effects) → Moved (cons_option (tail_variable variable.Effects es.tail) []) → HasRow b es → HasRow c (effects_renamed place es)
  effects_even es moved has = by_tail es.tail moved has
    where
      by_tail : (tail : RowTail) → Moved (cons_option (tail_variable variable.Effects tail) []) → HasRow b (record { labels = es.labels; tail = tail }) → HasRow c (record { labels = es.labels; tail = tail_renamed place variable.Effects tail })
      by_tail Closed moved has = has
      by_tail (Var v) moved has = has ∙ ap (λ s. Some s) (sym moved.0)

  types_even : (ts : List Such) → Moved (joined (map variables_of (map (λ t. t.0) ts))) → Rows b (flat_map (λ rows. rows) (map rows_of (map (λ t. t.0) ts)))
      → Rows c (flat_map (λ rows. rows) (map rows_of (map (renamed place) (map (λ t. t.0) ts))))
  types_even [] moved even = tt
  types_even (t ∷ ts) moved even =
      each_both (HasRow c) (rows_of (renamed place t.0)) (flat_map (λ rows. rows) (map rows_of (map (renamed place) (map (λ t. t.0) ts))))
      (t.1 (each_front IsMoved (variables_of t.0) _ moved) (each_front (HasRow b) (rows_of t.0) _ even))
      (types_even ts (each_back IsMoved (variables_of t.0) _ moved) (each_back (HasRow b) (rows_of t.0) _ even))

  fields_even : (fs : List SuchField) → Moved (joined (map variables_of_field (map (λ f. f.0) fs))) → Rows b (flat_map (λ rows. rows) (map rows_of_field (map (λ f. f.0) fs)))
      → Rows c (flat_map (λ rows. rows) (map rows_of_field (map (renamed_field place) (map (λ f. f.0) fs))))
  fields_even [] moved even = tt
  fields_even (f ∷ fs) moved even =
      each_both (HasRow c) (rows_of_field (renamed_field place f.0)) (flat_map (λ rows. rows) (map rows_of_field (map (renamed_field place) (map (λ f. f.0) fs))))
      (f.1 (each_front IsMoved (variables_of_field f.0) _ moved) (each_front (HasRow b) (rows_of_field f.0) _ even))
      (fields_even fs (each_back IsMoved (variables_of_field f.0) _ moved) (each_back (HasRow b) (rows_of_field f.0) _ even))

  abbrev plain_level : Ty-F Such SuchField SuchRow → Ty-F Ty TyField TyRow
  plain_level = map-Ty Such SuchField SuchRow Ty TyField TyRow (λ t. t.0) (λ f. f.0) (λ r. r.0)

  abbrev LevelEven : Ty-F Ty TyField TyRow → Type 0
  LevelEven x = Moved (ty_variables (map-Ty Ty TyField TyRow (List Variable) (List Variable) (List Variable) variables_of variables_of_field variables_of_row x))
      → Rows b (ty_rows (map-Ty Ty TyField TyRow (List Effects) (List Effects) (List Effects) rows_of rows_of_field rows_of_row x))
      → Rows c (rows_of (ty_renamed place (map-Ty Ty TyField TyRow Ty TyField TyRow (renamed place) (renamed_field place) (renamed_row place) x)))

  level_even : (y : Ty-F Such SuchField SuchRow) → LevelEven (plain_level y)
  level_even Ty-F.Int moved even = even_int c
  level_even Ty-F.Bool moved even = even_bool c
  level_even Ty-F.Text moved even = even_text c
  level_even (Ty-F.List t) moved even = even_list c (renamed place t.0) (t.1 moved even)
  level_even (Ty-F.Fields r) moved even = even_fields c (renamed_row place r.0) (r.1 moved even)
  level_even (Ty-F.Tags r) moved even = even_tags c (renamed_row place r.0) (r.1 moved even)
  level_even (Ty-F.Fun ps es t) moved even =
      let params : List Variable = joined (map variables_of (map (λ p. p.0) ps)) in
      let tail : List Variable = cons_option (tail_variable variable.Effects es.tail) [] in
      let front : Moved (params ++ tail) = each_front IsMoved (params ++ tail) (variables_of t.0) moved in
      let rows : List Effects = flat_map (λ rows. rows) (map rows_of (map (λ p. p.0) ps)) in
      let last : Rows b (es ∷ rows_of t.0) = each_back (HasRow b) rows (es ∷ rows_of t.0) even in
      even_function_rows c (map (renamed place) (map (λ p. p.0) ps)) (effects_renamed place es) (renamed place t.0)
      (types_even ps (each_front IsMoved params tail front) (each_front (HasRow b) rows (es ∷ rows_of t.0) even))
      (effects_even es (each_back IsMoved params tail front) last.0) (t.1 (each_back IsMoved (params ++ tail) (variables_of t.0) moved) last.1)
  level_even (Ty-F.Var v) moved even = even_variable c (place (variable.Plain v))

  ty_even : (y : Ty-F Such SuchField SuchRow) → TyEven (roll-Ty (plain_level y))
  ty_even y moved even = subst (λ t. Rows c (rows_of t)) (sym (rolled place (plain_level y))) (level_even y (subst Moved (variables_rolled (plain_level y)) moved) (subst (Rows b) (rows_rolled (plain_level y)) even))

  row_even : (y : TyRow-F Such SuchField SuchRow) → RowEven (roll-TyRow (record { fields = map (λ f. f.0) y.fields; tail = y.tail }))
  row_even y moved even =
      let fields : List TyField = map (λ f. f.0) y.fields in
      let all : Moved (before_tail (joined (map variables_of_field fields)) variable.Row y.tail) = subst Moved (variables_rolled_row (record { fields = fields; tail = y.tail })) moved in
      let front : Moved (joined (map variables_of_field fields)) = each_front IsMoved (joined (map variables_of_field fields)) (cons_option (tail_variable variable.Row y.tail) []) all in
      subst (λ r. Rows c (rows_of_row r)) (sym (rolled_row place (record { fields = fields; tail = y.tail })))
      (subst (Rows c) (sym (rows_rolled_row (record { fields = map (renamed_field place) fields; tail = tail_renamed place variable.Row y.tail })))
      (fields_even y.fields front (subst (Rows b) (rows_rolled_row (record { fields = fields; tail = y.tail })) even)))

  field_even : (y : TyField-F Such SuchField SuchRow) → FieldEven (roll-TyField (record { label = y.label; ty = y.ty.0 }))
  field_even y moved even =
      subst (λ f. Rows c (rows_of_field f)) (sym (rolled_field place (record { label = y.label; ty = y.ty.0 })))
      (subst (Rows c) (sym (rows_rolled_field (record { label = y.label; ty = renamed place y.ty.0 })))
      (y.ty.1 (subst Moved (variables_rolled_field (record { label = y.label; ty = y.ty.0 })) moved) (subst (Rows b) (rows_rolled_field (record { label = y.label; ty = y.ty.0 })) even)))

  -- where the sets moved along with the numbers, the renamed type is even as the type was
  pub renamed_even : (t : Ty) → Moved (variables_of t) → IsEven b t → IsEven c (renamed place t)
  renamed_even = ind-Ty TyEven FieldEven RowEven
      (λ x y is. subst (λ z. TyEven (roll-Ty z)) is (ty_even y))
      (λ x y is. subst (λ z. FieldEven (roll-TyField z)) is (field_even y))
      (λ x y is. subst (λ z. RowEven (roll-TyRow z)) is (row_even y))

-- ---- a function where it is used

lacks_even : (c : Before) (place : Variable → ℕ) (all : List Lack) → Each (IsEvenEquation c) (map (lacks place) all)
lacks_even c place [] = tt
lacks_even c place (lack ∷ all) =
    let r : IsEven c (lacks place lack).left = even_record c ((lack.label, _) ∷ []) (Var (place (variable.Row lack.var))) (even_unit c, tt) in
    ((r, r), lacks_even c place all)

-- the set that goes with the variable at each place
abbrev sets_at : Before → List Variable → Before
sets_at b xs v = b (number_at xs v)

moved_all : (n : ℕ) (xs : List Variable) (b c : Before) → ((v : ℕ) → n + v < length xs + n → c (n + v) ≡ sets_at b xs v) → (ys : List Variable) → Each (IsThere xs) ys
    → Each (IsMoved (place_among n xs) b c) ys
moved_all n xs b c all [] there = tt
moved_all n xs b c all (y ∷ ys) there =
    let below : position_or_len (same_variable y) xs < length xs = place_below y xs there.0 in
    (all (position_or_len (same_variable y) xs) (omega arith) ∙ ap b (number_there y xs there.0), moved_all n xs b c all ys there.1)

instance_found : (scheme : Scheme) (n : ℕ) (b : Before) → IsEvenScheme scheme
    → Found n b (width scheme + n) (EvenOwn (own (renamed (place_from n scheme) scheme.body) (map (lacks (place_from n scheme)) scheme.lacks) (width scheme + n)))
instance_found scheme n b even =
    let body : List Variable = variables_of scheme.body in
    let lacking : List Variable = map (λ lack. variable.Row lack.var) scheme.lacks in
    let xs : List Variable = firsts (body ++ lacking) in
    let there : Each (IsThere xs) body = each_front (IsThere xs) body lacking (firsts_have (body ++ lacking)) in
    mapped (placed n (length xs + n) b (sets_at even.0 xs) (omega arith)) (λ c all. record {
      is = renamed_even (place_from n scheme) even.0 c scheme.body (moved_all n xs even.0 c all body there) even.1;
      equations = lacks_even c (place_from n scheme) scheme.lacks;
    })

-- a function's own type, or a new instance of its scheme
pub used_found : (o : Option (Entry Ty)) (n : ℕ) (b : Before) → Stays n b (λ c. IfThere (IsEvenEntry c) o) → Found n b (used o n).next (EvenOwn (used o n))
used_found None n b known = mapped (here known) (λ c given. record { is = even_unit c; equations = ((even_int c, even_bool c), tt) })
used_found (Some (One t)) n b known = mapped (here known) (λ c given. record { is = given; equations = tt })
used_found (Some (Many scheme)) n b known = instance_found scheme n b (now known)
