-- What a function or a local name stands for, in the walk and by the rules.
use Rattle.std.proofs.Common.{◌≡◌, ℕ, suc, ◌+◌, length, arith, add-zero, Bool, true, false, not, cond, ◌||◌, List, [], ◌∷◌, ◌++◌, map, refl, sym, ap, ◌∙◌, Option, Some, None, if◌then◌else◌, subst, ap₂}
use Rattle.std.specs.FinMap as fin
use Rattle.std.specs.List.{list_any, position_or_len}
use Rattle.std.specs.Option.{option_map}
use Rattle.std.specs.Prelude.{bytes_eq, IsSome}
use Rattle.lk_types.proofs.Agreement.{AgreeAt, agrees, under_rolled, under_rolled_row, under_rolled_field}
use Rattle.lk_types.proofs.Members.{each_front, each_back}
use Rattle.lk_types.proofs.SameVariable.{same_is}
use Rattle.lk_types.proofs.Unfold.{under_int, under_bool, under_text, under_list, under_fields, under_tags, under_function, under_variable, under_field}
use Rattle.lk_types.specs.Each.{Each}
use Rattle.lk_types.specs.Grounding.{Grounding, under, Known, row_under, field_under, ty_level, before_row, row_tail, effect_tail, before_effects, all_of, function_of}
use Rattle.lk_types.specs.Rows.{Label, Row, has_label, with_field, fields_of}
use Rattle.lk_types.specs.Schemes.{IsLacking, IsInstance}
use Rattle.lk_types.specs.Solutions.{IsMet}
use Rattle.lk_types.specs.Variables.{firsts, same_variable, variables_of}
use Rattle.lk_types.specs.declared.ground.Ground.{Ground}
use Rattle.lk_types.specs.declared.ground.Ground.TheVariants as known
use Rattle.lk_types.specs.declared.scheme.Lack.{Lack}
use Rattle.lk_types.specs.declared.scheme.Scheme.{Scheme}
use Rattle.lk_types.specs.declared.ty.RowTail.{RowTail}
use Rattle.lk_types.specs.declared.ty.RowTail.TheVariants.{Closed, Var}
use Rattle.lk_types.specs.declared.ty.Ty.{Ty, roll-Ty}
use Rattle.lk_types.specs.declared.ty.Ty.TheFolds.{ind-Ty, map-Ty, fold-roll-Ty, fold-roll-TyRow, fold-roll-TyField}
use Rattle.lk_types.specs.declared.ty.Ty.TheOpen.{Ty-F, TyField-F, TyRow-F}
use Rattle.lk_types.specs.declared.ty.Ty.TheVariants as ty
use Rattle.lk_types.specs.declared.ty.TyField.{TyField, roll-TyField}
use Rattle.lk_types.specs.declared.ty.TyRow.{TyRow, roll-TyRow}
use Rattle.lk_types.specs.declared.ty.Variable.{Variable}
use Rattle.lk_types.specs.declared.ty.Variable.TheVariants as variable
use Rattle.lk_typing.proofs.Meaning.{seen, entry_seen, Names, Functions, Letter, IsLetter, Stand, OwnMet}
use Rattle.lk_typing.proofs.Nodes.{there_is}
use Rattle.lk_typing.proofs.Places.{firsts_have, number_of, IsThere}
use Rattle.lk_typing.specs.Equations.{own, lacks, used}
use Rattle.lk_typing.specs.Names.{Named, named, Entry, One, Many, IsUse, MayBe}
use Rattle.lk_types.specs.Renamed.{place_among, place_from, scheme_variables, width, tail_renamed, ty_renamed, row_renamed, field_renamed, renamed, renamed_row, renamed_field}
use Rattle.lk_typing.specs.Types as types
use Rattle.lk_typing.specs.Unknowns.{record_of, unit, same}

-- ---- local names

-- a name stands for what comes of what it stood for
pub named_seen : {A B : Type 0} (f : A → B) (x : Label) (entries : Named A) → named x (seen f entries) ≡ option_map f (named x entries)
named_seen f x [] = refl
named_seen {A} {B} f x (entry ∷ entries) = by_test (bytes_eq entry.0 x) (named x (seen f entries)) (named x entries) (named_seen f x entries)
  where
    by_test : (b : Bool) (p : Option B) (q : Option A) → p ≡ option_map f q → (if b then Some (f entry.1) else p) ≡ option_map f (if b then Some entry.1 else q)
    by_test true p q is = refl
    by_test false p q is = is

both_named : (σ : Grounding) (names : Named Ty) (known_names : Named Ground) (x : Label) → Names σ names known_names
    → option_map (under σ) (named x names) ≡ option_map (λ t. Some t) (named x known_names)
both_named σ names known_names x is = sym (named_seen (under σ) x names) ∙ ap (named x) is.same ∙ named_seen (λ t. Some t) x known_names

-- what the type of a local name becomes is its type by the rules
pub local_sound : (σ : Grounding) (names : Named Ty) (known_names : Named Ground) (x : Label) (t : Ty) → Names σ names known_names → named x names ≡ Some t
    → (g : Ground) × (under σ t ≡ Some g) × (named x known_names ≡ Some g)
local_sound σ names known_names x t are is = by_both (named x known_names) (ap (option_map (under σ)) (sym is) ∙ both_named σ names known_names x are)
  where
    by_both : (o : Option Ground) → Some (under σ t) ≡ option_map (λ g. Some g) o → (g : Ground) × (under σ t ≡ Some g) × (o ≡ Some g)
    by_both None same = cc
    by_both (Some g) same = (g, cc, refl)

-- a name that has a type by the rules has one in the walk, which becomes it
pub local_complete : (σ : Grounding) (names : Named Ty) (known_names : Named Ground) (x : Label) (g : Ground) → Names σ names known_names → named x known_names ≡ Some g
    → (t : Ty) × (named x names ≡ Some t) × (under σ t ≡ Some g)
local_complete σ names known_names x g are is = by_both (named x names) (both_named σ names known_names x are ∙ ap (option_map (λ t. Some t)) is)
  where
    by_both : (o : Option Ty) → option_map (under σ) o ≡ Some (Some g) → (t : Ty) × (o ≡ Some t) × (under σ t ≡ Some g)
    by_both None same = cc
    by_both (Some t) same = (t, refl, cc)

-- ---- a renamed type

-- what stands for the variables with those numbers
abbrev pub moved : (Variable → ℕ) → Grounding → Grounding
moved place σ = record { plain = λ v. σ.plain (place (variable.Plain v)); rows = λ v. σ.rows (place (variable.Row v)); effects = λ v. σ.effects (place (variable.Effects v)) }

-- one level

module _ (place : Variable → ℕ) where
  pub rolled : (x : Ty-F Ty TyField TyRow) → renamed place (roll-Ty x) ≡ ty_renamed place (map-Ty Ty TyField TyRow Ty TyField TyRow (renamed place) (renamed_field place) (renamed_row place) x)
  unfolding renamed renamed_field renamed_row
  rolled x = fold-roll-Ty Ty TyField TyRow (ty_renamed place) (field_renamed place) (row_renamed place) x

  pub rolled_row : (x : TyRow-F Ty TyField TyRow) → renamed_row place (roll-TyRow x) ≡ roll-TyRow (record { fields = map (renamed_field place) x.fields; tail = tail_renamed place variable.Row x.tail })
  unfolding renamed renamed_field renamed_row
  rolled_row x = fold-roll-TyRow Ty TyField TyRow (ty_renamed place) (field_renamed place) (row_renamed place) x

  pub rolled_field : (x : TyField-F Ty TyField TyRow) → renamed_field place (roll-TyField x) ≡ record { label = x.label; ty = renamed place x.ty }
  unfolding renamed renamed_field renamed_row
  rolled_field x = fold-roll-TyField Ty TyField TyRow (ty_renamed place) (field_renamed place) (row_renamed place) x

module _ (place : Variable → ℕ) (σ : Grounding) where
  abbrev τ : Grounding
  τ = moved place σ

  abbrev TyMoves : Ty → Type 0
  TyMoves t = under σ (renamed place t) ≡ under τ t

  abbrev RowMoves : TyRow → Type 0
  RowMoves r = row_under σ (renamed_row place r) ≡ row_under τ r

  abbrev FieldMoves : TyField → Type 0
  FieldMoves f = field_under σ (renamed_field place f) ≡ field_under τ f

  abbrev Such : Type 0
  Such = (t : Ty) × TyMoves t

  abbrev SuchRow : Type 0
  SuchRow = (r : TyRow) × RowMoves r

  abbrev SuchField : Type 0
  SuchField = (f : TyField) × FieldMoves f

  row_tail_moves : (tail : RowTail) → row_tail σ (tail_renamed place variable.Row tail) ≡ row_tail τ tail
  row_tail_moves Closed = refl
  row_tail_moves (Var v) = refl

  effect_tail_moves : (tail : RowTail) → effect_tail σ (tail_renamed place variable.Effects tail) ≡ effect_tail τ tail
  effect_tail_moves Closed = refl
  effect_tail_moves (Var v) = refl

  types_move : (ts : List Such) → map (under σ) (map (renamed place) (map (λ t. t.0) ts)) ≡ map (under τ) (map (λ t. t.0) ts)
  types_move [] = refl
  types_move (t ∷ ts) = ap₂ (λ a more. a ∷ more) t.1 (types_move ts)

  fields_move : (fs : List SuchField) → map (field_under σ) (map (renamed_field place) (map (λ f. f.0) fs)) ≡ map (field_under τ) (map (λ f. f.0) fs)
  fields_move [] = refl
  fields_move (f ∷ fs) = ap₂ (λ a more. a ∷ more) f.1 (fields_move fs)

  abbrev plain_level : Ty-F Such SuchField SuchRow → Ty-F Ty TyField TyRow
  plain_level = map-Ty Such SuchField SuchRow Ty TyField TyRow (λ t. t.0) (λ f. f.0) (λ r. r.0)

  abbrev LevelMoves : Ty-F Ty TyField TyRow → Type 0
  LevelMoves x = under σ (ty_renamed place (map-Ty Ty TyField TyRow Ty TyField TyRow (renamed place) (renamed_field place) (renamed_row place) x))
      ≡ ty_level τ (map-Ty Ty TyField TyRow (Option Ground) Known (Option Row) (under τ) (field_under τ) (row_under τ) x)

  level_moves : (y : Ty-F Such SuchField SuchRow) → LevelMoves (plain_level y)
  level_moves Ty-F.Int = under_int σ
  level_moves Ty-F.Bool = under_bool σ
  level_moves Ty-F.Text = under_text σ
  level_moves (Ty-F.List t) = under_list σ _ ∙ ap (option_map known.List) t.1
  level_moves (Ty-F.Fields r) = under_fields σ _ ∙ ap (option_map (λ m. known.Fields (fields_of m))) r.1
  level_moves (Ty-F.Tags r) = under_tags σ _ ∙ ap (option_map (λ m. known.Tags (fields_of m))) r.1
  level_moves (Ty-F.Fun ps es t) = under_function σ _ _ _ ∙ (λ i. function_of (all_of (types_move ps i)) (before_effects es.labels (effect_tail_moves es.tail i)) (t.1 i))
  level_moves (Ty-F.Var v) = under_variable σ _

  ty_moves : (y : Ty-F Such SuchField SuchRow) → TyMoves (roll-Ty (plain_level y))
  ty_moves y = ap (under σ) (rolled place _) ∙ level_moves y ∙ sym (under_rolled τ (plain_level y))

  row_moves : (y : TyRow-F Such SuchField SuchRow) → RowMoves (roll-TyRow (record { fields = map (λ f. f.0) y.fields; tail = y.tail }))
  row_moves y = ap (row_under σ) (rolled_row place _) ∙ under_rolled_row σ _ ∙ ap₂ before_row (fields_move y.fields) (row_tail_moves y.tail) ∙ sym (under_rolled_row τ _)

  field_moves : (y : TyField-F Such SuchField SuchRow) → FieldMoves (roll-TyField (record { label = y.label; ty = y.ty.0 }))
  field_moves y = ap (field_under σ) (rolled_field place _) ∙ under_field σ _ ∙ ap (λ t. (y.label, t)) y.ty.1 ∙ sym (under_rolled_field τ _)

  pub under_moves : (t : Ty) → under σ (renamed place t) ≡ under τ t
  under_moves = ind-Ty TyMoves FieldMoves RowMoves
      (λ x y is. subst (λ z. TyMoves (roll-Ty z)) is (ty_moves y))
      (λ x y is. subst (λ z. FieldMoves (roll-TyField z)) is (field_moves y))
      (λ x y is. subst (λ z. RowMoves (roll-TyRow z)) is (row_moves y))

-- the renamed type becomes what the type becomes by what stands for the variables with the new numbers
pub under_renamed : (place : Variable → ℕ) (σ : Grounding) (t : Ty) → under σ (renamed place t) ≡ under (moved place σ) t
under_renamed place σ t = under_moves place σ t

-- ---- what is said of a row variable that lacks a label

-- a record with that one field before a row
abbrev pub one_before : Label → Row → Option Ground
one_before l row = option_map (λ m. known.Fields (fields_of m)) (with_field l (Some types.unit) (Some row))

module _ (σ : Grounding) where
  rolled_up : (fields : List TyField) (tail : RowTail) → under σ (ty.Fields (roll-TyRow (record { fields = fields; tail = tail })))
      ≡ option_map (λ m. known.Fields (fields_of m)) (before_row (map (field_under σ) fields) (row_tail σ tail))
  rolled_up fields tail = under_fields σ _ ∙ ap (option_map (λ m. known.Fields (fields_of m))) (under_rolled_row σ _)

  unit_under : under σ unit ≡ Some types.unit
  unit_under = rolled_up [] Closed

  one_under : (l : Label) (v : ℕ) → under σ (record_of ((l, unit) ∷ []) (Var v)) ≡ one_before l (σ.rows v)
  one_under l v =
      rolled_up (record { label = l; ty = unit } ∷ []) (Var v)
      ∙ ap (λ f. option_map (λ m. known.Fields (fields_of m)) (with_field f.0 f.1 (Some (σ.rows v)))) (under_field σ _)
      ∙ ap (λ t. option_map (λ m. known.Fields (fields_of m)) (with_field l t (Some (σ.rows v)))) unit_under

-- where the equation of a lack is met, the row lacks the label
pub lacks_sound : (σ : Grounding) (place : Variable → ℕ) (lack : Lack) → IsMet σ (lacks place lack) → IsLacking (moved place σ) lack
lacks_sound σ place lack met = by_test (has_label row lack.label) (sym (one_under σ lack.label (place (variable.Row lack.var))) ∙ met.1)
  where
    row : Row
    row = σ.rows (place (variable.Row lack.var))

    by_test : (b : Bool) → option_map (λ m. known.Fields (fields_of m)) (if b then None else Some (fin.insert row lack.label types.unit)) ≡ Some met.0 → b ≡ false
    by_test true is = cc
    by_test false is = refl

-- where the row lacks the label, the equation is met
pub lacks_complete : (σ : Grounding) (place : Variable → ℕ) (lack : Lack) → IsLacking (moved place σ) lack → IsMet σ (lacks place lack)
lacks_complete σ place lack lacking = (t, is, is)
  where
    row : Row
    row = σ.rows (place (variable.Row lack.var))

    t : Ground
    t = known.Fields (fields_of (fin.insert row lack.label types.unit))

    is : under σ (lacks place lack).left ≡ Some t
    is = one_under σ lack.label (place (variable.Row lack.var)) ∙ ap (λ b. option_map (λ m. known.Fields (fields_of m)) (if b then None else Some (fin.insert row lack.label types.unit))) lacking

-- ---- functions

-- a function's entry in the walk and the one by the rules are the same but for the type of the own one
entries_named : (σ : Grounding) (functions : Named (Entry Ty)) (known_functions : Named (Entry Ground)) (g : Label) → Functions σ functions known_functions
    → option_map (entry_seen (under σ)) (named g functions) ≡ option_map (entry_seen (λ t. Some t)) (named g known_functions)
entries_named σ functions known_functions g are =
    sym (named_seen (entry_seen (under σ)) g functions) ∙ ap (named g) are.same ∙ named_seen (entry_seen (λ t. Some t)) g known_functions

-- no ground type is both `Int` and `Bool`
pub never_met : (σ : Grounding) → IsMet σ (same ty.Int ty.Bool) → ⊥
never_met σ met = apart met.0 (sym (under_int σ) ∙ met.1) (sym (under_bool σ) ∙ met.2)
  where
    apart : (t : Ground) → Some known.Int ≡ Some t → Some known.Bool ≡ Some t → ⊥
    apart t p q = cc

each_lacks_sound : (σ : Grounding) (place : Variable → ℕ) (all : List Lack) → Each (IsMet σ) (map (lacks place) all) → Each (IsLacking (moved place σ)) all
each_lacks_sound σ place [] met = tt
each_lacks_sound σ place (lack ∷ all) met = (lacks_sound σ place lack met.0, each_lacks_sound σ place all met.1)

each_lacks_complete : (σ : Grounding) (place : Variable → ℕ) (all : List Lack) → Each (IsLacking (moved place σ)) all → Each (IsMet σ) (map (lacks place) all)
each_lacks_complete σ place [] lacking = tt
each_lacks_complete σ place (lack ∷ all) lacking = (lacks_complete σ place lack lacking.0, each_lacks_complete σ place all lacking.1)

-- an instance of a scheme with new variables becomes an instance of it
instance_sound : (σ : Grounding) (place : Variable → ℕ) (scheme : Scheme) → Each (IsMet σ) (map (lacks place) scheme.lacks) → IsSome (under σ (renamed place scheme.body))
    → (t : Ground) × (under σ (renamed place scheme.body) ≡ Some t) × IsInstance (moved place σ) scheme t
instance_sound σ place scheme met some =
    let found : (t : Ground) × (under σ (renamed place scheme.body) ≡ Some t) = there_is _ some in
    (found.0, found.1, record { body = sym (under_renamed place σ scheme.body) ∙ found.1; lacks = each_lacks_sound σ place scheme.lacks met })

-- a function where it is used gets a type at which it may be used by the rules
pub used_sound : (σ : Grounding) (functions : Named (Entry Ty)) (known_functions : Named (Entry Ground)) (g : Label) (n : ℕ) → Functions σ functions known_functions
    → Each (IsMet σ) (used (named g functions) n).equations → IsSome (under σ (used (named g functions) n).ty)
    → (t : Ground) × (under σ (used (named g functions) n).ty ≡ Some t) × MayBe known_functions g t
used_sound σ functions known_functions g n are = by_both (named g functions) (named g known_functions) (entries_named σ functions known_functions g are)
  where
    by_both : (o : Option (Entry Ty)) (p : Option (Entry Ground)) → option_map (entry_seen (under σ)) o ≡ option_map (entry_seen (λ t. Some t)) p
        → Each (IsMet σ) (used o n).equations → IsSome (under σ (used o n).ty)
        → (t : Ground) × (under σ (used o n).ty ≡ Some t) × ((entry : Entry Ground) × (p ≡ Some entry) × IsUse entry t)
    by_both None p is met some = absurd (never_met σ met.0)
    by_both (Some e) None is met some = cc
    by_both (Some (One t)) (Some (One u)) is met some = (u, cc, (One u, refl, IsUse.one))
    by_both (Some (One t)) (Some (Many scheme)) is met some = cc
    by_both (Some (Many scheme)) (Some (One u)) is met some = cc
    by_both (Some (Many scheme)) (Some (Many other)) is met some =
        let one : scheme ≡ other = cc in
        let found : (t : Ground) × (under σ (renamed (place_from n scheme) scheme.body) ≡ Some t) × IsInstance (moved (place_from n scheme) σ) scheme t = instance_sound σ (place_from n scheme) scheme met some in
        (found.0, found.1, (Many other, refl, subst (λ z. IsUse (Many z) found.0) one (IsUse.instance found.2)))

-- ---- an instance, letter by letter

-- what the grounding has at the number of a variable
abbrev letter_at : Grounding → ℕ → Letter
letter_at τ v = record { plain = τ.plain v; row = τ.rows v; effects = τ.effects v }

abbrev letters_of : Grounding → List Variable → List Letter
letters_of τ xs = map (λ x. letter_at τ (number_of x)) xs

as_many : (τ : Grounding) (xs : List Variable) → length (letters_of τ xs) ≡ length xs
as_many τ [] = refl
as_many τ (x ∷ xs) = ap suc (as_many τ xs)

-- at number m of σ stands what stands for the variable in τ
abbrev IsAt : Grounding → Grounding → ℕ → Variable → Type 0
IsAt σ τ m x = IsLetter σ m (letter_at τ (number_of x))

standing : (σ τ : Grounding) (x : Variable) (xs : List Variable) (m : ℕ) → Stand σ m (letters_of τ xs) → IsThere xs x → IsAt σ τ (m + position_or_len (same_variable x) xs) x
standing σ τ x [] m stand there = cc
standing σ τ x (y ∷ ys) m stand there = by_test (same_variable x y) refl there (standing σ τ x ys (1 + m) stand.1)
  where
    by_test : (b : Bool) → same_variable x y ≡ b → (b || list_any (same_variable x) ys) ≡ true → (IsThere ys x → IsAt σ τ ((1 + m) + position_or_len (same_variable x) ys) x)
        → IsAt σ τ (m + cond (not b) (1 + position_or_len (same_variable x) ys) 0) x
    by_test true same there later = subst (λ k. IsAt σ τ k x) (sym (add-zero m)) (subst (IsAt σ τ m) (sym (same_is x y same)) stand.0)
    by_test false same there later = let further : (1 + m) + position_or_len (same_variable x) ys ≡ m + (1 + position_or_len (same_variable x) ys) = omega arith in
        subst (λ k. IsAt σ τ k x) further (later there)

module _ (σ τ : Grounding) (n : ℕ) (xs : List Variable) (stand : Stand σ n (letters_of τ xs)) where
  abbrev new : Grounding
  new = moved (place_among n xs) σ

  agree_at : (x : Variable) → IsThere xs x → AgreeAt new τ x
  agree_at (variable.Plain v) there = (standing σ τ (variable.Plain v) xs n stand there).plain
  agree_at (variable.Row v) there = (standing σ τ (variable.Row v) xs n stand there).row
  agree_at (variable.Effects v) there = (standing σ τ (variable.Effects v) xs n stand there).effects

  -- the two agree on variables that are there
  agree_all : (ys : List Variable) → Each (IsThere xs) ys → Each (AgreeAt new τ) ys
  agree_all [] there = tt
  agree_all (y ∷ ys) there = (agree_at y there.0, agree_all ys there.1)

  -- what lacks a label in one lacks it in the other
  lacking_all : (all : List Lack) → Each (IsThere xs) (map (λ lack. variable.Row lack.var) all) → Each (IsLacking τ) all → Each (IsLacking new) all
  lacking_all [] there lacking = tt
  lacking_all (lack ∷ all) there lacking =
      (ap (λ row. has_label row lack.label) (agree_at (variable.Row lack.var) there.0) ∙ lacking.0, lacking_all all there.1 lacking.1)

-- with these letters the new instance becomes that one
instance_complete : (σ τ : Grounding) (n : ℕ) (scheme : Scheme) (t : Ground) → Stand σ n (letters_of τ (firsts (scheme_variables scheme))) → IsInstance τ scheme t
    → OwnMet σ (own (renamed (place_from n scheme) scheme.body) (map (lacks (place_from n scheme)) scheme.lacks) (width scheme + n)) (length (letters_of τ (firsts (scheme_variables scheme))) + n) t
instance_complete σ τ n scheme t stand instance =
    let body : List Variable = variables_of scheme.body in
    let lacking : List Variable = map (λ lack. variable.Row lack.var) scheme.lacks in
    let xs : List Variable = firsts (body ++ lacking) in
    let there : Each (IsThere xs) (body ++ lacking) = firsts_have (body ++ lacking) in
    record {
      next = ap (λ many. many + n) (sym (as_many τ xs));
      equations = each_lacks_complete σ (place_from n scheme) scheme.lacks (lacking_all σ τ n xs stand scheme.lacks (each_back (IsThere xs) body lacking there) instance.lacks);
      ty = under_renamed (place_from n scheme) σ scheme.body ∙ agrees (moved (place_from n scheme) σ) τ scheme.body (agree_all σ τ n xs stand body (each_front (IsThere xs) body lacking there)) ∙ instance.body;
    }

own_named : (σ : Grounding) (functions : Named (Entry Ty)) (known_functions : Named (Entry Ground)) (g : Label) (t : Ground) → Functions σ functions known_functions
    → named g known_functions ≡ Some (One t) → (own_type : Ty) × (named g functions ≡ Some (One own_type)) × (under σ own_type ≡ Some t)
own_named σ functions known_functions g t are is = by_entry (named g functions) (entries_named σ functions known_functions g are ∙ ap (option_map (entry_seen (λ u. Some u))) is)
  where
    by_entry : (o : Option (Entry Ty)) → option_map (entry_seen (under σ)) o ≡ Some (One (Some t)) → (own_type : Ty) × (o ≡ Some (One own_type)) × (under σ own_type ≡ Some t)
    by_entry None same = cc
    by_entry (Some (One u)) same = (u, refl, cc)
    by_entry (Some (Many scheme)) same = cc

scheme_named : (σ : Grounding) (functions : Named (Entry Ty)) (known_functions : Named (Entry Ground)) (g : Label) (scheme : Scheme) → Functions σ functions known_functions
    → named g known_functions ≡ Some (Many scheme) → named g functions ≡ Some (Many scheme)
scheme_named σ functions known_functions g scheme are is = by_entry (named g functions) (entries_named σ functions known_functions g are ∙ ap (option_map (entry_seen (λ u. Some u))) is)
  where
    by_entry : (o : Option (Entry Ty)) → option_map (entry_seen (under σ)) o ≡ Some (Many scheme) → o ≡ Some (Many scheme)
    by_entry None same = cc
    by_entry (Some (One u)) same = cc
    by_entry (Some (Many other)) same = let one : other ≡ scheme = cc in ap (λ z. Some (Many z)) one

-- a function that may be used at a type gets it in the walk, where the new variables stand for the right letters
pub used_complete : (known_functions : Named (Entry Ground)) (g : Label) (t : Ground) → MayBe known_functions g t
    → (ls : List Letter) × ((σ : Grounding) (functions : Named (Entry Ty)) (n : ℕ) → Functions σ functions known_functions → Stand σ n ls
    → OwnMet σ (used (named g functions) n) (length ls + n) t)
used_complete known_functions g t may = by_use may.0 may.1 may.2
  where
    by_use : (entry : Entry Ground) → named g known_functions ≡ Some entry → IsUse entry t
        → (ls : List Letter) × ((σ : Grounding) (functions : Named (Entry Ty)) (n : ℕ) → Functions σ functions known_functions → Stand σ n ls
        → OwnMet σ (used (named g functions) n) (length ls + n) t)
    by_use entry is IsUse.one = (
      [],
      λ σ functions n are stand.
          let found : (own_type : Ty) × (named g functions ≡ Some (One own_type)) × (under σ own_type ≡ Some t) = own_named σ functions known_functions g t are is in
          subst (λ o. OwnMet σ (used o n) (0 + n) t) (sym found.1) (record { next = omega arith; equations = tt; ty = found.2 }),
    )
    by_use entry is (IsUse.instance {τ} {scheme} instance) = (
      letters_of τ (firsts (scheme_variables scheme)),
      λ σ functions n are stand.
          subst (λ o. OwnMet σ (used o n) (length (letters_of τ (firsts (scheme_variables scheme))) + n) t) (sym (scheme_named σ functions known_functions g scheme are is))
          (instance_complete σ τ n scheme t stand instance),
    )
