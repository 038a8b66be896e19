-- Where the rule of an operator gives a type, its equations hold: all operators.
use Rattle.std.proofs.Common.{◌≡◌, ℕ, ◌+◌, List, [], ◌∷◌, ◌++◌, length, sym, subst, Some}
use Rattle.lk_ast.specs.declared.declaration.TableDecl.{TableDecl}
use Rattle.lk_types.specs.Each.{Each}
use Rattle.lk_types.specs.Grounding.{Grounding, under}
use Rattle.lk_types.specs.Rows.{Label, EffectSet}
use Rattle.lk_types.specs.declared.ground.Ground.{Ground}
use Rattle.lk_types.specs.declared.ground.Ground.TheVariants as known
use Rattle.lk_types.specs.declared.ty.Effect.{Effect}
use Rattle.lk_types.specs.declared.ty.Effect.TheVariants as effect
use Rattle.lk_types.specs.declared.ty.Effects.{Effects}
use Rattle.lk_types.specs.declared.ty.Ty.{Ty}
use Rattle.lk_typing.proofs.EffectRows.{without}
use Rattle.lk_typing.proofs.Instances.{used_complete}
use Rattle.lk_typing.proofs.Complete.Labels.{record_complete, extend_complete, project_complete, tag_complete, table_complete, insert_complete, name_complete, call_complete}
use Rattle.lk_typing.proofs.Lists.{stand_front, stand_back}
use Rattle.lk_typing.proofs.Meaning as letter
use Rattle.lk_typing.proofs.Meaning.{HasEffects, Functions, Names, Letter, Stand, OwnMet}
use Rattle.lk_typing.proofs.Operators.{types_none, types_first, types_one, types_two, types_three}
use Rattle.lk_typing.proofs.Complete.Simple.{literal_complete, seq_complete, branch_complete, logic_complete, concat_complete, arithmetic_complete, comparison_complete, negation_complete, not_complete, append_complete, empty_complete, where_complete, items_none_complete, items_complete, division_complete, cons_complete, first_complete, rest_complete, int_to_string_complete, print_complete, apply_complete}
use Rattle.lk_typing.specs.Equations.{equations_of, used}
use Rattle.lk_typing.specs.Heads as head
use Rattle.lk_typing.specs.Heads.{Head}
use Rattle.lk_typing.specs.Law.{Become}
use Rattle.lk_typing.specs.Names.{Named, named, Entry, MayBe}
use Rattle.lk_typing.specs.Rules.{Rule}
use Rattle.lk_typing.specs.Types.{base, unit, record_of, variant_of, function_of}

module _ (known_functions : Named (Entry Ground)) (tables : List TableDecl) (known_names : Named Ground) (s : EffectSet) where
  -- what is said at these types of the parts holds, and the whole gets this type
  abbrev Holds : (Grounding → Named (Entry Ty) → Named Ty → Effects → ℕ → Type 0) → List Letter → Type 0
  Holds Met ls = (σ : Grounding) (functions : Named (Entry Ty)) (names : Named Ty) (effects : Effects) (n : ℕ)
      → Functions σ functions known_functions → Names σ names known_names → HasEffects σ effects s → Stand σ n ls → Met σ functions names effects n

  -- there are letters for the new variables so that the equations of the operator hold and it gets this type
  abbrev Completes : Head → List Ground → Ground → Type 0
  Completes h ts t = (ls : List Letter)
      × ((σ : Grounding) (functions : Named (Entry Ty)) (names : Named Ty) (effects : Effects) (types : List Ty) (n : ℕ)
      → Functions σ functions known_functions → Names σ names known_names → HasEffects σ effects s → Become σ types ts → Stand σ n ls
      → OwnMet σ (equations_of functions tables names effects h types n) (length ls + n) t)

  -- ---- by the number of parts

  module _ (h : Head) (ls : List Letter) (t : Ground) where
    at_none : Holds (λ σ functions names effects n. OwnMet σ (equations_of functions tables names effects h [] n) (length ls + n) t) ls → Completes h [] t
    at_none holds = (
      ls,
      λ σ functions names effects types n fs ns es become stand.
          subst (λ types. OwnMet σ (equations_of functions tables names effects h types n) (length ls + n) t) (sym (types_none σ types become)) (holds σ functions names effects n fs ns es stand),
    )

    at_one : (x : Ground)
        → Holds (λ σ functions names effects n. (a : Ty) → under σ a ≡ Some x → OwnMet σ (equations_of functions tables names effects h (a ∷ []) n) (length ls + n) t) ls
        → Completes h (x ∷ []) t
    at_one x holds = (
      ls,
      λ σ functions names effects types n fs ns es become stand.
          types_one σ (λ types. OwnMet σ (equations_of functions tables names effects h types n) (length ls + n) t) types x become (holds σ functions names effects n fs ns es stand),
    )

    at_two : (x y : Ground)
        → Holds (λ σ functions names effects n. (a b : Ty) → under σ a ≡ Some x → under σ b ≡ Some y → OwnMet σ (equations_of functions tables names effects h (a ∷ b ∷ []) n) (length ls + n) t) ls
        → Completes h (x ∷ y ∷ []) t
    at_two x y holds = (
      ls,
      λ σ functions names effects types n fs ns es become stand.
          types_two σ (λ types. OwnMet σ (equations_of functions tables names effects h types n) (length ls + n) t) types x y become (holds σ functions names effects n fs ns es stand),
    )

    at_three : (x y z : Ground)
        → Holds (λ σ functions names effects n. (a b c : Ty) → under σ a ≡ Some x → under σ b ≡ Some y → under σ c ≡ Some z
        → OwnMet σ (equations_of functions tables names effects h (a ∷ b ∷ c ∷ []) n) (length ls + n) t) ls
        → Completes h (x ∷ y ∷ z ∷ []) t
    at_three x y z holds = (
      ls,
      λ σ functions names effects types n fs ns es become stand.
          types_three σ (λ types. OwnMet σ (equations_of functions tables names effects h types n) (length ls + n) t) types x y z become (holds σ functions names effects n fs ns es stand),
    )

    -- a first part and any number of others
    at_first : (x : Ground) (xs : List Ground)
        → Holds (λ σ functions names effects n. (a : Ty) (more : List Ty) → under σ a ≡ Some x → Become σ more xs
        → OwnMet σ (equations_of functions tables names effects h (a ∷ more) n) (length ls + n) t) ls
        → Completes h (x ∷ xs) t
    at_first x xs holds = (
      ls,
      λ σ functions names effects types n fs ns es become stand.
          types_first σ (λ types. OwnMet σ (equations_of functions tables names effects h types n) (length ls + n) t) types x xs become (holds σ functions names effects n fs ns es stand),
    )

  -- ---- functions, and lists of any length

  function_completes : (g : Label) (t : Ground) → MayBe known_functions g t → Completes (head.Function g) [] t
  function_completes g t may =
      let found : (ls : List Letter) × ((σ : Grounding) (functions : Named (Entry Ty)) (n : ℕ) → Functions σ functions known_functions → Stand σ n ls
      → OwnMet σ (used (named g functions) n) (length ls + n) t) = used_complete known_functions g t may in
      at_none (head.Function g) found.0 t (λ σ functions names effects n fs ns es stand. found.1 σ functions n fs stand)

  call_completes : (g : Label) (ts : List Ground) (a : Ground) → MayBe known_functions g (function_of ts s a) → Completes (head.Call g) ts a
  call_completes g ts a may =
      let found : (ls : List Letter) × ((σ : Grounding) (functions : Named (Entry Ty)) (n : ℕ) → Functions σ functions known_functions → Stand σ n ls
      → OwnMet σ (used (named g functions) n) (length ls + n) (function_of ts s a)) = used_complete known_functions g (function_of ts s a) may in
      let last : List Letter = letter.plain a ∷ [] in (
        found.0 ++ last,
        λ σ functions names effects types n fs ns es become stand.
            call_complete σ n effects s types ts a (used (named g functions) n) found.0 es become
            (found.1 σ functions n fs (stand_front σ found.0 last n stand)) (stand_back σ found.0 last n stand),
      )

  items_completes : (a : Ground) (ts : List Ground) → Each (λ t. t ≡ a) ts → Completes head.Items ts (known.List a)
  items_completes a [] each =
      at_none head.Items (letter.plain a ∷ []) (known.List a) (λ σ functions names effects n fs ns es stand. items_none_complete σ n a stand)
  items_completes a (t ∷ ts) each =
      at_first head.Items [] (known.List a) t ts (λ σ functions names effects n fs ns es stand u more ut rest.
      items_complete σ n u more a ts (subst (λ g. under σ u ≡ Some g) each.0 ut) rest each.1)

  -- ---- all rules

  abbrev others : Effect → Letter
  others e = letter.effects (without e s)

  by_rule : (h : Head) (ts : List Ground) (t : Ground) → Rule known_functions tables known_names s h ts t → Completes h ts t
  by_rule h ts t (Rule.literal {kind}) =
      at_none (head.Literal kind) [] (base kind) (λ σ functions names effects n fs ns es stand. literal_complete σ n kind)
  by_rule h ts t (Rule.local {x} {t = g} is) =
      at_none (head.Local x) [] g (λ σ functions names effects n fs ns es stand. name_complete σ n names known_names x g ns is)
  by_rule h ts t (Rule.function {g} {t = a} may) = function_completes g a may
  by_rule h ts t (Rule.call {g} {ts = params} {a} may) = call_completes g params a may
  by_rule h ts t (Rule.apply {ts = params} {a} there) =
      at_first head.Apply (letter.plain a ∷ others effect.Local ∷ []) a (function_of params s a) params (λ σ functions names effects n fs ns es stand u more ux rest.
      apply_complete σ n effects s es u more params a stand there ux rest)
  by_rule h ts t (Rule.seq {t = y}) =
      at_two head.Seq [] y unit y (λ σ functions names effects n fs ns es stand a b ax by. seq_complete σ n a b y ax by)
  by_rule h ts t (Rule.branch {t = y}) =
      at_three head.If [] y known.Bool y y (λ σ functions names effects n fs ns es stand a b c ax by cz. branch_complete σ n a b c y ax by cz)
  by_rule h ts t Rule.logic =
      at_two head.Logic [] known.Bool known.Bool known.Bool (λ σ functions names effects n fs ns es stand a b ax by. logic_complete σ n a b ax by)
  by_rule h ts t Rule.concat =
      at_two head.Concat [] known.Text known.Text known.Text (λ σ functions names effects n fs ns es stand a b ax by. concat_complete σ n a b ax by)
  by_rule h ts t (Rule.append x) =
      at_two head.Append (letter.plain x ∷ []) (known.List x) (known.List x) (known.List x) (λ σ functions names effects n fs ns es stand a b ax by. append_complete σ n a b x stand ax by)
  by_rule h ts t (Rule.cons {a = x} there) =
      at_two head.Cons (others effect.Local ∷ []) (known.List x) x (known.List x) (λ σ functions names effects n fs ns es stand a b ax by. cons_complete σ n effects s es a b x stand there ax by)
  by_rule h ts t Rule.arithmetic =
      at_two head.Arithmetic [] known.Int known.Int known.Int (λ σ functions names effects n fs ns es stand a b ax by. arithmetic_complete σ n a b ax by)
  by_rule h ts t (Rule.division there) =
      at_two head.Division (others effect.Trap ∷ []) known.Int known.Int known.Int (λ σ functions names effects n fs ns es stand a b ax by. division_complete σ n effects s es a b stand there ax by)
  by_rule h ts t (Rule.comparison {t = x}) =
      at_two head.Comparison [] known.Bool x x (λ σ functions names effects n fs ns es stand a b ax by. comparison_complete σ n a b x ax by)
  by_rule h ts t Rule.negation =
      at_one head.Negation [] known.Int known.Int (λ σ functions names effects n fs ns es stand a ax. negation_complete σ n a ax)
  by_rule h ts t Rule.not =
      at_one head.Not [] known.Bool known.Bool (λ σ functions names effects n fs ns es stand a ax. not_complete σ n a ax)
  by_rule h ts t (Rule.first {a = x} trap local) =
      at_one head.First (letter.plain x ∷ others effect.Trap ∷ others effect.Local ∷ []) x (known.List x) (λ σ functions names effects n fs ns es stand a ax.
      first_complete σ n effects s es a x stand trap local ax)
  by_rule h ts t (Rule.rest x trap local) =
      at_one head.Rest (letter.plain x ∷ others effect.Trap ∷ others effect.Local ∷ []) (known.List x) (known.List x) (λ σ functions names effects n fs ns es stand a ax.
      rest_complete σ n effects s es a x stand trap local ax)
  by_rule h ts t (Rule.empty x) =
      at_one head.Empty (letter.plain x ∷ []) known.Bool (known.List x) (λ σ functions names effects n fs ns es stand a ax. empty_complete σ n a x stand ax)
  by_rule h ts t (Rule.int_to_string there) =
      at_one head.IntToString (others effect.Local ∷ []) known.Text known.Int (λ σ functions names effects n fs ns es stand a ax. int_to_string_complete σ n effects s es a stand there ax)
  by_rule h ts t (Rule.print there) =
      at_one head.Print (others effect.Print ∷ []) unit known.Text (λ σ functions names effects n fs ns es stand a ax. print_complete σ n effects s es a stand there ax)
  by_rule h ts t (Rule.closed_record {labels} {ts = parts} fields row at is) =
      ([], λ σ functions names effects types n fs ns es become stand. record_complete σ n labels types parts fields row become at is)
  by_rule h ts t (Rule.extend {labels} {ts = parts} fields other row at is) =
      (letter.row other ∷ [], λ σ functions names effects types n fs ns es become stand. extend_complete σ n labels types parts fields other row become at is stand)
  by_rule h ts t (Rule.items a {ts = parts} each) = items_completes a parts each
  by_rule h ts t (Rule.project {l} {a = x} other row is) =
      at_one (head.Project l) (letter.plain x ∷ letter.row other ∷ []) x (record_of row) (λ σ functions names effects n fs ns es stand a ax. project_complete σ n l a x other row is stand ax)
  by_rule h ts t (Rule.tag {l} {t = x} other row is) =
      at_one (head.Tag l) (letter.row other ∷ []) (variant_of row) x (λ σ functions names effects n fs ns es stand a ax. tag_complete σ n l a x other row is stand ax)
  by_rule h ts t (Rule.table {x} row has_rows there) =
      at_none (head.Table x) (others effect.Scan ∷ []) (known.List (record_of row)) (λ σ functions names effects n fs ns es stand. table_complete σ n tables effects s es x row has_rows there stand)
  by_rule h ts t (Rule.filter x) =
      at_two head.Where (letter.plain x ∷ []) (known.List x) known.Bool (known.List x) (λ σ functions names effects n fs ns es stand a b ax by. where_complete σ n a b x stand ax by)
  by_rule h ts t (Rule.insert {x} row has_rows there) =
      at_one (head.Insert x) (others effect.Write ∷ []) unit (known.List (record_of row)) (λ σ functions names effects n fs ns es stand a ax.
      insert_complete σ n tables effects s es x a row has_rows there stand ax)

-- where the rule of an operator gives a type, there are letters for the new variables so that its equations hold and it gets that type
pub operator_complete : (known_functions : Named (Entry Ground)) (tables : List TableDecl) (known_names : Named Ground) (s : EffectSet) (h : Head) (ts : List Ground) (t : Ground)
    → Rule known_functions tables known_names s h ts t
    → (ls : List Letter)
    × ((σ : Grounding) (functions : Named (Entry Ty)) (names : Named Ty) (effects : Effects) (types : List Ty) (n : ℕ)
    → Functions σ functions known_functions → Names σ names known_names → HasEffects σ effects s → Become σ types ts → Stand σ n ls
    → OwnMet σ (equations_of functions tables names effects h types n) (length ls + n) t)
operator_complete known_functions tables known_names s h ts t rule = by_rule known_functions tables known_names s h ts t rule
