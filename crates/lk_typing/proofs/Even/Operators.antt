-- What is said of an operator over its parts is even where the parts are.
use Rattle.std.proofs.Common.{◌≡◌, ℕ, ◌+◌, List, [], ◌∷◌, map, refl, subst, Option, Some, None}
use native.Mathlib.Omega.{arith}
use Rattle.std.specs.Option.{option_map}
use Rattle.lk_ast.specs.declared.declaration.TableDecl.{TableDecl}
use Rattle.lk_types.proofs.Members.{each_both}
use Rattle.lk_types.specs.Each.{Each}
use Rattle.lk_types.specs.Rows.{Label, EffectSet, no_effects, same_effect}
use Rattle.lk_types.specs.declared.ty.Effect.{Effect}
use Rattle.lk_types.specs.declared.ty.Effect.TheVariants as effect
use Rattle.lk_types.specs.declared.ty.Effects.{Effects}
use Rattle.lk_types.specs.declared.ty.RowTail.TheVariants.{Closed, Var}
use Rattle.lk_types.specs.declared.ty.Ty.{Ty}
use Rattle.lk_types.specs.declared.ty.Ty.TheVariants as ty
use Rattle.lk_typing.proofs.Even.Found.{Before, Stays, Found, mapped, weaker, follow, any_sets}
use Rattle.lk_typing.proofs.Even.Instances.{used_found}
use Rattle.lk_typing.proofs.Even.Nodes.{IsEvenEntry, IfThere, if_named, Context, EvenOwn, own_found}
use Rattle.lk_typing.proofs.Even.Types.{AreEvenTypes, AreEvenNames, IsEvenEquation, even_int, even_bool, even_text, even_variable, even_list, even_base, even_record, even_variant, even_unit, even_row_of, even_function, even_has}
use Rattle.lk_typing.specs.EffectRows.{IsEven}
use Rattle.lk_typing.specs.Equations.{Own, own, never, local, used, called, closed_record, extended, rows, inserted, equations_of}
use Rattle.lk_typing.specs.Heads as head
use Rattle.lk_typing.specs.Heads.{Head}
use Rattle.lk_typing.specs.Names.{Named, named, Entry, table_named}
use Rattle.lk_typing.specs.Types.{labelled}
use Rattle.lk_typing.specs.Unknowns.{base, record_of, row_of, same, has}

-- ---- labels

-- what stands under labels is even, and what is left
abbrev pub IsEvenLabelled : Before → List (Label × Ty) × List Ty → Type 0
IsEvenLabelled c found = AreEvenNames c found.0 × AreEvenTypes c found.1

pub labelled_even : (c : Before) (labels : List Label) (ts : List Ty) → AreEvenTypes c ts → IfThere (IsEvenLabelled c) (labelled labels ts)
labelled_even c [] ts even = (tt, even)
labelled_even c (l ∷ ls) [] even = tt
labelled_even c (l ∷ ls) (t ∷ ts) even = by_rest (labelled ls ts) (labelled_even c ls ts even.1)
  where
    by_rest : (o : Option (List (Label × Ty) × List Ty)) → IfThere (IsEvenLabelled c) o → IfThere (IsEvenLabelled c) (option_map (λ found. ((l, t) ∷ found.0, found.1)) o)
    by_rest None rest = tt
    by_rest (Some found) rest = ((even.0, rest.0), rest.1)

-- ---- what is the same for all operators

pub never_even : (c : Before) (n : ℕ) → EvenOwn (never n) c
never_even c n = record { is = even_unit c; equations = ((even_int c, even_bool c), tt) }

pub all_same : (c : Before) (t : Ty) (ts : List Ty) → IsEven c t → AreEvenTypes c ts → Each (IsEvenEquation c) (map (λ later. same later t) ts)
all_same c t [] one even = tt
all_same c t (u ∷ us) one even = ((even.0, one), all_same c t us one even.1)

module _ (functions : Named (Entry Ty)) (tables : List TableDecl) (names : Named Ty) (effects : Effects) where
  -- what is given to an operator
  pub record Given (ts : List Ty) (c : Before) : Type 0 where
    pub context : Context functions names effects c
    pub parts : AreEvenTypes c ts

  module _ (n : ℕ) (b : Before) where
    -- without new numbers
    plain_found : {ts : List Ty} (o : Own) → o.next ≡ n → Stays n b (Given ts) → ((c : Before) → Given ts c → EvenOwn o c) → Found n b o.next (EvenOwn o)
    plain_found o is known own = own_found [] o n b (omega arith) known (λ c given none. own c given)

    never_found : {ts : List Ty} → Stays n b (Given ts) → Found n b n (EvenOwn (never n))
    never_found known = plain_found (never n) refl known (λ c given. never_even c n)

    local_found : (o : Option Ty) → Stays n b (λ c. IfThere (IsEven c) o) → Found n b (local o n).next (EvenOwn (local o n))
    local_found None known = own_found [] (never n) n b (omega arith) known (λ c given none. never_even c n)
    local_found (Some t) known = own_found [] (own t [] n) n b (omega arith) known (λ c given none. record { is = given; equations = tt })

    function_found : (g : Label) (ts : List Ty) → Stays n b (Given ts) → Found n b (used (named g functions) n).next (EvenOwn (used (named g functions) n))
    function_found g ts known = used_found (named g functions) n b (weaker known (λ c given. if_named (IsEvenEntry c) g functions given.context.entries))

    call_found : (g : Label) (ts : List Ty) → Stays n b (Given ts) → Found n b (called effects ts (used (named g functions) n)).next (EvenOwn (called effects ts (used (named g functions) n)))
    call_found g ts known =
        let f : Own = used (named g functions) n in
        mapped (follow known (function_found g ts known) (λ c more. any_sets f.next (1 + f.next) c (omega arith))) (λ c all. (
        let given : Given ts c = all.0.0 in
        let function : EvenOwn f c = all.0.1 in
        let answer : IsEven c (ty.Var f.next) = even_variable c f.next in
        record { is = answer; equations = each_both (IsEvenEquation c) f.equations (same f.ty (ty.Fun ts effects (ty.Var f.next)) ∷ []) function.equations ((function.is, even_function c ts effects (ty.Var f.next) given.parts given.context.row answer), tt) }))

    -- ---- records and tables

    record_found : (o : Option (List (Label × Ty) × List Ty)) → Stays n b (λ c. IfThere (IsEvenLabelled c) o) → Found n b (closed_record o n).next (EvenOwn (closed_record o n))
    record_found None known = own_found [] (never n) n b (omega arith) known (λ c given none. never_even c n)
    record_found (Some (fields, [])) known = own_found [] (closed_record (Some (fields, [])) n) n b (omega arith) known (λ c given none. record { is = even_record c fields Closed given.0; equations = tt })
    record_found (Some (fields, t ∷ ts)) known = own_found [] (never n) n b (omega arith) known (λ c given none. never_even c n)

    extend_found : (o : Option (List (Label × Ty) × List Ty)) → Stays n b (λ c. IfThere (IsEvenLabelled c) o) → Found n b (extended o n).next (EvenOwn (extended o n))
    extend_found None known = own_found [] (never n) n b (omega arith) known (λ c given none. never_even c n)
    extend_found (Some (fields, [])) known = own_found [] (never n) n b (omega arith) known (λ c given none. never_even c n)
    extend_found (Some (fields, t ∷ [])) known = own_found (no_effects ∷ []) (extended (Some (fields, t ∷ [])) n) n b refl known (λ c given sets. (
        let all : IsEven c (record_of fields (Var n)) = even_record c fields (Var n) given.0 in
        record { is = all; equations = ((given.1.0, even_record c [] (Var n) tt), ((all, all), tt)) }))
    extend_found (Some (fields, t ∷ u ∷ ts)) known = own_found [] (never n) n b (omega arith) known (λ c given none. never_even c n)

    rows_found : {ts : List Ty} (o : Option TableDecl) → Stays n b (Given ts) → Found n b (rows o effects n).next (EvenOwn (rows o effects n))
    rows_found None known = never_found known
    rows_found (Some table) known = own_found (same_effect effect.Scan ∷ []) (rows (Some table) effects n) n b refl known (λ c given sets. record {
      is = even_list c (row_of table) (even_row_of c table);
      equations = (even_has c effects effect.Scan n given.context.row sets.0, tt);
    })

    insert_found : {ts : List Ty} (o : Option TableDecl) (t : Ty) → Stays n b (Given (t ∷ ts)) → Found n b (inserted o effects t n).next (EvenOwn (inserted o effects t n))
    insert_found None t known = never_found known
    insert_found (Some table) t known = own_found (same_effect effect.Write ∷ []) (inserted (Some table) effects t n) n b refl known (λ c given sets. record {
      is = even_unit c;
      equations = ((given.parts.0, even_list c (row_of table) (even_row_of c table)), (even_has c effects effect.Write n given.context.row sets.0, tt));
    })

    -- ---- all of them

    -- an equation between a type and a list of new elements, which is even
    list_of_new : (c : Before) (t : Ty) → IsEven c t → IsEvenEquation c (same t (ty.List (ty.Var n)))
    list_of_new c t even = (even, even_list c (ty.Var n) (even_variable c n))

    third : (c : Before) (s : EffectSet) → c (1 + (1 + n)) ≡ s → c (2 + n) ≡ s
    third c s is = let two : 1 + (1 + n) ≡ 2 + n = omega arith in subst (λ k. c k ≡ s) two is

    has_second : (c : Before) (e : Effect) {ts : List Ty} → Given ts c → c (1 + n) ≡ same_effect e → IsEvenEquation c (has effects e (1 + n))
    has_second c e given is = even_has c effects e (1 + n) given.context.row is

    has_first : (c : Before) (e : Effect) {ts : List Ty} → Given ts c → c n ≡ same_effect e → IsEvenEquation c (has effects e n)
    has_first c e given is = even_has c effects e n given.context.row is

    -- a new element, and two effects
    first_found : (a : Ty) (answer : Ty) → Stays n b (Given (a ∷ [])) → ((c : Before) → IsEven c answer)
        → Found n b (3 + n) (EvenOwn (own answer (same a (ty.List (ty.Var n)) ∷ has effects effect.Trap (1 + n) ∷ has effects effect.Local (2 + n) ∷ []) (3 + n)))
    first_found a answer known is =
        own_found (no_effects ∷ same_effect effect.Trap ∷ same_effect effect.Local ∷ []) (own answer (same a (ty.List (ty.Var n)) ∷ has effects effect.Trap (1 + n) ∷ has effects effect.Local (2 + n) ∷ []) (3 + n)) n b (omega arith) known (λ c given sets. record {
          is = is c;
          equations = (list_of_new c a given.parts.0, (has_second c effect.Trap given sets.1.0, (even_has c effects effect.Local (2 + n) given.context.row (third c (same_effect effect.Local) sets.1.1.0), tt)));
        })

    -- what is said of an operator is even where its parts are
    pub operator_found : (h : Head) (ts : List Ty) → Stays n b (Given ts)
        → Found n b (equations_of functions tables names effects h ts n).next (EvenOwn (equations_of functions tables names effects h ts n))
    operator_found (head.Literal kind) [] known = plain_found (own (base kind) [] n) refl known (λ c given. record { is = even_base c kind; equations = tt })
    operator_found (head.Local x) [] known = local_found (named x names) (weaker known (λ c given. if_named (IsEven c) x names given.context.locals))
    operator_found (head.Function g) [] known = function_found g [] known
    operator_found (head.Call g) ts known = call_found g ts known
    operator_found head.Apply (t ∷ ts) known =
        own_found (no_effects ∷ same_effect effect.Local ∷ []) (equations_of functions tables names effects head.Apply (t ∷ ts) n) n b (omega arith) known (λ c given sets. record {
          is = even_variable c n;
          equations = ((given.parts.0, even_function c ts effects (ty.Var n) given.parts.1 given.context.row (even_variable c n)), (has_second c effect.Local given sets.1.0, tt));
        })
    operator_found head.Seq (x ∷ y ∷ []) known = plain_found (equations_of functions tables names effects head.Seq (x ∷ y ∷ []) n) refl known (λ c given. record { is = given.parts.1.0; equations = ((given.parts.0, even_unit c), tt) })
    operator_found head.If (x ∷ y ∷ z ∷ []) known = plain_found (equations_of functions tables names effects head.If (x ∷ y ∷ z ∷ []) n) refl known (λ c given. record {
      is = given.parts.1.0;
      equations = ((given.parts.0, even_bool c), ((given.parts.1.0, given.parts.1.1.0), tt));
    })
    operator_found head.Logic (x ∷ y ∷ []) known = plain_found (equations_of functions tables names effects head.Logic (x ∷ y ∷ []) n) refl known (λ c given. record { is = even_bool c; equations = ((given.parts.0, even_bool c), ((given.parts.1.0, even_bool c), tt)) })
    operator_found head.Concat (x ∷ y ∷ []) known = plain_found (equations_of functions tables names effects head.Concat (x ∷ y ∷ []) n) refl known (λ c given. record { is = even_text c; equations = ((given.parts.0, even_text c), ((given.parts.1.0, even_text c), tt)) })
    operator_found head.Append (x ∷ y ∷ []) known = own_found (no_effects ∷ []) (equations_of functions tables names effects head.Append (x ∷ y ∷ []) n) n b refl known (λ c given sets. record {
      is = given.parts.0;
      equations = (list_of_new c x given.parts.0, ((given.parts.1.0, given.parts.0), tt));
    })
    operator_found head.Cons (x ∷ y ∷ []) known = own_found (same_effect effect.Local ∷ []) (equations_of functions tables names effects head.Cons (x ∷ y ∷ []) n) n b refl known (λ c given sets. record {
      is = given.parts.1.0;
      equations = ((given.parts.1.0, even_list c x given.parts.0), (has_first c effect.Local given sets.0, tt));
    })
    operator_found head.Arithmetic (x ∷ y ∷ []) known = plain_found (equations_of functions tables names effects head.Arithmetic (x ∷ y ∷ []) n) refl known (λ c given. record { is = even_int c; equations = ((given.parts.0, even_int c), ((given.parts.1.0, even_int c), tt)) })
    operator_found head.Division (x ∷ y ∷ []) known = own_found (same_effect effect.Trap ∷ []) (equations_of functions tables names effects head.Division (x ∷ y ∷ []) n) n b refl known (λ c given sets. record {
      is = even_int c;
      equations = ((given.parts.0, even_int c), ((given.parts.1.0, even_int c), (has_first c effect.Trap given sets.0, tt)));
    })
    operator_found head.Comparison (x ∷ y ∷ []) known = plain_found (equations_of functions tables names effects head.Comparison (x ∷ y ∷ []) n) refl known (λ c given. record { is = even_bool c; equations = ((given.parts.0, given.parts.1.0), tt) })
    operator_found head.Negation (x ∷ []) known = plain_found (equations_of functions tables names effects head.Negation (x ∷ []) n) refl known (λ c given. record { is = even_int c; equations = ((given.parts.0, even_int c), tt) })
    operator_found head.Not (x ∷ []) known = plain_found (equations_of functions tables names effects head.Not (x ∷ []) n) refl known (λ c given. record { is = even_bool c; equations = ((given.parts.0, even_bool c), tt) })
    operator_found head.First (x ∷ []) known = first_found x (ty.Var n) known (λ c. even_variable c n)
    operator_found head.Rest (x ∷ []) known = first_found x (ty.List (ty.Var n)) known (λ c. even_list c (ty.Var n) (even_variable c n))
    operator_found head.Empty (x ∷ []) known = own_found (no_effects ∷ []) (equations_of functions tables names effects head.Empty (x ∷ []) n) n b refl known (λ c given sets. record { is = even_bool c; equations = (list_of_new c x given.parts.0, tt) })
    operator_found head.IntToString (x ∷ []) known = own_found (same_effect effect.Local ∷ []) (equations_of functions tables names effects head.IntToString (x ∷ []) n) n b refl known (λ c given sets. record {
      is = even_text c;
      equations = ((given.parts.0, even_int c), (has_first c effect.Local given sets.0, tt));
    })
    operator_found head.Print (x ∷ []) known = own_found (same_effect effect.Print ∷ []) (equations_of functions tables names effects head.Print (x ∷ []) n) n b refl known (λ c given sets. record {
      is = even_unit c;
      equations = ((given.parts.0, even_text c), (has_first c effect.Print given sets.0, tt));
    })
    operator_found (head.Record labels) ts known = record_found (labelled labels ts) (weaker known (λ c given. labelled_even c labels ts given.parts))
    operator_found (head.Extend labels) ts known = extend_found (labelled labels ts) (weaker known (λ c given. labelled_even c labels ts given.parts))
    operator_found head.Items [] known = own_found (no_effects ∷ []) (equations_of functions tables names effects head.Items [] n) n b refl known (λ c given sets. record { is = even_list c (ty.Var n) (even_variable c n); equations = tt })
    operator_found head.Items (t ∷ ts) known = plain_found (equations_of functions tables names effects head.Items (t ∷ ts) n) refl known (λ c given. record { is = even_list c t given.parts.0; equations = all_same c t ts given.parts.0 given.parts.1 })
    operator_found (head.Project l) (x ∷ []) known = own_found (no_effects ∷ no_effects ∷ []) (equations_of functions tables names effects (head.Project l) (x ∷ []) n) n b (omega arith) known (λ c given sets. record {
      is = even_variable c n;
      equations = ((given.parts.0, even_record c ((l, ty.Var n) ∷ []) (Var (1 + n)) (even_variable c n, tt)), tt);
    })
    operator_found (head.Tag l) (x ∷ []) known = own_found (no_effects ∷ []) (equations_of functions tables names effects (head.Tag l) (x ∷ []) n) n b refl known (λ c given sets. record { is = even_variant c ((l, x) ∷ []) (Var n) (given.parts.0, tt); equations = tt })
    operator_found (head.Table x) [] known = rows_found (table_named tables x) known
    operator_found head.Where (x ∷ y ∷ []) known = own_found (no_effects ∷ []) (equations_of functions tables names effects head.Where (x ∷ y ∷ []) n) n b refl known (λ c given sets. record {
      is = even_list c (ty.Var n) (even_variable c n);
      equations = ((given.parts.0, even_bool c), (list_of_new c y given.parts.1.0, tt));
    })
    operator_found (head.Insert x) (t ∷ []) known = insert_found (table_named tables x) t known
    operator_found h ts known = never_found known
