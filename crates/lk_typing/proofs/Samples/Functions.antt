-- Programs of small functions, each alone in its group: the types that they have, and their principal schemes.
use Rattle.std.proofs.Common.{◌≡◌, ℕ, Bool, true, false, List, [], ◌∷◌, refl, sym, subst, ap, ap₂, ◌∙◌, Some, if◌then◌else◌}
use Rattle.std.specs.FinMap as fin
use Rattle.std.specs.List.{list_any}
use Rattle.std.specs.Option.{option_map}
use Rattle.std.specs.Prelude.{codes, nat_eq, bytes_eq}
use Rattle.lk_ast.specs.declared.declaration.Decl.TheVariants.{Fun}
use Rattle.lk_ast.specs.declared.declaration.FunDef.{FunDef}
use Rattle.lk_ast.specs.declared.declaration.Program.{Program}
use Rattle.lk_ast.specs.declared.declaration.TableDecl.{TableDecl}
use Rattle.lk_ast.specs.declared.expression.Node.{the_lemmas}
use Rattle.lk_ast.specs.declared.expression.Node.TheVariants as node
use Rattle.lk_ast.specs.declared.place.Loc.TheVariants.{Any, Client}
use Rattle.lk_types.proofs.Parts.{same_some, mapped}
use Rattle.lk_types.proofs.Rows.{found}
use Rattle.lk_types.proofs.Unfold.{under_int, under_text, under_variable}
use Rattle.lk_types.specs.Grounding.{Grounding, under}
use Rattle.lk_types.specs.Rows.{Row, EffectSet, no_fields, no_effects, has_label, same_effect}
use Rattle.lk_types.specs.Schemes.{IsInstance}
use Rattle.lk_types.specs.declared.ground.Ground.{Ground}
use Rattle.lk_types.specs.declared.ground.Ground.TheVariants as known
use Rattle.lk_types.specs.declared.scheme.Lack.{Lack}
use Rattle.lk_types.specs.declared.scheme.Scheme.{Scheme}
use Rattle.lk_types.specs.declared.ty.Effect.TheVariants as effect
use Rattle.lk_types.specs.declared.ty.RowTail.TheVariants.{Var}
use Rattle.lk_types.specs.declared.ty.Ty.TheVariants as ty
use Rattle.lk_typing.proofs.EffectRows.{without, with_back, with_it}
use Rattle.lk_typing.proofs.Inverses.{first_same, rest_same}
use Rattle.lk_typing.proofs.Operators.{row_is}
use Rattle.lk_typing.proofs.Samples.Forms.{at, word, part, number, name, call, fun, opened, first_of_them, both, made, of_name, of_number, of_extend, of_project, name_has, number_has, call_has}
use Rattle.lk_typing.proofs.Samples.Programs.{IsType, has_type, Covers, alone, held_alone, only_type, holds, every, more_general, none_general, principal_alone, one_to, calls_itself, function_has, one_param}
use Rattle.lk_typing.proofs.Samples.Types.{same_row, same_params, added, bare, was_lacking, standing, one_to_is, one_to_was}
use Rattle.lk_typing.proofs.Values.{under_record}
use Rattle.lk_typing.specs.Groups.{IsFunction}
use Rattle.lk_typing.specs.Heads as head
use Rattle.lk_typing.specs.Names.{Named, Entry, One, Many, one, instance}
use Rattle.lk_typing.specs.Programs as program
use Rattle.lk_typing.specs.Programs.{IsTypedBy, ArePrincipal}
use Rattle.lk_typing.specs.Rules as rule
use Rattle.lk_typing.specs.Rules.{Rule}
use Rattle.lk_typing.specs.Types.{record_of, function_of, with_fields}
use Rattle.lk_typing.specs.Typing.{HasType, HasIf, var, none, more}
use Rattle.lk_typing.specs.Unknowns as unknown
use Rattle.lk_typing.specs.Uses.{functions_used}

-- ---- fun nm(r) { r.name }

abbrev nm : FunDef
nm = fun (codes "nm") (codes "r") Any (at (node.Project (name (codes "r")) (word (codes "name"))))

-- ((name:t1|t2)) {|t3}-> t1
abbrev nm_scheme : Scheme
nm_scheme = one_to (unknown.record_of ((codes "name", ty.Var 1) ∷ []) (Var 2)) [] 3 (ty.Var 1) []

record NmType (t : Ground) : Type 0 where
  other : Row
  row : Row
  a : Ground
  s : EffectSet
  whole : with_fields ((codes "name", a) ∷ []) other ≡ Some row
  is : t ≡ function_of (record_of row ∷ []) s a

nm_uses : functions_used nm.body ≡ []
unfolding functions_used
nm_uses = search the_lemmas

nm_typed : (t : Ground) → NmType t → (nodes : List Ground) × IsType [] nm t nodes
nm_typed t its = has_type [] nm its.is (function_has nm (codes "r") _ its.a its.s _ refl tt (λ it. absurd cc) tt (calls_itself nm [] its.s nm_uses tt)
    (made _ (node.outs-Project _ _) refl (more [] [] (name_has (codes "r") refl) none) (rule.project its.other its.row its.whole)))

nm_types : (t : Ground) (nodes : List Ground) → IsType [] nm t nodes → NmType t
nm_types t nodes typed =
    let f = one_param nm (codes "r") refl typed in
    let p = of_project (codes "name") (name (codes "r")) f.body in
    record { other = p.other; row = p.row; a = f.answer; s = f.effects; whole = p.whole; is = f.is ∙ ap (λ q. function_of (q ∷ []) f.effects f.answer) (same_some (of_name (codes "r") p.typed)) }

nm_covers : Covers nm_scheme NmType
nm_covers = record {
  some = let row : Row = fin.insert no_fields (codes "name") known.Int in
      (function_of (record_of row ∷ []) no_effects known.Int, record { other = no_fields; row = row; a = known.Int; s = no_effects; whole = added (codes "name") known.Int no_fields (bare (codes "name")); is = refl });
  fits = fits;
  at = at_type;
}
  where
    param : (σ : Grounding) → under σ (unknown.record_of ((codes "name", ty.Var 1) ∷ []) (Var 2)) ≡ option_map record_of (with_fields ((codes "name", σ.plain 1) ∷ []) (σ.rows 2))
    param σ = under_record σ ((codes "name", ty.Var 1) ∷ []) ((codes "name", σ.plain 1) ∷ []) (Var 2) (ap (λ o. (codes "name", o) ∷ []) (under_variable σ 1))

    fits : (σ : Grounding) (t : Ground) → IsInstance σ nm_scheme t → NmType t
    fits σ t its =
        let w = one_to_was σ _ _ _ t its.body in
        let r = mapped record_of (with_fields ((codes "name", σ.plain 1) ∷ []) (σ.rows 2)) w.p (sym (param σ) ∙ w.param) in
        record { other = σ.rows 2; row = r.0; a = σ.plain 1; s = w.s; whole = r.1; is = w.is ∙ ap₂ (λ p a. function_of (p ∷ []) w.s a) r.2 (same_some (sym w.answer ∙ under_variable σ 1)) }

    at_type : (t : Ground) → NmType t → (σ : Grounding) × IsInstance σ nm_scheme t
    at_type t its =
        let σ = standing its.a its.other its.s in
        (σ, record { body = one_to_is σ _ _ _ (param σ ∙ ap (option_map record_of) its.whole) refl (under_variable σ 1) ∙ ap (λ u. Some u) (sym its.is); lacks = tt })

pub nm_principal : ArePrincipal (alone nm) (nm_scheme ∷ [])
nm_principal = principal_alone nm nm_scheme NmType nm_covers nm_typed nm_types

-- ---- a row variable that lacks a label: fun f(r) { var s = (x = 1 | r); 0 }

abbrev pub f : FunDef
f = fun (codes "f") (codes "r") Any (at (node.Var (word (codes "s")) (at (node.Extend (part (codes "x") (number 1) ∷ []) (name (codes "r")))) (number 0)))

-- ((|t1)) {|t2}-> Int
abbrev f_with : List Lack → Scheme
f_with lacks = one_to (unknown.record_of [] (Var 1)) [] 2 ty.Int lacks

-- where t1 is without x
abbrev pub without_x : List Lack
without_x = record { var = 1; label = codes "x" } ∷ []

abbrev pub f_type : Row → EffectSet → Ground
f_type row s = function_of (record_of row ∷ []) s known.Int

record FType (t : Ground) : Type 0 where
  row : Row
  effects : EffectSet
  lacks : has_label row (codes "x") ≡ false
  is : t ≡ f_type row effects

f_uses : functions_used f.body ≡ []
unfolding functions_used
f_uses = search the_lemmas

-- its body, whatever stands round it
module _ {functions : Named (Entry Ground)} {tables : List TableDecl} {s : EffectSet} where
  pub f_body : (row : Row) → has_label row (codes "x") ≡ false → (inside : List Ground) × HasType functions tables ((codes "r", record_of row) ∷ []) s f.body known.Int inside
  f_body row lacks =
      let longer : Row = fin.insert row (codes "x") known.Int in (
        _,
        var (word (codes "s")) _ _ (record_of longer) (known.Int ∷ record_of row ∷ []) [] (node.outs-Var _ _ _)
            (made _ (node.outs-Extend _ _) refl (more [] (record_of row ∷ []) (number_has 1) (more [] [] (name_has (codes "r") refl) none)) (rule.extend ((codes "x", known.Int) ∷ []) row longer refl (added (codes "x") known.Int row lacks)))
            (number_has 0),
      )

  pub of_f_body : {p a : Ground} {inside : List Ground} → HasType functions tables ((codes "r", p) ∷ []) s f.body a inside → (row : Row) × (has_label row (codes "x") ≡ false) × (p ≡ record_of row) × (a ≡ known.Int)
  of_f_body typed =
      let v = opened _ (node.outs-Var _ _ _) typed in
      let e = of_extend (codes "x") (number 1) (name (codes "r")) v.bound in
      (e.other, was_lacking (codes "x") e.a e.other e.row e.whole, same_some (of_name (codes "r") e.before), of_number 0 v.then)

f_typed : (t : Ground) → FType t → (nodes : List Ground) × IsType [] f t nodes
f_typed t its =
    let body = f_body its.row its.lacks in
    has_type [] f its.is (function_has f (codes "r") _ _ its.effects body.0 refl tt (λ it. absurd cc) tt (calls_itself f [] its.effects f_uses tt) body.1)

f_types : (t : Ground) (nodes : List Ground) → IsType [] f t nodes → FType t
f_types t nodes typed =
    let g = one_param f (codes "r") refl typed in
    let b = of_f_body g.body in
    record { row = b.0; effects = g.effects; lacks = b.1; is = g.is ∙ ap₂ (λ p a. function_of (p ∷ []) g.effects a) b.2 b.3 }

f_at : (row : Row) (s : EffectSet) (lacks : List Lack) → under (standing known.Int row s) (f_with lacks).body ≡ Some (f_type row s)
f_at row s lacks = let σ = standing known.Int row s in one_to_is σ _ _ _ (row_is σ 1) refl (under_int σ)

f_covers : Covers (f_with without_x) FType
f_covers = record {
  some = (_, record { row = no_fields; effects = no_effects; lacks = bare (codes "x"); is = refl });
  fits = λ σ t its.
      let w = one_to_was σ _ _ _ t its.body in
      record { row = σ.rows 1; effects = w.s; lacks = its.lacks.0; is = w.is ∙ ap₂ (λ p a. function_of (p ∷ []) w.s a) (same_some (sym w.param ∙ row_is σ 1)) (same_some (sym w.answer ∙ under_int σ)) };
  at = λ t its. (standing known.Int its.row its.effects, record { body = f_at its.row its.effects without_x ∙ ap (λ u. Some u) (sym its.is); lacks = (its.lacks, tt) });
}

pub f_principal : ArePrincipal (alone f) (f_with without_x ∷ [])
f_principal = principal_alone f (f_with without_x) FType f_covers f_typed f_types

-- without the lack there is an instance at a row with x, which is no type

abbrev pub with_x : Row
with_x = fin.insert no_fields (codes "x") known.Int

pub not_at_x : (row : Row) (r s : EffectSet) (a : Ground) → has_label row (codes "x") ≡ false → function_of (record_of with_x ∷ []) r a ≡ f_type row s → ⊥
not_at_x row r s a lacks is =
    let same : with_x ≡ row = same_row with_x row (first_same (same_params _ _ r s a known.Int is)) in
    let wrong : true ≡ false = sym (found no_fields (codes "x") known.Int (codes "x")) ∙ ap (λ z. has_label z (codes "x")) same ∙ lacks in
    absurd cc

pub f_not_without_lack : IsTypedBy (alone f) (f_with [] ∷ []) → ⊥
f_not_without_lack typed =
    let group = (held_alone f (f_with [] ∷ []) typed).each (f_type with_x no_effects ∷ []) (standing known.Int with_x no_effects, (record { body = f_at with_x no_effects []; lacks = tt }, tt)) in
    let only = only_type [] f _ group.0 group.1 in
    let its = f_types only.0 only.1 only.3 in
    not_at_x its.row no_effects its.effects known.Int its.lacks (first_same only.2 ∙ its.is)

-- ---- an effect by a mark of its place: fun main(a) client { a }

abbrev main : FunDef
main = fun (codes "main") (codes "a") Client (name (codes "a"))

-- (String) {move|t1}-> String
abbrev main_scheme : Scheme
main_scheme = one_to ty.Text (effect.Move ∷ []) 1 ty.Text []

abbrev MainType : Ground → Type 0
MainType t = (s : EffectSet) × (s effect.Move ≡ true) × (t ≡ function_of (known.Text ∷ []) s known.Text)

main_uses : functions_used main.body ≡ []
unfolding functions_used
main_uses = search the_lemmas

main_typed : (t : Ground) → MainType t → (nodes : List Ground) × IsType [] main t nodes
main_typed t its = has_type [] main its.2 (function_has main (codes "a") known.Text known.Text its.0 [] refl tt (λ it. refl) its.1 (calls_itself main [] its.0 main_uses tt) (name_has (codes "a") refl))

-- whatever stands round it, it takes a text, answers a text and has `move` among its effects
pub main_types : {functions : Named (Entry Ground)} {tables : List TableDecl} {in_mutual : Bool} (t : Ground) (nodes : List Ground) → IsFunction functions tables in_mutual main t nodes → MainType t
main_types t nodes typed =
    let f = one_param main (codes "a") refl typed in
    let param : f.p ≡ known.Text = f.main refl in
    (f.effects, f.moves, f.is ∙ ap₂ (λ p a. function_of (p ∷ []) f.effects a) param (sym (same_some (of_name (codes "a") f.body)) ∙ param))

main_covers : Covers main_scheme MainType
main_covers = record {
  some = (_, (same_effect effect.Move, refl, refl));
  fits = λ σ t its.
      let w = one_to_was σ _ _ _ t its.body in
      (w.s, with_it effect.Move (σ.effects 1) w.s w.effects, w.is ∙ ap₂ (λ p a. function_of (p ∷ []) w.s a) (same_some (sym w.param ∙ under_text σ)) (same_some (sym w.answer ∙ under_text σ)));
  at = λ t its.
      let σ = standing known.Int no_fields (without effect.Move its.0) in
      (σ, record { body = one_to_is σ _ _ _ (under_text σ) (with_back effect.Move its.0 its.1) (under_text σ) ∙ ap (λ u. Some u) (sym its.2); lacks = tt });
}

pub main_principal : ArePrincipal (alone main) (main_scheme ∷ [])
main_principal = principal_alone main main_scheme MainType main_covers main_typed (λ t nodes typed. main_types t nodes typed)

-- ---- one that calls itself: fun loop(x) { loop(x) }

abbrev loop : FunDef
loop = fun (codes "loop") (codes "x") Any (call (codes "loop") (name (codes "x")))

-- (t1) {rec|t2}-> t3
abbrev loop_scheme : Scheme
loop_scheme = one_to (ty.Var 1) (effect.Rec ∷ []) 2 (ty.Var 3) []

abbrev LoopType : Ground → Type 0
LoopType t = (s : EffectSet) × (p a : Ground) × (s effect.Rec ≡ true) × (t ≡ function_of (p ∷ []) s a)

loop_uses : functions_used loop.body ≡ codes "loop" ∷ []
unfolding functions_used
loop_uses = search the_lemmas

loop_typed : (t : Ground) → LoopType t → (nodes : List Ground) × IsType [] loop t nodes
loop_typed t its = has_type [] loop its.4 (function_has loop (codes "x") its.1 its.2 its.0 _ refl tt (λ it. absurd cc) tt (calls_itself loop _ its.0 loop_uses its.3)
    (call_has (codes "loop") (name_has (codes "x") refl) (One (function_of (its.1 ∷ []) its.0 its.2), refl, one)))

-- whatever stands round it, it has `rec` among its effects
pub loop_types : {functions : Named (Entry Ground)} {tables : List TableDecl} (t : Ground) (nodes : List Ground) → IsFunction functions tables false loop t nodes → LoopType t
loop_types t nodes typed =
    let f = one_param loop (codes "x") refl typed in
    (f.effects, f.p, f.answer, subst (λ uses. HasIf (list_any (λ g. bytes_eq g (codes "loop")) uses) f.effects effect.Rec) loop_uses f.recurs, f.is)

-- the parameter for the first variable, and the answer for all others
abbrev either : Ground → Ground → ℕ → Ground
either p a n = if nat_eq n 1 then p else a

loop_covers : Covers loop_scheme LoopType
loop_covers = record {
  some = (_, (same_effect effect.Rec, known.Int, known.Int, refl, refl));
  fits = λ σ t its.
      let w = one_to_was σ _ _ _ t its.body in
      (w.s, w.p, w.a, with_it effect.Rec (σ.effects 2) w.s w.effects, w.is);
  at = λ t its.
      let σ : Grounding = record { plain = either its.1 its.2; rows = λ n. no_fields; effects = λ n. without effect.Rec its.0 } in
      (σ, record { body = one_to_is σ _ _ _ (under_variable σ 1) (with_back effect.Rec its.0 its.3) (under_variable σ 3) ∙ ap (λ u. Some u) (sym its.4); lacks = tt });
}

pub loop_principal : ArePrincipal (alone loop) (loop_scheme ∷ [])
loop_principal = principal_alone loop loop_scheme LoopType loop_covers loop_typed (λ t nodes typed. loop_types t nodes typed)

-- ---- a function that is used at two types: fun id(x) { x } fun two(a) { if (id(true)) { id(1) } else { 2 } }

abbrev id : FunDef
id = fun (codes "id") (codes "x") Any (name (codes "x"))

abbrev two : FunDef
two = fun (codes "two") (codes "a") Any (at (node.If (call (codes "id") (at (node.Bool true))) (call (codes "id") (number 1)) (number 2)))

abbrev id_two : Program
id_two = record { decls = Fun id ∷ Fun two ∷ [] }

-- (t1) {|t2}-> t1
abbrev id_scheme : Scheme
id_scheme = one_to (ty.Var 1) [] 2 (ty.Var 1) []

abbrev IdType : Ground → Type 0
IdType t = (p : Ground) × (s : EffectSet) × (t ≡ function_of (p ∷ []) s p)

id_uses : functions_used id.body ≡ []
unfolding functions_used
id_uses = search the_lemmas

id_typed : (t : Ground) → IdType t → (nodes : List Ground) × IsType [] id t nodes
id_typed t its = has_type [] id its.2 (function_has id (codes "x") its.0 its.0 its.1 [] refl tt (λ it. absurd cc) tt (calls_itself id [] its.1 id_uses tt) (name_has (codes "x") refl))

id_types : (t : Ground) (nodes : List Ground) → IsType [] id t nodes → IdType t
id_types t nodes typed =
    let f = one_param id (codes "x") refl typed in
    (f.p, f.effects, f.is ∙ ap (λ a. function_of (f.p ∷ []) f.effects a) (sym (same_some (of_name (codes "x") f.body))))

id_at : (p : Ground) (s : EffectSet) → IsInstance (standing p no_fields s) id_scheme (function_of (p ∷ []) s p)
id_at p s = let σ = standing p no_fields s in record { body = one_to_is σ _ _ _ (under_variable σ 1) refl (under_variable σ 1); lacks = tt }

id_covers : Covers id_scheme IdType
id_covers = record {
  some = (_, (known.Int, no_effects, refl));
  fits = λ σ t its.
      let w = one_to_was σ _ _ _ t its.body in
      (σ.plain 1, w.s, w.is ∙ ap₂ (λ p a. function_of (p ∷ []) w.s a) (same_some (sym w.param ∙ under_variable σ 1)) (same_some (sym w.answer ∙ under_variable σ 1)));
  at = λ t its. (standing its.0 no_fields its.1, subst (IsInstance (standing its.0 no_fields its.1) id_scheme) (sym its.2) (id_at its.0 its.1));
}

-- (t1) {|t2}-> Int
abbrev two_scheme : Scheme
two_scheme = one_to (ty.Var 1) [] 2 ty.Int []

abbrev TwoType : Ground → Type 0
TwoType t = (p : Ground) × (s : EffectSet) × (t ≡ function_of (p ∷ []) s known.Int)

two_uses : functions_used two.body ≡ codes "id" ∷ codes "id" ∷ []
unfolding functions_used
two_uses = search the_lemmas

abbrev behind_id : Named Scheme
behind_id = (codes "id", id_scheme) ∷ []

two_typed : (t : Ground) → TwoType t → (nodes : List Ground) × IsType behind_id two t nodes
two_typed t its = has_type behind_id two its.2 (function_has two (codes "a") its.0 known.Int its.1 _ refl tt (λ it. absurd cc) tt (calls_itself two _ its.1 two_uses tt)
    (made _ (node.outs-If _ _ _) refl
    (more (known.Bool ∷ []) (known.Int ∷ known.Int ∷ known.Int ∷ []) (call_has (codes "id") (made _ (node.outs-Bool _) refl none rule.literal) (Many id_scheme, refl, instance (id_at known.Bool its.1)))
    (more (known.Int ∷ []) (known.Int ∷ []) (call_has (codes "id") (number_has 1) (Many id_scheme, refl, instance (id_at known.Int its.1)))
    (more [] [] (number_has 2) none)))
    rule.branch))

branch_says : {functions : Named (Entry Ground)} {names : Named Ground} {effects : EffectSet} {ts : List Ground} {t : Ground} → Rule functions [] names effects head.If ts t → ts ≡ known.Bool ∷ t ∷ t ∷ []
branch_says rule.branch = refl

-- whatever `id` is, it answers the number
two_types : (earlier : Named Scheme) (t : Ground) (nodes : List Ground) → IsType earlier two t nodes → TwoType t
two_types earlier t nodes typed =
    let f = one_param two (codes "a") refl typed in
    let b = opened _ (node.outs-If _ _ _) f.body in
    let first = first_of_them b.typed in
    let others = both first.6 in
    let types : first.0 ∷ others.0 ∷ others.1 ∷ [] ≡ known.Bool ∷ f.answer ∷ f.answer ∷ [] = ap (λ us. first.0 ∷ us) (sym others.4) ∙ sym first.4 ∙ branch_says b.rule in
    (f.p, f.effects, f.is ∙ ap (λ a. function_of (f.p ∷ []) f.effects a) (sym (first_same (rest_same (rest_same types))) ∙ of_number 2 others.6))

two_covers : Covers two_scheme TwoType
two_covers = record {
  some = (_, (known.Int, no_effects, refl));
  fits = λ σ t its.
      let w = one_to_was σ _ _ _ t its.body in
      (w.p, w.s, w.is ∙ ap (λ a. function_of (w.p ∷ []) w.s a) (same_some (sym w.answer ∙ under_int σ)));
  at = λ t its.
      let σ = standing its.0 no_fields its.1 in
      (σ, record { body = one_to_is σ _ _ _ (under_variable σ 1) refl (under_int σ) ∙ ap (λ u. Some u) (sym its.2); lacks = tt });
}

pub two_principal : ArePrincipal id_two (id_scheme ∷ two_scheme ∷ [])
two_principal = record {
  typed = program.HaveSchemes.more (id_scheme ∷ []) (two_scheme ∷ []) (holds [] id id_scheme IdType id_covers id_typed)
      (program.HaveSchemes.more (two_scheme ∷ []) [] (holds behind_id two two_scheme TwoType two_covers two_typed) program.HaveSchemes.none);
  most_general = more_general (Fun id) (Fun two ∷ []) (id_scheme ∷ []) (two_scheme ∷ []) refl (every [] id id_scheme IdType id_covers id_types)
      (λ others held. more_general (Fun two) [] (two_scheme ∷ []) [] refl (every _ two two_scheme TwoType two_covers (two_types _)) (λ schemes also. none_general));
}
