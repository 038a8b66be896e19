-- The walk through the functions of a group, one after another.
use Rattle.std.proofs.Common.{◌≡◌, ℕ, ◌+◌, Bool, List, [], ◌∷◌, ◌++◌, length, map, refl, ap, ◌∙◌, append_assoc, append-nil}
use Rattle.lk_ast.specs.Functions.{functions_in}
use Rattle.lk_ast.specs.declared.declaration.Decl.{Decl}
use Rattle.lk_ast.specs.declared.declaration.FunDef.{FunDef}
use Rattle.lk_types.specs.Rows.{Label}
use Rattle.lk_types.specs.declared.equation.Equation.{Equation}
use Rattle.lk_types.specs.declared.ty.Effects.{Effects}
use Rattle.lk_types.specs.declared.ty.Ty.{Ty}
use Rattle.lk_types.specs.declared.ty.Ty.TheVariants as ty
use Rattle.lk_typing.specs.Groups.{FunctionWalked, Unknown, after_unknown, after_unknowns, function_walked, functions_walked, group_walked, is_mutual, own_entries, scheme_entries, type_of, unknown, unknowns}
use Rattle.lk_typing.specs.Names.{Named, One}
use Rattle.lk_typing.specs.Steps.{same_at}
use Rattle.lk_typing.specs.Unknowns.{same}
use Rattle.lk_typing.specs.Walk.{Walked, Told, all_types, params_from}
use Rattle.lk_typing.specs.declared.step.Step.{Step}
use Rattle.lk_walk.proofs.Goes.{grew_none, grew_twice}
use Rattle.lk_walk.proofs.Params.{params_gone}
use Rattle.lk_walk.specs.Members.{first_type, function_went, functions_went, named_type, numbered_from, told_before}
use Rattle.lk_equations.specs.Seen.{functions_seen}
use Rattle.lk_walk.specs.Went.{grew, said, told_by, type_at, unbound, under_names, walk_in, went}
use Rattle.lk_equations.specs.declared.own.Globals.{Globals}
use Rattle.lk_walk.specs.declared.walker.Walker.{Walker}

-- ---- one function

abbrev with_names : Named Ty → Walker → Walker
with_names names s = record s { names = names }

pub member_is : (seen : Globals) (in_mutual : Bool) (f : FunDef) (n two one : ℕ) (effects : Effects) (before : Told) (s s1 s3 s4 new : Walker) (named : Named Ty) (b : ℕ) (answers : List Equation)
    → effects ≡ (unknown f n).effects → two ≡ 2 + n → one ≡ 1 + n
    → before ≡ told_before in_mutual f (unknown f n) s.next → s1 ≡ told_by f.name.at before s → named ≡ params_from two f.params ++ s1.names
    → s3 ≡ went (walk_in seen f.body) effects (with_names named s1) → ty.Var b ≡ type_at (walk_in seen f.body) effects (with_names named s1)
    → s4 ≡ unbound (length f.params) s3 → answers ≡ same (ty.Var one) (ty.Var b) ∷ [] → new ≡ said f.name.at answers s4
    → new ≡ function_went seen in_mutual (f, n) s
member_is seen in_mutual f n two one effects before s s1 s3 s4 new named b answers ee e2 e1 eb es en e3 tb e4 ea e5 =
    let u : Unknown = unknown f n in
    let told : Walker = told_by f.name.at (told_before in_mutual f u s.next) s in
    let at1 : s1 ≡ told = es ∙ ap (λ t. told_by f.name.at t s) eb in
    let names_are : named ≡ u.params ++ s.names = en ∙ (λ i. params_from (e2 i) f.params ++ (at1 i).names) in
    let at3 : s3 ≡ went (walk_in seen f.body) u.effects (with_names (u.params ++ s.names) told) = e3 ∙ (λ i. went (walk_in seen f.body) (ee i) (with_names (names_are i) (at1 i))) in
    let typed : ty.Var b ≡ type_at (under_names u.params (walk_in seen f.body)) u.effects told = tb ∙ (λ i. type_at (walk_in seen f.body) (ee i) (with_names (names_are i) (at1 i))) in
    let at4 : s4 ≡ went (under_names u.params (walk_in seen f.body)) u.effects told =
    e4 ∙ ap (unbound (length f.params)) at3
    ∙ ap (λ names. with_names names (went (under_names u.params (walk_in seen f.body)) u.effects told)) (params_gone (2 + n) f.params s.names) in
    e5 ∙ (λ i. said f.name.at ((ea ∙ (λ j. same (ty.Var (e1 j)) (typed j) ∷ [])) i) (at4 i))

module _ (seen : Globals) (in_mutual : Bool) where
  function_is : (f : FunDef) (n : ℕ) (s : Walker) → s.names ≡ []
      → function_went seen in_mutual (f, n) s
      ≡ grew (function_walked (functions_seen seen.own seen.earlier.now) seen.tables.now in_mutual f (unknown f n) s.next).nodes (function_walked (functions_seen seen.own seen.earlier.now) seen.tables.now in_mutual f (unknown f n) s.next).steps (function_walked (functions_seen seen.own seen.earlier.now) seen.tables.now in_mutual f (unknown f n) s.next).next s
  function_is f n s none =
      let u : Unknown = unknown f n in
      let before : Told = told_before in_mutual f u s.next in
      let w : Walked = walk_in seen f.body u.params u.effects before.next in
      let names_are : u.params ++ s.names ≡ u.params = ap (λ ns. u.params ++ ns) none ∙ append-nil u.params in
      let first : List Step = same_at f.name.at before.equations in
      let last : List Step = same_at f.name.at (same u.answer w.ty ∷ []) in
      (λ i. said f.name.at (same u.answer (walk_in seen f.body (names_are i) u.effects before.next).ty ∷ []) (grew (all_types (walk_in seen f.body (names_are i) u.effects before.next)) (walk_in seen f.body (names_are i) u.effects before.next).steps (walk_in seen f.body (names_are i) u.effects before.next).next (told_by f.name.at before s)))
      ∙ (λ i. record {
        names = s.names;
        types = s.types ++ all_types w;
        steps = (append_assoc (s.steps ++ first) w.steps last ∙ append_assoc s.steps first (w.steps ++ last)) i;
        next = w.next;
      })

  functions_are : (fs : List FunDef) (n : ℕ) (s : Walker) → s.names ≡ []
      → functions_went seen in_mutual (numbered_from fs n) s
      ≡ grew (functions_walked (functions_seen seen.own seen.earlier.now) seen.tables.now in_mutual fs (unknowns fs n) s.next).nodes (functions_walked (functions_seen seen.own seen.earlier.now) seen.tables.now in_mutual fs (unknowns fs n) s.next).steps (functions_walked (functions_seen seen.own seen.earlier.now) seen.tables.now in_mutual fs (unknowns fs n) s.next).next s
  functions_are [] n s none = grew_none s
  functions_are (f ∷ fs) n s none =
      let rest : ℕ → FunctionWalked = functions_walked (functions_seen seen.own seen.earlier.now) seen.tables.now in_mutual fs (unknowns fs (after_unknown f n)) in
      let w : FunctionWalked = function_walked (functions_seen seen.own seen.earlier.now) seen.tables.now in_mutual f (unknown f n) s.next in
      functions_are fs (after_unknown f n) (function_went seen in_mutual (f, n) s) none
      ∙ ap (λ (u : Walker). grew (rest u.next).nodes (rest u.next).steps (rest u.next).next u) (function_is f n s none)
      ∙ grew_twice s w.nodes (rest w.next).nodes w.steps (rest w.next).steps w.next (rest w.next).next

-- ---- groups

entries_are : (fs : List FunDef) (n : ℕ) → map (λ (entry : Label × Ty). (entry.0, One entry.1)) (map named_type (numbered_from fs n)) ≡ own_entries fs (map type_of (unknowns fs n))
entries_are [] n = refl
entries_are (f ∷ fs) n = ap (λ rest. (f.name.text, One (type_of (unknown f n))) ∷ rest) (entries_are fs (after_unknown f n))

pub types_are : (fs : List FunDef) (n : ℕ) → map first_type (numbered_from fs n) ≡ map type_of (unknowns fs n)
types_are [] n = refl
types_are (f ∷ fs) n = ap (λ rest. type_of (unknown f n) ∷ rest) (types_are fs (after_unknown f n))

-- the whole group
pub group_is : (seen : Globals) (in_mutual : Bool) (decl : Decl) (fs : List FunDef) (members : List (FunDef × ℕ)) (s new : Walker)
    → fs ≡ functions_in decl → members ≡ numbered_from fs 0 → seen.own ≡ map named_type members → in_mutual ≡ is_mutual decl
    → s.names ≡ [] → s.types ≡ [] → s.steps ≡ [] → s.next ≡ after_unknowns fs 0 → new ≡ functions_went seen in_mutual members s
    → (new.types ≡ (group_walked seen.earlier.now seen.tables.now decl).nodes) × (new.steps ≡ (group_walked seen.earlier.now seen.tables.now decl).steps)
group_is seen in_mutual decl fs members s new ef em eo ei names types steps next went_all =
    let all : List FunDef = functions_in decl in
    let functions : functions_seen seen.own seen.earlier.now ≡ own_entries all (map type_of (unknowns all 0)) ++ scheme_entries seen.earlier.now =
    ap (λ (own : Named Ty). functions_seen own seen.earlier.now) (eo ∙ ap (map named_type) (em ∙ ap (λ fs. numbered_from fs 0) ef))
    ∙ ap (λ own. own ++ scheme_entries seen.earlier.now) (entries_are all 0) in
    let walked : functions_walked (functions_seen seen.own seen.earlier.now) seen.tables.now in_mutual all (unknowns all 0) s.next ≡ group_walked seen.earlier.now seen.tables.now decl =
    (λ i. functions_walked (functions i) seen.tables.now (ei i) all (unknowns all 0) ((next ∙ ap (λ fs. after_unknowns fs 0) ef) i)) in
    let at : new ≡ grew (functions_walked (functions_seen seen.own seen.earlier.now) seen.tables.now in_mutual all (unknowns all 0) s.next).nodes (functions_walked (functions_seen seen.own seen.earlier.now) seen.tables.now in_mutual all (unknowns all 0) s.next).steps (functions_walked (functions_seen seen.own seen.earlier.now) seen.tables.now in_mutual all (unknowns all 0) s.next).next s =
    went_all ∙ ap (λ ms. functions_went seen in_mutual ms s) (em ∙ ap (λ fs. numbered_from fs 0) ef) ∙ functions_are seen in_mutual all 0 s names in
    (ap (λ (u : Walker). u.types) at ∙ (λ i. types i ++ (walked i).nodes), ap (λ (u : Walker). u.steps) at ∙ (λ i. steps i ++ (walked i).steps))
