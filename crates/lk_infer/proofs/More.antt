-- Where functions may be used at more types, whatever has types by the rules still has them: so a group that is well typed after
-- functions with schemes is so after functions of which each instance of those schemes is one too.
use Rattle.std.proofs.Common.{◌≡◌, Bool, true, false, List, [], ◌∷◌, ◌++◌, refl, sym, subst, ap, ◌∙◌, Option, Some, None, if◌then◌else◌, bytes_eq}
use Rattle.std.specs.Option.{option_map}
use Rattle.lk_ast.specs.Functions.{functions_in}
use Rattle.lk_ast.specs.declared.declaration.Decl.{Decl}
use Rattle.lk_ast.specs.declared.declaration.FunDef.{FunDef}
use Rattle.lk_ast.specs.declared.declaration.TableDecl.{TableDecl}
use Rattle.lk_ast.specs.declared.expression.Case.{Case}
use Rattle.lk_ast.specs.declared.expression.ChangeExpr.{ChangeExpr}
use Rattle.lk_ast.specs.declared.expression.Expr.{Expr}
use Rattle.lk_types.proofs.Parts.{same_some}
use Rattle.lk_types.specs.Grounding.{Grounding}
use Rattle.lk_types.specs.Rows.{Label, EffectSet}
use Rattle.lk_types.specs.Schemes.{IsInstance}
use Rattle.lk_types.specs.declared.ground.Ground.{Ground}
use Rattle.lk_types.specs.declared.scheme.Scheme.{Scheme}
use Rattle.lk_typing.specs.Groups.{IsFunction, AreFunctions, IsGroup, own_entries, scheme_entries, is_mutual}
use Rattle.lk_typing.specs.Heads.{Head}
use Rattle.lk_typing.specs.Names.{Named, named, Entry, Many, IsUse, MayBe}
use Rattle.lk_typing.specs.Rules.{Rule}
use Rattle.lk_typing.specs.Typing.{HasType, HaveTypes, HaveCases, IsChange, plain, lambda, var, switch, switch_open, for_list, for_table, query, update, delete, none, more, no_cases, case_of, changed}

-- ours may be used wherever the others may be
abbrev pub AreMore : Named (Entry Ground) → Named (Entry Ground) → Type 0
AreMore ours others = (g : Label) (t : Ground) → MayBe others g t → MayBe ours g t

-- ---- the rules

module _ (ours others : Named (Entry Ground)) (are_more : AreMore ours others) (tables : List TableDecl) where
  by_rule : (names : Named Ground) (s : EffectSet) (h : Head) (ts : List Ground) (t : Ground) → Rule others tables names s h ts t → Rule ours tables names s h ts t
  by_rule names s h ts t Rule.literal = Rule.literal
  by_rule names s h ts t (Rule.local is) = Rule.local is
  by_rule names s h ts t (Rule.function {g} {t = u} may) = Rule.function (are_more g u may)
  by_rule names s h ts t (Rule.call may) = Rule.call (are_more _ _ may)
  by_rule names s h ts t (Rule.apply there) = Rule.apply there
  by_rule names s h ts t Rule.seq = Rule.seq
  by_rule names s h ts t Rule.branch = Rule.branch
  by_rule names s h ts t Rule.logic = Rule.logic
  by_rule names s h ts t Rule.concat = Rule.concat
  by_rule names s h ts t (Rule.append a) = Rule.append a
  by_rule names s h ts t (Rule.cons there) = Rule.cons there
  by_rule names s h ts t Rule.arithmetic = Rule.arithmetic
  by_rule names s h ts t (Rule.division there) = Rule.division there
  by_rule names s h ts t Rule.comparison = Rule.comparison
  by_rule names s h ts t Rule.negation = Rule.negation
  by_rule names s h ts t Rule.not = Rule.not
  by_rule names s h ts t (Rule.first trap local) = Rule.first trap local
  by_rule names s h ts t (Rule.rest a trap local) = Rule.rest a trap local
  by_rule names s h ts t (Rule.empty a) = Rule.empty a
  by_rule names s h ts t (Rule.int_to_string there) = Rule.int_to_string there
  by_rule names s h ts t (Rule.print there) = Rule.print there
  by_rule names s h ts t (Rule.closed_record fields row at is) = Rule.closed_record fields row at is
  by_rule names s h ts t (Rule.extend fields other row at is) = Rule.extend fields other row at is
  by_rule names s h ts t (Rule.items a each) = Rule.items a each
  by_rule names s h ts t (Rule.project other row is) = Rule.project other row is
  by_rule names s h ts t (Rule.tag other row is) = Rule.tag other row is
  by_rule names s h ts t (Rule.table row has_rows there) = Rule.table row has_rows there
  by_rule names s h ts t (Rule.filter b) = Rule.filter b
  by_rule names s h ts t (Rule.insert row has_rows there) = Rule.insert row has_rows there

  mutual
    each_more : (names : Named Ground) (s : EffectSet) (e : Expr) (t : Ground) (inside : List Ground) → HasType others tables names s e t inside → HasType ours tables names s e t inside
    each_more names s e t inside (plain h ts is parts rule) = plain h ts is (all_more _ _ _ _ _ parts) (by_rule names s h ts t rule)
    each_more names s e _ _ (lambda l params own b is named moves body local) = lambda l params own b is named moves (each_more _ _ _ _ _ body) local
    each_more names s e t _ (var x d rest a inside later is first last) = var x d rest a inside later is (each_more _ _ _ _ _ first) (each_more _ _ _ _ _ last)
    each_more names s e t _ (switch d cases row tags ts inside bodies is value all each tagged local) =
        switch d cases row tags ts inside bodies is (each_more _ _ _ _ _ value) (cases_more _ _ _ _ _ _ all) each tagged local
    each_more names s e t _ (switch_open d cases last other row tags ts inside bodies later is value all each body tagged local) =
        switch_open d cases last other row tags ts inside bodies later is (each_more _ _ _ _ _ value) (cases_more _ _ _ _ _ _ all) each (each_more _ _ _ _ _ body) tagged local
    each_more names s e _ _ (for_list x d body a b inside later is list inner) = for_list x d body a b inside later is (each_more _ _ _ _ _ list) (each_more _ _ _ _ _ inner)
    each_more names s e _ _ (for_table x rows body a b inside later is list inner) = for_table x rows body a b inside later is (each_more _ _ _ _ _ list) (each_more _ _ _ _ _ inner)
    each_more names s e _ _ (query keys body a inside is inner each scans by_client) = query keys body a inside is (each_more _ _ _ _ _ inner) each scans by_client
    each_more names s e _ inside (update change is inner writes) = update change is (change_more _ _ _ inner) writes
    each_more names s e _ inside (delete change is inner writes) = delete change is (change_more _ _ _ inner) writes

    all_more : (names : Named Ground) (s : EffectSet) (es : List Expr) (ts inside : List Ground) → HaveTypes others tables names s es ts inside → HaveTypes ours tables names s es ts inside
    all_more names s _ _ _ none = none
    all_more names s _ _ _ (more inside rest first later) = more inside rest (each_more _ _ _ _ _ first) (all_more _ _ _ _ _ later)

    cases_more : (names : Named Ground) (s : EffectSet) (cases : List Case) (ts : List Ground) (tags : Named Ground) (inside : List Ground)
        → HaveCases others tables names s cases ts tags inside → HaveCases ours tables names s cases ts tags inside
    cases_more names s _ _ _ _ no_cases = no_cases
    cases_more names s _ _ _ _ (case_of a bound inside rest held body later) = case_of a bound inside rest held (each_more _ _ _ _ _ body) (cases_more _ _ _ _ _ _ later)

    change_more : (names : Named Ground) (change : ChangeExpr) (inside : List Ground) → IsChange others tables names change inside → IsChange ours tables names change inside
    change_more names change _ (changed row sets ts cond rest rows condition set labels each) = changed row sets ts cond rest rows (each_more _ _ _ _ _ condition) (all_more _ _ _ _ _ set) labels each

  function_more : (in_mutual : Bool) (f : FunDef) (t : Ground) (nodes : List Ground) → IsFunction others tables in_mutual f t nodes → IsFunction ours tables in_mutual f t nodes
  function_more in_mutual f t nodes typed = record {
    params = typed.params;
    effects = typed.effects;
    answer = typed.answer;
    inside = typed.inside;
    is = typed.is;
    names = typed.names;
    signature = typed.signature;
    main = typed.main;
    moves = typed.moves;
    recurs = typed.recurs;
    body = each_more _ _ _ _ _ typed.body;
    all = typed.all;
  }

  pub functions_more : (in_mutual : Bool) (fs : List FunDef) (ts nodes : List Ground) → AreFunctions others tables in_mutual fs ts nodes → AreFunctions ours tables in_mutual fs ts nodes
  functions_more in_mutual _ _ _ AreFunctions.none = AreFunctions.none
  functions_more in_mutual _ _ _ (AreFunctions.more nodes rest typed later) = AreFunctions.more nodes rest (function_more _ _ _ _ typed) (functions_more _ _ _ _ later)

-- ---- schemes

-- the function of that name has a scheme of which this is an instance
abbrev pub HasInstance : Named Scheme → Label → Ground → Type 0
HasInstance schemes g t = (scheme : Scheme) × (named g schemes ≡ Some scheme) × ((τ : Grounding) × IsInstance τ scheme t)

-- each instance of what the others have for a name is one of what ours have for it
abbrev pub IsMore : Named Scheme → Named Scheme → Type 0
IsMore ours others = (g : Label) (t : Ground) → HasInstance others g t → HasInstance ours g t

pub same_is_more : (schemes : Named Scheme) → IsMore schemes schemes
same_is_more schemes g t is = is

abbrev many : Scheme → Entry Ground
many scheme = Many scheme

many_named : (g : Label) (schemes : Named Scheme) → named g (scheme_entries {A = Ground} schemes) ≡ option_map many (named g schemes)
many_named g [] = refl
many_named g (e ∷ es) = by_test (bytes_eq e.0 g) (many_named g es)
  where
    by_test : (b : Bool) → named g (scheme_entries {A = Ground} es) ≡ option_map many (named g es)
        → (if b then Some (Many e.1) else named g (scheme_entries {A = Ground} es)) ≡ option_map many (if b then Some e.1 else named g es)
    by_test true later = refl
    by_test false later = later

many_instance : (scheme : Scheme) (t : Ground) → IsUse (Many scheme) t → (τ : Grounding) × IsInstance τ scheme t
many_instance scheme t (IsUse.instance {τ} its) = (τ, its)

-- a use of a function with a scheme is at an instance of it
to_instance : (schemes : Named Scheme) (g : Label) (t : Ground) → MayBe (scheme_entries schemes) g t → HasInstance schemes g t
to_instance schemes g t may = by_found (named g schemes) (sym (many_named g schemes) ∙ may.1)
  where
    by_found : (o : Option Scheme) → option_map many o ≡ Some may.0 → (scheme : Scheme) × (o ≡ Some scheme) × ((τ : Grounding) × IsInstance τ scheme t)
    by_found None is = cc
    by_found (Some scheme) is = (scheme, refl, many_instance scheme t (subst (λ e. IsUse e t) (sym (same_some is)) may.2))

of_instance : (schemes : Named Scheme) (g : Label) (t : Ground) → HasInstance schemes g t → MayBe (scheme_entries schemes) g t
of_instance schemes g t (scheme, is, (τ, its)) = (Many scheme, many_named g schemes ∙ ap (option_map many) is, IsUse.instance its)

schemes_more : (ours others : Named Scheme) → IsMore ours others → AreMore (scheme_entries ours) (scheme_entries others)
schemes_more ours others is_more g t may = of_instance ours g t (is_more g t (to_instance others g t may))

-- also behind the same entries
behind_more : (own ours others : Named (Entry Ground)) → AreMore ours others → AreMore (own ++ ours) (own ++ others)
behind_more [] ours others are_more g t may = are_more g t may
behind_more (e ∷ es) ours others are_more g t may = by_test (bytes_eq e.0 g) (behind_more es ours others are_more g t) may
  where
    by_test : (b : Bool) → (MayBe (es ++ others) g t → MayBe (es ++ ours) g t) → ((entry : Entry Ground) × ((if b then Some e.1 else named g (es ++ others)) ≡ Some entry) × IsUse entry t)
        → (entry : Entry Ground) × ((if b then Some e.1 else named g (es ++ ours)) ≡ Some entry) × IsUse entry t
    by_test true later is = is
    by_test false later is = later is

-- what is well typed after functions with schemes is so after functions with more general ones
pub group_more : (ours others : Named Scheme) (tables : List TableDecl) (decl : Decl) (ts nodes : List Ground) → IsMore ours others
    → IsGroup others tables decl ts nodes → IsGroup ours tables decl ts nodes
group_more ours others tables decl ts nodes is_more typed =
    let own : Named (Entry Ground) = own_entries (functions_in decl) ts in
    functions_more (own ++ scheme_entries ours) (own ++ scheme_entries others)
    (behind_more own (scheme_entries ours) (scheme_entries others) (schemes_more ours others is_more))
    tables (is_mutual decl) (functions_in decl) ts nodes typed
