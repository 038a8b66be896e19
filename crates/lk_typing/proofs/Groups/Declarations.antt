-- The law of the walk through the functions of a declaration, from the law of the walk through expressions.
use Rattle.std.proofs.Common.{◌≡◌, ℕ, ◌+◌, Bool, List, [], ◌∷◌, ◌++◌, map, length, refl, sym, subst, ap, ap₂, ◌∙◌, Some, suc}
use native.Mathlib.Omega.{arith}
use Rattle.lk_ast.specs.Functions.{functions_in}
use Rattle.lk_ast.specs.declared.declaration.Decl.{Decl}
use Rattle.lk_ast.specs.declared.declaration.FunDef.{FunDef}
use Rattle.lk_ast.specs.declared.declaration.TableDecl.{TableDecl}
use Rattle.lk_ast.specs.declared.expression.Expr.{Expr}
use Rattle.lk_ast.specs.declared.place.Word.{Word}
use Rattle.lk_types.proofs.Members.{each_front, each_back, each_both}
use Rattle.lk_types.proofs.Parts.{same_some}
use Rattle.lk_types.proofs.Unfold.{under_variable}
use Rattle.lk_types.specs.Grounding.{Grounding, under}
use Rattle.lk_types.specs.Rows.{EffectSet}
use Rattle.lk_types.specs.declared.ground.Ground.{Ground}
use Rattle.lk_types.specs.declared.scheme.Scheme.{Scheme}
use Rattle.lk_types.specs.declared.ty.Ty.{Ty}
use Rattle.lk_typing.proofs.Groups.Functions.{UnknownIs, type_is, stand_next, FunctionMet, FunctionFound, function_sound, FunctionComplete, function_complete}
use Rattle.lk_typing.proofs.Inverses.{first_same, rest_same, none_more, more_none, same_there}
use Rattle.lk_typing.proofs.Letters.{grounding_of, stand_all}
use Rattle.lk_typing.proofs.Lists.{length_both, stand_front, become_both, become_more}
use Rattle.lk_typing.proofs.Meaning.{seen, entry_seen, Functions, Letter, plain, effects, Stand, Sound, Complete}
use Rattle.lk_typing.proofs.Values.{variable_is}
use Rattle.lk_typing.specs.Groups.{is_mutual, own_entries, scheme_entries, IsFunction, AreFunctions, IsGroup, unknown, after_unknown, type_of, unknowns, after_unknowns, FunctionWalked, function_walked, functions_walked, group_types, group_walked, Unknown}
use Rattle.lk_typing.specs.Law.{Become, IsMetBy, WalkLaw}
use Rattle.lk_typing.specs.Names.{Named, Entry, One, Many, names_of, types_of, texts}
use Rattle.lk_typing.specs.Steps.{Holds, Meets}
use Rattle.lk_typing.specs.Types.{function_of}
use Rattle.lk_typing.specs.Typing.{HasType}
use Rattle.lk_typing.specs.Walk.{params_from, walk}

-- ---- the functions that may be used

map_append : {A B : Type 0} (f : A → B) (xs ys : List A) → map f (xs ++ ys) ≡ map f xs ++ map f ys
map_append f [] ys = refl
map_append f (x ∷ xs) ys = ap (λ r. f x ∷ r) (map_append f xs ys)

own_seen : (σ : Grounding) (fs : List FunDef) (types : List Ty) (ts : List Ground) → Become σ types ts → seen (entry_seen (under σ)) (own_entries fs types) ≡ seen (entry_seen (λ t. Some t)) (own_entries fs ts)
own_seen σ [] types ts is = refl
own_seen σ (f ∷ fs) [] [] is = refl
own_seen σ (f ∷ fs) [] (t ∷ ts) is = none_more is
own_seen σ (f ∷ fs) (x ∷ xs) [] is = more_none is
own_seen σ (f ∷ fs) (x ∷ xs) (t ∷ ts) is = ap₂ (λ o r. (f.name.text, One o) ∷ r) (first_same is) (own_seen σ fs xs ts (rest_same is))

schemes_seen : {A B C : Type 0} (f : A → C) (g : B → C) (earlier : Named Scheme) → seen (entry_seen f) (scheme_entries earlier) ≡ seen (entry_seen g) (scheme_entries earlier)
schemes_seen f g [] = refl
schemes_seen f g (e ∷ es) = ap (λ r. (e.0, Many e.1) ∷ r) (schemes_seen f g es)

-- the functions of a declaration whose types become these, behind functions with schemes
pub functions_become : (σ : Grounding) (earlier : Named Scheme) (fs : List FunDef) (types : List Ty) (ts : List Ground) → Become σ types ts
    → Functions σ (own_entries fs types ++ scheme_entries earlier) (own_entries fs ts ++ scheme_entries earlier)
functions_become σ earlier fs types ts is = record {
  same =
      map_append (λ entry. (entry.0, entry_seen (under σ) entry.1)) (own_entries fs types) (scheme_entries earlier)
      ∙ ap₂ (λ a b. a ++ b) (own_seen σ fs types ts is) (schemes_seen (under σ) (λ t. Some t) earlier)
      ∙ sym (map_append (λ entry. (entry.0, entry_seen (λ t. Some t) entry.1)) (own_entries fs ts) (scheme_entries earlier));
}

-- ---- what is unknown of a function, under a grounding

module _ (σ : Grounding) where
  abbrev params_known : ℕ → List Word → Named Ground
  params_known n [] = []
  params_known n (x ∷ xs) = (x.text, σ.plain n) ∷ params_known (1 + n) xs

  params_named : (n : ℕ) (xs : List Word) → seen (under σ) (params_from n xs) ≡ seen (λ t. Some t) (params_known n xs)
  params_named n [] = refl
  params_named n (x ∷ xs) = ap₂ (λ o r. (x.text, o) ∷ r) (under_variable σ n) (params_named (1 + n) xs)

  params_names : (n : ℕ) (xs : List Word) → names_of (params_known n xs) ≡ texts xs
  params_names n [] = refl
  params_names n (x ∷ xs) = ap (λ r. x.text ∷ r) (params_names (1 + n) xs)

  unknown_known : (f : FunDef) (n : ℕ) → UnknownIs σ (unknown f n) (params_known (2 + n) f.params) (σ.effects n) (σ.plain (1 + n))
  unknown_known f n = record { named = record { same = params_named (2 + n) f.params }; has = record { same = refl }; answers = under_variable σ (1 + n) }

-- ---- letters for what is unknown of a function

abbrev param_letters : Named Ground → List Letter
param_letters params = map (λ p. plain p.1) params

abbrev unknown_letters : Named Ground → EffectSet → Ground → List Letter
unknown_letters params s a = effects s ∷ plain a ∷ param_letters params

params_stand : (σ : Grounding) (n : ℕ) (xs : List Word) (params : Named Ground) → names_of params ≡ texts xs → Stand σ n (param_letters params) → seen (under σ) (params_from n xs) ≡ seen (λ t. Some t) params
params_stand σ n [] [] names stand = refl
params_stand σ n [] (p ∷ ps) names stand = more_none names
params_stand σ n (x ∷ xs) [] names stand = none_more names
params_stand σ n (x ∷ xs) (p ∷ ps) names stand =
    ap₂ (λ a as'. a ∷ as') (ap₂ (λ l o. (l, o)) (sym (first_same names)) (variable_is σ n p.1 stand.0.plain)) (params_stand σ (1 + n) xs ps (rest_same names) stand.1)

unknown_stands : (σ : Grounding) (f : FunDef) (n : ℕ) (params : Named Ground) (s : EffectSet) (a : Ground) → names_of params ≡ texts f.params → Stand σ n (unknown_letters params s a) → UnknownIs σ (unknown f n) params s a
unknown_stands σ f n params s a names stand =
    let same : 1 + (1 + n) ≡ 2 + n = omega arith in
    record {
      named = record { same = params_stand σ (2 + n) f.params params names (subst (λ k. Stand σ k (param_letters params)) same stand.1.1) };
      has = record { same = ap (λ u. Some u) stand.0.effects };
      answers = variable_is σ (1 + n) a stand.1.0.plain;
    }

length_map : {A B : Type 0} (f : A → B) (xs : List A) → length (map f xs) ≡ length xs
length_map f [] = refl
length_map f (x ∷ xs) = ap (λ n. suc n) (length_map f xs)

unknown_ends : (f : FunDef) (n : ℕ) (params : Named Ground) (s : EffectSet) (a : Ground) → names_of params ≡ texts f.params → after_unknown f n ≡ length (unknown_letters params s a) + n
unknown_ends f n params s a names =
    let same : length (param_letters params) ≡ length f.params = length_map (λ p. plain p.1) params ∙ sym (length_map (λ p. p.0) params) ∙ ap length names ∙ length_map (λ x. x.text) f.params in
    let more : length (unknown_letters params s a) ≡ suc (suc (length (param_letters params))) = refl in
    omega arith

-- ---- functions one after another

module _ (functions : Named (Entry Ty)) (known_functions : Named (Entry Ground)) (tables : List TableDecl) (in_mutual : Bool) where
  abbrev walked_all : List FunDef → ℕ → ℕ → FunctionWalked
  walked_all fs m n = functions_walked functions tables in_mutual fs (unknowns fs m) n

  -- functions whose types and nodes these become
  pub record FunctionsFound (σ : Grounding) (w : FunctionWalked) (fs : List FunDef) (ts : List Ground) : Type 0 where
    pub nodes : List Ground
    pub become : Become σ w.nodes nodes
    pub typed : AreFunctions known_functions tables in_mutual fs ts nodes

  functions_sound : ((e : Expr) → Sound functions known_functions tables (walk functions tables e) e) → (σ : Grounding) → Functions σ functions known_functions
      → (fs : List FunDef) (m n : ℕ) (ts : List Ground) → Become σ (map type_of (unknowns fs m)) ts → Meets σ (walked_all fs m n).steps → FunctionsFound σ (walked_all fs m n) fs ts
  functions_sound sound σ known_so [] m n [] is all = record { nodes = []; become = refl; typed = AreFunctions.none }
  functions_sound sound σ known_so [] m n (t ∷ ts) is all = none_more is
  functions_sound sound σ known_so (f ∷ fs) m n [] is all = more_none is
  functions_sound sound σ known_so (f ∷ fs) m n (t ∷ ts) is all =
      let u : Unknown = unknown f m in
      let params : Named Ground = params_known σ (2 + m) f.params in
      let w : FunctionWalked = function_walked functions tables in_mutual f u n in
      let rest : FunctionWalked = walked_all fs (after_unknown f m) w.next in
      let u_is : UnknownIs σ u params (σ.effects m) (σ.plain (1 + m)) = unknown_known σ f m in
      let first : FunctionFound functions known_functions tables in_mutual f σ w (function_of (types_of params) (σ.effects m) (σ.plain (1 + m))) =
      function_sound functions known_functions tables in_mutual f (sound f.body) σ u params (σ.effects m) (σ.plain (1 + m)) n known_so u_is (params_names σ (2 + m) f.params) (each_front (λ step. Holds σ step.said) w.steps rest.steps all) in
      let more : FunctionsFound σ rest fs ts = functions_sound sound σ known_so fs (after_unknown f m) w.next ts (rest_same is) (each_back (λ step. Holds σ step.said) w.steps rest.steps all) in
      let same : function_of (types_of params) (σ.effects m) (σ.plain (1 + m)) ≡ t = same_some (sym (type_is σ u params (σ.effects m) (σ.plain (1 + m)) u_is) ∙ first_same is) in
      record {
        nodes = first.nodes ++ more.nodes;
        become = become_both σ w.nodes rest.nodes first.nodes more.nodes first.become more.become;
        typed = AreFunctions.more first.nodes more.nodes (subst (λ g. IsFunction known_functions tables in_mutual f g first.nodes) same first.typed) more.typed;
      }

  -- letters for what is unknown of the functions, and for what the walk numbers behind it
  pub record FunctionsComplete (fs : List FunDef) (ts nodes : List Ground) : Type 0 where
    pub own : List Letter
    pub inner : List Letter
    pub ends : (m : ℕ) → after_unknowns fs m ≡ length own + m
    pub become : (σ : Grounding) (m : ℕ) → Stand σ m own → Become σ (map type_of (unknowns fs m)) ts
    pub met : (σ : Grounding) (m n : ℕ) → Functions σ functions known_functions → Stand σ m own → Stand σ n inner → FunctionMet σ (walked_all fs m n) (length inner + n) nodes

  none_complete : FunctionsComplete [] [] []
  none_complete = record {
    own = [];
    inner = [];
    ends = λ m. omega arith;
    become = λ σ m stand. refl;
    met = λ σ m n known_so own inner. (let same : n ≡ 0 + n = omega arith in record { ends = same; met = tt; become = refl });
  }

  more_complete : (f : FunDef) (fs : List FunDef) (t : Ground) (ts nodes rest : List Ground) (typed : IsFunction known_functions tables in_mutual f t nodes)
      → FunctionComplete functions known_functions tables in_mutual f typed.params typed.effects typed.answer nodes → FunctionsComplete fs ts rest
      → FunctionsComplete (f ∷ fs) (t ∷ ts) (nodes ++ rest)
  more_complete f fs t ts nodes rest typed first more =
      let letters : List Letter = unknown_letters typed.params typed.effects typed.answer in
      record {
        own = letters ++ more.own;
        inner = first.0 ++ more.inner;
        ends = λ m. more.ends (after_unknown f m) ∙ ap (λ k. length more.own + k) (ends_here m) ∙ length_both letters more.own m;
        become = λ σ m stand. become_more σ (type_of (unknown f m)) (map type_of (unknowns fs (after_unknown f m))) t ts
            (type_is σ (unknown f m) typed.params typed.effects typed.answer (own_stands σ m stand) ∙ ap (λ g. Some g) (sym typed.is))
            (more.become σ (after_unknown f m) (stand_next σ letters more.own m (after_unknown f m) (ends_here m) stand));
        met = λ σ m n known_so own inner.
            let w : FunctionWalked = function_walked functions tables in_mutual f (unknown f m) n in
            let after : FunctionWalked = walked_all fs (after_unknown f m) w.next in
            let front : FunctionMet σ w (length first.0 + n) nodes = first.1 σ (unknown f m) n known_so (own_stands σ m own) (stand_front σ first.0 more.inner n inner) in
            let back : FunctionMet σ after (length more.inner + w.next) rest =
            more.met σ (after_unknown f m) w.next known_so (stand_next σ letters more.own m (after_unknown f m) (ends_here m) own) (stand_next σ first.0 more.inner n w.next front.ends inner) in
            record {
              ends = back.ends ∙ ap (λ k. length more.inner + k) front.ends ∙ length_both first.0 more.inner n;
              met = each_both (λ step. Holds σ step.said) w.steps after.steps front.met back.met;
              become = become_both σ w.nodes after.nodes nodes rest front.become back.become;
            };
      }
    where
      ends_here : (m : ℕ) → after_unknown f m ≡ length (unknown_letters typed.params typed.effects typed.answer) + m
      ends_here m = unknown_ends f m typed.params typed.effects typed.answer typed.names

      own_stands : (σ : Grounding) (m : ℕ) → Stand σ m (unknown_letters typed.params typed.effects typed.answer ++ more.own) → UnknownIs σ (unknown f m) typed.params typed.effects typed.answer
      own_stands σ m stand = unknown_stands σ f m typed.params typed.effects typed.answer typed.names (stand_front σ (unknown_letters typed.params typed.effects typed.answer) more.own m stand)

  abbrev ExpressionsComplete : Type 0
  ExpressionsComplete = (names : Named Ground) (s : EffectSet) (e : Expr) (t : Ground) (inside : List Ground) → HasType known_functions tables names s e t inside
      → Complete functions known_functions tables (walk functions tables e) names s t inside

  functions_complete : ExpressionsComplete → {fs : List FunDef} {ts nodes : List Ground} → AreFunctions known_functions tables in_mutual fs ts nodes → FunctionsComplete fs ts nodes
  functions_complete complete AreFunctions.none = none_complete
  functions_complete complete (AreFunctions.more {f} {fs} {t} {ts} nodes rest typed others) =
      more_complete f fs t ts nodes rest typed
      (function_complete functions known_functions tables in_mutual f t nodes typed (complete typed.params typed.effects f.body typed.answer typed.inside typed.body))
      (functions_complete complete others)

-- ---- the law

module _ (sound : (functions : Named (Entry Ty)) (known_functions : Named (Entry Ground)) (tables : List TableDecl) (e : Expr) → Sound functions known_functions tables (walk functions tables e) e)
    (complete : (functions : Named (Entry Ty)) (known_functions : Named (Entry Ground)) (tables : List TableDecl) (names : Named Ground) (s : EffectSet) (e : Expr) (t : Ground) (inside : List Ground)
    → HasType known_functions tables names s e t inside → Complete functions known_functions tables (walk functions tables e) names s t inside) where
  module _ (earlier : Named Scheme) (tables : List TableDecl) (decl : Decl) (ts nodes : List Ground) where
    abbrev fs : List FunDef
    fs = functions_in decl

    abbrev functions : Named (Entry Ty)
    functions = own_entries fs (group_types decl) ++ scheme_entries earlier

    abbrev known_functions : Named (Entry Ground)
    known_functions = own_entries fs ts ++ scheme_entries earlier

    group_sound : (σ : Grounding) → IsMetBy σ earlier tables decl ts nodes → IsGroup earlier tables decl ts nodes
    group_sound σ is =
        let found : FunctionsFound functions known_functions tables (is_mutual decl) σ (group_walked earlier tables decl) fs ts =
        functions_sound functions known_functions tables (is_mutual decl) (sound functions known_functions tables) σ (functions_become σ earlier fs (group_types decl) ts is.functions) fs 0 (after_unknowns fs 0) ts is.functions is.met in
        subst (λ ns. IsGroup earlier tables decl ts ns) (same_there found.nodes nodes (sym found.become ∙ is.inside)) found.typed

    group_complete : IsGroup earlier tables decl ts nodes → (σ : Grounding) × IsMetBy σ earlier tables decl ts nodes
    group_complete typed =
        let all : FunctionsComplete functions known_functions tables (is_mutual decl) fs ts nodes = functions_complete functions known_functions tables (is_mutual decl) (complete functions known_functions tables) typed in
        let σ : Grounding = grounding_of (all.own ++ all.inner) in
        let stand : Stand σ 0 (all.own ++ all.inner) = stand_all (all.own ++ all.inner) in
        let own : Stand σ 0 all.own = stand_front σ all.own all.inner 0 stand in
        let types : Become σ (group_types decl) ts = all.become σ 0 own in
        let walked : FunctionMet σ (group_walked earlier tables decl) (length all.inner + after_unknowns fs 0) nodes =
        all.met σ 0 (after_unknowns fs 0) (functions_become σ earlier fs (group_types decl) ts types) own (stand_next σ all.own all.inner 0 (after_unknowns fs 0) (all.ends 0) stand) in
        (σ, record { met = walked.met; functions = types; inside = walked.become })

  pub walk_law_from : WalkLaw
  walk_law_from earlier tables decl ts nodes = (group_complete earlier tables decl ts nodes, λ is. group_sound earlier tables decl ts nodes is.0 is.1)
