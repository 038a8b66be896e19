-- What a node uses is free in the expression that it is lowered from.
use Rattle.std.proofs.Common.{◌≡◌, ◌⊎◌, inl, inr, ⊎_elim, refl, sym, ap, subst, ◌∙◌, ℕ, Bool, true, false, ◌||◌, cond, slice_get, List, [], ◌∷◌, ◌++◌, map, Option, Some, None, IsSome, is_some}
use Rattle.std.specs.Option.{option_map}
use Rattle.std.specs.Cmp.Lexicographic.{slice_cmp}
use Rattle.std.specs.FinSet as set
use Rattle.std.specs.List.Sorted.{IsStrictlySortedBy}
use Rattle.std.specs.Ordering.{nat_cmp}
use Rattle.std.specs.Prelude.{bytes_eq}
use Rattle.lk_evaluation.specs.Laws.{Both}
use Rattle.lk_ast.specs.Layers.{Layer, layer}
use Rattle.lk_ast.specs.declared.declaration.TableDecl.{TableDecl}
use Rattle.lk_ast.specs.declared.expression.Case.{Case}
use Rattle.lk_ast.specs.declared.expression.Expr.{Expr}
use Rattle.lk_ast.specs.declared.place.Span.{Span}
use Rattle.lk_ast.specs.declared.place.Word.{Word}
use Rattle.lk_index.specs.Free.{free, free_case, free_lambda, free_change, captured}
use Rattle.lk_scope.specs.Names.{Names, no_names, is_local, bind, bind_some}
use Rattle.lk_types.proofs.Members.{one_in_front, one_in_back}
use Rattle.lk_types.specs.Rows.{Label, EffectSet}
use Rattle.lk_types.specs.declared.ground.Ground.{Ground}
use Rattle.lk_typing.specs.Heads as operator
use Rattle.lk_typing.specs.Heads.{Head, head, parts}
use Rattle.lk_typing.specs.Names.{Named, Entry}
use Rattle.lk_typing.specs.Typing.{HasType, HaveTypes, HaveCases, plain, lambda, var, switch, switch_open, for_list, for_table, query, update, delete, none, more, no_cases, case_of, label_of, expr_of, head_of}
use Rattle.lk_typing.specs.Typing as typing
use Rattle.lk_sound.proofs.FreeLevels.{case_level, lambda_level, free_all, free_cases, own_uses, free_plain, free_lambda_form, free_var, free_switch, free_switch_open, free_for_list, free_for_table, free_query, free_update, free_delete}
use Rattle.lk_sound.proofs.FreeUnder.{free_also}
use Rattle.lk_sound.proofs.Names.{IsAmong}
use Rattle.lk_sound.proofs.OrderedWords.{ordered_of}
use Rattle.lk_sound.proofs.Standing.{bound_one}
use Rattle.lk_ir.specs.Tables.{form_at, names_of}
use Rattle.lk_ir.specs.Uses as used_by
use Rattle.lk_ir.specs.Uses.{Among, IsFreeOf, Needs, Uses, UsedIn, UsedInTails, binds, first_binds}
use Rattle.lk_ir.specs.declared.nodes.CaseForm.{CaseForm}
use Rattle.lk_ir.specs.declared.nodes.Form.{Form}
use Rattle.lk_ir.specs.declared.nodes.Forms.{Forms}
use Rattle.lk_ir.specs.declared.nodes.Kind.{Kind}
use Rattle.lk_ir.specs.declared.nodes.Kind.TheVariants as kind
use Rattle.lk_lower.specs.Lowering as low
use Rattle.lk_lower.specs.Lowering.{IsCase, IsLocal, IsMaybeLocal, Pending, Shell, IsLowered, AreLowered, case_bodies, text_of}
use Rattle.lk_code.proofs.TypedUnder.{case_binds}
use Rattle.lk_lower.proofs.Counted.{lowered_both}
use Rattle.lk_code.specs.Parts as code
use Rattle.lk_lowered.proofs.Contexts.{among_local, apart_texts}
use Rattle.lk_lowered.proofs.Locals.{one_place}
use Rattle.lk_lowered.proofs.Operators.{is_op, op_head, op_is, plain_children}
use Rattle.lk_lowered.proofs.Inverted.{as_node, as_lambda, as_one, as_none}
use Rattle.lk_lowered.proofs.NodeKinds.{IsBlockOf, binds_are, closed_kind, delete_kind, list_kind, no_lambda, open_kind, query_kind, table_kind, update_kind, var_kind}
use Rattle.lk_types.proofs.Parts.{same_some}

pub none_among : {x : ℕ} → Among x [] → ⊥
none_among among = elim among [ ]

-- ---- names that aren't bound inside

pub nothing_local : (x : Label) → is_local no_names x ≡ false
nothing_local x = set.contains-empty (slice_cmp nat_cmp) x

pub inner_free : (w : Word) (bound : Names) (y : Label) → bytes_eq w.text y ≡ false → is_local bound y ≡ false → is_local (bind w bound) y ≡ false
inner_free w bound y apart free = bound_one w bound y ∙ ap (λ b. b || is_local bound y) apart ∙ free

-- what a case binds isn't this name
some_free : (f : Forms) (rise : IsStrictlySortedBy (slice_cmp nat_cmp) f.locals) (x : ℕ) (y : Label) → IsLocal f x y → (number : Option ℕ) (name : Option Word) (bound : Names) → IsMaybeLocal f number (option_map text_of name) → IsFreeOf number x → is_local bound y ≡ false → is_local (bind_some name bound) y ≡ false
some_free f rise x y there None None bound is apart free = free
some_free f rise x y there None (Some w) bound is apart free = absurd is
some_free f rise x y there (Some j) None bound is apart free = absurd is
some_free f rise x y there (Some j) (Some w) bound is apart free = inner_free w bound y (apart_texts f rise j x w.text y is there apart) free

-- ---- what is used in lists

module _ (f : Forms) (x : ℕ) where
  pub uses_are : {n : ℕ} (form : Form) → form_at f n ≡ Some form → Uses f x n → Needs form.kind x ⊎ UsedIn f x form.parts ⊎ UsedInTails f x (binds form.kind) form.tails
  uses_are form is (used_by.itself other there needs) = inl (subst (λ (g : Form). Needs g.kind x) (same_some (sym there ∙ is)) needs)
  uses_are form is (used_by.in_part other there uses) = inr (inl (subst (λ (g : Form). UsedIn f x g.parts) (same_some (sym there ∙ is)) uses))
  uses_are form is (used_by.in_tail other there uses) = inr (inr (subst (λ (g : Form). UsedInTails f x (binds g.kind) g.tails) (same_some (sym there ∙ is)) uses))

  pub flat_tails : {ns : List ℕ} → UsedInTails f x [] ns → UsedIn f x ns
  flat_tails (used_by.first_tail free uses) = used_by.first uses
  flat_tails (used_by.other_tails uses) = used_by.others (flat_tails uses)

  pub in_front : (ns ms : List ℕ) → UsedIn f x ns → UsedIn f x (ns ++ ms)
  in_front _ ms (used_by.first uses) = used_by.first uses
  in_front _ ms (used_by.others uses) = used_by.others (in_front _ ms uses)

  pub in_back : (ns ms : List ℕ) → UsedIn f x ms → UsedIn f x (ns ++ ms)
  in_back [] ms uses = uses
  in_back (n ∷ ns) ms uses = used_by.others (in_back ns ms uses)

  pub no_use : UsedIn f x [] → ⊥
  no_use uses = elim uses [ ]

  no_tail_use : {bs : List (Option ℕ)} → UsedInTails f x bs [] → ⊥
  no_tail_use uses = elim uses [ ]

  pub no_tail_use_in : {bs : List (Option ℕ)} {ns : List ℕ} → ns ≡ [] → UsedInTails f x bs ns → ⊥
  no_tail_use_in {bs} are uses = no_tail_use (subst (UsedInTails f x bs) are uses)

  last_of : {n : ℕ} → UsedIn f x (n ∷ []) → Uses f x n
  last_of (used_by.first uses) = uses
  last_of (used_by.others uses) = absurd (no_use uses)

  pub one_use : {n : ℕ} {ns : List ℕ} → ns ≡ n ∷ [] → UsedIn f x ns → Uses f x n
  one_use are uses = last_of (subst (UsedIn f x) are uses)

  last_tail : {n : ℕ} {bs : List (Option ℕ)} → UsedInTails f x bs (n ∷ []) → IsFreeOf (first_binds bs) x × Uses f x n
  last_tail (used_by.first_tail free uses) = (free, uses)
  last_tail (used_by.other_tails uses) = absurd (no_tail_use uses)

  pub one_tail_use : {n : ℕ} {ns : List ℕ} {k : Kind} (bs : List (Option ℕ)) → k ≡ k → binds k ≡ bs → ns ≡ n ∷ [] → UsedInTails f x (binds k) ns → IsFreeOf (first_binds bs) x × Uses f x n
  one_tail_use {n} {ns} bs same named are uses = last_tail (subst (λ ms. UsedInTails f x bs ms) are (subst (λ cs. UsedInTails f x cs ns) named uses))

-- ---- what an operator needs itself

no_own : (h : Head) (bound : Names) → is_op h ≡ true → own_uses (Some h) bound ≡ []
no_own (operator.Local z) bound is = let wrong : false ≡ true = is in cc
no_own other bound is = refl

module _ (f : Forms) (rise : IsStrictlySortedBy (slice_cmp nat_cmp) f.locals) (x : ℕ) (y : Label) (there : IsLocal f x y) where
  pub record IsPlain (h : Option Head) (k : Kind) : Type 0 where
    pub no_binder : binds k ≡ []
    pub needs : (bound : Names) → Needs k x → is_local bound y ≡ false → IsAmong y (own_uses h bound)
    pub needed : (bound : Names) → IsAmong y (own_uses h bound) → Needs k x

  needs_none : {h : Option Head} {k : Kind} → binds k ≡ [] → (Needs k x → ⊥) → ((bound : Names) → own_uses h bound ≡ []) → IsPlain h k
  needs_none binder nothing unused = record { no_binder = binder; needs = λ bound needs free. absurd (nothing needs); needed = λ bound among. absurd (subst (IsAmong y) (unused bound) among) }

  own_name : (z : Label) (j : ℕ) → IsLocal f j z → IsPlain (Some (operator.Local z)) (kind.Name j)
  own_name z j is = record {
    no_binder = refl;
    needs = λ bound same free.
        (let text : z ≡ y = same_some (sym is ∙ ap (slice_get f.locals) same ∙ there) in
        subst (λ b. IsAmong y (cond b [] (z ∷ []))) (sym (ap (is_local bound) text ∙ free)) (inl text));
    needed = λ bound among. by_test (is_local bound z) among;
  }
    where
      by_test : (b : Bool) → IsAmong y (cond b [] (z ∷ [])) → j ≡ x
      by_test true among = absurd among
      by_test false (inl same) = one_place f.locals rise j x y (subst (IsLocal f j) same is) there
      by_test false (inr among) = absurd among

  pub plain_kind : (owner n ty : ℕ) {l : Layer} {at : Span} {p q : Pending} {k : Kind} → Shell f owner n ty l at p k q → IsSome (head label_of expr_of l) → IsPlain (head label_of expr_of l) k
  plain_kind owner n ty (low.operation {l = l} {o = o} is) some = needs_none refl (λ absurdity. absurdity) (λ bound. ap (λ h. own_uses h bound) (op_head l o is) ∙ no_own (code.head_of o) bound (op_is o))
  plain_kind owner n ty (low.name {x = z} {k = j} is) some = own_name z j is
  plain_kind owner n ty (low.function is) some = needs_none refl (λ absurdity. absurdity) (λ bound. refl)
  plain_kind owner n ty (low.call is) some = needs_none refl (λ absurdity. absurdity) (λ bound. refl)
  plain_kind owner n ty low.apply some = needs_none refl (λ absurdity. absurdity) (λ bound. refl)
  plain_kind owner n ty (low.bind is) some = absurd cc
  plain_kind owner n ty low.then_next some = needs_none refl (λ absurdity. absurdity) (λ bound. refl)
  plain_kind owner n ty low.choose_if some = needs_none refl (λ absurdity. absurdity) (λ bound. refl)
  plain_kind owner n ty low.choose_and some = needs_none refl (λ absurdity. absurdity) (λ bound. refl)
  plain_kind owner n ty low.choose_or some = needs_none refl (λ absurdity. absurdity) (λ bound. refl)
  plain_kind owner n ty low.choose_where some = needs_none refl (λ absurdity. absurdity) (λ bound. refl)
  plain_kind owner n ty low.print some = needs_none refl (λ absurdity. absurdity) (λ bound. refl)
  plain_kind owner n ty (low.switch are is) some = absurd cc
  plain_kind owner n ty (low.for_list is) some = absurd cc
  plain_kind owner n ty (low.for_table is) some = absurd cc
  plain_kind owner n ty (low.table of) some = needs_none refl none_among (λ bound. refl)
  plain_kind owner n ty (low.insert of touched) some = needs_none refl none_among (λ bound. refl)
  plain_kind owner n ty (low.query of kept) some = absurd cc
  plain_kind owner n ty (low.update of kept touched) some = absurd cc
  plain_kind owner n ty (low.delete of kept touched) some = absurd cc

  -- the positions and tails of an operator are its parts
  pub record IsOperator (owner within n : ℕ) (e : Expr) (h : Head) : Type 0 where
    pub form : Form
    pub is : form_at f n ≡ Some form
    pub own : IsPlain (Some h) form.kind
    pub before : Pending
    pub after : Pending
    pub lowered : AreLowered f owner within (typing.parts_of e) before (form.parts ++ form.tails) after

  pub as_operator : {owner within n : ℕ} {e : Expr} {before after : Pending} (h : Head) → head_of e ≡ Some h → IsLowered f owner within e before n after → IsOperator owner within n e h
  as_operator {owner} {within} {n} {e} {before} {after} h is lowered =
      let m = as_node f owner (layer e) refl (no_lambda (layer e) h is) lowered in
      record {
        form = m.form;
        is = m.there;
        own = subst (λ o. IsPlain o m.form.kind) is (plain_kind owner _ _ m.shell (ap is_some is));
        before = m.inside;
        after = after;
        lowered = subst (λ es. AreLowered f owner within es m.inside (m.form.parts ++ m.form.tails) after) (plain_children (layer e) h is) (lowered_both m.parts m.tails);
      }

-- a node that binds one name in its one tail, and needs none
bind_needs : (k : Kind) (x : ℕ) (j : ℕ) → (k ≡ kind.Bind j) ⊎ (k ≡ kind.For j) → Needs k x → ⊥
bind_needs k x j (inl same) needs = subst (λ i. Needs i x) same needs
bind_needs k x j (inr same) needs = subst (λ i. Needs i x) same needs

switch_needs : (k : Kind) (x : ℕ) (cases : List CaseForm) (last : Option ℕ) → k ≡ kind.Switch cases last → Needs k x → ⊥
switch_needs k x cases last same needs = subst (λ j. Needs j x) same needs

-- what is free in one of two is free in both
pub front : (x : Label) (xs ys : List Label) → IsAmong x xs → IsAmong x (xs ++ ys)
front x xs ys among = one_in_front (λ y. y ≡ x) xs ys among

pub back : (x : Label) (xs ys : List Label) → IsAmong x ys → IsAmong x (xs ++ ys)
back x xs ys among = one_in_back (λ y. y ≡ x) xs ys among

-- what is left of tails behind those of the cases
record AreLeft (f : Forms) (x : ℕ) (owner within : ℕ) (es : List Expr) (bs : List (Option ℕ)) (after : Pending) : Type 0 where
  before : Pending
  numbers : List ℕ
  lowered : AreLowered f owner within es before numbers after
  uses : UsedInTails f x bs numbers

-- all that a node without children uses it needs itself
needed_by : (f : Forms) (x : ℕ) (y : Label) → IsLocal f x y → {owner n ty : ℕ} {names : List Label} (form : Form) → form_at f n ≡ Some form → form.parts ≡ [] → form.tails ≡ [] → IsBlockOf f owner n ty names form.kind → Uses f x n → IsAmong y names
needed_by f x y is {names = names} form there no_part no_tail k uses =
    ⊎_elim (λ (needed : Needs form.kind x). among_local f (names_of k.kept) names x y k.locals is (subst (λ i. Needs i x) k.is needed))
    (λ (others : UsedIn f x form.parts ⊎ UsedInTails f x (binds form.kind) form.tails).
    ⊎_elim (λ (us : UsedIn f x form.parts). absurd (no_use f x (subst (UsedIn f x) no_part us))) (λ (us : UsedInTails f x (binds form.kind) form.tails). absurd (no_tail_use_in f x no_tail us)) others)
    (uses_are f x form there uses)

module _ {functions : Named (Entry Ground)} {tables : List TableDecl} (f : Forms) (rise : IsStrictlySortedBy (slice_cmp nat_cmp) f.locals) (x : ℕ) (y : Label) (there : IsLocal f x y) (owner : ℕ) where
  mutual
    pub used : {names : Named Ground} {effects : EffectSet} {e : Expr} {t : Ground} {inside : List Ground} {within n : ℕ} {before after : Pending} → HasType functions tables names effects e t inside → IsLowered f owner within e before n after
        → (bound : Names) → Uses f x n → is_local bound y ≡ false → IsAmong y (free e bound)
    used {e = e} (plain h ts is have rule) lowered bound uses free_of =
        let o = as_operator f rise x y there h is lowered in
        let inner : UsedIn f x (o.form.parts ++ o.form.tails) → IsAmong y (free_all (typing.parts_of e) bound) = λ us. all_used have o.lowered bound us free_of in
        subst (IsAmong y) (sym (free_plain e h bound is))
        (⊎_elim (λ (needs : Needs o.form.kind x). front y (own_uses (Some h) bound) _ (o.own.needs bound needs free_of))
        (λ (others : UsedIn f x o.form.parts ⊎ UsedInTails f x (binds o.form.kind) o.form.tails). back y (own_uses (Some h) bound) _
        (⊎_elim (λ (us : UsedIn f x o.form.parts). inner (in_front f x o.form.parts o.form.tails us))
        (λ (us : UsedInTails f x (binds o.form.kind) o.form.tails). inner (in_back f x o.form.parts o.form.tails (flat_tails f x (subst (λ bs. UsedInTails f x bs o.form.tails) o.own.no_binder us)))) others))
        (uses_are f x o.form o.is uses))
    used {names} {effects} {e} {t} {inside} (lambda l params own b is are moves body local) lowered bound uses free_of =
        let m = as_lambda f owner l is lowered in
        let d : HasType functions tables names effects e t inside = lambda l params own b is are moves body local in
        let outside : free e no_names ≡ free_lambda l no_names = free_lambda_form e l no_names is ∙ sym (lambda_level l no_names) in
        ⊎_elim (λ (needs : Needs m.form.kind x). free_also d no_names bound y (subst (IsAmong y) (sym outside) (ordered_of (free_lambda l no_names) y (among_local f m.xs (captured l) x y m.locals there (subst (λ k. Needs k x) m.of needs)))) free_of)
        (λ (others : UsedIn f x m.form.parts ⊎ UsedInTails f x (binds m.form.kind) m.form.tails).
        ⊎_elim (λ (us : UsedIn f x m.form.parts). absurd (no_use f x (subst (UsedIn f x) m.no_part us)))
        (λ (us : UsedInTails f x (binds m.form.kind) m.form.tails). absurd (no_tail_use_in f x m.no_tail us)) others)
        (uses_are f x m.form m.there uses)
    used {e = e} (var w d rest a first last is of_d of_rest) lowered bound uses free_of =
        let m = as_node f owner _ is refl lowered in
        let one = as_one f owner m.parts in
        let next = as_one f owner m.tails in
        let same = var_kind f owner _ _ m.shell in
        subst (IsAmong y) (sym (free_var e w d rest bound is))
        (⊎_elim (λ (needs : Needs m.form.kind x). absurd (bind_needs _ x same.number (inl same.is) needs))
        (λ (others : UsedIn f x m.form.parts ⊎ UsedInTails f x (binds m.form.kind) m.form.tails).
        ⊎_elim (λ (us : UsedIn f x m.form.parts). front y (free d bound) _ (used of_d one.lowered bound (one_use f x one.are us) free_of))
        (λ (us : UsedInTails f x (binds m.form.kind) m.form.tails).
        let tail = one_tail_use f x {k = m.form.kind} (Some same.number ∷ []) refl (binds_are same.is) next.are us in
        back y (free d bound) _ (used of_rest next.lowered (bind w bound) tail.1 (inner_free w bound y (apart_texts f rise same.number x w.text y same.local there tail.0) free_of))) others)
        (uses_are f x m.form m.there uses))
    used {e = e} (switch d cases row tags ts first bodies is of_d of_branches each tagged local) lowered bound uses free_of =
        let m = as_node f owner _ is refl lowered in
        let one = as_one f owner m.parts in
        let same = closed_kind f owner _ _ m.shell in
        subst (IsAmong y) (sym (free_switch e d cases bound is))
        (⊎_elim (λ (needs : Needs m.form.kind x). absurd (switch_needs _ x same.forms None same.is needs))
        (λ (others : UsedIn f x m.form.parts ⊎ UsedInTails f x (binds m.form.kind) m.form.tails).
        ⊎_elim (λ (us : UsedIn f x m.form.parts). front y (free d bound) _ (used of_d one.lowered bound (one_use f x one.are us) free_of))
        (λ (us : UsedInTails f x (binds m.form.kind) m.form.tails).
        back y (free d bound) _ (⊎_elim (λ (among : IsAmong y (free_cases cases bound)). among)
        (λ (left : AreLeft f x owner _ [] [] _). absurd (no_tail_use_in f x (as_none f owner left.lowered).0 left.uses))
        (cases_used same.forms of_branches same.cases m.tails bound (subst (λ bs. UsedInTails f x bs m.form.tails) (binds_are same.is) us) free_of))) others)
        (uses_are f x m.form m.there uses))
    used {e = e} (switch_open d cases last rest row tags ts first bodies inside is of_d of_branches each of_last tagged local) lowered bound uses free_of =
        let m = as_node f owner _ is refl lowered in
        let one = as_one f owner m.parts in
        let same = open_kind f owner _ _ m.shell in
        subst (IsAmong y) (sym (free_switch_open e d cases last bound is))
        (⊎_elim (λ (needs : Needs m.form.kind x). absurd (switch_needs _ x same.forms (Some same.number) same.is needs))
        (λ (others : UsedIn f x m.form.parts ⊎ UsedInTails f x (binds m.form.kind) m.form.tails).
        ⊎_elim (λ (us : UsedIn f x m.form.parts). front y (free d bound ++ free_cases cases bound) _ (front y (free d bound) _ (used of_d one.lowered bound (one_use f x one.are us) free_of)))
        (λ (us : UsedInTails f x (binds m.form.kind) m.form.tails).
        ⊎_elim (λ (among : IsAmong y (free_cases cases bound)). front y (free d bound ++ free_cases cases bound) _ (back y (free d bound) _ among))
        (λ (left : AreLeft f x owner _ (last.body ∷ []) (Some same.number ∷ []) _).
        let final = as_one f owner left.lowered in
        let tail = last_tail f x (subst (λ ns. UsedInTails f x (Some same.number ∷ []) ns) final.are left.uses) in
        back y (free d bound ++ free_cases cases bound) _ (used of_last final.lowered (bind last.name bound) tail.1 (inner_free last.name bound y (apart_texts f rise same.number x last.name.text y same.local there tail.0) free_of)))
        (cases_used same.forms of_branches same.cases m.tails bound (subst (λ bs. UsedInTails f x bs m.form.tails) (binds_are same.is) us) free_of)) others)
        (uses_are f x m.form m.there uses))
    used {e = e} (for_list w d body a b first inside is of_d of_body) lowered bound uses free_of =
        let m = as_node f owner _ is refl lowered in
        let one = as_one f owner m.parts in
        let next = as_one f owner m.tails in
        let same = list_kind f owner _ _ m.shell in
        subst (IsAmong y) (sym (free_for_list e w d body bound is))
        (⊎_elim (λ (needs : Needs m.form.kind x). absurd (bind_needs _ x same.number (inr same.is) needs))
        (λ (others : UsedIn f x m.form.parts ⊎ UsedInTails f x (binds m.form.kind) m.form.tails).
        ⊎_elim (λ (us : UsedIn f x m.form.parts). front y (free d bound) _ (used of_d one.lowered bound (one_use f x one.are us) free_of))
        (λ (us : UsedInTails f x (binds m.form.kind) m.form.tails).
        let tail = one_tail_use f x {k = m.form.kind} (Some same.number ∷ []) refl (binds_are same.is) next.are us in
        back y (free d bound) _ (used of_body next.lowered (bind w bound) tail.1 (inner_free w bound y (apart_texts f rise same.number x w.text y same.local there tail.0) free_of))) others)
        (uses_are f x m.form m.there uses))
    used {e = e} (for_table w d body a b first inside is of_d of_body) lowered bound uses free_of =
        let m = as_node f owner _ is refl lowered in
        let one = as_one f owner m.parts in
        let next = as_one f owner m.tails in
        let same = table_kind f owner _ _ m.shell in
        subst (IsAmong y) (sym (free_for_table e w d body bound is))
        (⊎_elim (λ (needs : Needs m.form.kind x). absurd (bind_needs _ x same.number (inr same.is) needs))
        (λ (others : UsedIn f x m.form.parts ⊎ UsedInTails f x (binds m.form.kind) m.form.tails).
        ⊎_elim (λ (us : UsedIn f x m.form.parts). front y (free d bound) _ (used of_d one.lowered bound (one_use f x one.are us) free_of))
        (λ (us : UsedInTails f x (binds m.form.kind) m.form.tails).
        let tail = one_tail_use f x {k = m.form.kind} (Some same.number ∷ []) refl (binds_are same.is) next.are us in
        back y (free d bound) _ (used of_body next.lowered (bind w bound) tail.1 (inner_free w bound y (apart_texts f rise same.number x w.text y same.local there tail.0) free_of))) others)
        (uses_are f x m.form m.there uses))
    used {names} {effects} {e} {t} (query keys body a inside is of_body each scans by_client) lowered bound uses free_of =
        let m = as_node f owner _ is refl lowered in
        let d : HasType functions tables names effects e t _ = query keys body a inside is of_body each scans by_client in
        let k = query_kind f owner _ _ m.shell in
        free_also d no_names bound y (subst (IsAmong y) (sym (free_query e keys body no_names is)) (ordered_of (free body no_names) y (needed_by f x y there m.form m.there (as_none f owner m.parts).0 (as_none f owner m.tails).0 k uses))) free_of
    used {names} {effects} {e} {t} {inside} (update change is of_change writes) lowered bound uses free_of =
        let m = as_node f owner _ is refl lowered in
        let d : HasType functions tables names effects e t inside = update change is of_change writes in
        let k = update_kind f owner _ _ m.shell in
        free_also d no_names bound y (subst (IsAmong y) (sym (free_update e change no_names is)) (ordered_of (free_change change no_names) y (needed_by f x y there m.form m.there (as_none f owner m.parts).0 (as_none f owner m.tails).0 k uses))) free_of
    used {names} {effects} {e} {t} {inside} (delete change is of_change writes) lowered bound uses free_of =
        let m = as_node f owner _ is refl lowered in
        let d : HasType functions tables names effects e t inside = delete change is of_change writes in
        let k = delete_kind f owner _ _ m.shell in
        free_also d no_names bound y (subst (IsAmong y) (sym (free_delete e change no_names is)) (ordered_of (free_change change no_names) y (needed_by f x y there m.form m.there (as_none f owner m.parts).0 (as_none f owner m.tails).0 k uses))) free_of

    pub all_used : {names : Named Ground} {effects : EffectSet} {es : List Expr} {ts inside : List Ground} {within : ℕ} {ns : List ℕ} {before after : Pending} → HaveTypes functions tables names effects es ts inside → AreLowered f owner within es before ns after
        → (bound : Names) → UsedIn f x ns → is_local bound y ≡ false → IsAmong y (free_all es bound)
    all_used none low.none bound uses free_of = absurd (no_use f x uses)
    all_used (more {e = e} inside rest of_e of_es) (low.more one others) bound (used_by.first uses) free_of = front y (free e bound) _ (used of_e one bound uses free_of)
    all_used (more {e = e} inside rest of_e of_es) (low.more one others) bound (used_by.others uses) free_of = back y (free e bound) _ (all_used of_es others bound uses free_of)

    cases_used : {names : Named Ground} {effects : EffectSet} {cases : List Case} {ts : List Ground} {tags : Named Ground} {inside : List Ground} {within : ℕ} {es : List Expr} {bs : List (Option ℕ)} {ns : List ℕ} {before after : Pending}
        → (forms : List CaseForm) → HaveCases functions tables names effects cases ts tags inside → Both (IsCase f) cases forms → AreLowered f owner within (case_bodies cases ++ es) before ns after
        → (bound : Names) → UsedInTails f x (map case_binds forms ++ bs) ns → is_local bound y ≡ false → IsAmong y (free_cases cases bound) ⊎ AreLeft f x owner within es bs after
    cases_used [] no_cases are lowered bound uses free_of = inr (record { before = _; numbers = _; lowered = lowered; uses = uses })
    cases_used (form ∷ forms) no_cases are lowered bound uses free_of = absurd are
    cases_used [] (case_of a held inside rest is_held of_body of_branches) are lowered bound uses free_of = absurd are
    cases_used (form ∷ forms) (case_of {case = case} a held inside rest is_held of_body of_branches) are (low.more one others) bound (used_by.first_tail apart uses) free_of =
        inl (front y (free_case case bound) _ (subst (IsAmong y) (sym (case_level case bound)) (used of_body one (bind_some case.name bound) uses (some_free f rise x y there form.name case.name bound are.0.name apart free_of))))
    cases_used (form ∷ forms) (case_of {case = case} a held inside rest is_held of_body of_branches) are (low.more one others) bound (used_by.other_tails uses) free_of =
        ⊎_elim (λ (among : IsAmong y (free_cases _ bound)). inl (back y (free_case case bound) _ among)) (λ (left : AreLeft f x owner _ _ _ _). inr left) (cases_used forms of_branches are.1 others bound uses free_of)
