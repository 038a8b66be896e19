-- A use of a name has the type that the context tells.
use Rattle.std.proofs.Common.{◌≡◌, inl, inr, refl, sym, ap, subst, ◌∙◌, ℕ, Bool, true, false, List, [], ◌∷◌, ◌++◌, Option, Some, drop, map, if◌then◌else◌, slice_get}
use Rattle.std.proofs.lemmas.Bool.{eqb-true}
use Rattle.std.proofs.lemmas.Option.{none-some}
use Rattle.std.specs.Prelude.{◌==◌}
use Rattle.lk_types.proofs.Parts.{same_some}
use Rattle.lk_types.specs.declared.ground.Ground.{Ground}
use Rattle.lk_typing.specs.Names.{Named}
use Rattle.lk_ir.proofs.Lookups.{not_equal}
use Rattle.lk_ir.specs.Tables.{body_at, form_at}
use Rattle.lk_ir.specs.TypedUses as typed_uses
use Rattle.lk_ir.specs.TypedUses.{AmongKept, NeedsAs, UsedAs, UsedBehindAs, UsedInTailsAs, UsesAs}
use Rattle.lk_ir.specs.Uses as used
use Rattle.lk_ir.specs.Uses.{Among, IsFreeOf, binds, first_binds}
use Rattle.lk_ir.specs.declared.nodes.Block.{Block}
use Rattle.lk_ir.specs.declared.nodes.Body.{Body}
use Rattle.lk_ir.specs.declared.nodes.CaseForm.{CaseForm}
use Rattle.lk_ir.specs.declared.nodes.Form.{Form}
use Rattle.lk_ir.specs.declared.nodes.Forms.{Forms}
use Rattle.lk_ir.specs.declared.nodes.Kept.{Kept}
use Rattle.lk_ir.specs.declared.nodes.Kind.{Kind}
use Rattle.lk_ir.specs.declared.nodes.Kind.TheVariants as kind
use Rattle.lk_code.proofs.TypedUnder.{case_binds}
use Rattle.lk_code.specs.Parts as typed
use Rattle.lk_code.specs.Parts.{Context, Info, Asked, CaseRules, AreNamed, AreKept, under_names, Rule, IsTyped, AreTyped, HaveTypes, HasBodies, HaveBodies, IsTypedBody, type_in}
use Rattle.lk_code.specs.Tables.{type_at}

-- What is said of numbers is said of all that stands below them, and the bodies of lambdas there are typed.
pub record AreGiven (f : Forms) (info : ℕ → Option Info) (One : ℕ → Type 0) (Many : List ℕ → Type 0) : Type 0 where
  pub bodies : (n : ℕ) (form : Form) → One n → form_at f n ≡ Some form → (label : ℕ) (xs : List ℕ) (b : Body) → form.kind ≡ kind.Lambda label xs → body_at f label ≡ Some b → IsTypedBody f info label b × One b.root
  pub parts : (n : ℕ) (form : Form) → One n → form_at f n ≡ Some form → Many form.parts
  pub tails : (n : ℕ) (form : Form) → One n → form_at f n ≡ Some form → Many form.tails
  pub first : (n : ℕ) (ns : List ℕ) → Many (n ∷ ns) → One n
  pub others : (n : ℕ) (ns : List ℕ) → Many (n ∷ ns) → Many ns

module _ (f : Forms) (info : ℕ → Option Info) (x ty : ℕ) where
  -- the context tells of the name the type with this number
  abbrev pub Told : Context → Type 0
  Told c = (t : Ground) × (slice_get f.types ty ≡ Some t) × (type_in x c ≡ Some t)

  -- what is asked of tails that bind these names: under contexts that tell of other names as this one
  data AreUnder (c : Context) : List (Option ℕ) → List Asked → Type 0 where
    no_more : {bs : List (Option ℕ)} → AreUnder c bs []
    under_one : {bs : List (Option ℕ)} {r : Asked} {rs : List Asked} → (IsFreeOf (first_binds bs) x → Told r.0 → Told c) → AreUnder c (drop 1 bs) rs → AreUnder c bs (r ∷ rs)

  hidden : (y : ℕ) (a : Ground) (c : Context) → (y ≡ x → ⊥) → Told ((y, a) ∷ c) → Told c
  hidden y a c apart told = (told.0, told.1, subst (λ b. (if b then Some a else type_in x c) ≡ Some told.0) (not_equal y x apart) told.2)

  cases_under : {c : Context} {t : Ground} {cases : List CaseForm} {tags : Named Ground} {asked : List Asked} (bs : List (Option ℕ)) (rs : List Asked) → CaseRules c t cases tags asked → AreUnder c bs rs → AreUnder c (map case_binds cases ++ bs) (asked ++ rs)
  cases_under bs rs typed.no_case last = last
  cases_under {c = c} bs rs (typed.under_name {x = y} {a = a} rules) last = under_one (hidden y a c) (cases_under bs rs rules last)
  cases_under bs rs (typed.bare rules) last = under_one (λ free told. told) (cases_under bs rs rules last)

  append_none : (rs : List Asked) → rs ++ [] ≡ rs
  append_none [] = refl
  append_none (r ∷ rs) = ap (λ more. r ∷ more) (append_none rs)

  tails_under : {c : Context} {k : Kind} {ts : List Ground} {rs : List Asked} {t : Ground} → Rule f info c k ts rs t → AreUnder c (binds k) rs
  tails_under (typed.operation rule) = no_more
  tails_under (typed.name is) = no_more
  tails_under (typed.function a b e has) = no_more
  tails_under (typed.lambda a b has) = no_more
  tails_under (typed.call a b e has) = no_more
  tails_under (typed.apply effects) = no_more
  tails_under {c = c} (typed.bind {x = y} {a = a}) = under_one (hidden y a c) no_more
  tails_under typed.then_next = under_one (λ free told. told) no_more
  tails_under typed.choose_if = under_one (λ free told. told) (under_one (λ free told. told) no_more)
  tails_under typed.choose_and = under_one (λ free told. told) no_more
  tails_under typed.choose_or = under_one (λ free told. told) no_more
  tails_under (typed.choose_where a) = under_one (λ free told. told) no_more
  tails_under typed.print = no_more
  tails_under {c = c} (typed.switch {cases = cases} {asked = asked} row rules made) = subst (AreUnder c (map case_binds cases ++ [])) (append_none asked) (cases_under [] [] rules no_more)
  tails_under {c = c} (typed.switch_open {x = y} other row rules made) = cases_under _ _ rules (under_one (hidden y _ c) no_more)
  tails_under {c = c} (typed.for_each {x = y} a b) = under_one (hidden y a c) no_more
  tails_under (typed.insert a b) = no_more
  tails_under (typed.reach c a b) = no_more

  -- ---- names

  kept_told : (c : Context) (kept : List Kept) (ts : List Ground) → AmongKept x ty kept → AreKept f c kept ts → Told c
  kept_told c _ [] typed_uses.here_kept kept = absurd kept
  kept_told c _ (t ∷ ts) typed_uses.here_kept kept = (t, kept.1, kept.0)
  kept_told c _ [] (typed_uses.later_kept among) kept = absurd kept
  kept_told c _ (t ∷ ts) (typed_uses.later_kept among) kept = kept_told c _ ts among kept.2

  named_told : (c : Context) (xs : List ℕ) (ts : List Ground) (t : Ground) → AreNamed c xs ts → type_in x (under_names xs ts []) ≡ Some t → type_in x c ≡ Some t
  named_told c [] [] t all is = absurd (none-some t is)
  named_told c [] (u ∷ ts) t all is = absurd all
  named_told c (y ∷ xs) [] t all is = absurd all
  named_told c (y ∷ xs) (u ∷ ts) t all is = by_test (y == x) refl is (named_told c xs ts t all.1)
    where
      by_test : (b : Bool) → (y == x) ≡ b → (if b then Some u else type_in x (under_names xs ts [])) ≡ Some t → (type_in x (under_names xs ts []) ≡ Some t → type_in x c ≡ Some t) → type_in x c ≡ Some t
      by_test true same found later = subst (λ z. type_in z c ≡ Some t) (eqb-true y x same) (all.0 ∙ found)
      by_test false same found later = later found

  without_params : (params : List ℕ) (ts : List Ground) (c : Context) → (Among x params → ⊥) → Told (under_names params ts c) → Told c
  without_params [] ts c none told = told
  without_params (y ∷ params) [] c none told = told
  without_params (y ∷ params) (t ∷ ts) c none told =
      without_params params ts c (λ among. none (used.later among)) (hidden y t (under_names params ts c) (λ same. none (subst (λ z. Among x (z ∷ params)) (sym same) used.here)) told)

  same_form : (n : ℕ) (a b : Form) → form_at f n ≡ Some a → form_at f n ≡ Some b → a ≡ b
  same_form n a b is also = same_some (sym is ∙ also)

  name_told : {c : Context} {k : Kind} {ts : List Ground} {rs : List Asked} {t : Ground} → Rule f info c k ts rs t → k ≡ kind.Name x → slice_get f.types ty ≡ Some t → Told c
  name_told {c = c} {t = t} (typed.name {x = y} is) same has = let one : y ≡ x = cc in (t, has, subst (λ z. type_in z c ≡ Some t) one is)
  name_told other same has = cc

  block_told : {c : Context} {k : Kind} {ts : List Ground} {rs : List Asked} {t : Ground} (b : Block) (label : ℕ) (kept : List Kept) → Rule f info c k ts rs t → k ≡ kind.Reach b label kept → AmongKept x ty kept → Told c
  block_told {c = c} b label kept (typed.reach {kept = other} {of = of} takes is all) same among = let one : other ≡ kept = cc in kept_told c kept of.params among (subst (λ ks. AreKept f c ks of.params) one all)
  block_told {c = c} b label kept (typed.insert is a) same among = let one : [] ≡ kept = cc in no_kept (subst (AmongKept x ty) (sym one) among)
    where
      no_kept : AmongKept x ty [] → Told c
      no_kept among = elim among [ ]
  block_told b label kept other same among = cc

  lambda_told : {c : Context} {k : Kind} {ts : List Ground} {rs : List Asked} {t : Ground} (label : ℕ) (xs : List ℕ) → Rule f info c k ts rs t → k ≡ kind.Lambda label xs → (of : Info) × (info label ≡ Some of) × AreNamed c xs of.env
  lambda_told {c = c} label xs (typed.lambda {label = other} {xs = ys} {of = of} is all has) same = let one : other ≡ label = cc in let two : ys ≡ xs = cc in (of, subst (λ l. info l ≡ Some of) one is, subst (λ zs. AreNamed c zs of.env) two all)
  lambda_told label xs other same = cc

  module _ (One : ℕ → Type 0) (Many : List ℕ → Type 0) (given : AreGiven f info One Many) where
    mutual
      use_told : {c : Context} {n : ℕ} {t : Ground} → UsesAs f x ty n → One n → IsTyped f info c n t → Told c
      use_told {n = n} (typed_uses.itself_as other there needs) one (typed.node form ts rests is has rule parts tails) =
          let same = same_form _ other form there is in
          need_told needs (ap (λ (g : Form). g.kind) same) (ap (λ (g : Form). g.ty) same) has rule (given.bodies n form one is)
      use_told {c = c} {n = n} (typed_uses.in_part_as other there used) one (typed.node form ts rests is has rule parts tails) =
          part_told used (given.parts n other one there) (subst (λ (g : Form). AreTyped f info c g.parts ts) (sym (same_form _ other form there is)) parts)
      use_told {c = c} {n = n} (typed_uses.in_tail_as other there used) one (typed.node form ts rests is has rule parts tails) =
          let same = same_form _ other form there is in
          tail_told used (given.tails n other one there) (subst (λ (g : Form). HaveTypes f info g.tails rests) (sym same) tails) (subst (λ (g : Form). AreUnder c (binds g.kind) rests) (sym same) (tails_under rule))

      -- what the node looks up itself
      need_told : {c : Context} {k other : Kind} {own number : ℕ} {ts : List Ground} {rests : List Asked} {t : Ground} → NeedsAs f x ty other own → other ≡ k → own ≡ number → slice_get f.types number ≡ Some t → Rule f info c k ts rests t
          → ((label : ℕ) (xs : List ℕ) (b : Body) → k ≡ kind.Lambda label xs → body_at f label ≡ Some b → IsTypedBody f info label b × One b.root) → Told c
      need_told typed_uses.own_name same own has rule bodies = name_told rule (sym same) (ap (slice_get f.types) own ∙ has)
      need_told (typed_uses.kept_name {b = b} {label = label} {kept = kept} among) same own has rule bodies = block_told b label kept rule (sym same) among
      need_told {c = c} (typed_uses.captured_name {label = label} {xs = xs} b body names captured none used) same own has rule bodies =
          let of = lambda_told label xs rule (sym same) in
          let found = bodies label xs b (sym same) body in
          let inner : IsTypedBody f info label b = found.0 in
          let info_same : inner.of ≡ of.0 = same_some (sym inner.is ∙ of.1) in
          let told = use_told used found.1 inner.typed in
          let outside = without_params b.params inner.of.params (under_names b.names inner.of.env []) none told in
          (outside.0, outside.1, named_told c xs of.0.env outside.0 of.2 (ap (λ env. type_in x (under_names xs env [])) (sym (ap (λ (i : Info). i.env) info_same)) ∙ ap (λ ys. type_in x (under_names ys inner.of.env [])) (sym names) ∙ outside.2))

      part_told : {c : Context} {ns : List ℕ} {ts : List Ground} → UsedAs f x ty ns → Many ns → AreTyped f info c ns ts → Told c
      part_told (typed_uses.first_as {n = n} {ns = ns} one_use) many (typed.more one rest) = use_told one_use (given.first n ns many) one
      part_told (typed_uses.others_as {n = n} {ns = ns} used) many (typed.more one rest) = part_told used (given.others n ns many) rest

      tail_told : {c : Context} {bs : List (Option ℕ)} {ns : List ℕ} {rs : List Asked} → UsedInTailsAs f x ty bs ns → Many ns → HaveTypes f info ns rs → AreUnder c bs rs → Told c
      tail_told (typed_uses.first_tail_as {n = n} {ns = ns} free one_use) many (typed.tail one rest) (under_one told others) = told free (use_told one_use (given.first n ns many) one)
      tail_told (typed_uses.other_tails_as {n = n} {ns = ns} used) many (typed.tail one rest) (under_one told others) = tail_told used (given.others n ns many) rest others

  -- ---- where the bodies of the lambdas in a node are typed

  given_by_bodies : AreGiven f info (HasBodies f info) (HaveBodies f info)
  given_by_bodies = record { bodies = bodies; parts = parts; tails = tails; first = first; others = others }
    where
      bodies : (n : ℕ) (form : Form) → HasBodies f info n → form_at f n ≡ Some form → (label : ℕ) (xs : List ℕ) (b : Body) → form.kind ≡ kind.Lambda label xs → body_at f label ≡ Some b → IsTypedBody f info label b × HasBodies f info b.root
      bodies n form (typed.with_bodies third is_third inner below in_parts in_tails) there label xs b is_lambda body =
          let also = ap (λ (g : Form). g.kind) (same_form n third form is_third there) ∙ is_lambda in (inner label xs b also body, below label xs b also body)

      parts : (n : ℕ) (form : Form) → HasBodies f info n → form_at f n ≡ Some form → HaveBodies f info form.parts
      parts n form (typed.with_bodies third is_third inner below in_parts in_tails) there = subst (λ (g : Form). HaveBodies f info g.parts) (same_form n third form is_third there) in_parts

      tails : (n : ℕ) (form : Form) → HasBodies f info n → form_at f n ≡ Some form → HaveBodies f info form.tails
      tails n form (typed.with_bodies third is_third inner below in_parts in_tails) there = subst (λ (g : Form). HaveBodies f info g.tails) (same_form n third form is_third there) in_tails

      first : (n : ℕ) (ns : List ℕ) → HaveBodies f info (n ∷ ns) → HasBodies f info n
      first n ns (typed.more_bodies body others) = body

      others : (n : ℕ) (ns : List ℕ) → HaveBodies f info (n ∷ ns) → HaveBodies f info ns
      others n ns (typed.more_bodies body rest) = rest

  pub typed_use : {c : Context} {n : ℕ} {t : Ground} → UsesAs f x ty n → HasBodies f info n → IsTyped f info c n t → Told c
  typed_use uses has typed_so = use_told (HasBodies f info) (HaveBodies f info) given_by_bodies uses has typed_so

  -- ---- where all bodies are

  abbrev Of : ℕ → Type 0
  Of n = Unit {0}

  abbrev OfAll : List ℕ → Type 0
  OfAll ns = Unit {0}

  module _ (bodies : (label : ℕ) (b : Body) → body_at f label ≡ Some b → IsTypedBody f info label b) where
    given_by_table : AreGiven f info Of OfAll
    given_by_table = record {
      bodies = λ n form one there label xs b is_lambda body. (bodies label b body, tt);
      parts = λ n form one there. tt;
      tails = λ n form one there. tt;
      first = λ n ns many. tt;
      others = λ n ns many. tt;
    }

    -- a use behind some positions has the type that the context tells
    pub use_behind : {c : Context} (form : Form) (left : List ℕ) {t : Ground} {all ts : List Ground} {rests : List Asked} → UsedBehindAs f form left x ty → type_at f form.ty ≡ Some t → Rule f info c form.kind all rests t → AreTyped f info c left ts
        → HaveTypes f info form.tails rests → Told c
    use_behind form left (inl uses) has rule parts tails = part_told Of OfAll given_by_table uses tt parts
    use_behind form left (inr (inl needs)) has rule parts tails = need_told Of OfAll given_by_table needs refl refl has rule (λ label xs b is_lambda body. (bodies label b body, tt))
    use_behind form left (inr (inr uses)) has rule parts tails = tail_told Of OfAll given_by_table uses tt tails (tails_under rule)
