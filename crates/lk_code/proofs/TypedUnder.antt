-- A typed node stays so under names that tell the same of each name that it uses.
use Rattle.std.proofs.Common.{◌≡◌, refl, sym, ap, subst, ◌∙◌, ℕ, Bool, true, false, List, [], ◌∷◌, ◌++◌, Option, Some, None, drop, map, if◌then◌else◌}
use Rattle.std.specs.Prelude.{◌==◌}
use Rattle.lk_types.specs.declared.ground.Ground.{Ground}
use Rattle.lk_typing.specs.Names.{Named}
use Rattle.lk_ir.proofs.Lookups.{equal_self}
use Rattle.lk_ir.specs.Tables.{names_of}
use Rattle.lk_ir.specs.Uses as used
use Rattle.lk_ir.specs.Uses.{Among, IsFreeOf, Needs, Uses, UsedIn, UsedInTails, binds, first_binds}
use Rattle.lk_ir.specs.declared.nodes.CaseForm.{CaseForm}
use Rattle.lk_ir.specs.declared.nodes.Forms.{Forms}
use Rattle.lk_ir.specs.declared.nodes.Kept.{Kept}
use Rattle.lk_ir.specs.declared.nodes.Kind.{Kind}
use Rattle.lk_code.specs.Parts as typed
use Rattle.lk_code.specs.Parts.{Context, Info, Asked, CaseRules, AreNamed, AreKept, Rule, IsTyped, AreTyped, HaveTypes, type_in}

-- what is asked of tails that bind these names: the same types, and of each name the same where the contexts around tell the same
data AreAlike (c d : Context) : List (Option ℕ) → List Asked → List Asked → Type 0 where
  no_more : {bs : List (Option ℕ)} → AreAlike c d bs [] []
  one_alike : {bs : List (Option ℕ)} {r s : Asked} {rs ss : List Asked} → ((x : ℕ) → (IsFreeOf (first_binds bs) x → type_in x c ≡ type_in x d) → type_in x r.0 ≡ type_in x s.0) → r.1 ≡ s.1
      → AreAlike c d (drop 1 bs) rs ss → AreAlike c d bs (r ∷ rs) (s ∷ ss)

-- the name that a case binds
abbrev pub case_binds : CaseForm → Option ℕ
case_binds case = case.name

module _ (f : Forms) (info : ℕ → Option Info) where
  -- one name more
  one_more : (y : ℕ) (a : Ground) (c d : Context) (x : ℕ) → (IsFreeOf (Some y) x → type_in x c ≡ type_in x d) → type_in x ((y, a) ∷ c) ≡ type_in x ((y, a) ∷ d)
  one_more y a c d x same = by_test (y == x) refl
    where
      by_test : (b : Bool) → (y == x) ≡ b → (if b then Some a else type_in x c) ≡ (if b then Some a else type_in x d)
      by_test true is = refl
      by_test false is = same (λ equal. let wrong : true ≡ false = sym (subst (λ z. (y == z) ≡ true) equal (equal_self y)) ∙ is in cc)

  all_named : (c d : Context) (xs : List ℕ) (ts : List Ground) → ((x : ℕ) → Among x xs → type_in x c ≡ type_in x d) → AreNamed c xs ts → AreNamed d xs ts
  all_named c d [] [] same all = tt
  all_named c d [] (t ∷ ts) same all = absurd all
  all_named c d (x ∷ xs) [] same all = absurd all
  all_named c d (x ∷ xs) (t ∷ ts) same all = (sym (same x used.here) ∙ all.0, all_named c d xs ts (λ y among. same y (used.later among)) all.1)

  all_kept : (c d : Context) (kept : List Kept) (ts : List Ground) → ((x : ℕ) → Among x (names_of kept) → type_in x c ≡ type_in x d) → AreKept f c kept ts → AreKept f d kept ts
  all_kept c d [] [] same all = tt
  all_kept c d [] (t ∷ ts) same all = absurd all
  all_kept c d (k ∷ kept) [] same all = absurd all
  all_kept c d (k ∷ kept) (t ∷ ts) same all = (sym (same k.name used.here) ∙ all.0, all.1, all_kept c d kept ts (λ y among. same y (used.later among)) all.2)

  -- the same is asked under other names
  record IsUnder (c d : Context) (k : Kind) (ts : List Ground) (asked : List Asked) (t : Ground) : Type 0 where
    others : List Asked
    rule : Rule f info d k ts others t
    alike : AreAlike c d (binds k) asked others

  record CasesUnder (c d : Context) (t : Ground) (cases : List CaseForm) (tags : Named Ground) (asked : List Asked) (bs : List (Option ℕ)) (rs ss : List Asked) : Type 0 where
    others : List Asked
    rules : CaseRules d t cases tags others
    alike : AreAlike c d (map case_binds cases ++ bs) (asked ++ rs) (others ++ ss)

  cases_under : {c d : Context} {t : Ground} {cases : List CaseForm} {tags : Named Ground} {asked : List Asked} (bs : List (Option ℕ)) (rs ss : List Asked) → CaseRules c t cases tags asked → AreAlike c d bs rs ss → CasesUnder c d t cases tags asked bs rs ss
  cases_under bs rs ss typed.no_case last = record { others = []; rules = typed.no_case; alike = last }
  cases_under {c = c} {d = d} {t = t} bs rs ss (typed.under_name {x = y} {a = a} rules) last =
      let rest = cases_under bs rs ss rules last in
      record { others = ((y, a) ∷ d, t) ∷ rest.others; rules = typed.under_name rest.rules; alike = one_alike (one_more y a c d) refl rest.alike }
  cases_under {c = c} {d = d} {t = t} bs rs ss (typed.bare rules) last =
      let rest = cases_under bs rs ss rules last in
      record { others = (d, t) ∷ rest.others; rules = typed.bare rest.rules; alike = one_alike (λ x same. same tt) refl rest.alike }

  append_none : (rs : List Asked) → rs ++ [] ≡ rs
  append_none [] = refl
  append_none (r ∷ rs) = ap (λ more. r ∷ more) (append_none rs)

  itself : (c d : Context) (x : ℕ) → (IsFreeOf None x → type_in x c ≡ type_in x d) → type_in x c ≡ type_in x d
  itself c d x same = same tt

  rule_under : {c d : Context} {k : Kind} {ts : List Ground} {asked : List Asked} {t : Ground} → Rule f info c k ts asked t → ((x : ℕ) → Needs k x → type_in x c ≡ type_in x d) → IsUnder c d k ts asked t
  rule_under (typed.operation rule) needs = record { others = []; rule = typed.operation rule; alike = no_more }
  rule_under (typed.name {x = x} is) needs = record { others = []; rule = typed.name (sym (needs x refl) ∙ is); alike = no_more }
  rule_under (typed.function a b e has) needs = record { others = []; rule = typed.function a b e has; alike = no_more }
  rule_under {c = c} {d = d} (typed.lambda {xs = xs} {of = of} a all has) needs = record { others = []; rule = typed.lambda a (all_named c d xs of.env needs all) has; alike = no_more }
  rule_under (typed.call a b e has) needs = record { others = []; rule = typed.call a b e has; alike = no_more }
  rule_under (typed.apply effects) needs = record { others = []; rule = typed.apply effects; alike = no_more }
  rule_under {c = c} {d = d} {t = t} (typed.bind {x = y} {a = a}) needs = record { others = ((y, a) ∷ d, t) ∷ []; rule = typed.bind; alike = one_alike (one_more y a c d) refl no_more }
  rule_under {c = c} {d = d} {t = t} typed.then_next needs = record { others = (d, t) ∷ []; rule = typed.then_next; alike = one_alike (itself c d) refl no_more }
  rule_under {c = c} {d = d} {t = t} typed.choose_if needs = record { others = (d, t) ∷ (d, t) ∷ []; rule = typed.choose_if; alike = one_alike (itself c d) refl (one_alike (itself c d) refl no_more) }
  rule_under {c = c} {d = d} {t = t} typed.choose_and needs = record { others = (d, t) ∷ []; rule = typed.choose_and; alike = one_alike (itself c d) refl no_more }
  rule_under {c = c} {d = d} {t = t} typed.choose_or needs = record { others = (d, t) ∷ []; rule = typed.choose_or; alike = one_alike (itself c d) refl no_more }
  rule_under {c = c} {d = d} {t = t} (typed.choose_where a) needs = record { others = (d, t) ∷ []; rule = typed.choose_where a; alike = one_alike (itself c d) refl no_more }
  rule_under typed.print needs = record { others = []; rule = typed.print; alike = no_more }
  rule_under {c = c} {d = d} (typed.switch {cases = cases} {asked = asked} row rules made) needs =
      let all = cases_under [] [] [] rules no_more in
      record { others = all.others; rule = typed.switch row all.rules made; alike = subst (λ rs. AreAlike c d (map case_binds cases ++ []) rs all.others) (append_none asked) (subst (λ ss. AreAlike c d (map case_binds cases ++ []) (asked ++ []) ss) (append_none all.others) all.alike) }
  rule_under {c = c} {d = d} {t = t} (typed.switch_open {x = y} other row rules made) needs =
      let all = cases_under (Some y ∷ []) (((y, _) ∷ c, t) ∷ []) (((y, _) ∷ d, t) ∷ []) rules (one_alike (one_more y _ c d) refl no_more) in
      record { others = all.others ++ ((y, _) ∷ d, t) ∷ []; rule = typed.switch_open other row all.rules made; alike = all.alike }
  rule_under {c = c} {d = d} {t = t} (typed.for_each {x = y} a b) needs = record { others = ((y, a) ∷ d, t) ∷ []; rule = typed.for_each a b; alike = one_alike (one_more y a c d) refl no_more }
  rule_under (typed.insert a b) needs = record { others = []; rule = typed.insert a b; alike = no_more }
  rule_under {c = c} {d = d} (typed.reach {kept = kept} {of = of} takes a all) needs = record { others = []; rule = typed.reach takes a (all_kept c d kept of.params needs all); alike = no_more }

  mutual
    pub typed_under : {c d : Context} {n : ℕ} {t : Ground} → IsTyped f info c n t → ((x : ℕ) → Uses f x n → type_in x c ≡ type_in x d) → IsTyped f info d n t
    typed_under (typed.node form ts asked is has rule parts tails) same =
        let other = rule_under rule (λ x needs. same x (used.itself form is needs)) in
        typed.node form ts other.others is has other.rule
        (parts_under parts (λ x uses. same x (used.in_part form is uses)))
        (tails_under tails other.alike (λ x uses. same x (used.in_tail form is uses)))

    parts_under : {c d : Context} {ns : List ℕ} {ts : List Ground} → AreTyped f info c ns ts → ((x : ℕ) → UsedIn f x ns → type_in x c ≡ type_in x d) → AreTyped f info d ns ts
    parts_under typed.none same = typed.none
    parts_under (typed.more one rest) same = typed.more (typed_under one (λ x uses. same x (used.first uses))) (parts_under rest (λ x uses. same x (used.others uses)))

    tails_under : {c d : Context} {bs : List (Option ℕ)} {ns : List ℕ} {rs ss : List Asked} → HaveTypes f info ns rs → AreAlike c d bs rs ss → ((x : ℕ) → UsedInTails f x bs ns → type_in x c ≡ type_in x d) → HaveTypes f info ns ss
    tails_under typed.no_tail no_more same = typed.no_tail
    tails_under (typed.tail {n = n} one rest) (one_alike {s = s} told type alike) same =
        typed.tail (subst (λ t. IsTyped f info s.0 n t) type (typed_under one (λ x uses. told x (λ free. same x (used.first_tail free uses))))) (tails_under rest alike (λ x uses. same x (used.other_tails uses)))
