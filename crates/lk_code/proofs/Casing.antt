-- `switch`: the case of a value's tag goes on with what the tag holds, the last case with the whole value.
use Rattle.std.proofs.Common.{◌≡◌, sym, subst, ℕ, Bool, true, false, List, [], ◌∷◌, ◌++◌, append-nil, map, Option, Some, None, bytes_eq, if◌then◌else◌, inl, inr}
use Rattle.std.proofs.lemmas.Option.{none-some}
use Rattle.std.specs.Prelude.{◌⊎◌}
use Rattle.lk_ast.specs.declared.place.Span.{Span}
use Rattle.lk_ast.specs.declared.value.Value.{Value}
use Rattle.lk_evaluation.specs.Evaluation.{Act, Tail}
use Rattle.lk_fits.proofs.Records.{IsCase, IsOther, tag_found, tag_split}
use Rattle.lk_fits.proofs.Shapes.{unit_of_fits}
use Rattle.lk_fits.specs.Values.{Fits}
use Rattle.lk_ir.specs.Environments.{Env, bind}
use Rattle.lk_ir.specs.LetNormal.{Point, after_unit, in_case, in_cases, switch, under}
use Rattle.lk_ir.specs.Uses as used
use Rattle.lk_ir.specs.Uses.{IsFreeOf, UsedInTails, first_binds, last_binds}
use Rattle.lk_ir.specs.declared.nodes.CaseForm.{CaseForm}
use Rattle.lk_ir.specs.declared.nodes.Forms.{Forms}
use Rattle.lk_operators.specs.Values.{tag_in}
use Rattle.lk_types.specs.Rows.{Label, Row, no_fields}
use Rattle.lk_types.specs.declared.ground.Ground.{Ground}
use Rattle.lk_typing.specs.Names.{Named, named}
use Rattle.lk_typing.specs.Types.{unit, variant_of, with_fields}
use Rattle.lk_code.proofs.Naming.{bound_one}
use Rattle.lk_code.specs.Acting.{ActsWell, FitNames, IsPointOf}
use Rattle.lk_code.specs.Parts as typed
use Rattle.lk_code.specs.Parts.{Asked, CaseRules, Context, HaveTypes, Info, IsTyped}

module _ (IsFun : ℕ → Ground → List Ground → Type 0) (f : Forms) (info : ℕ → Option Info) (c : Context) (names : Env) where
  abbrev Well : Ground → Act Point → Type 0
  Well t a = ActsWell IsFun f info t a

  abbrev pub TailsFit : List (Option ℕ) → List ℕ → Type 0
  TailsFit bs tails = FitNames IsFun (λ y. UsedInTails f y bs tails) c names

  -- ---- tails

  -- a tail that binds no name
  pub plain_point : (bs : List (Option ℕ)) (n : ℕ) (tails : List ℕ) (t : Ground) → ((y : ℕ) → IsFreeOf (first_binds bs) y) → IsTyped f info c n t → TailsFit bs (n ∷ tails) → IsPointOf IsFun f info t (under names n)
  plain_point bs n tails t free one fit = record { context = c; typed = one; names = λ y uses u told. fit y (used.first_tail (free y) uses) u told }

  -- a tail that binds one
  pub bound_point : (x : ℕ) (a : Ground) (v : Value) (bs : List (Option ℕ)) (n : ℕ) (tails : List ℕ) (t : Ground) → IsTyped f info ((x, a) ∷ c) n t → Fits IsFun v a → TailsFit (Some x ∷ bs) (n ∷ tails)
      → IsPointOf IsFun f info t (under (bind x v names) n)
  bound_point x a v bs n tails t one fits fit = record {
    context = (x, a) ∷ c;
    typed = one;
    names = bound_one IsFun (λ y. used.Uses f y n) (λ y. UsedInTails f y (Some x ∷ bs) (n ∷ tails)) x v a c names (λ y free uses. used.first_tail free uses) fits fit;
  }

  -- ---- cases

  abbrev pub all_bind : List CaseForm → Option ℕ → List (Option ℕ)
  all_bind cases last = map (λ (k : CaseForm). k.name) cases ++ last_binds last

  module _ (at : Span) (v held : Value) (l : Label) (t : Ground) (last : Option ℕ) (more : List Asked) where
    abbrev In : List CaseForm → List ℕ → Type 0
    In cases tails = Well t (in_cases at v l held cases last tails names)

    -- the case of a tag that has a type
    pub taken : (a : Ground) (cases : List CaseForm) (tags : Named Ground) (asked : List Asked) → CaseRules c t cases tags asked → (tails : List ℕ) → HaveTypes f info tails (asked ++ more) → TailsFit (all_bind cases last) tails
        → named l tags ≡ Some a → Fits IsFun held a → In cases tails
    taken a _ _ _ typed.no_case tails have fit there fits = absurd (none-some a there)
    taken a _ _ _ (typed.under_name {tag = tag} {x = x} {a = b} {cases = cases} {tags = tags} {asked = asked} rules) _ (typed.tail {n = n} {ns = ns} one rest) fit there fits =
        by_test (bytes_eq tag l) there (λ found. taken a cases tags asked rules ns rest (λ y uses. fit y (used.other_tails uses)) found fits)
      where
        by_test : (test : Bool) → (if test then Some b else named l tags) ≡ Some a → (named l tags ≡ Some a → In cases ns) → Well t (if test then in_case at (Some x) n held names else in_cases at v l held cases last ns names)
        by_test true is later = bound_point x b held (all_bind cases last) n ns t one (subst (Fits IsFun held) (sym (let e : b ≡ a = cc in e)) fits) fit
        by_test false is later = later is
    taken a _ _ _ (typed.bare {tag = tag} {cases = cases} {tags = tags} {asked = asked} rules) _ (typed.tail {n = n} {ns = ns} one rest) fit there fits =
        by_test (bytes_eq tag l) there (λ found. taken a cases tags asked rules ns rest (λ y uses. fit y (used.other_tails uses)) found fits)
      where
        by_test : (test : Bool) → (if test then Some unit else named l tags) ≡ Some a → (named l tags ≡ Some a → In cases ns) → Well t (if test then in_case at None n held names else in_cases at v l held cases last ns names)
        by_test true is later =
            subst (λ b. Well t (after_unit at b (Tail (under names n)))) (sym (unit_of_fits IsFun held (subst (Fits IsFun held) (let e : a ≡ unit = cc in e) fits)))
            (plain_point (None ∷ all_bind cases last) n ns t (λ y. tt) one fit)
        by_test false is later = later is

  -- a tag that has none among them goes to the last case
  pub others : (at : Span) (v held : Value) (l : Label) (t rest : Ground) (x : ℕ) (cases : List CaseForm) (tags : Named Ground) (asked : List Asked) → CaseRules c t cases tags asked
      → (tails : List ℕ) → HaveTypes f info tails (asked ++ ((x, rest) ∷ c, t) ∷ []) → TailsFit (all_bind cases (Some x)) tails
      → named l tags ≡ None → Fits IsFun v rest → Well t (in_cases at v l held cases (Some x) tails names)
  others at v held l t rest x _ _ _ typed.no_case _ (typed.tail {n = n} one typed.no_tail) fit missing fits = bound_point x rest v [] n [] t one fits fit
  others at v held l t rest x _ _ _ (typed.under_name {tag = tag} {x = y} {a = b} {cases = cases} {tags = tags} {asked = asked} rules) _ (typed.tail {n = n} {ns = ns} one behind) fit missing fits =
      by_test (bytes_eq tag l) missing (λ found. others at v held l t rest x cases tags asked rules ns behind (λ z uses. fit z (used.other_tails uses)) found fits)
    where
      by_test : (test : Bool) → (if test then Some b else named l tags) ≡ None → (named l tags ≡ None → Well t (in_cases at v l held cases (Some x) ns names))
          → Well t (if test then in_case at (Some y) n held names else in_cases at v l held cases (Some x) ns names)
      by_test true is later = absurd (none-some b (sym is))
      by_test false is later = later is
  others at v held l t rest x _ _ _ (typed.bare {tag = tag} {cases = cases} {tags = tags} {asked = asked} rules) _ (typed.tail {n = n} {ns = ns} one behind) fit missing fits =
      by_test (bytes_eq tag l) missing (λ found. others at v held l t rest x cases tags asked rules ns behind (λ z uses. fit z (used.other_tails uses)) found fits)
    where
      by_test : (test : Bool) → (if test then Some unit else named l tags) ≡ None → (named l tags ≡ None → Well t (in_cases at v l held cases (Some x) ns names))
          → Well t (if test then in_case at None n held names else in_cases at v l held cases (Some x) ns names)
      by_test true is later = absurd (none-some unit (sym is))
      by_test false is later = later is

  -- ---- the value

  module _ (at : Span) (t : Ground) (cases : List CaseForm) (tags : Named Ground) (asked : List Asked) (tails : List ℕ) (rules : CaseRules c t cases tags asked) (v : Value) where
    found_well : (last : Option ℕ) (more : List Asked) → HaveTypes f info tails (asked ++ more) → TailsFit (all_bind cases last) tails → IsCase IsFun tags v → Well t (switch at v (tag_in v) cases last tails names)
    found_well last more have fit case =
        subst (λ o. Well t (switch at v o cases last tails names)) (sym case.shows)
        (taken at v case.held case.label t last more case.ty cases tags asked rules tails have fit case.there case.fit)

    pub switch_well : (row : Row) → HaveTypes f info tails asked → TailsFit (all_bind cases None) tails → with_fields tags no_fields ≡ Some row → Fits IsFun v (variant_of row) → Well t (switch at v (tag_in v) cases None tails names)
    switch_well row have fit made fits = found_well None [] (subst (HaveTypes f info tails) (sym (append-nil asked)) have) fit (tag_found IsFun tags row v made fits)

    pub open_well : (x : ℕ) (other row : Row) → HaveTypes f info tails (asked ++ ((x, variant_of other) ∷ c, t) ∷ []) → TailsFit (all_bind cases (Some x)) tails → with_fields tags other ≡ Some row
        → Fits IsFun v (variant_of row) → Well t (switch at v (tag_in v) cases (Some x) tails names)
    open_well x other row have fit made fits = by_tag (tag_split IsFun tags other row v made fits)
      where
        by_tag : IsCase IsFun tags v ⊎ IsOther IsFun tags other v → Well t (switch at v (tag_in v) cases (Some x) tails names)
        by_tag (inl case) = found_well (Some x) (((x, variant_of other) ∷ c, t) ∷ []) have fit case
        by_tag (inr rest) =
            subst (λ o. Well t (switch at v o cases (Some x) tails names)) (sym rest.shows)
            (others at v rest.held rest.label t (variant_of other) x cases tags asked rules tails have fit rest.missing rest.fit)
