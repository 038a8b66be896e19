-- Names with types by their texts, and by their numbers in a table's list.
use Rattle.std.proofs.Common.{◌≡◌, inl, inr, refl, sym, ap, subst, ◌∙◌, ℕ, true, false, List, [], ◌∷◌, ◌++◌, Option, Some, None, slice_get, if◌then◌else◌}
use Rattle.std.proofs.lemmas.Option.{none-some}
use Rattle.std.proofs.lemmas.Slice.Eq.{bytes_eq-Decides}
use Rattle.std.specs.Cmp.Lexicographic.{slice_cmp}
use Rattle.std.specs.List.Sorted.{IsStrictlySortedBy}
use Rattle.std.specs.Option.{option_map}
use Rattle.std.specs.Ordering.{nat_cmp}
use Rattle.std.specs.Prelude.{bytes_eq, ◌==◌}
use Rattle.lk_ast.specs.declared.expression.Case.{Case}
use Rattle.lk_ast.specs.declared.place.Word.{Word}
use Rattle.lk_code.specs.Parts as code
use Rattle.lk_code.specs.Parts.{Asked, CaseRules, Context, type_in, under_names}
use Rattle.lk_ir.proofs.Lookups.{not_equal}
use Rattle.lk_ir.specs.Uses as used_by
use Rattle.lk_ir.specs.Uses.{Among, IsFreeOf}
use Rattle.lk_ir.specs.declared.nodes.CaseForm.{CaseForm}
use Rattle.lk_ir.specs.declared.nodes.Forms.{Forms}
use Rattle.lk_lower.specs.Lowering.{AreLocals, IsCase, IsLocal, IsMaybeLocal, text_of}
use Rattle.lk_lowered.proofs.Locals.{one_place, same_test}
use Rattle.lk_sound.proofs.Names.{IsAmong}
use Rattle.lk_types.proofs.Parts.{same_some}
use Rattle.lk_types.specs.Rows.{Label}
use Rattle.lk_types.specs.declared.ground.Ground.{Ground}
use Rattle.lk_typing.specs.Names.{Named, named, names_of, types_of}
use Rattle.lk_typing.specs.Typing.{IsHeld}
use Rattle.lk_typing.specs.Typing as typing

-- each of the names by its number, with the same type
pub data AreNamesOf (f : Forms) : Named Ground → Context → Type 0 where
  no_name : AreNamesOf f [] []
  one_name : {k : ℕ} {x : Label} {t : Ground} {names : Named Ground} {c : Context} → IsLocal f k x → AreNamesOf f names c → AreNamesOf f ((x, t) ∷ names) ((k, t) ∷ c)

-- parameters, and what stands around
pub params_under : (f : Forms) (ks : List ℕ) (params : Named Ground) (names : Named Ground) (c : Context) → AreLocals f ks (names_of params) → AreNamesOf f names c → AreNamesOf f (params ++ names) (under_names ks (types_of params) c)
params_under f [] [] names c are alike = alike
params_under f [] (p ∷ params) names c are alike = absurd are
params_under f (k ∷ ks) [] names c are alike = absurd are
params_under f (k ∷ ks) (p ∷ params) names c are alike = one_name are.0 (params_under f ks params names c are.1 alike)

-- one of the numbers stands for one of the texts
pub among_local : (f : Forms) (ks : List ℕ) (xs : List Label) (k : ℕ) (x : Label) → AreLocals f ks xs → IsLocal f k x → Among k ks → IsAmong x xs
among_local f _ [] k x are is used_by.here = absurd are
among_local f _ (y ∷ xs) k x are is used_by.here = inl (same_some (sym are.0 ∙ is))
among_local f _ [] k x are is (used_by.later among) = absurd are
among_local f _ (y ∷ xs) k x are is (used_by.later among) = inr (among_local f _ xs k x are.1 is among)

-- each of the numbers stands for one of them
pub local_of : (f : Forms) (ks : List ℕ) (xs : List Label) (k : ℕ) → AreLocals f ks xs → Among k ks → (x : Label) × IsLocal f k x × IsAmong x xs
local_of f _ [] k are used_by.here = absurd are
local_of f _ (y ∷ xs) k are used_by.here = (y, are.0, inl refl)
local_of f _ [] k are (used_by.later among) = absurd are
local_of f _ (y ∷ xs) k are (used_by.later among) = let rest = local_of f _ xs k are.1 among in (rest.0, rest.1, inr rest.2)

module _ (f : Forms) (rise : IsStrictlySortedBy (slice_cmp nat_cmp) f.locals) where
  -- the context tells what the names tell
  pub named_alike : {names : Named Ground} {c : Context} → AreNamesOf f names c → (k : ℕ) (x : Label) → IsLocal f k x → type_in k c ≡ named x names
  named_alike no_name k x is = refl
  named_alike (one_name {k = j} {x = y} {t = t} {names = names} {c = c} of rest) k x is =
      ap (λ o. if j == k then Some t else o) (named_alike rest k x is) ∙ sym (ap (λ b. if b then Some t else named x names) (same_test f rise j k y x of is))

  -- what stands for nothing has no type
  pub nothing_alike : {names : Named Ground} {c : Context} → AreNamesOf f names c → (k : ℕ) → slice_get f.locals k ≡ None → type_in k c ≡ None
  nothing_alike no_name k is = refl
  nothing_alike (one_name {k = j} {x = y} {t = t} {names = names} {c = c} of rest) k is =
      ap (λ b. if b then Some t else type_in k c) (not_equal j k (λ same. none-some y (sym is ∙ ap (slice_get f.locals) (sym same) ∙ of))) ∙ nothing_alike rest k is

  -- ---- numbers apart

  pub apart_texts : (j k : ℕ) (y x : Label) → IsLocal f j y → IsLocal f k x → IsFreeOf (Some j) k → bytes_eq y x ≡ false
  apart_texts j k y x of is free = same_test f rise j k y x of is ∙ not_equal j k free

  pub apart_numbers : (j k : ℕ) (y x : Label) → IsLocal f j y → IsLocal f k x → bytes_eq y x ≡ false → IsFreeOf (Some j) k
  apart_numbers j k y x of is apart same =
      let text : y ≡ x = same_some (sym of ∙ ap (slice_get f.locals) same ∙ is) in
      let wrong : true ≡ false = sym ((bytes_eq-Decides y x).1 text) ∙ apart in
      cc

  -- one of the texts has its number among these
  pub among_number : (ks : List ℕ) (xs : List Label) (k : ℕ) (x : Label) → AreLocals f ks xs → IsLocal f k x → IsAmong x xs → Among k ks
  among_number ks [] k x are is among = absurd among
  among_number [] (y ∷ xs) k x are is among = absurd are
  among_number (j ∷ ks) (y ∷ xs) k x are is (inl same) = subst (λ i. Among k (i ∷ ks)) (one_place f.locals rise k j x is (are.0 ∙ ap (λ z. Some z) same)) used_by.here
  among_number (j ∷ ks) (y ∷ xs) k x are is (inr among) = used_by.later (among_number ks xs k x are.1 is among)

  pub same_numbers : (ks js : List ℕ) (xs : List Label) → AreLocals f ks xs → AreLocals f js xs → ks ≡ js
  same_numbers [] [] [] are also = refl
  same_numbers [] (j ∷ js) [] are also = absurd also
  same_numbers (k ∷ ks) js [] are also = absurd are
  same_numbers [] js (x ∷ xs) are also = absurd are
  same_numbers (k ∷ ks) [] (x ∷ xs) are also = absurd also
  same_numbers (k ∷ ks) (j ∷ js) (x ∷ xs) are also = (let one : k ≡ j = one_place f.locals rise k j x are.0 also.0 in let rest : ks ≡ js = same_numbers ks js xs are.1 also.1 in λ i. one i ∷ rest i)

-- ---- cases of a switch

-- what a case binds, and its rule before those of others
pub record IsHeldCase (f : Forms) (names : Named Ground) (c : Context) (t a : Ground) (tag : Label) (bound : Named Ground) (form : CaseForm) : Type 0 where
  pub held : Context
  pub alike : AreNamesOf f (bound ++ names) held
  pub rules : (forms : List CaseForm) (tags : Named Ground) (asked : List Asked) → CaseRules c t forms tags asked → CaseRules c t (form ∷ forms) ((tag, a) ∷ tags) ((held, t) ∷ asked)

module _ (f : Forms) (names : Named Ground) (c : Context) (t : Ground) (alike : AreNamesOf f names c) where
  by_name : {a : Ground} {bound : Named Ground} (tag : Label) (number : Option ℕ) (name : Option Word) → IsHeld name a bound → IsMaybeLocal f number (option_map text_of name) → IsHeldCase f names c t a tag bound (record { tag = tag; name = number })
  by_name tag (Some k) _ (typing.under_name {a = a}) is = record { held = (k, a) ∷ c; alike = one_name is alike; rules = λ forms tags asked rules. code.under_name rules }
  by_name tag None _ typing.under_name is = absurd is
  by_name tag (Some k) _ typing.bare is = absurd is
  by_name tag None _ typing.bare is = record { held = c; alike = alike; rules = λ forms tags asked rules. code.bare rules }

  pub held_case : {a : Ground} {bound : Named Ground} (case : Case) (form : CaseForm) → IsCase f case form → IsHeld case.name a bound → IsHeldCase f names c t a case.tag.text bound form
  held_case {a} {bound} case form is held = subst (λ tag. IsHeldCase f names c t a tag bound form) is.tag (by_name form.tag form.name case.name held is.name)
