-- What the readers of forms find, and where they stop.
use Rattle.std.proofs.Common.{◌≡◌, ℕ, Bool, true, false, List, [], ◌∷◌, ◌++◌, Some, None, refl, sym, ◌∙◌, inl, inr, append_assoc}
use Rattle.std.specs.Prelude.{codes, ◌||◌, not}
use Rattle.std.proofs.lemmas.Bool.{cases_Bool}
use Rattle.std.specs.Option.{is_none}
use Rattle.std.proofs.Math.Bool.{or-true}
use Rattle.lk_ast.specs.declared.expression.Case.{Case}
use Rattle.lk_ast.specs.declared.token.Token.{Token}
use Rattle.lk_ast.specs.declared.token.TokenKind.TheVariants.{Sign, Word as A_word}
use Rattle.lk_read.specs.Exact.{Language}
use Rattle.lk_read.specs.Keywords.{is_keyword}
use Rattle.lk_read.specs.Kinds.{IsSign, IsWord, IsName, IsAnyTag, is_name, word_of}
use Rattle.lk_read.specs.Reader.{Reader}
use Rattle.lk_read.proofs.KindLaws.{some_token, a_sign, a_word, a_name, any_tag}
use Rattle.lk_read.proofs.Laws.{Completes, Reads, Grows, Grows-nil, Then, Next, Made, weaken, bind-reads, when-reads, given-reads, give-reads, many-reads, eat-reads, made-reads}
use Rattle.lk_read.proofs.Moves.{moved, cons, after, Close, closed}
use Rattle.lk_grammar.specs.Expressions.{IsExpr, IsForm, IsParams, IsPlace, IsOrder, IsParts, IsBlock, IsChange, IsCases, IsCase}
use Rattle.lk_parts.specs.Parts.{if_form, list_loop, table_loop, where_form, insert_form, change_of, update_form, delete_form, switch_form, query_form, lambda_form, no_cases, case_of, last_case, is_nil, goes_on, some_case}
use Rattle.lk_grammar.specs.Reading.{if_with, list_loop_with, table_loop_with, for_with, where_with, insert_with, change_cond_with, change_with, update_with, delete_with, tag_case_with, last_case_with, case_next, cases_turn, switch_with, query_with, lambda_with, form_with}
use Rattle.lk_parts.specs.declared.part.Cases.{Cases}
use Rattle.lk_parts.specs.declared.part.Change.{Change}
use Rattle.lk_parts.specs.declared.part.Part.{Part}
use Rattle.lk_grammar.proofs.SoundLevels.{expr_begins}
use Rattle.lk_grammar.proofs.SoundNames.{params-reads, place-reads, order-reads}
use Rattle.lk_grammar.proofs.SoundPrimaries.{parts-reads, block-reads}

-- behind `for (x`, and behind `(x <-- t)`
abbrev Behind_for : Token → Token → Token → Language Part
Behind_for k o x w y = IsWord (codes "for") k → IsSign (codes "(") o → IsName x → IsForm (k ∷ o ∷ x ∷ w) y

abbrev Behind_rows : Token → Token → Language Change
Behind_rows x t w y = (o s c : Token) → IsSign (codes "(") o → IsName x → IsSign (codes "<--") s → IsName t → IsSign (codes ")") c → IsChange (o ∷ x ∷ s ∷ t ∷ c ∷ w) y

module _ (expr : Reader Part) (E : Reads expr IsExpr) where
  if-reads : Reads (if_with expr) IsForm
  unfolding if_with
  if-reads = weaken _ IsForm (eat-reads _ _ (a_word (codes "if")) (λ k. eat-reads _ _ (a_sign (codes "(")) (λ o. bind-reads _ _ IsExpr (λ a. Next (IsSign (codes ")")) (λ c. Then IsExpr (λ d. Next (IsWord (codes "else")) (λ l. Made (if_form k a d) IsExpr)))) E (λ a.
      eat-reads _ _ (a_sign (codes ")")) (λ c. bind-reads _ _ IsExpr (λ d. Next (IsWord (codes "else")) (λ l. Made (if_form k a d) IsExpr)) E (λ d. eat-reads _ _ (a_word (codes "else")) (λ l. made-reads expr (if_form k a d) IsExpr E)))))))
      (λ w x h.
      let i = h.after in
      let j = i.after in
      let m = j.snd in
      let p = m.after in
      let q = p.snd in
      moved IsForm (h.is ∙ cons h.t (i.is ∙ cons i.t (j.is ∙ after j.u (m.is ∙ cons m.t (p.is ∙ after p.u q.is))))) q.after.is (IsForm.conditional h.t i.t m.t q.t h.test i.test j.fst m.test p.fst q.test q.after.of))

  list_loop-reads : (k o x : Token) → Reads (list_loop_with expr k x) (Behind_for k o x)
  unfolding list_loop_with
  list_loop-reads k o x = weaken _ (Behind_for k o x) (eat-reads _ _ (a_sign (codes "<-")) (λ s. bind-reads _ _ IsExpr (λ e. Next (IsSign (codes ")")) (λ c. Made (list_loop k x e) IsExpr)) E (λ e. eat-reads _ _ (a_sign (codes ")")) (λ c. made-reads expr (list_loop k x e) IsExpr E))))
      (λ w y h a b n. let i = h.after in let j = i.snd in moved IsForm (cons k (cons o (cons x (h.is ∙ cons h.t (i.is ∙ after i.u j.is))))) j.after.is (IsForm.for_list k o x h.t j.t a b n h.test i.fst j.test j.after.of))

  table_loop-reads : (k o x : Token) → Reads (table_loop_with expr k x) (Behind_for k o x)
  unfolding table_loop_with
  table_loop-reads k o x = weaken _ (Behind_for k o x) (eat-reads _ _ (a_sign (codes "<--")) (λ s. eat-reads _ _ a_name (λ t. eat-reads _ _ (a_sign (codes ")")) (λ c. made-reads expr (table_loop k x t) IsExpr E))))
      (λ w y h a b n. let i = h.after in let j = i.after in moved IsForm (cons k (cons o (cons x (h.is ∙ cons h.t (i.is ∙ cons i.t j.is))))) j.after.is (IsForm.for_table k o x h.t i.t j.t a b n h.test i.test j.test j.after.of))

  for-reads : Reads (for_with expr) IsForm
  unfolding for_with
  for-reads = weaken _ IsForm (eat-reads _ _ (a_word (codes "for")) (λ k. eat-reads _ _ (a_sign (codes "(")) (λ o. eat-reads _ (Behind_for k o) a_name (λ x. when-reads _ _ _ (Behind_for k o x) (list_loop-reads k o x) (table_loop-reads k o x)))))
      (λ w y h. let i = h.after in let j = i.after in moved IsForm (h.is ∙ cons h.t (i.is ∙ cons i.t j.is)) refl (j.after h.test i.test j.test))

  where-reads : Reads (where_with expr) IsForm
  unfolding where_with
  where-reads = weaken _ IsForm (eat-reads _ _ (a_word (codes "where")) (λ k. eat-reads _ _ (a_sign (codes "(")) (λ o. bind-reads _ _ IsExpr (λ a. Next (IsSign (codes ")")) (λ c. Made (where_form k a) IsExpr)) E (λ a. eat-reads _ _ (a_sign (codes ")")) (λ c. made-reads expr (where_form k a) IsExpr E)))))
      (λ w x h. let i = h.after in let j = i.after in let m = j.snd in moved IsForm (h.is ∙ cons h.t (i.is ∙ cons i.t (j.is ∙ after j.u m.is))) m.after.is (IsForm.where_holds h.t i.t m.t h.test i.test j.fst m.test m.after.of))

  insert-reads : Reads (insert_with expr) IsForm
  unfolding insert_with
  insert-reads = weaken _ IsForm (eat-reads _ _ (a_word (codes "insert")) (λ k. eat-reads _ _ a_name (λ t. eat-reads _ _ (a_word (codes "values")) (λ s. made-reads expr (insert_form k t) IsExpr E))))
      (λ w x h. let i = h.after in let j = i.after in moved IsForm (h.is ∙ cons h.t (i.is ∙ cons i.t j.is)) j.after.is (IsForm.insert h.t i.t j.t h.test i.test j.test j.after.of))

  -- ---- changes

  change_cond-reads : (x t : Token) → Reads (change_cond_with expr x t) (Behind_rows x t)
  unfolding change_cond_with
  change_cond-reads x t = weaken _ (Behind_rows x t) (eat-reads _ _ (a_word (codes "where")) (λ h. eat-reads _ _ (a_sign (codes "(")) (λ p. bind-reads _ _ IsExpr (λ a. Close (codes ")") (change_of x t a)) E (λ a. eat-reads _ _ (a_sign (codes ")")) (λ q. give-reads (change_of x t a q))))))
      (λ w y h o s c a b d e f. let i = h.after in let j = i.after in moved IsChange (cons o (cons x (cons s (cons t (cons c (h.is ∙ cons h.t (i.is ∙ cons i.t (closed j)))))))) j.snd.after.1 (IsChange.rows o x s t c h.t i.t j.snd.t a b d e f h.test i.test j.fst j.snd.test))

  pub change-reads : Reads (change_with expr) IsChange
  unfolding change_with
  change-reads = weaken _ IsChange (eat-reads _ _ (a_sign (codes "(")) (λ o. eat-reads _ _ a_name (λ x. eat-reads _ _ (a_sign (codes "<--")) (λ s. eat-reads _ _ a_name (λ t. eat-reads _ (λ c. Behind_rows x t) (a_sign (codes ")")) (λ c. change_cond-reads x t))))))
      (λ w y h. let i = h.after in let j = i.after in let m = j.after in let p = m.after in moved IsChange (h.is ∙ cons h.t (i.is ∙ cons i.t (j.is ∙ cons j.t (m.is ∙ cons m.t p.is)))) refl (p.after h.t j.t p.t h.test i.test j.test m.test p.test))

  update-reads : (n : ℕ) → Reads (update_with expr n) IsForm
  unfolding update_with
  update-reads n = weaken _ IsForm (eat-reads _ _ (a_word (codes "update")) (λ k. bind-reads _ _ IsChange (λ change. Next (IsWord (codes "set")) (λ h. Next (IsSign (codes "(")) (λ o. Then IsParts (λ sets. Close (codes ")") (update_form k change sets))))) change-reads (λ change.
      eat-reads _ _ (a_word (codes "set")) (λ h. eat-reads _ _ (a_sign (codes "(")) (λ o. bind-reads _ _ IsParts (λ sets. Close (codes ")") (update_form k change sets)) (parts-reads expr E n) (λ sets. eat-reads _ _ (a_sign (codes ")")) (λ c. give-reads (update_form k change sets c))))))))
      (λ w x h. let i = h.after in let j = i.snd in let m = j.after in let p = m.after in moved IsForm (h.is ∙ cons h.t (i.is ∙ after i.u (j.is ∙ cons j.t (m.is ∙ cons m.t (closed p))))) p.snd.after.1 (IsForm.update h.t j.t m.t p.snd.t h.test i.fst j.test m.test p.fst p.snd.test))

  delete-reads : Reads (delete_with expr) IsForm
  unfolding delete_with
  delete-reads = weaken _ IsForm (eat-reads _ _ (a_word (codes "delete")) (λ k. made-reads (change_with expr) (delete_form k) IsChange change-reads))
      (λ w x h. moved IsForm (h.is ∙ cons h.t refl) h.after.is (IsForm.delete h.t h.test h.after.of))

  query-reads : (n : ℕ) → Reads (query_with expr n) IsForm
  unfolding query_with
  query-reads n = weaken _ IsForm (eat-reads _ _ (a_word (codes "query")) (λ k. bind-reads _ _ IsOrder (λ keys. Made (query_form k keys) IsBlock) (order-reads n) (λ keys. made-reads _ (query_form k keys) IsBlock (block-reads expr E n))))
      (λ w x h. let i = h.after in moved IsForm (h.is ∙ cons h.t i.is) i.snd.is (IsForm.query h.t h.test i.fst i.snd.of))

  lambda-reads : (n : ℕ) → Reads (lambda_with expr n) IsForm
  unfolding lambda_with
  lambda-reads n = weaken _ IsForm (eat-reads _ _ (a_word (codes "fun")) (λ k. eat-reads _ _ (a_sign (codes "(")) (λ o. bind-reads _ _ IsParams (λ params. Next (IsSign (codes ")")) (λ c. Then IsPlace (λ place. Made (lambda_form k params place) IsBlock))) (params-reads n) (λ params.
      eat-reads _ _ (a_sign (codes ")")) (λ c. bind-reads _ _ IsPlace (λ place. Made (lambda_form k params place) IsBlock) place-reads (λ place. made-reads _ (lambda_form k params place) IsBlock (block-reads expr E n)))))))
      (λ w x h. let i = h.after in let j = i.after in let m = j.snd in let p = m.after in moved IsForm (h.is ∙ cons h.t (i.is ∙ cons i.t (j.is ∙ after j.u (m.is ∙ cons m.t p.is)))) p.snd.is (IsForm.lambda h.t i.t m.t h.test i.test j.fst m.test p.fst p.snd.of))

-- ---- cases

abbrev Behind_case_tag : Token → Language Case
Behind_case_tag t w c = (k : Token) → IsWord (codes "case") k → IsAnyTag t → IsCase (k ∷ t ∷ w) c

abbrev Behind_case : Cases → Language Cases
Behind_case cases w x = (u : List Token) (k : Token) → IsCases u cases → goes_on cases ≡ true → IsWord (codes "case") k → IsCases (u ++ k ∷ w) x

-- all cases of a switch, and what is made of them
pub record IsSwitchBody (make : Cases → Token → Part) (w : List Token) (x : Part) : Type 0 where
  pub v : List Token
  pub d : Token
  pub cases : Cases
  pub is : w ≡ v ++ d ∷ []
  pub of : IsCases v cases
  pub some : some_case cases ≡ true
  pub closes : IsSign (codes "}") d
  pub makes : make cases d ≡ x

abbrev Behind_cases : (Cases → Token → Part) → Cases → Language Part
Behind_cases make cases w x = (v : List Token) → IsCases v cases → IsSwitchBody make (v ++ w) x

abbrev brace_token : Token
brace_token = some_token (Sign (codes "}"))

abbrev arrow_token : Token
arrow_token = some_token (Sign (codes "->"))

abbrev case_token : Token
case_token = some_token (A_word (codes "case"))

abbrev x_token : Token
x_token = some_token (A_word (codes "x"))

or_false : (b c : Bool) → (b || not c) ≡ false → c ≡ true
or_false true c e = absurd cc
or_false false true e = refl
or_false false false e = absurd cc

x_names : IsName x_token
unfolding is_name is_keyword
x_names = refl

-- where no case has come yet, a last one can
closes_later : (make : Cases → Token → Part) (cases : Cases) → some_case cases ≡ false → Completes (Behind_cases make cases) []
closes_later make cases none =
    let b = expr_begins in
    let all : Cases = record { list = cases.list; last = Some (last_case x_token b.value) } in
    record {
      more = (case_token ∷ x_token ∷ arrow_token ∷ b.more) ++ brace_token ∷ [];
      value = make all brace_token;
      whole = λ v q. record {
        v = v ++ case_token ∷ x_token ∷ arrow_token ∷ b.more;
        d = brace_token;
        cases = all;
        is = sym (append_assoc v (case_token ∷ x_token ∷ arrow_token ∷ b.more) (brace_token ∷ []));
        of = IsCases.final_case case_token x_token arrow_token q (or_false (not (is_nil cases.list)) (is_none cases.last) none) refl x_names refl b.whole;
        some = or-true (not (is_nil cases.list));
        closes = refl;
        makes = refl;
      };
    }

closes_now : (make : Cases → Token → Part) (cases : Cases) → some_case cases ≡ true → Completes (Behind_cases make cases) []
closes_now make cases some = record { more = brace_token ∷ []; value = make cases brace_token; whole = λ v q. record { v = v; d = brace_token; cases = cases; is = refl; of = q; some = some; closes = refl; makes = refl } }

closes : (make : Cases → Token → Part) (cases : Cases) → Completes (Behind_cases make cases) []
closes make cases = elim (cases_Bool (some_case cases)) [
  | inl h ↦ closes_now make cases h
  | inr h ↦ closes_later make cases h
]

module _ (expr : Reader Part) (E : Reads expr IsExpr) where
  pub tag_case-reads : (t : Token) → Reads (tag_case_with expr t) (Behind_case_tag t)
  unfolding tag_case_with
  tag_case-reads t = when-reads _ _ _ (Behind_case_tag t)
      (weaken _ (Behind_case_tag t) (eat-reads _ _ (a_sign (codes "(")) (λ o. eat-reads _ _ a_name (λ x. eat-reads _ _ (a_sign (codes ")")) (λ c. eat-reads _ _ (a_sign (codes "->")) (λ a. made-reads expr (case_of t (Some (word_of x))) IsExpr E)))))
      (λ w y h k p q. let i = h.after in let j = i.after in let m = j.after in moved IsCase (cons k (cons t (h.is ∙ cons h.t (i.is ∙ cons i.t (j.is ∙ cons j.t m.is))))) m.after.is (IsCase.named_case k t h.t i.t j.t m.t p q h.test i.test j.test m.test m.after.of)))
      (weaken _ (Behind_case_tag t) (eat-reads _ _ (a_sign (codes "->")) (λ a. made-reads expr (case_of t None) IsExpr E))
      (λ w y h k p q. moved IsCase (cons k (cons t h.is)) h.after.is (IsCase.unit_case k t h.t p q h.test h.after.of)))

  pub last_case-reads : (cases : Cases) → Reads (last_case_with expr cases) (Behind_case cases)
  unfolding last_case_with
  last_case-reads cases = weaken _ (Behind_case cases) (eat-reads _ _ a_name (λ x. eat-reads _ _ (a_sign (codes "->")) (λ a. made-reads expr (λ (e : Part). record { list = cases.list; last = Some (last_case x e) }) IsExpr E)))
      (λ w y h u k q ok p. let i = h.after in moved IsCases (after u (cons k (h.is ∙ cons h.t i.is))) i.after.is (IsCases.final_case k h.t i.t q ok p h.test i.test i.after.of))

  pub cases_turn-reads : (cases : Cases) → Reads (cases_turn expr cases) (Grows IsCases cases)
  unfolding cases_turn
  cases_turn-reads cases = given-reads (Grows IsCases cases) (goes_on cases) _ (record { more = []; value = cases; whole = Grows-nil IsCases cases cases [] refl refl }) (λ ok.
      weaken _ (Grows IsCases cases) (eat-reads _ (λ k. Behind_case cases) (a_word (codes "case")) (λ k. when-reads _ _ _ (Behind_case cases)
      (weaken _ (Behind_case cases) (eat-reads _ _ any_tag (λ t. made-reads (tag_case_with expr t) (λ (c : Case). record { list = cases.list ++ c ∷ []; last = None }) (Behind_case_tag t) (tag_case-reads t)))
      (λ w y h u k q go p. moved IsCases (after u (cons k h.is)) h.after.is (IsCases.next_case q go (h.after.of k p h.test))))
      (last_case-reads cases)))
      (λ w y h u q. moved IsCases (after u h.is) refl (h.after u h.t q ok h.test)))

  switch-reads : (n : ℕ) → Reads (switch_with expr n) IsForm
  unfolding switch_with
  switch-reads n = weaken _ IsForm (eat-reads _ _ (a_word (codes "switch")) (λ k. eat-reads _ _ (a_sign (codes "(")) (λ o. bind-reads _ _ IsExpr (λ e. Next (IsSign (codes ")")) (λ c. Next (IsSign (codes "{")) (λ b. Then (Grows IsCases no_cases) (Behind_cases (switch_form k e))))) E (λ e.
      eat-reads _ _ (a_sign (codes ")")) (λ c. eat-reads _ _ (a_sign (codes "{")) (λ b. bind-reads _ _ (Grows IsCases no_cases) (Behind_cases (switch_form k e)) (many-reads case_next (cases_turn expr) IsCases cases_turn-reads n no_cases) (λ cases.
      given-reads (Behind_cases (switch_form k e) cases) (some_case cases) _ (closes (switch_form k e) cases) (λ some.
      weaken _ (Behind_cases (switch_form k e) cases) (eat-reads _ _ (a_sign (codes "}")) (λ d. give-reads (switch_form k e cases d)))
      (λ w x h v q. record { v = v; d = h.t; cases = cases; is = after v (h.is ∙ cons h.t h.after.0); of = q; some = some; closes = h.test; makes = h.after.1 })))))))))
      (λ w x h.
      let i = h.after in
      let j = i.after in
      let m = j.snd in
      let p = m.after in
      let q = p.after in
      let body = q.snd q.u (q.fst [] IsCases.no_case) in
      moved IsForm (h.is ∙ cons h.t (i.is ∙ cons i.t (j.is ∙ after j.u (m.is ∙ cons m.t (p.is ∙ cons p.t (q.is ∙ body.is)))))) body.makes (IsForm.switch h.t i.t m.t p.t body.d h.test i.test j.fst m.test p.test body.of body.some body.closes))

  pub form-reads : (n : ℕ) → Reads (form_with expr n) IsForm
  unfolding form_with
  form-reads n = when-reads _ _ _ IsForm (if-reads expr E)
      (when-reads _ _ _ IsForm (for-reads expr E)
      (when-reads _ _ _ IsForm (where-reads expr E)
      (when-reads _ _ _ IsForm (insert-reads expr E)
      (when-reads _ _ _ IsForm (update-reads expr E n)
      (when-reads _ _ _ IsForm (delete-reads expr E)
      (when-reads _ _ _ IsForm (switch-reads n)
      (when-reads _ _ _ IsForm (query-reads expr E n) (lambda-reads expr E n))))))))
